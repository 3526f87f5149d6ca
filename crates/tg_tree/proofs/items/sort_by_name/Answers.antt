use Rattle.std.proofs.Common.{rules}
use Rattle.std.proofs.lemmas.List.Sorted.{answers_always, ranks_by}
use Rattle.std.specs.Cmp.Lexicographic.{nat_list_cmp_total}
use Rattle.tg_tree.specs.declared.items.Item.{Item}
use Rattle.tg_tree.proofs.Names.{rise_from_sorted}
use Rattle.tg_tree.proofs.items.sort_by_name.Goals as goal

pub returns-clause-sorted : goal.returns-clause-sorted
returns-clause-sorted c = c.sort_unstable_by.ensures.sorted _ (ranks_by nat_list_cmp_total (λ (item : Item). item.name)) (answers_always _ _ _ (λ f a r f' k. search rules))

pub returns-clause-rise : goal.returns-clause-rise
returns-clause-rise c = rise_from_sorted c.sort_unstable_by.new.self (returns-clause-sorted c)
