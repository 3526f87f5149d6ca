use Rattle.std.proofs.Common.{rules}
use Rattle.std.proofs.lemmas.List.Sorted.{answers_always, ranks_by}
use Rattle.std.specs.Cmp.Lexicographic.{nat_list_cmp_total}
use Rattle.tg_dir.proofs.basic.sorted_by_name.Goals as goal
use Rattle.tg_model.specs.declared.kinds.NewEntry.{NewEntry}

pub returns-clause-rises : goal.returns-clause-rises
returns-clause-rises c = c.sort_unstable_by.ensures.sorted _ (ranks_by nat_list_cmp_total (λ (entry : NewEntry). entry.name)) (answers_always _ _ _ (λ f a r f' k. search rules))
