use Rattle.std.proofs.Common.{rules, subst, List}
use Rattle.std.specs.List.Sorted.{IsPermutation}
use Rattle.std.proofs.lemmas.List.Sorted.{IsNonDecreasingBy-from_sort_by_key}
use Rattle.tg_hamt.proofs.order.ordered.Goals as goal
use Rattle.tg_hamt.specs.Order.{hash_of}
use Rattle.tg_hamt.specs.declared.order.Hashed.{Hashed}

pub returns : goal.returns
returns c = record {
  all = subst (λ (items : List Hashed). IsPermutation items c.sort_unstable_by_key.new.self.items) c.in_ok-order.ensures c.sort_unstable_by_key.ensures.permutation;
  sorted = IsNonDecreasingBy-from_sort_by_key hash_of _ c.sort_unstable_by_key.ensures.sorted (λ a r q k. search rules);
}
