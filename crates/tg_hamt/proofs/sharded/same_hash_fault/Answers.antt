use Rattle.std.proofs.Common.{inl, inr, ◌∙◌, sym, subst, ℕ, List}
use Rattle.tg_hamt.proofs.Directory.{this_way}
use Rattle.tg_hamt.proofs.sharded.same_hash_fault.Goals as goal
use Rattle.tg_hamt.specs.Directories.{IsNamePair}
use Rattle.tg_bytes.specs.OrderLaws.{other_way}

pub returns-then-lt : goal.returns-then-lt
returns-then-lt c = inl (
  this_way c.args.one.now.name c.args.other.now.name (sym c.lt.ensures ∙ c.if-lt.true),
  subst (λ (n : List ℕ). IsNamePair n c.args.other.now.name c.name_pair.result) c.as_slice.ensures
      (subst (λ (n : List ℕ). IsNamePair c.as_slice.result.now n c.name_pair.result) c.as_slice-then-lt.ensures c.name_pair.ensures),
)

pub returns-else-lt : goal.returns-else-lt
returns-else-lt c = inr (
  other_way c.args.one.now.name c.args.other.now.name c.requires (sym c.lt.ensures ∙ c.if-lt.false),
  subst (λ (n : List ℕ). IsNamePair n c.args.one.now.name c.name_pair-else-lt.result) c.as_slice-else-lt.ensures
      (subst (λ (n : List ℕ). IsNamePair c.as_slice-else-lt.result.now n c.name_pair-else-lt.result) c.as_slice-else-lt-2.ensures c.name_pair-else-lt.ensures),
)
