-- What is put behind a text in two steps is put in one.
use Rattle.std.specs.Prelude.{ℕ, List, ◌++◌}
use Rattle.std.proofs.Common.{ap, ◌∙◌, append_assoc}
use Rattle.tg_pbtable.specs.Emitted.{Puts}

pub put_both : (P Q R : List ℕ → Type 0) → ((a b : List ℕ) → P a → Q b → R (a ++ b)) → (old mid new : List ℕ)
    → Puts P old mid → Puts Q mid new → Puts R old new
put_both P Q R both old mid new p q = record {
  bytes = p.bytes ++ q.bytes;
  whole = q.whole ∙ ap (λ (t : List ℕ). t ++ q.bytes) p.whole ∙ append_assoc old p.bytes q.bytes;
  spells = both p.bytes q.bytes p.spells q.spells;
}
