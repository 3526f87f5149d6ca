-- What a contract sees of sources and sinks over std's readers and writers, and that what std knows of their bytes
-- composes.
use Rattle.std.specs.Prelude.{◌≡◌, ℕ, List, [], ◌++◌, Option, Some, None, refl, ⊤}
use Rattle.std.specs.Io.KnownBytes.{Appends, Consumes}
use Rattle.std.proofs.Common.{◌∙◌, ap, sym, append_assoc, append-nil}

-- a source over a reader, and a sink over a writer, with the number of calls that failed
pub record StdSourceState (R : Type 0) : Type 0 where
  pub reader : R
  pub faults : ℕ

pub record StdSinkState (W : Type 0) : Type 0 where
  pub writer : W
  pub faults : ℕ

-- the bytes are told
abbrev pub IsTold : Option (List ℕ) → Type 0
IsTold None = ⊥
IsTold (Some bytes) = ⊤

pub consumes_nothing : (known : Option (List ℕ)) → Consumes known known []
consumes_nothing None = tt
consumes_nothing (Some xs) = refl

pub consumes_joins : (a b c : Option (List ℕ)) (u v : List ℕ) → Consumes a b u → Consumes b c v → Consumes a c (u ++ v)
consumes_joins None b c u v p q = tt
consumes_joins (Some xs) None c u v p q = absurd p
consumes_joins (Some xs) (Some ys) None u v p q = absurd q
consumes_joins (Some xs) (Some ys) (Some zs) u v p q = p ∙ ap (λ rest. u ++ rest) q ∙ sym (append_assoc u v zs)

pub appends_nothing : (known : Option (List ℕ)) → Appends known known []
appends_nothing None = tt
appends_nothing (Some xs) = sym (append-nil xs)

pub appends_joins : (a b c : Option (List ℕ)) (u v : List ℕ) → Appends a b u → Appends b c v → Appends a c (u ++ v)
appends_joins None b c u v p q = tt
appends_joins (Some xs) None c u v p q = absurd p
appends_joins (Some xs) (Some ys) None u v p q = absurd q
appends_joins (Some xs) (Some ys) (Some zs) u v p q = q ∙ ap (λ held. held ++ v) p ∙ append_assoc xs u v

-- a list that grows beside one that stays
pub beside_rests : (grows stays : List ℕ) → (grows ≡ grows ++ []) × (stays ≡ stays)
beside_rests grows stays = (sym (append-nil grows), refl)

pub beside_joins : (a b c x y z u v : List ℕ) → (b ≡ a ++ u) × (y ≡ x) → (c ≡ b ++ v) × (z ≡ y)
    → (c ≡ a ++ (u ++ v)) × (z ≡ x)
beside_joins a b c x y z u v p q = (q.0 ∙ ap (λ held. held ++ v) p.0 ∙ append_assoc a u v, q.1 ∙ p.1)
