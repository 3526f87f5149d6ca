-- Parts of a text that a cursor takes one by one: `Between at behind ahead` says that at `at` these parts are behind,
-- and those are to come.
use Rattle.std.specs.Prelude.{◌≡◌, ℕ, ◌+◌, ◌<◌, ◌≤◌, List, [], ◌∷◌, ◌++◌, length}
use Rattle.std.proofs.Common.{sym, ap, ◌∙◌, append_assoc, arith}
use Rattle.std.proofs.lemmas.List.{append-nil, length-append}

-- the parts are the first of all, and the cursor stands behind them
abbrev pub AreFirst : {X : Type 0} → (ℕ → List X → List X → Type 0) → ℕ → List X → Type 0
AreFirst {X} Between at behind =
    (all : List X) → Between 0 [] all → (ahead : List X) × (all ≡ behind ++ ahead) × Between at behind ahead

pub one_more : {X : Type 0} (Between : ℕ → List X → List X → Type 0) (at next : ℕ) (behind : List X) (part : X)
    → ((ahead : List X) → Between at behind ahead → (more : List X) × (ahead ≡ part ∷ more) × Between next (behind ++ part ∷ []) more)
    → AreFirst Between at behind → AreFirst Between next (behind ++ part ∷ [])
one_more Between at next behind part step h = λ all start.
    let old = h all start in
    let new = step old.0 old.2 in
    (new.0, old.1 ∙ ap (λ t. behind ++ t) new.1 ∙ sym (append_assoc behind (part ∷ []) new.0), new.2)

pub all_taken : {X : Type 0} (Between : ℕ → List X → List X → Type 0) (at : ℕ) (behind : List X)
    → ((ahead : List X) → Between at behind ahead → ahead ≡ []) → AreFirst Between at behind → (all : List X) → Between 0 [] all → behind ≡ all
all_taken Between at behind none h all start =
    let old = h all start in
    sym (old.1 ∙ ap (λ t. behind ++ t) (none old.0 old.2) ∙ append-nil behind)

-- where a part comes there are more parts than none
pub some_part : {X : Type 0} (Between : ℕ → List X → List X → Type 0) (at : ℕ) (behind : List X) (part : X)
    → ((ahead : List X) → Between at behind ahead → (more : List X) × (ahead ≡ part ∷ more)) → AreFirst Between at behind
    → (all : List X) → Between 0 [] all → 0 < length all
some_part Between at behind part step h all start =
    let old = h all start in
    let new = step old.0 old.2 in
    let long : length all ≡ length (behind ++ part ∷ new.0) = ap (λ t. length t) (old.1 ∙ ap (λ t. behind ++ t) new.1) in
    let parts : length (behind ++ part ∷ new.0) ≡ length behind + length (part ∷ new.0) = length-append behind (part ∷ new.0) in
    omega (arith, long, parts)

-- a cursor went from the one place to the other and took no part
pub record PassesNone {X : Type 0} (Between : ℕ → List X → List X → Type 0) (at from : ℕ) : Type 0 where
  pub cursor : (behind : List X) × (ahead : List X) × Between from behind ahead
  pub same : (behind ahead : List X) → Between at behind ahead → Between from behind ahead
  pub forward : at ≤ from

pub one_passed : {X : Type 0} (Between : ℕ → List X → List X → Type 0) (at from next : ℕ)
    → ((behind ahead : List X) → Between from behind ahead → Between next behind ahead) → from ≤ next
    → PassesNone Between at from → PassesNone Between at next
one_passed Between at from next step up h =
    let behind = h.cursor.0 in
    let ahead = h.cursor.1 in
    record {
      cursor = (behind, ahead, step behind ahead h.cursor.2);
      same = λ behind ahead between. step behind ahead (h.same behind ahead between);
      forward = omega (arith, up, h.forward);
    }
