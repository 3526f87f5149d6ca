-- The last of some values, and the first.
use Rattle.std.proofs.Common.{◌≡◌, ◌≤◌, Option, Some, None, List, [], ◌∷◌, ◌++◌, length, refl, sym, ap, ◌∙◌, arith}
use Rattle.std.specs.Prelude.{unwrap_or}
use Rattle.tg_pbtable.specs.Values.{listed, later}
use Rattle.tg_pbtable.specs.Computed.{first_of}

later_append : {A : Type 0} (o : Option A) (xs ys : List A) → later o (xs ++ ys) ≡ later (later o xs) ys
later_append o [] ys = refl
later_append o (x ∷ xs) ys = later_append (Some x) xs ys

pub later_more : {A : Type 0} (o mid new : Option A) (xs ys zs : List A) → zs ≡ xs ++ ys → mid ≡ later o xs → new ≡ later mid ys → new ≡ later o zs
later_more o mid new xs ys zs e p q = q ∙ ap (λ m. later m ys) p ∙ sym (later_append o xs ys) ∙ ap (later o) (sym e)

pub at_most_one : {A : Type 0} (xs : List A) (o : Option A) → length xs ≤ 1 → o ≡ later None xs → xs ≡ listed o
at_most_one [] o l e = ap listed (sym e)
at_most_one (x ∷ []) o l e = ap listed (sym e)
at_most_one (x ∷ y ∷ xs) o l e = absurd (omega arith)

pub exactly_one : {A : Type 0} (o : A) (xs : List A) (k : A) → length xs ≡ 1 → Some k ≡ later (Some o) xs → xs ≡ k ∷ []
exactly_one o [] k l e = absurd (omega arith)
exactly_one o (x ∷ []) k l e = ap listed (sym e)
exactly_one o (x ∷ y ∷ xs) k l e = absurd (omega arith)

pub first_listed : {A : Type 0} (xs : List A) → length xs ≤ 1 → xs ≡ listed (first_of xs)
first_listed [] l = refl
first_listed (x ∷ []) l = refl
first_listed (x ∷ y ∷ xs) l = absurd (omega arith)

pub first_alone : {A : Type 0} (o : A) (xs : List A) → length xs ≡ 1 → xs ≡ unwrap_or (first_of xs) o ∷ []
first_alone o [] l = absurd (omega arith)
first_alone o (x ∷ []) l = refl
first_alone o (x ∷ y ∷ xs) l = absurd (omega arith)

pub listed_same : {A : Type 0} (a b : Option A) → listed a ≡ listed b → a ≡ b
listed_same None None e = refl
listed_same (Some x) (Some y) e = cc
listed_same None (Some y) e = absurd (cc)
listed_same (Some x) None e = absurd (cc)
