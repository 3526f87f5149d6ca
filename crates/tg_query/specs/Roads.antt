-- What a `for` over an iterator that gives a known list has seen, with the iterator's steps known first.
use Rattle.std.proofs.Common.{List, None, Option, Some, get_or, length, map, ◌<◌, ◌≡◌}
use Rattle.std.specs.Iterator.{Yields}
use Rattle.std.proofs.lemmas.Iterator.{YieldsList}
use Rattle.std.proofs.lemmas.Iterator.Consumers.{YieldsList-end, YieldsList-turn}

pub turn_by : {S A B : Type 0} {steps : S → Option A → S → Type 0} {s : S} (v : A → B) (all : List B) (xs : List A) (t : S) (y : Yields steps s xs t)
    → (r : Option A) (u : S) (x : A) → r ≡ Some x → steps t r u → YieldsList steps v s all
    → (length xs < length all) × (v x ≡ get_or all (length xs) (v x))
turn_by v all xs t y r u x is step road = YieldsList-turn road xs t y r u x is step

pub end_by : {S A B : Type 0} {steps : S → Option A → S → Type 0} {s : S} (v : A → B) (all : List B) (xs : List A) (t : S) (y : Yields steps s xs t)
    → (r : Option A) (u : S) → r ≡ None → steps t r u → YieldsList steps v s all → (map v xs ≡ all) × (length xs ≡ length all)
end_by v all xs t y r u is step road = YieldsList-end road xs t y r u is step
