-- Laws of a lane's own part of what happened, and of what stands at a lane.
use Rattle.std.proofs.Common.{◌≡◌, ℕ, zero, suc, ◌<◌, arith, length, Bool, Option, Some, None, true, false, List, [], ◌∷◌, ◌++◌, append-nil, refl, sym, ap, ◌∙◌, eq-eqb, ◌==◌}
use Rattle.std.specs.Prelude.{if◌then◌else◌, slice_get, slice_set}
use Rattle.std.proofs.lemmas.Grind.{flat_map-append}
use Rattle.tg_lanes.specs.History.{Fed, Move, fed_in, has_ended, own_behind, own_from, own_of, since_behind, since_of, was_fed, was_renewed, written_in}

-- ---- a lane's own part

pub own_push : (lane : ℕ) (own : List Fed) (moves : List Move) (move : Move)
    → own_from lane own (moves ++ move ∷ []) ≡ own_behind lane (own_from lane own moves) move
own_push lane own [] move = refl
own_push lane own (m ∷ moves) move = own_push lane (own_behind lane own m) moves move

pub own_here : (lane : ℕ) (moves : List Move) (f : Fed) → own_of lane (moves ++ was_fed lane f ∷ []) ≡ own_of lane moves ++ f ∷ []
own_here lane moves f =
    own_push lane [] moves (was_fed lane f)
    ∙ ap (λ (b : Bool). if b then own_of lane moves ++ f ∷ [] else own_of lane moves) (eq-eqb lane lane refl)

pub own_elsewhere : (lane other : ℕ) (moves : List Move) (f : Fed) → (other == lane) ≡ false
    → own_of lane (moves ++ was_fed other f ∷ []) ≡ own_of lane moves
own_elsewhere lane other moves f apart =
    own_push lane [] moves (was_fed other f) ∙ ap (λ (b : Bool). if b then own_of lane moves ++ f ∷ [] else own_of lane moves) apart

pub own_anew : (lane count : ℕ) (moves : List Move) → own_of lane (moves ++ was_renewed lane count ∷ []) ≡ []
own_anew lane count moves =
    own_push lane [] moves (was_renewed lane count)
    ∙ ap (λ (b : Bool). if b then [] else own_of lane moves) (eq-eqb lane lane refl)

pub own_kept : (lane other count : ℕ) (moves : List Move) → (other == lane) ≡ false
    → own_of lane (moves ++ was_renewed other count ∷ []) ≡ own_of lane moves
own_kept lane other count moves apart =
    own_push lane [] moves (was_renewed other count) ∙ ap (λ (b : Bool). if b then [] else own_of lane moves) apart

pub own_ended : (lane other : ℕ) (moves : List Move) → own_of lane (moves ++ has_ended other ∷ []) ≡ own_of lane moves
own_ended lane other moves = own_push lane [] moves (has_ended other)

-- ---- the count since when

pub since_push : (lane since : ℕ) (moves : List Move) (move : Move)
    → since_of lane since (moves ++ move ∷ []) ≡ since_behind lane (since_of lane since moves) move
since_push lane since [] move = refl
since_push lane since (m ∷ moves) move = since_push lane (since_behind lane since m) moves move

pub since_anew : (lane since count : ℕ) (moves : List Move) → since_of lane since (moves ++ was_renewed lane count ∷ []) ≡ count
since_anew lane since count moves =
    since_push lane since moves (was_renewed lane count)
    ∙ ap (λ (b : Bool). if b then count else since_of lane since moves) (eq-eqb lane lane refl)

pub since_kept : (lane other since count : ℕ) (moves : List Move) → (other == lane) ≡ false
    → since_of lane since (moves ++ was_renewed other count ∷ []) ≡ since_of lane since moves
since_kept lane other since count moves apart =
    since_push lane since moves (was_renewed other count)
    ∙ ap (λ (b : Bool). if b then count else since_of lane since moves) apart

-- ---- sessions by their lanes

pub get_here : {X : Type 0} (xs : List X) (i : ℕ) (x y : X) → slice_get xs i ≡ Some x → slice_get (slice_set xs i y) i ≡ Some y
get_here [] i x y h = cc
get_here (z ∷ xs) zero x y h = refl
get_here (z ∷ xs) (suc i) x y h = get_here xs i x y h

pub get_other : {X : Type 0} (xs : List X) (i j : ℕ) (y : X) → (i ≡ j → ⊥) → slice_get (slice_set xs i y) j ≡ slice_get xs j
get_other [] i j y apart = refl
get_other (z ∷ xs) zero zero y apart = absurd (apart refl)
get_other (z ∷ xs) zero (suc j) y apart = refl
get_other (z ∷ xs) (suc i) zero y apart = refl
get_other (z ∷ xs) (suc i) (suc j) y apart = get_other xs i j y (λ e. apart (ap suc e))

pub differ : (i j : ℕ) → (i == j) ≡ false → i ≡ j → ⊥
differ i j apart e = let same : true ≡ false = sym (eq-eqb i j e) ∙ apart in let none : ⊥ = cc in none

pub get_elsewhere : {X : Type 0} (xs : List X) (i j : ℕ) (y : X) → (i == j) ≡ false → slice_get (slice_set xs i y) j ≡ slice_get xs j
get_elsewhere xs i j y apart = get_other xs i j y (differ i j apart)

pub some_is : {X : Type 0} (x y : X) → Some x ≡ Some y → x ≡ y
some_is x y h = cc

-- what is found where something was set is that
pub got_set : {X : Type 0} (xs : List X) (i : ℕ) (x y : X) → slice_get (slice_set xs i x) i ≡ Some y → x ≡ y
got_set [] i x y h = cc
got_set (z ∷ xs) zero x y h = some_is x y h
got_set (z ∷ xs) (suc i) x y h = got_set xs i x y h

-- ---- a lane that is there

pub get_some : {X : Type 0} (xs : List X) (i : ℕ) → i < length xs → (x : X) × (slice_get xs i ≡ Some x)
get_some [] i h = absurd (let no : ⊥ = omega (arith, h) in no)
get_some (x ∷ xs) zero h = (x, refl)
get_some (x ∷ xs) (suc i) h = get_some xs i (omega (arith, h))

-- ---- one more thing that a lane was fed

pub fed_push : (own : List Fed) (f : Fed) → fed_in (own ++ f ∷ []) ≡ fed_in own ++ f.piece
fed_push own f = flat_map-append (λ (f : Fed). f.piece) own (f ∷ []) ∙ ap (λ (l : List ℕ). fed_in own ++ l) (append-nil f.piece)

pub written_push : (own : List Fed) (f : Fed) → written_in (own ++ f ∷ []) ≡ written_in own ++ f.written
written_push own f =
    flat_map-append (λ (f : Fed). f.written) own (f ∷ []) ∙ ap (λ (l : List ℕ). written_in own ++ l) (append-nil f.written)
