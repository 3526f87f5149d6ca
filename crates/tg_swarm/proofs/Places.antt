-- Places of lists.
use Rattle.std.proofs.Common.{List, None, Option, Some, [], add-one, ap, arith, drop, length, refl, length-append, suc, sym, zero, ℕ, ◌++◌}
use Rattle.std.proofs.Common.{◌+◌, ◌<◌, ◌∙◌, ◌∷◌, ◌≡◌, ◌≢◌}
use Rattle.std.specs.List.{slice_get}
use Rattle.std.specs.Prelude.{slice_set, ◌≤◌}
use Rattle.tg_swarm.specs.Jobs.{text_count}

pub get_set_same : {X : Type 0} (xs : List X) (i : ℕ) (x : X) → i < length xs → slice_get (slice_set xs i x) i ≡ Some x
get_set_same [] i x h = absurd (omega (arith, h))
get_set_same (y ∷ xs) zero x h = refl
get_set_same (y ∷ xs) (suc i) x h = get_set_same xs i x (omega (arith, h))

pub get_set_other : {X : Type 0} (xs : List X) (i j : ℕ) (x : X) → j ≢ i → slice_get (slice_set xs i x) j ≡ slice_get xs j
get_set_other [] i j x h = refl
get_set_other (y ∷ xs) zero zero x h = absurd (h refl)
get_set_other (y ∷ xs) zero (suc j) x h = refl
get_set_other (y ∷ xs) (suc i) zero x h = refl
get_set_other (y ∷ xs) (suc i) (suc j) x h = get_set_other xs i j x (λ e. h (ap suc e))

-- what stands in a list stands in a longer one
pub get_longer : {X : Type 0} (xs ys : List X) (k : ℕ) (x : X) → slice_get xs k ≡ Some x → slice_get (xs ++ ys) k ≡ Some x
get_longer [] ys k x h = absurd (cc h)
get_longer (y ∷ xs) ys zero x h = h
get_longer (y ∷ xs) ys (suc k) x h = get_longer xs ys k x h

-- with an unfinished one behind
pub get_before : {A : Type 0} (xs : List (Option A)) (k : ℕ) (t : A) → slice_get (xs ++ None ∷ []) k ≡ Some (Some t) → slice_get xs k ≡ Some (Some t)
get_before [] zero t h = absurd (cc h)
get_before [] (suc k) t h = absurd (cc h)
get_before (y ∷ xs) zero t h = h
get_before (y ∷ xs) (suc k) t h = get_before xs k t h

-- how many texts there are
texts_push : (xs : List (Option (List ℕ))) → text_count (xs ++ None ∷ []) ≡ text_count xs
texts_push [] = refl
texts_push (None ∷ xs) = texts_push xs
texts_push (Some t ∷ xs) = ap (λ n. 1 + n) (texts_push xs)

-- the first is taken
pub texts_moved : (xs : List (Option (List ℕ))) (t : List ℕ) → slice_get xs 0 ≡ Some (Some t)
    → 1 + text_count (drop 1 xs ++ None ∷ []) ≡ text_count xs
texts_moved [] t h = absurd (cc h)
texts_moved (None ∷ xs) t h = absurd (cc h)
texts_moved (Some u ∷ xs) t h = ap (λ n. 1 + n) (texts_push xs)

-- one more is there
pub texts_more : (xs : List (Option (List ℕ))) (k : ℕ) (t : List ℕ) → slice_get xs k ≡ Some None
    → text_count (slice_set xs k (Some t)) ≡ 1 + text_count xs
texts_more [] k t h = absurd (cc h)
texts_more (None ∷ xs) zero t h = refl
texts_more (Some u ∷ xs) zero t h = absurd (cc h)
texts_more (None ∷ xs) (suc k) t h = texts_more xs k t h
texts_more (Some u ∷ xs) (suc k) t h = ap (λ n. 1 + n) (texts_more xs k t h)

pub texts_within : (xs : List (Option (List ℕ))) → text_count xs ≤ length xs
texts_within [] = omega arith
texts_within (None ∷ xs) = omega (arith, texts_within xs)
texts_within (Some t ∷ xs) = omega (arith, texts_within xs)

get_left : {X : Type 0} (xs ys : List X) (k : ℕ) → k < length xs → slice_get (xs ++ ys) k ≡ slice_get xs k
get_left [] ys k h = absurd (omega (arith, h))
get_left (x ∷ xs) ys zero h = refl
get_left (x ∷ xs) ys (suc k) h = get_left xs ys k (omega (arith, h))

pub moved_back : {A : Type 0} (xs : List (Option A)) (k : ℕ) → k + 1 < length xs → slice_get (drop 1 xs ++ None ∷ []) k ≡ Some None
    → slice_get xs (k + 1) ≡ Some None
moved_back [] k h at = absurd (omega (arith, h))
moved_back (x ∷ xs) k h at = ap (slice_get (x ∷ xs)) (add-one k) ∙ sym (get_left xs (None ∷ []) k (omega (arith, h))) ∙ at

pub moved_length : {A : Type 0} (xs : List (Option A)) (t : A) → slice_get xs 0 ≡ Some (Some t) → length (drop 1 xs ++ None ∷ []) ≡ length xs
moved_length [] t h = absurd (cc h)
moved_length (x ∷ xs) t h = omega (arith, length-append xs (None ∷ []))

-- the first is taken, and the others move up
pub moved_open : {A : Type 0} (xs : List (Option A)) (k : ℕ) (t : A) → slice_get xs 0 ≡ Some (Some t) → slice_get xs k ≡ Some None
    → (j : ℕ) × (k ≡ 1 + j) × (slice_get (drop 1 xs ++ None ∷ []) j ≡ Some None)
moved_open [] k t first h = absurd (cc first)
moved_open (x ∷ xs) zero t first h = absurd (cc (first, h))
moved_open (x ∷ xs) (suc j) t first h = (j, omega arith, get_longer xs (None ∷ []) j None h)

pub moved_done : {A : Type 0} (xs : List (Option A)) (k : ℕ) (t u : A) → slice_get xs 0 ≡ Some (Some t)
    → slice_get (drop 1 xs ++ None ∷ []) k ≡ Some (Some u)
    → slice_get xs (k + 1) ≡ Some (Some u)
moved_done [] k t u first h = absurd (cc first)
moved_done (x ∷ xs) k t u first h = ap (slice_get (x ∷ xs)) (add-one k) ∙ get_before xs k u h
