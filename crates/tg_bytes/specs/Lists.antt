-- Lists of bytes and of lists: what two of them have in common, and what stands where.
use Rattle.std.proofs.Common.{◌≡◌, ◌≢◌, ℕ, ◌+◌, ◌-◌, ◌<◌, ◌≤◌, Bool, true, false, List, [], ◌∷◌, ◌++◌, length, take}
use Rattle.std.proofs.Common.{drop, get_or, refl, sym, ap, ap₂, ◌∙◌, append_assoc, arith}
use Rattle.std.specs.Prelude.{All, Contains, bytes_eq, slice_range, ◌||◌}
use Rattle.std.specs.List.{flat_map}
use Rattle.std.specs.List.Sorted.{IsNonDecreasing}
use Rattle.std.proofs.lemmas.List.{append-nil, drop_at, drop_more, get_or_default, take_at}
use Rattle.std.proofs.lemmas.List.Concat.{flat_map-append}
use Rattle.std.proofs.lemmas.List.Elements.{All-cons, All-head, All-nil, All-tail}
use Rattle.std.proofs.lemmas.List.Sorted.{IsNonDecreasingBy-push}
use Rattle.std.proofs.lemmas.Slice.Eq.{bytes_eq-Decides}

-- each number is a byte's
abbrev pub AreBytes : List ℕ → Type 0
AreBytes bytes = All (λ (b : ℕ). b < 256) bytes

-- the lists, one after another
abbrev pub joined : List (List ℕ) → List ℕ
joined lists = flat_map (λ (list : List ℕ). list) lists

-- ---- what two lists have in common

-- of two lists whose fronts are as long, the fronts are the same, and so is what follows
pub same_front : {X : Type 0} (a b x y : List X) → length a ≡ length b → a ++ x ≡ b ++ y → (a ≡ b) × (x ≡ y)
same_front a b x y size e = (
  sym (take_at a x (length a) refl) ∙ ap (take (length a)) e ∙ take_at b y (length a) (sym size),
  sym (drop_at a x (length a) refl) ∙ ap (drop (length a)) e ∙ drop_at b y (length a) (sym size),
)

-- the shorter of two fronts of one list begins the longer one
pub record Longer (a b x y : List ℕ) : Type 0 where
  pub middle : List ℕ
  pub first : b ≡ a ++ middle
  pub rest : x ≡ middle ++ y

pub longer : (a b x y : List ℕ) → a ++ x ≡ b ++ y → length a ≤ length b → Longer a b x y
longer [] b x y e less = record { middle = b; first = refl; rest = e }
longer (n ∷ a) [] x y e less = absurd (omega (arith, less))
longer (n ∷ a) (m ∷ b) x y e less =
    let heads : n ≡ m = cc in
    let tails : a ++ x ≡ b ++ y = cc in
    let behind = longer a b x y tails (omega (arith, less)) in
    record { middle = behind.middle; first = ap₂ (λ (k : ℕ) (l : List ℕ). k ∷ l) (sym heads) behind.first; rest = behind.rest }

-- two lists of one element
pub same_only : (a b : List ℕ) → a ∷ [] ≡ b ∷ [] → a ≡ b
same_only a b e = cc

-- different bytes fail the test
pub other_bytes : (a b : List ℕ) → a ≢ b → bytes_eq a b ≡ false
other_bytes a b differ = go (bytes_eq a b) refl
  where
    go : (test : Bool) → bytes_eq a b ≡ test → bytes_eq a b ≡ false
    go true is = absurd (differ ((bytes_eq-Decides a b).0 is))
    go false is = is

-- ---- what stands where

-- what stands between two others
pub between : (a b c : List ℕ) (start end : ℕ) → start ≡ length a → end ≡ start + length b
    → slice_range (a ++ (b ++ c)) start end ≡ b
between a b c start end s e =
    let size : length b ≡ end - start = omega arith in
    ap (take (end - start)) (drop_at a (b ++ c) start (sym s)) ∙ take_at b c (end - start) size

-- a list from an index on begins with the value there
pub drop_from : {X : Type 0} (xs : List X) (i : ℕ) (x : X) → x ≡ get_or xs i x → i < length xs
    → drop i xs ≡ x ∷ drop (i + 1) xs
drop_from xs i x is within = drop_more xs i x within ∙ ap (λ y. y ∷ drop (i + 1) xs) (sym is)

-- what follows a list of two parts follows the second
pub behind_parts : (a b rest bytes : List ℕ) → bytes ≡ a ++ b → bytes ++ rest ≡ a ++ (b ++ rest)
behind_parts a b rest bytes e = ap (λ (list : List ℕ). list ++ rest) e ∙ append_assoc a b rest

-- what holds of each of a list holds of each of both its parts
pub All-split : {X : Type 0} (P : X → Type 0) (xs ys : List X) → All P (xs ++ ys) → All P xs × All P ys
All-split P [] ys h = (All-nil P, h)
All-split P (x ∷ xs) ys h =
    let rest = All-split P xs ys (All-tail P x (xs ++ ys) h) in
    (All-cons P x xs (All-head P x (xs ++ ys) h) rest.0, rest.1)

-- and of those before its last, and of that
pub All-split_push : {X : Type 0} (P : X → Type 0) (xs : List X) (x : X) → All P (xs ++ x ∷ []) → All P xs × P x
All-split_push P xs x h =
    let parts = All-split P xs (x ∷ []) h in
    (parts.0, All-head P x [] parts.1)

-- what follows a front of bytes are bytes
pub rest_bytes : (a rest : List ℕ) → AreBytes (a ++ rest) → AreBytes rest
rest_bytes a rest are = (All-split (λ (b : ℕ). b < 256) a rest are).1

-- one list more
pub joined_push : (lists : List (List ℕ)) (list : List ℕ) → joined (lists ++ list ∷ []) ≡ joined lists ++ list
joined_push lists list =
    flat_map-append (λ (l : List ℕ). l) lists (list ∷ []) ∙ ap (λ (s : List ℕ). joined lists ++ s) (append-nil list)

-- numbers that don't fall, and one more that is at least the last
pub rises : (numbers : List ℕ) (n : ℕ) → IsNonDecreasing numbers
    → (0 < length numbers → get_or numbers (length numbers - 1) 0 ≤ n)
    → IsNonDecreasing (numbers ++ n ∷ [])
rises numbers n is last = IsNonDecreasingBy-push (λ (x : ℕ). x) numbers n is (λ d p.
    let e : get_or numbers (length numbers - 1) d ≡ get_or numbers (length numbers - 1) 0 = get_or_default numbers (length numbers - 1) d 0 (omega arith) in
    let l = last p in
    omega arith)

-- nothing is in no list
pub none_in : {X : Type 0} (x : X) → Contains [] x → ⊥
none_in x has = absurd (omega (arith, has.1))

-- ---- tests

-- neither of two holds
pub neither : (a b : Bool) → (a || b) ≡ false → (a ≡ false) × (b ≡ false)
neither true b e = absurd (cc)
neither false b e = (refl, e)
