-- Lists that are cut into parts of one length, of which only the last may be shorter, are cut in one way.
use Rattle.std.proofs.Common.{◌≡◌, ◌<◌, ◌≤◌, ℕ, List, [], ◌∷◌, ◌++◌, length, map, refl, sym, ap, ap₂, ◌∙◌, arith}
use Rattle.std.proofs.lemmas.List.{length-append}
use Rattle.std.specs.List.{flat_map}
use Rattle.std.specs.Prelude.{⊤}

-- none is 0, all but the last are this number, and the last is at most it
abbrev pub Fill : ℕ → List ℕ → Type 0
Fill number [] = ⊤
Fill number (n ∷ []) = (0 < n) × (n ≤ number)
Fill number (n ∷ m ∷ ns) = (0 < n) × (n ≡ number) × Fill number (m ∷ ns)

-- two lists that begin lists of one whole, and are equally long, are the same
pub front_same : {A : Type 0} (xs ys us vs : List A) → length xs ≡ length ys → xs ++ us ≡ ys ++ vs
    → (xs ≡ ys) × (us ≡ vs)
front_same [] [] us vs e whole = (refl, whole)
front_same [] (y ∷ ys) us vs e whole = absurd (omega arith)
front_same (x ∷ xs) [] us vs e whole = absurd (omega arith)
front_same (x ∷ xs) (y ∷ ys) us vs e whole =
    let head : x ≡ y = cc in
    let tail : xs ++ us ≡ ys ++ vs = cc in
    let rest = front_same xs ys us vs (omega arith) tail in
    (ap₂ (λ a as_. a ∷ as_) head rest.0, rest.1)

first_some : (number n : ℕ) (ns : List ℕ) → Fill number (n ∷ ns) → 0 < n
first_some number n [] h = h.0
first_some number n (m ∷ ns) h = h.0

-- the first part is as long where the other is the last of its list
last_long : {X A : Type 0} (f : X → List A) (number : ℕ) (x y z : X) (ys : List X)
    → Fill number (map (λ z. length (f z)) (x ∷ [])) → Fill number (map (λ z. length (f z)) (y ∷ z ∷ ys))
    → flat_map f (x ∷ []) ≡ flat_map f (y ∷ z ∷ ys) → ⊥
last_long f number x y z ys h k e =
    let a = length-append (f x) [] in
    let b = length-append (f y) (flat_map f (z ∷ ys)) in
    let b2 = length-append (f z) (flat_map f ys) in
    let c = ap length e in
    let z_some : 0 < length (f z) = first_some number (length (f z)) (map (λ z. length (f z)) ys) k.2 in
    let x_most : length (f x) ≤ number = h.1 in
    let y_is : length (f y) ≡ number = k.1 in
    omega (arith, a, b, b2, c, z_some, x_most, y_is)

-- the first parts are equally long
first_length : {X A : Type 0} (f : X → List A) (number : ℕ) (x y : X) (xs ys : List X)
    → Fill number (map (λ z. length (f z)) (x ∷ xs)) → Fill number (map (λ z. length (f z)) (y ∷ ys))
    → flat_map f (x ∷ xs) ≡ flat_map f (y ∷ ys) → length (f x) ≡ length (f y)
first_length f number x y [] [] h k e =
    let a = length-append (f x) [] in
    let b = length-append (f y) [] in
    let c = ap length e in
    omega (arith, a, b, c)
first_length f number x y [] (z ∷ ys) h k e = absurd (last_long f number x y z ys h k e)
first_length f number x y (z ∷ xs) [] h k e = absurd (last_long f number y x z xs k h (sym e))
first_length f number x y (z ∷ xs) (w ∷ ys) h k e = h.1 ∙ sym k.1

rest_fill : (number n : ℕ) (ns : List ℕ) → Fill number (n ∷ ns) → Fill number ns
rest_fill number n [] h = tt
rest_fill number n (m ∷ ns) h = h.2

not_nothing : {X A : Type 0} (f : X → List A) (number : ℕ) (x : X) (xs : List X)
    → Fill number (map (λ z. length (f z)) (x ∷ xs)) → flat_map f (x ∷ xs) ≡ [] → ⊥
not_nothing f number x xs h e =
    let some : 0 < length (f x) = first_some number (length (f x)) (map (λ z. length (f z)) xs) h in
    let a = length-append (f x) (flat_map f xs) in
    let c = ap length e in
    omega (arith, some, a, c)

-- the parts are the same
pub same_parts : {X A : Type 0} (f : X → List A) (number : ℕ) (xs ys : List X)
    → Fill number (map (λ z. length (f z)) xs) → Fill number (map (λ z. length (f z)) ys)
    → flat_map f xs ≡ flat_map f ys → map f xs ≡ map f ys
same_parts f number [] [] h k e = refl
same_parts f number [] (y ∷ ys) h k e = absurd (not_nothing f number y ys k (sym e))
same_parts f number (x ∷ xs) [] h k e = absurd (not_nothing f number x xs h e)
same_parts f number (x ∷ xs) (y ∷ ys) h k e =
    let even = first_length f number x y xs ys h k e in
    let both = front_same (f x) (f y) (flat_map f xs) (flat_map f ys) even e in
    let rest = same_parts f number xs ys (rest_fill number (length (f x)) (map (λ z. length (f z)) xs) h)
    (rest_fill number (length (f y)) (map (λ z. length (f z)) ys) k) both.1 in
    ap₂ (λ a as_. a ∷ as_) both.0 rest

-- parts that aren't empty are at least as many as are cut
pub at_least : {X A : Type 0} (f : X → List A) (number : ℕ) (xs : List X) → Fill number (map (λ z. length (f z)) xs)
    → length xs ≤ length (flat_map f xs)
at_least f number [] h = omega arith
at_least f number (x ∷ xs) h =
    let some : 0 < length (f x) = first_some number (length (f x)) (map (λ z. length (f z)) xs) h in
    let rest = at_least f number xs (rest_fill number (length (f x)) (map (λ z. length (f z)) xs) h) in
    let a = length-append (f x) (flat_map f xs) in
    omega (arith, some, rest, a)
