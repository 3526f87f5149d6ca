-- A list that is a front of another, and what follows for lengths, sums and greatest numbers.
use Rattle.std.proofs.Common.{◌≡◌, ℕ, ◌+◌, ◌≤◌, List, [], ◌∷◌, ◌++◌, length, map, sum, refl, sym, ap, ◌∙◌, append_assoc, arith, length-append}
use Rattle.std.proofs.lemmas.Grind.{flat_map-append}
use Rattle.std.proofs.lemmas.List.{append-nil, map-append}
use Rattle.std.proofs.lemmas.List.Sums.{sum_by-append}
use Rattle.std.specs.List.{flat_map}
use Rattle.tg_model.specs.Counts.{greatest}

-- the second list is the first and more
pub record FrontOf {A : Type 0} (front all : List A) : Type 0 where
  pub rest : List A
  pub is : all ≡ front ++ rest

-- ---- fronts

-- nothing is a front of each list
pub front_empty : {A : Type 0} (all : List A) → FrontOf [] all
front_empty all = record { rest = all; is = refl }

-- a list is a front of itself
pub front_whole : {A : Type 0} (all : List A) → FrontOf all all
front_whole all = record { rest = []; is = sym (append-nil all) }

-- a front behind the same list
pub front_behind : {A : Type 0} (before front all : List A) → FrontOf front all → FrontOf (before ++ front) (before ++ all)
front_behind {A = A} before front all f = record { rest = f.rest; is = ap (λ (xs : List A). before ++ xs) f.is ∙ sym (append_assoc before front f.rest) }

-- a front of a list that goes on
pub front_longer : {A : Type 0} (front all more : List A) → FrontOf front all → FrontOf front (all ++ more)
front_longer {A = A} front all more f = record { rest = f.rest ++ more; is = ap (λ (xs : List A). xs ++ more) f.is ∙ append_assoc front f.rest more }

-- the same change of each element
pub front_mapped : {A B : Type 0} (f : A → B) (front all : List A) → FrontOf front all → FrontOf (map f front) (map f all)
front_mapped f front all h = record { rest = map f h.rest; is = ap (map f) h.is ∙ map-append f front h.rest }

-- the lists that the elements give, end to end
pub front_joined : {A B : Type 0} (f : A → List B) (front all : List A) → FrontOf front all → FrontOf (flat_map f front) (flat_map f all)
front_joined f front all h = record { rest = flat_map f h.rest; is = ap (flat_map f) h.is ∙ flat_map-append f front h.rest }

-- ---- numbers of fronts

-- a front isn't longer
pub front-length : {A : Type 0} (front all : List A) → FrontOf front all → length front ≤ length all
front-length {A = A} front all h =
    let longer : length all ≡ length front + length h.rest = ap (length {A = A}) h.is ∙ length-append front h.rest in
    omega arith

-- its sum isn't greater
pub front-sum : (front all : List ℕ) → FrontOf front all → sum front ≤ sum all
front-sum front all h =
    let more : sum all ≡ sum front + sum h.rest = ap sum h.is ∙ sum_by-append (λ n. n) front h.rest in
    omega arith

-- nor is its greatest number
greatest_first : (front rest : List ℕ) → greatest front ≤ greatest (front ++ rest)
greatest_first [] rest = omega arith
greatest_first (n ∷ front) rest = let later = greatest_first front rest in omega arith

pub front-most : (front all : List ℕ) → FrontOf front all → greatest front ≤ greatest all
front-most front all h =
    let same : greatest all ≡ greatest (front ++ h.rest) = ap greatest h.is in
    let within : greatest front ≤ greatest (front ++ h.rest) = greatest_first front h.rest in
    omega arith

-- the greatest number of a list isn't above that of a longer list, where no element has less there
greatest_more : {A : Type 0} (f g : A → ℕ) (front rest : List A) → ((x : A) → f x ≤ g x) → greatest (map f front) ≤ greatest (map g (front ++ rest))
greatest_more f g [] rest h = omega arith
greatest_more f g (x ∷ front) rest h =
    let first : f x ≤ g x = h x in
    let later : greatest (map f front) ≤ greatest (map g (front ++ rest)) = greatest_more f g front rest h in
    omega arith

-- and so of a front
pub front-greatest : {A : Type 0} (f g : A → ℕ) (front all : List A) → ((x : A) → f x ≤ g x) → FrontOf front all → greatest (map f front) ≤ greatest (map g all)
front-greatest {A = A} f g front all h k =
    let same : greatest (map g all) ≡ greatest (map g (front ++ k.rest)) = ap (λ (xs : List A). greatest (map g xs)) k.is in
    let within : greatest (map f front) ≤ greatest (map g (front ++ k.rest)) = greatest_more f g front k.rest h in
    omega arith
