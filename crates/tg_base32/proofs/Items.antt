-- Lists of items that are spelled in bits, each item in as many.
use Rattle.std.proofs.Common.{◌≡◌, ℕ, ◌*◌, ◌<◌, List, [], ◌∷◌, ◌++◌, length, refl, sym, ap, ap₂, ◌∙◌, append_assoc, arith}
use Rattle.std.specs.Prelude.{All}
use Rattle.std.specs.List.{flat_map}
use Rattle.std.proofs.lemmas.List.{length-append}
use Rattle.std.proofs.lemmas.List.Elements.{All-head, All-tail}
use Rattle.tg_bytes.specs.Lists.{same_front}

pub length_items : (f : ℕ → List ℕ) (width : ℕ) → ((x : ℕ) → length (f x) ≡ width) → (xs : List ℕ) → length (flat_map f xs) ≡ width * length xs
length_items f width wide [] = omega arith
length_items f width wide (x ∷ xs) =
    omega (arith, length-append (f x) (flat_map f xs), wide x, length_items f width wide xs)

-- what is left after the items is less than one, so the items are known by their bits
pub same_items : (f : ℕ → List ℕ) (width : ℕ) (P : ℕ → Type 0) → ((x : ℕ) → length (f x) ≡ width) → ((x y : ℕ) → P x → P y → f x ≡ f y → x ≡ y) → (xs ys r q : List ℕ) → All P xs → All P ys → length r < width → length q < width → flat_map f xs ++ r ≡ flat_map f ys ++ q → xs ≡ ys
same_items f width P wide known [] [] r q p s lr lq e = refl
same_items f width P wide known [] (y ∷ ys) r q p s lr lq e =
    absurd (omega (arith, ap length e, length-append (f y ++ flat_map f ys) q, length-append (f y) (flat_map f ys), wide y))
same_items f width P wide known (x ∷ xs) [] r q p s lr lq e =
    absurd (omega (arith, ap length e, length-append (f x ++ flat_map f xs) r, length-append (f x) (flat_map f xs), wide x))
same_items f width P wide known (x ∷ xs) (y ∷ ys) r q p s lr lq e =
    let again : f x ++ (flat_map f xs ++ r) ≡ f y ++ (flat_map f ys ++ q) = sym (append_assoc (f x) (flat_map f xs) r) ∙ e ∙ append_assoc (f y) (flat_map f ys) q in
    let h = same_front (f x) (f y) (flat_map f xs ++ r) (flat_map f ys ++ q) (wide x ∙ sym (wide y)) again in
    let first = known x y (All-head P x xs p) (All-head P y ys s) h.0 in
    let others = same_items f width P wide known xs ys r q (All-tail P x xs p) (All-tail P y ys s) lr lq h.1 in
    ap₂ (λ (z : ℕ) (zs : List ℕ). z ∷ zs) first others
