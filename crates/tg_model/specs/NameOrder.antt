-- Names in the order of their bytes.
use Rattle.std.proofs.Common.{◌≡◌, inl, inr, ⊎_elim, ℕ, ◌<◌, Bool, true, false, List, [], ◌∷◌, refl, ap, ap₂, sym, ◌∙◌}
use Rattle.std.proofs.Common.{arith}
use Rattle.std.specs.Cmp.{nat_cmp_is}
use Rattle.std.specs.Ordering.{is_lt, ordering_then}
use Rattle.std.specs.Prelude.{if◌then◌else◌, nat_lt}
use Rattle.std.specs.declared.cmp.Ordering.{Ordering}
use Rattle.std.specs.declared.cmp.Ordering.TheVariants.{Less, Equal, Greater}
use Rattle.std.proofs.lemmas.Bool.{cases_order, le-ltb, lt-ltb}
use Rattle.tg_bytes.specs.Order.{bytes_cmp}
use Rattle.tg_model.specs.Texts.{is_before}

-- one name comes before another where its bytes do
pub before_is_less : (a b : List ℕ) → is_lt (bytes_cmp a b) ≡ is_before a b
before_is_less [] [] = refl
before_is_less [] (y ∷ b) = refl
before_is_less (x ∷ a) [] = refl
before_is_less (x ∷ a) (y ∷ b) = elim (cases_order x y) [
  | inl same ↦
      let left : is_lt (bytes_cmp a b) ≡ is_lt (bytes_cmp (x ∷ a) (y ∷ b)) = ap (λ (o : Ordering). is_lt (ordering_then o (bytes_cmp a b))) (nat_cmp_is x y Equal same) in
      let right : is_before (x ∷ a) (y ∷ b) ≡ is_before a b =
      ap₂ (λ (p q : Bool). if p then true else (if q then false else is_before a b)) (le-ltb x y (omega (arith, same))) (le-ltb y x (omega (arith, same))) in
      sym left ∙ before_is_less a b ∙ sym right
  | inr other ↦ ⊎_elim
      (λ (lt : x < y).
      let left : true ≡ is_lt (bytes_cmp (x ∷ a) (y ∷ b)) = ap (λ (o : Ordering). is_lt (ordering_then o (bytes_cmp a b))) (nat_cmp_is x y Less lt) in
      let right : is_before (x ∷ a) (y ∷ b) ≡ true = ap (λ (p : Bool). if p then true else (if nat_lt y x then false else is_before a b)) (lt-ltb x y lt) in
      sym left ∙ sym right)
      (λ (gt : y < x).
      let left : false ≡ is_lt (bytes_cmp (x ∷ a) (y ∷ b)) = ap (λ (o : Ordering). is_lt (ordering_then o (bytes_cmp a b))) (nat_cmp_is x y Greater gt) in
      let right : is_before (x ∷ a) (y ∷ b) ≡ false =
      ap₂ (λ (p q : Bool). if p then true else (if q then false else is_before a b)) (le-ltb x y (omega arith)) (lt-ltb y x gt) in
      sym left ∙ sym right)
      other
]

pub before_from_less : (a b : List ℕ) → bytes_cmp a b ≡ Less → is_before a b ≡ true
before_from_less a b less = sym (before_is_less a b) ∙ ap is_lt less
