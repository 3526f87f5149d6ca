-- Two numbers in decimal.
use Rattle.std.proofs.Common.{◌≡◌, ◌∷◌, [], ap, arith, ◌∙◌, ◌++◌, List, ℕ}
use Rattle.std.specs.Prelude.{codes, decimal}
use Rattle.std.proofs.lemmas.Fmt.{decimal_digit, decimal_step}

pub ten : decimal 10 ≡ codes "10"
ten = decimal_step 10 (omega arith) (omega arith) ∙ ap (λ (l : List ℕ). l ++ 48 ∷ []) (decimal_digit 1 (omega arith))

pub eleven : decimal 11 ≡ codes "11"
eleven = decimal_step 11 (omega arith) (omega arith) ∙ ap (λ (l : List ℕ). l ++ 49 ∷ []) (decimal_digit 1 (omega arith))
