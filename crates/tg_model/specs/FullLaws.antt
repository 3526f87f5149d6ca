-- Short lists of which all but the last are one number.
use Rattle.std.proofs.Common.{◌≡◌, ◌+◌, ◌≤◌, ℕ, zero, suc, Some, [], ◌∷◌, subst, arith}
use Rattle.std.specs.Prelude.{slice_get}
use Rattle.tg_model.specs.ImportLayout.{AreFull}

-- no numbers are full
pub full_none : (number : ℕ) → AreFull number []
full_none number = record { full = λ i n before e. absurd (omega arith); last = λ i n is e. absurd (omega arith) }

last_one : (number n i m : ℕ) → n ≤ number → i + 1 ≡ 1 → slice_get (n ∷ []) i ≡ Some m → m ≤ number
last_one number n zero m most is e = let same : n ≡ m = cc in subst (λ (k : ℕ). k ≤ number) same most
last_one number n (suc i) m most is e = absurd (omega arith)

-- one number is full where it is at most the number asked for
pub full_one : (number n : ℕ) → n ≤ number → AreFull number (n ∷ [])
full_one number n most =
    record { full = λ i m before e. absurd (omega arith); last = λ i m is e. last_one number n i m most is e }
