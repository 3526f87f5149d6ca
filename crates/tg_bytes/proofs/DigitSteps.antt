-- The digits of a number.
use Rattle.std.proofs.Common.{ℕ, zero, suc, ◌+◌, ◌*◌, ◌^◌, ◌<◌, ◌≤◌, List, [], ◌∷◌, length, get_or, arith, pow-add}
use Rattle.std.proofs.Math.Nat.{pow-le-pow_right}
use Rattle.std.specs.Char.{digit_value}
use Rattle.std.specs.Str.Parse.{AllDigits}

pub digit_at : (bytes : List ℕ) (i : ℕ) → AllDigits 10 bytes → i < length bytes → digit_value (get_or bytes i 0) < 10
digit_at [] i all inside = absurd (omega arith)
digit_at (b ∷ bytes) zero all inside = all.0
digit_at (b ∷ bytes) (suc i) all inside = digit_at bytes i all.1 (omega arith)

-- one more digit stays below the next power
pub digit_more : (number digit at : ℕ) → number < 10 ^ at → digit < 10 → number * 10 + digit < 10 ^ (at + 1)
digit_more number digit at below small = omega (arith, pow-add 10 at 1)

pub below_top : (at : ℕ) → at < 19 → 10 ^ (at + 1) ≤ 10 ^ 19
below_top at h = pow-le-pow_right {n = 10} (omega arith) {j = 19} (omega arith)
