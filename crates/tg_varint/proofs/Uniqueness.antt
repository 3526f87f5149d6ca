-- No spelling begins another, and its number is below 2 ^ 63.
use Rattle.std.proofs.Common.{◌≡◌, ℕ, ◌^◌, ◌<◌, ◌≤◌, List, ◌++◌, length, arith}
use Rattle.std.proofs.Math.Nat.{pow-le-pow_right}
use Rattle.tg_varint.specs.GroupLaws.{most_bytes, number_below, one_group}
use Rattle.tg_varint.specs.Varint.{number_of, VarintSpelling}

pub no_front_of_another : (m n : ℕ) (a b x y : List ℕ) → VarintSpelling m a → VarintSpelling n b → a ++ x ≡ b ++ y
    → (a ≡ b) × (m ≡ n)
no_front_of_another m n a b x y v w e = let one = one_group m n a b x y v w e in (one.1, one.0)

pub below_limit : (m : ℕ) (a : List ℕ) → VarintSpelling m a → m < 2 ^ 63
below_limit m a v =
    let power : 128 ^ length a ≤ 128 ^ 9 = pow-le-pow_right (omega arith) (most_bytes m a v) in
    let below : number_of a < 128 ^ length a = number_below a in
    let spells : m ≡ number_of a = v.spells in
    omega arith
