-- The sum and the weights of groups that are read one by one.
use Rattle.std.proofs.Common.{◌≡◌, ℕ, suc, ◌+◌, ◌*◌, ◌%◌, ◌^◌, ◌<◌, ◌≤◌, List, [], ◌∷◌, ◌++◌, length, take, ap, ap₂, sym, add-one, ◌∙◌, arith, get_or}
use Rattle.std.proofs.Math.Nat.{pow-suc, pow-le-pow_right, mul-le-mul_right}
use Rattle.std.proofs.lemmas.List.{length-take-le, take_more}
use Rattle.tg_varint.specs.GroupLaws.{number_append}
use Rattle.tg_varint.specs.Varint.{number_of}

-- one group more, read at a place
pub number_more : (bytes : List ℕ) (at number group weight : ℕ) → at < length bytes → number ≡ number_of (take at bytes)
    → weight ≡ 128 ^ at → group ≡ get_or bytes at 0 % 128 → number + group * weight ≡ number_of (take (at + 1) bytes)
number_more bytes at number group weight within so_far heavy low =
    let long : length (take at bytes) ≡ at = length-take-le at bytes (omega arith) in
    let parts : number_of (take (at + 1) bytes) ≡ number_of (take at bytes ++ get_or bytes at 0 ∷ []) =
    ap number_of (take_more bytes at 0 within) in
    let sum : number_of (take at bytes ++ get_or bytes at 0 ∷ [])
    ≡ number_of (take at bytes) + 128 ^ length (take at bytes) * number_of (get_or bytes at 0 ∷ []) =
    number_append (take at bytes) (get_or bytes at 0 ∷ []) in
    let weights : 128 ^ length (take at bytes) ≡ weight = ap (λ k. 128 ^ k) long ∙ sym heavy in
    let product : 128 ^ length (take at bytes) * number_of (get_or bytes at 0 ∷ []) ≡ weight * group =
    ap₂ (λ w g. w * g) weights (omega arith) in
    omega arith

-- the weight of the next group
pub weight_more : (at weight : ℕ) → weight ≡ 128 ^ at → weight * 128 ≡ 128 ^ (at + 1)
weight_more at weight heavy =
    let e : 128 ^ suc at ≡ 128 ^ at * 128 = pow-suc 128 at in
    rw add-one (omega arith)

-- the weights before the ninth group
pub weight_bound : (at weight : ℕ) → at ≤ 8 → weight ≡ 128 ^ at → weight ≤ 2 ^ 56
weight_bound at weight place heavy =
    let above : 128 ^ at ≤ 128 ^ 8 = pow-le-pow_right (omega arith) place in
    omega arith

-- a group more stays below the next weight
pub below_more_weight : (number group weight : ℕ) → number < weight → group < 128 → number + group * weight < weight * 128
below_more_weight number group weight below low =
    let most : group * weight ≤ 127 * weight = mul-le-mul_right weight (omega arith) in
    omega arith
