-- Eight big-endian bytes are told by their bytes, and tell the number below 2 ^ 64 that they are of.
use Rattle.std.proofs.Common.{◌≡◌, ℕ, ◌^◌, ◌<◌, List, length, refl, ap, sym, ◌∙◌, arith}
use Rattle.std.specs.Int.{w64, to_be_bytes, from_be_bytes}
use Rattle.std.proofs.lemmas.Grind.{same_number_lists}
use Rattle.std.proofs.lemmas.Nat.{from_be_bytes-to_be_bytes_8}
use Rattle.tg_murmur.specs.NameHash.{name_hash, finished}
use Rattle.tg_murmur.proofs.laws.same_slots.Goals as goal

below : (name : List ℕ) → name_hash name < 2 ^ 64
unfolding name_hash finished
below name = omega arith

long : (n : ℕ) → length (to_be_bytes w64 n) ≡ 8
long n = refl

pub returns : goal.returns
returns c = λ a b same.
    let m = name_hash a in
    let n = name_hash b in
    let bytes : to_be_bytes w64 m ≡ to_be_bytes w64 n =
    same_number_lists (to_be_bytes w64 m) (to_be_bytes w64 n) (long m ∙ sym (long n)) (λ k l. same k (omega (arith, long m))) in
    sym (from_be_bytes-to_be_bytes_8 m (below a)) ∙ (ap (from_be_bytes w64) bytes ∙ from_be_bytes-to_be_bytes_8 n (below b))
