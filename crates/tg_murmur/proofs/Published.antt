-- Published hashes, so that a wrong constant, rotation or order in the definition does not check.
use Rattle.std.proofs.Common.{◌≡◌, codes, refl}
use Rattle.tg_murmur.specs.NameHash.{scrambled1, scrambled2, next_h1, next_h2, with_rest, final_mix, finished, name_hash}

-- two whole blocks and a rest of eleven bytes
pub hash_of_sentence : name_hash (codes "The quick brown fox jumps over the lazy dog") ≡ 0xe34bbc7bbc071b6c
unfolding scrambled1 scrambled2 next_h1 next_h2 with_rest final_mix finished name_hash
hash_of_sentence = refl

-- a rest of one word alone
pub hash_of_hello : name_hash (codes "hello") ≡ 0xcbd8a7b341bd9b02
unfolding scrambled1 scrambled2 next_h1 next_h2 with_rest final_mix finished name_hash
hash_of_hello = refl
