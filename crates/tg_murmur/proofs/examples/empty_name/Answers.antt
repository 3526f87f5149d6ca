use Rattle.std.proofs.Common.{◌≡◌, ℕ, zero, suc, ◌<◌, [], refl, ap, sym, ◌∙◌, arith}
use Rattle.std.specs.Int.{w64, to_be_bytes}
use Rattle.std.specs.Prelude.{slice_index}
use Rattle.tg_murmur.specs.NameHash.{name_hash, with_rest, scrambled1, scrambled2, final_mix, finished}
use Rattle.tg_murmur.proofs.examples.empty_name.Goals as goal

hash_of_none : name_hash [] ≡ 0
unfolding name_hash with_rest scrambled1 scrambled2 final_mix finished
hash_of_none = refl

zeros : (level : ℕ) → level < 8 → slice_index (to_be_bytes w64 0) level ≡ 0
zeros zero l = refl
zeros (suc zero) l = refl
zeros (suc (suc zero)) l = refl
zeros (suc (suc (suc zero))) l = refl
zeros (suc (suc (suc (suc zero)))) l = refl
zeros (suc (suc (suc (suc (suc zero))))) l = refl
zeros (suc (suc (suc (suc (suc (suc zero)))))) l = refl
zeros (suc (suc (suc (suc (suc (suc (suc zero))))))) l = refl
zeros (suc (suc (suc (suc (suc (suc (suc (suc more)))))))) l = absurd (omega (arith, l))

pub returns-clause-hash : goal.returns-clause-hash
returns-clause-hash c = hash_of_none

pub returns-clause-slots : goal.returns-clause-slots
returns-clause-slots c = λ name none.
    c.same_slots.ensures name [] (λ level l. none level l ∙ sym (ap (λ (h : ℕ). slice_index (to_be_bytes w64 h) level) hash_of_none ∙ zeros level l)) ∙ hash_of_none
