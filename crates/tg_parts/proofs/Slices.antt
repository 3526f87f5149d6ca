-- The slices of bytes by parts.
use Rattle.std.proofs.Common.{List, Some, [], add-mul, ap, ap₂, append-nil, arith, div-add-mod', drop, inl, inr, length, min, one-mul, refl, suc, suc-mul, sym, take, zero, zero-mul, ℕ, ◌*◌, ◌++◌, ◌+◌, ◌-◌, ◌<◌, ◌∙◌, ◌≡◌, ◌≤◌}
use Rattle.std.proofs.lemmas.Bool.{cases_lt}
use Rattle.std.proofs.lemmas.List.{drop-take, drop_all, take-append-drop, take-take, take_all, take_min}
use Rattle.std.proofs.lemmas.Nat.{mod_below}
use Rattle.tg_model.specs.ByteRanges.{high_of, slice_of}
use Rattle.tg_parts.specs.PartLaws.{AllSlicesJoin, SlicesJoin}
use Rattle.tg_parts.specs.Parts.{part_count, part_span}

-- the first bytes and those behind them
front_behind : (a b : ℕ) (bytes : List ℕ) → take a bytes ++ take b (drop a bytes) ≡ take (a + b) bytes
front_behind a b bytes =
    ap₂ (λ (x y : List ℕ). x ++ y) (sym (take-take a (a + b) bytes (omega arith))) (sym (drop-take a b bytes))
    ∙ take-append-drop a (take (a + b) bytes)

-- the byte behind a part
part_high : (high total : ℕ) → 0 < high → min (min high total - 1 + 1) total ≡ min high total
part_high high total h = omega (arith, h)

none_of_none : (n : ℕ) → take n [] ≡ (let none : List ℕ = [] in none)
none_of_none zero = refl
none_of_none (suc n) = refl

-- a part that begins behind the end
past_end : (low high n : ℕ) (bytes : List ℕ) → length bytes ≤ low → low ≤ high
    → take low bytes ++ take n (drop low bytes) ≡ take high bytes
past_end low high n bytes past le =
    ap₂ (λ (x y : List ℕ). x ++ take n y) (take_all low bytes past) (drop_all low bytes past)
    ∙ ap (λ (x : List ℕ). bytes ++ x) (none_of_none n)
    ∙ append-nil bytes
    ∙ sym (take_all high bytes (omega (arith, past, le)))

-- a part that begins before it
within_end : (low high : ℕ) (bytes : List ℕ) → low ≤ length bytes → low ≤ high
    → take low bytes ++ take (min high (length bytes) - low) (drop low bytes) ≡ take high bytes
within_end low high bytes within le =
    let sum : low + (min high (length bytes) - low) ≡ min high (length bytes) = omega (arith, within, le) in
    front_behind low (min high (length bytes) - low) bytes ∙ ap (λ (n : ℕ). take n bytes) sum ∙ take_min high bytes

-- a part, behind those before it
one_part : (low high : ℕ) (bytes : List ℕ) → low ≤ high → 0 < high
    → take low bytes ++ take (high_of (Some (min high (length bytes) - 1)) (length bytes) - low) (drop low bytes) ≡ take high bytes
one_part low high bytes le some =
    ap (λ (n : ℕ). take low bytes ++ take (n - low) (drop low bytes)) (part_high high (length bytes) some)
    ∙ elim (cases_lt (length bytes) low) [
      | inl past ↦ past_end low high (min high (length bytes) - low) bytes (omega (arith, past)) le
      | inr within ↦ within_end low high bytes within le
    ]

-- where the next part begins
next_low : (n size : ℕ) → (n + 1) * size ≡ n * size + size
next_low n size = add-mul n 1 size ∙ ap (λ (m : ℕ). n * size + m) (one-mul size)

pub slices_join : SlicesJoin
slices_join size zero bytes some = sym (ap (λ (n : ℕ). take n bytes) (zero-mul size))
slices_join size (suc n) bytes some =
    ap (λ (x : List ℕ). x ++ slice_of bytes (part_span size (length bytes) n)) (slices_join size n bytes some)
    ∙ one_part (n * size) ((n + 1) * size) bytes (omega (arith, next_low n size)) (omega (arith, next_low n size, some))
    ∙ ap (λ (m : ℕ). take m bytes) (next_low n size ∙ sym (suc-mul n size))

-- all parts reach the end
pub enough : (size total : ℕ) → 0 < size → total ≤ part_count size total * size
enough size total some = omega (arith, div-add-mod' (total + (size - 1)) size, mod_below (total + (size - 1)) size some, some)

pub all_slices_join : AllSlicesJoin
all_slices_join size bytes some =
    slices_join size (part_count size (length bytes)) bytes some
    ∙ take_all (part_count size (length bytes) * size) bytes (enough size (length bytes) some)
