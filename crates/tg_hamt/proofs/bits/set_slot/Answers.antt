use Rattle.std.proofs.Common.{◌≡◌, ◌+◌, ◌-◌, ◌*◌, ◌/◌, ◌%◌, ◌^◌, ◌<◌, ℕ, List, length, get_or, ap, ◌∙◌, arith}
use Rattle.std.proofs.Math.Nat.{mod-eq_of_lt}
use Rattle.std.proofs.lemmas.Nat.{pow_below}
use Rattle.tg_hamt.proofs.BitFields.{byte_low, doubled, raised_fits, raised_number, raised_used}
use Rattle.tg_hamt.proofs.bits.set_slot.Goals as goal
use Rattle.tg_model.specs.Reading.{big_endian}

-- what is added to the byte
added : (s : ℕ) → 1 * 2 ^ (s % 8) % 256 ≡ 2 ^ (s % 8)
added s =
    let low : 2 ^ (s % 8) < 2 ^ 8 = pow_below (s % 8) 8 (omega arith) in
    let one : 1 * 2 ^ (s % 8) ≡ 2 ^ (s % 8) = omega arith in
    ap (λ n. n % 256) one ∙ mod-eq_of_lt {n = 2 ^ (s % 8)} {m = 256} low

-- the byte of the slot
place : (bits : List ℕ) (s : ℕ) → length bits ≡ 32 → s < 256 → 31 - s / 8 + s / 8 + 1 ≡ length bits
place bits s size small = omega arith

pub overflow_add-bits : goal.overflow_add-bits
overflow_add-bits c =
    let bits = c.args.bits.now in
    let s = c.args.slot in
    let at = place bits s c.told-bits c.ranges.slot.fits in
    rw (added s) (record { fits = raised_fits (get_or bits (31 - s / 8) 0) (s % 8) (omega arith) (byte_low c.big_endians.ensures.first bits (31 - s / 8) (s / 8) s (s % 8) at (omega arith) c.requires) })

pub returns-clause-used : goal.returns-clause-used
returns-clause-used c =
    let bits = c.args.bits.now in
    let s = c.args.slot in
    rw (added s) (raised_used c.big_endians.ensures.first bits (31 - s / 8) (s / 8) s (s % 8) (place bits s c.told-bits c.ranges.slot.fits) (omega arith) (omega arith) c.requires)

pub returns-clause-below : goal.returns-clause-below
returns-clause-below c =
    let bits = c.args.bits.now in
    let s = c.args.slot in
    rw (added s)
    (rw (raised_number c.big_endians.ensures.first bits (31 - s / 8) (s / 8) s (s % 8) (place bits s c.told-bits c.ranges.slot.fits) (omega arith)) (doubled (big_endian bits) s c.requires))
