use Rattle.std.proofs.Common.{ℕ, ◌*◌, ◌%◌, ◌^◌, length, ap, sym}
use Rattle.tg_base32.proofs.Texts.{last_bits, not_zero}
use Rattle.tg_base32.proofs.has_tail.Goals as goal

pub returns-in-Some : goal.returns-in-Some
returns-in-Some c =
    let mask = 1 * 2 ^ (length c.args.text.now % 8 * 5 % 8) % 256 in
    let h = last_bits c.args.text.now c.in-Some.last.now (c.letter_value.result % mask) (sym c.in-Some.ensures.value) c.requires.length_is (ap (λ (n : ℕ). n % mask) c.letter_value.ensures) in
    let z = not_zero (c.letter_value.result % mask) in
    (λ e. h.0 (z.0 e), λ e. z.1 (h.1 e))
