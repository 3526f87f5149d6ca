use Rattle.std.proofs.Common.{ℕ, ◌-◌, ◌/◌, ◌^◌, ◌<◌, subst, arith}
use Rattle.std.proofs.lemmas.Nat.{shr_below}
use Rattle.tg_base32.proofs.Steps.{mask}
use Rattle.tg_base32.proofs.Writing.{one_moves}
use Rattle.tg_base32.proofs.push_letter.Goals as goal

pub letter_for-requires : goal.letter_for-requires
letter_for-requires c = shr_below c.args.held.value 5 (c.args.held.count - 5) (subst (λ (n : ℕ). c.args.held.value < 2 ^ n) (omega arith) c.requires.fits)

pub overflow_cast-held : goal.overflow_cast-held
overflow_cast-held c =
    let h : c.args.held.value / 2 ^ (c.args.held.count - 5) < 2 ^ 5 = shr_below c.args.held.value 5 (c.args.held.count - 5) (subst (λ (n : ℕ). c.args.held.value < 2 ^ n) (omega arith) c.requires.fits) in
    omega arith

pub returns : goal.returns
returns c =
    let count = c.args.held.count - 5 in
    let m = mask c.args.held.value count (omega (arith, c.requires.fewer)) in
    rw (c.in_ok-push.ensures.items, m)
    (one_moves c.args.text.now.items c.args.held c.letter_for.result count (omega arith) c.letter_for.ensures.is_letter c.letter_for.ensures.value)
