use Rattle.std.proofs.Common.{◌≡◌, ◌+◌, ◌-◌, ◌*◌, ◌/◌, ◌^◌, ◌<◌, arith}
use Rattle.tg_base32.specs.Base32.{value_of}
use Rattle.tg_base32.proofs.Texts.{value_below}
use Rattle.tg_base32.proofs.Reading.{stays, goes}
use Rattle.tg_base32.proofs.Steps.{mask, high_below}
use Rattle.tg_base32.proofs.take_letter.Goals as goal

pub returns-then-held-lt3 : goal.returns-then-held-lt3
returns-then-held-lt3 c =
    let x : c.from.result ≡ value_of c.args.letter = omega arith in
    rw x (stays c.args.bytes.now.items c.args.held c.args.letter c.requires.held c.requires.letter c.if-held-lt3.true)

pub overflow_cast-value : goal.overflow_cast-value
overflow_cast-value c =
    let lt : c.from.result < 2 ^ 5 = omega (arith, value_below c.args.letter c.requires.letter) in
    let h : (c.args.held.value * 32 + c.from.result) / 2 ^ (c.args.held.count - 3) < 2 ^ 8 =
    high_below c.args.held.value c.from.result c.args.held.count 5 8 (c.args.held.count - 3) (omega arith) c.requires.held.fits lt in
    omega arith

pub returns : goal.returns
returns c =
    let x : c.from.result ≡ value_of c.args.letter = omega arith in
    let count = c.args.held.count - 3 in
    let m = mask (c.args.held.value * 32 + c.from.result) count (omega (arith, c.requires.held.fewer)) in
    rw (c.in_ok-push.ensures.items, m, x)
    (goes c.args.bytes.now.items c.args.held c.args.letter count c.requires.held c.requires.letter (omega arith))
