use Rattle.std.proofs.Common.{◌<◌, ℕ, List, take, All, subst, arith}
use Rattle.std.proofs.lemmas.List.{take_rest, take-append-drop}
use Rattle.std.proofs.lemmas.List.Elements.{All-from_get_or}
use Rattle.tg_car.specs.Filling.{IsFront}
use Rattle.tg_car.proofs.Openings.{short_size, long_size, zero_size}
use Rattle.tg_car.proofs.head.front_of.Goals as goal

pub returns-in-Ok : goal.returns-in-Ok
returns-in-Ok c =
    let front =
    rw (take_rest c.args.bytes.now c.in-Ok.at) at (c.behind_size.ensures (take c.in-Ok.at c.args.bytes.now) c.in-Ok.ensures.found.1) in
    subst (λ (l : List ℕ). IsFront l c.behind_size.result) (take-append-drop c.in-Ok.at c.args.bytes.now) front

pub returns-in-Err-Short : goal.returns-in-Err-Short
returns-in-Err-Short c =
    let bytes : All (λ b. b < 256) c.args.bytes.now =
    All-from_get_or (λ b. b < 256) c.args.bytes.now 0 (λ i l. omega (arith, c.type_inv.bytes i)) in
    short_size c.text_laws.ensures c.args.bytes.now (c.read.ensures.short.0 cc) bytes

pub returns-in-Err-TooLong : goal.returns-in-Err-TooLong
returns-in-Err-TooLong c = long_size c.text_laws.ensures c.args.bytes.now (c.read.ensures.too_long.0 cc)

pub returns-in-Err-NotShortest : goal.returns-in-Err-NotShortest
returns-in-Err-NotShortest c = zero_size c.text_laws.ensures c.args.bytes.now (c.read.ensures.not_shortest.0 cc)
