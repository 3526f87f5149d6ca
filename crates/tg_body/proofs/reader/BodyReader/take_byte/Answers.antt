use Rattle.tg_body.proofs.Steps.{byte_steps, byte_stops}
use Rattle.tg_body.proofs.reader.BodyReader.take_byte.Goals as goal

pub returns-in-Some : goal.returns-in-Some
returns-in-Some c =
    byte_steps c.args.self.now c.args.piece.now c.args.byte c.in-Some.first.now c.args.next c.requires c.in-Some.ensures.value c.if-first-byte.true

pub returns-in-Some-2 : goal.returns-in-Some-2
returns-in-Some-2 c =
    byte_stops c.args.self.now c.args.piece.now c.args.byte c.in-Some.first.now c.args.next c.requires c.in-Some.ensures.value c.if-first-byte.false
