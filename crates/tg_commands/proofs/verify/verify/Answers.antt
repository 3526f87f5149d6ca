use Rattle.tg_commands.proofs.VerifySteps.{accepted, not_accepted}
use Rattle.tg_streams.specs.Streams.{into, through}
use Rattle.tg_commands.proofs.verify.verify.Goals as goal

pub returns-in-Ok : goal.returns-in-Ok
returns-in-Ok g c =
    accepted c.args.query.now c.standard.result (through g.I.Source.source c.args.input.now c.verify_car.new.input)
    (into g.O.Sink.sink c.args.out.now c.verify_car.new.out) c.verify_car.result c.standard.ensures c.verify_car.ensures.verifies c.verify_car.ensures.cause
    c.in-Ok.field-0 c.in-Ok.is

pub returns-in-Err : goal.returns-in-Err
returns-in-Err g c =
    not_accepted c.args.query.now c.standard.result (through g.I.Source.source c.args.input.now c.verify_car.new.input)
    (into g.O.Sink.sink c.args.out.now c.verify_car.new.out) c.verify_car.result c.standard.ensures c.verify_car.ensures.verifies c.verify_car.ensures.cause
    c.in-Err.fault c.refusal_of.result c.in-Err.is c.refusal_of.ensures c.verify_car.ensures.own c.verify_car.ensures.fitting
