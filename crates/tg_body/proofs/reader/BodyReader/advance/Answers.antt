use Rattle.std.proofs.Common.{length, refl}
use Rattle.std.specs.Prelude.{slice_range}
use Rattle.std.proofs.lemmas.Result.{err_from_is_err_and}
use Rattle.tg_body.specs.declared.stage.Step.TheVariants as steps
use Rattle.tg_body.proofs.Advancing.{taken_next, advances_part, advances_end, stops_later, steps_rest, stops_rest}
use Rattle.tg_body.proofs.reader.BodyReader.advance.Goals as goal

pub returns-in_err-taken : goal.returns-in_err-taken
returns-in_err-taken c =
    let p = err_from_is_err_and c.from_residual.result c.from_residual.ensures.1 in
    let at = c.loop-taken.at in
    let piece = c.args.piece.now in
    rw (p.1, p.2) (stops_later c.args.self.now c.loop-taken.self c.step.new.self piece at c.in_err-taken.field-0.0 c.loop-taken.invariant
    (stops_rest c.loop-taken.self c.step.new.self piece (slice_range piece at (length piece)) at c.in_err-taken.field-0.0 refl c.in_err-taken.ensures))

pub loop-taken-preserved : goal.loop-taken-preserved
loop-taken-preserved c =
    let at = c.loop-taken.at in
    let piece = c.args.piece.now in
    taken_next c.args.self.now c.loop-taken.self c.step.new.self piece at c.in_ok-taken.taken c.loop-taken.invariant
    (steps_rest c.loop-taken.self c.step.new.self piece (slice_range piece at (length piece)) at c.in_ok-taken.taken c.in_ok-taken.step steps.Next refl c.in-Next.is
    c.in_ok-taken.ensures)

pub returns-in-Part : goal.returns-in-Part
returns-in-Part c =
    let at = c.loop-taken.at in
    let piece = c.args.piece.now in
    advances_part c.args.self.now c.loop-taken.self c.step.new.self piece at c.in_ok-taken.taken c.loop-taken.invariant
    (steps_rest c.loop-taken.self c.step.new.self piece (slice_range piece at (length piece)) at c.in_ok-taken.taken c.in_ok-taken.step steps.Part refl c.in-Part.is
    c.in_ok-taken.ensures)

pub returns-in-End : goal.returns-in-End
returns-in-End c =
    let at = c.loop-taken.at in
    let piece = c.args.piece.now in
    advances_end c.args.self.now c.loop-taken.self c.step.new.self piece at c.in_ok-taken.taken c.loop-taken.invariant
    (steps_rest c.loop-taken.self c.step.new.self piece (slice_range piece at (length piece)) at c.in_ok-taken.taken c.in_ok-taken.step steps.End refl c.in-End.is
    c.in_ok-taken.ensures)
