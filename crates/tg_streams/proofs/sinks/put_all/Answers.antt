use Rattle.std.proofs.Common.{◌-◌, ◌≤◌, length, take, drop, arith, ◌∙◌}
use Rattle.std.proofs.lemmas.List.{take_rest, length-drop}
use Rattle.tg_streams.specs.Joining.{put_put, put_unput_front}
use Rattle.tg_streams.proofs.Moves.{take_on, on_err}
use Rattle.tg_streams.proofs.sinks.put_all.Goals as goal

pub returns-in_err-at-clause-err_front : goal.returns-in_err-at-clause-err_front
returns-in_err-at-clause-err_front g c =
    let so_far = c.loop-at.invariant in
    on_err c.from_residual.result
    (put_unput_front _ g.S.Sink.sink _ _ _ c.loop-at.at c.args.bytes.now g.met.S.Sink.joins c.loop-at-test.true so_far.put so_far.quiet
    c.in_err-at.ensures.err_unput c.in_err-at.ensures.err_rose)

pub loop-at-preserved : goal.loop-at-preserved
loop-at-preserved g c =
    let so_far = c.loop-at.invariant in
    let here = take (length c.args.bytes.now - c.loop-at.at) (drop c.loop-at.at c.args.bytes.now) in
    let on = take_on c.loop-at.at c.in_ok-at.field-0 c.args.bytes.now in
    let size = length-drop c.loop-at.at c.args.bytes.now in
    let within : c.in_ok-at.field-0 ≤ length (drop c.loop-at.at c.args.bytes.now) = rw take_rest at c.in_ok-at.ensures.within in
    record {
      within = omega arith;
      put = rw (← on) (put_put _ g.S.Sink.sink _ _ _ (take c.loop-at.at c.args.bytes.now) (take c.in_ok-at.field-0 here) g.met.S.Sink.joins so_far.put c.in_ok-at.ensures.put);
      quiet = c.in_ok-at.ensures.quiet ∙ so_far.quiet;
    }
