use Rattle.std.proofs.Common.{ℕ, ◌-◌, [], length, take, arith, ◌∙◌, subst, append-nil}
use Rattle.std.proofs.lemmas.Slice.{take-put_mid_below}
use Rattle.tg_bytes.specs.ToldLaws.{front_fits, front_more}
use Rattle.tg_streams.specs.Streams.{Took, through}
use Rattle.tg_streams.specs.Joining.{took_took, took_untaken}
use Rattle.tg_streams.proofs.Moves.{on_err}
use Rattle.tg_streams.proofs.sources.read_front.Goals as goal

pub returns-in_err-taken-clause-err_took : goal.returns-in_err-taken-clause-err_took
returns-in_err-taken-clause-err_took g c =
    on_err c.from_residual.result (
      take c.loop-filled.filled c.loop-filled.buffer,
      took_untaken _ g.I.Source.source _ _ _ _ g.met.I.Source.joins c.loop-filled.invariant.took c.in_err-taken.ensures.err_untaken,
    )

pub loop-filled-preserved : goal.loop-filled-preserved
loop-filled-preserved g c =
    let so_far = c.loop-filled.invariant in
    let size = length c.loop-filled.buffer - c.loop-filled.filled in
    let front = front_more c.loop-filled.filled size c.in_ok-taken.taken c.loop-filled.buffer c.take_piece.new.buf so_far.within c.in_ok-taken.ensures.within in
    record {
      within = front_fits c.loop-filled.filled size c.in_ok-taken.taken c.loop-filled.buffer c.take_piece.new.buf so_far.within c.in_ok-taken.ensures.within;
      took = rw front (took_took _ g.I.Source.source _ _ _ (take c.loop-filled.filled c.loop-filled.buffer) (take c.in_ok-taken.taken c.take_piece.new.buf) g.met.I.Source.joins so_far.took c.in_ok-taken.ensures.took);
      quiet = c.in_ok-taken.ensures.quiet ∙ so_far.quiet;
    }

pub returns-then-taken-eq0-clause-took : goal.returns-then-taken-eq0-clause-took
returns-then-taken-eq0-clause-took g c =
    let so_far = c.loop-filled.invariant in
    let source = g.I.Source.source in
    let same = take-put_mid_below c.loop-filled.filled (length c.loop-filled.buffer - c.loop-filled.filled) c.loop-filled.buffer c.take_piece.new.buf c.loop-filled.filled (omega arith) so_far.within in
    let nothing = subst (λ (n : ℕ). Took (take n c.take_piece.new.buf) (through source c.loop-filled.source c.take_piece.new.source)) c.if-taken-eq0.true c.in_ok-taken.ensures.took in
    rw same (rw append-nil at (took_took _ source _ _ _ (take c.loop-filled.filled c.loop-filled.buffer) [] g.met.I.Source.joins so_far.took nothing))
