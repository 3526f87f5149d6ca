use Rattle.std.proofs.Common.{sym}
use Rattle.std.proofs.lemmas.Result.{err_from_is_err_and}
use Rattle.tg_import_file.proofs.Cuts.{are_none}
use Rattle.tg_node_writing.specs.KeepingSteps.{counted_behind}
use Rattle.tg_import_file.proofs.PieceSteps.{may_go_on, stops_on, taking_begins, taking_cut, taking_ends}
use Rattle.tg_import_file.proofs.pieces.take_piece.Goals as goal

pub loop-rest-init : goal.loop-rest-init
loop-rest-init g c = taking_begins g.K.Keep.keeper g.met.K.Keep.rests c.args.keep.now c.args.chunker.now c.args.balanced.now c.args.piece.now

pub fill_chunk-requires : goal.fill_chunk-requires
fill_chunk-requires g c =
    may_go_on g.K.Keep.keeper c.args.keep.now c.loop-rest.keep c.args.chunker.now c.loop-rest.chunker c.args.balanced.now c.loop-rest.balanced
    c.args.piece.now c.loop-rest.rest.now c.loop-rest.invariant c.requires

pub returns-in_err-n-clause-stops : goal.returns-in_err-n-clause-stops
returns-in_err-n-clause-stops g c =
    let p = err_from_is_err_and c.from_residual.result c.from_residual.ensures.1 in
    rw (p.1, p.2)
    (stops_on g.K.Keep.keeper g.met.K.Keep.joins c.kept_sections.ensures.joins c.args.keep.now c.loop-rest.keep c.fill_chunk.new.keep
    c.args.chunker.now c.loop-rest.chunker c.args.balanced.now c.loop-rest.balanced c.loop-rest.invariant.front c.in_err-n.field-0.0
    c.loop-rest.invariant.takes c.in_err-n.ensures.stops)

pub returns-in_err-n-clause-err_counted : goal.returns-in_err-n-clause-err_counted
returns-in_err-n-clause-err_counted g c =
    let p = err_from_is_err_and c.from_residual.result c.from_residual.ensures.1 in
    let before = c.loop-rest.invariant.takes c.requires.bytes c.requires.kept c.requires.taken in
    rw p.1 (counted_behind _ _ _ before.1.quiet c.in_err-n.ensures.err_counted)

pub loop-rest-preserved : goal.loop-rest-preserved
loop-rest-preserved g c =
    taking_cut g.K.Keep.keeper g.met.K.Keep.joins c.kept_sections.ensures.joins c.args.keep.now c.loop-rest.keep c.fill_chunk.new.keep
    c.args.chunker.now c.loop-rest.chunker c.fill_chunk.new.chunker c.args.balanced.now c.loop-rest.balanced c.fill_chunk.new.balanced
    c.args.piece.now c.loop-rest.rest.now c.in_ok-n.n c.loop-rest.invariant c.in_ok-n.ensures.taken c.in_ok-n.ensures.chunk c.in_ok-n.ensures.width

pub returns-clause-taken : goal.returns-clause-taken
returns-clause-taken g c =
    taking_ends g.K.Keep.keeper c.args.keep.now c.loop-rest.keep c.args.chunker.now c.loop-rest.chunker c.args.balanced.now c.loop-rest.balanced c.args.piece.now
    c.loop-rest.rest.now c.loop-rest.invariant (are_none c.loop-rest.rest.now (sym c.loop-rest-test.ensures))
