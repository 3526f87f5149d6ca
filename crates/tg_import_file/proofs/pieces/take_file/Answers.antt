use Rattle.std.proofs.Common.{◌∙◌}
use Rattle.std.proofs.lemmas.Result.{err_from_is_err_and}
use Rattle.tg_files.specs.Folders.{folder_step}
use Rattle.tg_import_file.proofs.Causes.{keep_cause_on}
use Rattle.tg_import_file.proofs.Reading.{reading_begins, reading_next}
use Rattle.tg_import_file.proofs.pieces.take_file.Goals as goal
use Rattle.tg_tree.specs.Tree.{bytes_of, tree_at}

pub loop-n-init : goal.loop-n-init
loop-n-init g c =
    reading_begins g.F.Folder.folder g.K.Keep.keeper g.met.K.Keep.rests c.args.folder.now c.args.keep.now c.args.path.now c.args.chunker.now c.args.balanced.now c.requires.ready

pub loop-n-preserved : goal.loop-n-preserved
loop-n-preserved g c =
    reading_next c.kept_in_order.ensures g.F.Folder.folder g.K.Keep.keeper g.met.K.Keep.joins c.kept_sections.ensures.joins c.args.folder.now c.loop-n.folder c.read_at.new.self
    c.args.keep.now c.loop-n.keep c.take_piece.new.keep c.args.path.now c.args.chunker.now c.loop-n.chunker c.take_piece.new.chunker
    c.args.balanced.now c.loop-n.balanced c.take_piece.new.balanced c.loop-n.offset c.in_ok-n.n c.in_ok-offset.offset c.read_at.new.buf c.loop-n.invariant
    c.in_ok-n.ensures.read c.in_ok-n.ensures.same c.in_ok-n.ensures.quiet c.in_ok-offset.ensures.sum.0 c.in_ok-offset.ensures.sum.1
    c.in_ok-take_piece.ensures.taken c.in_ok-take_piece.ensures.chunk c.in_ok-take_piece.ensures.width

pub returns-in_err-take_piece-clause-cause : goal.returns-in_err-take_piece-clause-cause
returns-in_err-take_piece-clause-cause g c =
    let p = err_from_is_err_and c.from_residual-in_err-take_piece.result c.from_residual-in_err-take_piece.ensures.1 in
    let before = c.loop-n.invariant in
    rw (p.1, p.2)
    (keep_cause_on g.K.Keep.keeper g.met.K.Keep.joins c.kept_sections.ensures.joins c.args.keep.now c.loop-n.keep c.take_piece.new.keep before.bytes before.sections
    c.loop-n.chunker c.loop-n.balanced (bytes_of (tree_at (g.F.Folder.folder.tree c.args.folder.now) c.args.path.now)) c.in_err-take_piece.field-0.0
    (folder_step g.F.Folder.folder c.args.folder.now c.read_at.new.self) (c.in_ok-n.ensures.quiet ∙ before.quiet) before.keeps before.taken c.in_err-take_piece.ensures.stops)
