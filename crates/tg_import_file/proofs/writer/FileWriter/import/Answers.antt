use Rattle.std.proofs.Common.{◌∙◌, ap}
use Rattle.std.proofs.lemmas.Result.{err_from_is_err_and}
use Rattle.tg_files.specs.Folders.{folder_step}
use Rattle.tg_import_file.proofs.Causes.{keep_cause_on, keeps_file}
use Rattle.tg_import_file.proofs.writer.FileWriter.import.Goals as goal
use Rattle.tg_import_file.specs.Files.{FileWriterState}
use Rattle.tg_tree.specs.Tree.{bytes_of, tree_at}

pub returns-in_err-close_file-clause-cause : goal.returns-in_err-close_file-clause-cause
returns-in_err-close_file-clause-cause g c =
    let p = err_from_is_err_and c.from_residual-in_err-close_file.result c.from_residual-in_err-close_file.ensures.1 in
    let before = c.in_ok-take_file.ensures.taken in
    rw (p.1, p.2)
    (keep_cause_on g.K.Keep.keeper g.met.K.Keep.joins c.kept_sections.ensures.joins c.args.keep.now c.take_file.new.keep c.close_file.new.keep before.bytes before.sections
    c.take_file.new.chunker c.take_file.new.balanced (bytes_of (tree_at (g.F.Folder.folder.tree c.args.folder.now) c.args.path.now)) c.in_err-close_file.field-0.0
    (folder_step g.F.Folder.folder c.args.folder.now c.take_file.new.folder) c.in_ok-take_file.ensures.quiet before.keeps before.taken c.in_err-close_file.ensures.stops)

pub returns-clause-made : goal.returns-clause-made
returns-clause-made g c =
    let size = c.in_ok-take_file.ensures.chunk ∙ ap (λ (w : FileWriterState). w.chunker.size) c.self.view_is in
    let width = c.in_ok-take_file.ensures.width ∙ ap (λ (w : FileWriterState). w.balanced.width) c.self.view_is in
    keeps_file g.K.Keep.keeper g.met.K.Keep.joins c.kept_sections.ensures.joins c.args.keep.now c.take_file.new.keep c.close_file.new.keep
    (bytes_of (tree_at (g.F.Folder.folder.tree c.args.folder.now) c.args.path.now)) c.args.self.now.chunker c.take_file.new.chunker c.args.self.now.balanced
    c.take_file.new.balanced c.in_ok-close_file.field-0 size width c.in_ok-take_file.ensures.taken c.in_ok-close_file.ensures.made
