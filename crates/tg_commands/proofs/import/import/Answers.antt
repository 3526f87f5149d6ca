use Rattle.std.proofs.Common.{Option, Some, sym, ◌∙◌, subst}
use Rattle.tg_commands.proofs.ImportSteps.{folder_first}
use Rattle.tg_commands.specs.Imports.{ImportAnswers}
use Rattle.tg_commands.specs.Lines.{end_of}
use Rattle.tg_commands.specs.Files.{files_between}
use Rattle.tg_streams.specs.Streams.{into}
use Rattle.tg_commands.proofs.import.import.Goals as goal

pub returns-clause-ends : goal.returns-clause-ends
returns-clause-ends g c =
    let fm = g.F.Folder.folder in
    let m = g.P.Pack.pack in
    let f = c.args.folder.now in
    let h = c.import_into-back.new.folder in
    let parts = c.args.asked.now in
    let out = into g.O.Sink.sink c.args.out.now c.import_into-back.new.out in
    let end = end_of c.import_into-back.result.1 in
    let ends = folder_first fm m f c.attach.new.self h (Some c.in-Some.attached) (Some c.import_into-back.result.0) parts c.in-Ok.ensures.quiet out end c.import_into-back.ensures in
    let here = subst (λ (pack : Option g.row.P.Denot). ImportAnswers parts (files_between fm m f h pack (Some c.import_into-back.result.0)) out end)
    (sym c.in-Some.is ∙ c.take.ensures.value) ends in
    subst (λ (pack : Option g.row.P.Denot). ImportAnswers parts (files_between fm m f h c.args.pack.now pack) out end) (sym c.replace.ensures.after) here
