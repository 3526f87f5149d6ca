use Rattle.std.proofs.Common.{[], List, ap, refl, ◌∙◌}
use Rattle.std.proofs.lemmas.Result.{err_from_is_err_and}
use Rattle.tg_cid.specs.Cid.{CidParts}
use Rattle.tg_import.proofs.DirectoryRoots.{root_plain}
use Rattle.tg_import.proofs.Causes.{memory_cause}
use Rattle.tg_import.proofs.importing.import.Goals as goal
use Rattle.tg_import.specs.Counting.{nothing}
use Rattle.tg_import.specs.Refused.{RefusesFolder, max_levels}
use Rattle.tg_import.specs.declared.fault.ImportFault.{ImportFault}
use Rattle.tg_model.specs.Dag.{Section}

pub returns-clause-plain : goal.returns-clause-plain
returns-clause-plain g c =
    let made = c.in_ok-made.ensures.imported in
    let root = root_plain made.d made.kept.imported.sound.whole made.kept.imported.plain in
    (ap (λ (cid : CidParts). cid.version) made.cid ∙ root.0, c.in_ok-made.ensures.directory, ap (λ (cid : CidParts). cid.hash) made.cid ∙ root.1)

pub returns-in_err-importer-clause-cause : goal.returns-in_err-importer-clause-cause
returns-in_err-importer-clause-cause g c =
    let p = err_from_is_err_and c.from_residual.result c.from_residual.ensures.1 in
    rw (p.1, p.2)
    (memory_cause g.K.Keep.keeper g.F.Folder.folder g.met.K.Keep.rests c.args.keep.now c.args.folder.now c.args.folder.now
    (λ (kept : List Section) (fault : ImportFault). RefusesFolder max_levels c.args.options (g.F.Folder.folder.tree c.args.folder.now) [] nothing kept fault) refl)
