use Rattle.std.proofs.Common.{Err, subst, sym}
use Rattle.tg_export.proofs.Attached.{attached_store, exported_else, refused_else}
use Rattle.tg_export.specs.Packed.{IsExportedElse}
use Rattle.tg_export.specs.declared.fault.ExportFault.{ExportFault}
use Rattle.tg_files.specs.Packs.{pack_step}
use Rattle.tg_export.proofs.packed.export.Goals as goal

pub returns-in-Ok-clause-answered : goal.returns-in-Ok-clause-answered
returns-in-Ok-clause-answered g c content store sections told attached all =
    let h = c.write_car-end.ensures.answered in
    exported_else c.write_car-end.result
    (c.write_car-end.ensures.answered store sections (attached_store (g.P.Pack.pack.content c.args.pack) content _ store c.finished_packs.ensures.same told c.in-Ok.ensures.attached.stored attached) all)

pub returns-in-Err-clause-answered : goal.returns-in-Err-clause-answered
returns-in-Err-clause-answered g c content store sections told attached all =
    subst (λ (fault : ExportFault). IsExportedElse (Err fault)) (sym c.from.ensures)
    (refused_else (pack_step g.P.Pack.pack c.args.pack c.in-Err.refused.pack) content store c.in-Err.refused.fault c.one_cause.ensures.none told attached c.in-Err.ensures.refused.cause)
