use Rattle.std.proofs.Common.{List, ℕ, inl, string_bytes, subst}
use Rattle.tg_commands.specs.Exports.{ExportRefused, Exported, IsAttachedPack}
use Rattle.tg_words.specs.ExportLines.{ExportParts}
use Rattle.tg_commands.specs.PackSteps.{attached_step, content_same}
use Rattle.tg_commands.proofs.ExportSteps.{done_step, refused_step}
use Rattle.tg_export.specs.Packed.{ExportEnds, HasPackedCause, IsExportedElse}
use Rattle.tg_files.specs.Packs.{pack_step}
use Rattle.tg_streams.specs.Streams.{into}
use Rattle.tg_commands.proofs.export.export_from.Goals as goal

pub returns-in-Ok-end : goal.returns-in-Ok-end
returns-in-Ok-end g c =
    let m = g.P.Pack.pack in
    let q = c.asked.inside.query in
    let out = into g.O.Sink.sink c.args.out.now c.export-pack.new.out in
    let step = pack_step m c.attach.new.self c.export-pack.result.0 in
    let path = string_bytes c.asked.inside.pack in
    let attached = subst (λ (path : List ℕ). IsAttachedPack path (pack_step m c.args.pack c.export-pack.result.0)) c.as_str.ensures.value
    (attached_step m g.met.P.Pack.joins c.args.pack c.attach.new.self c.export-pack.result.0 c.as_str.result.now c.in-Ok.ensures.did c.export-pack.ensures.pack) in
    subst (λ (asked : ExportParts). Exported asked.pack asked.query (pack_step m c.args.pack c.export-pack.result.0) out) c.asked.view_is
    (done_step m c.args.pack c.attach.new.self c.export-pack.result.0 (content_same m _ _ c.as_str.result.now c.in-Ok.ensures.did) c.in-Ok.ensures.quiet path q out c.in-Ok-end.field-0 attached
    (subst (ExportEnds q step out) c.in-Ok-end.is c.export-pack.ensures.ends) (subst (HasPackedCause step) c.in-Ok-end.is c.export-pack.ensures.cause))

pub returns-in-Err : goal.returns-in-Err
returns-in-Err g c =
    let m = g.P.Pack.pack in
    let q = c.asked.inside.query in
    let out = into g.O.Sink.sink c.args.out.now c.export-pack.new.out in
    let step = pack_step m c.attach.new.self c.export-pack.result.0 in
    let path = string_bytes c.asked.inside.pack in
    let attached = subst (λ (path : List ℕ). IsAttachedPack path (pack_step m c.args.pack c.export-pack.result.0)) c.as_str.ensures.value
    (attached_step m g.met.P.Pack.joins c.args.pack c.attach.new.self c.export-pack.result.0 c.as_str.result.now c.in-Ok.ensures.did c.export-pack.ensures.pack) in
    inl (subst (λ (asked : ExportParts). ExportRefused asked.pack asked.query (pack_step m c.args.pack c.export-pack.result.0) out c.refusal_of.result) c.asked.view_is
    (refused_step m c.args.pack c.attach.new.self c.export-pack.result.0 (content_same m _ _ c.as_str.result.now c.in-Ok.ensures.did) c.in-Ok.ensures.quiet path q out c.in-Err.fault c.refusal_of.result
    attached c.refusal_of.ensures (subst (ExportEnds q step out) c.in-Err.is c.export-pack.ensures.ends) (subst (HasPackedCause step) c.in-Err.is c.export-pack.ensures.cause)
    (λ content store sections told attached ended. subst IsExportedElse c.in-Err.is (c.export-pack.ensures.answered content store sections told attached ended))))
