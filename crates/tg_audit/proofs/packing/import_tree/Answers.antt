use Rattle.std.proofs.Common.{IfErr, IfOk, OnOk, Result, Some, ap, subst}
use Rattle.std.proofs.lemmas.Result.{err_from_is_err_and}
use Rattle.tg_audit.proofs.PackedTrees.{packed_of, unpacked_of}
use Rattle.tg_audit.specs.Packing.{audit_options}
use Rattle.tg_cid.specs.Cid.{CidParts}
use Rattle.tg_files.specs.Folders.{FolderState, folder_step, mem_folder}
use Rattle.tg_files.specs.Packs.{PackState, mem_pack, pack_step}
use Rattle.tg_import.specs.declared.fault.ImportFault.{ImportFault}
use Rattle.tg_import.specs.declared.summary.Summary.{Summary}
use Rattle.tg_import.specs.Packing.{IsPacked, IsPackingCause}
use Rattle.tg_store.specs.Filling.{StaysTold}
use Rattle.tg_audit.proofs.packing.import_tree.Goals as goal

pub returns-in_err-root : goal.returns-in_err-root
returns-in_err-root c =
    let p = err_from_is_err_and c.from_residual.result c.from_residual.ensures.1 in
    let told = ap (λ (f : FolderState). Some f.tree) c.new-folder.ensures in
    let cause = subst (λ (r : Result (CidParts × Summary) ImportFault). IfErr r (λ fault. IsPackingCause audit_options (mem_folder.tree c.new-folder.result) fault
    (folder_step mem_folder c.new-folder.result c.import_pack-pack.new.folder) (pack_step mem_pack c.new-pack.result c.import_pack-pack.result.0)))
    c.in_err-root.was c.import_pack-pack.ensures.cause in
    rw (p.1, p.2) (unpacked_of c.args.tree _ c.in_err-root.field-0.0 _ _ told cause)

pub returns : goal.returns
returns c =
    packed_of c.args.tree _ c.in_ok-root.root c.in_ok-root.summary c.new-pack.result c.import_pack-pack.result.0 _
    (ap (λ (f : FolderState). Some f.tree) c.new-folder.ensures) (ap (λ (p : PackState). p.content) c.new-pack.ensures)
    (subst (λ (r : Result (CidParts × Summary) ImportFault). OnOk r (StaysTold c.new-pack.result.content c.import_pack-pack.result.0.content)) c.in_ok-root.was c.import_pack-pack.ensures.told)
    (subst (λ (r : Result (CidParts × Summary) ImportFault). IfOk r (λ found. IsPacked audit_options (mem_folder.tree c.new-folder.result) found.0 found.1
    (pack_step mem_pack c.new-pack.result c.import_pack-pack.result.0))) c.in_ok-root.was c.import_pack-pack.ensures.packed)
