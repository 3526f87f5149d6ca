use Rattle.std.proofs.Common.{List, [], refl, string_bytes, subst, sym, true, ℕ, ◌∷◌, ◌≡◌}
use Rattle.std.specs.Prelude.{IfErr, IfOk, IfSome, OnErr, OnOk, Some}
use Rattle.tg_commands.proofs.ImportSteps.{attached_ends, attached_refused}
use Rattle.tg_commands.specs.Imports.{AttachedAnswers, AttachedRefused, options_of}
use Rattle.tg_commands.specs.Lines.{end_of}
use Rattle.tg_commands.specs.Files.{files_between}
use Rattle.tg_files.specs.Folders.{FolderQuiet, folder_step}
use Rattle.tg_files.specs.Packs.PackWrite.{attach}
use Rattle.tg_files.specs.Packs.{Did, pack_step}
use Rattle.tg_import.specs.Packing.{IsPacked, IsPackingCause}
use Rattle.tg_store.specs.Filling.{IsUnfinished, StopsWriting, WritesPack}
use Rattle.tg_streams.specs.Streams.{into}
use Rattle.tg_words.specs.ImportLines.{ImportParts}
use Rattle.tg_commands.proofs.import.import_into.Goals as goal

pub returns-in-Ok-end : goal.returns-in-Ok-end
returns-in-Ok-end g c =
    let fm = g.F.Folder.folder in
    let m = g.P.Pack.pack in
    let f = c.args.folder.now in
    let f' = c.import_pack-pack.new.folder in
    let b = c.attach.new.self in
    let p = c.import_pack-pack.result.0 in
    let parts : ImportParts = record {
      folder = string_bytes c.asked.inside.folder;
      pack = string_bytes c.asked.inside.pack;
      chunk = c.asked.inside.chunk;
      width = c.asked.inside.width;
      shard = c.asked.inside.shard;
    } in
    let options = options_of parts in
    let at = subst (λ (asked : ImportParts). fm.place f ≡ Some asked.folder) (sym c.asked.view_is) c.requires.at in
    let attached = subst (λ (path : List ℕ). Did (attach path true ∷ []) (pack_step m c.args.pack b)) c.as_str.ensures.value c.in-Ok.ensures.did in
    let out = into g.O.Sink.sink c.args.out.now c.put_lines.new.out in
    let quiet = subst (λ r. OnOk r (FolderQuiet (folder_step fm f f'))) c.in-Ok-end.is c.import_pack-pack.ensures.quiet in
    let written = subst (λ r. IfOk r (λ found. WritesPack found.0 (pack_step m b p))) c.in-Ok-end.is c.import_pack-pack.ensures.written in
    let packed = subst (λ r. IfOk r (λ found. IsPacked options (fm.tree f) found.0 found.1 (pack_step m b p))) c.in-Ok-end.is c.import_pack-pack.ensures.packed in
    subst (λ (asked : ImportParts). AttachedAnswers asked (files_between fm m f f' (Some c.args.pack) (Some p)) out (end_of c.put_lines.result)) c.asked.view_is
    (attached_ends fm m f f' c.args.pack b p parts g.met.P.Pack.joins c.requires.tells c.import_pack-pack.ensures.same at c.in-Ok.ensures.quiet attached c.in-Ok-end.made.0 c.in-Ok-end.made.1 out
    (end_of c.put_lines.result) quiet packed written c.put_lines.ensures)

pub returns-in-Err : goal.returns-in-Err
returns-in-Err g c =
    let fm = g.F.Folder.folder in
    let m = g.P.Pack.pack in
    let f = c.args.folder.now in
    let f' = c.import_pack-pack.new.folder in
    let b = c.attach.new.self in
    let p = c.import_pack-pack.result.0 in
    let parts : ImportParts = record {
      folder = string_bytes c.asked.inside.folder;
      pack = string_bytes c.asked.inside.pack;
      chunk = c.asked.inside.chunk;
      width = c.asked.inside.width;
      shard = c.asked.inside.shard;
    } in
    let options = options_of parts in
    let at = subst (λ (asked : ImportParts). fm.place f ≡ Some asked.folder) (sym c.asked.view_is) c.requires.at in
    let attached = subst (λ (path : List ℕ). Did (attach path true ∷ []) (pack_step m c.args.pack b)) c.as_str.ensures.value c.in-Ok.ensures.did in
    let out = into g.O.Sink.sink c.args.out.now c.args.out.now in
    let cause = subst (λ r. IfErr r (λ fault. IsPackingCause options (fm.tree f) fault (folder_step fm f f') (pack_step m b p))) c.in-Err.is c.import_pack-pack.ensures.cause in
    let stopped = subst (λ r. OnErr r (StopsWriting (pack_step m b p))) c.in-Err.is c.import_pack-pack.ensures.stopped in
    let unfinished = subst (λ r. OnErr r (IfSome (m.content p) IsUnfinished)) c.in-Err.is c.import_pack-pack.ensures.unfinished in
    subst (λ (asked : ImportParts). AttachedRefused asked (files_between fm m f f' (Some c.args.pack) (Some p)) out c.refusal_of_import.result) c.asked.view_is
    (attached_refused fm m f f' c.args.pack b p parts g.met.P.Pack.joins c.requires.tells c.import_pack-pack.ensures.same at c.in-Ok.ensures.quiet attached c.in-Err.fault c.refusal_of_import.result out
    c.refusal_of_import.ensures cause unfinished stopped (record { unput = record { moved = g.met.O.Sink.rests _; held = refl }; quiet = refl }))
