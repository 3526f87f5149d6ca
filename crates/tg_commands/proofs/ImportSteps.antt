-- The lines of an import.
use Rattle.std.proofs.Common.{◌≡◌, ◌≤◌, ◌++◌, ◌∷◌, ◌⊎◌, [], All, List, Option, Some, None, ℕ, ap, inl, inr, codes, refl, sym, true, ◌∙◌, subst}
use Rattle.std.proofs.lemmas.List.Elements.{All-head, All-tail}
use Rattle.std.specs.Prelude.{IfSome, decimal}
use Rattle.std.proofs.lemmas.List.{append_assoc}
use Rattle.tg_commands.specs.Blocks.{OutputUntouched}
use Rattle.tg_commands.specs.Imports.{AreAttached, AttachedAnswers, AttachedRefused, ImportAnswers, ImportLines, IsImportRefusal, IsInPack, LinesEnd, PutsLines, StopsWritingAt, WritesPackAt, options_of, summary_line}
use Rattle.tg_commands.specs.Lines.{PutAll}
use Rattle.tg_commands.specs.Files.{files_between}
use Rattle.tg_commands.specs.declared.fault.CommandFault.{CommandFault}
use Rattle.tg_commands.specs.declared.fault.CommandFault.TheVariants as refusals
use Rattle.tg_bytes.specs.Told.{IsNothing}
use Rattle.tg_faults.specs.Faults.{Rose}
use Rattle.tg_files.specs.Folders.{FolderMeaning, FolderQuiet, FolderRose, SameFolder, TellsFolder, folder_step}
use Rattle.tg_files.specs.Packs.PackWrite.{append, attach, overwrite, torn}
use Rattle.tg_files.specs.Packs.{Did, PackMeaning, PackPlace, PackRose, PackStep, PackWrite, did_joins, emptied, pack_step, placed, placed-append}
use Rattle.tg_import.specs.Counting.{nothing}
use Rattle.tg_import.specs.Refused.{HasFolderFault, max_levels}
use Rattle.tg_import.specs.declared.fault.ImportFault.{ImportFault}
use Rattle.tg_import.specs.declared.fault.ImportFault.TheVariants as faults
use Rattle.tg_import.specs.Packing.{IsPacked, IsPackingCause}
use Rattle.tg_store.specs.Filling.{IsBegun, IsUnfinished, StopsWriting, WritesPack}
use Rattle.tg_store.specs.Packs.{IsGrowth}
use Rattle.tg_words.specs.ImportLines.{ImportParts}
use Rattle.tg_streams.specs.Streams.{Output, PutFront}
use Rattle.tg_tree.specs.declared.tree.Tree.{Tree}
use Rattle.tg_bytes.specs.Ascii.{line_feed}
use Rattle.tg_cid.specs.Cid.{CidParts}
use Rattle.tg_cid.specs.Spelling.{CidText}
use Rattle.tg_import.specs.declared.summary.Summary.{Summary}

-- the text of the CID, and behind it the summary's numbers with their words
pub lines_are : (root : CidParts) (summary : Summary) (t a b c d text : List ℕ) → CidText (record root { version = 1 }) t
    → a ≡ t ++ (codes "\nfiles " ++ decimal summary.files) → b ≡ a ++ (codes " folders " ++ decimal summary.folders)
    → c ≡ b ++ (codes " shards " ++ decimal summary.shards) → d ≡ c ++ (codes " bytes " ++ decimal summary.bytes) → text ≡ d ++ line_feed ∷ []
    → ImportLines root summary text
lines_are root summary t a b c d text is_text e f g h k = record {
  first = t ++ line_feed ∷ [];
  first_is = record { text = t; text_is = is_text; line_is = refl };
  whole = whole;
}
  where
    whole : text ≡ (t ++ line_feed ∷ []) ++ summary_line summary
    whole = rw (k, h, g, f, e) (simp (append_assoc) refl)

-- ---- where a pack is attached once it was written to

growth_placed : (place : Option PackPlace) (writes : List PackWrite) → All IsGrowth writes → placed place writes ≡ place
growth_placed place [] all = refl
growth_placed place (append bytes ∷ writes) all = growth_placed place writes (All-tail IsGrowth (append bytes) writes all)
growth_placed place (torn ∷ writes) all = growth_placed place writes (All-tail IsGrowth torn writes all)
growth_placed place (attach path fresh ∷ writes) all = absurd (All-head IsGrowth (attach path fresh) writes all)
growth_placed place (overwrite at bytes ∷ writes) all = absurd (All-head IsGrowth (overwrite at bytes) writes all)

begun_placed : (place : Option PackPlace) (writes : List PackWrite) → IsBegun writes → placed place writes ≡ place
begun_placed place writes begun =
    subst (λ (ws : List PackWrite). placed place ws ≡ place) (sym begun.are) (growth_placed place begun.more begun.growth)

finished_placed : (place : Option PackPlace) (writes : List PackWrite) (header : List ℕ) → IsBegun writes
    → placed place (writes ++ overwrite 0 header ∷ []) ≡ place
finished_placed place writes header begun = sym (placed-append place writes (overwrite 0 header ∷ [])) ∙ begun_placed place writes begun

stopped_placed : (place : Option PackPlace) (writes : List PackWrite) → (writes ≡ torn ∷ []) ⊎ IsBegun writes → placed place writes ≡ place
stopped_placed place writes (inl e) = ap (placed place) e
stopped_placed place writes (inr begun) = begun_placed place writes begun

-- ---- the import of an attached folder into an attached pack

module _ {F P : Type 0} (fm : FolderMeaning F) (m : PackMeaning P) (f f' : F) (a b c : P) (parts : ImportParts)
    (joins : (x y z : P) (u v : List PackWrite) → m.did x y u → m.did y z v → m.did x z (u ++ v))
    (tells : TellsFolder (fm.tree f)) (stays : SameFolder (folder_step fm f f')) (at : fm.place f ≡ Some parts.folder)
    (quiet : m.faults b ≡ m.faults a) (attached : Did (attach parts.pack true ∷ []) (pack_step m a b)) where
  same : fm.tree f' ≡ fm.tree f
  same = stays.tree

  abbrev there : Option PackPlace
  there = Some (record { path = parts.pack; fresh = true })

  abbrev written_at : (root : CidParts) → WritesPack root (pack_step m b c) → WritesPackAt parts.pack root (pack_step m a c)
  written_at root w = record {
    writes = w.writes;
    begins = w.begins;
    name = w.name;
    spelled = w.spelled;
    header = w.header;
    text = w.text;
    did = did_joins m joins a b c (attach parts.pack true ∷ []) (w.writes ++ overwrite 0 w.header ∷ []) attached w.did;
  }

  abbrev stopped_at : StopsWriting (pack_step m b c) → StopsWritingAt parts.pack (pack_step m a c)
  stopped_at w = record {
    writes = w.writes;
    begins = w.begins;
    did = did_joins m joins a b c (attach parts.pack true ∷ []) w.writes attached w.did;
  }

  are_attached : m.place c ≡ there → AreAttached parts (files_between fm m f f' (Some a) (Some c))
  are_attached placed_there = record { folder = stays.place ∙ at; pack = placed_there }

  tells_new : TellsFolder (fm.tree f')
  tells_new = subst TellsFolder (sym same) tells

  rose_moved : PackRose (pack_step m b c) → PackRose (pack_step m a c)
  rose_moved r = record {
    rose = subst (λ (n : ℕ). Rose n (m.faults c)) quiet r.rose;
    counted = subst (λ (n : ℕ). n ≤ m.faults c) quiet r.counted;
  }

  packed_moved : (root : CidParts) (summary : Summary) → IsPacked (options_of parts) (fm.tree f) root summary (pack_step m b c) → IsPacked (options_of parts) (fm.tree f') root summary (pack_step m a c)
  packed_moved root summary packed =
      let here = subst (λ (told : Option Tree). IsPacked (options_of parts) told root summary (pack_step m b c)) (sym same) packed in
      record {
        d = here.d;
        imported = here.imported;
        root_is = here.root_is;
        counts = here.counts;
        sections = here.sections;
        all = here.all;
        order = here.order;
        content = here.content;
        quiet = here.quiet ∙ quiet;
      }

  in_pack : (said : CidParts → Summary → Type 0) (root : CidParts) (summary : Summary) → FolderQuiet (folder_step fm f f') → IsPacked (options_of parts) (fm.tree f) root summary (pack_step m b c)
      → WritesPack root (pack_step m b c) → said root summary → IsInPack parts (files_between fm m f f' (Some a) (Some c)) said
  in_pack said root summary folder_quiet packed written is_said = record {
    root = root;
    summary = summary;
    attached = are_attached ((written_at root written).did.place ∙ finished_placed there written.writes written.header written.begins);
    tells = tells_new;
    packed = packed_moved root summary packed;
    written = written_at root written;
    quiet = folder_quiet;
    is_said = is_said;
  }

  pub attached_ends : (root : CidParts) (summary : Summary) (out : Output) (end : Option CommandFault) → FolderQuiet (folder_step fm f f')
      → IsPacked (options_of parts) (fm.tree f) root summary (pack_step m b c) → WritesPack root (pack_step m b c) → LinesEnd root summary out end
      → AttachedAnswers parts (files_between fm m f f' (Some a) (Some c)) out end
  attached_ends root summary out None folder_quiet packed written ends = in_pack (λ root summary. PutsLines root summary (λ text. PutAll text out)) root summary folder_quiet packed written ends
  attached_ends root summary out (Some refusals.SinkFault) folder_quiet packed written ends = inr (inr (inl (record {
    in_pack = in_pack (λ root summary. PutsLines root summary (λ text. PutFront text out)) root summary folder_quiet packed written ends;
    is = refl;
  })))
  attached_ends root summary out (Some refusals.OutOfMemory) folder_quiet packed written ends = inr (inr (inr (record {
    in_pack = in_pack (λ root summary. OutputUntouched out) root summary folder_quiet packed written ends;
    is = refl;
  })))
  attached_ends root summary out (Some refusal) folder_quiet packed written ends = absurd ends

  cause_moved : (fault : ImportFault) → IsPackingCause (options_of parts) (fm.tree f) fault (folder_step fm f f') (pack_step m b c)
      → IsPackingCause (options_of parts) (fm.tree f') fault (folder_step fm f f') (pack_step m a c)
  cause_moved faults.Folder cause = (cause.0, cause.1 ∙ quiet)
  cause_moved faults.Keep cause = (cause.0, rose_moved cause.1)
  cause_moved faults.OutOfMemory cause = (cause.0, cause.1 ∙ quiet)
  cause_moved fault cause =
      (cause.0, cause.1 ∙ quiet, subst (λ (told : Option Tree). HasFolderFault max_levels (options_of parts) told [] nothing fault) (sym same) cause.2)

  pub attached_refused : (fault : ImportFault) (refusal : CommandFault) (out : Output) → IsImportRefusal fault refusal
      → IsPackingCause (options_of parts) (fm.tree f) fault (folder_step fm f f') (pack_step m b c) → IfSome (m.content c) IsUnfinished
      → StopsWriting (pack_step m b c) → OutputUntouched out → AttachedRefused parts (files_between fm m f f' (Some a) (Some c)) out refusal
  attached_refused fault refusal out is cause unfinished stopped unput = inl (record {
    fault = fault;
    is = is;
    attached = are_attached ((stopped_at stopped).did.place ∙ stopped_placed there stopped.writes stopped.begins);
    tells = tells_new;
    cause = cause_moved fault cause;
    unfinished = unfinished;
    stopped = stopped_at stopped;
    unput = unput;
  })

-- the pack that is attached anew has no bytes, as far as it is told
pub emptied_is_nothing : (content : Option (List ℕ)) → IsNothing (emptied content)
emptied_is_nothing None = tt
emptied_is_nothing (Some bytes) = refl

-- ---- the folder attached before

module _ {F P : Type 0} (fm : FolderMeaning F) (m : PackMeaning P) (f g h : F) (pack pack' : Option P) (parts : ImportParts) (quiet : fm.faults g ≡ fm.faults f) where
  folder_rose : FolderRose (folder_step fm g h) → FolderRose (folder_step fm f h)
  folder_rose r = record {
    rose = subst (λ (n : ℕ). Rose n (fm.faults h)) quiet r.rose;
    counted = subst (λ (n : ℕ). n ≤ fm.faults h) quiet r.counted;
  }

  attached_moved : AreAttached parts (files_between fm m g h pack pack') → AreAttached parts (files_between fm m f h pack pack')
  attached_moved i = record { folder = i.folder; pack = i.pack }

  in_pack_moved : (said : CidParts → Summary → Type 0) → IsInPack parts (files_between fm m g h pack pack') said → IsInPack parts (files_between fm m f h pack pack') said
  in_pack_moved said i = record {
    root = i.root;
    summary = i.summary;
    attached = attached_moved i.attached;
    tells = i.tells;
    packed = i.packed;
    written = i.written;
    quiet = i.quiet ∙ quiet;
    is_said = i.is_said;
  }

  packing_moved : (told : Option Tree) (fault : ImportFault) (step : PackStep) → IsPackingCause (options_of parts) told fault (folder_step fm g h) step → IsPackingCause (options_of parts) told fault (folder_step fm f h) step
  packing_moved told faults.Folder step cause = (folder_rose cause.0, cause.1)
  packing_moved told faults.Keep step cause = (cause.0 ∙ quiet, cause.1)
  packing_moved told faults.OutOfMemory step cause = (cause.0 ∙ quiet, cause.1)
  packing_moved told fault step cause = (cause.0 ∙ quiet, cause.1, cause.2)

  pub folder_first : (out : Output) (end : Option CommandFault) → AttachedAnswers parts (files_between fm m g h pack pack') out end
      → ImportAnswers parts (files_between fm m f h pack pack') out end
  folder_first out None ends = in_pack_moved (λ root summary. PutsLines root summary (λ text. PutAll text out)) ends
  folder_first out (Some refusal) (inl refused) = inl (inl (record {
    fault = refused.fault;
    is = refused.is;
    attached = attached_moved refused.attached;
    tells = refused.tells;
    cause = packing_moved (fm.tree h) refused.fault _ refused.cause;
    unfinished = refused.unfinished;
    stopped = refused.stopped;
    unput = refused.unput;
  }))
  folder_first out (Some refusal) (inr (inl none)) = inl (inr (inl (record { folder = none.folder; quiet = none.quiet ∙ quiet; same = none.same; rose = none.rose; unput = none.unput; is = none.is })))
  folder_first out (Some refusal) (inr (inr (inl unput))) =
      inl (inr (inr (inl (record { in_pack = in_pack_moved (λ root summary. PutsLines root summary (λ text. PutFront text out)) unput.in_pack; is = unput.is }))))
  folder_first out (Some refusal) (inr (inr (inr unsaid))) =
      inl (inr (inr (inr (record { in_pack = in_pack_moved (λ root summary. OutputUntouched out) unsaid.in_pack; is = unsaid.is }))))
