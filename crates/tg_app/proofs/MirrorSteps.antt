-- `mirror` ends as the mirror into an attached pack does, and its lines.
use Rattle.std.proofs.Common.{◌≡◌, ◌≤◌, ◌++◌, ◌∷◌, ◌⊎◌, ◌∙◌, [], All, Err, List, None, Ok, Option, Some, ap, codes, inl, inr, refl, subst, sym, true, ℕ}
use Rattle.std.proofs.lemmas.List.Elements.{All-head, All-tail}
use Rattle.std.proofs.lemmas.List.{append_assoc}
use Rattle.std.specs.Prelude.{IfErr, IfOk, IfSome, OnErr, OnOk, Result, decimal}
use Rattle.tg_app.specs.Mirrors.{IsDoneElse, IsGoodMirrorReply, IsInMirror, IsMirrorRefusal, MirrorHandled, MirrorLines, MirrorLinesEnd, PutsMirror, mirrored_line}
use Rattle.tg_app.specs.Objects.{DialUse}
use Rattle.tg_bytes.specs.Ascii.{line_feed}
use Rattle.tg_bytes.specs.Told.{IsNothing}
use Rattle.tg_cid.specs.Cid.{CidParts}
use Rattle.tg_cid.specs.Spelling.{CidText}
use Rattle.tg_commands.specs.Blocks.{OutputUntouched}
use Rattle.tg_commands.specs.Imports.{StopsWritingAt, WritesPackAt}
use Rattle.tg_commands.specs.Lines.{PutAll}
use Rattle.tg_commands.specs.declared.fault.CommandFault.{CommandFault}
use Rattle.tg_commands.specs.declared.fault.CommandFault.TheVariants as refusals
use Rattle.tg_faults.specs.Faults.{Rose}
use Rattle.tg_fetch.specs.Laws.{TellsCarried}
use Rattle.tg_fetch.specs.declared.fault.FetchFault.{FetchFault}
use Rattle.tg_fetch.specs.declared.fault.FetchFault.TheVariants as fetches
use Rattle.tg_files.specs.Packs.PackWrite.{append, attach, overwrite, torn}
use Rattle.tg_files.specs.Packs.{Did, PackMeaning, PackPlace, PackRose, PackStep, PackWrite, did_joins, emptied, pack_step, placed, placed-append}
use Rattle.tg_heard.specs.Exchanges.{HasOneBlockEach}
use Rattle.tg_mirror.specs.Mirrors.{HasMirrorCause, IsMirrored, IsMirroredElse, MirrorCalls, StopsHolding, mirror_query}
use Rattle.tg_mirror.specs.declared.fault.MirrorFault.{MirrorFault}
use Rattle.tg_mirror.specs.declared.fault.MirrorFault.TheVariants as faults
use Rattle.tg_mirror.specs.declared.mirrored.Mirrored.{Mirrored}
use Rattle.tg_model.specs.Answer.{answer}
use Rattle.tg_model.specs.Dag.{Dag, Section, root_cid}
use Rattle.tg_model.specs.Fits.{Fits}
use Rattle.tg_model.specs.LimitNumbers.{LimitNumbers, standard}
use Rattle.tg_model.specs.Sound.{IsSound}
use Rattle.tg_model.specs.Traversal.{block_list}
use Rattle.tg_store.specs.Filling.{IsBegun, IsUnfinished, StopsWriting, WritesPack}
use Rattle.tg_store.specs.Packs.{IsGrowth}
use Rattle.tg_store.specs.declared.fault.PackFault.TheVariants as packs
use Rattle.tg_streams.specs.Streams.{Output, PutFront}
use Rattle.tg_verify.specs.Laws.{IsWithinLimits}
use Rattle.tg_verify.specs.declared.fault.Refusal.TheVariants as verifiers
use Rattle.tg_words.specs.MirrorLines.{MirrorParts}

-- ---- the lines

-- the text of the CID, and behind it the numbers with their words
pub lines_are : (root : CidParts) (mirrored : Mirrored) (t a b text : List ℕ) → CidText (record root { version = 1 }) t
    → a ≡ t ++ (codes "\nblocks " ++ decimal mirrored.blocks) → b ≡ a ++ (codes " bytes " ++ decimal mirrored.bytes) → text ≡ b ++ line_feed ∷ []
    → MirrorLines root mirrored text
lines_are root mirrored t a b text is_text e f g = record {
  first = t ++ line_feed ∷ [];
  first_is = record { text = t; text_is = is_text; line_is = refl };
  whole = whole;
}
  where
    whole : text ≡ (t ++ line_feed ∷ []) ++ mirrored_line mirrored
    whole = rw (g, f, e) (simp (append_assoc) refl)

-- ---- where a pack is attached once it was written to

growth_placed : (place : Option PackPlace) (writes : List PackWrite) → All IsGrowth writes → placed place writes ≡ place
growth_placed place [] all = refl
growth_placed place (append bytes ∷ writes) all = growth_placed place writes (All-tail IsGrowth (append bytes) writes all)
growth_placed place (torn ∷ writes) all = growth_placed place writes (All-tail IsGrowth torn writes all)
growth_placed place (attach path fresh ∷ writes) all = absurd (All-head IsGrowth (attach path fresh) writes all)
growth_placed place (overwrite at bytes ∷ writes) all = absurd (All-head IsGrowth (overwrite at bytes) writes all)

begun_placed : (place : Option PackPlace) (writes : List PackWrite) → IsBegun writes → placed place writes ≡ place
begun_placed place writes begun =
    subst (λ (ws : List PackWrite). placed place ws ≡ place) (sym begun.are) (growth_placed place begun.more begun.growth)

finished_placed : (place : Option PackPlace) (writes : List PackWrite) (header : List ℕ) → IsBegun writes
    → placed place (writes ++ overwrite 0 header ∷ []) ≡ place
finished_placed place writes header begun = sym (placed-append place writes (overwrite 0 header ∷ [])) ∙ begun_placed place writes begun

stopped_placed : (place : Option PackPlace) (writes : List PackWrite) → (writes ≡ torn ∷ []) ⊎ IsBegun writes → placed place writes ≡ place
stopped_placed place writes (inl e) = ap (placed place) e
stopped_placed place writes (inr begun) = begun_placed place writes begun

-- the pack that is attached anew has no bytes, as far as it is told
pub emptied_is_nothing : (content : Option (List ℕ)) → IsNothing (emptied content)
emptied_is_nothing None = tt
emptied_is_nothing (Some bytes) = refl

-- ---- what a mirror into an attached pack says

pub record MirrorDid (parts : MirrorParts) (limits : LimitNumbers) (dial : DialUse) (step : PackStep) (result : Result Mirrored MirrorFault) : Type 0 where
  pub called : MirrorCalls parts.root limits parts.addr dial.same_dial dial.dialling result
  pub mirrored : IfOk result (λ mirrored. IsMirrored parts.root limits dial.dialling step mirrored)
  pub cause : HasMirrorCause step result
  pub holds : IfErr result (λ fault. IfSome step.content_new (StopsHolding parts.root limits dial.dialling fault))
  pub unfinished : OnErr result (IfSome step.content_new IsUnfinished)
  pub written : OnOk result (WritesPack parts.root step)
  pub stopped : OnErr result (StopsWriting step)
  pub fitting : (d : Dag) (sections : List Section) (text : List ℕ) → Fits d (mirror_query parts.root) sections text → IsWithinLimits (mirror_query parts.root) limits d
      → TellsCarried (mirror_query parts.root) limits dial.dialling sections → IsMirroredElse result
  pub own : (d : Dag) (text : List ℕ) → IsSound d → root_cid d ≡ parts.root → answer (mirror_query parts.root) d ≡ Some text → HasOneBlockEach d
      → IsWithinLimits (mirror_query parts.root) limits d → TellsCarried (mirror_query parts.root) limits dial.dialling (block_list (mirror_query parts.root) d)
      → IsMirroredElse result

-- the limits are the standard ones, and the mirror's end is this
pub at_standard : (parts : MirrorParts) (limits : LimitNumbers) (dial : DialUse) (step : PackStep) (result end : Result Mirrored MirrorFault) → limits ≡ standard → result ≡ end
    → MirrorDid parts limits dial step result → MirrorDid parts standard dial step end
at_standard parts limits dial step result end are is did =
    subst (λ (r : Result Mirrored MirrorFault). MirrorDid parts standard dial step r) is (subst (λ (l : LimitNumbers). MirrorDid parts l dial step result) are did)

-- a good reply is mirrored, but for those faults
good_else : (parts : MirrorParts) (dial : DialUse) (step : PackStep) (result : Result Mirrored MirrorFault) → MirrorDid parts standard dial step result
    → IsGoodMirrorReply parts.root dial.dialling → IsMirroredElse result
good_else parts dial step result did (inl o) = did.own o.d o.text o.sound o.root_is o.answers o.one_each o.within o.tells
good_else parts dial step result did (inr f) = did.fitting f.d f.sections f.text f.fits f.within f.tells

-- and so it is with the refusal that tells of them
done_of_call : (fault : FetchFault) (refusal : CommandFault) → IsMirrorRefusal (faults.Client fault) refusal → IsMirroredElse (Err (faults.Client fault)) → IsDoneElse (Some refusal)
done_of_call (fetches.Refused verifiers.SinkFault) refusal (inl tells) own = subst (λ (r : CommandFault). IsDoneElse (Some r)) (sym tells) tt
done_of_call (fetches.Refused verifiers.SinkFault) refusal (inr memory) own = absurd memory.0
done_of_call fetches.PeerFault refusal is own = subst (λ (r : CommandFault). IsDoneElse (Some r)) (sym is) tt
done_of_call fetches.KeepFault refusal is own = subst (λ (r : CommandFault). IsDoneElse (Some r)) (sym is) tt
done_of_call fetches.OutOfMemory refusal is own = subst (λ (r : CommandFault). IsDoneElse (Some r)) (sym is) tt
done_of_call (fetches.Refused fault) refusal is own = absurd own
done_of_call fault refusal is own = absurd own

done_of : (fault : MirrorFault) (refusal : CommandFault) → IsMirrorRefusal fault refusal → IsMirroredElse (Err fault) → IsDoneElse (Some refusal)
done_of (faults.Client fault) refusal is own = done_of_call fault refusal is own
done_of (faults.Pack fault) refusal is own = subst (λ (r : CommandFault). IsDoneElse (Some r)) (sym is) tt

lines_done : (root : CidParts) (mirrored : Mirrored) (out : Output) (end : Option CommandFault) → MirrorLinesEnd root mirrored out end → IsDoneElse end
lines_done root mirrored out None ends = tt
lines_done root mirrored out (Some refusals.SinkFault) ends = tt
lines_done root mirrored out (Some refusals.OutOfMemory) ends = tt
lines_done root mirrored out (Some refusal) ends = absurd ends

-- ---- the mirror into a pack that is attached before

-- the pack can't be attached
pub unattached : (parts : MirrorParts) (pack : PackStep) (dial : DialUse) (out : Output) → Did [] pack → PackRose pack → dial.same_dial → OutputUntouched out
    → MirrorHandled parts pack dial out (Some refusals.PackFault)
unattached parts pack dial out same rose undialled unput = record {
  ends = inr (inl (record { same = same; rose = rose; undialled = undialled; unput = unput; is = refl }));
  accepts = λ good. tt;
}

module _ {P : Type 0} (m : PackMeaning P) (a b c : P) (parts : MirrorParts) (dial : DialUse)
    (joins : (x y z : P) (u v : List PackWrite) → m.did x y u → m.did y z v → m.did x z (u ++ v))
    (quiet : m.faults b ≡ m.faults a) (attached : Did (attach parts.pack true ∷ []) (pack_step m a b)) where
  abbrev there : Option PackPlace
  there = Some (record { path = parts.pack; fresh = true })

  abbrev written_at : (root : CidParts) → WritesPack root (pack_step m b c) → WritesPackAt parts.pack root (pack_step m a c)
  written_at root w = record {
    writes = w.writes;
    begins = w.begins;
    name = w.name;
    spelled = w.spelled;
    header = w.header;
    text = w.text;
    did = did_joins m joins a b c (attach parts.pack true ∷ []) (w.writes ++ overwrite 0 w.header ∷ []) attached w.did;
  }

  abbrev stopped_at : StopsWriting (pack_step m b c) → StopsWritingAt parts.pack (pack_step m a c)
  stopped_at w = record {
    writes = w.writes;
    begins = w.begins;
    did = did_joins m joins a b c (attach parts.pack true ∷ []) w.writes attached w.did;
  }

  rose_moved : PackRose (pack_step m b c) → PackRose (pack_step m a c)
  rose_moved r = record {
    rose = subst (λ (n : ℕ). Rose n (m.faults c)) quiet r.rose;
    counted = subst (λ (n : ℕ). n ≤ m.faults c) quiet r.counted;
  }

  cause_moved : (result : Result Mirrored MirrorFault) → HasMirrorCause (pack_step m b c) result → HasMirrorCause (pack_step m a c) result
  cause_moved (Err (faults.Pack packs.Failed)) cause = rose_moved cause
  cause_moved (Err (faults.Pack fault)) cause = absurd cause
  cause_moved (Err (faults.Client fetches.KeepFault)) cause = rose_moved cause
  cause_moved (Err (faults.Client (fetches.Refused verifiers.SinkFault))) cause = absurd cause
  cause_moved (Err (faults.Client (fetches.Refused fault))) cause = cause ∙ quiet
  cause_moved (Err (faults.Client fault)) cause = cause ∙ quiet
  cause_moved (Ok mirrored) cause = cause ∙ quiet

  mirrored_moved : (mirrored : Mirrored) → IsMirrored parts.root standard dial.dialling (pack_step m b c) mirrored → IsMirrored parts.root standard dial.dialling (pack_step m a c) mirrored
  mirrored_moved mirrored h = record { heard = h.heard; heard_in = h.heard_in; over = h.over; answer = h.answer; pack = h.pack; serves = h.serves }

  in_mirror : (said : Mirrored → Type 0) (mirrored : Mirrored) → MirrorDid parts standard dial (pack_step m b c) (Ok mirrored) → said mirrored
      → IsInMirror parts (pack_step m a c) dial.dialling said
  in_mirror said mirrored did is_said = record {
    mirrored = mirrored;
    place = (written_at parts.root did.written).did.place ∙ finished_placed there did.written.writes did.written.header did.written.begins;
    called = did.called;
    is_mirrored = mirrored_moved mirrored did.mirrored;
    written = written_at parts.root did.written;
    quiet = did.cause ∙ quiet;
    is_said = is_said;
  }

  pub mirrored_ends : (mirrored : Mirrored) (out : Output) (end : Option CommandFault) → MirrorDid parts standard dial (pack_step m b c) (Ok mirrored)
      → MirrorLinesEnd parts.root mirrored out end → MirrorHandled parts (pack_step m a c) dial out end
  mirrored_ends mirrored out None did ends = record {
    ends = in_mirror (λ mirrored. PutsMirror parts.root mirrored (λ text. PutAll text out)) mirrored did ends;
    accepts = λ good. tt;
  }
  mirrored_ends mirrored out (Some refusals.SinkFault) did ends = record {
    ends = inr (inr (inl (record { in_mirror = in_mirror (λ mirrored. PutsMirror parts.root mirrored (λ text. PutFront text out)) mirrored did ends; is = refl })));
    accepts = λ good. tt;
  }
  mirrored_ends mirrored out (Some refusals.OutOfMemory) did ends = record {
    ends = inr (inr (inr (record { in_mirror = in_mirror (λ mirrored. OutputUntouched out) mirrored did ends; is = refl })));
    accepts = λ good. tt;
  }
  mirrored_ends mirrored out (Some refusal) did ends = absurd ends

  pub refused_ends : (fault : MirrorFault) (refusal : CommandFault) (out : Output) → IsMirrorRefusal fault refusal → OutputUntouched out
      → MirrorDid parts standard dial (pack_step m b c) (Err fault) → MirrorHandled parts (pack_step m a c) dial out (Some refusal)
  refused_ends fault refusal out is unput did = record {
    ends = inl (record {
      fault = fault;
      is = is;
      place = (stopped_at did.stopped).did.place ∙ stopped_placed there did.stopped.writes did.stopped.begins;
      called = did.called;
      cause = cause_moved (Err fault) did.cause;
      holds = did.holds;
      unfinished = did.unfinished;
      stopped = stopped_at did.stopped;
      unput = unput;
    });
    accepts = λ good. done_of fault refusal is (good_else parts dial (pack_step m b c) (Err fault) did good);
  }
