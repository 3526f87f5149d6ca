-- A store that was created, filled from a reply and finished, or not.
use Rattle.std.proofs.Common.{Err, IfSome, List, None, Ok, Option, Some, [], inr, length, map, min, refl, subst, sym, ℕ, ◌-◌, ◌^◌, ◌<◌, ◌∙◌, ◌∷◌, ◌≡◌}
use Rattle.std.specs.Prelude.{⊤}
use Rattle.tg_car.specs.CarText.{CarText}
use Rattle.tg_car.specs.Laws.{CarLaws}
use Rattle.tg_cid.specs.Cid.{CidParts}
use Rattle.tg_dials.specs.Dials.{Dialling}
use Rattle.tg_fetch.specs.Calls.{FetchEnds}
use Rattle.tg_fetch.specs.Keeping.{FetchKeeps, HasFaultCause}
use Rattle.tg_fetch.specs.declared.fault.FetchFault.{FetchFault}
use Rattle.tg_fetch.specs.declared.fault.FetchFault.TheVariants as fetches
use Rattle.tg_files.specs.Packs.{PackMeaning, PackQuiet, pack_step}
use Rattle.tg_heard.specs.FrontLaws.{BodyPieceLaws, HeadLaws}
use Rattle.tg_mirror.proofs.Counts.{answered_bytes}
use Rattle.tg_mirror.proofs.Keeping.{accepted, holds_mirror, holds_until, kept_till, wanted_behind}
use Rattle.tg_mirror.proofs.Serving.{served}
use Rattle.tg_mirror.proofs.Steps.{client_cause, gone_over, quiet_then, rose_then}
use Rattle.tg_mirror.specs.Filled.{fault_of_pack, filled_in}
use Rattle.tg_mirror.specs.Mirrors.{HasMirrorCause, HoldsUntil, IsMirrored, IsMirroredElse, MirrorCalls, StopsHolding, dropped, mirror_query}
use Rattle.tg_mirror.specs.declared.fault.MirrorFault.{MirrorFault}
use Rattle.tg_mirror.specs.declared.fault.MirrorFault.TheVariants as faults
use Rattle.tg_mirror.specs.declared.mirrored.Mirrored.{Mirrored}
use Rattle.tg_mirror_laws.specs.Mirrored.{MirroredTold, ServesHashed}
use Rattle.tg_model.specs.Dag.{Section}
use Rattle.tg_model.specs.LimitNumbers.{LimitNumbers}
use Rattle.tg_model.specs.Stores.{Keeping, Kept}
use Rattle.tg_store.specs.Attaching.{IsAttached}
use Rattle.tg_store.specs.Entries.{first_of_each, store_of}
use Rattle.tg_store.specs.Filling.{IsCarOfRoot}
use Rattle.tg_store.specs.Finishing.{HasFinishCause, IsFinished, IsNew}
use Rattle.tg_store.specs.Packs.{HasKept, PackStoreState, block_at, bytes_at, in_car, unfinished_root}
use Rattle.tg_store.specs.declared.fault.PackFault.{PackFault}
use Rattle.tg_store.specs.declared.fault.PackFault.TheVariants as packs
use Rattle.tg_verify.specs.Laws.{ThroughFits}

module _ {P : Type 0} (m : PackMeaning P) (root : CidParts) (limits : LimitNumbers) (dial : Dialling) where
  -- what the laws of packs that are filled say
  abbrev pub HasText : PackStoreState P → PackStoreState P → Type 0
  HasText a b = (sections : List Section) (content : List ℕ) → HasKept m a b sections → m.content b.pack ≡ Some content
      → CarText (unfinished_root ∷ []) (map in_car (first_of_each sections)) content

  -- a store in a pack before and after
  abbrev pub kept_as : PackStoreState P → PackStoreState P → Keeping
  kept_as a b = record (filled_in m a b) { kept = HasKept m a b }

  module _ (a b : PackStoreState P) where
    -- ---- a refusal of the reply

    pub client_holds : HasText a b → (fault : FetchFault) → FetchKeeps (mirror_query root) limits dial dropped (filled_in m a b) (Err fault)
        → IfSome (m.content b.pack) (StopsHolding root limits dial (faults.Client fault))
    client_holds text fault keeps =
        let till = kept_till root limits dial (filled_in m a b) fault keeps in
        holds_until root limits dial fault till.came (m.content b.pack) till.until (λ content told. text till.came content till.moved.kept told)

    pub client_causes : (fault : FetchFault) → FetchKeeps (mirror_query root) limits dial dropped (filled_in m a b) (Err fault)
        → HasFaultCause {A = ⊤} dropped (filled_in m a b) (Err fault) → HasMirrorCause (pack_step m a.pack b.pack) (Err (faults.Client fault))
    client_causes fault keeps cause =
        let till = kept_till root limits dial (filled_in m a b) fault keeps in
        client_cause (pack_step m a.pack b.pack) (filled_in m a b) fault (λ quiet. quiet) (λ rose. record { rose = rose; counted = till.moved.counted }) cause

    -- these sections were kept before it
    pub client_kept : (fault : FetchFault) → FetchKeeps (mirror_query root) limits dial dropped (filled_in m a b) (Err fault) → (sections : List Section) × HasKept m a b sections
    client_kept fault keeps =
        let till = kept_till root limits dial (filled_in m a b) fault keeps in
        (till.came, till.moved.kept)

    -- ---- an accepted reply

    module _ (keeps : FetchKeeps (mirror_query root) limits dial dropped (filled_in m a b) (Ok tt)) where
      abbrev pub sections_kept : List Section
      sections_kept = (accepted root limits dial (filled_in m a b) keeps).answer.sections

      pub whole_kept : HasKept m a b sections_kept
      whole_kept = (accepted root limits dial (filled_in m a b) keeps).kept.kept.moved.kept

      pub whole_moved : Kept sections_kept (kept_as a b)
      whole_moved =
          let acc = accepted root limits dial (filled_in m a b) keeps in
          record { moved = whole_kept; stored = acc.kept.kept.stored }

      pub mirrors : CarLaws → HeadLaws → BodyPieceLaws → ServesHashed → MirroredTold → ThroughFits → (c : PackStoreState P) (mirrored : Mirrored) → IsNew m a → IsFinished m b c root
          → IfSome (m.content c.pack) (IsCarOfRoot root sections_kept) → mirrored.blocks ≡ length c.places → mirrored.bytes ≡ min (bytes_at c.places) (2 ^ 64 - 1) → limits.received < 2 ^ 64
          → (Kept sections_kept (kept_as a b) → (content : List ℕ) → m.content c.pack ≡ Some content → IsAttached content (store_of (block_at content) c.places))
          → IsMirrored root limits dial (pack_step m a.pack c.pack) mirrored
      mirrors cars heads bodies serves told fits c mirrored new finished car count sum small attached =
          let acc = accepted root limits dial (filled_in m a b) keeps in
          let gone = gone_over (m.content b.pack) (m.content c.pack) finished.header finished.did.content in
          let answer = acc.answer in
          record {
            heard = acc.heard;
            heard_in = acc.heard_in;
            over = acc.over;
            answer = answer;
            pack = holds_mirror root answer.sections mirrored limits.received (m.content a.pack) (m.content b.pack) (m.content c.pack) a.places b.places c.places new.places whole_kept.grew gone
                finished.places count sum (answered_bytes heads bodies (mirror_query root) limits answer.front answer.ended answer.sections answer.text refl answer.answered) small car
                (attached whole_moved);
            serves = served cars serves told fits root limits (m.content a.pack) (m.content b.pack) (m.content c.pack) a.places b.places answer.sections answer.text answer.answered.through
                new.places whole_kept.grew acc.kept.kept.stored gone car;
          }

      -- ---- behind which the pack isn't finished

      wanted_holds : HasText a b → (told : Option (List ℕ)) → told ≡ m.content b.pack → IfSome told (HoldsUntil root limits dial fetches.OutOfMemory)
      wanted_holds text told same =
          let acc = accepted root limits dial (filled_in m a b) keeps in
          holds_until root limits dial fetches.OutOfMemory acc.answer.sections told (wanted_behind root limits dial (filled_in m a b) acc)
          (λ content is. text acc.answer.sections content acc.kept.kept.moved.kept (sym same ∙ is))

      untold_holds : (fault : MirrorFault) (told : Option (List ℕ)) → told ≡ None → IfSome told (StopsHolding root limits dial fault)
      untold_holds fault told none = subst (λ (o : Option (List ℕ)). IfSome o (StopsHolding root limits dial fault)) (sym none) tt

      pub finish_holds : HasText a b → (c : PackStoreState P) (fault : PackFault) → HasFinishCause m b.pack c.pack fault
          → IfSome (m.content c.pack) (StopsHolding root limits dial (fault_of_pack fault))
      finish_holds text c packs.Failed h = untold_holds (faults.Pack packs.Failed) (m.content c.pack) h.0.content
      finish_holds text c packs.OutOfMemory h = wanted_holds text (m.content c.pack) h.0.content
      finish_holds text c (packs.NotCar at) h = absurd h
      finish_holds text c (packs.BadDigest at) h = absurd h
      finish_holds text c packs.Unfinished h = absurd h
      finish_holds text c (packs.Truncated at) h = absurd h
      finish_holds text c (packs.BlockLimit at) h = absurd h

  pub finish_causes : (a b c : PackStoreState P) (fault : PackFault) → PackQuiet (pack_step m a.pack b.pack) → HasFinishCause m b.pack c.pack fault
      → HasMirrorCause (pack_step m a.pack c.pack) (Err (fault_of_pack fault))
  finish_causes a b c packs.Failed quiet h = rose_then m a.pack b.pack c.pack quiet h.1
  finish_causes a b c packs.OutOfMemory quiet h = quiet_then m a.pack b.pack c.pack quiet h.1
  finish_causes a b c (packs.NotCar at) quiet h = absurd h
  finish_causes a b c (packs.BadDigest at) quiet h = absurd h
  finish_causes a b c packs.Unfinished quiet h = absurd h
  finish_causes a b c (packs.Truncated at) quiet h = absurd h
  finish_causes a b c (packs.BlockLimit at) quiet h = absurd h

  pub finish_calls : (addr : List ℕ) (Untouched : Type 0) (fault : PackFault) → FetchEnds (mirror_query root) limits addr dial dropped (Ok tt)
      → MirrorCalls root limits addr Untouched dial (Err (fault_of_pack fault))
  finish_calls addr Untouched packs.OutOfMemory h = inr h
  finish_calls addr Untouched packs.Failed h = inr h
  finish_calls addr Untouched (packs.NotCar at) h = inr h
  finish_calls addr Untouched (packs.BadDigest at) h = inr h
  finish_calls addr Untouched packs.Unfinished h = inr h
  finish_calls addr Untouched (packs.Truncated at) h = inr h
  finish_calls addr Untouched (packs.BlockLimit at) h = inr h

-- it is the pack's, or want of memory
pub finish_else : (fault : PackFault) → IsMirroredElse (Err (fault_of_pack fault))
finish_else packs.OutOfMemory = tt
finish_else packs.Failed = tt
finish_else (packs.NotCar at) = tt
finish_else (packs.BadDigest at) = tt
finish_else packs.Unfinished = tt
finish_else (packs.Truncated at) = tt
finish_else (packs.BlockLimit at) = tt
