-- What each exit status says of `mirror`.
use Rattle.std.proofs.Common.{◌≡◌, ◌≢◌, ◌⊎◌, ◌∙◌, Err, None, Option, Some, ap, false, inl, inr, nat_eq, refl, subst, sym, ℕ}
use Rattle.std.specs.Prelude.{⊤}
use Rattle.tg_app.proofs.FetchEndings.{by_status, fetch_status, no_fetch_refusal, peer_at_5, peer_rose, refusal_status, IsStatusOf}
use Rattle.tg_app.proofs.Refusals.{mirror_refusal_own}
use Rattle.tg_app.proofs.Statuses.{IsOwn, differs, not_zero}
use Rattle.tg_app.specs.Mirrors.{IsDoneElse, IsGoodMirrorReply, IsInMirror, IsLeftMirror, IsMirrorRefusal, IsMirroredInto, MirrorAnswers, MirrorEnds, MirrorUnbegun, VouchedMirror}
use Rattle.tg_app.specs.Objects.{DialUse}
use Rattle.tg_commands.specs.Blocks.{OutputUntouched}
use Rattle.tg_commands.specs.Files.{Files}
use Rattle.tg_commands.specs.Lines.{exit_status, status_of}
use Rattle.tg_commands.specs.declared.fault.CommandFault.{CommandFault}
use Rattle.tg_commands.specs.declared.fault.CommandFault.TheVariants as refusals
use Rattle.tg_dials.specs.Dials.{DialRose, Dialling}
use Rattle.tg_fetch.specs.Calls.{FetchEnds}
use Rattle.tg_fetch.specs.Received.{carried}
use Rattle.tg_fetch.specs.declared.fault.FetchFault.{FetchFault}
use Rattle.tg_fetch.specs.declared.fault.FetchFault.TheVariants as fetches
use Rattle.tg_files.specs.Packs.{PackRose, PackStep}
use Rattle.tg_mirror.specs.Mirrors.{HasMirrorCause, MirrorCalls, dropped, mirror_query}
use Rattle.tg_mirror.specs.declared.fault.MirrorFault.{MirrorFault}
use Rattle.tg_mirror.specs.declared.fault.MirrorFault.TheVariants as faults
use Rattle.tg_mirror.specs.declared.mirrored.Mirrored.{Mirrored}
use Rattle.tg_model.specs.Dag.{Dag, root_cid}
use Rattle.tg_model.specs.LimitNumbers.{standard}
use Rattle.tg_model.specs.Sound.{IsSound}
use Rattle.tg_store.specs.declared.fault.PackFault.TheVariants as packs
use Rattle.tg_streams.specs.Streams.{Output, OutputQuiet, OutputRose}
use Rattle.tg_verify.specs.declared.fault.Refusal.TheVariants as verifiers
use Rattle.tg_words.specs.MirrorLines.{MirrorParts}

-- a refusal of another status
apart_from : (n : ℕ) (refusal given : CommandFault) → nat_eq (status_of given) n ≡ false → status_of refusal ≡ n → refusal ≡ given → ⊥
apart_from n refusal given apart e is = differs (status_of given) n apart (sym (ap status_of is) ∙ e)

-- the status of the fault of a call, where it isn't 8
call_status : (n : ℕ) (fault : FetchFault) (refusal : CommandFault) → nat_eq n 8 ≡ false → status_of refusal ≡ n → IsMirrorRefusal (faults.Client fault) refusal → fetch_status fault ≡ n
call_status n fault refusal apart e is = by_status n fault apart (subst (IsStatusOf fault) e (refusal_status fault refusal is))

-- ---- status 2

no_refusal : (fault : MirrorFault) → IsMirrorRefusal fault refusals.Usage → ⊥
no_refusal (faults.Client fault) is = no_fetch_refusal fault is
no_refusal (faults.Pack fault) is = apart_from 2 refusals.Usage refusals.PackFault refl refl is

no_usage_in : (parts : MirrorParts) (pack : PackStep) (dial : DialUse) (out : Output) → MirrorEnds parts pack dial out (Some refusals.Usage) → ⊥
no_usage_in parts pack dial out (inl refused) = no_refusal refused.fault refused.is
no_usage_in parts pack dial out (inr (inl none)) = apart_from 2 refusals.Usage refusals.PackFault refl refl none.is
no_usage_in parts pack dial out (inr (inr (inl unput))) = apart_from 2 refusals.Usage refusals.SinkFault refl refl unput.is
no_usage_in parts pack dial out (inr (inr (inr unsaid))) = apart_from 2 refusals.Usage refusals.OutOfMemory refl refl unsaid.is

pub no_mirror_usage : (parts : MirrorParts) (files : Files) (dial : DialUse) (out : Output) → MirrorAnswers parts files dial out (Some refusals.Usage) → ⊥
no_mirror_usage parts files dial out (inl handled) = no_usage_in parts files.pack dial out handled.ends
no_mirror_usage parts files dial out (inr (refusal, e, unbegun)) = let wrong : Some refusals.Usage ≡ Some refusals.OutOfMemory = e ∙ ap Some unbegun.is in cc

-- ---- a status of its own

own_in : (parts : MirrorParts) (pack : PackStep) (dial : DialUse) (out : Output) (refusal : CommandFault) → MirrorEnds parts pack dial out (Some refusal) → IsOwn refusal
own_in parts pack dial out refusal (inl refused) = mirror_refusal_own refused.fault refusal refused.is
own_in parts pack dial out refusal (inr (inl none)) = λ words status e. let is = none.is in cc
own_in parts pack dial out refusal (inr (inr (inl unput))) = λ words status e. let is = unput.is in cc
own_in parts pack dial out refusal (inr (inr (inr unsaid))) = λ words status e. let is = unsaid.is in cc

pub mirror_own : (parts : MirrorParts) (files : Files) (dial : DialUse) (out : Output) (refusal : CommandFault) → MirrorAnswers parts files dial out (Some refusal) → IsOwn refusal
mirror_own parts files dial out refusal (inl handled) = own_in parts files.pack dial out refusal handled.ends
mirror_own parts files dial out refusal (inr (told, is, unbegun)) = λ words status e. let memory = unbegun.is in cc

-- ---- want of memory before anything was done

pub mirror_unbegun : (parts : MirrorParts) (files : Files) (dial : DialUse) (out : Output) (end : Option CommandFault) → end ≡ Some refusals.OutOfMemory
    → files.same_pack → dial.same_dial → OutputUntouched out → MirrorAnswers parts files dial out end
mirror_unbegun parts files dial out end is same undialled unput =
    inr (refusals.OutOfMemory, is, record { same_pack = same; undialled = undialled; unput = unput; is = refl })

unbegun_8 : (files : Files) (dial : DialUse) (out : Output) (end : Option CommandFault) (refusal : CommandFault) → end ≡ Some refusal → MirrorUnbegun files dial out refusal → exit_status end ≡ 8
unbegun_8 files dial out end refusal e unbegun = ap exit_status e ∙ ap status_of unbegun.is

-- ---- status 0

pub mirrored_of : (parts : MirrorParts) (files : Files) (dial : DialUse) (out : Output) (end : Option CommandFault) → exit_status end ≡ 0 → MirrorAnswers parts files dial out end
    → IsMirroredInto parts files.pack dial.dialling out
mirrored_of parts files dial out None e (inl handled) = handled.ends
mirrored_of parts files dial out (Some refusal) e ends = absurd (not_zero refusal (mirror_own parts files dial out refusal ends) e)
mirrored_of parts files dial out end e (inr (refusal, is, unbegun)) =
    absurd (differs 8 0 refl (sym (unbegun_8 files dial out end refusal is unbegun) ∙ e))

pub mirror_vouched_of : (parts : MirrorParts) (d : Dag) (files : Files) (dial : DialUse) (out : Output) (end : Option CommandFault) → exit_status end ≡ 0 → IsSound d → root_cid d ≡ parts.root
    → MirrorAnswers parts files dial out end → VouchedMirror parts d files.pack dial.dialling
mirror_vouched_of parts d files dial out end e sound root ends =
    let did = (mirrored_of parts files dial out end e ends).is_mirrored in
    let answer = did.answer in
    record {
      heard = did.heard;
      heard_in = did.heard_in;
      sections = answer.sections;
      received = carried answer.front answer.more answer.ended answer.whole answer.answered.carries;
      serves = did.serves d sound root;
    }

-- ---- another status

unsaid_mirror : (parts : MirrorParts) (pack : PackStep) (dial : Dialling) (said : Mirrored → Type 0) → IsInMirror parts pack dial said → IsInMirror parts pack dial (λ mirrored. ⊤)
unsaid_mirror parts pack dial said did = record {
  mirrored = did.mirrored;
  place = did.place;
  called = did.called;
  is_mirrored = did.is_mirrored;
  written = did.written;
  quiet = did.quiet;
  is_said = tt;
}

left_in : (parts : MirrorParts) (files : Files) (dial : DialUse) (out : Output) (end : Option CommandFault) → exit_status end ≢ 0 → MirrorEnds parts files.pack dial out end
    → IsLeftMirror parts files dial.dialling
left_in parts files dial out None ne ends = absurd (ne refl)
left_in parts files dial out (Some refusal) ne (inl refused) = inr (inr (inl refused.unfinished))
left_in parts files dial out (Some refusal) ne (inr (inl none)) = inr (inl none.same)
left_in parts files dial out (Some refusal) ne (inr (inr (inl unput))) = inr (inr (inr (unsaid_mirror parts files.pack dial.dialling _ unput.in_mirror)))
left_in parts files dial out (Some refusal) ne (inr (inr (inr unsaid))) = inr (inr (inr (unsaid_mirror parts files.pack dial.dialling _ unsaid.in_mirror)))

pub mirror_left_of : (parts : MirrorParts) (files : Files) (dial : DialUse) (out : Output) (end : Option CommandFault) → exit_status end ≢ 0 → MirrorAnswers parts files dial out end
    → IsLeftMirror parts files dial.dialling
mirror_left_of parts files dial out end ne (inl handled) = left_in parts files dial out end ne handled.ends
mirror_left_of parts files dial out end ne (inr (refusal, is, unbegun)) = inl unbegun.same_pack

-- ---- status 5

peer_called : (parts : MirrorParts) (untouched : Type 0) (dial : Dialling) (fault : FetchFault) → fault ≡ fetches.PeerFault
    → MirrorCalls parts.root standard parts.addr untouched dial (Err (faults.Client fault)) → FetchEnds (mirror_query parts.root) standard parts.addr dial dropped (Err fetches.PeerFault)
peer_called parts untouched dial fault is called =
    subst (λ (f : FetchFault). MirrorCalls parts.root standard parts.addr untouched dial (Err (faults.Client f))) is called

rose_by : (parts : MirrorParts) (untouched : Type 0) (dial : Dialling) (fault : MirrorFault) (refusal : CommandFault) → status_of refusal ≡ 5 → IsMirrorRefusal fault refusal
    → MirrorCalls parts.root standard parts.addr untouched dial (Err fault) → DialRose dial
rose_by parts untouched dial (faults.Client fault) refusal e is called =
    peer_rose (mirror_query parts.root) standard parts.addr dial dropped
    (peer_called parts untouched dial fault (peer_at_5 fault (call_status 5 fault refusal refl e is)) called)
rose_by parts untouched dial (faults.Pack fault) refusal e is called = absurd (apart_from 5 refusal refusals.PackFault refl e is)

rose_in : (parts : MirrorParts) (pack : PackStep) (dial : DialUse) (out : Output) (end : Option CommandFault) → exit_status end ≡ 5 → MirrorEnds parts pack dial out end → DialRose dial.dialling
rose_in parts pack dial out None e ends = absurd (differs 0 5 refl e)
rose_in parts pack dial out (Some refusal) e (inl refused) = rose_by parts dial.same_dial dial.dialling refused.fault refusal e refused.is refused.called
rose_in parts pack dial out (Some refusal) e (inr (inl none)) = absurd (apart_from 5 refusal refusals.PackFault refl e none.is)
rose_in parts pack dial out (Some refusal) e (inr (inr (inl unput))) = absurd (apart_from 5 refusal refusals.SinkFault refl e unput.is)
rose_in parts pack dial out (Some refusal) e (inr (inr (inr unsaid))) = absurd (apart_from 5 refusal refusals.OutOfMemory refl e unsaid.is)

pub mirror_rose_of : (parts : MirrorParts) (files : Files) (dial : DialUse) (out : Output) (end : Option CommandFault) → exit_status end ≡ 5 → MirrorAnswers parts files dial out end
    → DialRose dial.dialling
mirror_rose_of parts files dial out end e (inl handled) = rose_in parts files.pack dial out end e handled.ends
mirror_rose_of parts files dial out end e (inr (refusal, is, unbegun)) = absurd (differs 8 5 refl (sym (unbegun_8 files dial out end refusal is unbegun) ∙ e))

-- ---- status 6

pack_at_6 : (pack : PackStep) (fault : FetchFault) → fetch_status fault ≡ 6 → HasMirrorCause pack (Err (faults.Client fault)) → PackRose pack
pack_at_6 pack fetches.KeepFault e cause = cause
pack_at_6 pack (fetches.Refused verifiers.SinkFault) e cause = absurd cause
pack_at_6 pack (fetches.Refused (verifiers.Extra sections)) e cause = cc
pack_at_6 pack (fetches.Refused fault) e cause = cc
pack_at_6 pack fault e cause = cc

pack_by : (pack : PackStep) (fault : MirrorFault) (refusal : CommandFault) → status_of refusal ≡ 6 → IsMirrorRefusal fault refusal → HasMirrorCause pack (Err fault) → PackRose pack
pack_by pack (faults.Client fault) refusal e is cause = pack_at_6 pack fault (call_status 6 fault refusal refl e is) cause
pack_by pack (faults.Pack packs.Failed) refusal e is cause = cause
pack_by pack (faults.Pack fault) refusal e is cause = absurd cause

fault_in : (parts : MirrorParts) (pack : PackStep) (dial : DialUse) (out : Output) (end : Option CommandFault) → exit_status end ≡ 6 → MirrorEnds parts pack dial out end
    → PackRose pack ⊎ OutputRose out
fault_in parts pack dial out None e ends = absurd (differs 0 6 refl e)
fault_in parts pack dial out (Some refusal) e (inl refused) = inl (pack_by pack refused.fault refusal e refused.is refused.cause)
fault_in parts pack dial out (Some refusal) e (inr (inl none)) = inl none.rose
fault_in parts pack dial out (Some refusal) e (inr (inr (inl unput))) = inr unput.in_mirror.is_said.is_put.rose
fault_in parts pack dial out (Some refusal) e (inr (inr (inr unsaid))) = absurd (apart_from 6 refusal refusals.OutOfMemory refl e unsaid.is)

pub mirror_fault_of : (parts : MirrorParts) (files : Files) (dial : DialUse) (out : Output) (end : Option CommandFault) → exit_status end ≡ 6 → MirrorAnswers parts files dial out end
    → PackRose files.pack ⊎ OutputRose out
mirror_fault_of parts files dial out end e (inl handled) = fault_in parts files.pack dial out end e handled.ends
mirror_fault_of parts files dial out end e (inr (refusal, is, unbegun)) = absurd (differs 8 6 refl (sym (unbegun_8 files dial out end refusal is unbegun) ∙ e))

quiet_in : (parts : MirrorParts) (pack : PackStep) (dial : DialUse) (out : Output) (end : Option CommandFault) → exit_status end ≢ 6 → MirrorEnds parts pack dial out end → OutputQuiet out
quiet_in parts pack dial out None ne ends = ends.is_said.is_put.quiet
quiet_in parts pack dial out (Some refusal) ne (inl refused) = refused.unput.quiet
quiet_in parts pack dial out (Some refusal) ne (inr (inl none)) = none.unput.quiet
quiet_in parts pack dial out (Some refusal) ne (inr (inr (inl unput))) = absurd (ne (ap status_of unput.is))
quiet_in parts pack dial out (Some refusal) ne (inr (inr (inr unsaid))) = unsaid.in_mirror.is_said.quiet

pub mirror_quiet : (parts : MirrorParts) (files : Files) (dial : DialUse) (out : Output) (end : Option CommandFault) → exit_status end ≢ 6 → MirrorAnswers parts files dial out end → OutputQuiet out
mirror_quiet parts files dial out end ne (inl handled) = quiet_in parts files.pack dial out end ne handled.ends
mirror_quiet parts files dial out end ne (inr (refusal, is, unbegun)) = unbegun.unput.quiet

-- ---- a good reply

-- a counted fault or want of memory is left
done_8 : (pack : PackStep) (dial : Dialling) (out : Output) (end : Option CommandFault) → (DialRose dial → ⊥) → (PackRose pack → ⊥) → (OutputRose out → ⊥)
    → (exit_status end ≡ 5 → DialRose dial) → (exit_status end ≡ 6 → PackRose pack ⊎ OutputRose out) → IsDoneElse end → (exit_status end ≡ 8) ⊎ (exit_status end ≡ 0)
done_8 pack dial out None no_dial no_pack no_out five six done = inr refl
done_8 pack dial out (Some refusals.PeerFault) no_dial no_pack no_out five six done = absurd (no_dial (five refl))
done_8 pack dial out (Some refusals.PackFault) no_dial no_pack no_out five six done = absurd (elim (six refl) [ inl rose ↦ no_pack rose | inr rose ↦ no_out rose ])
done_8 pack dial out (Some refusals.SinkFault) no_dial no_pack no_out five six done = absurd (elim (six refl) [ inl rose ↦ no_pack rose | inr rose ↦ no_out rose ])
done_8 pack dial out (Some refusals.OutOfMemory) no_dial no_pack no_out five six done = inl refl
done_8 pack dial out (Some refusal) no_dial no_pack no_out five six done = absurd done

pub mirror_answered_of : (parts : MirrorParts) (files : Files) (dial : DialUse) (out : Output) (end : Option CommandFault) → IsGoodMirrorReply parts.root dial.dialling
    → (DialRose dial.dialling → ⊥) → (PackRose files.pack → ⊥) → (OutputRose out → ⊥) → MirrorAnswers parts files dial out end → (exit_status end ≡ 8) ⊎ (exit_status end ≡ 0)
mirror_answered_of parts files dial out end good no_dial no_pack no_out (inl handled) =
    done_8 files.pack dial.dialling out end no_dial no_pack no_out (λ five. rose_in parts files.pack dial out end five handled.ends)
    (λ six. fault_in parts files.pack dial out end six handled.ends) (handled.accepts good)
mirror_answered_of parts files dial out end good no_dial no_pack no_out (inr (refusal, is, unbegun)) = inl (unbegun_8 files dial out end refusal is unbegun)
