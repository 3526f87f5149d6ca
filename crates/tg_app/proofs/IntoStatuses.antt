-- The statuses of commands that make a folder of an answer.
use Rattle.std.proofs.Common.{List, None, Option, Some, ap, false, inl, inr, nat_eq, refl, subst, sym, ℕ, ◌∙◌, ◌≡◌, ◌≢◌, ◌⊎◌}
use Rattle.std.specs.Prelude.{Err, Ok, Result, ⊤}
use Rattle.tg_app.proofs.Statuses.{IsOwn, differs, not_zero}
use Rattle.tg_app.specs.Intos.{IntoEnds, IsLinkRefusal, IsStopRefusal, StopEnds, counts_line}
use Rattle.tg_commands.specs.Blocks.{OutputUntouched}
use Rattle.tg_commands.specs.Lines.{PutAll, PutEnds, exit_status, status_of}
use Rattle.tg_commands.specs.declared.fault.CommandFault.{CommandFault}
use Rattle.tg_commands.specs.declared.fault.CommandFault.TheVariants as refusals
use Rattle.tg_extract.specs.Counts.{counts_of}
use Rattle.tg_extract.specs.Extracts.{ExtractState, link_at}
use Rattle.tg_extract.specs.declared.extract.Stage.{Stage}
use Rattle.tg_extract.specs.declared.fault.ExtractFault.{ExtractFault}
use Rattle.tg_extract.specs.declared.fault.ExtractFault.TheVariants as extracts
use Rattle.tg_faults.specs.declared.calls.Failed.{Failed}
use Rattle.tg_new_tree.specs.NewTrees.{NewTreeMeaning}
use Rattle.tg_streams.specs.Streams.{Output, OutputQuiet}

-- ---- the refusals

link_own : (link : Option (List (List ℕ))) (refusal : CommandFault) → IsLinkRefusal link refusal → IsOwn refusal
link_own None refusal h = absurd h
link_own (Some path) refusal (inl is) = λ words status e. cc
link_own (Some path) refusal (inr is) = λ words status e. cc

stop_own : (stage : Stage) (refused : Option ExtractFault) (refusal : CommandFault) → IsStopRefusal stage refused refusal → IsOwn refusal
stop_own stage None refusal is = λ words status e. cc
stop_own stage (Some extracts.Tree) refusal is = λ words status e. cc
stop_own stage (Some extracts.NotPlain) refusal h = link_own (link_at stage) refusal h
stop_own stage (Some extracts.BadText) refusal is = λ words status e. cc
stop_own stage (Some extracts.OutOfMemory) refusal is = λ words status e. cc

put_own : (text : List ℕ) (out : Output) (refusal : CommandFault) → PutEnds text out (Some refusal) → IsOwn refusal
put_own text out refusals.SinkFault h = λ words status e. cc
put_own text out refusal h = absurd h

-- the status of a stop is 6, 7 or 8
abbrev pub IsStopStatus : ℕ → Type 0
IsStopStatus n = (n ≡ 6) ⊎ ((n ≡ 7) ⊎ (n ≡ 8))

link_status : (link : Option (List (List ℕ))) (refusal : CommandFault) → IsLinkRefusal link refusal → IsStopStatus (status_of refusal)
link_status None refusal h = absurd h
link_status (Some path) refusal (inl is) = inl (ap status_of is)
link_status (Some path) refusal (inr is) = inr (inr (ap status_of is))

stop_status : (stage : Stage) (refused : Option ExtractFault) (refusal : CommandFault) → IsStopRefusal stage refused refusal → IsStopStatus (status_of refusal)
stop_status stage None refusal is = inl (ap status_of is)
stop_status stage (Some extracts.Tree) refusal is = inl (ap status_of is)
stop_status stage (Some extracts.NotPlain) refusal h = link_status (link_at stage) refusal h
stop_status stage (Some extracts.BadText) refusal is = inr (inl (ap status_of is))
stop_status stage (Some extracts.OutOfMemory) refusal is = inr (inr (ap status_of is))

stops : {T : Type 0} (new : ExtractState T) (out : Output) (end : Option CommandFault) → StopEnds new out end → IsStopStatus (exit_status end)
stops new out end h = subst IsStopStatus (sym (ap exit_status h.end_is)) (stop_status new.stage new.refused h.refusal h.tells)

-- a number that is none of these
pub record IsOther (n : ℕ) : Type 0 where
  pub zero : nat_eq 0 n ≡ false
  pub six : nat_eq 6 n ≡ false
  pub seven : nat_eq 7 n ≡ false
  pub eight : nat_eq 8 n ≡ false

no_stop : (n m : ℕ) → IsOther n → m ≡ n → IsStopStatus m → ⊥
no_stop n m other e (inl six) = differs 6 n other.six (sym six ∙ e)
no_stop n m other e (inr (inl seven)) = differs 7 n other.seven (sym seven ∙ e)
no_stop n m other e (inr (inr eight)) = differs 8 n other.eight (sym eight ∙ e)

put_other : (n : ℕ) (text : List ℕ) (out : Output) (end : Option CommandFault) → IsOther n → exit_status end ≡ n → PutEnds text out end → ⊥
put_other n text out None other e h = differs 0 n other.zero e
put_other n text out (Some refusals.SinkFault) other e h = differs 6 n other.six e
put_other n text out (Some refusal) other e h = absurd h

zero_stop : (m : ℕ) → m ≡ 0 → IsStopStatus m → ⊥
zero_stop m e (inl six) = differs 6 0 refl (sym six ∙ e)
zero_stop m e (inr (inl seven)) = differs 7 0 refl (sym seven ∙ e)
zero_stop m e (inr (inr eight)) = differs 8 0 refl (sym eight ∙ e)

put_zero : (text : List ℕ) (out : Output) (end : Option CommandFault) → exit_status end ≡ 0 → PutEnds text out end → PutAll text out
put_zero text out None e h = h
put_zero text out (Some refusals.SinkFault) e h = absurd (differs 6 0 refl e)
put_zero text out (Some refusal) e h = absurd h

put_quiet : (text : List ℕ) (out : Output) (end : Option CommandFault) → exit_status end ≢ 6 → PutEnds text out end → OutputQuiet out
put_quiet text out None ne h = h.quiet
put_quiet text out (Some refusals.SinkFault) ne h = absurd (ne refl)
put_quiet text out (Some refusal) ne h = absurd h

-- ---- how a command ends

-- all was made, and told
pub record AllDone {T : Type 0} (m : NewTreeMeaning T) (new : ExtractState T) (inner : Option CommandFault) (finished : Result ⊤ Failed) (out : Output) : Type 0 where
  pub accepted : inner ≡ None
  pub done : ⊤
  pub is_finished : finished ≡ Ok done
  pub put : PutAll (counts_line (counts_of (m.made new.tree))) out

module _ {T : Type 0} (m : NewTreeMeaning T) (new : ExtractState T) (out : Output) (end : Option CommandFault) where
  pub all_done : (inner : Option CommandFault) (finished : Result ⊤ Failed) → ((refusal : CommandFault) → inner ≡ Some refusal → IsOwn refusal) → exit_status end ≡ 0
      → IntoEnds m new inner finished out end → AllDone m new inner finished out
  all_done None (Ok done) own e h = record { accepted = refl; done = done; is_finished = refl; put = put_zero (counts_line (counts_of (m.made new.tree))) out end e h }
  all_done None (Err failed) own e h = absurd (zero_stop (exit_status end) e (stops new out end h))
  all_done (Some refusals.SinkFault) finished own e h = absurd (zero_stop (exit_status end) e (stops new out end h))
  all_done (Some refusal) finished own e h = absurd (not_zero refusal (own refusal refl) (sym (ap exit_status h.0) ∙ e))

  -- a status that no stop has is that of the answer's refusal
  pub inner_has : (n : ℕ) (inner : Option CommandFault) (finished : Result ⊤ Failed) → IsOther n → exit_status end ≡ n → IntoEnds m new inner finished out end → exit_status inner ≡ n
  inner_has n None (Ok done) other e h = absurd (put_other n (counts_line (counts_of (m.made new.tree))) out end other e h)
  inner_has n None (Err failed) other e h = absurd (no_stop n (exit_status end) other e (stops new out end h))
  inner_has n (Some refusals.SinkFault) finished other e h = absurd (no_stop n (exit_status end) other e (stops new out end h))
  inner_has n (Some refusal) finished other e h = sym (ap exit_status h.0) ∙ e

  pub into_unput : (n : ℕ) (inner : Option CommandFault) (finished : Result ⊤ Failed) → IsOther n → exit_status end ≡ n → IntoEnds m new inner finished out end → OutputUntouched out
  into_unput n None (Ok done) other e h = absurd (put_other n (counts_line (counts_of (m.made new.tree))) out end other e h)
  into_unput n None (Err failed) other e h = h.unput
  into_unput n (Some refusals.SinkFault) finished other e h = h.unput
  into_unput n (Some refusal) finished other e h = h.1

  pub into_quiet : (inner : Option CommandFault) (finished : Result ⊤ Failed) → exit_status end ≢ 6 → IntoEnds m new inner finished out end → OutputQuiet out
  into_quiet None (Ok done) ne h = put_quiet (counts_line (counts_of (m.made new.tree))) out end ne h
  into_quiet None (Err failed) ne h = h.unput.quiet
  into_quiet (Some refusals.SinkFault) finished ne h = h.unput.quiet
  into_quiet (Some refusal) finished ne h = h.1.quiet

-- a refusal with which it ends is its own
some_is : (a b : CommandFault) → ◌≡◌ {A = Option CommandFault} (Some a) (Some b) → a ≡ b
some_is a b e = cc e

own_same : (a b : CommandFault) → a ≡ b → IsOwn b → IsOwn a
own_same a b e h = subst IsOwn (sym e) h

pub into_own : {T : Type 0} (m : NewTreeMeaning T) (new : ExtractState T) (out : Output) (refusal : CommandFault) (inner : Option CommandFault) (finished : Result ⊤ Failed)
    → ((refusal : CommandFault) → inner ≡ Some refusal → IsOwn refusal) → IntoEnds m new inner finished out (Some refusal) → IsOwn refusal
into_own m new out refusal None (Ok done) own h = put_own (counts_line (counts_of (m.made new.tree))) out refusal h
into_own m new out refusal None (Err failed) own h = own_same refusal h.refusal (some_is refusal h.refusal h.end_is) (stop_own new.stage new.refused h.refusal h.tells)
into_own m new out refusal (Some refusals.SinkFault) finished own h =
    own_same refusal h.refusal (some_is refusal h.refusal h.end_is) (stop_own new.stage new.refused h.refusal h.tells)
into_own m new out refusal (Some other) finished own h = own_same refusal other (some_is refusal other h.0) (own other refl)

-- none says that the words are no command
pub no_into_usage : {T : Type 0} (m : NewTreeMeaning T) (new : ExtractState T) (out : Output) (inner : Option CommandFault) (finished : Result ⊤ Failed)
    → (inner ≡ Some refusals.Usage → ⊥) → IntoEnds m new inner finished out (Some refusals.Usage) → ⊥
no_into_usage m new out None (Ok done) never h = h
no_into_usage m new out None (Err failed) never h = no_stop 2 2 (record { zero = refl; six = refl; seven = refl; eight = refl }) refl (stops new out (Some refusals.Usage) h)
no_into_usage m new out (Some refusals.SinkFault) finished never h =
    no_stop 2 2 (record { zero = refl; six = refl; seven = refl; eight = refl }) refl (stops new out (Some refusals.Usage) h)
no_into_usage m new out (Some other) finished never h = never (sym h.0)
