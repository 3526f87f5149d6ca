-- `fetch` and `verify` with `--into` end as the call or the verification that goes into the extract does, and then the extract.
use Rattle.std.proofs.Common.{◌≡◌, ◌≢◌, ◌≤◌, ℕ, ap, arith, inl, inr, length, List, None, Option, Some, Ok, Err, refl, subst, sym, []}
use Rattle.std.specs.Prelude.{IfSome, IsErr, IsSomeAnd, OnErr, OnOk, Result, ⊤}
use Rattle.tg_app.specs.Intos.{FinishEnds, IntoEnds, IsStopRefusal}
use Rattle.tg_client.specs.Ends.{HasStreamCause, IsAcceptedElse, Verifies}
use Rattle.tg_client.specs.Received.{IsCarOf}
use Rattle.tg_client.specs.Telling.{telling}
use Rattle.tg_client.specs.declared.fault.ClientFault.{ClientFault}
use Rattle.tg_client.specs.declared.fault.ClientFault.TheVariants as clients
use Rattle.tg_commands.specs.Blocks.{OutputUntouched}
use Rattle.tg_commands.specs.Verify.{IsGoodCar, IsVerifyRefusal, VerifyEnds}
use Rattle.tg_commands.specs.declared.fault.CommandFault.{CommandFault}
use Rattle.tg_commands.specs.declared.fault.CommandFault.TheVariants as refusals
use Rattle.tg_extract.specs.Extracts.{ExtractState, Extracts, HasCause, IsAtStage, IsRead, IsStoppedAt, IsStuck}
use Rattle.tg_extract.specs.declared.fault.ExtractFault.{ExtractFault}
use Rattle.tg_faults.specs.Faults.{Rose}
use Rattle.tg_faults.specs.declared.calls.Failed.{Failed}
use Rattle.tg_fetch.specs.Faults.{QuietUnlessSink}
use Rattle.tg_fetch.specs.Keeping.{HasFaultCause}
use Rattle.tg_fetch.specs.declared.fault.FetchFault.{FetchFault}
use Rattle.tg_fetch.specs.declared.fault.FetchFault.TheVariants as fetches
use Rattle.tg_model.specs.Answer.{answer}
use Rattle.tg_model.specs.Dag.{Dag, Section, root_cid}
use Rattle.tg_model.specs.Fits.{Fits, HasOneBlockEach, IfOnce}
use Rattle.tg_model.specs.LimitNumbers.{LimitNumbers, standard}
use Rattle.tg_model.specs.Queries.{QueryParts}
use Rattle.tg_model.specs.Sound.{IsSound}
use Rattle.tg_model.specs.Stores.{Keeping}
use Rattle.tg_model.specs.Traversal.{block_list, opened_list}
use Rattle.tg_new_tree.specs.NewTrees.{NewTreeMeaning, new_tree_step}
use Rattle.tg_streams.specs.Streams.{Input, Output, SinkMeaning, into}
use Rattle.tg_verify.specs.Laws.{IsWithinLimits}
use Rattle.tg_verify.specs.declared.fault.Refusal.TheVariants as verifiers

-- ---- a call whose keeper drops each block

never_rose : (before now : ℕ) → before ≡ 0 → now ≡ 0 → Rose before now → ⊥
never_rose before now old new rose = let less = rose (omega (arith, old)) in omega (arith, less, old, new)

-- no fault of such a keeper is counted
pub quiet_unless_sink : (out : Output) (keeping : Keeping) (result : Result ⊤ FetchFault) → keeping.faults_old ≡ 0 → keeping.faults_new ≡ 0 → HasFaultCause out keeping result
    → QuietUnlessSink out result
quiet_unless_sink out keeping (Err (fetches.Refused verifiers.SinkFault)) old new h = h.0
quiet_unless_sink out keeping (Err (fetches.Refused fault)) old new h = h.0
quiet_unless_sink out keeping (Err fetches.KeepFault) old new h = absurd (never_rose keeping.faults_old keeping.faults_new old new h.1)
quiet_unless_sink out keeping result old new h = h.0

-- ---- a verification

-- the cause of a fault speaks of counts alone
pub cause_telling : {S : Type 0} (input : Input) (m : SinkMeaning S) (wrote : S → S → List ℕ → Type 0) (a b : S) (result : Result ⊤ ClientFault)
    → HasStreamCause input (into m a b) result → HasStreamCause input (into (telling m wrote) a b) result
cause_telling input m wrote a b (Err (clients.Refused verifiers.SinkFault)) h = h
cause_telling input m wrote a b (Err (clients.Refused fault)) h = h
cause_telling input m wrote a b (Err clients.InputFault) h = h
cause_telling input m wrote a b (Err clients.KeepFault) h = h
cause_telling input m wrote a b result h = h

-- how it ended, by its refusal
abbrev pub IsVerifyEnd : Result ⊤ ClientFault → Option CommandFault → Type 0
IsVerifyEnd (Ok done) end = end ≡ None
IsVerifyEnd (Err fault) end = (refusal : CommandFault) × (end ≡ Some refusal) × IsVerifyRefusal fault refusal

pub verify_done : (result : Result ⊤ ClientFault) (end : Option CommandFault) → IsVerifyEnd result end → end ≡ None → result ≡ Ok tt
verify_done (Ok done) end is none = refl
verify_done (Err fault) end (refusal, is, tells) none = cc

module _ (q : QueryParts) (limits : LimitNumbers) (input : Input) (out : Output) (are : limits ≡ standard) where
  within : (d : Dag) → IsWithinLimits q standard d → IsWithinLimits q limits d
  within d h = subst (λ (l : LimitNumbers). IsWithinLimits q l d) (sym are) h

  good_is_taken : (result : Result ⊤ ClientFault) (bytes : List ℕ)
      → ((d : Dag) (bytes text : List ℕ) → input.left_old ≡ Some bytes → IsSound d → root_cid d ≡ q.root → answer q d ≡ Some text
      → IfOnce q.dups (HasOneBlockEach (opened_list q d)) → IsCarOf bytes (block_list q d) → IsWithinLimits q limits d → length bytes ≤ limits.received → IsAcceptedElse result)
      → ((d : Dag) (sections : List Section) (bytes text : List ℕ) → input.left_old ≡ Some bytes → Fits d q sections text
      → IsCarOf bytes sections → IsWithinLimits q limits d → length bytes ≤ limits.received → IsAcceptedElse result)
      → input.left_old ≡ Some bytes → IsGoodCar q bytes → IsAcceptedElse result
  good_is_taken result bytes own fitting told good =
      let few : length bytes ≤ limits.received = subst (λ (l : LimitNumbers). length bytes ≤ l.received) (sym are) good.1 in
      elim good.0 [
        | inl (d, text, car) ↦ own d bytes text told car.sound car.root car.answers car.one_each car.is_car (within d car.within) few
        | inr car ↦ fitting car.d car.sections bytes car.text told car.fits car.is_car (within car.d car.within) few
      ]

  pub verify_ends : (result : Result ⊤ ClientFault) (end : Option CommandFault) → IsVerifyEnd result end → Verifies q limits input out result → HasStreamCause input out result
      → ((d : Dag) (bytes text : List ℕ) → input.left_old ≡ Some bytes → IsSound d → root_cid d ≡ q.root → answer q d ≡ Some text
      → IfOnce q.dups (HasOneBlockEach (opened_list q d)) → IsCarOf bytes (block_list q d) → IsWithinLimits q limits d → length bytes ≤ limits.received → IsAcceptedElse result)
      → ((d : Dag) (sections : List Section) (bytes text : List ℕ) → input.left_old ≡ Some bytes → Fits d q sections text
      → IsCarOf bytes sections → IsWithinLimits q limits d → length bytes ≤ limits.received → IsAcceptedElse result)
      → VerifyEnds q input out end
  verify_ends (Ok done) end is verifies cause own fitting = subst (VerifyEnds q input out) (sym is) (record {
    done = done;
    verifies = subst (λ (l : LimitNumbers). Verifies q l input out (Ok done)) are verifies;
    cause = cause;
  })
  verify_ends (Err fault) end (refusal, is, tells) verifies cause own fitting = subst (VerifyEnds q input out) (sym is) (record {
    fault = fault;
    tells = tells;
    verifies = subst (λ (l : LimitNumbers). Verifies q l input out (Err fault)) are verifies;
    cause = cause;
    else = λ bytes told good. good_is_taken (Err fault) bytes own fitting told good;
  })

-- ---- the extract is finished

module _ {T : Type 0} (m : NewTreeMeaning T) (called new : ExtractState T) (text : Extracts m called new []) (at : IsAtStage (m.made new.tree) new.stage)
    (stopped : IfSome new.refused (IsStoppedAt new.stage)) where
  pub finish_ends : (result : Result ⊤ Failed) → OnOk result ((new.refused ≡ None) × (new.faults ≡ called.faults)) → OnOk result (IsRead new.stage) → OnOk result (IsStuck new.stage → ⊥)
      → OnOk result (new.unread ≡ []) → (called.refused ≡ None → OnErr result (IsSomeAnd new.refused (HasCause new.stage (new_tree_step m called.tree new.tree))))
      → ((fault : ExtractFault) → called.refused ≡ Some fault → IsErr result × (new ≡ record called { faults = new.faults })) → FinishEnds m called new result
  finish_ends (Ok done) quiet read going all cause again =
      record { text = text; at = at; stopped = stopped; ends = record { all = all; read = read; going = going; refused = quiet.0 } }
  finish_ends (Err failed) quiet read going all cause again =
      record { text = text; at = at; stopped = stopped; ends = record { now = cause; before = λ fault is. let h = again fault is in h.1 } }

-- ---- an answer that was refused

-- out, which is the extract, failed, and so why that stopped is told; or another refusal stays
pub into_refused : {T : Type 0} (m : NewTreeMeaning T) (new : ExtractState T) (refusal : CommandFault) (finished : Result ⊤ Failed) (out : Output) (told : CommandFault)
    → OutputUntouched out → (refusal ≡ refusals.SinkFault → IsStopRefusal new.stage new.refused told) → (refusal ≢ refusals.SinkFault → told ≡ refusal)
    → IntoEnds m new (Some refusal) finished out (Some told)
into_refused m new refusals.SinkFault finished out told unput stopped other = record { refusal = told; end_is = refl; tells = stopped refl; unput = unput }
into_refused m new refusal finished out told unput stopped other = (ap Some (other (λ e. cc)), unput)
