-- `verify` ends as the verification of the CAR does.
use Rattle.std.proofs.Common.{◌≡◌, ℕ, ◌≤◌, inl, inr, List, length, Some, Ok, Err, sym, subst}
use Rattle.std.specs.Prelude.{Result, ⊤}
use Rattle.tg_commands.specs.Verify.{Accepted, IsGoodCar, IsVerifyRefusal, NotAccepted}
use Rattle.tg_commands.specs.declared.fault.CommandFault.{CommandFault}
use Rattle.tg_client.specs.Ends.{HasStreamCause, IsAcceptedElse, Verifies}
use Rattle.tg_client.specs.Received.{IsCarOf}
use Rattle.tg_client.specs.declared.fault.ClientFault.{ClientFault}
use Rattle.tg_model.specs.Answer.{answer}
use Rattle.tg_model.specs.Dag.{Dag, Section, root_cid}
use Rattle.tg_model.specs.Fits.{Fits, HasOneBlockEach, IfOnce}
use Rattle.tg_model.specs.LimitNumbers.{LimitNumbers, standard}
use Rattle.tg_model.specs.Queries.{QueryParts}
use Rattle.tg_model.specs.Sound.{IsSound}
use Rattle.tg_model.specs.Traversal.{block_list, opened_list}
use Rattle.tg_streams.specs.Streams.{Input, Output}
use Rattle.tg_verify.specs.Laws.{IsWithinLimits}

module _ (q : QueryParts) (limits : LimitNumbers) (input : Input) (out : Output) (result : Result ⊤ ClientFault) (are : limits ≡ standard)
    (verifies : Verifies q limits input out result) (cause : HasStreamCause input out result) where
  pub accepted : (done : ⊤) → result ≡ Ok done → Accepted q input out
  accepted done is = record {
    done = done;
    verifies = subst (λ (l : LimitNumbers). Verifies q l input out (Ok done)) are (subst (Verifies q limits input out) is verifies);
    cause = subst (HasStreamCause input out) is cause;
  }

  within : (d : Dag) → IsWithinLimits q standard d → IsWithinLimits q limits d
  within d h = subst (λ (l : LimitNumbers). IsWithinLimits q l d) (sym are) h

  good_is_taken : (bytes : List ℕ)
      → ((d : Dag) (bytes text : List ℕ) → input.left_old ≡ Some bytes → IsSound d → root_cid d ≡ q.root → answer q d ≡ Some text
      → IfOnce q.dups (HasOneBlockEach (opened_list q d)) → IsCarOf bytes (block_list q d) → IsWithinLimits q limits d → length bytes ≤ limits.received → IsAcceptedElse result)
      → ((d : Dag) (sections : List Section) (bytes text : List ℕ) → input.left_old ≡ Some bytes → Fits d q sections text
      → IsCarOf bytes sections → IsWithinLimits q limits d → length bytes ≤ limits.received → IsAcceptedElse result)
      → input.left_old ≡ Some bytes → IsGoodCar q bytes → IsAcceptedElse result
  good_is_taken bytes own fitting told good =
      let few : length bytes ≤ limits.received = subst (λ (l : LimitNumbers). length bytes ≤ l.received) (sym are) good.1 in
      elim good.0 [
        | inl (d, text, car) ↦ own d bytes text told car.sound car.root car.answers car.one_each car.is_car (within d car.within) few
        | inr car ↦ fitting car.d car.sections bytes car.text told car.fits car.is_car (within car.d car.within) few
      ]

  pub not_accepted : (fault : ClientFault) (refusal : CommandFault) → result ≡ Err fault → IsVerifyRefusal fault refusal
      → ((d : Dag) (bytes text : List ℕ) → input.left_old ≡ Some bytes → IsSound d → root_cid d ≡ q.root → answer q d ≡ Some text
      → IfOnce q.dups (HasOneBlockEach (opened_list q d)) → IsCarOf bytes (block_list q d) → IsWithinLimits q limits d → length bytes ≤ limits.received → IsAcceptedElse result)
      → ((d : Dag) (sections : List Section) (bytes text : List ℕ) → input.left_old ≡ Some bytes → Fits d q sections text
      → IsCarOf bytes sections → IsWithinLimits q limits d → length bytes ≤ limits.received → IsAcceptedElse result)
      → NotAccepted q input out refusal
  not_accepted fault refusal is tells own fitting = record {
    fault = fault;
    tells = tells;
    verifies = subst (λ (l : LimitNumbers). Verifies q l input out (Err fault)) are (subst (Verifies q limits input out) is verifies);
    cause = subst (HasStreamCause input out) is cause;
    else = λ bytes told good. subst IsAcceptedElse is (good_is_taken bytes own fitting told good);
  }
