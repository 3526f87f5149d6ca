-- A refusal of what a reply is comes from one of what its CAR or its block is.
use Rattle.std.proofs.Common.{◌≡◌, ℕ, ◌<◌, List, length, Err, refl, ap, inl, inr}
use Rattle.std.specs.Prelude.{◌⊎◌}
use Rattle.tg_cid.specs.Cid.{CidParts}
use Rattle.tg_client.specs.Body.{unknown}
use Rattle.tg_client.specs.Ends.{EndsBy}
use Rattle.tg_client.specs.declared.fault.ClientFault.{ClientFault}
use Rattle.tg_client.specs.declared.fault.ClientFault.TheVariants as clients
use Rattle.tg_cut_laws.specs.Bodies.{IsDueFault}
use Rattle.tg_cut_laws.specs.Cars.{IsDueEnd}
use Rattle.tg_cut_laws.specs.Sections.{IsDue}
use Rattle.tg_fetch.specs.Bodies.{IsBlockFault}
use Rattle.tg_fetch.specs.Faults.{absence_fault, fault_of_client, fault_of_refusal}
use Rattle.tg_fetch.specs.declared.fault.FetchFault.{FetchFault}
use Rattle.tg_fetch.specs.declared.fault.FetchFault.TheVariants as faults
use Rattle.tg_model.specs.Dag.{Section}
use Rattle.tg_model.specs.LimitNumbers.{LimitNumbers}
use Rattle.tg_model.specs.Queries.{QueryParts}
use Rattle.tg_model.specs.declared.limits.LimitKind.TheVariants as kinds
use Rattle.tg_verify.specs.declared.fault.Refusal.{Refusal}
use Rattle.tg_verify.specs.declared.fault.Refusal.TheVariants as refusals

-- of the CAR of an answer; that no more come isn't said where of the input nothing is known
pub due_end : (q : QueryParts) (limits : LimitNumbers) (heard unheard : List ℕ) (sections : List Section) (text : List ℕ) (cause : ClientFault) → IsDueFault (fault_of_client cause)
    → EndsBy q limits unknown heard unheard sections text (Err cause) → IsDueEnd cause
due_end q limits heard unheard sections text (clients.Refused refusals.SinkFault) due ends = absurd due
due_end q limits heard unheard sections text (clients.Refused refusals.OutOfMemory) due ends = absurd due
due_end q limits heard unheard sections text (clients.Refused (refusals.Truncated want number)) due (all, short) = absurd all.ended.ended
due_end q limits heard unheard sections text (clients.Refused _) due ends = tt
due_end q limits heard unheard sections text (clients.BadCar car) due ends = tt
due_end q limits heard unheard sections text clients.InputFault due ends = absurd due
due_end q limits heard unheard sections text clients.KeepFault due ends = absurd due
due_end q limits heard unheard sections text clients.OutOfMemory due ends = absurd due

-- of the CAR that shows an absence
pub due_absence : (q : QueryParts) (limits : LimitNumbers) (heard unheard : List ℕ) (sections : List Section) (text : List ℕ) (cause : ClientFault) → IsDueFault (absence_fault cause)
    → EndsBy q limits unknown heard unheard sections text (Err cause) → IsDueEnd cause
due_absence q limits heard unheard sections text (clients.Refused refusals.SinkFault) due ends = absurd due
due_absence q limits heard unheard sections text (clients.Refused refusals.OutOfMemory) due ends = absurd due
due_absence q limits heard unheard sections text (clients.Refused (refusals.Truncated want number)) due (all, short) = absurd all.ended.ended
due_absence q limits heard unheard sections text (clients.Refused _) due ends = tt
due_absence q limits heard unheard sections text (clients.BadCar car) due ends = tt
due_absence q limits heard unheard sections text clients.InputFault due ends = absurd due
due_absence q limits heard unheard sections text clients.KeepFault due ends = absurd due
due_absence q limits heard unheard sections text clients.OutOfMemory due ends = absurd due

-- of a block: it is due, or says that no more come
abbrev pub IsShort : Refusal → Type 0
IsShort cause = (want : CidParts) × (number : ℕ) × (cause ≡ refusals.Truncated want number)

pub due_refusal : (cause : Refusal) → IsDueFault (fault_of_refusal cause) → IsDue cause ⊎ IsShort cause
due_refusal refusals.SinkFault due = absurd due
due_refusal refusals.OutOfMemory due = absurd due
due_refusal (refusals.Truncated want number) due = inr (want, number, refl)
due_refusal _ due = inl tt

-- a block that is refused while it comes is above the limit
pub block_fault : (limits : LimitNumbers) (bytes : List ℕ) (fault : FetchFault) → IsDueFault fault → IsBlockFault limits bytes fault
    → (fault ≡ faults.Refused (refusals.Limit kinds.Block limits.block)) × (limits.block < length bytes)
block_fault limits bytes (faults.Refused (refusals.Limit kinds.Block number)) due (is, above) = (ap (λ (n : ℕ). faults.Refused (refusals.Limit kinds.Block n)) is, above)
block_fault limits bytes faults.OutOfMemory due cause = absurd due
block_fault limits bytes _ due cause = absurd cause
