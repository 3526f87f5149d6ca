-- What holds of the CAR that answers a query, or shows that its path leads nowhere, while it comes.
use Rattle.std.specs.Prelude.{Err, List, Ok, Result, [], length, ⊤, ℕ, ◌++◌, ◌≡◌, ◌≤◌, ◌⊎◌}
use Rattle.tg_client.specs.Body.{EndsAt, unknown}
use Rattle.tg_client.specs.Ends.{EndsBy, IsOwnEnd}
use Rattle.tg_client.specs.Received.{HasReceived, IsCarOf}
use Rattle.tg_client.specs.declared.fault.ClientFault.{ClientFault}
use Rattle.tg_client.specs.declared.fault.ClientFault.TheVariants as faults
use Rattle.tg_model.specs.Dag.{Dag, Section}
use Rattle.tg_model.specs.Fits.{Fits, IsOpenedFor}
use Rattle.tg_model.specs.LimitNumbers.{LimitNumbers}
use Rattle.tg_model.specs.PathWalk.{stopped}
use Rattle.tg_model.specs.Queries.{QueryParts}
use Rattle.tg_model.specs.Traversal.{block_list, traversal}
use Rattle.tg_model_laws.specs.Tasks.{Miss, stop_of}
use Rattle.tg_verify.specs.Laws.{IsMissOf, IsWithinLimits}

-- a front of a CAR of these sections, which has no more bytes than may be received: these bytes were heard, in which those
-- sections stand whole, and those came behind them
pub record IsFrontOfCar (limits : LimitNumbers) (car : List ℕ) (all : List Section) (heard unheard : List ℕ) (sections : List Section) : Type 0 where
  pub is_car : IsCarOf car all
  pub few : length car ≤ limits.received
  pub more : List ℕ
  pub whole : car ≡ heard ++ (unheard ++ more)
  pub received : HasReceived limits.block heard sections

-- where the sections fit it isn't refused, but for counted faults and want of memory
abbrev pub FittingGoesOn : Type 0
FittingGoesOn = (q : QueryParts) (limits : LimitNumbers) (d : Dag) (all : List Section) (answer car heard unheard : List ℕ) (sections : List Section) (text : List ℕ)
    (fault : ClientFault) → Fits d q all answer → IsWithinLimits q limits d → IsFrontOfCar limits car all heard unheard sections
    → EndsBy q limits unknown heard unheard sections text (Err fault) → IsOwnEnd fault

-- and where all of it came it is accepted, with all sections and the answer
abbrev pub IsTheAnswer : List Section → List ℕ → List Section → List ℕ → Result ⊤ ClientFault → Type 0
IsTheAnswer all answer sections text (Ok done) = (sections ≡ all) × (text ≡ answer)
IsTheAnswer all answer sections text (Err fault) = ⊥

abbrev pub FittingEnds : Type 0
FittingEnds = (q : QueryParts) (limits : LimitNumbers) (d : Dag) (all : List Section) (answer car : List ℕ) (sections : List Section) (text : List ℕ) (result : Result ⊤ ClientFault)
    → Fits d q all answer → IsWithinLimits q limits d → IsFrontOfCar limits car all car [] sections
    → EndsAt q limits car sections text result → IsTheAnswer all answer sections text result

-- where they open a DAG in which a segment of the path leads nowhere, it isn't refused but for that segment, counted faults
-- and want of memory
abbrev pub IsMissOrOwnEnd : Miss → ClientFault → Type 0
IsMissOrOwnEnd miss (faults.Refused fault) = IsMissOf miss fault ⊎ IsOwnEnd (faults.Refused fault)
IsMissOrOwnEnd miss other = IsOwnEnd other

abbrev pub NowhereGoesOn : Type 0
NowhereGoesOn = (q : QueryParts) (limits : LimitNumbers) (d : Dag) (miss : Miss) (car heard unheard : List ℕ) (sections : List Section) (text : List ℕ) (fault : ClientFault)
    → IsOpenedFor d q → (traversal q d).end ≡ stopped (stop_of miss) → IsWithinLimits q limits d
    → IsFrontOfCar limits car (block_list q d) heard unheard sections
    → EndsBy q limits unknown heard unheard sections text (Err fault) → IsMissOrOwnEnd miss fault

-- and it is refused before all of it came
abbrev pub NowhereEnds : Type 0
NowhereEnds = (q : QueryParts) (limits : LimitNumbers) (d : Dag) (miss : Miss) (car : List ℕ) (sections : List Section) (text : List ℕ) (result : Result ⊤ ClientFault)
    → IsOpenedFor d q → (traversal q d).end ≡ stopped (stop_of miss) → IsWithinLimits q limits d
    → IsFrontOfCar limits car (block_list q d) car [] sections → EndsAt q limits car sections text result → ⊥

pub record BodyLaws : Type 0 where
  pub fitting : FittingGoesOn
  pub fitting_ends : FittingEnds
  pub nowhere : NowhereGoesOn
  pub nowhere_ends : NowhereEnds
