-- One call of a reader that has refused nothing.
use Rattle.std.specs.Prelude.{◌≡◌, ℕ, ◌<◌, ◌≤◌, Bool, true, false, Option, Some, None, List, ◌∷◌, ◌++◌, length, take}
use Rattle.tg_car.specs.declared.event.Event.{Event}
use Rattle.tg_car.specs.declared.event.Event.TheVariants.{Need}
use Rattle.tg_car.specs.declared.fault.CarFault.{CarFault}
use Rattle.tg_car.specs.declared.reader.Followed.{Followed}
use Rattle.tg_car.specs.CarText.{HeaderText}
use Rattle.tg_car.specs.Fronts.{IsInHeader}
use Rattle.tg_car.specs.HeaderState.{FollowsHeader}
use Rattle.tg_car.specs.History.{StopsAt, given_by}
use Rattle.tg_car.specs.State.{Holds, IsAtItsEnd, ReaderState}

-- a byte of the piece is one with which no header goes on
pub record StopsHeader (bytes piece : List ℕ) : Type 0 where
  pub front : List ℕ
  pub last : ℕ
  pub more : List ℕ
  pub whole : piece ≡ front ++ last ∷ more
  pub went_on : IsInHeader (bytes ++ front)
  pub none : (roots : List (List ℕ)) (rest : List ℕ) → HeaderText roots ((bytes ++ front) ++ last ∷ rest) → ⊥

-- so many bytes of the piece were taken: all of them where the header isn't whole with them
abbrev pub IsTaken : Bool → List ℕ → ℕ → Type 0
IsTaken true piece taken = (0 < taken) × (taken ≤ length piece)
IsTaken false piece taken = taken ≡ length piece

-- the bytes are a header, or a header goes on so
abbrev pub IsHeaderSoFar : Bool → List ℕ → Type 0
IsHeaderSoFar true bytes = (roots : List (List ℕ)) × HeaderText roots bytes
IsHeaderSoFar false bytes = IsInHeader bytes

abbrev pub TakesHeader : List ℕ → List ℕ → Option Followed → Type 0
TakesHeader bytes piece None = StopsHeader bytes piece
TakesHeader bytes piece (Some found) =
    FollowsHeader found.state (bytes ++ take found.taken piece) × IsHeaderSoFar found.whole (bytes ++ take found.taken piece)

-- so many bytes of the piece were taken, with this event
pub record Steps (old new : ReaderState) (piece : List ℕ) (taken : ℕ) (event : Event) : Type 0 where
  pub within : taken ≤ length piece
  pub moves : 0 < length piece → 0 < taken
  pub need : event ≡ Need → taken ≡ length piece
  pub at_end : IsAtItsEnd event old.came new.came
  pub limit : new.limit ≡ old.limit
  pub refused : new.refused ≡ old.refused
  pub holds : (fed : List ℕ) (given : List Event) → Holds old.in_header old fed given
      → Holds new.in_header new (fed ++ take taken piece) (given ++ given_by event)

-- the piece is refused with this fault
pub record Stops (old new : ReaderState) (piece : List ℕ) (fault : CarFault) : Type 0 where
  pub limit : new.limit ≡ old.limit
  pub stops : (fed : List ℕ) (given : List Event) → Holds old.in_header old fed given
      → StopsAt old.limit fed given piece fault
