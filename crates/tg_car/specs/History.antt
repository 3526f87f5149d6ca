-- What a reader of a CAR stands for: what it was fed and what it gave.
use Rattle.std.specs.Prelude.{◌≡◌, ℕ, ◌+◌, ◌⊎◌, ⊤, Option, Some, None, List, [], ◌∷◌, ◌++◌, length, take, Result, Ok}
use Rattle.std.specs.Prelude.{Err}
use Rattle.tg_car.specs.declared.section.Section.{Section}
use Rattle.tg_car.specs.declared.fault.CarFault.{CarFault}
use Rattle.tg_car.specs.declared.fault.CarFault.TheVariants.{OutOfMemory}
use Rattle.tg_car.specs.declared.event.Event.{Event}
use Rattle.tg_car.specs.declared.event.Event.TheVariants as events
use Rattle.tg_car.specs.CarText.{SectionText, CarText}
use Rattle.tg_car.specs.Fronts.{IsInHeader, IsInSection, IsWithin, Reaches}
use Rattle.tg_car.specs.Faults.{shown, Brings, HasEndCause}

-- how a reader stopped: `feed` refused this piece, or `end` refused
pub data Stop : Type 0 where
  at_piece : List ℕ → CarFault → Stop
  at_end : CarFault → Stop

-- what a reader took and gave, in the order of its calls
pub record History : Type 0 where
  pub fed : List ℕ  -- the bytes that it took
  pub given : List Event  -- the header and the sections that it gave
  pub stop : Option Stop  -- its refusal

-- nothing yet
abbrev pub nothing : History
nothing = record { fed = []; given = []; stop = None }

-- what an answer gives
abbrev pub given_by : Event → List Event
given_by events.Need = []
given_by (events.Header header) = events.Header header ∷ []
given_by (events.Section at size section) = events.Section at size section ∷ []

-- the history with a refusal; the calls after the first one add nothing
abbrev pub stopped : History → Stop → Option Stop → History
stopped h stop None = record { fed = h.fed; given = h.given; stop = Some stop }
stopped h stop (Some before) = h

-- the history with one call of `feed` added: what was taken of the piece and given for it, or the piece and its refusal
abbrev pub with_feed : History → List ℕ → Result (ℕ × Event) CarFault → History
with_feed h piece (Ok found) =
    record { fed = h.fed ++ take found.0 piece; given = h.given ++ given_by found.1; stop = h.stop }
with_feed h piece (Err fault) = stopped h (at_piece piece fault) h.stop

-- the history with one call of `end` added
abbrev pub with_end : {A : Type 0} → History → Result A CarFault → History
with_end h (Ok done) = h
with_end h (Err fault) = stopped h (at_end fault) h.stop

-- the bytes from this place on are the texts of the sections, which are given so: each with where it begins and how
-- many bytes its text has
abbrev pub ArePlaced : ℕ → List Section → List ℕ → List Event → Type 0
ArePlaced at [] bytes given = (bytes ≡ []) × (given ≡ [])
ArePlaced at (section ∷ sections) bytes given =
    (front : List ℕ) × (rest : List ℕ) × (more : List Event) × (bytes ≡ front ++ rest) × SectionText section front
    × (given ≡ events.Section (shown at) (length front) section ∷ more) × ArePlaced (at + length front) sections rest more

-- the header isn't whole yet, and nothing was given
pub record IsBeforeSections (fed : List ℕ) (given : List Event) : Type 0 where
  pub nothing_given : given ≡ []
  pub inside : IsInHeader fed

-- the header was given and then these sections, once each and as soon as its last byte had come, and these bytes of the
-- next section came
pub record IsAmongSections (limit : ℕ) (fed : List ℕ) (given : List Event) (rest : List ℕ) : Type 0 where
  pub sections : List Section
  pub placed : List Event
  pub reaches : Reaches limit fed sections rest
  pub given_is : given ≡ events.Header reaches.header ∷ placed
  pub placed_are : ArePlaced (length reaches.header) sections reaches.done placed
  pub inside : IsInSection rest
  pub within : IsWithin limit rest

-- what was given is what the bytes complete, and some CAR goes on so
abbrev pub GoesOn : ℕ → List ℕ → List Event → Type 0
GoesOn limit fed given = IsBeforeSections fed given ⊎ ((rest : List ℕ) × IsAmongSections limit fed given rest)

-- a byte of the piece brings the fault, and the bytes before it complete nothing more than what was given
pub record StopsAt (limit : ℕ) (fed : List ℕ) (given : List Event) (piece : List ℕ) (fault : CarFault) : Type 0 where
  pub front : List ℕ
  pub last : ℕ
  pub more : List ℕ
  pub whole : piece ≡ front ++ last ∷ more
  pub went_on : GoesOn limit (fed ++ front) given
  pub brings : Brings limit ((fed ++ front) ++ last ∷ []) fault
  -- memory for bytes of a header is taken once all of the piece that may be the header's is looked at
  pub looked_at : fault ≡ OutOfMemory → IsInHeader ((fed ++ front) ++ last ∷ []) → more ≡ []

-- why a reader stopped
abbrev pub HasStopped : ℕ → History → Option Stop → Type 0
HasStopped limit h None = ⊤
HasStopped limit h (Some (at_piece piece fault)) = StopsAt limit h.fed h.given piece fault
HasStopped limit h (Some (at_end fault)) = HasEndCause limit h.fed fault

-- the history is exact for a reader with this limit: what was given is what the bytes complete, and a refusal has its
-- cause
pub record IsExact (limit : ℕ) (h : History) : Type 0 where
  pub goes_on : GoesOn limit h.fed h.given
  pub stopped : HasStopped limit h h.stop

-- the bytes are a CAR, and this is what a reader gives of it
pub record IsGivenOf (bytes : List ℕ) (given : List Event) : Type 0 where
  pub roots : List (List ℕ)
  pub sections : List Section
  pub placed : List Event
  pub text : CarText roots sections bytes
  pub given_is : given ≡ events.Header text.header ∷ placed
  pub placed_are : ArePlaced (length text.header) sections text.rest placed
