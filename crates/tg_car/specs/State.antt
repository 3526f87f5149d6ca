-- What a contract sees of a reader of a CAR, and the histories that it stands for.
use Rattle.std.specs.Prelude.{◌≡◌, ℕ, ◌-◌, Bool, true, false, Option, Some, None, List, [], length, ⊤}
use Rattle.tg_car.specs.declared.event.Event.{Event}
use Rattle.tg_car.specs.declared.event.Event.TheVariants as events
use Rattle.tg_car.specs.declared.header_state.HeaderState.{HeaderState}
use Rattle.tg_car.specs.declared.fault.CarFault.{CarFault}
use Rattle.tg_car.specs.HeaderState.{FollowsHeader}
use Rattle.tg_car.specs.Faults.{shown}
use Rattle.tg_car.specs.History.{History, Stop, at_piece, at_end, IsBeforeSections, IsAmongSections, IsExact}

pub record ReaderState : Type 0 where
  pub limit : ℕ  -- the most bytes that a block may have
  pub refused : Option CarFault  -- its refusal, which each further call gives
  pub place : ℕ  -- where the section at hand begins, as it is shown; in the header, how many bytes came
  pub in_header : Bool  -- whether the header isn't whole yet
  pub header : HeaderState  -- what of the header is to come
  pub text : List ℕ  -- the bytes of the header that came, until it is given
  pub came : List ℕ  -- the bytes of the section at hand that came

-- the fault of a refusal
abbrev pub fault_of : Option Stop → Option CarFault
fault_of None = None
fault_of (Some (at_piece piece fault)) = Some fault
fault_of (Some (at_end fault)) = Some fault

-- the header and a section are given with their last bytes: with a section none of the next one came, and with the header
-- none more of the first than before
abbrev pub IsAtItsEnd : Event → List ℕ → List ℕ → Type 0
IsAtItsEnd (events.Header header) before came = came ≡ before
IsAtItsEnd (events.Section at size section) before came = came ≡ []
IsAtItsEnd events.Need before came = ⊤

-- bytes of the header came, or none yet
pub record HoldsHeader (state : ReaderState) (fed : List ℕ) (given : List Event) : Type 0 where
  pub before : IsBeforeSections fed given
  pub follows : FollowsHeader state.header fed
  pub text_is : state.text ≡ fed
  pub none_came : state.came ≡ []
  pub place_is : state.place ≡ shown (length fed)

-- the section at hand is the one that the bytes have reached
pub record HoldsSection (state : ReaderState) (fed : List ℕ) (given : List Event) : Type 0 where
  pub among : IsAmongSections state.limit fed given state.came
  pub place_is : state.place ≡ shown (length fed - length state.came)

-- what a reader that refused nothing holds
abbrev pub Holds : Bool → ReaderState → List ℕ → List Event → Type 0
Holds true state fed given = HoldsHeader state fed given
Holds false state fed given = HoldsSection state fed given

-- The reader has this value after this history. What it gave and refused is then what the bytes that it was fed are:
-- `exact`.
pub record StandsFor (state : ReaderState) (h : History) : Type 0 where
  pub exact : IsExact state.limit h
  pub refused : state.refused ≡ fault_of h.stop
  pub holds : h.stop ≡ None → Holds state.in_header state h.fed h.given
