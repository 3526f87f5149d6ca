-- The bytes of a CAR have one answer for a query and limits, however they are cut (CARv1 specification; Trustless Gateway
-- specification, CAR responses).
use Rattle.std.specs.Prelude.{Err, List, length, ⊤, ℕ, ◌++◌, ◌≡◌, ◌≤◌}
use Rattle.tg_cid.specs.Cid.{CidParts}
use Rattle.tg_client.specs.Body.{IsAfterWanted, unknown}
use Rattle.tg_client.specs.Ends.{EndsBy, IsEndedShort, IsHeldExactly, IsWithinReceived}
use Rattle.tg_client.specs.Received.{HasReceived, IsCarOf}
use Rattle.tg_client.specs.declared.fault.ClientFault.{ClientFault}
use Rattle.tg_client.specs.declared.fault.ClientFault.TheVariants as faults
use Rattle.tg_cut_laws.specs.Sections.{IsDue}
use Rattle.tg_model.specs.Dag.{Section}
use Rattle.tg_model.specs.LimitNumbers.{LimitNumbers}
use Rattle.tg_model.specs.Queries.{QueryParts}
use Rattle.tg_verify.specs.State.{count_of}
use Rattle.tg_verify.specs.Taken.{IsThrough}
use Rattle.tg_verify.specs.declared.fault.Refusal.TheVariants as refusals

-- a refusal of what the bytes are
abbrev pub IsDueEnd : ClientFault → Type 0
IsDueEnd (faults.Refused refusal) = IsDue refusal
IsDueEnd (faults.BadCar fault) = ⊤
IsDueEnd faults.InputFault = ⊥
IsDueEnd faults.KeepFault = ⊥
IsDueEnd faults.OutOfMemory = ⊥

-- in these bytes the CAR is refused: these sections stand whole in what was heard before, and this is written for them
pub record IsRefusedIn (q : QueryParts) (limits : LimitNumbers) (bytes : List ℕ) (sections : List Section) (text : List ℕ) (fault : ClientFault) : Type 0 where
  pub heard : List ℕ
  pub unheard : List ℕ
  pub more : List ℕ
  pub whole : bytes ≡ heard ++ (unheard ++ more)
  pub within : IsWithinReceived limits heard
  pub received : HasReceived limits.block heard sections
  pub ends : EndsBy q limits unknown heard unheard sections text (Err fault)
  pub wanted : IsAfterWanted q limits heard sections fault

-- two refusals are one
abbrev pub CarRefusedOnce : Type 0
CarRefusedOnce = (q : QueryParts) (limits : LimitNumbers) (bytes : List ℕ) (a b : List Section) (x y : List ℕ) (f g : ClientFault) → IsDueEnd f → IsDueEnd g
    → IsRefusedIn q limits bytes a x f → IsRefusedIn q limits bytes b y g → (a ≡ b) × (x ≡ y) × (f ≡ g)

-- of bytes of which nothing is refused no front is
abbrev pub CarRefusedIsNotHeld : Type 0
CarRefusedIsNotHeld = (q : QueryParts) (limits : LimitNumbers) (bytes : List ℕ) (a b : List Section) (x y : List ℕ) (f : ClientFault) → IsDueEnd f
    → IsRefusedIn q limits bytes a x f → HasReceived limits.block bytes b → IsWithinReceived limits bytes → IsHeldExactly q limits bytes b y → ⊥

-- where all sections came in a front of the bytes, it is that of bytes behind them
abbrev pub CarRefusedIsSurplus : Type 0
CarRefusedIsSurplus = (q : QueryParts) (limits : LimitNumbers) (bytes heard more : List ℕ) (a b : List Section) (x y : List ℕ) (f : ClientFault) → IsDueEnd f
    → IsRefusedIn q limits bytes a x f → bytes ≡ heard ++ more → length bytes ≤ limits.received → HasReceived limits.block heard b → IsCarOf heard b → IsThrough q limits b y
    → f ≡ faults.Refused (refusals.Extra (count_of b))

-- what is taken of bytes, of which nothing is refused, and what is written for it
abbrev pub CarHeldOnce : Type 0
CarHeldOnce = (q : QueryParts) (limits : LimitNumbers) (bytes : List ℕ) (a b : List Section) (x y : List ℕ) → HasReceived limits.block bytes a → HasReceived limits.block bytes b
    → IsHeldExactly q limits bytes a x → IsHeldExactly q limits bytes b y → (a ≡ b) × (x ≡ y)

-- and what is wanted where no more come
abbrev pub CarShortOnce : Type 0
CarShortOnce = (q : QueryParts) (limits : LimitNumbers) (bytes : List ℕ) (a b : List Section) (x y : List ℕ) (want other : CidParts) (number count : ℕ)
    → HasReceived limits.block bytes a → HasReceived limits.block bytes b → IsEndedShort q limits bytes a x want number → IsEndedShort q limits bytes b y other count
    → (a ≡ b) × (x ≡ y) × (want ≡ other) × (number ≡ count)

-- then not all came
abbrev pub CarShortIsNotThrough : Type 0
CarShortIsNotThrough = (q : QueryParts) (limits : LimitNumbers) (bytes : List ℕ) (a b : List Section) (x y : List ℕ) (want : CidParts) (number : ℕ)
    → HasReceived limits.block bytes a → HasReceived limits.block bytes b → IsCarOf bytes b → IsEndedShort q limits bytes a x want number → IsThrough q limits b y → ⊥

pub record CarCutLaws : Type 0 where
  pub refused : CarRefusedOnce
  pub refused_held : CarRefusedIsNotHeld
  pub refused_through : CarRefusedIsSurplus
  pub held : CarHeldOnce
  pub short : CarShortOnce
  pub short_through : CarShortIsNotThrough
