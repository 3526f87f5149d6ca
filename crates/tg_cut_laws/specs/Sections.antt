-- A list of sections has one answer for a query and limits, whatever a verifier was handed of it (Trustless Gateway
-- specification, dag-scope, entity-bytes and dups).
use Rattle.std.specs.Prelude.{All, List, [], length, ⊤, ℕ, ◌++◌, ◌∷◌, ◌≡◌, ◌≤◌}
use Rattle.tg_model.specs.Dag.{Section}
use Rattle.tg_model.specs.LimitNumbers.{LimitNumbers}
use Rattle.tg_model.specs.Queries.{QueryParts}
use Rattle.tg_traversal.specs.Left.{WantedAt}
use Rattle.tg_verify.specs.Refusals.{HasRefused}
use Rattle.tg_verify.specs.State.{count_of}
use Rattle.tg_verify.specs.Taken.{IsThrough, IsUpTo}
use Rattle.tg_verify.specs.declared.fault.Refusal.{Refusal}
use Rattle.tg_verify.specs.declared.fault.Refusal.TheVariants as refusals

-- a refusal of what the sections are: no fault of out, no want of memory, and not that no more come
abbrev pub IsDue : Refusal → Type 0
IsDue refusals.SinkFault = ⊥
IsDue refusals.OutOfMemory = ⊥
IsDue (refusals.Truncated want number) = ⊥
IsDue other = ⊤

-- both begin one list
pub record BeginOne {X : Type 0} (a b : List X) : Type 0 where
  pub a_more : List X
  pub b_more : List X
  pub one : a ++ a_more ≡ b ++ b_more

-- the sections are those and one more, which was refused since none is wanted
pub record IsOneMore (a b : List Section) (fault : Refusal) : Type 0 where
  pub section : Section
  pub more : a ≡ b ++ section ∷ []
  pub fault_is : fault ≡ refusals.Extra (count_of b)

-- two refusals are one
abbrev pub RefusedOnce : Type 0
RefusedOnce = (q : QueryParts) (limits : LimitNumbers) (a b : List Section) (x y : List ℕ) (f g : Refusal) → BeginOne a b → IsDue f → IsDue g
    → HasRefused q limits a x f → HasRefused q limits b y g → (a ≡ b) × (x ≡ y) × (f ≡ g)

-- where one comes nothing is wanted behind it
abbrev pub RefusedIsNotUpTo : Type 0
RefusedIsNotUpTo = (q : QueryParts) (limits : LimitNumbers) (a rest b : List Section) (x y : List ℕ) (f : Refusal) (at : WantedAt) → a ++ rest ≡ b → IsDue f
    → HasRefused q limits a x f → IsUpTo q limits b y at → ⊥

-- and where all came it is that of one more
abbrev pub RefusedIsOneMore : Type 0
RefusedIsOneMore = (q : QueryParts) (limits : LimitNumbers) (a b : List Section) (x y : List ℕ) (f : Refusal) → BeginOne a b → IsDue f
    → HasRefused q limits a x f → IsThrough q limits b y → IsOneMore a b f × (x ≡ y)

abbrev pub UpToOnce : Type 0
UpToOnce = (q : QueryParts) (limits : LimitNumbers) (sections : List Section) (x y : List ℕ) (at other : WantedAt) → IsUpTo q limits sections x at
    → IsUpTo q limits sections y other → (x ≡ y) × (at ≡ other)

abbrev pub ThroughOnce : Type 0
ThroughOnce = (q : QueryParts) (limits : LimitNumbers) (a b : List Section) (x y : List ℕ) → BeginOne a b → IsThrough q limits a x → IsThrough q limits b y
    → (a ≡ b) × (x ≡ y)

-- where all came nothing is wanted, neither behind them nor at them
abbrev pub ThroughIsNotUpTo : Type 0
ThroughIsNotUpTo = (q : QueryParts) (limits : LimitNumbers) (a rest b : List Section) (x y : List ℕ) (at : WantedAt) → a ++ rest ≡ b → IsThrough q limits a x
    → IsUpTo q limits b y at → ⊥

-- no section that was taken is larger than the limit
abbrev pub ThroughIsSmall : Type 0
ThroughIsSmall = (q : QueryParts) (limits : LimitNumbers) (sections : List Section) (x : List ℕ) → IsThrough q limits sections x
    → All (λ section. length section.block ≤ limits.block) sections

pub record SectionLaws : Type 0 where
  pub refused : RefusedOnce
  pub refused_up_to : RefusedIsNotUpTo
  pub refused_through : RefusedIsOneMore
  pub up_to : UpToOnce
  pub through : ThroughOnce
  pub through_up_to : ThroughIsNotUpTo
  pub small : ThroughIsSmall
