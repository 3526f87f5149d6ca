-- The bytes of a reply have one answer for a query and limits, however they are cut (RFC 9110, section 15; RFC 9112, sections 2
-- to 8; Trustless Gateway specification).
use Rattle.std.specs.Prelude.{Bool, List, [], false, length, true, ℕ, ◌++◌, ◌≡◌, ◌≤◌, ◌⊎◌}
use Rattle.tg_cut_laws.specs.Bodies.{IsDueFault}
use Rattle.tg_fetch.specs.Replies.{IsAnswered, IsOpenBefore, IsShortBehind, RefusedBy}
use Rattle.tg_fetch.specs.declared.fault.FetchFault.{FetchFault}
use Rattle.tg_model.specs.Dag.{Section}
use Rattle.tg_model.specs.LimitNumbers.{LimitNumbers}
use Rattle.tg_model.specs.Queries.{QueryParts}

-- the reply whose bytes these are is refused, with this text written before; and the link ended, if at all, behind all of them
pub record IsRefusedIn (q : QueryParts) (limits : LimitNumbers) (bytes text : List ℕ) (fault : FetchFault) : Type 0 where
  pub heard : List ℕ
  pub unheard : List ℕ
  pub more : List ℕ
  pub whole : bytes ≡ heard ++ (unheard ++ more)
  pub within : length heard ≤ limits.received
  pub ended : Bool
  pub is_over : ended ≡ true → unheard ++ more ≡ []
  pub sections : List Section
  pub refused : RefusedBy q limits heard unheard ended sections text fault

-- or a front of them is the answer, with this text written
pub record IsAnsweredIn (q : QueryParts) (limits : LimitNumbers) (bytes text : List ℕ) : Type 0 where
  pub heard : List ℕ
  pub more : List ℕ
  pub whole : bytes ≡ heard ++ more
  pub ended : Bool
  pub is_over : ended ≡ true → more ≡ []
  pub sections : List Section
  pub answered : IsAnswered q limits heard ended sections text

-- or they go on, all of them, with this text written
pub record IsOpenIn (q : QueryParts) (limits : LimitNumbers) (bytes text : List ℕ) : Type 0 where
  pub within : length bytes ≤ limits.received
  pub sections : List Section
  pub is_open : IsOpenBefore bytes sections text ⊎ IsShortBehind q limits bytes sections text

-- two refusals are one
abbrev pub ReplyRefusedOnce : Type 0
ReplyRefusedOnce = (q : QueryParts) (limits : LimitNumbers) (bytes x y : List ℕ) (f g : FetchFault) → IsDueFault f → IsDueFault g → IsRefusedIn q limits bytes x f
    → IsRefusedIn q limits bytes y g → (x ≡ y) × (f ≡ g)

-- the answer is refused by none, and is one
abbrev pub ReplyRefusedIsNoAnswer : Type 0
ReplyRefusedIsNoAnswer = (q : QueryParts) (limits : LimitNumbers) (bytes x y : List ℕ) (f : FetchFault) → IsDueFault f → IsRefusedIn q limits bytes x f → IsAnsweredIn q limits bytes y
    → ⊥

abbrev pub ReplyAnsweredOnce : Type 0
ReplyAnsweredOnce = (q : QueryParts) (limits : LimitNumbers) (bytes x y : List ℕ) → IsAnsweredIn q limits bytes x → IsAnsweredIn q limits bytes y → x ≡ y

-- of bytes that go on no front is refused but where the link ended, nor is one the answer; and what is written for them is one
abbrev pub ReplyRefusedIsNotOpen : Type 0
ReplyRefusedIsNotOpen = (q : QueryParts) (limits : LimitNumbers) (bytes x y : List ℕ) (f : FetchFault) → IsDueFault f → (r : IsRefusedIn q limits bytes x f) → r.ended ≡ false
    → IsOpenIn q limits bytes y → ⊥

abbrev pub ReplyAnsweredIsNotOpen : Type 0
ReplyAnsweredIsNotOpen = (q : QueryParts) (limits : LimitNumbers) (bytes x y : List ℕ) → (a : IsAnsweredIn q limits bytes x) → a.ended ≡ false → IsOpenIn q limits bytes y → ⊥

abbrev pub ReplyOpenOnce : Type 0
ReplyOpenOnce = (q : QueryParts) (limits : LimitNumbers) (bytes x y : List ℕ) → IsOpenIn q limits bytes x → IsOpenIn q limits bytes y → x ≡ y

pub record ReplyCutLaws : Type 0 where
  pub refused : ReplyRefusedOnce
  pub refused_answer : ReplyRefusedIsNoAnswer
  pub answered : ReplyAnsweredOnce
  pub refused_open : ReplyRefusedIsNotOpen
  pub answered_open : ReplyAnsweredIsNotOpen
  pub is_open : ReplyOpenOnce
