-- The sections received so far of a reply that may go on.
use Rattle.std.specs.Prelude.{Bool, List, [], true, ℕ, ◌++◌, ◌∷◌, ◌≡◌, ◌⊎◌}
use Rattle.tg_body.specs.Bodies.{BodyFront, BodyText}
use Rattle.tg_client.specs.Received.{HasReceived}
use Rattle.tg_heard.specs.Carried.{IsAbsenceHead, IsAnswerHead}
use Rattle.tg_heard.specs.FinalHeads.{FinalHead}
use Rattle.tg_http.specs.declared.framing.Framing.{Framing}
use Rattle.tg_http.specs.declared.framing.Framing.TheVariants as framings
use Rattle.tg_http.specs.declared.reply.ReplyHead.{ReplyHead}
use Rattle.tg_model.specs.Dag.{Section}
use Rattle.tg_model.specs.Queries.{QueryParts}
use Rattle.tg_model.specs.declared.queries.Form.TheVariants as forms

-- the bytes begin with a whole body: where it goes on until the link closes, they are it, and the link ended
pub record HasWholeBody (ended : Bool) (framing : Framing) (rest body : List ℕ) : Type 0 where
  pub front : List ℕ
  pub more : List ℕ
  pub rest_is : rest ≡ front ++ more
  pub closed : framing ≡ framings.UntilClose → (ended ≡ true) × (more ≡ [])
  pub body_is : BodyText framing body front

-- this of a body came so far: all of it, or a front
abbrev pub HasBodySoFar : Bool → Framing → List ℕ → List ℕ → Type 0
HasBodySoFar ended framing rest body = HasWholeBody ended framing rest body ⊎ BodyFront framing body rest

-- a head whose body is taken
abbrev pub IsTakenHead : QueryParts → ReplyHead → Type 0
IsTakenHead q head = IsAnswerHead q head ⊎ IsAbsenceHead q head

-- The sections that stand whole in what was heard, none of a CAR's blocks above the limit: none before the final head is
-- whole and behind a head that isn't taken; those of a CAR so far; and of a raw block the one section once it is whole.
pub data HasGot (limit : ℕ) (heard : List ℕ) (ended : Bool) (q : QueryParts) : List Section → Type 0 where
  no_head : ((head : ReplyHead) (rest : List ℕ) → FinalHead heard head rest → ⊥) → HasGot limit heard ended q []
  not_taken : (head : ReplyHead) (rest : List ℕ) → FinalHead heard head rest → (IsTakenHead q head → ⊥) → HasGot limit heard ended q []
  car : (head : ReplyHead) (rest body : List ℕ) (sections : List Section) → FinalHead heard head rest → IsTakenHead q head
      → q.form ≡ forms.Car → HasBodySoFar ended head.framing rest body → HasReceived limit body sections → HasGot limit heard ended q sections
  raw_open : (head : ReplyHead) (rest : List ℕ) → FinalHead heard head rest → IsTakenHead q head → q.form ≡ forms.Raw
      → ((body : List ℕ) → HasWholeBody ended head.framing rest body → ⊥) → HasGot limit heard ended q []
  raw_whole : (head : ReplyHead) (rest body : List ℕ) → FinalHead heard head rest → IsTakenHead q head → q.form ≡ forms.Raw
      → HasWholeBody ended head.framing rest body → HasGot limit heard ended q (record { cid = q.root; block = body } ∷ [])
