-- The sections that stand whole in what was heard in a call, and what it says of each sound DAG with the query's root.
use Rattle.std.specs.Prelude.{Bool, Err, List, Ok, Result, Some, [], ⊤, ℕ, ◌++◌, ◌∷◌, ◌≡◌, ◌⊎◌}
use Rattle.tg_body.specs.Bodies.{BodyFront, BodyText}
use Rattle.tg_client.specs.Received.{HasReceived}
use Rattle.tg_dials.specs.Dials.{Dialling}
use Rattle.tg_fetch.specs.Bodies.{FrontAndSays, root_section}
use Rattle.tg_fetch.specs.declared.fault.FetchFault.{FetchFault}
use Rattle.tg_heard.specs.Carried.{Carries}
use Rattle.tg_heard.specs.FinalHeads.{FinalHead}
use Rattle.tg_heard.specs.Got.{IsTakenHead}
use Rattle.tg_http.specs.declared.framing.Framing.{Framing}
use Rattle.tg_http.specs.declared.reply.ReplyHead.{ReplyHead}
use Rattle.tg_links.specs.declared.call.Call.{Call}
use Rattle.tg_model.specs.Dag.{Dag, Section}
use Rattle.tg_model.specs.LimitNumbers.{LimitNumbers}
use Rattle.tg_model.specs.Queries.{QueryParts}
use Rattle.tg_model.specs.declared.queries.Form.TheVariants as forms
use Rattle.tg_streams.specs.Streams.{Output, Put}
use Rattle.tg_verify.specs.Sound.{ForEachSound, IsItsAnswer}

-- this of a body came: all of it, or a front
abbrev pub IsOfBody : Framing → List ℕ → List ℕ → Type 0
IsOfBody framing given rest = BodyFront framing given rest ⊎ BodyText framing given rest

-- a front of what was heard is a head whose body is taken, and this of the body
pub record HasBody (heard : List ℕ) (q : QueryParts) (head : ReplyHead) (rest : List ℕ) : Type 0 where
  pub front : List ℕ
  pub more : List ℕ
  pub whole : heard ≡ front ++ more
  pub final : FinalHead front head rest
  pub is_taken : IsTakenHead q head

-- The sections stand whole in what was heard: none; those of a CAR, none of whose blocks is above the limit, in a front of
-- the body; a raw body under the root; or those that the reply carries.
pub data AreReceived (limit : ℕ) (heard : List ℕ) (q : QueryParts) (sections : List Section) : Type 0 where
  none : sections ≡ [] → AreReceived limit heard q sections
  car : (head : ReplyHead) (rest given front behind : List ℕ) → HasBody heard q head rest → IsOfBody head.framing given rest → given ≡ front ++ behind
      → HasReceived limit front sections → AreReceived limit heard q sections
  block : (head : ReplyHead) (rest given : List ℕ) → HasBody heard q head rest → q.form ≡ forms.Raw → BodyText head.framing given rest
      → sections ≡ root_section q given ∷ [] → AreReceived limit heard q sections
  carried : (front more : List ℕ) (ended : Bool) → heard ≡ front ++ more → Carries front ended q sections → AreReceived limit heard q sections

-- what the dial tells of the call is that this was heard
abbrev pub HeardIn : Dialling → List ℕ → Type 0
HeardIn dial heard = (before : List Call) (call : Call) → dial.calls_old ≡ Some before → dial.calls_new ≡ Some (before ++ call ∷ []) → call.heard ≡ heard

-- accepted: the DAG's answer was put; refused: a front of it, and what the refusal says of the DAG holds; or a received block
-- and one of the DAG are a collision pair
abbrev pub SaysOfCall : QueryParts → List Section → List ℕ → Result ⊤ FetchFault → Dag → Type 0
SaysOfCall q sections text (Ok done) d = IsItsAnswer q d sections text
SaysOfCall q sections text (Err fault) d = FrontAndSays q sections text fault d

pub record SoundCall (q : QueryParts) (limits : LimitNumbers) (dial : Dialling) (out : Output) (result : Result ⊤ FetchFault) : Type 0 where
  pub heard : List ℕ
  pub heard_in : HeardIn dial heard
  pub sections : List Section
  pub received : AreReceived limits.block heard q sections
  pub text : List ℕ
  pub put : Put text out
  pub sound : ForEachSound q (SaysOfCall q sections text result)
