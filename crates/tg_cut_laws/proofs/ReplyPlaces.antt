-- A reply behind its final head: up to where it was heard, and what is refused there.
use Rattle.std.proofs.Common.{◌≡◌, ◌≢◌, ℕ, ◌<◌, ◌≤◌, Bool, true, List, [], ◌∷◌, ◌++◌, length, sym, ap, ◌∙◌, append_assoc, arith}
use Rattle.std.proofs.lemmas.List.{length-append}
use Rattle.tg_body.specs.Bodies.{BodyFront, BodyText}
use Rattle.tg_body.specs.History.{BreaksChunked}
use Rattle.tg_bytes.specs.Lists.{Longer, longer}
use Rattle.tg_fetch.specs.Bodies.{BodyFails, BodyStops, IsOpenBody}
use Rattle.tg_fetch.specs.Replies.{HeadStops}
use Rattle.tg_fetch.specs.declared.fault.FetchFault.{FetchFault}
use Rattle.tg_fetch.specs.declared.fault.FetchFault.TheVariants as faults
use Rattle.tg_heard.specs.FinalHeads.{FinalHead}
use Rattle.tg_heard.specs.FrontLaws.{IsShort}
use Rattle.tg_http.specs.declared.framing.Framing.TheVariants as framings
use Rattle.tg_http.specs.declared.reply.ReplyHead.{ReplyHead}
use Rattle.tg_model.specs.Dag.{Section}
use Rattle.tg_model.specs.LimitNumbers.{LimitNumbers}
use Rattle.tg_model.specs.Queries.{QueryParts}
use Rattle.tg_model.specs.declared.limits.LimitKind.TheVariants as kinds
use Rattle.tg_verify.specs.declared.fault.Refusal.TheVariants as refusals

-- ---- places

-- so much of the bytes was heard, no more than may be received; this of it is behind the final head, and this is left
pub record Place (limits : LimitNumbers) (bytes : List ℕ) (head : ReplyHead) (rest : List ℕ) : Type 0 where
  pub heard : List ℕ
  pub came : List ℕ
  pub left : List ℕ
  pub whole : bytes ≡ heard ++ left
  pub behind : rest ≡ came ++ left
  pub within : length heard ≤ limits.received
  pub final : FinalHead heard head came

-- no byte of the body is behind such a place that isn't heard, whoever hears it
abbrev pub IsFar : (limits : LimitNumbers) (bytes : List ℕ) (head : ReplyHead) (rest : List ℕ) → Place limits bytes head rest → Type 0
IsFar limits bytes head rest place = (other : Place limits bytes head rest) → length other.heard ≤ length place.heard

-- the byte behind the place is the first with which no body goes on
pub record BreaksAt (limits : LimitNumbers) (bytes : List ℕ) (head : ReplyHead) (rest : List ℕ) (place : Place limits bytes head rest) : Type 0 where
  pub last : ℕ
  pub more : List ℕ
  pub left_is : place.left ≡ last ∷ more
  pub few : length place.heard < limits.received
  pub chunked : head.framing ≡ framings.Chunked
  pub breaks : BreaksChunked (place.came ++ last ∷ [])

-- ---- what is at a place

-- nothing of the body that came is refused, and this text is written for it
pub record OpenAt (q : QueryParts) (limits : LimitNumbers) (bytes : List ℕ) (head : ReplyHead) (rest text : List ℕ) : Type 0 where
  pub place : Place limits bytes head rest
  pub framed : head.framing ≢ framings.Broken
  pub given : List ℕ
  pub front : BodyFront head.framing given place.came
  pub sections : List Section
  pub body : IsOpenBody q limits head given sections text

-- the body that came is refused
pub record StopsAt (q : QueryParts) (limits : LimitNumbers) (bytes : List ℕ) (head : ReplyHead) (rest text : List ℕ) (fault : FetchFault) : Type 0 where
  pub place : Place limits bytes head rest
  pub framed : head.framing ≢ framings.Broken
  pub given : List ℕ
  pub front : BodyFront head.framing given place.came
  pub sections : List Section
  pub stops : BodyStops q limits head given sections text fault

-- the body is whole
pub record WholeAt (limits : LimitNumbers) (bytes : List ℕ) (head : ReplyHead) (rest : List ℕ) : Type 0 where
  pub place : Place limits bytes head rest
  pub body : List ℕ
  pub body_is : BodyText head.framing body place.came
  pub closed : head.framing ≡ framings.UntilClose → place.left ≡ []

-- and isn't accepted
pub record FailsAt (q : QueryParts) (limits : LimitNumbers) (bytes : List ℕ) (head : ReplyHead) (rest text : List ℕ) (fault : FetchFault) : Type 0 where
  pub whole : WholeAt limits bytes head rest
  pub sections : List Section
  pub fails : BodyFails q limits head whole.body sections text fault

-- why no more of it is heard
pub data EndsAt (limits : LimitNumbers) (bytes : List ℕ) (head : ReplyHead) (rest : List ℕ) (ended : Bool) (place : Place limits bytes head rest) (fault : FetchFault) : Type 0 where
  breaks : fault ≡ faults.BadFraming → BreaksAt limits bytes head rest place → EndsAt limits bytes head rest ended place fault
  cut : fault ≡ faults.BadFraming → ended ≡ true → place.left ≡ [] → IsShort head.framing place.came → head.framing ≢ framings.UntilClose
      → EndsAt limits bytes head rest ended place fault
  past : fault ≡ faults.Refused (refusals.Limit kinds.Received limits.received) → length place.heard ≡ limits.received → 0 < length place.left
      → IsShort head.framing place.came → EndsAt limits bytes head rest ended place fault

-- the reply is refused behind this final head
pub data RefusedBehind (q : QueryParts) (limits : LimitNumbers) (bytes : List ℕ) (head : ReplyHead) (rest : List ℕ) (ended : Bool) (text : List ℕ) (fault : FetchFault) : Type 0 where
  at_head : Place limits bytes head rest → HeadStops q head fault → text ≡ [] → RefusedBehind q limits bytes head rest ended text fault
  in_body : StopsAt q limits bytes head rest text fault → RefusedBehind q limits bytes head rest ended text fault
  at_end : FailsAt q limits bytes head rest text fault → (head.framing ≡ framings.UntilClose → ended ≡ true) → RefusedBehind q limits bytes head rest ended text fault
  is_open : (o : OpenAt q limits bytes head rest text) → EndsAt limits bytes head rest ended o.place fault → RefusedBehind q limits bytes head rest ended text fault

-- ---- two places

module _ (limits : LimitNumbers) (bytes : List ℕ) (head : ReplyHead) (rest : List ℕ) where
  -- two places are in one body
  pub one_behind : (a b : Place limits bytes head rest) → a.came ++ a.left ≡ b.came ++ b.left
  one_behind a b = sym a.behind ∙ b.behind

  -- what is left is the less the more was heard
  sizes : (a b : Place limits bytes head rest) → length a.heard ≤ length b.heard → length a.came ≤ length b.came
  sizes a b less =
      omega (
        arith,
        less,
        ap length (sym a.whole ∙ b.whole),
        length-append a.heard a.left,
        length-append b.heard b.left,
        ap length (one_behind a b),
        length-append a.came a.left,
        length-append b.came b.left,
      )

  -- where less was heard less of the body came
  pub sooner : (a b : Place limits bytes head rest) → length a.heard ≤ length b.heard → Longer a.came b.came a.left b.left
  sooner a b less = longer a.came b.came a.left b.left (one_behind a b) (sizes a b less)

  -- and one byte more of it is in what came later
  pub one_sooner : (a b : Place limits bytes head rest) (last : ℕ) (more : List ℕ) → a.left ≡ last ∷ more → length a.heard < length b.heard
      → Longer (a.came ++ last ∷ []) b.came more b.left
  one_sooner a b last more is less =
      longer (a.came ++ last ∷ []) b.came more b.left
      (append_assoc a.came (last ∷ []) more ∙ (ap (λ (l : List ℕ). a.came ++ l) (sym is) ∙ one_behind a b))
      (omega (
        arith,
        less,
        ap length (sym a.whole ∙ b.whole),
        length-append a.heard a.left,
        length-append b.heard b.left,
        ap length (one_behind a b),
        length-append a.came a.left,
        length-append b.came b.left,
        length-append a.came (last ∷ []),
      ))

  -- where nothing is left all was heard
  pub none_left : (place : Place limits bytes head rest) → place.left ≡ [] → IsFar limits bytes head rest place
  none_left place none other =
      omega (arith, ap length none, ap length (sym place.whole ∙ other.whole), length-append place.heard place.left, length-append other.heard other.left)

  -- and where as much was heard as may be received
  pub all_received : (place : Place limits bytes head rest) → length place.heard ≡ limits.received → IsFar limits bytes head rest place
  all_received place full other = omega (arith, full, other.within)
