-- Laws of the bytes of a reply that is heard piece by piece: its heads and its body, with more bytes behind them.
use Rattle.std.specs.Prelude.{List, [], length, ℕ, ◌++◌, ◌<◌, ◌≡◌, ◌≢◌, ◌≤◌}
use Rattle.tg_body.specs.Bodies.{BodyFront, BodyText}
use Rattle.tg_body.specs.History.{BreaksChunked, EndsInside, HasFeedCause}
use Rattle.tg_heard.specs.FinalHeads.{FinalHead, HasBadHead, Interims, IsOpenHead}
use Rattle.tg_heard.specs.GotLaws.{BodyFronts}
use Rattle.tg_http.specs.declared.fault.HttpFault.TheVariants as https
use Rattle.tg_http.specs.declared.framing.Framing.{Framing}
use Rattle.tg_http.specs.declared.framing.Framing.TheVariants as framings
use Rattle.tg_http.specs.declared.reply.ReplyHead.{ReplyHead}

pub record HeadLaws : Type 0 where
  -- interim heads and a final one stay with more bytes behind them; and bytes with which no reply begins stay such
  pub interims_stay : (count : ℕ) (bytes behind more : List ℕ) → Interims count bytes behind → Interims count (bytes ++ more) (behind ++ more)
  pub final_stays : (bytes more rest : List ℕ) (head : ReplyHead) → FinalHead bytes head rest → FinalHead (bytes ++ more) head (rest ++ more)
  pub bad_stays : (bytes more : List ℕ) → HasBadHead bytes → HasBadHead (bytes ++ more)
  -- one final head stands in the same bytes
  pub one_final : (bytes rest left : List ℕ) (head other : ReplyHead) → FinalHead bytes head rest → FinalHead bytes other left
      → (head ≡ other) × (rest ≡ left)
  -- in the same bytes a final head stands, or no reply begins with them, or the final head isn't whole: no two of these hold
  pub bad_not_final : (bytes rest : List ℕ) (head : ReplyHead) → HasBadHead bytes → FinalHead bytes head rest → ⊥
  pub open_not_final : (bytes rest : List ℕ) (head : ReplyHead) → IsOpenHead bytes → FinalHead bytes head rest → ⊥
  pub bad_not_open : (bytes : List ℕ) → HasBadHead bytes → IsOpenHead bytes → ⊥
  -- what follows the final head is no longer than all
  pub rest_fits : (bytes rest : List ℕ) (head : ReplyHead) → FinalHead bytes head rest → length rest ≤ length bytes

-- a body of stated length isn't whole in these bytes
abbrev pub IsShort : Framing → List ℕ → Type 0
IsShort framing came = (number : ℕ) → framing ≡ framings.Length number → length came < number

pub record BodyPieceLaws : Type 0 where
  -- what came of a body in the same bytes is one; with more bytes it is more; and it is a front of the whole body
  pub one_front : (framing : Framing) (given other came : List ℕ) → BodyFront framing given came → BodyFront framing other came → given ≡ other
  pub grows : (framing : Framing) (came more given other : List ℕ) → BodyFront framing given came → BodyFront framing other (came ++ more)
      → (left : List ℕ) × (other ≡ given ++ left)
  pub fronts : BodyFronts
  -- of two whole bodies at the front of the same bytes, which are all of them where it goes on until the link closes
  pub one_body : (framing : Framing) (body other bytes text more rest : List ℕ) → BodyText framing body bytes → BodyText framing other text
      → bytes ++ more ≡ text ++ rest → (framing ≡ framings.UntilClose → (more ≡ []) × (rest ≡ [])) → body ≡ other
  -- bytes that hold a whole body are broken nowhere in it, don't end inside of it, and don't go on
  pub unbroken : (framing : Framing) (body whole came given unheard more tail : List ℕ) → BodyText framing body whole
      → HasFeedCause framing came given unheard https.BadFraming → came ++ (unheard ++ more) ≡ whole ++ tail → ⊥
  pub not_inside : (framing : Framing) (body whole came given tail : List ℕ) → BodyText framing body whole → EndsInside framing given came
      → came ≡ whole ++ tail → ⊥
  pub not_on : (framing : Framing) (body whole came given tail : List ℕ) → BodyText framing body whole → BodyFront framing given came
      → IsShort framing came → framing ≢ framings.UntilClose → came ≡ whole ++ tail → ⊥
  -- no byte with which no body in chunks goes on is among those with which one does
  pub not_broken : (framing : Framing) (given came front more : List ℕ) → BodyFront framing given came → framing ≡ framings.Chunked
      → came ≡ front ++ more → BreaksChunked front → ⊥
  -- no body is longer than its text, nor is what came of one
  pub body_fits : (framing : Framing) (body bytes : List ℕ) → BodyText framing body bytes → length body ≤ length bytes
  pub front_fits : (framing : Framing) (body bytes : List ℕ) → BodyFront framing body bytes → length body ≤ length bytes
