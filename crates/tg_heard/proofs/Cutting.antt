-- A CAR in chunks that is cut carries nothing.
use Rattle.std.proofs.Common.{◌≡◌, ℕ, ◌≤◌, Bool, true, false, List, ◌++◌, refl, sym, ap, subst, ◌∙◌, arith}
use Rattle.std.specs.Prelude.{All}
use Rattle.tg_bytes.specs.Lists.{joined}
use Rattle.tg_body.specs.Bodies.{BodyText}
use Rattle.tg_body.specs.Laws.{CutIsNotWhole}
use Rattle.tg_http.specs.Heads.{ReplyStays}
use Rattle.tg_http.specs.declared.framing.Framing.{Framing}
use Rattle.tg_http.specs.declared.framing.Framing.TheVariants as framings
use Rattle.tg_http.specs.declared.reply.ReplyHead.{ReplyHead}
use Rattle.tg_http.specs.declared.request.RequestHead.{RequestHead}
use Rattle.tg_model.specs.Dag.{Section}
use Rattle.tg_model.specs.Queries.{QueryParts}
use Rattle.tg_query.specs.Requests.{car_with_dups}
use Rattle.tg_reply.specs.Bodies.{CutGoesOn, IsPart}
use Rattle.tg_reply.specs.CarBytes.{car_parts, chunked}
use Rattle.tg_reply.specs.Heads.{car_status}
use Rattle.tg_reply.specs.Laws.{ReadsBack, number_of}
use Rattle.tg_reply.specs.Readings.{CarReads, IsGet}
use Rattle.tg_reply.specs.Replies.{car_reply}
use Rattle.tg_heard.specs.Carried.{CarriesBehind, IsAbsenceHead, IsAnswerHead}
use Rattle.tg_heard.specs.FinalHeads.{FinalHead}
use Rattle.tg_heard.specs.Laws.{CutsCarryNothing}
use Rattle.tg_heard.proofs.Carrying.{final_read}
use Rattle.tg_heard.proofs.Heads.{one_final_head}

-- nothing is carried behind a head in chunks whose parts are cut
module _ (stays : ReplyStays) (goes_on : CutGoesOn) (not_whole : CutIsNotWhole) (IsHead : ReplyHead → Type 0) (text body kind : List ℕ) (status : ℕ)
    (high : 200 ≤ status) (back : ReadsBack text status kind framings.Chunked) (parts : List (List ℕ)) (are_parts : All IsPart parts)
    (cut : body ≡ chunked true parts) where
  none_carried : (ended : Bool) (q : QueryParts) (some : List Section) → CarriesBehind IsHead (text ++ body) ended q some → ⊥
  none_carried ended q some a =
      let found = final_read text body kind status framings.Chunked high back in
      let same = one_final_head stays a.front a.more a.rest body a.head found.0 a.final (subst (λ (l : List ℕ). FinalHead l found.0 body) a.heard_is found.1) in
      let framing : a.head.framing ≡ framings.Chunked = ap (λ (h : ReplyHead). h.framing) same.0 ∙ found.2.framing_is in
      not_whole (joined parts) a.body (chunked true parts) a.rest a.more (goes_on parts are_parts)
      (subst (λ (f : Framing). BodyText f a.body a.rest) framing a.body_is) (sym cut ∙ same.1)

-- a reply with a CAR is no interim one
high_status : (found : Bool) → 200 ≤ number_of (car_status found)
high_status true = omega arith
high_status false = omega arith

-- to GET of HTTP/1.1 the body that is cut is the chunks without the last one
cut_body : (head : RequestHead) (found : Bool) (q : QueryParts) (sections : List Section) → IsGet head q → head.minor ≡ 1
    → (car_reply head found q sections true).body ≡ chunked true (car_parts q.root sections)
cut_body head found q sections get minor = rw (get.method, minor) refl

-- a CAR that is cut, found or not
pub cuts_carry_nothing : ReplyStays → CarReads → CutGoesOn → CutIsNotWhole → CutsCarryNothing
cuts_carry_nothing stays cars goes_on not_whole head found q sections some ended get form minor spelled fits =
    let read = (cars head found q sections get spelled fits).0 minor in
    let r = car_reply head found q sections true in
    let cut = cut_body head found q sections get minor in (
      none_carried stays goes_on not_whole (IsAnswerHead q) r.head r.body (car_with_dups q.dups) (number_of r.status) (high_status found) read.reads.head (car_parts q.root sections) read.car.parts cut ended q some,
      none_carried stays goes_on not_whole (IsAbsenceHead q) r.head r.body (car_with_dups q.dups) (number_of r.status) (high_status found) read.reads.head (car_parts q.root sections) read.car.parts cut ended q some,
    )
