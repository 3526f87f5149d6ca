-- A reply that is whole at the front of bytes: why a front of them may be refused, and that it doesn't go on behind it.
use Rattle.std.proofs.Common.{◌≡◌, ℕ, ◌<◌, ◌≤◌, Bool, true, List, [], ◌++◌, length, sym, ap, ap₂, subst, ◌∙◌, inl, inr, append-nil, append_assoc, arith}
use Rattle.std.proofs.lemmas.List.{length-append}
use Rattle.std.specs.Prelude.{◌⊎◌}
use Rattle.tg_body.specs.Bodies.{BodyFront, BodyText}
use Rattle.tg_body.specs.History.{EndsInside, HasFeedCause}
use Rattle.tg_bytes.specs.Lists.{longer}
use Rattle.tg_fetch.specs.Bodies.{BodyFails, BodyStops, IsOpenBody}
use Rattle.tg_fetch.specs.Laws.{CarriesWithinBy}
use Rattle.tg_fetch.specs.Replies.{BreaksFraming, EndsInBody, HeadStops, IsOpenBefore, IsOpenReply, IsPastReceived, IsShortBehind, RefusedBy}
use Rattle.tg_fetch.specs.declared.fault.FetchFault.{FetchFault}
use Rattle.tg_fetch.specs.declared.fault.FetchFault.TheVariants as faults
use Rattle.tg_heard.specs.Carried.{BodyCarries, CarriesBehind}
use Rattle.tg_heard.specs.FinalHeads.{FinalHead}
use Rattle.tg_heard.specs.FrontLaws.{BodyPieceLaws, HeadLaws}
use Rattle.tg_heard.specs.Laws.{OneFinalHead}
use Rattle.tg_http.specs.declared.fault.HttpFault.TheVariants as https
use Rattle.tg_http.specs.declared.framing.Framing.{Framing}
use Rattle.tg_http.specs.declared.framing.Framing.TheVariants as framings
use Rattle.tg_http.specs.declared.reply.ReplyHead.{ReplyHead}
use Rattle.tg_model.specs.Dag.{Section}
use Rattle.tg_model.specs.LimitNumbers.{LimitNumbers}
use Rattle.tg_model.specs.Queries.{QueryParts}

-- ---- the reply

-- its text, of no more bytes than may be received, carries the sections behind such a head; where the body goes on until the
-- link closes nothing follows it
pub record IsCarrier (IsHead : ReplyHead → Type 0) (q : QueryParts) (limits : LimitNumbers) (bytes : List ℕ) (all : List Section) : Type 0 where
  pub text : List ℕ
  pub tail : List ℕ
  pub whole : bytes ≡ text ++ tail
  pub few : length text ≤ limits.received
  pub head : ReplyHead
  pub rest : List ℕ
  pub final : FinalHead text head rest
  pub is_head : IsHead head
  pub body : List ℕ
  pub body_is : BodyText head.framing body rest
  pub closed : head.framing ≡ framings.UntilClose → tail ≡ []
  pub carries : BodyCarries q.form q body all

module _ (IsHead : ReplyHead → Type 0) (q : QueryParts) (limits : LimitNumbers) (bytes : List ℕ) (all : List Section) where
  -- bytes of which a front carries them
  abbrev pub carrier_behind : (front more : List ℕ) (ended : Bool) → bytes ≡ front ++ more → length front ≤ limits.received → (ended ≡ true → more ≡ [])
      → CarriesBehind IsHead front ended q all → IsCarrier IsHead q limits bytes all
  carrier_behind front more ended whole few over c = record {
    text = c.front;
    tail = c.more ++ more;
    whole = whole ∙ (ap (λ (l : List ℕ). l ++ more) c.heard_is ∙ append_assoc c.front c.more more);
    few = omega (arith, few, ap length c.heard_is, length-append c.front c.more);
    head = c.head;
    rest = c.rest;
    final = c.final;
    is_head = c.is_head;
    body = c.body;
    body_is = c.body_is;
    closed = λ e. let close = c.closed e in ap₂ (λ (a b : List ℕ). a ++ b) close.1 (over close.0);
    carries = c.carries;
  }

pub carrier : (IsHead : ReplyHead → Type 0) (q : QueryParts) (limits : LimitNumbers) (bytes : List ℕ) (over : Bool) (all : List Section)
    → CarriesWithinBy IsHead q limits bytes over all → IsCarrier IsHead q limits bytes all
carrier IsHead q limits bytes over all w = carrier_behind IsHead q limits bytes all w.front w.more w.ended w.whole w.few (λ e. (w.is_over e).1) w.carries

-- nothing and nothing
pub none_both : (a b : List ℕ) → a ≡ [] → b ≡ [] → a ++ b ≡ []
none_both a b e f = ap₂ (λ (x y : List ℕ). x ++ y) e f

-- ---- why a front of it is refused

-- of this head and this body: the head is; a front of the body, or all of it, is; or memory is wanted before the final head
-- is whole, or behind it
pub data IsRefusedFor (q : QueryParts) (limits : LimitNumbers) (head : ReplyHead) (body : List ℕ) (sections : List Section) (text : List ℕ) (fault : FetchFault) : Type 0 where
  at_head : HeadStops q head fault → text ≡ [] → IsRefusedFor q limits head body sections text fault
  in_body : (given left : List ℕ) → body ≡ given ++ left → BodyStops q limits head given sections text fault
      → IsRefusedFor q limits head body sections text fault
  at_end : BodyFails q limits head body sections text fault → IsRefusedFor q limits head body sections text fault
  before_body : fault ≡ faults.OutOfMemory → text ≡ [] → IsRefusedFor q limits head body sections text fault
  amid_body : fault ≡ faults.OutOfMemory → (given : List ℕ) → IsOpenBody q limits head given sections text
      → IsRefusedFor q limits head body sections text fault

module _ (heads : HeadLaws) (one_head : OneFinalHead) (pieces : BodyPieceLaws) (IsHead : ReplyHead → Type 0) (q : QueryParts) (limits : LimitNumbers)
    (all : List Section) (heard unheard more : List ℕ) (n : IsCarrier IsHead q limits (heard ++ (unheard ++ more)) all) where
  pub body_few : length n.body ≤ limits.received
  body_few = omega (arith, pieces.body_fits n.head.framing n.body n.rest n.body_is, heads.rest_fits n.text n.rest n.head n.final, n.few)

  pub framed : n.head.framing ≡ framings.Broken → ⊥
  framed e = subst (λ (f : Framing). BodyText f n.body n.rest) e n.body_is

  -- ---- a final head that was heard is this one

  total : FinalHead (heard ++ (unheard ++ more)) n.head (n.rest ++ n.tail)
  total = subst (λ (l : List ℕ). FinalHead l n.head (n.rest ++ n.tail)) (sym n.whole) (heads.final_stays n.text n.tail n.rest n.head n.final)

  same_head : (head : ReplyHead) (rest : List ℕ) → FinalHead heard head rest → (head ≡ n.head) × (rest ++ (unheard ++ more) ≡ n.rest ++ n.tail)
  same_head head rest f =
      let same = one_head heard (unheard ++ more) rest (n.rest ++ n.tail) head n.head f total in
      (same.0, sym same.1)

  -- ---- where all of it came nothing is open

  pub not_open : (middle : List ℕ) → heard ≡ n.text ++ middle → (n.head.framing ≡ framings.UntilClose → ⊥) → (sections : List Section) (text : List ℕ)
      → IsOpenBefore heard sections text ⊎ IsShortBehind q limits heard sections text → ⊥
  not_open middle e open_end sections text (inl before) =
      heads.open_not_final heard (n.rest ++ middle) n.head before.is_open
      (subst (λ (l : List ℕ). FinalHead l n.head (n.rest ++ middle)) (sym e) (heads.final_stays n.text middle n.rest n.head n.final))
  not_open middle e open_end sections text (inr s) =
      let b = s.behind in
      let same = one_head n.text middle n.rest b.rest n.head b.head n.final (subst (λ (l : List ℕ). FinalHead l b.head b.rest) e b.final) in
      let framing : b.head.framing ≡ n.head.framing = ap (λ (h : ReplyHead). h.framing) (sym same.0) in
      pieces.not_on n.head.framing n.body n.rest b.rest b.given middle n.body_is (subst (λ (f : Framing). BodyFront f b.given b.rest) framing b.front)
      (λ number e. s.short number (framing ∙ e)) open_end same.1

  -- so it is no longer than may be received
  past : (sections : List Section) (text : List ℕ) → IsPastReceived q limits heard unheard sections text → ⊥
  past sections text p =
      let l = longer n.text heard n.tail (unheard ++ more) (sym n.whole) (omega (arith, n.few, p.heard_is)) in
      let some : 0 < length n.tail = omega (arith, p.some, ap length l.rest, length-append l.middle (unheard ++ more), length-append unheard more) in
      let open_end : n.head.framing ≡ framings.UntilClose → ⊥ = λ e. absurd (omega (arith, ap length (n.closed e), some)) in
      not_open l.middle l.first open_end sections text p.is_open

  -- ---- its framing isn't broken

  breaks : (sections : List Section) (text : List ℕ) → BreaksFraming q limits heard unheard sections text → ⊥
  breaks sections text r =
      let (same, bytes) = same_head r.head r.rest r.final in
      let cause = subst (λ (h : ReplyHead). HasFeedCause h.framing r.rest r.given r.looked https.BadFraming) same r.breaks in
      let whole : r.rest ++ (r.looked ++ (r.more ++ more)) ≡ r.rest ++ (unheard ++ more) =
      ap (λ (l : List ℕ). r.rest ++ l) (sym (append_assoc r.looked r.more more) ∙ ap (λ (l : List ℕ). l ++ more) (sym r.whole)) in
      pieces.unbroken n.head.framing n.body n.rest r.rest r.given r.looked (r.more ++ more) n.tail n.body_is cause (whole ∙ bytes)

  -- ---- what is open of it is behind this head

  pub open_text : (sections : List Section) (text : List ℕ) → IsOpenReply q limits heard sections text
      → (text ≡ []) ⊎ ((given : List ℕ) × IsOpenBody q limits n.head given sections text)
  open_text sections text (inl before) = inl before.no_text
  open_text sections text (inr b) =
      let same = (same_head b.head b.rest b.final).0 in
      inr (b.given, subst (λ (h : ReplyHead). IsOpenBody q limits h b.given sections text) same b.body)

  memory : (sections : List Section) (text : List ℕ) (fault : FetchFault) → fault ≡ faults.OutOfMemory → (text ≡ []) ⊎ ((given : List ℕ) × IsOpenBody q limits n.head given sections text)
      → IsRefusedFor q limits n.head n.body sections text fault
  memory sections text fault is (inl none) = IsRefusedFor.before_body is none
  memory sections text fault is (inr (given, body)) = IsRefusedFor.amid_body is given body

  -- ---- nor is it cut

  module _ (ended : Bool) (none_left : ended ≡ true → unheard ++ more ≡ []) where
    cut_body : (sections : List Section) (text : List ℕ) → ended ≡ true → EndsInBody q limits heard sections text → ⊥
    cut_body sections text end r =
        let (same, bytes) = same_head r.head r.rest r.final in
        let inside : EndsInside n.head.framing r.given r.rest = subst (λ (h : ReplyHead). EndsInside h.framing r.given r.rest) same r.inside in
        pieces.not_inside n.head.framing n.body n.rest r.rest r.given n.tail n.body_is inside
        (sym (append-nil r.rest) ∙ (ap (λ (l : List ℕ). r.rest ++ l) (sym (none_left end)) ∙ bytes))

    cut_head : ended ≡ true → FinalHead heard n.head (n.rest ++ n.tail)
    cut_head end = subst (λ (l : List ℕ). FinalHead l n.head (n.rest ++ n.tail)) (ap (λ (l : List ℕ). heard ++ l) (none_left end) ∙ append-nil heard) total

    -- so it is refused for its head, its body or want of memory
    pub refused_for : (sections : List Section) (text : List ℕ) (fault : FetchFault) → RefusedBy q limits heard unheard ended sections text fault
        → IsRefusedFor q limits n.head n.body sections text fault
    refused_for sections text fault (RefusedBy.bad_head is bad _ _) =
        absurd (heads.bad_not_final (heard ++ (unheard ++ more)) (n.rest ++ n.tail) n.head (heads.bad_stays heard (unheard ++ more) bad) total)
    refused_for sections text fault (RefusedBy.cut_head is end _ is_open _ _) = absurd (heads.open_not_final heard (n.rest ++ n.tail) n.head is_open (cut_head end))
    refused_for sections text fault (RefusedBy.at_head r _ none) =
        IsRefusedFor.at_head (subst (λ (h : ReplyHead). HeadStops q h fault) (same_head r.head [] r.final).0 r.stops) none
    refused_for sections text fault (RefusedBy.in_body r) =
        let (same, bytes) = same_head r.head r.rest r.final in
        let front : BodyFront n.head.framing r.given r.rest = subst (λ (h : ReplyHead). BodyFront h.framing r.given r.rest) same r.front in
        let (left, whole) = pieces.fronts n.head.framing r.given n.body r.rest n.rest (unheard ++ more) n.tail front n.body_is bytes n.closed in
        IsRefusedFor.in_body r.given left whole (subst (λ (h : ReplyHead). BodyStops q limits h r.given sections text fault) same r.stops)
    refused_for sections text fault (RefusedBy.at_end r) =
        let (same, bytes) = same_head r.head r.rest r.final in
        let body_is : BodyText n.head.framing r.given r.rest = subst (λ (h : ReplyHead). BodyText h.framing r.given r.rest) same r.body_is in
        let body = pieces.one_body n.head.framing r.given n.body r.rest n.rest (unheard ++ more) n.tail body_is n.body_is bytes
        (λ e. (none_left (r.closed (ap (λ (h : ReplyHead). h.framing) same ∙ e)), n.closed e)) in
        IsRefusedFor.at_end
        (subst (λ (b : List ℕ). BodyFails q limits n.head b sections text fault) body (subst (λ (h : ReplyHead). BodyFails q limits h r.given sections text fault) same r.fails))
    refused_for sections text fault (RefusedBy.breaks is r) = absurd (breaks sections text r)
    refused_for sections text fault (RefusedBy.cut_body is end _ r) = absurd (cut_body sections text end r)
    refused_for sections text fault (RefusedBy.past is p) = absurd (past sections text p)
    refused_for sections text fault (RefusedBy.memory is o) = memory sections text fault is (open_text sections text o)
