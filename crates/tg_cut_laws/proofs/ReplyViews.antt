-- The bytes of a reply as a whole: where in them it is refused, where it is the answer, and where it goes on.
use Rattle.std.proofs.Common.{◌≡◌, ℕ, ◌<◌, ◌≤◌, Bool, true, List, [], ◌∷◌, ◌++◌, length, refl, sym, ap, ap₂, subst, ◌∙◌, inl, inr, append_assoc, arith}
use Rattle.std.proofs.lemmas.List.{append-nil, length-append}
use Rattle.std.specs.Prelude.{◌⊎◌}
use Rattle.tg_body.specs.Bodies.{BodyFront}
use Rattle.tg_body.specs.History.{HasFeedCause, StopsAtByte}
use Rattle.tg_cut_laws.proofs.Insides.{inside_ends, inside_front, inside_short}
use Rattle.tg_cut_laws.proofs.ReplyPlaces.{BreaksAt, EndsAt, OpenAt, Place, RefusedBehind, WholeAt}
use Rattle.tg_cut_laws.specs.Bodies.{IsAnswerBody, IsDueFault}
use Rattle.tg_cut_laws.specs.Replies.{IsAnsweredIn, IsRefusedIn}
use Rattle.tg_fetch.specs.Replies.{BreaksFraming, EndsInBody, IsOpenBefore, IsOpenBehind, IsShortBehind, RefusedBy}
use Rattle.tg_fetch.specs.declared.fault.FetchFault.{FetchFault}
use Rattle.tg_fetch.specs.declared.fault.FetchFault.TheVariants as faults
use Rattle.tg_heard.specs.FinalHeads.{FinalHead, HasBadHead, IsOpenHead}
use Rattle.tg_heard.specs.FrontLaws.{HeadLaws}
use Rattle.tg_http.specs.declared.fault.HttpFault.TheVariants as https
use Rattle.tg_http.specs.declared.framing.Framing.{Framing}
use Rattle.tg_http.specs.declared.framing.Framing.TheVariants as framings
use Rattle.tg_http.specs.declared.reply.ReplyHead.{ReplyHead}
use Rattle.tg_model.specs.Dag.{Section}
use Rattle.tg_model.specs.LimitNumbers.{LimitNumbers}
use Rattle.tg_model.specs.Queries.{QueryParts}
use Rattle.tg_model.specs.declared.limits.LimitKind.TheVariants as kinds
use Rattle.tg_verify.specs.declared.fault.Refusal.TheVariants as refusals

-- ---- the views

-- it is refused before its final head is whole
pub data RefusedBefore (limits : LimitNumbers) (bytes : List ℕ) (ended : Bool) (text : List ℕ) (fault : FetchFault) : Type 0 where
  bad : fault ≡ faults.BadReplyHead → text ≡ [] → (heard left : List ℕ) → bytes ≡ heard ++ left → length heard ≤ limits.received → HasBadHead heard
      → RefusedBefore limits bytes ended text fault
  cut : fault ≡ faults.BadReplyHead → text ≡ [] → ended ≡ true → length bytes ≤ limits.received → IsOpenHead bytes → RefusedBefore limits bytes ended text fault
  past : fault ≡ faults.Refused (refusals.Limit kinds.Received limits.received) → text ≡ [] → (heard left : List ℕ) → bytes ≡ heard ++ left
      → length heard ≡ limits.received → 0 < length left → IsOpenHead heard → RefusedBefore limits bytes ended text fault

-- or behind it
pub record RefusedAfter (q : QueryParts) (limits : LimitNumbers) (bytes : List ℕ) (ended : Bool) (text : List ℕ) (fault : FetchFault) : Type 0 where
  pub head : ReplyHead
  pub rest : List ℕ
  pub final : FinalHead bytes head rest
  pub refused : RefusedBehind q limits bytes head rest ended text fault

-- one of both
abbrev pub IsSeen : QueryParts → LimitNumbers → List ℕ → Bool → List ℕ → FetchFault → Type 0
IsSeen q limits bytes ended text fault = RefusedBefore limits bytes ended text fault ⊎ RefusedAfter q limits bytes ended text fault

-- it is the answer
pub record AnsweredAfter (q : QueryParts) (limits : LimitNumbers) (bytes : List ℕ) (ended : Bool) (text : List ℕ) : Type 0 where
  pub head : ReplyHead
  pub rest : List ℕ
  pub final : FinalHead bytes head rest
  pub whole : WholeAt limits bytes head rest
  pub closed : head.framing ≡ framings.UntilClose → ended ≡ true
  pub sections : List Section
  pub answer : IsAnswerBody q limits head whole.body sections text

-- no want of memory is due
not_memory : (fault : FetchFault) → fault ≡ faults.OutOfMemory → IsDueFault fault → ⊥
not_memory fault is due = subst IsDueFault is due

module _ (heads : HeadLaws) (q : QueryParts) (limits : LimitNumbers) (bytes heard left : List ℕ) (whole : bytes ≡ heard ++ left) (within : length heard ≤ limits.received) where
  -- ---- places

  -- a final head of what was heard is that of all bytes
  pub total : (head : ReplyHead) (came : List ℕ) → FinalHead heard head came → FinalHead bytes head (came ++ left)
  total head came f = subst (λ (l : List ℕ). FinalHead l head (came ++ left)) (sym whole) (heads.final_stays heard left came head f)

  -- what was heard is a place
  abbrev pub here : (head : ReplyHead) (came : List ℕ) → FinalHead heard head came → Place limits bytes head (came ++ left)
  here head came f = record { heard = heard; came = came; left = left; whole = whole; behind = refl; within = within; final = f }

  -- where a reply is open there
  abbrev pub open_here : (sections : List Section) (text : List ℕ) (b : IsOpenBehind q limits heard sections text) → OpenAt q limits bytes b.head (b.rest ++ left) text
  open_here sections text b = record {
    place = here b.head b.rest b.final;
    framed = b.framed;
    given = b.given;
    front = b.front;
    sections = sections;
    body = b.body;
  }

  -- ---- a broken framing

  module _ (unheard more : List ℕ) (left_is : left ≡ unheard ++ more) (sections : List Section) (text : List ℕ) (r : BreaksFraming q limits heard unheard sections text)
      (chunked : r.head.framing ≡ framings.Chunked) (s : StopsAtByte r.rest r.given r.looked) where
    -- what is behind the byte
    abbrev behind : List ℕ
    behind = s.more ++ (r.more ++ more)

    -- what is left begins with what was looked at
    looked_is : left ≡ s.front ++ s.last ∷ behind
    looked_is =
        left_is
        ∙ (ap (λ (l : List ℕ). l ++ more) r.whole
        ∙ (append_assoc r.looked r.more more
        ∙ (ap (λ (l : List ℕ). l ++ (r.more ++ more)) s.whole ∙ append_assoc s.front (s.last ∷ s.more) (r.more ++ more))))

    -- it went on up to the byte
    abbrev broken_place : Place limits bytes r.head (r.rest ++ left)
    broken_place = record {
      heard = heard ++ s.front;
      came = r.rest ++ s.front;
      left = s.last ∷ behind;
      whole = whole ∙ (ap (λ (l : List ℕ). heard ++ l) looked_is ∙ sym (append_assoc heard s.front (s.last ∷ behind)));
      behind = ap (λ (l : List ℕ). r.rest ++ l) looked_is ∙ sym (append_assoc r.rest s.front (s.last ∷ behind));
      within = omega (arith, r.few, ap length s.whole, length-append s.front (s.last ∷ s.more), length-append heard s.front);
      final = heads.final_stays heard s.front r.rest r.head r.final;
    }

    -- and is open there
    abbrev broken_open : OpenAt q limits bytes r.head (r.rest ++ left) text
    broken_open = record {
      place = broken_place;
      framed = r.framed;
      given = r.given;
      front = subst (λ (f : Framing). BodyFront f r.given (r.rest ++ s.front)) (sym chunked) s.went_on;
      sections = sections;
      body = r.body;
    }

    -- where the byte breaks it
    breaks_at : BreaksAt limits bytes r.head (r.rest ++ left) broken_place
    breaks_at = record {
      last = s.last;
      more = behind;
      left_is = refl;
      few = omega (arith, r.few, ap length s.whole, length-append s.front (s.last ∷ s.more), length-append heard s.front);
      chunked = chunked;
      breaks = s.breaks;
    }

    -- so it is refused behind its final head
    broken_after : (ended : Bool) (fault : FetchFault) → fault ≡ faults.BadFraming → RefusedAfter q limits bytes ended text fault
    broken_after ended fault is = record {
      head = r.head;
      rest = r.rest ++ left;
      final = total r.head r.rest r.final;
      refused = RefusedBehind.is_open broken_open (EndsAt.breaks is breaks_at);
    }

  -- ---- a refusal

  module _ (unheard more : List ℕ) (left_is : left ≡ unheard ++ more) (ended : Bool) (is_over : ended ≡ true → left ≡ []) (sections : List Section) (text : List ℕ)
      (fault : FetchFault) where
    -- it ended in the body
    cut_after : fault ≡ faults.BadFraming → ended ≡ true → EndsInBody q limits heard sections text → RefusedAfter q limits bytes ended text fault
    cut_after is end r = record {
      head = r.head;
      rest = r.rest ++ left;
      final = total r.head r.rest r.final;
      refused =
          RefusedBehind.is_open
          (record {
            place = here r.head r.rest r.final;
            framed = r.framed;
            given = r.given;
            front = inside_front r.head.framing r.given r.rest r.inside;
            sections = sections;
            body = r.body;
          })
          (EndsAt.cut is end (is_over end) (inside_short r.head.framing r.given r.rest r.inside) (inside_ends r.head.framing r.given r.rest r.inside));
    }

    -- one byte more came than may be received
    past_by : fault ≡ faults.Refused (refusals.Limit kinds.Received limits.received) → length heard ≡ limits.received → 0 < length left
        → IsOpenBefore heard sections text ⊎ IsShortBehind q limits heard sections text → IsSeen q limits bytes ended text fault
    past_by is full some (inl before) = inl (RefusedBefore.past is before.no_text heard left whole full some before.is_open)
    past_by is full some (inr s) = inr (record {
      head = s.behind.head;
      rest = s.behind.rest ++ left;
      final = total s.behind.head s.behind.rest s.behind.final;
      refused = RefusedBehind.is_open (open_here sections text s.behind) (EndsAt.past is full some s.short);
    })

    -- or a byte breaks the framing
    broken_by : fault ≡ faults.BadFraming → (r : BreaksFraming q limits heard unheard sections text) → HasFeedCause r.head.framing r.rest r.given r.looked https.BadFraming
        → IsSeen q limits bytes ended text fault
    broken_by is r (inl broken) = absurd (r.framed broken)
    broken_by is r (inr (chunked, s)) = inr (broken_after unheard more left_is sections text r chunked s ended fault is)

    -- the link ended behind all bytes
    all_heard : ended ≡ true → bytes ≡ heard
    all_heard end = whole ∙ (ap (λ (l : List ℕ). heard ++ l) (is_over end) ∙ append-nil heard)

    -- by its cause
    seen_by : IsDueFault fault → RefusedBy q limits heard unheard ended sections text fault → IsSeen q limits bytes ended text fault
    seen_by due (RefusedBy.bad_head is has no_section none) = inl (RefusedBefore.bad is none heard left whole within has)
    seen_by due (RefusedBy.cut_head is end no_more open_head no_section none) =
        inl (RefusedBefore.cut is none end (omega (arith, within, ap length (all_heard end))) (subst IsOpenHead (sym (all_heard end)) open_head))
    seen_by due (RefusedBy.at_head r no_section none) = inr (record {
      head = r.head;
      rest = left;
      final = total r.head [] r.final;
      refused = RefusedBehind.at_head (here r.head [] r.final) r.stops none;
    })
    seen_by due (RefusedBy.in_body r) = inr (record {
      head = r.head;
      rest = r.rest ++ left;
      final = total r.head r.rest r.final;
      refused =
          RefusedBehind.in_body (record { place = here r.head r.rest r.final; framed = r.framed; given = r.given; front = r.front; sections = sections; stops = r.stops });
    })
    seen_by due (RefusedBy.at_end r) = inr (record {
      head = r.head;
      rest = r.rest ++ left;
      final = total r.head r.rest r.final;
      refused =
          RefusedBehind.at_end
          (record {
            whole = record { place = here r.head r.rest r.final; body = r.given; body_is = r.body_is; closed = λ e. is_over (r.closed e) };
            sections = sections;
            fails = r.fails;
          })
          r.closed;
    })
    seen_by due (RefusedBy.breaks is r) = broken_by is r r.breaks
    seen_by due (RefusedBy.cut_body is end no_more r) = inr (cut_after is end r)
    seen_by due (RefusedBy.past is p) = past_by is p.heard_is (omega (arith, p.some, ap length left_is, length-append unheard more)) p.is_open
    seen_by due (RefusedBy.memory is o) = absurd (not_memory fault is due)

-- ---- in all bytes

module _ (heads : HeadLaws) (q : QueryParts) (limits : LimitNumbers) (bytes text : List ℕ) where
  -- a refusal is seen
  pub seen : (fault : FetchFault) → IsDueFault fault → (r : IsRefusedIn q limits bytes text fault) → IsSeen q limits bytes r.ended text fault
  seen fault due r =
      seen_by heads q limits bytes r.heard (r.unheard ++ r.more) r.whole r.within r.unheard r.more refl r.ended r.is_over r.sections text fault due r.refused

  -- nothing and nothing
  none_both : (a b : List ℕ) → a ≡ [] → b ≡ [] → a ++ b ≡ []
  none_both a b e f = ap₂ (λ (x y : List ℕ). x ++ y) e f

  -- and the answer
  pub answered_after : (a : IsAnsweredIn q limits bytes text) → AnsweredAfter q limits bytes a.ended text
  answered_after a =
      let c = a.answered.carries in
      let left : List ℕ = c.more ++ a.more in
      let whole : bytes ≡ c.front ++ left = a.whole ∙ (ap (λ (l : List ℕ). l ++ a.more) c.heard_is ∙ append_assoc c.front c.more a.more) in
      let within : length c.front ≤ limits.received = omega (arith, a.answered.within, ap length c.heard_is, length-append c.front c.more) in
      record {
        head = c.head;
        rest = c.rest ++ left;
        final = total heads q limits bytes c.front left whole within c.head c.rest c.final;
        whole = record {
          place = here heads q limits bytes c.front left whole within c.head c.rest c.final;
          body = c.body;
          body_is = c.body_is;
          closed = λ e. let close = c.closed e in none_both c.more a.more close.1 (a.is_over close.0);
        };
        closed = λ e. (c.closed e).0;
        sections = a.sections;
        answer = record { is_head = c.is_head; carries = c.carries; through = a.answered.through };
      }
