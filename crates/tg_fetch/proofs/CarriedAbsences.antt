-- A reply that carries the blocks of a path of which a segment leads nowhere is refused for that segment alone.
use Rattle.std.proofs.Common.{◌≡◌, ℕ, ◌≤◌, All, Bool, true, Err, List, [], ◌∷◌, ◌++◌, length, map, max, refl, sym, ap, subst, ◌∙◌, inl, inr, append-nil, append_assoc, arith}
use Rattle.std.specs.Prelude.{◌≢◌}
use Rattle.std.proofs.lemmas.List.Elements.{All-cons, All-nil}
use Rattle.tg_client.specs.BodyLaws.{BodyLaws as CarLaws, IsFrontOfCar, IsMissOrOwnEnd}
use Rattle.tg_client.specs.Received.{HasReceived, IsCarOf}
use Rattle.tg_client.specs.ReceivedLaws.{ReceivedLaws}
use Rattle.tg_client.specs.declared.fault.ClientFault.{ClientFault}
use Rattle.tg_client.specs.declared.fault.ClientFault.TheVariants as clients
use Rattle.tg_fetch.proofs.CarriedAnswer.{carrier_carries, longer_carries}
use Rattle.tg_fetch.proofs.Carriers.{IsCarrier, IsRefusedFor, body_few, carrier, framed, none_both, refused_for}
use Rattle.tg_fetch.specs.Bodies.{BodyFails, BodyStops, IsOpenBody}
use Rattle.tg_fetch.specs.Faults.{absence_fault}
use Rattle.tg_fetch.specs.Laws.{AbsenceIsNoAnswer, AbsenceIsTold, IsMissOrMemory, IsNowhereIn}
use Rattle.tg_fetch.specs.Replies.{HeadStops, RefusedBy}
use Rattle.tg_fetch.specs.declared.fault.FetchFault.{FetchFault}
use Rattle.tg_fetch.specs.declared.fault.FetchFault.TheVariants as faults
use Rattle.tg_heard.specs.Carried.{BodyCarries, IsAbsenceHead, IsAnswerHead}
use Rattle.tg_heard.specs.FrontLaws.{BodyPieceLaws, HeadLaws}
use Rattle.tg_heard.specs.Laws.{NotBoth, OneFinalHead}
use Rattle.tg_http.specs.declared.framing.Framing.TheVariants as framings
use Rattle.tg_http.specs.declared.reply.ReplyHead.{ReplyHead}
use Rattle.tg_model.specs.Counts.{greatest}
use Rattle.tg_model.specs.Dag.{Dag, Section}
use Rattle.tg_model.specs.LimitNumbers.{LimitNumbers}
use Rattle.tg_model.specs.Queries.{QueryParts}
use Rattle.tg_model.specs.Traversal.{block_list}
use Rattle.tg_model.specs.declared.queries.Form.{Form}
use Rattle.tg_model_laws.specs.Tasks.{Miss, no_directory, no_entry}
use Rattle.tg_model_laws.specs.Verified.{AreSettled, VerifiedLaws}
use Rattle.tg_verify.specs.Absences.{path_limits, path_query}
use Rattle.tg_verify.specs.Laws.{IsMissOf}
use Rattle.tg_verify.specs.Taken.{IsThrough}
use Rattle.tg_verify.specs.WantsLaws.{none_next}
use Rattle.tg_verify.specs.declared.fault.Refusal.{Refusal}
use Rattle.tg_verify.specs.declared.fault.Refusal.TheVariants as refusals

-- ---- faults

miss_refused : (miss : Miss) (fault : Refusal) → IsMissOf miss fault → IsMissOrMemory miss (absence_fault (clients.Refused fault))
miss_refused (no_entry i) (refusals.NotThere segment) m = m
miss_refused (no_directory i) (refusals.NotFolder segment) m = m
miss_refused _ _ m = absurd m

-- of the CAR that shows an absence; out has no part in it
miss_cause : (miss : Miss) (cause : ClientFault) → IsMissOrOwnEnd miss cause → cause ≢ clients.InputFault → cause ≢ clients.KeepFault → absence_fault cause ≢ faults.Refused refusals.SinkFault
    → IsMissOrMemory miss (absence_fault cause)
miss_cause miss (clients.Refused fault) (inl m) not_input not_keep not_sink = miss_refused miss fault m
miss_cause miss (clients.Refused refusals.SinkFault) (inr own) not_input not_keep not_sink = absurd (not_sink refl)
miss_cause miss (clients.Refused _) (inr own) not_input not_keep not_sink = absurd own
miss_cause miss (clients.BadCar car) own not_input not_keep not_sink = absurd own
miss_cause miss clients.InputFault own not_input not_keep not_sink = absurd (not_input refl)
miss_cause miss clients.KeepFault own not_input not_keep not_sink = absurd (not_keep refl)
miss_cause miss clients.OutOfMemory own not_input not_keep not_sink = tt

-- the head of an absence that has a framing isn't refused
absence_head : (miss : Miss) (q : QueryParts) (head : ReplyHead) (fault : FetchFault) → IsAbsenceHead q head → (head.framing ≡ framings.Broken → ⊥) → HeadStops q head fault
    → IsMissOrMemory miss fault
absence_head miss q head (faults.Status status) is framed h = absurd (h.2 is)
absence_head miss q head faults.BadFraming is framed h = absurd (framed h.1)
absence_head miss q head faults.BadType is framed h = absurd (omega (arith, is.status, h.0))
absence_head miss q head faults.OutOfMemory is framed h = tt
absence_head miss q head _ is framed h = absurd h

-- ---- lists

-- no block is above a limit that their greatest isn't above
small_each : (limit : ℕ) (sections : List Section) → greatest (map (λ section. length section.block) sections) ≤ limit → All (λ section. length section.block ≤ limit) sections
small_each limit [] h = All-nil (λ (s : Section). length s.block ≤ limit)
small_each limit (s ∷ sections) h =
    let most = greatest (map (λ (section : Section). length section.block) sections) in
    let both : max (length s.block) most ≤ limit = h in
    All-cons (λ (s : Section). length s.block ≤ limit) s sections (omega (arith, both)) (small_each limit sections (omega (arith, both)))

none_left : (q : QueryParts) (sections : List Section) → AreSettled q sections []
none_left q sections w cid more e = absurd (cc e)

-- ---- a reply that shows that a segment of the path leads nowhere

module _ (heads : HeadLaws) (one_head : OneFinalHead) (pieces : BodyPieceLaws) (cars : CarLaws) (received : ReceivedLaws) (verified : VerifiedLaws)
    (q : QueryParts) (limits : LimitNumbers) (s : Dag) (miss : Miss) (shown : IsNowhereIn q limits s miss) where
  -- the sections that the DAG opens
  abbrev all : List Section
  all = block_list (path_query q) s

  module _ (heard unheard more : List ℕ) (n : IsCarrier (IsAbsenceHead q) q limits (heard ++ (unheard ++ more)) all) where
    is_car : IsCarOf n.body all
    is_car = subst (λ (f : Form). BodyCarries f q n.body all) n.is_head.car n.carries

    no_answer : IsAnswerHead q n.head → ⊥
    no_answer is = omega (arith, n.is_head.status, is.status)

    of_car : (given left h u : List ℕ) (sections : List Section) → n.body ≡ given ++ left → given ≡ h ++ u → HasReceived limits.block h sections
        → IsFrontOfCar (path_limits limits) n.body all h u sections
    of_car given left h u sections whole parts got = record {
      is_car = is_car;
      few = body_few heads one_head pieces (IsAbsenceHead q) q limits all heard unheard more n;
      more = left;
      whole = whole ∙ (ap (λ (l : List ℕ). l ++ left) parts ∙ append_assoc h u left);
      received = got;
    }

    -- the terminal isn't among the sections of a front
    not_through : (given left h u : List ℕ) (sections : List Section) (said : List ℕ) → n.body ≡ given ++ left → given ≡ h ++ u → HasReceived limits.block h sections
        → IsThrough (path_query q) (path_limits limits) sections said → ⊥
    not_through given left h u sections said whole parts got through = by behind.0 behind.1
      where
        all_got : HasReceived limits.block n.body all
        all_got = received.whole limits.block n.body all is_car (small_each limits.block all shown.within.block)

        behind : (rest : List Section) × (all ≡ sections ++ rest)
        behind =
            received.front limits.block h (u ++ left) sections all got
            (subst (λ (l : List ℕ). HasReceived limits.block l all) (whole ∙ (ap (λ (l : List ℕ). l ++ left) parts ∙ append_assoc h u left)) all_got)

        by : (rest : List Section) → all ≡ sections ++ rest → ⊥
        by [] e =
            let (_, stops) = verified.nowhere_ends (path_query q) s sections miss through.given [] (none_left (path_query q) sections) shown.opened (e ∙ append-nil sections) shown.ends through.verified in
            absurd (cc stops)
        by (next ∷ rest) e =
            none_next (path_query q) next
            (verified.nowhere (path_query q) s sections rest next miss through.given [] (none_left (path_query q) sections) shown.opened e shown.ends through.verified)

    -- a refusal of it is for that segment, and nothing is written
    abbrev IsMissed : List ℕ → FetchFault → Type 0
    IsMissed text fault = IsMissOrMemory miss fault × (text ≡ [])

    stops : (given left : List ℕ) (sections : List Section) (text : List ℕ) (fault : FetchFault) → n.body ≡ given ++ left
        → BodyStops q limits n.head given sections text fault → IsMissed text fault
    stops given left sections text fault whole (BodyStops.answer b) = absurd (no_answer b.is_head)
    stops given left sections text fault whole (BodyStops.absence b) =
        let h = b.are_heard in
        let missed = cars.nowhere (path_query q) (path_limits limits) s miss n.body h.heard h.unheard sections b.said b.cause shown.opened shown.ends shown.within
        (of_car given left h.heard h.unheard sections whole h.whole h.received) b.ends in
        let not_sink : absence_fault b.cause ≢ faults.Refused refusals.SinkFault = λ e. b.not_sink (b.fault_is ∙ e) in
        (subst (IsMissOrMemory miss) (sym b.fault_is) (miss_cause miss b.cause missed b.not_input b.not_keep not_sink), b.no_text)
    stops given left sections text fault whole (BodyStops.reaches b) =
        let h = b.are_heard in absurd (not_through given left h.heard h.unheard sections b.said whole h.whole h.received b.through)
    stops given left sections text fault whole (BodyStops.block b) = absurd (no_answer b.is_head)

    fails : (sections : List Section) (text : List ℕ) (fault : FetchFault) → BodyFails q limits n.head n.body sections text fault → IsMissed text fault
    fails sections text fault (BodyFails.answer b) = absurd (no_answer b.is_head)
    fails sections text fault (BodyFails.absence b) =
        absurd (cars.nowhere_ends (path_query q) (path_limits limits) s miss n.body sections b.said (Err (clients.Refused (refusals.Truncated b.want b.number))) shown.opened shown.ends shown.within
        (of_car n.body [] n.body [] sections (sym (append-nil n.body)) (sym (append-nil n.body)) b.received) b.short)
    fails sections text fault (BodyFails.reaches b) =
        let h = b.are_heard in absurd (not_through n.body [] h.heard h.unheard sections b.said (sym (append-nil n.body)) h.whole h.received b.through)
    fails sections text fault (BodyFails.block b) = absurd (no_answer b.is_head)

    -- nor is anything written where it is open
    open_none : (given : List ℕ) (sections : List Section) (text : List ℕ) → IsOpenBody q limits n.head given sections text → text ≡ []
    open_none given sections text (IsOpenBody.answer b) = absurd (no_answer b.is_head)
    open_none given sections text (IsOpenBody.absence b) = b.no_text
    open_none given sections text (IsOpenBody.block b) = b.no_text

    missed : (ended : Bool) → (ended ≡ true → unheard ++ more ≡ []) → (sections : List Section) (text : List ℕ) (fault : FetchFault)
        → RefusedBy q limits heard unheard ended sections text fault → IsMissed text fault
    missed ended closed sections text fault r =
        by (refused_for heads one_head pieces (IsAbsenceHead q) q limits all heard unheard more n ended closed sections text fault r)
      where
        by : IsRefusedFor q limits n.head n.body sections text fault → IsMissed text fault
        by (IsRefusedFor.at_head h none) =
            (absence_head miss q n.head fault n.is_head (framed heads one_head pieces (IsAbsenceHead q) q limits all heard unheard more n) h, none)
        by (IsRefusedFor.in_body given left whole b) = stops given left sections text fault whole b
        by (IsRefusedFor.at_end b) = fails sections text fault b
        by (IsRefusedFor.before_body is none) = (subst (IsMissOrMemory miss) (sym is) tt, none)
        by (IsRefusedFor.amid_body is given b) = (subst (IsMissOrMemory miss) (sym is) tt, open_none given sections text b)

pub absence_is_told : HeadLaws → OneFinalHead → BodyPieceLaws → CarLaws → ReceivedLaws → VerifiedLaws → AbsenceIsTold
absence_is_told heads one_head pieces cars received verified q limits d miss heard unheard more ended over sections text fault shown carries ends r =
    missed heads one_head pieces cars received verified q limits d miss shown heard unheard more
    (carrier (IsAbsenceHead q) q limits (heard ++ (unheard ++ more)) over (block_list (path_query q) d) carries) ended
    (λ e. none_both unheard more (ends e).1 (ends e).2) sections text fault r

-- since no answer is an absence
pub absence_is_no_answer : NotBoth → AbsenceIsNoAnswer
absence_is_no_answer not_both q limits d miss heard more ended over sections text shown carries none a =
    let all = block_list (path_query q) d in
    not_both (heard ++ more) ended true q sections all (longer_carries (IsAnswerHead q) q heard more ended sections none a.carries)
    (carrier_carries (IsAbsenceHead q) q limits (heard ++ more) all (carrier (IsAbsenceHead q) q limits (heard ++ more) over all carries))
