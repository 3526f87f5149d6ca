-- A reply that carries sections which fit is refused in none of its fronts.
use Rattle.std.proofs.Common.{◌≡◌, ℕ, ◌≤◌, Bool, true, List, [], ◌∷◌, ◌++◌, length, map, max, Err, refl, sym, ap, subst, ◌∙◌, inl, inr}
use Rattle.std.proofs.Common.{append-nil, append_assoc, arith}
use Rattle.std.proofs.lemmas.List.{length-append}
use Rattle.std.specs.Prelude.{◌⊎◌}
use Rattle.tg_cid.specs.Cid.{CidParts}
use Rattle.tg_client.specs.BodyLaws.{BodyLaws as CarLaws, IsFrontOfCar}
use Rattle.tg_client.specs.Ends.{IsOwnEnd}
use Rattle.tg_client.specs.Received.{HasReceived, IsCarOf}
use Rattle.tg_client.specs.declared.fault.ClientFault.{ClientFault}
use Rattle.tg_client.specs.declared.fault.ClientFault.TheVariants as clients
use Rattle.tg_fetch.proofs.Carriers.{IsCarrier, IsRefusedFor, body_few, carrier, framed, none_both, refused_for}
use Rattle.tg_fetch.specs.Bodies.{BlockRefused, BodyFails, BodyStops, IsBeforeBlock, IsBlockFault, root_section}
use Rattle.tg_fetch.specs.Faults.{fault_of_client, fault_of_refusal}
use Rattle.tg_fetch.specs.Laws.{CarriedIsTaken, IsOwnFault}
use Rattle.tg_fetch.specs.Replies.{HeadStops, RefusedBy}
use Rattle.tg_fetch.specs.declared.fault.FetchFault.{FetchFault}
use Rattle.tg_fetch.specs.declared.fault.FetchFault.TheVariants as faults
use Rattle.tg_heard.specs.Carried.{BodyCarries, IsAnswerHead}
use Rattle.tg_heard.specs.FrontLaws.{BodyPieceLaws, HeadLaws}
use Rattle.tg_heard.specs.Laws.{OneFinalHead}
use Rattle.tg_http.specs.declared.framing.Framing.TheVariants as framings
use Rattle.tg_http.specs.declared.reply.ReplyHead.{ReplyHead}
use Rattle.tg_model.specs.Counts.{greatest}
use Rattle.tg_model.specs.Dag.{Dag, Section}
use Rattle.tg_model.specs.Fits.{Fits}
use Rattle.tg_model.specs.LimitNumbers.{LimitNumbers}
use Rattle.tg_model.specs.Queries.{QueryParts}
use Rattle.tg_model.specs.Traversal.{is_sent_behind}
use Rattle.tg_model.specs.declared.limits.LimitKind.TheVariants as kinds
use Rattle.tg_model.specs.declared.queries.Form.{Form}
use Rattle.tg_model.specs.declared.queries.Form.TheVariants as forms
use Rattle.tg_traversal.specs.Left.{WantedAt}
use Rattle.tg_model_laws.specs.Tasks.{Task, open_block}
use Rattle.tg_model_laws.specs.Verified.{AreSettled, VerifiedLaws}
use Rattle.tg_verify.specs.Laws.{AnswerLaws, IsOwnFault as IsOwnRefusal, IsWithinLimits}
use Rattle.tg_verify.specs.Refusals.{HasRefused}
use Rattle.tg_verify.specs.Taken.{IsUpTo}
use Rattle.tg_verify.specs.declared.fault.Refusal.{Refusal}
use Rattle.tg_verify.specs.declared.fault.Refusal.TheVariants as refusals

-- ---- faults that are one's own

own_client : (cause : ClientFault) → IsOwnEnd cause → IsOwnFault (fault_of_client cause)
own_client (clients.Refused refusals.SinkFault) own = tt
own_client (clients.Refused _) own = absurd own
own_client (clients.BadCar car) own = absurd own
own_client clients.InputFault own = tt
own_client clients.KeepFault own = tt
own_client clients.OutOfMemory own = tt

own_refusal : (cause : Refusal) → IsOwnRefusal cause → ((want : CidParts) (number : ℕ) → cause ≡ refusals.Truncated want number → ⊥)
    → IsOwnFault (fault_of_refusal cause)
own_refusal refusals.SinkFault own short = tt
own_refusal refusals.OutOfMemory own short = tt
own_refusal (refusals.Truncated want number) own short = absurd (short want number refl)
own_refusal _ own short = absurd own

before_block : (cause : Refusal) → IsBeforeBlock cause → (want : CidParts) (number : ℕ) → cause ≡ refusals.Truncated want number → ⊥
before_block cause before want number e = subst IsBeforeBlock e before

-- the head of an answer that has a framing isn't refused
own_head : (q : QueryParts) (head : ReplyHead) (fault : FetchFault) → IsAnswerHead q head → (head.framing ≡ framings.Broken → ⊥) → HeadStops q head fault
    → IsOwnFault fault
own_head q head (faults.Status status) is framed h = absurd (h.1 is.status)
own_head q head faults.BadFraming is framed h = absurd (framed h.1)
own_head q head faults.BadType is framed h = absurd (h.2 is.type_is)
own_head q head faults.OutOfMemory is framed h = tt
own_head q head _ is framed h = absurd h

-- ---- its sections

-- where a block is wanted that is sent
settled : (q : QueryParts) (sections : List Section) (at : WantedAt) (later : List (Task CidParts)) → is_sent_behind q sections at.cid ≡ true
    → AreSettled q sections (open_block at.want at.cid ∷ later)
settled q sections at later sends w cid more e =
    let same : at.cid ≡ cid = cc e in subst (λ (c : CidParts). is_sent_behind q sections c ≡ true) same sends

module _ (heads : HeadLaws) (one_head : OneFinalHead) (pieces : BodyPieceLaws) (cars : CarLaws) (answers : AnswerLaws) (verified : VerifiedLaws)
    (q : QueryParts) (limits : LimitNumbers) (d : Dag) (all : List Section) (answer : List ℕ) (fits : Fits d q all answer) (within : IsWithinLimits q limits d) where
  -- no block is wanted behind all sections
  none_wanted : (text : List ℕ) (at : WantedAt) → IsUpTo q limits all text at → ⊥
  none_wanted text at h =
      let (none, _) = verified.fitting_ends q d all answer h.given (open_block at.want at.cid ∷ h.later) (settled q all at h.later h.sends) fits h.verified in absurd (cc none)

  module _ (heard unheard more : List ℕ) (n : IsCarrier (IsAnswerHead q) q limits (heard ++ (unheard ++ more)) all) where
    -- the body is the CAR of the sections, or the one block
    is_car : q.form ≡ forms.Car → IsCarOf n.body all
    is_car e = subst (λ (f : Form). BodyCarries f q n.body all) e n.carries

    is_block : q.form ≡ forms.Raw → all ≡ root_section q n.body ∷ []
    is_block e = subst (λ (f : Form). BodyCarries f q n.body all) e n.carries

    block_few : q.form ≡ forms.Raw → length n.body ≤ limits.block
    block_few e =
        let most : max (length n.body) 0 ≤ limits.block =
        subst (λ (l : List Section). greatest (map (λ section. length section.block) l) ≤ limits.block) (fits.list ∙ is_block e) within.block in
        omega (arith, most)

    -- ---- a front of the body isn't refused

    of_car : (given left h u : List ℕ) (sections : List Section) → n.body ≡ given ++ left → given ≡ h ++ u → q.form ≡ forms.Car → HasReceived limits.block h sections
        → IsFrontOfCar limits n.body all h u sections
    of_car given left h u sections whole parts form received = record {
      is_car = is_car form;
      few = body_few heads one_head pieces (IsAnswerHead q) q limits all heard unheard more n;
      more = left;
      whole = whole ∙ (ap (λ (l : List ℕ). l ++ left) parts ∙ append_assoc h u left);
      received = received;
    }

    block_stops : (given left : List ℕ) (fault : FetchFault) → n.body ≡ given ++ left → q.form ≡ forms.Raw → IsBlockFault limits given fault → IsOwnFault fault
    block_stops given left (faults.Refused (refusals.Limit kinds.Block number)) whole form cause =
        absurd (omega (arith, block_few form, ap length whole, length-append given left, cause.1))
    block_stops given left faults.OutOfMemory whole form cause = tt
    block_stops given left _ whole form cause = absurd cause

    stops : (given left : List ℕ) (sections : List Section) (text : List ℕ) (fault : FetchFault) → n.body ≡ given ++ left
        → BodyStops q limits n.head given sections text fault → IsOwnFault fault
    stops given left sections text fault whole (BodyStops.answer s) =
        let h = s.are_heard in
        let own = cars.fitting q limits d all answer n.body h.heard h.unheard sections text s.cause fits within
        (of_car given left h.heard h.unheard sections whole h.whole s.form h.received) s.ends in
        subst IsOwnFault (sym s.fault_is) (own_client s.cause own)
    stops given left sections text fault whole (BodyStops.absence s) = absurd (omega (arith, n.is_head.status, s.is_head.status))
    stops given left sections text fault whole (BodyStops.reaches s) = absurd (omega (arith, n.is_head.status, s.is_head.status))
    stops given left sections text fault whole (BodyStops.block s) = block_stops given left fault whole s.form s.cause

    -- ---- nor is all of it

    block_refused : (sections : List Section) (text : List ℕ) (fault : FetchFault) → BlockRefused q limits n.head n.body sections text fault → IsOwnFault fault
    block_refused sections text fault r = subst IsOwnFault (sym r.fault_is) (by r.sections_are)
      where
        all_short : sections ≡ all → (want : CidParts) (number : ℕ) → r.cause ≡ refusals.Truncated want number → ⊥
        all_short are want number e =
            let (at, _, cut) = subst (λ (c : Refusal). HasRefused q limits sections text c) e r.refused in
            none_wanted text at (subst (λ (s : List Section). IsUpTo q limits s text at) are cut.up_to)

        by : ((sections ≡ []) × IsBeforeBlock r.cause) ⊎ (sections ≡ root_section q n.body ∷ []) → IsOwnFault (fault_of_refusal r.cause)
        by (inl (none, before)) =
            own_refusal r.cause
            (answers.fit_taken q limits d [] all text answer r.cause fits within (subst (λ (s : List Section). HasRefused q limits s text r.cause) none r.refused))
            (before_block r.cause before)
        by (inr one) =
            let are : sections ≡ all = one ∙ sym (is_block r.form) in
            own_refusal r.cause
            (answers.fit_taken q limits d all [] text answer r.cause (subst (λ (s : List Section). Fits d q s answer) (sym (append-nil all)) fits) within
            (subst (λ (s : List Section). HasRefused q limits s text r.cause) are r.refused))
            (all_short are)

    fails : (sections : List Section) (text : List ℕ) (fault : FetchFault) → BodyFails q limits n.head n.body sections text fault → IsOwnFault fault
    fails sections text fault (BodyFails.answer s) =
        absurd (cars.fitting_ends q limits d all answer n.body sections text (Err (clients.Refused (refusals.Truncated s.want s.number))) fits within
        (of_car n.body [] n.body [] sections (sym (append-nil n.body)) (sym (append-nil n.body)) s.form s.received) s.short)
    fails sections text fault (BodyFails.absence s) = absurd (omega (arith, n.is_head.status, s.is_head.status))
    fails sections text fault (BodyFails.reaches s) = absurd (omega (arith, n.is_head.status, s.is_head.status))
    fails sections text fault (BodyFails.block s) = block_refused sections text fault s

    taken : (ended over : Bool) (sections : List Section) (text : List ℕ) (fault : FetchFault) → (ended ≡ true → (over ≡ true) × (unheard ≡ []) × (more ≡ []))
        → RefusedBy q limits heard unheard ended sections text fault → IsOwnFault fault
    taken ended over sections text fault ends r =
        by (refused_for heads one_head pieces (IsAnswerHead q) q limits all heard unheard more n ended (λ e. none_both unheard more (ends e).1 (ends e).2) sections text fault r)
      where
        by : IsRefusedFor q limits n.head n.body sections text fault → IsOwnFault fault
        by (IsRefusedFor.at_head s _) = own_head q n.head fault n.is_head (framed heads one_head pieces (IsAnswerHead q) q limits all heard unheard more n) s
        by (IsRefusedFor.in_body given left whole s) = stops given left sections text fault whole s
        by (IsRefusedFor.at_end s) = fails sections text fault s
        by (IsRefusedFor.before_body is _) = subst IsOwnFault (sym is) tt
        by (IsRefusedFor.amid_body is _ _) = subst IsOwnFault (sym is) tt

pub carried_is_taken : HeadLaws → OneFinalHead → BodyPieceLaws → CarLaws → AnswerLaws → VerifiedLaws → CarriedIsTaken
carried_is_taken heads one_head pieces cars answers verified q limits d all answer heard unheard more ended over sections text fault fits within carries ends r =
    taken heads one_head pieces cars answers verified q limits d all answer fits within heard unheard more
    (carrier (IsAnswerHead q) q limits (heard ++ (unheard ++ more)) over all carries) ended over sections text fault ends r
