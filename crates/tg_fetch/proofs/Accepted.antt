-- A call whose reply carries sections that fit is accepted, and one whose reply shows that the path leads nowhere refused for that.
use Rattle.std.proofs.Common.{◌≡◌, ℕ, ◌⊎◌, Bool, List, [], ◌∷◌, ◌++◌, Option, Some, None, Ok, Err, refl, sym, ap, ◌∙◌, subst, inl, inr, append-nil}
use Rattle.std.specs.Prelude.{Result, ⊤}
use Rattle.tg_bytes.specs.Told.{IsNothing}
use Rattle.tg_dials.specs.Dials.{DialRose, Dialling, IsHungUp}
use Rattle.tg_heard.specs.Exchanges.{HasOneBlockEach}
use Rattle.tg_fetch.proofs.OwnAbsences.{OwnOpened, own_shown}
use Rattle.tg_fetch.proofs.OwnExchanges.{OpenedCounts, OwnFits, fitting_within, one_each}
use Rattle.tg_fetch.proofs.PathCounts.{OwnNowhere}
use Rattle.tg_fetch.proofs.Receiving.{one_more, told_in}
use Rattle.tg_fetch.specs.Calls.{FetchEnds, HeardBy, HeardRefused, IsUncalled, LinkCalled}
use Rattle.tg_fetch.specs.Laws.{AbsenceIsNoAnswer, AbsenceIsTold, CarriedIsAnswer, CarriedIsTaken, CarriesAbsenceWithin, CarriesWithin, CarriesWithinBy, IsAcceptedElse, IsMissOrMemory}
use Rattle.tg_fetch.specs.Laws.{IsNowhereElse, IsNowhereIn, IsOwnFault, IsOwnNowhere, TellsAbsence, TellsCarried, TellsCarriedBy}
use Rattle.tg_fetch.specs.declared.fault.FetchFault.{FetchFault}
use Rattle.tg_fetch.specs.declared.fault.FetchFault.TheVariants as faults
use Rattle.tg_heard.specs.Carried.{IsAbsenceHead, IsAnswerHead}
use Rattle.tg_http.specs.declared.reply.ReplyHead.{ReplyHead}
use Rattle.tg_links.specs.Steps.{LinkStep}
use Rattle.tg_links.specs.Views.{LinkView, and_call, between, call_with, is_failed, told_call}
use Rattle.tg_links.specs.declared.call.Call.{Call}
use Rattle.tg_model.specs.Answer.{answer}
use Rattle.tg_model.specs.Dag.{Dag, Section, root_cid}
use Rattle.tg_model.specs.Fits.{Fits}
use Rattle.tg_model.specs.LimitNumbers.{LimitNumbers}
use Rattle.tg_model.specs.Queries.{QueryParts}
use Rattle.tg_model.specs.Sound.{IsSound}
use Rattle.tg_model.specs.Traversal.{block_list}
use Rattle.tg_model_laws.specs.Tasks.{Miss}
use Rattle.tg_streams.specs.Streams.{Output, Put}
use Rattle.tg_verify.specs.Absences.{path_query}
use Rattle.tg_verify.specs.Laws.{IsWithinLimits}

-- ---- whether the peer of the told call says no more

over_told : (heard said : Option (List ℕ)) (over failed : Bool) (call : Call) → call_with heard said over failed ≡ Some call → call.over ≡ over
over_told None said over failed call e = absurd cc
over_told (Some heard) None over failed call e = absurd cc
over_told (Some heard) (Some said) over failed call e =
    let same : record { heard = heard; said = said; over = over; failed = failed } ≡ call = cc in sym (ap (λ (c : Call). c.over) same)

over_by : (link : LinkView) (dial : Dialling) (before : List Call) (call : Call) → dial.calls_old ≡ Some before → dial.calls_new ≡ Some (before ++ call ∷ [])
    → (dial.calls_new ≡ and_call dial.calls_old (told_call link)) ⊎ ((dial.calls_new ≡ None) × DialRose dial) → call.over ≡ link.over
over_by link dial before call old_is new_is (inl e) =
    over_told link.heard link.said link.over (is_failed link.faults) call
    (one_more before call (told_call link) (sym new_is ∙ e ∙ ap (λ (calls : Option (List Call)). and_call calls (told_call link)) old_is))
over_by link dial before call old_is new_is (inr lost) = absurd (let same = sym new_is ∙ lost.0 in cc)

-- ---- what comes of the call

-- where what is heard says how it ends, a call does that tells it, but for a fault of the peer and want of memory
module _ (IsHead : ReplyHead → Type 0) (q : QueryParts) (limits : LimitNumbers) (all : List Section) (out : Output) (Ends : Result ⊤ FetchFault → Type 0)
    (by_heard : (heard : List ℕ) (over : Bool) → CarriesWithinBy IsHead q limits heard over all → (result : Result ⊤ FetchFault) → HeardBy q limits heard over out result
    → Ends result) (peer : Ends (Err faults.PeerFault)) (memory : Ends (Err faults.OutOfMemory)) where
  by_uncalled : (link : LinkStep) (result : Result ⊤ FetchFault) → IsUncalled link result → Ends result
  by_uncalled link (Err faults.PeerFault) why = peer
  by_uncalled link (Err faults.OutOfMemory) why = memory
  by_uncalled link (Err fault) why = absurd why
  by_uncalled link (Ok done) why = absurd why

  module _ (dial : Dialling) (t : TellsCarriedBy IsHead q limits dial all) (addr : List ℕ) where
    module _ (made link : LinkView) (nothing : IsNothing made.heard) (up : IsHungUp link dial) where
      by_called : (result : Result ⊤ FetchFault) → LinkCalled q limits addr (between made link) out result → Ends result
      by_called result (inl w) =
          let heard_is = told_in link dial made.heard w.heard nothing w.spoke.heard_is up t.before t.call t.old t.new in
          let over_is = over_by link dial t.before t.call t.old t.new up.calls in
          by_heard w.heard link.over
          (subst (λ (l : List ℕ). CarriesWithinBy IsHead q limits l link.over all) heard_is
          (subst (λ (b : Bool). CarriesWithinBy IsHead q limits t.call.heard b all) over_is t.carries)) result w.ends
      by_called result (inr w) = by_uncalled (between made link) result w.why

    by_told : (result : Result ⊤ FetchFault) → FetchEnds q limits addr dial out result → Ends result
    by_told result (inl h) = by_called h.made h.link h.is_new.heard h.hung_up result h.called
    by_told result (inr m) = subst Ends (sym m.result_is) peer

-- what was heard, with nothing behind what is left of it
as_front : (IsHead : ReplyHead → Type 0) (q : QueryParts) (limits : LimitNumbers) (heard front more : List ℕ) (over : Bool) (all : List Section) → heard ≡ front ++ more
    → CarriesWithinBy IsHead q limits heard over all → CarriesWithinBy IsHead q limits (front ++ (more ++ [])) over all
as_front IsHead q limits heard front more over all whole carries =
    subst (λ (l : List ℕ). CarriesWithinBy IsHead q limits l over all) (whole ∙ ap (λ (l : List ℕ). front ++ l) (sym (append-nil more))) carries

-- ---- of what is heard that carries sections that fit

module _ (taken : CarriedIsTaken) (answers : CarriedIsAnswer) (q : QueryParts) (limits : LimitNumbers) (d : Dag) (all : List Section) (text : List ℕ)
    (fits : Fits d q all text) (small : IsWithinLimits q limits d) (out : Output) (heard : List ℕ) (over : Bool) (carries : CarriesWithin q limits heard over all) where
  fit_refused : (fault : FetchFault) → HeardRefused q limits heard over out fault → IsOwnFault fault
  fit_refused fault h =
      taken q limits d all text h.front h.more [] h.ended over h.sections h.text fault fits small
      (as_front (IsAnswerHead q) q limits heard h.front h.more over all h.whole carries) (λ e. ((h.is_over e).0, (h.is_over e).1, refl)) h.refused

  fit_accepted : (result : Result ⊤ FetchFault) → HeardBy q limits heard over out result → IsAcceptedElse text out result
  fit_accepted (Ok done) h =
      let same = answers q limits d all text h.front h.more h.ended over h.sections h.text fits
      (subst (λ (l : List ℕ). CarriesWithin q limits l over all) h.whole carries) (λ e. (h.is_over e).1) h.answered in
      subst (λ (l : List ℕ). Put l out) same.1 h.put
  fit_accepted (Err faults.PeerFault) h = tt
  fit_accepted (Err fault) h = fit_refused fault h

-- ---- or the blocks of a path that leads nowhere

module _ (told : AbsenceIsTold) (none : AbsenceIsNoAnswer) (q : QueryParts) (limits : LimitNumbers) (d : Dag) (miss : Miss) (shown : IsNowhereIn q limits d miss)
    (out : Output) (heard : List ℕ) (over : Bool) (carries : CarriesAbsenceWithin q limits heard over (block_list (path_query q) d)) where
  absence_refused : (fault : FetchFault) → HeardRefused q limits heard over out fault → IsMissOrMemory miss fault × Put [] out
  absence_refused fault h =
      let (missed, no_text) = told q limits d miss h.front h.more [] h.ended over h.sections h.text fault shown
      (as_front (IsAbsenceHead q) q limits heard h.front h.more over (block_list (path_query q) d) h.whole carries)
      (λ e. ((h.is_over e).0, (h.is_over e).1, refl)) h.refused in
      (missed, subst (λ (l : List ℕ). Put l out) no_text h.put)

  absence_told : (result : Result ⊤ FetchFault) → HeardBy q limits heard over out result → IsNowhereElse miss out result
  absence_told (Ok done) h =
      none q limits d miss h.front h.more h.ended over h.sections h.text shown
      (subst (λ (l : List ℕ). CarriesAbsenceWithin q limits l over (block_list (path_query q) d)) h.whole carries) (λ e. (h.is_over e).1) h.answered
  absence_told (Err faults.PeerFault) h = tt
  absence_told (Err (faults.Refused fault)) h = absence_refused (faults.Refused fault) h
  absence_told (Err faults.OutOfMemory) h = tt
  absence_told (Err fault) h = (absence_refused fault h).0

-- ---- a call

module _ (q : QueryParts) (limits : LimitNumbers) (addr : List ℕ) (dial : Dialling) (out : Output) (result : Result ⊤ FetchFault)
    (ends : FetchEnds q limits addr dial out result) where
  module _ (taken : CarriedIsTaken) (answers : CarriedIsAnswer) where
    pub fitting_accepted : (d : Dag) (sections : List Section) (text : List ℕ) → Fits d q sections text → IsWithinLimits q limits d
        → TellsCarried q limits dial sections → IsAcceptedElse text out result
    fitting_accepted d sections text fits small t =
        by_told (IsAnswerHead q) q limits sections out (IsAcceptedElse text out) (fit_accepted taken answers q limits d sections text fits small out) tt tt dial t addr result ends

    -- the sections of a sound DAG's own traversal
    pub own_accepted : OwnFits → OpenedCounts → (d : Dag) (text : List ℕ) → IsSound d → root_cid d ≡ q.root → answer q d ≡ Some text → HasOneBlockEach d
        → IsWithinLimits q limits d → TellsCarried q limits dial (block_list q d) → IsAcceptedElse text out result
    own_accepted own counted d text sound root is one within t =
        let (s, fits) = own q d text sound root (one_each q d one) is in
        let small = fitting_within q limits d s text one within fits (counted q d s sound root fits.right) in
        fitting_accepted s (block_list q d) text fits small t

  module _ (told : AbsenceIsTold) (none : AbsenceIsNoAnswer) where
    pub nowhere_told : (d : Dag) (miss : Miss) → IsNowhereIn q limits d miss → TellsAbsence q limits dial (block_list (path_query q) d) → IsNowhereElse miss out result
    nowhere_told d miss shown t =
        by_told (IsAbsenceHead q) q limits (block_list (path_query q) d) out (IsNowhereElse miss out) (absence_told told none q limits d miss shown out) tt tt dial t addr result ends

    -- the blocks of a sound DAG's own path
    pub own_nowhere_told : OwnNowhere → OwnOpened → (d : Dag) (miss : Miss) → IsOwnNowhere q limits d miss → TellsAbsence q limits dial (block_list q d)
        → IsNowhereElse miss out result
    own_nowhere_told nowhere opened d miss own t =
        let (s, shown, list) = own_shown nowhere opened q limits d miss own in
        nowhere_told s miss shown (subst (λ (sections : List Section). TellsAbsence q limits dial sections) list t)
