-- Sections that fit, or are in progress, aren't refused.
use Rattle.std.proofs.Common.{◌≡◌, ℕ, ◌<◌, ◌≤◌, List, [], ◌∷◌, ◌++◌, length, Some, Ok, Err, ap, sym, subst, ◌∙◌, inl, inr, append-nil, append_assoc, arith, true}
use Rattle.std.specs.Prelude.{Result, ⊤, ◌⊎◌}
use Rattle.std.proofs.lemmas.List.{length-append}
use Rattle.tg_car.specs.Laws.{CarLaws}
use Rattle.tg_cid.specs.Cid.{CidParts}
use Rattle.tg_traversal.specs.Left.{WantedAt}
use Rattle.tg_model.specs.Dag.{Dag, Section}
use Rattle.tg_model.specs.Fits.{Fits, IsInProgress}
use Rattle.tg_model.specs.LimitNumbers.{LimitNumbers}
use Rattle.tg_model.specs.PathWalk.{Spot}
use Rattle.tg_model.specs.Queries.{QueryParts}
use Rattle.tg_model.specs.Traversal.{is_sent_behind}
use Rattle.tg_model.specs.declared.limits.LimitKind.TheVariants as kinds
use Rattle.tg_streams.specs.Streams.{Input, Output}
use Rattle.tg_model_laws.specs.Tasks.{Task, open_block}
use Rattle.tg_model_laws.specs.Verified.{AreSettled, VerifiedLaws}
use Rattle.tg_verify.specs.Laws.{IsOwnFault}
use Rattle.tg_verify.specs.Refusals.{HasRefused}
use Rattle.tg_verify.specs.State.{count_of}
use Rattle.tg_verify.specs.Taken.{IsThrough, IsUpTo}
use Rattle.tg_verify.specs.declared.fault.Refusal.{Refusal}
use Rattle.tg_verify.specs.declared.fault.Refusal.TheVariants as refusals
use Rattle.tg_client.specs.Ends.{EndsBy, HasSurplus, IsAcceptedElse, IsAllHeard, IsEndedShort, IsOwnEnd, IsRefusedElse, Verifies}
use Rattle.tg_client.specs.Received.{HasHeader, HasReceived, IsCarOf}
use Rattle.tg_client.specs.ReceivedLaws.{ReceivedLaws}
use Rattle.tg_client.specs.declared.fault.ClientFault.{ClientFault}
use Rattle.tg_client.specs.declared.fault.ClientFault.TheVariants as faults
use Rattle.tg_client.proofs.Told.{IsLeft, all_heard, car_once, header_inside, left_of, no_header}
use Rattle.tg_verify.specs.WantsLaws.{none_next}

-- ---- by what is wanted

-- where a block is wanted that is sent
pub settled : (q : QueryParts) (sections : List Section) (at : WantedAt) (later : List (Task CidParts)) → is_sent_behind q sections at.cid ≡ true → AreSettled q sections (open_block at.want at.cid ∷ later)
settled q sections at later sends w cid more e =
    let same : at.cid ≡ cid = cc e in subst (λ (c : CidParts). is_sent_behind q sections c ≡ true) same sends

-- where none is
pub none_settled : (q : QueryParts) (sections : List Section) → AreSettled q sections []
none_settled q sections w cid more e = absurd (cc e)

-- none is wanted only behind the last of these sections
abbrev pub ThroughAll : QueryParts → LimitNumbers → List Section → Type 0
ThroughAll q limits all = (front rest : List Section) (section : Section) (text : List ℕ) → all ≡ front ++ section ∷ rest → IsThrough q limits front text → ⊥

-- no front of these sections is refused for what it is
abbrev pub AreTaken : QueryParts → LimitNumbers → List Section → Type 0
AreTaken q limits all = (front rest : List Section) (text : List ℕ) (fault : Refusal) → all ≡ front ++ rest → HasRefused q limits front text fault → IsOwnFault fault

-- but for these refusals
abbrev pub AreTakenBut : (Refusal → Type 0) → QueryParts → LimitNumbers → List Section → Type 0
AreTakenBut Missed q limits all =
    (front rest : List Section) (text : List ℕ) (fault : Refusal) → all ≡ front ++ rest → HasRefused q limits front text fault → Missed fault ⊎ IsOwnFault fault

none_but : (q : QueryParts) (limits : LimitNumbers) (all : List Section) → AreTaken q limits all → AreTakenBut (λ fault. ⊥) q limits all
none_but q limits all taken front rest text fault e h = inr (taken front rest text fault e h)

-- ---- an input of which a front was heard

module _ (received : ReceivedLaws) (q : QueryParts) (limits : LimitNumbers) (input : Input) (bytes : List ℕ) (all : List Section) (here : HasReceived limits.block bytes all)
    (few : length bytes ≤ limits.received) (ends : ThroughAll q limits all) (Missed : Refusal → Type 0) (taken : AreTakenBut Missed q limits all)
    (heard unheard : List ℕ) (sections : List Section) (text : List ℕ) (l : IsLeft bytes heard unheard input) (got : HasReceived limits.block heard sections) where
  behind : (rest : List Section) × (all ≡ sections ++ rest)
  behind = received.front limits.block heard (unheard ++ l.left) sections all got (subst (λ (b : List ℕ). HasReceived limits.block b all) l.whole here)

  -- the sections of all bytes
  pub all_came : heard ≡ bytes → sections ≡ all
  all_came e = received.one limits.block bytes sections all (subst (λ (b : List ℕ). HasReceived limits.block b sections) e got) here

  -- none is wanted before the last
  pub through_all : IsThrough q limits sections text → sections ≡ all
  through_all h = by behind.0 behind.1
    where
      by : (rest : List Section) → all ≡ sections ++ rest → sections ≡ all
      by [] e = sym (e ∙ append-nil sections)
      by (next ∷ rest) e = absurd (ends sections rest next text e h)

  broken_whole : (last : ℕ) (more : List ℕ) → unheard ≡ last ∷ more → HasReceived limits.block (heard ++ last ∷ (more ++ l.left)) all
  broken_whole last more e = subst (λ (b : List ℕ). HasReceived limits.block b all) (l.whole ∙ ap (λ (u : List ℕ). heard ++ (u ++ l.left)) e) here

  too_many : length heard ≡ limits.received → 0 < length unheard → ⊥
  too_many full some =
      let size : length bytes ≡ length (heard ++ (unheard ++ l.left)) = ap length l.whole in
      absurd (omega (arith, full, some, few, size, length-append heard (unheard ++ l.left), length-append unheard l.left))

  -- ---- no other refusals than these

  module _ (R : ClientFault → Type 0) (own : (fault : ClientFault) → IsOwnEnd fault → R fault) (missed : (fault : Refusal) → Missed fault → R (faults.Refused fault))
      (truncated : (want : CidParts) (number : ℕ) → IsAllHeard unheard input → IsEndedShort q limits heard sections text want number
      → R (faults.Refused (refusals.Truncated want number)))
      (extra : (number : ℕ) → HasSurplus q limits (heard ++ unheard) sections text number → R (faults.Refused (refusals.Extra number))) where
    by_own : (fault : Refusal) → (IsOwnFault fault → ⊥) → Missed fault ⊎ IsOwnFault fault → R (faults.Refused fault)
    by_own fault never (inl h) = missed fault h
    by_own fault never (inr h) = absurd (never h)

    refused : (fault : Refusal) → (IsOwnFault fault → ⊥) → HasRefused q limits sections text fault → R (faults.Refused fault)
    refused fault never h = by_own fault never (taken sections behind.0 text fault behind.1 h)

    pub only : (fault : ClientFault) → EndsBy q limits input heard unheard sections text (Err fault) → R fault
    only (faults.Refused (refusals.Extra number)) h = extra number h
    only (faults.Refused (refusals.Truncated want number)) h = truncated want number h.0 h.1
    only (faults.Refused refusals.SinkFault) h = own (faults.Refused refusals.SinkFault) tt
    only (faults.Refused refusals.OutOfMemory) h = absurd h
    only (faults.Refused (refusals.Limit kinds.Received number)) h = absurd (too_many (h.heard_is ∙ h.number_is) h.some)
    only (faults.Refused (refusals.Limit kinds.Block number)) (is, h) =
        absurd (received.unpassed limits.block heard (h.more ++ l.left) h.last h.brings.0 all (broken_whole h.last h.more h.unheard_is) h.brings.1)
    only (faults.Refused (refusals.NotFolder segment)) h = refused (refusals.NotFolder segment) (λ none. none) h
    only (faults.Refused (refusals.NotThere segment)) h = refused (refusals.NotThere segment) (λ none. none) h
    only (faults.Refused (refusals.BadDigest cid)) h = refused (refusals.BadDigest cid) (λ none. none) h
    only (faults.Refused (refusals.WrongBlock want got)) h = refused (refusals.WrongBlock want got) (λ none. none) h
    only (faults.Refused (refusals.BadBlock cid fault)) h = refused (refusals.BadBlock cid fault) (λ none. none) h
    only (faults.Refused (refusals.BadSize declared actual)) h = refused (refusals.BadSize declared actual) (λ none. none) h
    only (faults.Refused (refusals.Limit kinds.Depth number)) h = refused (refusals.Limit kinds.Depth number) (λ none. none) h
    only (faults.Refused (refusals.Limit kinds.Entries number)) h = refused (refusals.Limit kinds.Entries number) (λ none. none) h
    only (faults.Refused (refusals.Limit kinds.Names number)) h = refused (refusals.Limit kinds.Names number) (λ none. none) h
    only (faults.Refused (refusals.Limit kinds.Output number)) h = refused (refusals.Limit kinds.Output number) (λ none. none) h
    only (faults.Refused (refusals.Limit kinds.SeenBlocks number)) h = refused (refusals.Limit kinds.SeenBlocks number) (λ none. none) h
    only (faults.Refused (refusals.Limit kinds.SeenBytes number)) h = refused (refusals.Limit kinds.SeenBytes number) (λ none. none) h
    only (faults.Refused (refusals.Limit kinds.Reused number)) h = refused (refusals.Limit kinds.Reused number) (λ none. none) h
    only (faults.BadCar car) (no_car, h) =
        absurd (received.unbroken limits.block heard (h.more ++ l.left) h.last all car (broken_whole h.last h.more h.unheard_is) no_car h.brings)
    only faults.InputFault h = own faults.InputFault tt
    only faults.KeepFault h = own faults.KeepFault tt
    only faults.OutOfMemory h = own faults.OutOfMemory tt

-- ---- sections that fit

module _ (verified : VerifiedLaws) (q : QueryParts) (d : Dag) (all : List Section) (answer : List ℕ) (fits : Fits d q all answer) where
  pub fitting_through : {limits : LimitNumbers} → ThroughAll q limits all
  fitting_through front rest section text e h =
      none_next q section (verified.fitting q d front rest section answer h.given [] (none_settled q front) (subst (λ (l : List Section). Fits d q l answer) e fits) h.verified)

  pub fitting_done : {limits : LimitNumbers} → (text : List ℕ) (at : WantedAt) → IsUpTo q limits all text at → ⊥
  fitting_done text at h =
      let (none, _) = verified.fitting_ends q d all answer h.given (open_block at.want at.cid ∷ h.later) (settled q all at h.later h.sends) fits h.verified in absurd (cc none)

-- ---- sections in progress

module _ (verified : VerifiedLaws) (q : QueryParts) (d : Dag) (all : List Section) (wanted : Spot) (progress : IsInProgress d q all wanted) where
  pub progress_by : {limits : LimitNumbers} → ThroughAll q limits all
  progress_by front rest section text e h =
      none_next q section (verified.in_progress q d front rest section wanted h.given [] (none_settled q front) (subst (λ (l : List Section). IsInProgress d q l wanted) e progress) h.verified)

  pub progress_through : {limits : LimitNumbers} → (text : List ℕ) → IsThrough q limits all text → ⊥
  progress_through text h =
      let (wants, _) = verified.in_progress_ends q d all wanted h.given [] (none_settled q all) progress h.verified in let e = wants.then_is in absurd (cc e)

  pub progress_waits : {limits : LimitNumbers} → (text : List ℕ) (at : WantedAt) → IsUpTo q limits all text at → at.cid ≡ wanted.cid
  progress_waits text at h =
      let (wants, _) = verified.in_progress_ends q d all wanted h.given (open_block at.want at.cid ∷ h.later) (settled q all at h.later h.sends) progress h.verified in
      let e = wants.then_is in
      let cid : at.cid ≡ wants.cid = cc e in
      cid ∙ ap (λ (s : Spot). s.cid) wants.spot_is

-- ---- the answers

-- each section is taken, and with all of them nothing is wanted
module _ (cars : CarLaws) (received : ReceivedLaws) (q : QueryParts) (limits : LimitNumbers) (input : Input) (out : Output) (bytes : List ℕ) (all : List Section) (here : HasReceived limits.block bytes all)
    (is_car : IsCarOf bytes all) (few : length bytes ≤ limits.received) (ends : ThroughAll q limits all) (taken : AreTaken q limits all) (done : (text : List ℕ) (at : WantedAt) → IsUpTo q limits all text at → ⊥)
    (told : input.left_old ≡ Some bytes) where
  -- all was heard
  not_short : (heard : List ℕ) (sections : List Section) (text : List ℕ) (want : CidParts) (number : ℕ) → heard ≡ bytes → sections ≡ all → IsEndedShort q limits heard sections text want number → ⊥
  not_short heard sections text want number same are (inl (before, _, _)) = no_header cars limits.block all bytes [] heard is_car (same ∙ sym (append-nil bytes)) before.goes_on
  not_short heard sections text want number same are (inr (at, is, cut, header)) = done text at (subst (λ (s : List Section). IsUpTo q limits s text at) are cut.up_to)

  but : AreTakenBut (λ fault. ⊥) q limits all
  but = none_but q limits all taken

  pub accepts : (result : Result ⊤ ClientFault) → Verifies q limits input out result → IsAcceptedElse result
  accepts (Ok end) v = tt
  accepts (Err fault) v =
      let l = left_of bytes v.heard v.unheard input told v.took in
      only received q limits input bytes all here few ends (λ fault. ⊥) but v.heard v.unheard v.sections v.text l v.received IsOwnEnd (λ fault own. own) (λ fault none. absurd none)
      (λ want number heard short.
      let whole = all_heard bytes v.heard v.unheard input l heard.all heard.ended in
      let same = all_came received q limits input bytes all here few ends (λ fault. ⊥) but v.heard v.unheard v.sections v.text l v.received whole in
      absurd (not_short v.heard v.sections v.text want number whole same short))
      (λ number h.
      let same = through_all received q limits input bytes all here few ends (λ fault. ⊥) but v.heard v.unheard v.sections v.text l v.received h.through in
      let whole : bytes ≡ h.car ++ (h.more ++ l.left) =
      l.whole ∙ (sym (append_assoc v.heard v.unheard l.left) ∙ (ap (λ (x : List ℕ). x ++ l.left) h.whole ∙ append_assoc h.car h.more l.left)) in
      let some : 0 < length h.more = h.some in
      absurd (car_once cars all bytes h.car (h.more ++ l.left) is_car (subst (λ (s : List Section). IsCarOf h.car s) same h.is_car) whole (omega (arith, some, length-append h.more l.left))))
      fault v.ends

-- each section is taken, and with all of them a block is wanted
module _ (cars : CarLaws) (received : ReceivedLaws) (q : QueryParts) (limits : LimitNumbers) (input : Input) (out : Output) (bytes : List ℕ) (all : List Section) (here : HasReceived limits.block bytes all)
    (header : HasHeader limits.block bytes) (few : length bytes ≤ limits.received) (ends : ThroughAll q limits all) (taken : AreTaken q limits all) (through : (text : List ℕ) → IsThrough q limits all text → ⊥) (cid : CidParts)
    (waits : (text : List ℕ) (at : WantedAt) → IsUpTo q limits all text at → at.cid ≡ cid) (told : input.left_old ≡ Some bytes) where
  -- all was heard
  is_short : (heard : List ℕ) (sections : List Section) (text : List ℕ) (want : CidParts) (number : ℕ) → heard ≡ bytes → sections ≡ all → IsEndedShort q limits heard sections text want number
      → faults.Refused (refusals.Truncated want number) ≡ faults.Refused (refusals.Truncated cid (count_of all))
  is_short heard sections text want number same are (inl (before, _, _)) = absurd (header_inside cars limits.block bytes [] heard header (same ∙ sym (append-nil bytes)) before.goes_on)
  is_short heard sections text want number same are (inr (at, is, cut, header)) =
      let wanted : want ≡ cid = is ∙ waits text at (subst (λ (s : List Section). IsUpTo q limits s text at) are cut.up_to) in
      let counted : number ≡ count_of all = cut.number_is ∙ ap (λ (s : List Section). count_of s) are in
      cc (wanted, counted)

  but_cut : AreTakenBut (λ fault. ⊥) q limits all
  but_cut = none_but q limits all taken

  pub cuts : (result : Result ⊤ ClientFault) → Verifies q limits input out result → IsRefusedElse (refusals.Truncated cid (count_of all)) result
  cuts (Ok end) v =
      let l = left_of bytes v.heard v.unheard input told v.took in
      let same = through_all received q limits input bytes all here few ends (λ fault. ⊥) but_cut v.heard v.unheard v.sections v.text l v.received v.ends.1.through in
      through v.text (subst (λ (s : List Section). IsThrough q limits s v.text) same v.ends.1.through)
  cuts (Err fault) v =
      let l = left_of bytes v.heard v.unheard input told v.took in
      only received q limits input bytes all here few ends (λ fault. ⊥) but_cut v.heard v.unheard v.sections v.text l v.received
      (λ fault. (fault ≡ faults.Refused (refusals.Truncated cid (count_of all))) ⊎ IsOwnEnd fault) (λ fault own. inr own) (λ fault none. absurd none)
      (λ want number heard short.
      let whole = all_heard bytes v.heard v.unheard input l heard.all heard.ended in
      let same = all_came received q limits input bytes all here few ends (λ fault. ⊥) but_cut v.heard v.unheard v.sections v.text l v.received whole in
      inl (is_short v.heard v.sections v.text want number whole same short))
      (λ number h.
      let same = through_all received q limits input bytes all here few ends (λ fault. ⊥) but_cut v.heard v.unheard v.sections v.text l v.received h.through in
      absurd (through v.text (subst (λ (s : List Section). IsThrough q limits s v.text) same h.through)))
      fault v.ends
