-- The refusals of the CAR that a body is, as those of its bytes; and what excludes them.
use Rattle.std.proofs.Common.{◌≡◌, ℕ, ◌≤◌, List, [], ◌∷◌, ◌++◌, length, refl, ap, ap₂, sym, subst, ◌∙◌, inl, inr, append_assoc, arith}
use Rattle.std.proofs.lemmas.List.{length-append}
use Rattle.std.specs.Prelude.{◌⊎◌}
use Rattle.tg_cid.specs.Cid.{CidParts}
use Rattle.tg_client.specs.Ends.{IsEndedShort, IsWaiting}
use Rattle.tg_client.specs.Received.{HasReceived, IsCarOf}
use Rattle.tg_client.specs.ReceivedLaws.{ReceivedLaws}
use Rattle.tg_cut_laws.proofs.BodyFaults.{due_absence, due_end}
use Rattle.tg_cut_laws.specs.Bodies.{IsDueFault}
use Rattle.tg_cut_laws.specs.Cars.{CarCutLaws, IsDueEnd, IsRefusedIn}
use Rattle.tg_cut_laws.specs.Sections.{SectionLaws}
use Rattle.tg_fetch.specs.Bodies.{AbsenceReaches, AbsenceStops, AnswerStops}
use Rattle.tg_fetch.specs.Faults.{absence_fault, fault_of_client}
use Rattle.tg_fetch.specs.declared.fault.FetchFault.{FetchFault}
use Rattle.tg_http.specs.declared.reply.ReplyHead.{ReplyHead}
use Rattle.tg_model.specs.Dag.{Section}
use Rattle.tg_model.specs.LimitNumbers.{LimitNumbers}
use Rattle.tg_model.specs.Queries.{QueryParts}
use Rattle.tg_verify.specs.Absences.{path_limits, path_query}
use Rattle.tg_verify.specs.Taken.{IsThrough}

-- of two fronts of one list the one begins the other
abbrev IsFrontOf : List ℕ → List ℕ → Type 0
IsFrontOf front list = (rest : List ℕ) × (list ≡ front ++ rest)

pub one_begins : (a b c d : List ℕ) → a ++ c ≡ b ++ d → IsFrontOf b a ⊎ IsFrontOf a b
one_begins a [] c d e = inl (a, refl)
one_begins [] (y ∷ b) c d e = inr (y ∷ b, refl)
one_begins (x ∷ a) (y ∷ b) c d e =
    let first : x ≡ y = cc e in
    let others : a ++ c ≡ b ++ d = cc e in
    by first (one_begins a b c d others)
  where
    by : x ≡ y → IsFrontOf b a ⊎ IsFrontOf a b → IsFrontOf (y ∷ b) (x ∷ a) ⊎ IsFrontOf (x ∷ a) (y ∷ b)
    by first (inl (rest, is)) = inl (rest, ap₂ (λ (z : ℕ) (l : List ℕ). z ∷ l) first is)
    by first (inr (rest, is)) = inr (rest, ap₂ (λ (z : ℕ) (l : List ℕ). z ∷ l) (sym first) is)

-- ---- a refusal of the CAR, in bytes that go on

-- what was heard of a front of the bytes
pub heard_in : (bytes given rest heard unheard : List ℕ) → bytes ≡ given ++ rest → given ≡ heard ++ unheard → bytes ≡ heard ++ (unheard ++ rest)
heard_in bytes given rest heard unheard whole parts = whole ∙ (ap (λ (l : List ℕ). l ++ rest) parts ∙ append_assoc heard unheard rest)

front_few : (limit : ℕ) (bytes heard rest : List ℕ) → length bytes ≤ limit → bytes ≡ heard ++ rest → length heard ≤ limit
front_few limit bytes heard rest few whole = omega (arith, few, ap length whole, length-append heard rest)

module _ (q : QueryParts) (limits : LimitNumbers) (head : ReplyHead) (bytes given rest : List ℕ) (few : length bytes ≤ limits.received) (whole : bytes ≡ given ++ rest)
    (sections : List Section) (text : List ℕ) (fault : FetchFault) where
  pub answer_refused : (s : AnswerStops q limits head given sections text fault) → IsRefusedIn q limits bytes sections text s.cause
  answer_refused s =
      let h = s.are_heard in
      let parts = heard_in bytes given rest h.heard h.unheard whole h.whole in
      record {
        heard = h.heard;
        unheard = h.unheard;
        more = rest;
        whole = parts;
        within = front_few limits.received bytes h.heard (h.unheard ++ rest) few parts;
        received = h.received;
        ends = s.ends;
        wanted = s.wanted;
      }

  pub absence_refused : (s : AbsenceStops q limits head given sections text fault) → IsRefusedIn (path_query q) (path_limits limits) bytes sections s.said s.cause
  absence_refused s =
      let h = s.are_heard in
      let parts = heard_in bytes given rest h.heard h.unheard whole h.whole in
      record {
        heard = h.heard;
        unheard = h.unheard;
        more = rest;
        whole = parts;
        within = front_few limits.received bytes h.heard (h.unheard ++ rest) few parts;
        received = h.received;
        ends = s.ends;
        wanted = s.wanted;
      }

-- and its cause is due where its fault is
module _ (q : QueryParts) (limits : LimitNumbers) (head : ReplyHead) (given : List ℕ) (sections : List Section) (text : List ℕ) (fault : FetchFault) (due : IsDueFault fault) where
  pub answer_due : (s : AnswerStops q limits head given sections text fault) → IsDueEnd s.cause
  answer_due s = due_end q limits s.are_heard.heard s.are_heard.unheard sections text s.cause (subst IsDueFault s.fault_is due) s.ends

  pub absence_due : (s : AbsenceStops q limits head given sections text fault) → IsDueEnd s.cause
  absence_due s = due_absence (path_query q) (path_limits limits) s.are_heard.heard s.are_heard.unheard sections s.said s.cause (subst IsDueFault s.fault_is due) s.ends

-- ---- two of them are one

module _ (cut : CarCutLaws) (q : QueryParts) (limits : LimitNumbers) (head : ReplyHead) (bytes given came rest more : List ℕ) (few : length bytes ≤ limits.received)
    (whole : bytes ≡ given ++ rest) (also : bytes ≡ came ++ more) (a b : List Section) (x y : List ℕ) (f g : FetchFault) (f_due : IsDueFault f) where
  pub answers_once : IsDueFault g → AnswerStops q limits head given a x f → AnswerStops q limits head came b y g → (x ≡ y) × (f ≡ g)
  answers_once g_due s t =
      let (_, texts, causes) = cut.refused q limits bytes a b x y s.cause t.cause (answer_due q limits head given a x f f_due s) (answer_due q limits head came b y g g_due t)
      (answer_refused q limits head bytes given rest few whole a x f s) (answer_refused q limits head bytes came more few also b y g t) in
      (texts, s.fault_is ∙ (ap fault_of_client causes ∙ sym t.fault_is))

  pub absences_once : IsDueFault g → AbsenceStops q limits head given a x f → AbsenceStops q limits head came b y g → (x ≡ y) × (f ≡ g)
  absences_once g_due s t =
      let (_, _, causes) = cut.refused (path_query q) (path_limits limits) bytes a b s.said t.said s.cause t.cause (absence_due q limits head given a x f f_due s)
      (absence_due q limits head came b y g g_due t) (absence_refused q limits head bytes given rest few whole a x f s) (absence_refused q limits head bytes came more few also b y g t) in
      (s.no_text ∙ sym t.no_text, s.fault_is ∙ (ap absence_fault causes ∙ sym t.fault_is))

  -- where the terminal is reached, that of bytes behind it says the same
  pub absence_reached : AbsenceStops q limits head given a x f → AbsenceReaches q limits head came b y g → (x ≡ y) × (f ≡ g)
  absence_reached s t =
      let h = t.are_heard in
      let surplus = cut.refused_through (path_query q) (path_limits limits) bytes h.heard (h.unheard ++ more) a b s.said t.said s.cause (absence_due q limits head given a x f f_due s)
      (absence_refused q limits head bytes given rest few whole a x f s) (heard_in bytes came more h.heard h.unheard also h.whole) few h.received t.is_car t.through in
      (s.no_text ∙ sym t.no_text, s.fault_is ∙ (ap absence_fault surplus ∙ sym t.fault_is))

pub reached_once : (q : QueryParts) (limits : LimitNumbers) (head : ReplyHead) (given came : List ℕ) (a b : List Section) (x y : List ℕ) (f g : FetchFault)
    → AbsenceReaches q limits head given a x f → AbsenceReaches q limits head came b y g → (x ≡ y) × (f ≡ g)
reached_once q limits head given came a b x y f g s t = (s.no_text ∙ sym t.no_text, s.fault_is ∙ sym t.fault_is)

-- ---- where a block is wanted

-- where no more come one was wanted, or the header wasn't whole
pub short_waits : (q : QueryParts) (limits : LimitNumbers) (heard : List ℕ) (sections : List Section) (text : List ℕ) (want : CidParts) (number : ℕ)
    → IsEndedShort q limits heard sections text want number → IsWaiting q limits heard sections text
short_waits q limits heard sections text want number (inl (before, root, none)) = inl before
short_waits q limits heard sections text want number (inr (at, wanted, cut, header)) = inr (at, cut.up_to, header)

-- where a front of the bytes is the CAR of all sections none is wanted behind them
pub none_behind : ReceivedLaws → SectionLaws → (q : QueryParts) (limits : LimitNumbers) (bytes car more : List ℕ) (a b : List Section) (x y : List ℕ) → bytes ≡ car ++ more
    → IsCarOf car a → IsThrough q limits a x → HasReceived limits.block bytes b → IsWaiting q limits bytes b y → ⊥
none_behind received sections q limits bytes car more a b x y whole is_car through got (inl before) = received.headed limits.block a car more bytes is_car whole before.goes_on
none_behind received sections q limits bytes car more a b x y whole is_car through got (inr (at, up_to, header)) =
    let (rest, is) = received.behind limits.block car more a b is_car (subst (λ (l : List ℕ). HasReceived limits.block l b) whole got) in
    sections.through_up_to q limits a rest b x y at (sym is) through up_to

-- so where the terminal is reached in a front of the bytes
pub reached_waits : ReceivedLaws → SectionLaws → (q : QueryParts) (limits : LimitNumbers) (head : ReplyHead) (bytes given rest : List ℕ) (a b : List Section) (x said : List ℕ)
    (f : FetchFault) → bytes ≡ given ++ rest → AbsenceReaches q limits head given a x f → HasReceived limits.block bytes b → IsWaiting (path_query q) (path_limits limits) bytes b said → ⊥
reached_waits received sections q limits head bytes given rest a b x said f whole s got waits =
    let h = s.are_heard in
    none_behind received sections (path_query q) (path_limits limits) bytes h.heard (h.unheard ++ rest) a b s.said said (heard_in bytes given rest h.heard h.unheard whole h.whole)
    s.is_car s.through got waits
