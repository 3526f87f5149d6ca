-- A body that is refused while it comes: so it is at each other refusal, and it is neither open nor the answer.
use Rattle.std.proofs.Common.{◌≡◌, ℕ, ◌≤◌, List, [], ◌++◌, length, refl, sym, ◌∙◌, inl, inr, append-nil, arith}
use Rattle.std.proofs.lemmas.List.{length-append}
use Rattle.std.specs.Prelude.{◌⊎◌}
use Rattle.tg_client.specs.ReceivedLaws.{ReceivedLaws}
use Rattle.tg_cut_laws.proofs.BodyAnswers.{car_of, car_received, root_of}
use Rattle.tg_cut_laws.proofs.BodyBlocks.{answer_small}
use Rattle.tg_cut_laws.proofs.BodyCars.{absence_due, absence_reached, absence_refused, absences_once, answer_due, answer_refused, answers_once, one_begins, reached_once, reached_waits, short_waits}
use Rattle.tg_cut_laws.proofs.BodyFaults.{block_fault}
use Rattle.tg_cut_laws.proofs.BodyHeads.{not_both, not_forms}
use Rattle.tg_cut_laws.specs.Bodies.{IsAnswerBody, IsDueFault, StopsAsItFails, StopsIsNoAnswer, StopsIsNotOpen, StopsOnce}
use Rattle.tg_cut_laws.specs.Cars.{CarCutLaws}
use Rattle.tg_cut_laws.specs.Sections.{SectionLaws}
use Rattle.tg_fetch.specs.Bodies.{AnswerStops, BlockStops, BodyFails, BodyStops, IsOpenBody}
use Rattle.tg_fetch.specs.declared.fault.FetchFault.{FetchFault}
use Rattle.tg_http.specs.declared.reply.ReplyHead.{ReplyHead}
use Rattle.tg_model.specs.Dag.{Section}
use Rattle.tg_model.specs.LimitNumbers.{LimitNumbers}
use Rattle.tg_model.specs.Queries.{QueryParts}
use Rattle.tg_verify.specs.Absences.{path_limits, path_query}

-- ---- two refusals

-- a block is refused for its size alone
blocks_alike : (q : QueryParts) (limits : LimitNumbers) (head : ReplyHead) (given came : List ℕ) (a b : List Section) (x y : List ℕ) (f g : FetchFault) → IsDueFault f → IsDueFault g
    → BlockStops q limits head given a x f → BlockStops q limits head came b y g → (x ≡ y) × (f ≡ g)
blocks_alike q limits head given came a b x y f g f_due g_due s t =
    let (f_is, _) = block_fault limits given f f_due s.cause in
    let (g_is, _) = block_fault limits came g g_due t.cause in
    (s.no_text ∙ sym t.no_text, f_is ∙ sym g_is)

module _ (cut : CarCutLaws) (q : QueryParts) (limits : LimitNumbers) (head : ReplyHead) (bytes given came rest more : List ℕ) (few : length bytes ≤ limits.received)
    (whole : bytes ≡ given ++ rest) (also : bytes ≡ came ++ more) (a b : List Section) (x y : List ℕ) (f g : FetchFault) (f_due : IsDueFault f) (g_due : IsDueFault g) where
  -- the same, where the second is that of the terminal
  turned : (y ≡ x) × (g ≡ f) → (x ≡ y) × (f ≡ g)
  turned (texts, faults) = (sym texts, sym faults)

  both_stop : BodyStops q limits head given a x f → BodyStops q limits head came b y g → (x ≡ y) × (f ≡ g)
  both_stop (BodyStops.answer s) (BodyStops.answer t) = answers_once cut q limits head bytes given came rest more few whole also a b x y f g f_due g_due s t
  both_stop (BodyStops.answer s) (BodyStops.absence t) = absurd (not_both q head s.is_head t.is_head)
  both_stop (BodyStops.answer s) (BodyStops.reaches t) = absurd (not_both q head s.is_head t.is_head)
  both_stop (BodyStops.answer s) (BodyStops.block t) = absurd (not_forms q s.form t.form)
  both_stop (BodyStops.absence s) (BodyStops.answer t) = absurd (not_both q head t.is_head s.is_head)
  both_stop (BodyStops.absence s) (BodyStops.absence t) = absences_once cut q limits head bytes given came rest more few whole also a b x y f g f_due g_due s t
  both_stop (BodyStops.absence s) (BodyStops.reaches t) = absence_reached cut q limits head bytes given came rest more few whole also a b x y f g f_due s t
  both_stop (BodyStops.absence s) (BodyStops.block t) = absurd (not_both q head t.is_head s.is_head)
  both_stop (BodyStops.reaches s) (BodyStops.answer t) = absurd (not_both q head t.is_head s.is_head)
  both_stop (BodyStops.reaches s) (BodyStops.absence t) = turned (absence_reached cut q limits head bytes came given more rest few also whole b a y x g f g_due t s)
  both_stop (BodyStops.reaches s) (BodyStops.reaches t) = reached_once q limits head given came a b x y f g s t
  both_stop (BodyStops.reaches s) (BodyStops.block t) = absurd (not_both q head t.is_head s.is_head)
  both_stop (BodyStops.block s) (BodyStops.answer t) = absurd (not_forms q t.form s.form)
  both_stop (BodyStops.block s) (BodyStops.absence t) = absurd (not_both q head s.is_head t.is_head)
  both_stop (BodyStops.block s) (BodyStops.reaches t) = absurd (not_both q head s.is_head t.is_head)
  both_stop (BodyStops.block s) (BodyStops.block t) = blocks_alike q limits head given came a b x y f g f_due g_due s t

-- the longer of the two is the list in which both are
pub stops_once : CarCutLaws → StopsOnce
stops_once cut q limits head given came a b x y f g one few_given few_came f_due g_due s t = by (one_begins given came one.a_more one.b_more one.one)
  where
    by : ((rest : List ℕ) × (given ≡ came ++ rest)) ⊎ ((rest : List ℕ) × (came ≡ given ++ rest)) → (x ≡ y) × (f ≡ g)
    by (inl (rest, is)) = both_stop cut q limits head given given came [] rest few_given (sym (append-nil given)) is a b x y f g f_due g_due s t
    by (inr (rest, is)) = both_stop cut q limits head came given came rest [] few_came is (sym (append-nil came)) a b x y f g f_due g_due s t

-- ---- nothing else

-- a block that is refused for its size is above the limit, with each byte behind it
above : (q : QueryParts) (limits : LimitNumbers) (head : ReplyHead) (given rest : List ℕ) (a : List Section) (x : List ℕ) (f : FetchFault) → IsDueFault f
    → BlockStops q limits head given a x f → length (given ++ rest) ≤ limits.block → ⊥
above q limits head given rest a x f due s few =
    let (_, more) = block_fault limits given f due s.cause in
    omega (arith, more, few, length-append given rest)

pub stops_is_not_open : CarCutLaws → ReceivedLaws → SectionLaws → StopsIsNotOpen
stops_is_not_open cut received sections q limits head given rest a b x y f few due (BodyStops.answer s) (IsOpenBody.answer o) =
    cut.refused_held q limits (given ++ rest) a b x y s.cause (answer_due q limits head given a x f due s) (answer_refused q limits head (given ++ rest) given rest few refl a x f s)
    o.received few o.held
stops_is_not_open cut received sections q limits head given rest a b x y f few due (BodyStops.answer s) (IsOpenBody.absence o) = not_both q head s.is_head o.is_head
stops_is_not_open cut received sections q limits head given rest a b x y f few due (BodyStops.answer s) (IsOpenBody.block o) = not_forms q s.form o.form
stops_is_not_open cut received sections q limits head given rest a b x y f few due (BodyStops.absence s) (IsOpenBody.answer o) = not_both q head o.is_head s.is_head
stops_is_not_open cut received sections q limits head given rest a b x y f few due (BodyStops.absence s) (IsOpenBody.absence o) =
    cut.refused_held (path_query q) (path_limits limits) (given ++ rest) a b s.said o.said s.cause (absence_due q limits head given a x f due s)
    (absence_refused q limits head (given ++ rest) given rest few refl a x f s) o.received few (inl o.waits)
stops_is_not_open cut received sections q limits head given rest a b x y f few due (BodyStops.absence s) (IsOpenBody.block o) = not_both q head o.is_head s.is_head
stops_is_not_open cut received sections q limits head given rest a b x y f few due (BodyStops.reaches s) (IsOpenBody.answer o) = not_both q head o.is_head s.is_head
stops_is_not_open cut received sections q limits head given rest a b x y f few due (BodyStops.reaches s) (IsOpenBody.absence o) =
    reached_waits received sections q limits head (given ++ rest) given rest a b x o.said f refl s o.received o.waits
stops_is_not_open cut received sections q limits head given rest a b x y f few due (BodyStops.reaches s) (IsOpenBody.block o) = not_both q head o.is_head s.is_head
stops_is_not_open cut received sections q limits head given rest a b x y f few due (BodyStops.block s) (IsOpenBody.answer o) = not_forms q o.form s.form
stops_is_not_open cut received sections q limits head given rest a b x y f few due (BodyStops.block s) (IsOpenBody.absence o) = not_both q head s.is_head o.is_head
stops_is_not_open cut received sections q limits head given rest a b x y f few due (BodyStops.block s) (IsOpenBody.block o) = above q limits head given rest a x f due s o.few

-- a CAR that is the answer is held, and refused in no front
answer_stops : CarCutLaws → ReceivedLaws → SectionLaws → (q : QueryParts) (limits : LimitNumbers) (head : ReplyHead) (given rest : List ℕ) (a b : List Section) (x y : List ℕ) (f : FetchFault)
    → length (given ++ rest) ≤ limits.received → IsDueFault f → AnswerStops q limits head given a x f → IsAnswerBody q limits head (given ++ rest) b y → ⊥
answer_stops cut received sections q limits head given rest a b x y f few due s w =
    cut.refused_held q limits (given ++ rest) a b x y s.cause (answer_due q limits head given a x f due s) (answer_refused q limits head (given ++ rest) given rest few refl a x f s)
    (car_received received sections q limits head (given ++ rest) b y s.form w) few (inr (w.through, car_of q limits head (given ++ rest) b y s.form w))

pub stops_is_no_answer : CarCutLaws → ReceivedLaws → SectionLaws → StopsIsNoAnswer
stops_is_no_answer cut received sections q limits head given rest a b x y f few due (BodyStops.answer s) w = answer_stops cut received sections q limits head given rest a b x y f few due s w
stops_is_no_answer cut received sections q limits head given rest a b x y f few due (BodyStops.absence s) w = not_both q head w.is_head s.is_head
stops_is_no_answer cut received sections q limits head given rest a b x y f few due (BodyStops.reaches s) w = not_both q head w.is_head s.is_head
stops_is_no_answer cut received sections q limits head given rest a b x y f few due (BodyStops.block s) w =
    above q limits head given rest a x f due s (answer_small sections q limits (given ++ rest) b y (root_of q limits head (given ++ rest) b y s.form w) w.through)

-- ---- as it fails

module _ (cut : CarCutLaws) (received : ReceivedLaws) (sections : SectionLaws) (q : QueryParts) (limits : LimitNumbers) (head : ReplyHead) (given rest : List ℕ)
    (a b : List Section) (x y : List ℕ) (f g : FetchFault) (few : length (given ++ rest) ≤ limits.received) (due : IsDueFault f) where
  stops_as : BodyStops q limits head given a x f → BodyFails q limits head (given ++ rest) b y g → (x ≡ y) × (f ≡ g)
  stops_as (BodyStops.answer s) (BodyFails.answer t) =
      absurd (cut.refused_held q limits (given ++ rest) a b x y s.cause (answer_due q limits head given a x f due s)
      (answer_refused q limits head (given ++ rest) given rest few refl a x f s) t.received few (inl (short_waits q limits (given ++ rest) b y t.want t.number t.short)))
  stops_as (BodyStops.answer s) (BodyFails.absence t) = absurd (not_both q head s.is_head t.is_head)
  stops_as (BodyStops.answer s) (BodyFails.reaches t) = absurd (not_both q head s.is_head t.is_head)
  stops_as (BodyStops.answer s) (BodyFails.block t) = absurd (not_forms q s.form t.form)
  stops_as (BodyStops.absence s) (BodyFails.answer t) = absurd (not_both q head t.is_head s.is_head)
  stops_as (BodyStops.absence s) (BodyFails.absence t) =
      absurd (cut.refused_held (path_query q) (path_limits limits) (given ++ rest) a b s.said t.said s.cause (absence_due q limits head given a x f due s)
      (absence_refused q limits head (given ++ rest) given rest few refl a x f s) t.received few
      (inl (short_waits (path_query q) (path_limits limits) (given ++ rest) b t.said t.want t.number t.short)))
  stops_as (BodyStops.absence s) (BodyFails.reaches t) =
      absence_reached cut q limits head (given ++ rest) given (given ++ rest) rest [] few refl (sym (append-nil (given ++ rest))) a b x y f g due s t
  stops_as (BodyStops.absence s) (BodyFails.block t) = absurd (not_both q head t.is_head s.is_head)
  stops_as (BodyStops.reaches s) (BodyFails.answer t) = absurd (not_both q head t.is_head s.is_head)
  stops_as (BodyStops.reaches s) (BodyFails.absence t) =
      absurd (reached_waits received sections q limits head (given ++ rest) given rest a b x t.said f refl s t.received
      (short_waits (path_query q) (path_limits limits) (given ++ rest) b t.said t.want t.number t.short))
  stops_as (BodyStops.reaches s) (BodyFails.reaches t) = reached_once q limits head given (given ++ rest) a b x y f g s t
  stops_as (BodyStops.reaches s) (BodyFails.block t) = absurd (not_both q head t.is_head s.is_head)
  stops_as (BodyStops.block s) (BodyFails.answer t) = absurd (not_forms q t.form s.form)
  stops_as (BodyStops.block s) (BodyFails.absence t) = absurd (not_both q head s.is_head t.is_head)
  stops_as (BodyStops.block s) (BodyFails.reaches t) = absurd (not_both q head s.is_head t.is_head)
  stops_as (BodyStops.block s) (BodyFails.block t) = absurd (above q limits head given rest a x f due s t.few)

pub stops_as_it_fails : CarCutLaws → ReceivedLaws → SectionLaws → StopsAsItFails
stops_as_it_fails cut received sections q limits head given rest a b x y f g few f_due g_due s t = stops_as cut received sections q limits head given rest a b x y f g few f_due s t
