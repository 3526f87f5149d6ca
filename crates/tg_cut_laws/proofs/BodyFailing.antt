-- A body that isn't accepted at its end: so it is at each other refusal there, and it isn't the answer.
use Rattle.std.proofs.Common.{◌≡◌, ℕ, List, [], ap₂, sym, ◌∙◌, append-nil}
use Rattle.tg_cid.specs.Cid.{CidParts}
use Rattle.tg_client.specs.ReceivedLaws.{ReceivedLaws}
use Rattle.tg_cut_laws.proofs.BodyAnswers.{car_of, car_received, root_of}
use Rattle.tg_cut_laws.proofs.BodyBlocks.{block_is_no_answer, blocks_once}
use Rattle.tg_cut_laws.proofs.BodyCars.{reached_once, reached_waits, short_waits}
use Rattle.tg_cut_laws.proofs.BodyHeads.{not_both, not_forms}
use Rattle.tg_cut_laws.specs.Bodies.{FailsIsNoAnswer, FailsOnce, IsDueFault}
use Rattle.tg_cut_laws.specs.Cars.{CarCutLaws}
use Rattle.tg_cut_laws.specs.Sections.{SectionLaws}
use Rattle.tg_fetch.specs.Bodies.{AbsenceReaches, AbsenceShort, AnswerShort, BodyFails}
use Rattle.tg_fetch.specs.declared.fault.FetchFault.{FetchFault}
use Rattle.tg_fetch.specs.declared.fault.FetchFault.TheVariants as faults
use Rattle.tg_http.specs.declared.reply.ReplyHead.{ReplyHead}
use Rattle.tg_model.specs.Dag.{Section}
use Rattle.tg_model.specs.LimitNumbers.{LimitNumbers}
use Rattle.tg_model.specs.Queries.{QueryParts}
use Rattle.tg_verify.specs.Absences.{path_limits, path_query}
use Rattle.tg_verify.specs.declared.fault.Refusal.TheVariants as refusals

-- ---- two refusals

-- one block is wanted, behind one number of sections
same_short : (f g : FetchFault) (want other : CidParts) (number count : ℕ) → f ≡ faults.Refused (refusals.Truncated want number) → g ≡ faults.Refused (refusals.Truncated other count)
    → want ≡ other → number ≡ count → f ≡ g
same_short f g want other number count f_is g_is wants numbers =
    f_is ∙ (ap₂ (λ (w : CidParts) (n : ℕ). faults.Refused (refusals.Truncated w n)) wants numbers ∙ sym g_is)

module _ (cut : CarCutLaws) (received : ReceivedLaws) (sections : SectionLaws) (q : QueryParts) (limits : LimitNumbers) (head : ReplyHead) (body : List ℕ) where
  -- where the terminal is reached none is wanted
  reached_short : (a b : List Section) (x y : List ℕ) (f g : FetchFault) → AbsenceReaches q limits head body a x f → AbsenceShort q limits head body b y g → ⊥
  reached_short a b x y f g s t =
      reached_waits received sections q limits head body body [] a b x t.said f (sym (append-nil body)) s t.received
      (short_waits (path_query q) (path_limits limits) body b t.said t.want t.number t.short)

  module _ (a b : List Section) (x y : List ℕ) (f g : FetchFault) (f_due : IsDueFault f) (g_due : IsDueFault g) where
    answers_short : AnswerShort q limits head body a x f → AnswerShort q limits head body b y g → (x ≡ y) × (f ≡ g)
    answers_short s t =
        let (_, texts, wants, numbers) = cut.short q limits body a b x y s.want t.want s.number t.number s.received t.received s.short t.short in
        (texts, same_short f g s.want t.want s.number t.number s.fault_is t.fault_is wants numbers)

    absences_short : AbsenceShort q limits head body a x f → AbsenceShort q limits head body b y g → (x ≡ y) × (f ≡ g)
    absences_short s t =
        let (_, _, wants, numbers) =
        cut.short (path_query q) (path_limits limits) body a b s.said t.said s.want t.want s.number t.number s.received t.received s.short t.short in
        (s.no_text ∙ sym t.no_text, same_short f g s.want t.want s.number t.number s.fault_is t.fault_is wants numbers)

    both_fail : BodyFails q limits head body a x f → BodyFails q limits head body b y g → (x ≡ y) × (f ≡ g)
    both_fail (BodyFails.answer s) (BodyFails.answer t) = answers_short s t
    both_fail (BodyFails.answer s) (BodyFails.absence t) = absurd (not_both q head s.is_head t.is_head)
    both_fail (BodyFails.answer s) (BodyFails.reaches t) = absurd (not_both q head s.is_head t.is_head)
    both_fail (BodyFails.answer s) (BodyFails.block t) = absurd (not_forms q s.form t.form)
    both_fail (BodyFails.absence s) (BodyFails.answer t) = absurd (not_both q head t.is_head s.is_head)
    both_fail (BodyFails.absence s) (BodyFails.absence t) = absences_short s t
    both_fail (BodyFails.absence s) (BodyFails.reaches t) = absurd (reached_short b a y x g f t s)
    both_fail (BodyFails.absence s) (BodyFails.block t) = absurd (not_both q head t.is_head s.is_head)
    both_fail (BodyFails.reaches s) (BodyFails.answer t) = absurd (not_both q head t.is_head s.is_head)
    both_fail (BodyFails.reaches s) (BodyFails.absence t) = absurd (reached_short a b x y f g s t)
    both_fail (BodyFails.reaches s) (BodyFails.reaches t) = reached_once q limits head body body a b x y f g s t
    both_fail (BodyFails.reaches s) (BodyFails.block t) = absurd (not_both q head t.is_head s.is_head)
    both_fail (BodyFails.block s) (BodyFails.answer t) = absurd (not_forms q t.form s.form)
    both_fail (BodyFails.block s) (BodyFails.absence t) = absurd (not_both q head s.is_head t.is_head)
    both_fail (BodyFails.block s) (BodyFails.reaches t) = absurd (not_both q head s.is_head t.is_head)
    both_fail (BodyFails.block s) (BodyFails.block t) = blocks_once sections q limits body head a b x y f g f_due g_due s t

pub fails_once : CarCutLaws → ReceivedLaws → SectionLaws → FailsOnce
fails_once cut received sections q limits head body a b x y f g few f_due g_due s t = both_fail cut received sections q limits head body a b x y f g f_due g_due s t

-- ---- nor is it the answer

pub fails_is_no_answer : CarCutLaws → ReceivedLaws → SectionLaws → FailsIsNoAnswer
fails_is_no_answer cut received sections q limits head body a b x y f few due (BodyFails.answer s) w =
    cut.short_through q limits body a b x y s.want s.number s.received (car_received received sections q limits head body b y s.form w)
    (car_of q limits head body b y s.form w) s.short w.through
fails_is_no_answer cut received sections q limits head body a b x y f few due (BodyFails.absence s) w = not_both q head w.is_head s.is_head
fails_is_no_answer cut received sections q limits head body a b x y f few due (BodyFails.reaches s) w = not_both q head w.is_head s.is_head
fails_is_no_answer cut received sections q limits head body a b x y f few due (BodyFails.block s) w =
    block_is_no_answer sections q limits body head a b x y f due s (root_of q limits head body b y s.form w) w.through
