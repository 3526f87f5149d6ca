-- The body that is the answer, and the text of bytes of which nothing is refused.
use Rattle.std.proofs.Common.{◌≡◌, ℕ, List, [], ◌∷◌, ◌++◌, refl, ap, sym, subst, ◌∙◌}
use Rattle.tg_client.specs.Received.{HasReceived, IsCarOf}
use Rattle.tg_client.specs.ReceivedLaws.{ReceivedLaws}
use Rattle.tg_cut_laws.proofs.BodyHeads.{not_both, not_forms}
use Rattle.tg_cut_laws.specs.Bodies.{AnswerOnce, IsAnswerBody, OpenOnce}
use Rattle.tg_cut_laws.specs.Cars.{CarCutLaws}
use Rattle.tg_cut_laws.specs.Sections.{BeginOne, SectionLaws}
use Rattle.tg_fetch.specs.Bodies.{IsOpenBody, root_section}
use Rattle.tg_heard.specs.Carried.{BodyCarries}
use Rattle.tg_http.specs.declared.reply.ReplyHead.{ReplyHead}
use Rattle.tg_model.specs.Dag.{Section}
use Rattle.tg_model.specs.LimitNumbers.{LimitNumbers}
use Rattle.tg_model.specs.Queries.{QueryParts}
use Rattle.tg_model.specs.declared.queries.Form.{Form}
use Rattle.tg_model.specs.declared.queries.Form.TheVariants as forms

module _ (q : QueryParts) (limits : LimitNumbers) (head : ReplyHead) (body : List ℕ) (sections : List Section) (text : List ℕ) where
  -- in its form it is the CAR of its sections, or the root's block
  pub car_of : q.form ≡ forms.Car → IsAnswerBody q limits head body sections text → IsCarOf body sections
  car_of e w = subst (λ (f : Form). BodyCarries f q body sections) e w.carries

  pub root_of : q.form ≡ forms.Raw → IsAnswerBody q limits head body sections text → sections ≡ root_section q body ∷ []
  root_of e w = subst (λ (f : Form). BodyCarries f q body sections) e w.carries

-- and all its sections stand whole in the CAR
pub car_received : ReceivedLaws → SectionLaws → (q : QueryParts) (limits : LimitNumbers) (head : ReplyHead) (body : List ℕ) (sections : List Section) (text : List ℕ) → q.form ≡ forms.Car
    → IsAnswerBody q limits head body sections text → HasReceived limits.block body sections
car_received received laws q limits head body sections text e w =
    received.whole limits.block body sections (car_of q limits head body sections text e w) (laws.small q limits sections text w.through)

-- ---- the answer is one

pub answer_once : ReceivedLaws → SectionLaws → AnswerOnce
answer_once received laws q limits head body a b x y v w = texts_are (same q.form refl)
  where
    same : (f : Form) → q.form ≡ f → a ≡ b
    same forms.Car e =
        received.one limits.block body a b (car_received received laws q limits head body a x e v) (car_received received laws q limits head body b y e w)
    same forms.Raw e = root_of q limits head body a x e v ∙ sym (root_of q limits head body b y e w)

    texts_are : a ≡ b → x ≡ y
    texts_are is =
        let one : BeginOne a b = record { a_more = []; b_more = []; one = ap (λ (l : List Section). l ++ []) is } in
        let (_, texts) = laws.through q limits a b x y one v.through w.through in
        texts

-- ---- and so is the text while nothing is refused

pub open_once : CarCutLaws → OpenOnce
open_once cut q limits head given a b x y (IsOpenBody.answer v) (IsOpenBody.answer w) =
    let (_, texts) = cut.held q limits given a b x y v.received w.received v.held w.held in texts
open_once cut q limits head given a b x y (IsOpenBody.answer v) (IsOpenBody.absence w) = absurd (not_both q head v.is_head w.is_head)
open_once cut q limits head given a b x y (IsOpenBody.answer v) (IsOpenBody.block w) = absurd (not_forms q v.form w.form)
open_once cut q limits head given a b x y (IsOpenBody.absence v) (IsOpenBody.answer w) = absurd (not_both q head w.is_head v.is_head)
open_once cut q limits head given a b x y (IsOpenBody.absence v) (IsOpenBody.absence w) = v.no_text ∙ sym w.no_text
open_once cut q limits head given a b x y (IsOpenBody.absence v) (IsOpenBody.block w) = absurd (not_both q head w.is_head v.is_head)
open_once cut q limits head given a b x y (IsOpenBody.block v) (IsOpenBody.answer w) = absurd (not_forms q w.form v.form)
open_once cut q limits head given a b x y (IsOpenBody.block v) (IsOpenBody.absence w) = absurd (not_both q head v.is_head w.is_head)
open_once cut q limits head given a b x y (IsOpenBody.block v) (IsOpenBody.block w) = v.no_text ∙ sym w.no_text
