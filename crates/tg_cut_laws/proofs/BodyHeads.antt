-- The heads behind which the body of a reply is the answer or shows an absence exclude each other, and so do the forms in
-- which it is a CAR or a block.
use Rattle.std.proofs.Common.{◌≡◌, sym, ◌∙◌, arith}
use Rattle.tg_heard.specs.Carried.{IsAbsenceHead, IsAnswerHead}
use Rattle.tg_http.specs.declared.reply.ReplyHead.{ReplyHead}
use Rattle.tg_model.specs.Queries.{QueryParts}
use Rattle.tg_model.specs.declared.queries.Form.TheVariants as forms

-- no head is an answer's and an absence's
pub not_both : (q : QueryParts) (head : ReplyHead) → IsAnswerHead q head → IsAbsenceHead q head → ⊥
not_both q head answer absence = omega (arith, answer.status, absence.status)

-- no query asks for a CAR and for a block
pub not_forms : (q : QueryParts) → q.form ≡ forms.Car → q.form ≡ forms.Raw → ⊥
not_forms q car raw = let same : forms.Car ≡ forms.Raw = sym car ∙ raw in absurd (cc same)
