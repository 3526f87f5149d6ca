use Rattle.std.proofs.Common.{[], ◌∷◌, sym, ap, ◌∙◌}
use Rattle.std.proofs.lemmas.Result.{err_from_is_err_and}
use Rattle.tg_bytes.specs.Lists.{same_only}
use Rattle.tg_words.specs.Operands.{texts_of}
use Rattle.tg_words.proofs.operands.one_operand.Goals as goal

pub returns-in_err-found-clause-only : goal.returns-in_err-found-clause-only
returns-in_err-found-clause-only c =
    let p = err_from_is_err_and c.from_residual.result c.from_residual.ensures.1 in
    rw (p.1, p.2) (λ word options s. c.in_err-found.ensures.only (word ∷ []) options s)

pub returns-in_err-word-clause-only : goal.returns-in_err-word-clause-only
returns-in_err-word-clause-only c = λ word options s.
    let none = rw c.in_err-word.ensures.ok_part at c.one_word.ensures.none in
    absurd (none word (ap texts_of c.as_slice.ensures.value ∙ (c.in_ok-found.ensures.only (word ∷ []) options s).0))

pub returns-clause-only : goal.returns-clause-only
returns-clause-only c = λ word options s.
    let both = c.in_ok-found.ensures.only (word ∷ []) options s in
    let is = rw c.in_ok-word.ensures.ok_part at c.one_word.ensures.some in
    (same_only _ word (sym is ∙ ap texts_of c.as_slice.ensures.value ∙ both.0), both.1)
