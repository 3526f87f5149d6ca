use Rattle.std.proofs.Common.{[], ◌∷◌, sym, ap, ◌∙◌}
use Rattle.std.proofs.lemmas.Result.{err_from_is_err_and}
use Rattle.tg_words.specs.Operands.{texts_of}
use Rattle.tg_words.proofs.Positional.{three_are}
use Rattle.tg_words.proofs.operands.three_operands.Goals as goal

pub returns-in_err-found-clause-only : goal.returns-in_err-found-clause-only
returns-in_err-found-clause-only c =
    let p = err_from_is_err_and c.from_residual.result c.from_residual.ensures.1 in
    rw (p.1, p.2) (λ first second third options s. c.in_err-found.ensures.only (first ∷ second ∷ third ∷ []) options s)

pub returns-in_err-first-clause-only : goal.returns-in_err-first-clause-only
returns-in_err-first-clause-only c = λ first second third options s.
    let none = rw c.in_err-first.ensures.ok_part at c.three_words.ensures.none in
    absurd (none first second third (ap texts_of c.as_slice.ensures.value ∙ (c.in_ok-found.ensures.only (first ∷ second ∷ third ∷ []) options s).0))

pub returns-clause-only : goal.returns-clause-only
returns-clause-only c = λ first second third options s.
    let both = c.in_ok-found.ensures.only (first ∷ second ∷ third ∷ []) options s in
    let are = rw c.in_ok-first.ensures.ok_part at c.three_words.ensures.some in
    three_are _ _ _ first second third (sym are ∙ ap texts_of c.as_slice.ensures.value ∙ both.0)
