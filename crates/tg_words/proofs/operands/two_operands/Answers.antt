use Rattle.std.proofs.Common.{[], ◌∷◌, sym, ap, ◌∙◌}
use Rattle.std.proofs.lemmas.Result.{err_from_is_err_and}
use Rattle.tg_words.specs.Operands.{texts_of}
use Rattle.tg_words.proofs.Positional.{two_are}
use Rattle.tg_words.proofs.operands.two_operands.Goals as goal

pub returns-in_err-found-clause-only : goal.returns-in_err-found-clause-only
returns-in_err-found-clause-only c =
    let p = err_from_is_err_and c.from_residual.result c.from_residual.ensures.1 in
    rw (p.1, p.2) (λ first second options s. c.in_err-found.ensures.only (first ∷ second ∷ []) options s)

pub returns-in_err-first-clause-only : goal.returns-in_err-first-clause-only
returns-in_err-first-clause-only c = λ first second options s.
    let none = rw c.in_err-first.ensures.ok_part at c.two_words.ensures.none in
    absurd (none first second (ap texts_of c.as_slice.ensures.value ∙ (c.in_ok-found.ensures.only (first ∷ second ∷ []) options s).0))

pub returns-clause-only : goal.returns-clause-only
returns-clause-only c = λ first second options s.
    let both = c.in_ok-found.ensures.only (first ∷ second ∷ []) options s in
    let are = rw c.in_ok-first.ensures.ok_part at c.two_words.ensures.some in
    let same = two_are _ _ first second (sym are ∙ ap texts_of c.as_slice.ensures.value ∙ both.0) in
    (same.0, same.1, both.1)
