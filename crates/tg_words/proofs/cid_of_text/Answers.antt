use Rattle.std.proofs.Common.{List, ℕ, sym, subst, ap}
use Rattle.std.proofs.lemmas.Result.{err_from_is_err_and}
use Rattle.tg_cid.specs.Spelling.{CidText}
use Rattle.tg_words.specs.Operands.{fault_of_cid}
use Rattle.tg_words.proofs.cid_of_text.Goals as goal

pub returns-in_err-from_text-clause-only : goal.returns-in_err-from_text-clause-only
returns-in_err-from_text-clause-only c =
    let p = err_from_is_err_and c.from_residual.result c.from_residual.ensures.1 in
    rw (p.1, p.2) (λ cid text_is. ap fault_of_cid (c.in_err-from_text.ensures.only cid (subst (λ (t : List ℕ). CidText cid t) (sym c.as_bytes.ensures.value) text_is)))

pub returns-clause-only : goal.returns-clause-only
returns-clause-only c =
    λ cid text_is. c.in_ok-from_text.ensures.only cid (subst (λ (t : List ℕ). CidText cid t) (sym c.as_bytes.ensures.value) text_is)
