use Rattle.std.proofs.Common.{[], sym, subst}
use Rattle.std.proofs.lemmas.Result.{err_from_is_err_and}
use Rattle.tg_cid.specs.Spelling.{CidText}
use Rattle.tg_words.proofs.Lines.{one_cid_found}
use Rattle.tg_words.proofs.one_cid.Goals as goal

pub returns-in_err-text-clause-only : goal.returns-in_err-text-clause-only
returns-in_err-text-clause-only c =
    let p = err_from_is_err_and c.from_residual.result c.from_residual.ensures.1 in
    rw (p.1, p.2) (λ cid line. c.in_err-text.ensures.only line.text [] line.operands)

pub returns-clause-found : goal.returns-clause-found
returns-clause-found c = one_cid_found _ c.in_ok-text.text.now _ c.cid_of_text.result c.in_ok-text.ensures.found c.cid_of_text.ensures.found

pub returns-clause-only : goal.returns-clause-only
returns-clause-only c =
    λ cid line. c.cid_of_text.ensures.only cid (subst (λ t. CidText cid t) (sym (c.in_ok-text.ensures.only line.text [] line.operands).0) line.text_is)
