use Rattle.std.proofs.Common.{[], Global, map, string_bytes, sym, ◌∙◌, subst}
use Rattle.std.proofs.lemmas.Result.{err_from_is_err_and}
use Rattle.tg_words.specs.Operands.{givens, names_of}
use Rattle.tg_words.specs.Words.{WordsSpelling}
use Rattle.tg_words.proofs.Lines.{no_texts, some_texts}
use Rattle.tg_words.proofs.operands.no_operand.Goals as goal

pub returns-in_err-found-clause-only : goal.returns-in_err-found-clause-only
returns-in_err-found-clause-only c =
    let p = err_from_is_err_and c.from_residual.result c.from_residual.ensures.1 in
    rw (p.1, p.2) (λ options s. c.in_err-found.ensures.only [] options s)

pub returns-then-not-is_empty-clause-only : goal.returns-then-not-is_empty-clause-only
returns-then-not-is_empty-clause-only c = λ options s.
    absurd (some_texts _ _ c.in_ok-found.found.positional.ok.0 (sym c.is_empty.ensures ∙ c.if-not-is_empty.true) (c.in_ok-found.ensures.only [] options s).0)

pub returns-clause-found : goal.returns-clause-found
returns-clause-found c =
    subst (λ texts. WordsSpelling (names_of c.args.names) (map (string_bytes {Z = Global}) c.args.words.now) texts (givens c.in_ok-found.found.options.items))
    (no_texts _ _ c.in_ok-found.found.positional.ok.0 (sym c.is_empty.ensures ∙ c.if-not-is_empty.false)) c.in_ok-found.ensures.found

pub returns-clause-only : goal.returns-clause-only
returns-clause-only c = λ options s. (c.in_ok-found.ensures.only [] options s).1
