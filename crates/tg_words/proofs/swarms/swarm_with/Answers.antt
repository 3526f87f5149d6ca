use Rattle.std.proofs.Common.{Err, Ok, ap, arith}
use Rattle.std.proofs.lemmas.Result.{err_from_is_err_and}
use Rattle.tg_words.specs.Operands.{givens, texts_of}
use Rattle.tg_words.proofs.ImportAnswers.{number_at}
use Rattle.tg_words.proofs.SwarmAnswers.{count_of, swarm_found, swarm_refused}
use Rattle.tg_words.proofs.swarms.swarm_with.Goals as goal

pub returns-in_err-root-2 : goal.returns-in_err-root-2
returns-in_err-root-2 c =
    let p = err_from_is_err_and c.from_residual-in_err-root-2.result c.from_residual-in_err-root-2.ensures.1 in
    let words = rw c.in_ok-root.ensures.ok_part at c.split_first.ensures.cases in
    rw (p.1, p.2)
    (swarm_refused _ _ _ (givens c.args.options.now) _ (ap texts_of words.0) (λ parts by. c.in_err-root-2.ensures.only parts.root by.root))

pub returns-in_err-part : goal.returns-in_err-part
returns-in_err-part c =
    let p = err_from_is_err_and c.from_residual-in_err-part.result c.from_residual-in_err-part.ensures.1 in
    let words = rw c.in_ok-root.ensures.ok_part at c.split_first.ensures.cases in
    let exact = number_at _ _ _ _ _ (Err c.in_err-part.field-0.0) c.value_of.ensures c.in_err-part.ensures in
    rw (p.1, p.2)
    (swarm_refused _ _ _ (givens c.args.options.now) _ (ap texts_of words.0) (λ parts by. exact.only parts.part by.part))

pub returns-in_err-addrs : goal.returns-in_err-addrs
returns-in_err-addrs c =
    let p = err_from_is_err_and c.from_residual-in_err-addrs.result c.from_residual-in_err-addrs.ensures.1 in
    let words = rw c.in_ok-root.ensures.ok_part at c.split_first.ensures.cases in
    rw (p.1, p.2)
    (swarm_refused _ _ _ (givens c.args.options.now) _ (ap texts_of words.0) (λ parts by. c.in_err-addrs.ensures.only by.are_addrs))

pub returns : goal.returns
returns c =
    let words = rw c.in_ok-root.ensures.ok_part at c.split_first.ensures.cases in
    let count = count_of c.in_ok-root.addrs.now _ c.is_empty.ensures c.if-is_empty.false (omega (arith, c.if-addrs-gt-MOST_ADDRS.false)) in
    swarm_found _ _ _ (givens c.args.options.now) _ (ap texts_of words.0)
    c.in_ok-root-2.ensures.found c.in_ok-root-2.ensures.only c.in_ok-addrs.ensures.found.0 c.in_ok-addrs.ensures.found.1 count.0 count.1
    (number_at _ _ _ _ _ (Ok c.in_ok-part.part) c.value_of.ensures c.in_ok-part.ensures)
