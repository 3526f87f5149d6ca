use Rattle.std.proofs.Common.{Ok, Err, ap}
use Rattle.std.proofs.lemmas.Result.{err_from_is_err_and}
use Rattle.tg_words.specs.Operands.{givens, texts_of}
use Rattle.tg_words.proofs.Lines.{swarm_lines}
use Rattle.tg_words.proofs.Positional.{answered, no_operands}
use Rattle.tg_words.proofs.SwarmAnswers.{swarm_at, swarm_form}
use Rattle.tg_words.proofs.swarms.swarm_of.Goals as goal

pub returns-in_err-found : goal.returns-in_err-found
returns-in_err-found c =
    let p = err_from_is_err_and c.from_residual.result c.from_residual.ensures.1 in
    rw (p.1, p.2) (no_operands swarm_form _ _ swarm_lines c.in_err-found.ensures.only)

pub returns-in_err-swarm : goal.returns-in_err-swarm
returns-in_err-swarm c =
    let p = err_from_is_err_and c.from_residual-in_err-swarm.result c.from_residual-in_err-swarm.ensures.1 in
    rw (p.1, p.2)
    (answered swarm_form _ (texts_of c.in_ok-found.found.positional.items) _ _ (Err c.in_err-swarm.field-0.0) swarm_lines (ap givens c.as_slice-2.ensures.value)
    c.in_ok-found.ensures.found c.in_ok-found.ensures.only
    (swarm_at _ _ _ (Err c.in_err-swarm.field-0.0) (ap texts_of c.as_slice.ensures.value) c.in_err-swarm.ensures))

pub returns : goal.returns
returns c =
    answered swarm_form _ (texts_of c.in_ok-found.found.positional.items) _ _ (Ok c.in_ok-swarm.swarm) swarm_lines (ap givens c.as_slice-2.ensures.value)
    c.in_ok-found.ensures.found c.in_ok-found.ensures.only
    (swarm_at _ _ _ (Ok c.in_ok-swarm.swarm) (ap texts_of c.as_slice.ensures.value) c.in_ok-swarm.ensures)
