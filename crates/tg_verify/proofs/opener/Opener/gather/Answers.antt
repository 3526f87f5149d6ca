use Rattle.std.proofs.Common.{Bool}
use Rattle.tg_verify.specs.Steps.{IsAdvanced}
use Rattle.std.proofs.Common.{Err, Ok, subst, ◌∙◌}
use Rattle.std.proofs.lemmas.Result.{err_from_is_err_and}
use Rattle.tg_verify.proofs.Gathered.{leads_more, leads_none, stepped}
use Rattle.tg_verify.proofs.opener.Opener.gather.Goals as goal

pub loop-init : goal.loop-init
loop-init c = leads_none c.args.self.now c.args.ends.now

pub returns-in_err-advance-clause-same : goal.returns-in_err-advance-clause-same
returns-in_err-advance-clause-same c =
    let same = c.in_err-advance.ensures.same in
    record { query = same.query ∙ c.loop.invariant.same.query; limits = same.limits ∙ c.loop.invariant.same.limits }

pub returns-in_err-advance-clause-gathered : goal.returns-in_err-advance-clause-gathered
returns-in_err-advance-clause-gathered c =
    let p = err_from_is_err_and c.from_residual.result c.from_residual.ensures.1 in
    rw (p.1, p.2) (c.loop.invariant.ending c.advance.new.self c.advance.new.ends (Err c.in_err-advance.field-0.0) c.in_err-advance.ensures.step)

pub loop-smaller : goal.loop-smaller
loop-smaller c = (stepped c.loop.self c.loop.ends c.advance.new.self c.advance.new.ends c.in_ok-advance.field-0 c.if-branch.true c.in_ok-advance.ensures.step).1

pub loop-preserved : goal.loop-preserved
loop-preserved c =
    leads_more c.args.self.now c.loop.self c.advance.new.self c.args.ends.now c.loop.ends c.advance.new.ends c.loop.invariant
    (stepped c.loop.self c.loop.ends c.advance.new.self c.advance.new.ends c.in_ok-advance.field-0 c.if-branch.true c.in_ok-advance.ensures.step).0 c.in_ok-advance.ensures.same c.in_ok-advance.ensures.terminal

pub returns-clause-same : goal.returns-clause-same
returns-clause-same c =
    let same = c.in_ok-advance.ensures.same in
    record { query = same.query ∙ c.loop.invariant.same.query; limits = same.limits ∙ c.loop.invariant.same.limits }

pub returns-clause-gathered : goal.returns-clause-gathered
returns-clause-gathered c =
    c.loop.invariant.ending c.advance.new.self c.advance.new.ends (Ok tt)
    (subst (λ (more : Bool). IsAdvanced c.loop.self c.loop.ends c.advance.new.self c.advance.new.ends (Ok more)) c.if-branch.false c.in_ok-advance.ensures.step)
