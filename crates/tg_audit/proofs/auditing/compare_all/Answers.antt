use Rattle.std.proofs.Common.{List, Option, [], arith, get_or, length, subst, ℕ, ◌+◌, ◌<◌, ◌∙◌}
use Rattle.std.proofs.lemmas.Result.{err_from_is_err_and}
use Rattle.tg_audit.proofs.AuditSteps.{answered_more, stops_at}
use Rattle.tg_audit.specs.Asking.{IsAnsweredBy}
use Rattle.tg_audit.specs.Audits.{IsUnexpected}
use Rattle.tg_audit_texts.specs.declared.hashing.Hashed.{Hashed}
use Rattle.tg_model.specs.Queries.{QueryParts}
use Rattle.tg_model.specs.Stores.{Store}
use Rattle.tg_audit.proofs.auditing.compare_all.Goals as goal

-- what is told where none is expected
abbrev nothing : Hashed
nothing = record { size = 0; digest = [] }

pub returns-in_err-compare-clause-ends : goal.returns-in_err-compare-clause-ends
returns-in_err-compare-clause-ends g c =
    let p = err_from_is_err_and c.from_residual.result c.from_residual.ensures.1 in
    let inv = c.loop-i.invariant in
    let q = c.index-queries-i.result in
    let queries = c.args.queries.now in
    let expected : List Hashed = c.args.expected.now in
    let i : ℕ = c.loop-i.i in
    let inside : i < length queries = omega (arith, c.loop-i-test.true) in
    let un = subst (λ (t : Option Store). IsUnexpected t (get_or queries i q) (get_or expected i nothing) (i + 1) c.in_err-compare.field-0.0) inv.0
    (subst (λ (x : QueryParts). IsUnexpected (g.B.Blocks.blocks.stored c.loop-i.blocks) x (get_or expected i nothing) (i + 1) c.in_err-compare.field-0.0) c.index-queries-i.is
    c.in_err-compare.ensures.ends) in
    rw (p.1, p.2)
    (stops_at (g.B.Blocks.blocks.stored c.args.blocks.now) queries expected i q nothing c.in_err-compare.field-0.0 inside (omega (arith, inside, c.requires)) inv.1 un)

pub loop-i-preserved : goal.loop-i-preserved
loop-i-preserved g c =
    let inv = c.loop-i.invariant in
    let q = c.index-queries-i.result in
    let queries = c.args.queries.now in
    let expected : List Hashed = c.args.expected.now in
    let i : ℕ = c.loop-i.i in
    let inside : i < length queries = omega (arith, c.loop-i-test.true) in
    let is = subst (λ (t : Option Store). IsAnsweredBy t (get_or queries i q) (get_or expected i nothing)) inv.0
    (subst (λ (x : QueryParts). IsAnsweredBy (g.B.Blocks.blocks.stored c.loop-i.blocks) x (get_or expected i nothing)) c.index-queries-i.is c.in_ok-compare.ensures.ends) in
    (c.compare.ensures.same ∙ inv.0, answered_more (g.B.Blocks.blocks.stored c.args.blocks.now) queries expected i q nothing inside (omega (arith, inside, c.requires)) inv.1 is)
