use Rattle.std.proofs.Common.{List, subst, ◌∙◌}
use Rattle.std.proofs.lemmas.Result.{err_from_is_err_and}
use Rattle.tg_audit.proofs.AuditSteps.{moved, unabsent_as, unattached_as}
use Rattle.tg_audit.specs.Audits.{AreAnswered, IsAbsent, IsUnabsent}
use Rattle.tg_model.specs.Queries.{QueryParts}
use Rattle.tg_store.specs.Packs.{stored_in}
use Rattle.tg_audit.proofs.auditing.answered.Goals as goal

pub returns-in_err-store : goal.returns-in_err-store
returns-in_err-store c =
    let p = err_from_is_err_and c.from_residual-in_err-store.result c.from_residual-in_err-store.ensures.1 in
    rw (p.1, p.2)
    (unattached_as c.args.packed c.args.expected.now c.in_err-store.field-0.0 c.in_err-store.ensures)

pub returns-in_err-find_absent : goal.returns-in_err-find_absent
returns-in_err-find_absent c =
    let p = err_from_is_err_and c.from_residual-in_err-find_absent.result c.from_residual-in_err-find_absent.ensures.1 in
    let told = stored_in c.in_ok-store.store.pack.content c.in_ok-store.store.places in
    let fault = c.in_err-find_absent.field-0.0 in
    let all = subst (λ (l : List QueryParts). AreAnswered told l c.args.expected.now) (c.as_slice.ensures.value ∙ c.in_ok-queries.ensures) c.in_ok-compare_all.ensures.ends in
    let un = moved (λ t q. IsUnabsent t q fault) _ _ _ _ c.compare_all.ensures.same c.in_ok-absent.ensures c.in_err-find_absent.ensures in
    rw (p.1, p.2)
    (unabsent_as c.args.packed c.args.expected.now told fault c.in_ok-store.ensures all un)

pub returns : goal.returns
returns c =
    let told = stored_in c.in_ok-store.store.pack.content c.in_ok-store.store.places in
    record {
      told = told;
      attached = c.in_ok-store.ensures;
      answered = subst (λ (l : List QueryParts). AreAnswered told l c.args.expected.now) (c.as_slice.ensures.value ∙ c.in_ok-queries.ensures) c.in_ok-compare_all.ensures.ends;
      absent = moved IsAbsent _ _ _ _ c.compare_all.ensures.same c.in_ok-absent.ensures c.in_ok-find_absent.ensures;
      text_is = c.in_ok-summary_text.ensures;
    }
