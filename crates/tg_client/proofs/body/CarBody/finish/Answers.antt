use Rattle.std.proofs.Common.{◌≡◌, None, Err, sym, subst}
use Rattle.std.proofs.lemmas.Result.{err_from_is_err_and}
use Rattle.tg_verify.specs.declared.fault.Refusal.{Refusal}
use Rattle.tg_verify.specs.declared.fault.Refusal.TheVariants as refusals
use Rattle.tg_client.specs.Body.{HasEnded}
use Rattle.tg_client.specs.Ends.{fault_of_refusal}
use Rattle.tg_client.proofs.Closing.{accepted, cut_short}
use Rattle.tg_client.proofs.Stepping.{some_of}
use Rattle.tg_client.proofs.body.CarBody.finish.Goals as goal

pub returns-in_err-finish-clause-cause : goal.returns-in_err-finish-clause-cause
returns-in_err-finish-clause-cause c fresh =
    let p = err_from_is_err_and c.from_residual.result c.from_residual.ensures.1 in
    let not_none : c.args.self.now.verifier.left.wanted ≡ None → ⊥ = λ e. absurd (cc (c.in_err-finish.ensures.through fresh e)) in
    let (at, wanted) = some_of c.args.self.now.verifier.left.wanted not_none in
    let cut = c.in_err-finish.ensures.cut at fresh wanted in
    let is : c.in_err-finish.field-0.0 ≡ refusals.Truncated at.cid c.args.self.now.verifier.taken = cc cut in
    rw (p.1, p.2, is) tt

pub returns-in_err-finish-clause-stands : goal.returns-in_err-finish-clause-stands
returns-in_err-finish-clause-stands c heard sections written h =
    let p = err_from_is_err_and c.from_residual.result c.from_residual.ensures.1 in
    let not_none : c.args.self.now.verifier.left.wanted ≡ None → ⊥ = λ e. absurd (cc (c.in_err-finish.ensures.through h.fresh e)) in
    let (at, wanted) = some_of c.args.self.now.verifier.left.wanted not_none in
    let cut = c.in_err-finish.ensures.cut at h.fresh wanted in
    let is : c.in_err-finish.field-0.0 ≡ refusals.Truncated at.cid c.args.self.now.verifier.taken = cc cut in
    rw (p.1, p.2)
    (subst (λ (f : Refusal). HasEnded c.args.self.now.verifier.left.query c.args.self.now.verifier.limits heard sections written (Err (fault_of_refusal f))) (sym is)
    (cut_short c.verified_answers.ensures c.args.self.now heard sections written h at wanted))

pub returns-clause-stands : goal.returns-clause-stands
returns-clause-stands c heard sections written h = accepted c.verified_answers.ensures c.args.self.now heard sections written h c.in_ok-finish.ensures.done.1
