use Rattle.std.proofs.Common.{◌++◌, ℕ, List, take, drop, ap, subst, ◌∙◌}
use Rattle.std.proofs.lemmas.List.{append_assoc, take-append-drop, take_rest}
use Rattle.std.proofs.lemmas.Result.{err_from_is_err_and}
use Rattle.tg_store.specs.Attaching.{HasStopCause}
use Rattle.tg_store.proofs.attach.Indexing.take.Goals as goal

pub returns-in_err-taken-clause-along : goal.returns-in_err-taken-clause-along
returns-in_err-taken-clause-along c =
    let p = err_from_is_err_and c.from_residual.result c.from_residual.ensures.1 in
    rw (p.1, p.2) (λ fed along.
    let so_far = c.loop-rest.invariant.along fed along in
    subst (λ (l : List ℕ). HasStopCause l c.in_err-taken.field-0.0) so_far.1 (c.in_err-taken.ensures.along so_far.0 so_far.2))

pub loop-rest-preserved : goal.loop-rest-preserved
loop-rest-preserved c = record {
  along = λ fed along.
      let so_far = c.loop-rest.invariant.along fed along in
      let rest : List ℕ = c.loop-rest.rest.now in
      let taken : ℕ = c.in_ok-taken.taken in (
        so_far.0 ++ take taken rest,
        ap (λ (l : List ℕ). (so_far.0 ++ take taken rest) ++ l) (take_rest rest taken)
            ∙ (append_assoc so_far.0 (take taken rest) (drop taken rest) ∙ (ap (λ (l : List ℕ). so_far.0 ++ l) (take-append-drop taken rest) ∙ so_far.1)),
        c.in_ok-taken.ensures.along so_far.0 so_far.2,
      );
  end = c.step.ensures.end ∙ c.loop-rest.invariant.end;
}
