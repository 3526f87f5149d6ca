use Rattle.std.proofs.Common.{◌∙◌, subst, sym}
use Rattle.std.proofs.lemmas.Result.{err_from_is_err_and}
use Rattle.tg_traversal.specs.PlaceTexts.{IsBundled, IsFirstRecord}
use Rattle.tg_model.specs.Traversal.{all_reach}
use Rattle.tg_model.specs.declared.queries.Scope.{Scope}
use Rattle.tg_traversal.proofs.text.terminal_text.Goals as goal

pub returns-in_err-first_line-in-All-clause-err : goal.returns-in_err-first_line-in-All-clause-err
returns-in_err-first_line-in-All-clause-err c = λ section kind here.
    let p = err_from_is_err_and c.from_residual.result c.from_residual.ensures.1 in
    let bundled : IsBundled (all_reach kind) = c.in_err-first_line-in-All.ensures.err c.args.block.now section kind here in
    rw p.1 (subst (λ (scope : Scope). IsFirstRecord scope kind) (sym c.in-All.is ∙ c.scope.ensures) bundled)
