use Rattle.std.proofs.Common.{rules, tests, ap, arith, length, option_copied, sym, ◌≤◌, ◌∙◌, ◌==◌}
use Rattle.std.proofs.lemmas.Iterator.Consumers.{YieldsList-at}
use Rattle.std.proofs.lemmas.Iterator.Splits.{YieldsList-from_slice_split}
use Rattle.tg_query.specs.Cuts.{cut_at}
use Rattle.tg_query.specs.Roads.{end_by, turn_by}
use Rattle.tg_query.specs.Accepts.{param_in}
use Rattle.tg_query.proofs.Firsts.{first_here, first_nowhere, first_passed, one_more}
use Rattle.tg_query.proofs.accepts.first_param.Goals as goal

pub returns-in-Some-value_under : goal.returns-in-Some-value_under
returns-in-Some-value_under c =
    let parts = cut_at 59 c.args.params.now in
    let turn =
    turn_by (λ part. part.now) parts c.loop-param.yielded _ c.loop-param.yielded_by _ _ c.in-Some.param c.in-Some.is c.next.ensures.steps
    (YieldsList-at c.into_iter-param-iterator.ensures.into_iter_gives
    (YieldsList-from_slice_split _ (λ b. b == 59) c.args.params.now c.split-param-items.ensures.rest c.split-param-items.ensures.done c.split-param-items.ensures.closure (λ x b q k. search (rules, tests)))) in
    sym
    (c.loop-param.invariant.2
    ∙ first_here (param_in c.args.name.now) parts (length c.loop-param.yielded) c.in-Some.param.now c.in-Some-value_under.value.now turn (sym c.value_under.ensures ∙ ap option_copied c.in-Some-value_under.is))

pub loop-param-preserved : goal.loop-param-preserved
loop-param-preserved c =
    let parts = cut_at 59 c.args.params.now in
    let turn =
    turn_by (λ part. part.now) parts c.loop-param.yielded _ c.loop-param.yielded_by _ _ c.in-Some.param c.in-Some.is c.next.ensures.steps
    (YieldsList-at c.into_iter-param-iterator.ensures.into_iter_gives
    (YieldsList-from_slice_split _ (λ b. b == 59) c.args.params.now c.split-param-items.ensures.rest c.split-param-items.ensures.done c.split-param-items.ensures.closure (λ x b q k. search (rules, tests)))) in (
      search rules,
      search rules,
      c.loop-param.invariant.2
          ∙ first_passed (param_in c.args.name.now) parts (length c.loop-param.yielded) c.in-Some.param.now turn (sym c.value_under.ensures ∙ ap option_copied c.in_default.is)
          ∙ one_more (param_in c.args.name.now) parts c.loop-param.yielded c.in-Some.param,
    )

pub returns : goal.returns
returns c =
    let parts = cut_at 59 c.args.params.now in
    let end =
    end_by (λ part. part.now) parts c.loop-param.yielded _ c.loop-param.yielded_by _ _ c.in-None.is c.next.ensures.steps
    (YieldsList-at c.into_iter-param-iterator.ensures.into_iter_gives
    (YieldsList-from_slice_split _ (λ b. b == 59) c.args.params.now c.split-param-items.ensures.rest c.split-param-items.ensures.done c.split-param-items.ensures.closure (λ x b q k. search (rules, tests)))) in
    let past : length parts ≤ length c.loop-param.yielded = omega (arith, end.1) in
    sym (c.loop-param.invariant.2 ∙ first_nowhere (param_in c.args.name.now) parts (length c.loop-param.yielded) past)
