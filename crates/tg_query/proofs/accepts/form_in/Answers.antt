use Rattle.std.proofs.Common.{rules, tests, arith, length, sym, ◌≤◌, ◌∙◌, ◌==◌}
use Rattle.std.proofs.lemmas.Iterator.Consumers.{YieldsList-at}
use Rattle.std.proofs.lemmas.Iterator.Splits.{YieldsList-from_slice_split}
use Rattle.tg_query.specs.Cuts.{cut_at}
use Rattle.tg_query.specs.Roads.{end_by, turn_by}
use Rattle.tg_query.specs.Accepts.{form_of_range}
use Rattle.tg_query.proofs.Firsts.{first_here, first_nowhere, first_passed, one_more}
use Rattle.tg_query.proofs.accepts.form_in.Goals as goal

pub returns-in-Some-form_of_range : goal.returns-in-Some-form_of_range
returns-in-Some-form_of_range c =
    let parts = cut_at 44 c.args.value.now in
    let turn =
    turn_by (λ part. part.now) parts c.loop-range.yielded _ c.loop-range.yielded_by _ _ c.in-Some.range c.in-Some.is c.next.ensures.steps
    (YieldsList-at c.into_iter-range-iterator.ensures.into_iter_gives
    (YieldsList-from_slice_split _ (λ b. b == 44) c.args.value.now c.split-range-items.ensures.rest c.split-range-items.ensures.done c.split-range-items.ensures.closure (λ x b q k. search (rules, tests)))) in
    sym
    (c.loop-range.invariant.2
    ∙ first_here form_of_range parts (length c.loop-range.yielded) c.in-Some.range.now c.in-Some-form_of_range.form turn (sym c.form_of_range.ensures ∙ c.in-Some-form_of_range.is))

pub loop-range-preserved : goal.loop-range-preserved
loop-range-preserved c =
    let parts = cut_at 44 c.args.value.now in
    let turn =
    turn_by (λ part. part.now) parts c.loop-range.yielded _ c.loop-range.yielded_by _ _ c.in-Some.range c.in-Some.is c.next.ensures.steps
    (YieldsList-at c.into_iter-range-iterator.ensures.into_iter_gives
    (YieldsList-from_slice_split _ (λ b. b == 44) c.args.value.now c.split-range-items.ensures.rest c.split-range-items.ensures.done c.split-range-items.ensures.closure (λ x b q k. search (rules, tests)))) in (
      search rules,
      search rules,
      c.loop-range.invariant.2
          ∙ first_passed form_of_range parts (length c.loop-range.yielded) c.in-Some.range.now turn (sym c.form_of_range.ensures ∙ c.in_default.is)
          ∙ one_more form_of_range parts c.loop-range.yielded c.in-Some.range,
    )

pub returns : goal.returns
returns c =
    let parts = cut_at 44 c.args.value.now in
    let end =
    end_by (λ part. part.now) parts c.loop-range.yielded _ c.loop-range.yielded_by _ _ c.in-None.is c.next.ensures.steps
    (YieldsList-at c.into_iter-range-iterator.ensures.into_iter_gives
    (YieldsList-from_slice_split _ (λ b. b == 44) c.args.value.now c.split-range-items.ensures.rest c.split-range-items.ensures.done c.split-range-items.ensures.closure (λ x b q k. search (rules, tests)))) in
    let past : length parts ≤ length c.loop-range.yielded = omega (arith, end.1) in
    sym (c.loop-range.invariant.2 ∙ first_nowhere form_of_range parts (length c.loop-range.yielded) past)
