use Rattle.std.proofs.Common.{rules, tests, ap, arith, sym, Bool, List, length, not, ℕ, ◌==◌, ◌≡◌, ◌∙◌}
use Rattle.std.proofs.lemmas.Iterator.Consumers.{YieldsList-at, YieldsList-from_filter}
use Rattle.std.proofs.lemmas.Iterator.Splits.{YieldsList-from_slice_split}
use Rattle.std.proofs.lemmas.Result.{err_from_is_err_and}
use Rattle.std.proofs.lemmas.List.{length-map}
use Rattle.percent_encoding.specs.Percent.{percent_decode}
use Rattle.tg_query.specs.Cuts.{parts_at}
use Rattle.tg_query.specs.Roads.{end_by, turn_by}
use Rattle.tg_query.proofs.PathTexts.{all_names, no_name, too_many}
use Rattle.tg_query.proofs.paths.parse_path.Goals as goal

pub returns-then-as_slice-eq-MAX_SEGMENTS : goal.returns-then-as_slice-eq-MAX_SEGMENTS
returns-then-as_slice-eq-MAX_SEGMENTS c =
    let text = c.args.text.now in
    let is_full : List ℕ → Bool = λ part. not (length part == 0) in
    let turn =
    turn_by (λ part. part.now) (parts_at 47 text) c.loop-segment.yielded _ c.loop-segment.yielded_by _ _ c.in-Some.segment c.in-Some.is c.next.ensures.steps
    (YieldsList-at c.into_iter-segment-iterator.ensures.into_iter_gives
    (YieldsList-from_filter _ is_full
    (YieldsList-at c.filter-segments.ensures.source
    (YieldsList-from_slice_split _ (λ b. b == 47) text c.split.ensures.rest c.split.ensures.done c.split.ensures.closure (λ x b q k. search (rules, tests))))
    c.filter-segments.ensures.closure (λ x b q k. search (rules, tests)))) in
    let full : length c.loop-segment.path ≡ 128 = ap length (sym c.as_slice.ensures) ∙ c.if-as_slice-eq-MAX_SEGMENTS.true in
    too_many text (length c.loop-segment.yielded) turn.0
    (omega (arith, full, ap length c.loop-segment.invariant.2, length-map c.loop-segment.yielded (λ part. percent_decode part.now)))

pub returns-in_err-name_of : goal.returns-in_err-name_of
returns-in_err-name_of c =
    let text = c.args.text.now in
    let is_full : List ℕ → Bool = λ part. not (length part == 0) in
    let turn =
    turn_by (λ part. part.now) (parts_at 47 text) c.loop-segment.yielded _ c.loop-segment.yielded_by _ _ c.in-Some.segment c.in-Some.is c.next.ensures.steps
    (YieldsList-at c.into_iter-segment-iterator.ensures.into_iter_gives
    (YieldsList-from_filter _ is_full
    (YieldsList-at c.filter-segments.ensures.source
    (YieldsList-from_slice_split _ (λ b. b == 47) text c.split.ensures.rest c.split.ensures.done c.split.ensures.closure (λ x b q k. search (rules, tests))))
    c.filter-segments.ensures.closure (λ x b q k. search (rules, tests)))) in
    let p = err_from_is_err_and c.from_residual.result c.from_residual.ensures.1 in
    rw (p.1, p.2) (no_name text (length c.loop-segment.yielded) c.in-Some.segment.now c.in_err-name_of.field-0.0 turn c.in_err-name_of.ensures)

pub returns : goal.returns
returns c =
    let text = c.args.text.now in
    let is_full : List ℕ → Bool = λ part. not (length part == 0) in
    let end =
    end_by (λ part. part.now) (parts_at 47 text) c.loop-segment.yielded _ c.loop-segment.yielded_by _ _ c.in-None.is c.next.ensures.steps
    (YieldsList-at c.into_iter-segment-iterator.ensures.into_iter_gives
    (YieldsList-from_filter _ is_full
    (YieldsList-at c.filter-segments.ensures.source
    (YieldsList-from_slice_split _ (λ b. b == 47) text c.split.ensures.rest c.split.ensures.done c.split.ensures.closure (λ x b q k. search (rules, tests))))
    c.filter-segments.ensures.closure (λ x b q k. search (rules, tests)))) in
    all_names text c.loop-segment.path c.loop-segment.yielded end.0 c.loop-segment.invariant.2 c.loop-segment.invariant.3 c.loop-segment.invariant.4
