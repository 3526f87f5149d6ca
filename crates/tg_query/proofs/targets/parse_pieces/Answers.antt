use Rattle.std.proofs.Common.{rules, tests, arith, length, ◌≤◌, ◌∙◌, ◌==◌}
use Rattle.std.proofs.lemmas.Iterator.Consumers.{YieldsList-at}
use Rattle.std.proofs.lemmas.Iterator.Splits.{YieldsList-from_slice_split}
use Rattle.std.proofs.lemmas.Result.{err_from_is_err_and}
use Rattle.tg_query.specs.Cuts.{cut_at}
use Rattle.tg_query.specs.Roads.{end_by, turn_by}
use Rattle.tg_query.specs.Targets.{nothing, with_pieces}
use Rattle.tg_query.proofs.Pieces.{one_more, piece_refused, piece_taken, pieces_end}
use Rattle.tg_query.proofs.targets.parse_pieces.Goals as goal

pub returns-in_err-asked : goal.returns-in_err-asked
returns-in_err-asked c =
    let parts = cut_at 38 c.args.query.now in
    let turn =
    turn_by (λ part. part.now) parts c.loop-piece.yielded _ c.loop-piece.yielded_by _ _ c.in-Some.piece c.in-Some.is c.next.ensures.steps
    (YieldsList-at c.into_iter-piece-iterator.ensures.into_iter_gives
    (YieldsList-from_slice_split _ (λ b. b == 38) c.args.query.now c.split-piece-items.ensures.rest c.split-piece-items.ensures.done c.split-piece-items.ensures.closure (λ x b q k. search (rules, tests)))) in
    let p = err_from_is_err_and c.from_residual.result c.from_residual.ensures.1 in
    rw (p.1, p.2)
    (piece_refused parts (length c.loop-piece.yielded) c.in-Some.piece.now c.loop-piece.asked c.in_err-asked.field-0.0 (with_pieces nothing parts) turn c.loop-piece.invariant.2 c.in_err-asked.ensures)

pub loop-piece-preserved : goal.loop-piece-preserved
loop-piece-preserved c =
    let parts = cut_at 38 c.args.query.now in
    let turn =
    turn_by (λ part. part.now) parts c.loop-piece.yielded _ c.loop-piece.yielded_by _ _ c.in-Some.piece c.in-Some.is c.next.ensures.steps
    (YieldsList-at c.into_iter-piece-iterator.ensures.into_iter_gives
    (YieldsList-from_slice_split _ (λ b. b == 38) c.args.query.now c.split-piece-items.ensures.rest c.split-piece-items.ensures.done c.split-piece-items.ensures.closure (λ x b q k. search (rules, tests)))) in (
      search rules,
      search rules,
      c.loop-piece.invariant.2
          ∙ piece_taken parts (length c.loop-piece.yielded) c.in-Some.piece.now c.loop-piece.asked c.in_ok-asked.asked turn c.in_ok-asked.ensures
          ∙ one_more parts c.in_ok-asked.asked c.loop-piece.yielded c.in-Some.piece,
    )

pub returns : goal.returns
returns c =
    let parts = cut_at 38 c.args.query.now in
    let end =
    end_by (λ part. part.now) parts c.loop-piece.yielded _ c.loop-piece.yielded_by _ _ c.in-None.is c.next.ensures.steps
    (YieldsList-at c.into_iter-piece-iterator.ensures.into_iter_gives
    (YieldsList-from_slice_split _ (λ b. b == 38) c.args.query.now c.split-piece-items.ensures.rest c.split-piece-items.ensures.done c.split-piece-items.ensures.closure (λ x b q k. search (rules, tests)))) in
    let past : length parts ≤ length c.loop-piece.yielded = omega (arith, end.1) in
    pieces_end parts (length c.loop-piece.yielded) c.loop-piece.asked (with_pieces nothing parts) past c.loop-piece.invariant.2
