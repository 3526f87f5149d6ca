use Rattle.std.proofs.Common.{◌≡◌, ℕ, ◌+◌, ◌++◌, length, take, drop, get_or, Option, sym, subst, arith}
use Rattle.tg_varint.specs.GroupLaws.{parted_at}
use Rattle.tg_car.specs.Fronts.{IsInHeader}
use Rattle.tg_car.specs.HeaderState.{FollowsHeader}
use Rattle.tg_car.specs.Steps.{TakesHeader}
use Rattle.tg_car.specs.declared.reader.Followed.{Followed}
use Rattle.tg_car.proofs.Parts.{one_more}
use Rattle.tg_car.proofs.reader.follow.Goals as goal

pub returns-in_err-state-clause-bytes : goal.returns-in_err-state-clause-bytes
returns-in_err-state-clause-bytes c = λ bytes f i.
    let inv = c.loop-at.invariant bytes f i in
    let piece = c.args.piece.now in
    let at = c.loop-at.at in
    subst (λ (r : Option Followed). TakesHeader bytes piece r) (sym c.from_residual.ensures) (record {
      front = take at piece;
      last = get_or piece at 0;
      more = drop (at + 1) piece;
      whole = parted_at piece at c.loop-at-test.true;
      went_on = inv.1;
      none = c.in_err-state.ensures (bytes ++ take at piece) inv.0;
    })

pub returns-then-is_whole-clause-bytes : goal.returns-then-is_whole-clause-bytes
returns-then-is_whole-clause-bytes c = λ bytes f i.
    let inv = c.loop-at.invariant bytes f i in
    let piece = c.args.piece.now in
    let at = c.loop-at.at in
    let next : FollowsHeader c.in_ok-state.state (bytes ++ take (at + 1) piece) =
    subst (FollowsHeader c.in_ok-state.state) (one_more bytes piece at c.loop-at-test.true) (c.in_ok-state.ensures (bytes ++ take at piece) inv.0) in
    (next, c.if-is_whole.ensures (bytes ++ take (at + 1) piece) next)

pub loop-at-preserved : goal.loop-at-preserved
loop-at-preserved c = λ bytes f i.
    let inv = c.loop-at.invariant bytes f i in
    let piece = c.args.piece.now in
    let at = c.loop-at.at in
    let next : FollowsHeader c.in_ok-state.state (bytes ++ take (at + 1) piece) =
    subst (FollowsHeader c.in_ok-state.state) (one_more bytes piece at c.loop-at-test.true) (c.in_ok-state.ensures (bytes ++ take at piece) inv.0) in
    (next, c.if-is_whole.ensures (bytes ++ take (at + 1) piece) next)

pub returns-clause-bytes : goal.returns-clause-bytes
returns-clause-bytes c = λ bytes f i.
    let inv = c.loop-at.invariant bytes f i in
    let all : c.loop-at.at ≡ length c.args.piece.now = omega arith in
    (subst (λ (n : ℕ). FollowsHeader c.loop-at.state (bytes ++ take n c.args.piece.now)) all inv.0, subst (λ (n : ℕ). IsInHeader (bytes ++ take n c.args.piece.now)) all inv.1)
