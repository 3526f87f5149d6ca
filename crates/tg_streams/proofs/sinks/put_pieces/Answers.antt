use Rattle.std.proofs.Common.{ℕ, ◌<◌, List, [], length, take, drop, suc, get_or, arith, Bor}
use Rattle.std.specs.List.{flat_map}
use Rattle.tg_streams.specs.Joining.{put_put_front, put_front_more}
use Rattle.tg_streams.proofs.Moves.{pieces_split, on_err}
use Rattle.tg_streams.proofs.sinks.put_pieces.Goals as goal

pub returns-in_err-put_all-clause-err_front : goal.returns-in_err-put_all-clause-err_front
returns-in_err-put_all-clause-err_front g c =
    let text = λ (piece : Bor (List ℕ)). piece.now in
    let none : Bor (List ℕ) = record { ref_ptr = (0, 0); now = [] } in
    let pieces = c.args.pieces.now in
    let i = c.loop-piece.piece-index in
    let here : i < length pieces = omega arith in
    let so_far = c.loop-piece.invariant in
    let front = put_put_front _ g.S.Sink.sink _ _ _ (flat_map text (take i pieces)) (text (get_or pieces i none)) g.met.S.Sink.joins so_far.put so_far.quiet c.in_err-put_all.ensures.err_front in
    on_err c.from_residual.result (rw (pieces_split text pieces i none here) (put_front_more _ g.S.Sink.sink _ _ _ (flat_map text (drop (suc i) pieces)) front))
