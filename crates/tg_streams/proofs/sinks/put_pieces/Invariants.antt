use Rattle.std.proofs.Common.{take}
use Rattle.std.specs.List.{flat_map}
use Rattle.tg_streams.specs.Streams.{OutputQuiet, Put, into}
use Rattle.tg_streams.proofs.sinks.put_pieces.Given as goal

-- the pieces so far went in
abbrev pub invariant-loop-piece : goal.invariant-loop-piece
invariant-loop-piece g l = record {
  put : Put (flat_map (λ piece. piece.now) (take l.piece-index l.pieces)) (into g.S.Sink.sink l.fn.sink l.sink);
  quiet : OutputQuiet (into g.S.Sink.sink l.fn.sink l.sink);
}
