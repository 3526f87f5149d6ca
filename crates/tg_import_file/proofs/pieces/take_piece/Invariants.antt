use Rattle.std.proofs.Common.{length}
use Rattle.tg_import_file.proofs.PieceSteps.{Taking}
use Rattle.tg_import_file.proofs.pieces.take_piece.Given as goal

abbrev pub invariant-loop-rest : goal.invariant-loop-rest
invariant-loop-rest g l = Taking g.K.Keep.keeper l.fn.keep l.keep l.fn.chunker l.fn.balanced l.chunker l.balanced l.piece l.rest

abbrev pub decreases-loop-rest : goal.decreases-loop-rest
decreases-loop-rest g l = length l.rest
