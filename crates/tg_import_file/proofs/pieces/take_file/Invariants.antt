use Rattle.std.proofs.Common.{◌-◌}
use Rattle.tg_import_file.proofs.Reading.{Reading}
use Rattle.tg_import_file.proofs.pieces.take_file.Given as goal
use Rattle.tg_import_file.specs.Files.{max_file_len}

abbrev pub invariant-loop-n : goal.invariant-loop-n
invariant-loop-n g l =
    Reading g.F.Folder.folder g.K.Keep.keeper l.fn.folder l.folder l.fn.keep l.keep l.path l.fn.chunker l.fn.balanced l.chunker l.balanced l.offset

abbrev pub decreases-loop-n : goal.decreases-loop-n
decreases-loop-n g l = max_file_len - l.offset
