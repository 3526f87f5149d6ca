use Rattle.tg_files.proofs.Moves.{read_copied}
use Rattle.tg_files.proofs.reading.read_front.Goals as goal

pub returns-clause-read : goal.returns-clause-read
returns-clause-read c = read_copied _ c.args.buf.now c.args.content.now c.args.offset c.min-at.result c.min-n.result c.copy_from_slice.ensures.after c.min-at.ensures c.min-n.ensures
