use Rattle.tg_files.proofs.Sought.{read_told}
use Rattle.tg_files.proofs.reading.read_from.Goals as goal

pub returns-clause-told : goal.returns-clause-told
returns-clause-told g c = λ stands.
    read_told _ _ (g.F.Seek.stream_bytes c.args.file.now) _ _ _ _ c.args.offset c.in_ok-seek.field-0 c.read_on.result c.read_on.new.buf (stands c.args.file.now) (stands c.seek.new.self) c.in_ok-seek.ensures.bytes c.in_ok-seek.ensures.moves c.read_on.ensures.within c.read_on.ensures.bytes
