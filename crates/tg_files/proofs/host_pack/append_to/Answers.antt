use Rattle.tg_files.proofs.Written.{added_told}
use Rattle.tg_files.proofs.host_pack.append_to.Goals as goal

pub returns : goal.returns
returns g c = record {
  told = λ stands.
      added_told _ _ (g.F.Seek.stream_bytes c.args.file.now) _ _ _ _ c.in_ok-seek.field-0 c.args.bytes.now c.write_all.result (stands c.args.file.now) (stands c.seek.new.self) c.in_ok-seek.ensures.bytes c.in_ok-seek.ensures.moves c.write_all.ensures.bytes;
}
