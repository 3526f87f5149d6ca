use Rattle.std.proofs.lemmas.Result.{on_ok_weaker}
use Rattle.tg_pbtable.specs.PutLaws.{put_both}
use Rattle.tg_pbtable.proofs.Emitting.{number_both}
use Rattle.tg_pbtable.proofs.writing.put_number.Goals as goal

pub returns : goal.returns
returns c = on_ok_weaker c.put_varint.result (put_both _ _ _ (number_both c.args.number c.args.value) _ _ _ c.in_ok-put_key.ensures) c.put_varint.ensures
