use Rattle.std.proofs.lemmas.Result.{on_ok_weaker}
use Rattle.tg_pbtable.specs.PutLaws.{put_both}
use Rattle.tg_pbtable.proofs.Emitting.{head_both}
use Rattle.tg_pbtable.proofs.writing.put_head.Goals as goal

pub returns : goal.returns
returns c = on_ok_weaker c.put_varint.result (put_both _ _ _ (head_both c.args.number c.args.size) _ _ _ c.in_ok-put_key.ensures) c.put_varint.ensures
