use Rattle.std.proofs.lemmas.Result.{on_ok_weaker}
use Rattle.tg_dagpb.proofs.Encoding.{content_put}
use Rattle.tg_dagpb.proofs.writing.put_content.Goals as goal

pub returns : goal.returns
returns c =
    on_ok_weaker c.put_tsize.result (content_put c.args.link.now c.as_slice.result.now _ _ _ _ c.as_slice.ensures c.in_ok-put_bytes.ensures c.in_ok-put_optional.ensures)
    c.put_tsize.ensures
