use Rattle.std.proofs.Common.{◌^◌, ◌<◌, length, arith}
use Rattle.std.proofs.lemmas.Result.{on_ok_weaker}
use Rattle.tg_dagpb.proofs.Encoding.{link_put}
use Rattle.tg_dagpb.proofs.writing.put_link.Goals as goal

pub returns : goal.returns
returns c =
    let text = c.put_content.new.text in
    let short : length text.items < 2 ^ 64 = omega (arith, text.ok.0, text.ok.1, text.small) in
    on_ok_weaker c.put_content.result (link_put c.table_laws.ensures c.args.link.now c.size_of_link.result _ _ _ c.size_of_link.ensures short c.in_ok-put_head.ensures)
    c.put_content.ensures
