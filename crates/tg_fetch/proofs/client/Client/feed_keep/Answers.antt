use Rattle.std.proofs.Common.{◌++◌}
use Rattle.tg_fetch.proofs.KeptReplies.{fed_so}
use Rattle.tg_fetch.proofs.Telling.{tells_so}
use Rattle.tg_model.specs.Stores.{kept_in}
use Rattle.tg_streams.specs.Streams.{into}
use Rattle.tg_fetch.proofs.client.Client.feed_keep.Goals as goal

pub returns-clause-kept : goal.returns-clause-kept
returns-clause-kept g c heard written before h stand =
    fed_so c.hear-end.result c.hear-end.new.self _ heard c.args.piece.now before written (into g.S.Sink.sink c.args.out.now c.hear-end.new.out) (kept_in g.K.Keep.keeper c.args.keep.now c.hear-end.new.keep)
    (c.hear-end.ensures.kept heard written before h.is_open stand)

pub returns-clause-tells : goal.returns-clause-tells
returns-clause-tells g c heard written h t = tells_so c.hear-end.new.self _ (heard ++ c.args.piece.now) (c.hear-end.ensures.tells heard written h.is_open t)
