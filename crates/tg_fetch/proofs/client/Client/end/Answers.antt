use Rattle.tg_fetch.proofs.Telling.{tells_so}
use Rattle.tg_fetch.proofs.client.Client.end.Goals as goal

pub returns-clause-kept : goal.returns-clause-kept
returns-clause-kept g c heard written before h stand = c.finish-end.ensures.kept heard written before h.is_open stand

pub returns-clause-tells : goal.returns-clause-tells
returns-clause-tells g c heard written h t = tells_so c.finish-end.new.self _ heard (c.finish-end.ensures.tells heard written h.is_open t)
