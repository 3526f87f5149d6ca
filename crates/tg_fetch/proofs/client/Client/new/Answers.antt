use Rattle.std.proofs.Common.{[], refl}
use Rattle.tg_fetch.proofs.KeptReplies.{heads_stand, open_of}
use Rattle.tg_fetch.proofs.Telling.{tells_in_heads}
use Rattle.tg_fetch.proofs.client.Client.new.Goals as goal

pub returns-clause-fresh : goal.returns-clause-fresh
returns-clause-fresh c = heads_stand c.heads_go_on.ensures c.in_ok-copied_query.field-0 c.args.limits [] [] (open_of c.new.result [] c.new.ensures) refl

pub returns-clause-tells : goal.returns-clause-tells
returns-clause-tells c = tells_in_heads _ c.new.result [] refl
