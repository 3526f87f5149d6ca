use Rattle.std.proofs.Common.{◌++◌, length, ap, ◌∙◌}
use Rattle.std.proofs.lemmas.List.{drop-replicate}
use Rattle.tg_cid.proofs.room.in_room.Goals as goal

pub returns : goal.returns
returns c = c.fill_front.ensures ∙ ap (λ rest. c.args.digest.now ++ rest) (drop-replicate (length c.args.digest.now) 128 0)
