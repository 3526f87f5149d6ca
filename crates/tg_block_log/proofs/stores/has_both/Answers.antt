use Rattle.std.proofs.Common.{[], ◌∷◌, ◌∙◌}
use Rattle.tg_block_log.proofs.stores.has_both.Goals as goal

pub returns-then-first : goal.returns-then-first
returns-then-first g c = record {
  moved = g.met.B.Blocks.joins _ _ _ (c.args.a.now ∷ []) (c.args.b.now ∷ []) c.in_ok-get.ensures.looked.moved c.in_ok-get-2.ensures.looked.moved;
  stored = c.in_ok-get-2.ensures.looked.stored ∙ c.in_ok-get.ensures.looked.stored;
}

pub returns-else-first : goal.returns-else-first
returns-else-first g c = record {
  moved = g.met.B.Blocks.joins _ _ _ (c.args.a.now ∷ []) (c.args.b.now ∷ []) c.in_ok-get.ensures.looked.moved c.in_ok-get-2.ensures.looked.moved;
  stored = c.in_ok-get-2.ensures.looked.stored ∙ c.in_ok-get.ensures.looked.stored;
}
