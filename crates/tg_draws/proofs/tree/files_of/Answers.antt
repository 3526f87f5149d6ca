use Rattle.std.proofs.Common.{length, sym, ◌∙◌}
use Rattle.tg_draws.proofs.Trees.{whole_at_end}
use Rattle.tg_draws.proofs.tree.files_of.Goals as goal

pub returns : goal.returns
returns c =
    let l = c.loop-bytes.entries.items in
    whole_at_end (length l) _ c.args.many l (sym c.loop-bytes.invariant.2 ∙ c.in-None.ensures.steps.0) c.loop-bytes.invariant.4
