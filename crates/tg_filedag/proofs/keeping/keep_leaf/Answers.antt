use Rattle.std.proofs.lemmas.Result.{IfOk-weaker}
use Rattle.tg_filedag.proofs.Calls.{leaf_kept}
use Rattle.tg_filedag.proofs.keeping.keep_leaf.Goals as goal
use Rattle.tg_model.specs.Stores.{kept_in}

pub returns-clause-made : goal.returns-clause-made
returns-clause-made g c =
    IfOk-weaker c.keep_block.result _ _ (λ made h. leaf_kept c.args.chunk.now made (kept_in g.K.Keep.keeper c.args.keep.now c.keep_block.new.keep) h) c.keep_block.ensures.made
