use Rattle.std.proofs.lemmas.Result.{err_from_is_err_and}
use Rattle.tg_node_writing.specs.KeepingSteps.{call_stops}
use Rattle.tg_node_writing.proofs.keeping.keep_block.Goals as goal
use Rattle.tg_model.specs.Stores.{kept_in}

pub returns-in_err-keep-clause-stops : goal.returns-in_err-keep-clause-stops
returns-in_err-keep-clause-stops g c =
    let p = err_from_is_err_and c.from_residual.result c.from_residual.ensures.1 in
    rw (p.1, p.2)
    (call_stops (kept_in g.K.Keep.keeper c.args.keep.now c.keep.new.self) c.in_err-keep.field-0.0 c.in_err-keep.ensures.failed c.in_err-keep.ensures.memory c.in_err-keep.ensures.err_kept)
