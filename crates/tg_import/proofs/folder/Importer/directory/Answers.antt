use Rattle.std.proofs.Common.{[], List, refl}
use Rattle.std.proofs.lemmas.Result.{err_from_is_err_and}
use Rattle.tg_dir.specs.Made.{StopsDirectory}
use Rattle.tg_import.proofs.folder.Importer.directory.Goals as goal
use Rattle.tg_model.specs.Stores.{KeepMeaning, kept_in}
use Rattle.tg_model.specs.declared.kinds.NewEntry.{NewEntry}
use Rattle.tg_model.specs.declared.stores.KeepFault.TheVariants as keep_faults
use Rattle.tg_node_writing.specs.BlockOrder.{entry_cids}
use Rattle.tg_node_writing.specs.BlockOrderLaws.{behind_nothing}
use Rattle.tg_node_writing.specs.KeepingSteps.{same_stops}

-- nothing was kept, and memory is wanted
stops_nothing : {S : Type 0} → (m : KeepMeaning S) → ((s : S) → m.kept s s []) → (k : S) (entries : List NewEntry) → StopsDirectory entries keep_faults.OutOfMemory (kept_in m k k)
stops_nothing m rests k entries = ([], same_stops m rests k, behind_nothing (entry_cids entries))

pub returns-in_err-copy_of-clause-cause : goal.returns-in_err-copy_of-clause-cause
returns-in_err-copy_of-clause-cause g c =
    let p = err_from_is_err_and c.from_residual.result c.from_residual.ensures.1 in
    rw (p.1, p.2) (stops_nothing g.K.Keep.keeper g.met.K.Keep.rests c.args.keep.now c.args.entries.now)

pub returns-in_err-copy_of-2-clause-cause : goal.returns-in_err-copy_of-2-clause-cause
returns-in_err-copy_of-2-clause-cause g c =
    let p = err_from_is_err_and c.from_residual-in_err-copy_of-2.result c.from_residual-in_err-copy_of-2.ensures.1 in
    rw (p.1, p.2) (stops_nothing g.K.Keep.keeper g.met.K.Keep.rests c.args.keep.now c.args.entries.now)

pub returns-in_err-copy_of-clause-made : goal.returns-in_err-copy_of-clause-made
returns-in_err-copy_of-clause-made g c = rw ((err_from_is_err_and c.from_residual.result c.from_residual.ensures.1).1) tt

pub returns-in_err-copy_of-clause-small : goal.returns-in_err-copy_of-clause-small
returns-in_err-copy_of-clause-small g c = rw ((err_from_is_err_and c.from_residual.result c.from_residual.ensures.1).1) tt

pub returns-in_err-copy_of-clause-counted : goal.returns-in_err-copy_of-clause-counted
returns-in_err-copy_of-clause-counted g c = rw ((err_from_is_err_and c.from_residual.result c.from_residual.ensures.1).1) tt

pub returns-in_err-copy_of-clause-options : goal.returns-in_err-copy_of-clause-options
returns-in_err-copy_of-clause-options g c = refl

pub returns-in_err-copy_of-clause-writer : goal.returns-in_err-copy_of-clause-writer
returns-in_err-copy_of-clause-writer g c = refl

pub returns-in_err-copy_of-2-clause-made : goal.returns-in_err-copy_of-2-clause-made
returns-in_err-copy_of-2-clause-made g c = rw ((err_from_is_err_and c.from_residual-in_err-copy_of-2.result c.from_residual-in_err-copy_of-2.ensures.1).1) tt

pub returns-in_err-copy_of-2-clause-small : goal.returns-in_err-copy_of-2-clause-small
returns-in_err-copy_of-2-clause-small g c = rw ((err_from_is_err_and c.from_residual-in_err-copy_of-2.result c.from_residual-in_err-copy_of-2.ensures.1).1) tt

pub returns-in_err-copy_of-2-clause-counted : goal.returns-in_err-copy_of-2-clause-counted
returns-in_err-copy_of-2-clause-counted g c = rw ((err_from_is_err_and c.from_residual-in_err-copy_of-2.result c.from_residual-in_err-copy_of-2.ensures.1).1) tt

pub returns-in_err-copy_of-2-clause-options : goal.returns-in_err-copy_of-2-clause-options
returns-in_err-copy_of-2-clause-options g c = refl

pub returns-in_err-copy_of-2-clause-writer : goal.returns-in_err-copy_of-2-clause-writer
returns-in_err-copy_of-2-clause-writer g c = refl
