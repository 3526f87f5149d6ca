use Rattle.tg_files.proofs.host_folder.entries_of.Goals as goal

pub loop-entry-preserved : goal.loop-entry-preserved
loop-entry-preserved g c =
    (c.in_ok-add.ensures.others c.loop-entry.invariant.0, c.in_ok-add.ensures.entries c.loop-entry.invariant.1)
