use Rattle.tg_import.proofs.SoFar.{IsSoFar}
use Rattle.tg_import.proofs.folder.Importer.+folder.Given as goal

abbrev pub decreases-folder : goal.decreases-folder
decreases-folder g l = l.levels

abbrev pub invariant-loop-item : goal.invariant-loop-item
invariant-loop-item g l =
    (goal.iterator-loop-item g).can_next l.item-iterator
    × (goal.iterator-loop-item g).is_finite l.item-iterator
    × IsSoFar g.K.Keep.keeper g.F.Folder.folder l.fn.keep l.keep l.fn.folder l.folder l.fn.self.options l.path l.fn.self.summary
    l.self.options l.self.writer l.self.summary l.yielded l.entries
