use Rattle.tg_pbtable.proofs.Scanning.{nothing_yet, none_in_order, first_unseen}
use Rattle.tg_pbtable.proofs.cursor.FieldCursor.new.Goals as goal

pub returns-clause-read : goal.returns-clause-read
returns-clause-read g c = λ rules order text e. nothing_yet g.row.N rules order text _ (none_in_order order) (first_unseen rules g.row.N e)
