use Rattle.tg_pbtable.proofs.Places.{read_front}
use Rattle.tg_pbtable.proofs.cursor.FieldCursor.at.Goals as goal

pub returns-clause-front : goal.returns-clause-front
returns-clause-front g c = λ rules order text fields h. (read_front rules order text fields c.args.self.now h, h.inside)
