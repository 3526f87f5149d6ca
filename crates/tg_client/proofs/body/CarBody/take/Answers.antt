use Rattle.tg_model.specs.Stores.{kept_in}
use Rattle.tg_streams.specs.Streams.{into}
use Rattle.tg_client.proofs.Feeding.{taken_so, taken_stands}
use Rattle.tg_client.proofs.body.CarBody.take.Goals as goal

pub returns-clause-kept : goal.returns-clause-kept
returns-clause-kept g c heard sections written h =
    taken_so c.advance-end.result c.args.self.now c.advance-end.new.self c.fault_in-self.result heard c.args.piece.now sections written
    (into g.S.Sink.sink c.args.out.now c.advance-end.new.out) (kept_in g.K.Keep.keeper c.args.keep.now c.advance-end.new.keep) h.unrefused c.advance-end.ensures.unrefused c.fault_in-self.ensures
    (c.advance-end.ensures.kept heard sections written h)

pub returns-clause-stands : goal.returns-clause-stands
returns-clause-stands g c heard sections written h =
    taken_stands c.advance-end.result c.args.self.now.verifier.left.query c.args.self.now.verifier.limits c.advance-end.new.self.verifier.taken
    (record c.advance-end.new.self { refused = c.fault_in-self.result }) heard c.args.piece.now sections written
    (into g.S.Sink.sink c.args.out.now c.advance-end.new.out) (kept_in g.K.Keep.keeper c.args.keep.now c.advance-end.new.keep)
    (returns-clause-kept g c heard sections written h)
