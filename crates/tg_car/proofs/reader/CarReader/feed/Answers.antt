use Rattle.std.proofs.Common.{ap, ◌∙◌, sym, refl}
use Rattle.tg_car.specs.State.{ReaderState}
use Rattle.tg_car.proofs.Feeding.{stands_on, stands_refused}
use Rattle.tg_car.proofs.reader.CarReader.feed.Goals as goal

pub returns-in-Ok-clause-stands : goal.returns-in-Ok-clause-stands
returns-in-Ok-clause-stands c =
    stands_on c.args.self.now c.advance.new.self c.args.piece.now c.in-Ok.found.0 c.in-Ok.found.1 c.in-Ok.ensures
    (sym (ap (λ (s : ReaderState). s.refused) c.self.view_is) ∙ c.in_default.is)

pub returns-in-Err-clause-stands : goal.returns-in-Err-clause-stands
returns-in-Err-clause-stands c =
    stands_refused c.args.self.now c.advance.new.self _ c.args.piece.now c.in-Err.fault c.in-Err.ensures
    (sym (ap (λ (s : ReaderState). s.refused) c.self.view_is) ∙ c.in_default.is) (ap (λ (s : ReaderState). s.limit) c.self-2.view_is) refl
