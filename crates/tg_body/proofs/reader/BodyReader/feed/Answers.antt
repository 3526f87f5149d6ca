use Rattle.std.proofs.Common.{ℕ, Ok, ap₂}
use Rattle.tg_body.specs.declared.body.Body.{Body}
use Rattle.tg_body.proofs.Standing.{stands_on}
use Rattle.tg_body.proofs.Determined.{nothing_left}
use Rattle.tg_body.proofs.reader.BodyReader.feed.Goals as goal

pub returns-in-Ok-clause-stands : goal.returns-in-Ok-clause-stands
returns-in-Ok-clause-stands c = λ h s.
    stands_on c.args.self.now c.advance.new.self c.args.piece.now c.in-Ok.told.0 c.in-Ok.told.1 h c.in-Ok.ensures c.in_default.is s

pub returns-in-Ok-clause-whole : goal.returns-in-Ok-clause-whole
returns-in-Ok-clause-whole c = λ h s none text other.
    let old = c.args.self.now in
    let told = c.in-Ok.ensures.whole (nothing_left c.line_laws.ensures old.framing old.stage old.came h.given h.fed (s.holds none) text other) in
    ap₂ (λ (taken : ℕ) (body : Body). Ok (taken, body)) told.0 told.1

pub returns-in-Err-clause-whole : goal.returns-in-Err-clause-whole
returns-in-Err-clause-whole c = λ h s none text other.
    let old = c.args.self.now in
    absurd (c.in-Err.ensures.left (nothing_left c.line_laws.ensures old.framing old.stage old.came h.given h.fed (s.holds none) text other))
