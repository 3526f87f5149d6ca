use Rattle.tg_draws.specs.Draws.{Draws}
use Rattle.tg_draws.proofs.generator.Generator.bytes.Given as goal

-- so many bytes were drawn as the loop has come to
abbrev pub invariant-loop : goal.invariant-loop
invariant-loop l = Draws l.fn.self.state l.counter l.bytes.items l.self.state
