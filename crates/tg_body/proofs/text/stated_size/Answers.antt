use Rattle.std.proofs.Common.{arith}
use Rattle.httparse.specs.Grammar.{ChunkLine}
use Rattle.httparse.specs.Spans.{IsChunkLineAt}
use Rattle.tg_body.proofs.ChunkLines.{size_found, size_large}
use Rattle.tg_body.proofs.text.stated_size.Goals as goal

pub returns-then-size : goal.returns-then-size
returns-then-size c =
    let found : (l : ChunkLine) × IsChunkLineAt c.args.line.now c.in-Ok-Complete.field-0-0-0 c.in-Ok-Complete.size l = rw c.in-Ok-Complete.field-0-is at c.in-Ok-Complete.ensures.complete in
    λ line fits. size_found c.line_laws.ensures c.args.line.now c.in-Ok-Complete.field-0-0-0 c.in-Ok-Complete.size found.0 line fits found.1 (omega (arith, c.if-size.true))

pub returns-else-size : goal.returns-else-size
returns-else-size c =
    let found : (l : ChunkLine) × IsChunkLineAt c.args.line.now c.in-Ok-Complete.field-0-0-0 c.in-Ok-Complete.size l = rw c.in-Ok-Complete.field-0-is at c.in-Ok-Complete.ensures.complete in
    λ line fits size s. size_large c.args.line.now c.in-Ok-Complete.field-0-0-0 c.in-Ok-Complete.size size found.0 found.1 (omega (arith, c.if-size.false)) s
