use Rattle.std.proofs.Common.{take}
use Rattle.tg_listing.specs.Listings.{PutBut, lines_text}
use Rattle.tg_streams.specs.Streams.{into}
use Rattle.tg_listing.proofs.listing.put_lines.Given as goal

-- the lines so far were put but for those that are gathered
abbrev pub invariant-loop-line : goal.invariant-loop-line
invariant-loop-line g l = PutBut l.gathered (lines_text (take l.line-index l.lines)) (into g.S.Sink.sink l.fn.out l.out)
