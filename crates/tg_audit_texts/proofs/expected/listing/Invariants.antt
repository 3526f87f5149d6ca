use Rattle.std.proofs.Common.{take, ◌≡◌}
use Rattle.std.specs.Prelude.{map}
use Rattle.tg_audit_texts.proofs.expected.listing.Given as goal
use Rattle.tg_audit_texts.specs.Expected.{named_from}
use Rattle.tg_listing.specs.Listings.{line_of}

-- the lines so far
abbrev pub invariant-loop-number : goal.invariant-loop-number
invariant-loop-number l = l.lines ≡ map line_of (named_from 0 (take l.number l.many))
