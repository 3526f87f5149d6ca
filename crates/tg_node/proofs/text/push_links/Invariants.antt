use Rattle.std.proofs.Common.{◌≡◌, ℕ, List, ◌++◌, take}
use Rattle.tg_node.specs.NodeTexts.{LinkLines}
use Rattle.tg_node.proofs.text.push_links.Given as goal

-- the lines of the links so far were added
abbrev pub invariant-loop-link : goal.invariant-loop-link
invariant-loop-link l = (lines : List ℕ) × LinkLines (take l.link-index l.links) lines × (l.text ≡ l.fn.text ++ lines)
