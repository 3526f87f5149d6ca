use Rattle.std.proofs.Common.{◌≡◌, ◌≤◌, None, replicate}
use Rattle.tg_swarming.proofs.rounds.Lines.new.Given as goal

-- so many places are there, without a link
abbrev pub invariant-loop : goal.invariant-loop
invariant-loop g l = record {
  links : l.links.items ≡ replicate l.counter None;
  most : l.counter ≤ l.fn.peers;
}
