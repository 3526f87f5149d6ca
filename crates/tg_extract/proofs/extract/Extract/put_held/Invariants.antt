use Rattle.std.proofs.Common.{None, length, ◌-◌, ◌≡◌, ◌≤◌, take}
use Rattle.tg_extract.specs.Extracts.{Extracts, IsRead}
use Rattle.tg_extract.proofs.extract.Extract.put_held.Given as goal

abbrev pub invariant-loop-at : goal.invariant-loop-at
invariant-loop-at g l = record {
  within : l.at ≤ length l.bytes;
  put : Extracts g.T.NewTree.new_tree l.fn.self l.self (take l.at l.bytes);
  quiet : l.self.faults ≡ l.fn.self.faults;
  going : l.self.refused ≡ None;
  read : IsRead l.self.stage;
  same : l.bytes ≡ l.fn.bytes;
}

abbrev pub decreases-loop-at : goal.decreases-loop-at
decreases-loop-at g l = length l.bytes - l.at
