use Rattle.std.proofs.Common.{◌≡◌, ◌≤◌, ◌+◌, ◌-◌, ◌^◌, min}
use Rattle.tg_store.specs.Packs.{bytes_at}
use Rattle.tg_store.proofs.pack_store.PackStore.bytes.Given as goal

-- what was added so far, and what is left
abbrev pub invariant-loop-place : goal.invariant-loop-place
invariant-loop-place g l = record {
  small : l.bytes ≤ 2 ^ 64 - 1;
  sum : min (l.bytes + bytes_at l.place-iterator) (2 ^ 64 - 1) ≡ min (bytes_at l.fn.self.places) (2 ^ 64 - 1);
}
