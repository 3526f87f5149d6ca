use Rattle.std.proofs.Common.{◌≡◌, ◌^◌, ◌<◌, ◌≤◌, take}
use Rattle.tg_varint.specs.Varint.{number_of, AllGoOn}
use Rattle.tg_varint.proofs.read.Given as goal

abbrev pub invariant-loop-at : goal.invariant-loop-at
invariant-loop-at l = record {
  place : l.at ≤ 8;
  weight : l.weight ≡ 128 ^ l.at;
  heavy : l.weight ≤ 2 ^ 56;
  number : l.number ≡ number_of (take l.at l.bytes);
  below : l.number < l.weight;
  goes_on : AllGoOn (take l.at l.bytes);
}
