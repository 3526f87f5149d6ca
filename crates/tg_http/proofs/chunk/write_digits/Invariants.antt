use Rattle.std.proofs.Common.{◌≡◌, ◌+◌, ◌*◌, ◌^◌, ◌/◌, ◌≤◌, length, take, drop, map}
use Rattle.std.specs.Int.Digits.{digits_of}
use Rattle.tg_http.specs.Chunks.{hex_digit}
use Rattle.tg_http.proofs.chunk.write_digits.Given as goal

-- the digits of the number without its last `left` ones were written
abbrev pub invariant-loop-left : goal.invariant-loop-left
invariant-loop-left l = record {
  few : l.left ≤ 16;
  room : l.size + l.left ≤ 16;
  size_is : length l.room ≡ 18;
  written : take l.size l.room ≡ map hex_digit (digits_of 16 (l.number / 2 ^ (4 * l.left)));
  rest : drop l.size l.room ≡ drop l.size l.fn.room;
}

abbrev pub decreases-loop-left : goal.decreases-loop-left
decreases-loop-left l = l.left
