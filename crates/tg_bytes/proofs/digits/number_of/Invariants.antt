use Rattle.std.proofs.Common.{◌≡◌, ◌^◌, ◌<◌, take}
use Rattle.std.specs.Str.Parse.{digits_value, AllDigits}
use Rattle.tg_bytes.proofs.digits.number_of.Given as goal

abbrev pub invariant-loop-byte : goal.invariant-loop-byte
invariant-loop-byte l = (l.number ≡ digits_value 10 (take l.byte-index l.text)) × AllDigits 10 (take l.byte-index l.text) × (l.number < 10 ^ l.byte-index)
