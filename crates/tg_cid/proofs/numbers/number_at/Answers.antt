-- The number's spelling is the front of what begins at the place.
use Rattle.std.proofs.Common.{ℕ, ◌+◌, ◌≤◌, List, length, take, drop, ap, sym, arith}
use Rattle.std.proofs.lemmas.List.{length-drop, length-take-le, take-append-drop, take_rest}
use Rattle.tg_varint.specs.Varint.{VarintSpelling}
use Rattle.tg_cid.specs.Reading.{NumberAt}
use Rattle.tg_cid.proofs.numbers.number_at.Goals as goal

number_from : (bytes : List ℕ) (at number size : ℕ) → at ≤ length bytes → size ≤ length (drop at bytes)
    → VarintSpelling number (take size (drop at bytes)) → NumberAt bytes at number (at + size)
number_from bytes at number size place fits v = record {
  spelling = take size (drop at bytes);
  rest = drop size (drop at bytes);
  whole = sym (take-append-drop size (drop at bytes));
  next_is = sym (ap (λ n. at + n) (length-take-le size (drop at bytes) fits));
  within = omega (arith, length-drop at bytes);
  spelled = v;
}

pub returns-in-Ok : goal.returns-in-Ok
returns-in-Ok c =
    let bytes = c.args.bytes.now in
    let at = c.args.at in
    let h = rw (take_rest bytes at) at c.in-Ok.ensures.found in
    number_from bytes at c.in-Ok.number c.in-Ok.length c.requires h.0 h.1
