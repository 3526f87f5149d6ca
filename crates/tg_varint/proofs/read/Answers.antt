-- Each end of the reading is one of four, and the invariant goes on from a byte to the next.
use Rattle.std.proofs.Common.{◌≡◌, ◌+◌, ◌*◌, ◌^◌, ◌<◌, ◌≤◌, All, take, get_or, arith}
use Rattle.std.proofs.lemmas.List.{take_all}
use Rattle.std.proofs.lemmas.List.Elements.{All-from_get_or, All-more}
use Rattle.tg_varint.specs.Varint.{AllGoOn, PassesNine}
use Rattle.tg_varint.proofs.Groups.{number_more, weight_more, weight_bound, below_more_weight}
use Rattle.tg_varint.proofs.Reading.{answers_ok, answers_zero, answers_long, answers_short}
use Rattle.tg_varint.proofs.read.Goals as goal
use Rattle.tg_varint.proofs.read.Goals.{else-byte-eq0-via-then-byte-eq0+else-at-gt0, else-byte-eq0-via-else-byte-eq0}

pub loop-at-preserved : goal.loop-at-preserved
loop-at-preserved c =
    let at = c.loop-at.at in
    let bytes = c.args.bytes.now in
    let v = c.loop-at.invariant in
    let next : at + 1 ≤ 8 = omega arith in
    let heavier : c.loop-at.weight * 128 ≡ 128 ^ (at + 1) = weight_more at c.loop-at.weight v.weight in
    record {
      place = next;
      weight = heavier;
      heavy = weight_bound (at + 1) _ next heavier;
      number = number_more bytes at _ _ _ c.loop-at-test.true v.number v.weight c.from.ensures;
      below = below_more_weight c.loop-at.number c.from.result c.loop-at.weight v.below (omega (arith, c.from.ensures));
      goes_on = All-more (λ n. 128 ≤ n) bytes at 0 c.loop-at-test.true v.goes_on c.if-byte-lt128.false;
    }

pub returns-then-at-gt0 : goal.returns-then-at-gt0
returns-then-at-gt0 c =
    let v = c.loop-at.invariant in
    let a = answers_zero c.args.bytes.now c.loop-at.at c.loop-at-test.true v.place v.goes_on c.if-byte-eq0.true c.if-at-gt0.true in
    record { found = a.found; only = a.only; short = a.short; too_long = a.too_long; not_shortest = a.not_shortest }

pub returns-then-byte-lt128 : goal.returns-then-byte-lt128
returns-then-byte-lt128 c =
    let v = c.loop-at.invariant in
    let bytes = c.args.bytes.now in
    let at = c.loop-at.at in
    let are_bytes : All (λ b. b < 256) bytes = All-from_get_or (λ b. b < 256) bytes 0 (λ i l. omega (arith, c.type_inv.bytes i)) in
    let shortest : 0 < at → 0 < get_or bytes at 0 =
    λ some. elim c.else-byte-eq0.branch [
      | else-byte-eq0-via-then-byte-eq0+else-at-gt0 w ↦ omega arith
      | else-byte-eq0-via-else-byte-eq0 w ↦ omega arith
    ] in
    let a = answers_ok bytes at _ are_bytes c.loop-at-test.true v.place v.goes_on c.if-byte-lt128.true shortest
    (number_more bytes at _ _ _ c.loop-at-test.true v.number v.weight c.from.ensures) in
    record { found = a.found; only = a.only; short = a.short; too_long = a.too_long; not_shortest = a.not_shortest }

pub returns-then-at-eq-LAST : goal.returns-then-at-eq-LAST
returns-then-at-eq-LAST c =
    let v = c.loop-at.invariant in
    let bytes = c.args.bytes.now in
    let at = c.loop-at.at in
    let ninth : at ≡ 8 = c.if-at-eq-LAST.true in
    let more : AllGoOn (take (at + 1) bytes) = All-more (λ n. 128 ≤ n) bytes at 0 c.loop-at-test.true v.goes_on c.if-byte-lt128.false in
    let past : PassesNine bytes = record { enough = omega arith; goes_on = let nine : at + 1 ≡ 9 = omega arith in rw (← nine) more } in
    let a = answers_long bytes past in
    record { found = a.found; only = a.only; short = a.short; too_long = a.too_long; not_shortest = a.not_shortest }

pub returns : goal.returns
returns c =
    let v = c.loop-at.invariant in
    let bytes = c.args.bytes.now in
    let at = c.loop-at.at in
    let whole : take at bytes ≡ bytes = take_all at bytes c.loop-at-test.false in
    let a = answers_short bytes (record { goes_on = rw whole at v.goes_on; fewer = omega arith }) in
    record { found = a.found; only = a.only; short = a.short; too_long = a.too_long; not_shortest = a.not_shortest }
