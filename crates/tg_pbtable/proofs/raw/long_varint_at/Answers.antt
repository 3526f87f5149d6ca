use Rattle.std.proofs.Common.{◌≡◌, ℕ, ◌+◌, ◌*◌, ◌%◌, ◌^◌, ◌<◌, ◌≤◌, get_or, take, refl, sym, subst, inl, inr, arith, rules}
use Rattle.std.proofs.lemmas.List.Elements.{All-from_get_or}
use Rattle.tg_varint.specs.GroupLaws.{zero_at}
use Rattle.tg_varint.specs.Varint.{number_of}
use Rattle.tg_pbtable.proofs.Varints.{bad_at, sum_fits, sum_is, spelled_at, go_on}
use Rattle.tg_pbtable.proofs.raw.long_varint_at.Goals as goal
use Rattle.tg_pbtable.proofs.raw.long_varint_at.Goals.{else-i-eq9-via-then-i-eq9+else-byte-ne1, else-i-eq9-via-else-i-eq9, else-byte-eq0-via-then-byte-eq0+else-i-gt0, else-byte-eq0-via-else-byte-eq0}

pub returns-then-byte-ne1 : goal.returns-then-byte-ne1
returns-then-byte-ne1 c =
    bad_at c.args.bytes.now c.loop-i.i (get_or c.args.bytes.now c.loop-i.i 0) c.if-i-eq9.true (omega arith)
    (All-from_get_or (λ (b : ℕ). b < 256) c.args.bytes.now 0 (λ k h. search (rules, c.type_inv.bytes k)))
    c.loop-i.invariant.1 refl c.if-byte-ne1.true

pub overflow_add-number : goal.overflow_add-number
overflow_add-number c =
    let byte = get_or c.args.bytes.now c.loop-i.i 0 in
    let is : c.from.result ≡ byte % 128 = omega arith in
    let last : c.loop-i.i ≡ 9 → byte ≡ 1 = λ e. elim c.else-i-eq9.branch [ else-i-eq9-via-then-i-eq9+else-byte-ne1 w ↦ omega arith | else-i-eq9-via-else-i-eq9 w ↦ omega arith ] in
    let fits = sum_fits c.args.bytes.now c.loop-i.i byte c.loop-i.number (omega arith) c.loop-i.invariant.0 last c.loop-i.invariant.2 in
    let sum = subst (λ (n : ℕ). c.loop-i.number + n * 2 ^ (7 * c.loop-i.i) % 2 ^ 64 < 2 ^ 64) (sym is) fits in
    omega (arith, sum)

pub returns-then-i-gt0 : goal.returns-then-i-gt0
returns-then-i-gt0 c =
    inr (inl (zero_at 10 c.args.bytes.now c.loop-i.i (omega arith) c.loop-i.invariant.0 c.loop-i.invariant.1 c.if-byte-eq0.true c.if-i-gt0.true))

pub returns-then-byte-lt128 : goal.returns-then-byte-lt128
returns-then-byte-lt128 c =
    let byte = get_or c.args.bytes.now c.loop-i.i 0 in
    let is : c.from.result ≡ byte % 128 = omega arith in
    let last : c.loop-i.i ≡ 9 → byte ≡ 1 = λ e. elim c.else-i-eq9.branch [ else-i-eq9-via-then-i-eq9+else-byte-ne1 w ↦ omega arith | else-i-eq9-via-else-i-eq9 w ↦ omega arith ] in
    let short : 0 < c.loop-i.i → 0 < byte = λ p. elim c.else-byte-eq0.branch [ else-byte-eq0-via-then-byte-eq0+else-i-gt0 w ↦ omega arith | else-byte-eq0-via-else-byte-eq0 w ↦ omega arith ] in
    rw is (spelled_at c.args.bytes.now c.loop-i.i byte c.loop-i.number (omega arith)
    (All-from_get_or (λ (b : ℕ). b < 256) c.args.bytes.now 0 (λ k h. search (rules, c.type_inv.bytes k)))
    c.loop-i.invariant.1 c.loop-i.invariant.0 last c.if-byte-lt128.true short c.loop-i.invariant.2 refl)

pub loop-i-preserved : goal.loop-i-preserved
loop-i-preserved c =
    let byte = get_or c.args.bytes.now c.loop-i.i 0 in
    let is : c.from.result ≡ byte % 128 = omega arith in
    let last : c.loop-i.i ≡ 9 → byte ≡ 1 = λ e. elim c.else-i-eq9.branch [ else-i-eq9-via-then-i-eq9+else-byte-ne1 w ↦ omega arith | else-i-eq9-via-else-i-eq9 w ↦ omega arith ] in
    let high : 128 ≤ byte = omega arith in
    let few : c.loop-i.i + 1 < 10 = elim c.else-i-eq9.branch [ else-i-eq9-via-then-i-eq9+else-byte-ne1 w ↦ omega arith | else-i-eq9-via-else-i-eq9 w ↦ omega arith ] in (
      few,
      go_on c.args.bytes.now c.loop-i.i byte (omega arith) c.loop-i.invariant.1 high refl,
      subst (λ (n : ℕ). c.loop-i.number + n * 2 ^ (7 * c.loop-i.i) % 2 ^ 64 ≡ number_of (take (c.loop-i.i + 1) c.args.bytes.now)) (sym is) (sum_is c.args.bytes.now c.loop-i.i byte c.loop-i.number (omega arith) c.loop-i.invariant.0 last c.loop-i.invariant.2 refl),
    )
