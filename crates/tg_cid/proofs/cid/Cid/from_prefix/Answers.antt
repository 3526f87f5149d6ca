-- Each arm reads as one of the forms of bytes.
use Rattle.std.proofs.Common.{◌≡◌, ◌<◌, All, get_or, refl, arith}
use Rattle.std.proofs.lemmas.List.Elements.{All-from_get_or}
use borrow.Author.Tests.{ltb-true, ltb-false}
use Rattle.tg_cid.specs.Faults.{IsVersionZero}
use Rattle.tg_cid.proofs.Prefix.{one, lone, zero_version, answers, lone_is, zero_is, not_zero}
use Rattle.tg_cid.proofs.cid.Cid.from_prefix.Goals as goal
use Rattle.tg_cid.proofs.cid.Cid.from_prefix.Goals.{in_default-via-then-bytes-lt1, in_default-via-else-bytes-lt1+then-bytes-lt2+in_default-1, in_default-via-else-bytes-lt1+else-bytes-lt2+in-18+in_default-1, in_default-via-else-bytes-lt1+else-bytes-lt2+in_default-1}

pub returns-in-18 : goal.returns-in-18
returns-in-18 c =
    let bytes = c.args.bytes.now in
    let are_bytes : All (λ b. b < 256) bytes = All-from_get_or (λ b. b < 256) bytes 0 (λ i l. omega (arith, c.type_inv.bytes i)) in
    let first : get_or bytes 0 0 ≡ 0x12 = omega arith in
    let a = answers c.spelling_laws.ensures bytes _ are_bytes (lone (lone_is bytes (omega arith) first) refl) in
    record { found = a.found; only = a.only; cause = a.cause; given = a.given }

pub returns-in-18-2 : goal.returns-in-18-2
returns-in-18-2 c =
    let bytes = c.args.bytes.now in
    let are_bytes : All (λ b. b < 256) bytes = All-from_get_or (λ b. b < 256) bytes 0 (λ i l. omega (arith, c.type_inv.bytes i)) in
    let first : get_or bytes 0 0 ≡ 0x12 = omega arith in
    let second : get_or bytes 1 0 ≡ 0x20 = omega arith in
    let a = answers c.spelling_laws.ensures bytes _ are_bytes (zero_version _ (zero_is bytes (omega arith) first second) c.with_digest.ensures) in
    record { found = a.found; only = a.only; cause = a.cause; given = a.given }

pub returns-in_default : goal.returns-in_default
returns-in_default c =
    let bytes = c.args.bytes.now in
    let are_bytes : All (λ b. b < 256) bytes = All-from_get_or (λ b. b < 256) bytes 0 (λ i l. omega (arith, c.type_inv.bytes i)) in
    let other : IsVersionZero bytes → ⊥ = elim c.in_default.branch [
      | in_default-via-then-bytes-lt1 w ↦ not_zero bytes (λ l e. omega (arith, ltb-true, ltb-false)) (λ l e h. omega (arith, ltb-true, ltb-false))
      | in_default-via-else-bytes-lt1+then-bytes-lt2+in_default-1 w ↦ not_zero bytes (λ l e. omega (arith, ltb-true, ltb-false)) (λ l e h. omega (arith, ltb-true, ltb-false))
      | in_default-via-else-bytes-lt1+else-bytes-lt2+in-18+in_default-1 w ↦ not_zero bytes (λ l e. omega (arith, ltb-true, ltb-false)) (λ l e h. omega (arith, ltb-true, ltb-false))
      | in_default-via-else-bytes-lt1+else-bytes-lt2+in_default-1 w ↦ not_zero bytes (λ l e. omega (arith, ltb-true, ltb-false)) (λ l e h. omega (arith, ltb-true, ltb-false))
    ] in
    let a = answers c.spelling_laws.ensures bytes c.version_one.result are_bytes (one other c.version_one.ensures) in
    record { found = a.found; only = a.only; cause = a.cause; given = a.given }
