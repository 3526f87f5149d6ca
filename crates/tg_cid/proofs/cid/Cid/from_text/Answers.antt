-- Each exit after the letter, by what the base 32 and the bytes answered.
use Rattle.std.proofs.Common.{◌≡◌, ℕ, ◌-◌, List, ◌∷◌, Err, length, take, drop, get_or, ap, sym, ◌∙◌, subst, arith}
use borrow.Author.Tests.{ltb-true, ltb-false}
use Rattle.std.proofs.lemmas.Result.{err_from_is_err_and}
use Rattle.tg_base32.specs.Base32.{Base32Text}
use Rattle.tg_cid.proofs.Texts.{TextAnswers, no_base, as_zero, by_bytes, begins_with, begins_rest, begins_other}
use Rattle.tg_cid.proofs.cid.Cid.from_text.Goals as goal
use Rattle.tg_cid.proofs.cid.Cid.from_text.Goals.{in_default-bytes-via-then-bytes-lt1, in_default-bytes-via-else-bytes-lt1+in_default-1}

pub returns-in_err-bytes : goal.returns-in_err-bytes
returns-in_err-bytes c =
    let text = c.args.text.now in
    let first : get_or text 0 0 ≡ 98 = omega arith in
    let e = begins_rest text 98 c.in-98.len_at_least first in
    let p = err_from_is_err_and c.from_residual.result c.from_residual.ensures.1 in
    let w = no_base text _ c.in_err-bytes.field-0.0 e c.in_err-bytes.ensures.only (λ same. c.in_err-bytes.ensures.memory (ap Err same)) in
    let a = subst (TextAnswers text) (sym (p.1 ∙ ap Err p.2)) w in
    record { found = a.found; only = a.only; cause = a.cause; given = a.given; memory = a.memory }

pub returns-in-18 : goal.returns-in-18
returns-in-18 c =
    let text = c.args.text.now in
    let letters = take (length text - 1) (drop 1 text) in
    let bytes = c.as_slice-bytes.result.now in
    let first : get_or text 0 0 ≡ 98 = omega arith in
    let here : get_or bytes 0 0 ≡ 0x12 = omega arith in
    let spelled = subst (Base32Text letters) (sym c.as_slice-bytes.ensures.value) c.in_ok-bytes.ensures.found in
    let a = as_zero c.spelling_laws.ensures c.text_laws.ensures text letters bytes (drop 1 bytes) (begins_rest text 98 c.in-98.len_at_least first) spelled
    (begins_with bytes 0x12 c.in-18.len_at_least here) in
    record { found = a.found; only = a.only; cause = a.cause; given = a.given; memory = a.memory }

pub returns : goal.returns
returns c =
    let text = c.args.text.now in
    let letters = take (length text - 1) (drop 1 text) in
    let bytes = c.as_slice-bytes.result.now in
    let first : get_or text 0 0 ≡ 98 = omega arith in
    let spelled = subst (Base32Text letters) (sym c.as_slice-bytes.ensures.value) c.in_ok-bytes.ensures.found in
    let other : (rest : List ℕ) → bytes ≡ 0x12 ∷ rest → ⊥ = elim c.in_default-bytes.branch [
      | in_default-bytes-via-then-bytes-lt1 w ↦ begins_other bytes 0x12 (λ l h. omega (arith, ltb-true, ltb-false))
      | in_default-bytes-via-else-bytes-lt1+in_default-1 w ↦ begins_other bytes 0x12 (λ l h. omega (arith, ltb-true, ltb-false))
    ] in
    let e = c.from_bytes.ensures in
    let a = by_bytes c.text_laws.ensures text letters bytes c.from_bytes.result (begins_rest text 98 c.in-98.len_at_least first) spelled other
    (record { found = e.found; only = e.only; cause = e.cause; given = e.given }) in
    record { found = a.found; only = a.only; cause = a.cause; given = a.given; memory = a.memory }
