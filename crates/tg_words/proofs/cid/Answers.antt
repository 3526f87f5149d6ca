use Rattle.std.proofs.Common.{Ok, Err, Some, None, sym, ap, ◌∙◌}
use Rattle.std.proofs.lemmas.Result.{err_from_is_err_and}
use Rattle.tg_words.specs.Operands.{texts_of}
use Rattle.tg_words.proofs.Lines.{cid_hex_answer, cid_memory, cid_refused, cid_text_answer, hex_is, no_digits, no_texts, some_texts}
use Rattle.tg_words.proofs.cid.Goals as goal

pub returns-in_err-found : goal.returns-in_err-found
returns-in_err-found c =
    let p = err_from_is_err_and c.from_residual.result c.from_residual.ensures.1 in
    rw (p.1, p.2) (cid_memory _ _ (λ texts options s. c.in_err-found.ensures.only texts options s))

pub returns-in_err-text-in-None : goal.returns-in_err-text-in-None
returns-in_err-text-in-None c =
    let p = err_from_is_err_and c.from_residual-in_err-text-in-None.result c.from_residual-in_err-text-in-None.ensures.1 in
    let options = hex_is _ _ _ _ _ None c.in_ok-found.ensures.found c.in-None.is c.value_of.ensures c.as_slice.ensures.value in
    let none = rw c.in_err-text-in-None.ensures.ok_part at c.one_word.ensures.none in
    rw (p.1, p.2)
    (cid_refused _ _ _ _ (record { spelled = c.in_ok-found.ensures.found; only = c.in_ok-found.ensures.only })
    (λ text is also. none text (ap texts_of c.as_slice-in-None.ensures.value ∙ is)) (λ digits is also. no_digits digits (sym options ∙ also)))

pub returns-in_err-cid_of_text-in-None : goal.returns-in_err-cid_of_text-in-None
returns-in_err-cid_of_text-in-None c =
    let p = err_from_is_err_and c.from_residual-in_err-cid_of_text-in-None.result c.from_residual-in_err-cid_of_text-in-None.ensures.1 in
    let is = rw c.in_ok-text-in-None.ensures.ok_part at c.one_word.ensures.some in
    rw (p.1, p.2)
    (cid_text_answer _ _ _ c.in_ok-text-in-None.text.now (Err c.in_err-cid_of_text-in-None.field-0.0) (record { spelled = c.in_ok-found.ensures.found; only = c.in_ok-found.ensures.only })
    (ap texts_of (sym c.as_slice-in-None.ensures.value) ∙ is)
    (hex_is _ _ _ _ _ None c.in_ok-found.ensures.found c.in-None.is c.value_of.ensures c.as_slice.ensures.value)
    (record { found = tt; only = c.in_err-cid_of_text-in-None.ensures.only }))

pub returns-in-None : goal.returns-in-None
returns-in-None c =
    let is = rw c.in_ok-text-in-None.ensures.ok_part at c.one_word.ensures.some in
    cid_text_answer _ _ _ c.in_ok-text-in-None.text.now (Ok c.in_ok-cid_of_text-in-None.field-0) (record { spelled = c.in_ok-found.ensures.found; only = c.in_ok-found.ensures.only })
    (ap texts_of (sym c.as_slice-in-None.ensures.value) ∙ is)
    (hex_is _ _ _ _ _ None c.in_ok-found.ensures.found c.in-None.is c.value_of.ensures c.as_slice.ensures.value)
    (record { found = c.in_ok-cid_of_text-in-None.ensures.found; only = c.in_ok-cid_of_text-in-None.ensures.only })

pub returns-in_err-cid_of_hex-in-Some : goal.returns-in_err-cid_of_hex-in-Some
returns-in_err-cid_of_hex-in-Some c =
    let p = err_from_is_err_and c.from_residual-in_err-cid_of_hex-in-Some.result c.from_residual-in_err-cid_of_hex-in-Some.ensures.1 in
    rw (p.1, p.2)
    (cid_hex_answer _ _ _ c.in-Some.digits.now (Err c.in_err-cid_of_hex-in-Some.field-0.0) (record { spelled = c.in_ok-found.ensures.found; only = c.in_ok-found.ensures.only })
    (no_texts _ _ c.in_ok-found.found.positional.ok.0 (sym c.is_empty.ensures ∙ c.if-is_empty.true))
    (hex_is _ _ _ _ _ (Some c.in-Some.digits) c.in_ok-found.ensures.found c.in-Some.is c.value_of.ensures c.as_slice.ensures.value)
    (record { found = tt; only = λ cid hex. c.in_err-cid_of_hex-in-Some.ensures.only cid hex.0 hex.1 hex.2 }))

pub returns-in-Some : goal.returns-in-Some
returns-in-Some c =
    cid_hex_answer _ _ _ c.in-Some.digits.now (Ok c.in_ok-cid_of_hex-in-Some.field-0) (record { spelled = c.in_ok-found.ensures.found; only = c.in_ok-found.ensures.only })
    (no_texts _ _ c.in_ok-found.found.positional.ok.0 (sym c.is_empty.ensures ∙ c.if-is_empty.true))
    (hex_is _ _ _ _ _ (Some c.in-Some.digits) c.in_ok-found.ensures.found c.in-Some.is c.value_of.ensures c.as_slice.ensures.value)
    (record { found = c.in_ok-cid_of_hex-in-Some.ensures.found; only = λ cid hex. c.in_ok-cid_of_hex-in-Some.ensures.only cid hex.0 hex.1 hex.2 })

pub returns : goal.returns
returns c =
    let one = hex_is _ _ _ _ _ (Some c.in-Some.digits) c.in_ok-found.ensures.found c.in-Some.is c.value_of.ensures c.as_slice.ensures.value in
    cid_refused _ _ _ _ (record { spelled = c.in_ok-found.ensures.found; only = c.in_ok-found.ensures.only })
    (λ text is also. no_digits c.in-Some.digits.now (sym also ∙ one)) (λ digits is also. some_texts _ _ c.in_ok-found.found.positional.ok.0 (sym c.is_empty.ensures ∙ c.if-is_empty.false) is)
