use Rattle.std.proofs.Common.{List, subst, sym, ℕ, ◌≡◌}
use Rattle.std.proofs.lemmas.Result.{err_from_is_err_and}
use Rattle.tg_bundles.specs.Records.{path_text}
use Rattle.tg_bytes.specs.Digits.{IsDigits}
use Rattle.tg_extract.proofs.Sizes.{cut_is, no_rest, same_decimal, size_digits, size_small, sized_text, some_rest}
use Rattle.tg_extract.proofs.lines.sized_in.Goals as goal

pub returns-in_default-clause-bad : goal.returns-in_default-clause-bad
returns-in_default-clause-bad c = λ bad size path good small whole.
    let cut = cut_is c.cuts_read.ensures.cut c.args.text.now c.cut_first.result.0.now c.cut_first.result.1 size (path_text path) small whole c.cut_first.ensures in
    no_rest c.cut_first.result.1 (path_text path) c.in_default.is cut.1

pub returns-in_default-number_of-clause-bad : goal.returns-in_default-number_of-clause-bad
returns-in_default-number_of-clause-bad c = λ bad size path good small whole.
    let cut = cut_is c.cuts_read.ensures.cut c.args.text.now c.cut_first.result.0.now c.cut_first.result.1 size (path_text path) small whole c.cut_first.ensures in
    c.in_default-number_of.ensures size (subst (λ (t : List ℕ). IsDigits t size) (sym cut.0) (size_digits size small))

pub returns-then-not-is_decimal-clause-bad : goal.returns-then-not-is_decimal-clause-bad
returns-then-not-is_decimal-clause-bad c = λ bad size path good small whole.
    let cut = cut_is c.cuts_read.ensures.cut c.args.text.now c.cut_first.result.0.now c.cut_first.result.1 size (path_text path) small whole c.cut_first.ensures in
    let is = c.if-not-is_decimal.ensures.1 (same_decimal c.cut_first.result.0.now c.in-Some-number_of.size size small cut.0 c.in-Some-number_of.ensures) in
    absurd cc

pub returns-in_err-path-clause-bad : goal.returns-in_err-path-clause-bad
returns-in_err-path-clause-bad c = λ bad size path good small whole.
    let p = err_from_is_err_and c.from_residual.result c.from_residual.ensures.1 in
    let from : p.0 ≡ c.in_err-path.field-0.0 = p.2 in
    let is = p.1 in
    let cut = cut_is c.cuts_read.ensures.cut c.args.text.now c.cut_first.result.0.now c.cut_first.result.1 size (path_text path) small whole c.cut_first.ensures in
    c.in_err-path.ensures.bad (cc) path good (some_rest c.cut_first.result.1 c.in-Some.rest (path_text path) c.in-Some.is cut.1)

pub returns-clause-text : goal.returns-clause-text
returns-clause-text c =
    sized_text c.cuts_read.ensures.cut c.args.text.now c.cut_first.result.0.now c.cut_first.result.1 c.in-Some.rest c.in-Some-number_of.size
    (path_text c.in_ok-path.path) c.cut_first.ensures c.in-Some.is (c.is_decimal.ensures.0 c.if-not-is_decimal.false) c.in_ok-path.ensures.text

pub returns-clause-good : goal.returns-clause-good
returns-clause-good c = (c.in_ok-path.ensures.good, size_small c.cut_first.result.0.now c.in-Some-number_of.size c.in-Some-number_of.ensures)
