use Rattle.std.proofs.Common.{refl}
use Rattle.tg_base32.proofs.Texts.{one_reading}
use Rattle.tg_base32.proofs.Reading.{readable, falsehood, spelled, spelled_length, spelled_tail, none_outside}
use Rattle.tg_base32.proofs.decode.Goals as goal

pub returns-then-is_no_length-clause-only : goal.returns-then-is_no_length-clause-only
returns-then-is_no_length-clause-only c = λ bytes h. absurd (spelled_length c.args.text.now bytes h (c.if-is_no_length.ensures.0 refl))

pub returns-then-is_no_length-clause-bad_char : goal.returns-then-is_no_length-clause-bad_char
returns-then-is_no_length-clause-bad_char c = λ at. (λ e. absurd cc, λ h. absurd (none_outside c.args.text.now at c.in_default.ensures h))

pub returns-then-has_tail-clause-only : goal.returns-then-has_tail-clause-only
returns-then-has_tail-clause-only c = λ bytes h. absurd (spelled_tail c.args.text.now bytes h (c.if-has_tail.ensures.0 refl))

pub returns-then-has_tail-clause-bad_char : goal.returns-then-has_tail-clause-bad_char
returns-then-has_tail-clause-bad_char c = λ at. (λ e. absurd cc, λ h. absurd (none_outside c.args.text.now at c.in_default.ensures h))

pub returns-in_err-bytes_of-clause-memory : goal.returns-in_err-bytes_of-clause-memory
returns-in_err-bytes_of-clause-memory c = λ _. readable c.args.text.now c.in_default.ensures (λ n. falsehood (c.if-is_no_length.ensures.1 n)) (λ a. falsehood (c.if-has_tail.ensures.1 a))

pub returns-clause-found : goal.returns-clause-found
returns-clause-found c = spelled c.args.text.now c.in_ok-bytes_of.field-0.items c.in_default.ensures (λ n. falsehood (c.if-is_no_length.ensures.1 n)) (λ a. falsehood (c.if-has_tail.ensures.1 a)) c.in_ok-bytes_of.ensures

pub returns-clause-only : goal.returns-clause-only
returns-clause-only c = λ bytes h. one_reading c.args.text.now c.in_ok-bytes_of.field-0.items bytes
    (spelled c.args.text.now c.in_ok-bytes_of.field-0.items c.in_default.ensures (λ n. falsehood (c.if-is_no_length.ensures.1 n)) (λ a. falsehood (c.if-has_tail.ensures.1 a)) c.in_ok-bytes_of.ensures) h

pub returns-clause-bad_char : goal.returns-clause-bad_char
returns-clause-bad_char c = λ at. (λ e. absurd cc, λ h. absurd (none_outside c.args.text.now at c.in_default.ensures h))
