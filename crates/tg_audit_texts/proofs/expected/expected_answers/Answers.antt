use Rattle.std.proofs.Common.{List, ap, length, subst, sym, ℕ, ◌<◌, ◌∙◌}
use Rattle.tg_audit_texts.proofs.ExpectedTexts.{are_expected, first_there}
use Rattle.tg_audit_texts.proofs.expected.expected_answers.Goals as goal
use Rattle.tg_audit_texts.specs.Expected.{AreExpected, first_of, last_of, named_from, part}
use Rattle.tg_audit_texts.specs.Hashing.{IsHashOf}
use Rattle.tg_audit_texts.specs.declared.hashing.Hashed.{Hashed}
use Rattle.tg_model.specs.Texts.{listing}

pub returns : goal.returns
returns c =
    let drawn = c.args.drawn.now in
    let big = c.as_slice-big.ensures in
    let many = c.as_slice-many.ensures in
    let bundled = c.in_ok-bundle.ensures in
    let first = first_there c.as_slice-many.result.now c.index-many-0.result
    (subst (λ (files : List (List ℕ)). 0 < length files) (sym many) c.requires.some) c.index-many-0.is in
    subst (λ (hashed : List Hashed). AreExpected drawn hashed) (sym c.in_ok-expected.ensures.items)
    (are_expected drawn bundled.0 _ _ _ _ _ _ _ _ bundled.1 bundled.2
    (subst (λ (text : List ℕ). IsHashOf text c.of.result) (c.part.ensures ∙ ap (part 1048575 2) big) c.of.ensures)
    (subst (λ (text : List ℕ). IsHashOf text c.of-2.result) (c.last_of.ensures ∙ ap (last_of 5) big) c.of-2.ensures)
    c.of-3.ensures
    (subst (λ (files : List (List ℕ)). IsHashOf (listing (named_from 0 files)) c.in_ok-listing.field-0) many c.in_ok-listing.ensures)
    c.of-4.ensures
    c.of-5.ensures
    (subst (λ (text : List ℕ). IsHashOf text c.of-6.result) (c.as_slice.ensures ∙ first ∙ ap first_of many) c.of-6.ensures))
