use Rattle.std.proofs.Common.{◌≡◌, ◌∷◌, map, string_bytes, Global, sym, ap, subst, ◌∙◌}
use Rattle.tg_words.specs.Names.{name_text}
use Rattle.tg_words.specs.Operands.{Answers}
use Rattle.tg_words.proofs.Told.{cause_of, found_of, none_begun, not_begun, only_of, only_told, refused, told_line}
use Rattle.tg_words.proofs.read.Goals as goal

pub returns-in-Some-clause-only : goal.returns-in-Some-clause-only
returns-in-Some-clause-only c = λ command line. only_told _ c.in-Some.told command c.in-Some.ensures.some line

pub returns-in-Some-clause-given : goal.returns-in-Some-clause-given
returns-in-Some-clause-given c = λ none. absurd (none c.in-Some.told (told_line _ c.in-Some.told c.in-Some.ensures.some))

pub returns-in-Some-of-clause-only : goal.returns-in-Some-of-clause-only
returns-in-Some-of-clause-only c =
    let words_are : map (string_bytes {Z = Global}) c.args.words.now ≡ name_text c.in-Some-of.name ∷ map (string_bytes {Z = Global}) c.in-Some-split_first.rest.now =
    ap (map (string_bytes {Z = Global})) c.in-Some-split_first.ensures.cases.0
    ∙ ap (λ w. w ∷ map (string_bytes {Z = Global}) c.in-Some-split_first.rest.now) (sym c.as_str.ensures.value ∙ sym c.in-Some-of.ensures.some) in
    only_of _ c.dispatch.result c.in_default.ensures.none (subst (λ ws. Answers ws c.dispatch.result) (sym words_are) c.dispatch.ensures)

pub returns-in-Some-of-clause-cause : goal.returns-in-Some-of-clause-cause
returns-in-Some-of-clause-cause c = cause_of _ c.dispatch.result (returns-in-Some-of-clause-only c)

pub returns-in-Some-of-clause-given : goal.returns-in-Some-of-clause-given
returns-in-Some-of-clause-given c =
    let words_are : map (string_bytes {Z = Global}) c.args.words.now ≡ name_text c.in-Some-of.name ∷ map (string_bytes {Z = Global}) c.in-Some-split_first.rest.now =
    ap (map (string_bytes {Z = Global})) c.in-Some-split_first.ensures.cases.0
    ∙ ap (λ w. w ∷ map (string_bytes {Z = Global}) c.in-Some-split_first.rest.now) (sym c.as_str.ensures.value ∙ sym c.in-Some-of.ensures.some) in
    refused _ c.dispatch.result (found_of _ c.dispatch.result c.in_default.ensures.none (subst (λ ws. Answers ws c.dispatch.result) (sym words_are) c.dispatch.ensures))

pub returns-in-None-clause-only : goal.returns-in-None-clause-only
returns-in-None-clause-only c = λ command line.
    let words_are : map (string_bytes {Z = Global}) c.args.words.now ≡ c.as_str.result.now ∷ map (string_bytes {Z = Global}) c.in-Some-split_first.rest.now =
    ap (map (string_bytes {Z = Global})) c.in-Some-split_first.ensures.cases.0 ∙ ap (λ w. w ∷ map (string_bytes {Z = Global}) c.in-Some-split_first.rest.now) (sym c.as_str.ensures.value) in
    absurd (none_begun _ command c.in_default.ensures.none (not_begun _ _ _ words_are c.in-None.ensures.none) line)

pub returns-in-None-clause-cause : goal.returns-in-None-clause-cause
returns-in-None-clause-cause c = λ is command line.
    let words_are : map (string_bytes {Z = Global}) c.args.words.now ≡ c.as_str.result.now ∷ map (string_bytes {Z = Global}) c.in-Some-split_first.rest.now =
    ap (map (string_bytes {Z = Global})) c.in-Some-split_first.ensures.cases.0 ∙ ap (λ w. w ∷ map (string_bytes {Z = Global}) c.in-Some-split_first.rest.now) (sym c.as_str.ensures.value) in
    none_begun _ command c.in_default.ensures.none (not_begun _ _ _ words_are c.in-None.ensures.none) line
