use Rattle.std.proofs.Common.{◌≡◌, ◌∷◌, [], map, string_bytes, Global, sym, ap, subst, ◌∙◌, Some}
use Rattle.tg_words.specs.CommandLine.{HelpLine}
use Rattle.tg_words.proofs.Told.{no_more}
use Rattle.tg_words.proofs.told_by.Goals as goal

pub returns-clause-some : goal.returns-clause-some
returns-clause-some c =
    let both : c.args.words.now ≡ c.in_ok-first.first.now ∷ c.in-Some.second.now ∷ [] =
    c.in_ok-first.ensures.cases.0 ∙ ap (λ rest. c.in_ok-first.first.now ∷ rest)
    (c.in-Some.ensures.cases.0 ∙ ap (λ more. c.in-Some.second.now ∷ more) (no_more c.in-Some.more.now c.is_empty.result c.is_empty.ensures c.if-not-is_empty.false)) in
    let words_are : map (string_bytes {Z = Global}) c.args.words.now ≡ c.as_str-first.result.now ∷ c.as_str.result.now ∷ [] =
    ap (map (string_bytes {Z = Global})) both ∙ ap (λ w. w ∷ string_bytes {Z = Global} c.in-Some.second.now ∷ []) (sym c.as_str-first.ensures.value)
    ∙ ap (λ w. c.as_str-first.result.now ∷ w ∷ []) (sym c.as_str.ensures.value) in
    subst (λ ws. HelpLine ws (Some c.in_ok-topic.topic)) (sym words_are) c.in_ok-topic.ensures.some
