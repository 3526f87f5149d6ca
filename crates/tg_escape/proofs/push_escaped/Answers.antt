use Rattle.std.proofs.Common.{List, arith, ap, ℕ, ◌++◌, ◌<◌, ◌∙◌, ◌≡◌}
use Rattle.std.proofs.lemmas.List.Elements.{All-from_get_or}
use Rattle.tg_escape.proofs.Escapes.{escapes, only_put}
use Rattle.tg_escape.proofs.push_escaped.Goals as goal

pub returns-clause-ok : goal.returns-clause-ok
returns-clause-ok c =
    let name = c.args.name.now in
    let are = All-from_get_or (λ (b : ℕ). b < 256) name 0 (λ i within. omega (arith, c.type_inv.name i)) in
    let shown = only_put _ _ _ c.in_ok-append_to.ensures.ok c.new-shown.ensures.bytes in
    c.in_ok-push_all.ensures.ok
    ∙ ap (λ (l : List ℕ). c.args.text.now ++ l) (c.as_bytes.ensures.value ∙ shown ∙ c.percent_encode.ensures.text ∙ escapes name are)
