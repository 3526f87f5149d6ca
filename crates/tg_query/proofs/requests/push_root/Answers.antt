use Rattle.std.proofs.Common.{List, ap, ℕ, ◌++◌, ◌∙◌}
use Rattle.tg_cid.specs.TextLaws.{text_is}
use Rattle.tg_query.proofs.requests.push_root.Goals as goal

pub returns : goal.returns
returns c =
    let text = c.in_ok-shown.shown in
    c.in_ok-push_all.ensures.ok
    ∙ ap (λ (l : List ℕ). c.args.text.now ++ l)
    (c.as_slice.ensures ∙ text_is c.one_spelling.ensures.one_text c.computes.ensures.text c.args.root text c.in_ok-shown.ensures)
