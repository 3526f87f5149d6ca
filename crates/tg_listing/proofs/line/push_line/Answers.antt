use Rattle.std.proofs.Common.{List, ap, ℕ, ◌++◌, ◌∙◌, [], ◌∷◌}
use Rattle.tg_cid.specs.TextLaws.{text_is}
use Rattle.tg_listing.proofs.Lines.{line_is}
use Rattle.tg_listing.proofs.line.push_line.Goals as goal
use Rattle.tg_model.specs.Texts.{escaped}

pub returns : goal.returns
returns c =
    let text = text_is c.one_spelling.ensures.one_text c.computes.ensures.text c.args.entry.now.cid c.in_ok-cid.cid c.in_ok-cid.ensures in
    let shown = ap escaped c.as_slice-2.ensures in
    let first = c.in_ok-push_all.ensures.ok ∙ ap (λ (l : List ℕ). c.args.lines.now ++ l) c.as_slice.ensures in
    let second = c.in_ok-push_all-2.ensures.ok ∙ ap (λ (l : List ℕ). l ++ 32 ∷ []) first in
    let third = c.in_ok-push_escaped.ensures.ok ∙ ap (λ (l : List ℕ). l ++ escaped c.as_slice-2.result.now) second in
    c.in_ok-push_all-3.ensures.ok ∙ ap (λ (l : List ℕ). l ++ 10 ∷ []) third ∙ line_is c.args.lines.now c.in_ok-cid.cid (escaped c.as_slice-2.result.now) c.args.entry.now text shown
