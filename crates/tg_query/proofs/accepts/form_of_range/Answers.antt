use Rattle.std.proofs.Common.{List, Option, ap, ℕ, ◌∙◌}
use Rattle.httparse.specs.Grammar.{trim_ows}
use Rattle.tg_query.specs.Accepts.{form_of_range, form_of_type}
use Rattle.tg_query.proofs.accepts.form_of_range.Goals as goal

pub returns : goal.returns
unfolding form_of_range
returns c =
    let first = ap (λ (p : List ℕ × Option (List ℕ)). form_of_type (trim_ows p.0)) c.cut_first.ensures in
    c.form_of_type.ensures ∙ ap form_of_type c.without_spaces.ensures ∙ first
