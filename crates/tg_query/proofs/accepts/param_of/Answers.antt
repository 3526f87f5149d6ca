use Rattle.std.proofs.Common.{List, None, Option, ap, option_copied, refl, sym, ℕ, ◌∙◌}
use Rattle.tg_query.proofs.Firsts.{param_read}
use Rattle.tg_query.proofs.accepts.param_of.Goals as goal

pub returns-in-Some-first_param : goal.returns-in-Some-first_param
returns-in-Some-first_param c =
    param_read _ c.args.name.now c.args.default.now _ _ (sym (ap option_copied c.in-Some.is) ∙ ap (λ (p : List ℕ × Option (List ℕ)). p.1) c.cut_first.ensures)
    (sym (ap option_copied c.in-Some-first_param.is) ∙ c.first_param.ensures)

pub returns-in-None-first_param : goal.returns-in-None-first_param
returns-in-None-first_param c =
    param_read _ c.args.name.now c.args.default.now _ _ (sym (ap option_copied c.in-Some.is) ∙ ap (λ (p : List ℕ × Option (List ℕ)). p.1) c.cut_first.ensures)
    (sym (ap option_copied c.in-None-first_param.is) ∙ c.first_param.ensures)

pub returns-in-None : goal.returns-in-None
returns-in-None c =
    param_read _ c.args.name.now c.args.default.now None None (sym (ap option_copied c.in-None.is) ∙ ap (λ (p : List ℕ × Option (List ℕ)). p.1) c.cut_first.ensures) refl
