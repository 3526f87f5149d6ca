use Rattle.std.proofs.Common.{List, ap, codes, ℕ, ◌++◌, ◌∙◌}
use Rattle.tg_query.specs.Requests.{span_param}
use Rattle.tg_query.specs.Targets.{scope_word}
use Rattle.tg_query.proofs.Growing.{three_put}
use Rattle.tg_query.proofs.requests.push_car_params.Goals as goal

pub returns : goal.returns
returns c =
    three_put c.args.text.now c.push_all.new.self c.push_all-2.new.self _ (codes "format=car&dag-scope=") (scope_word c.args.scope) (span_param c.args.span)
    c.in_ok-push_all.ensures.ok (c.in_ok-push_all-2.ensures.ok ∙ ap (λ (l : List ℕ). c.push_all.new.self ++ l) c.scope_word.ensures) c.in_ok-push_span_param.ensures
