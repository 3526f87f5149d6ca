use Rattle.std.proofs.Common.{rules, tests, Bool, List, ℕ, ◌==◌}
use Rattle.std.proofs.lemmas.Iterator.Search.{find_from_yields_List}
use Rattle.std.proofs.lemmas.Iterator.Splits.{YieldsList-from_slice_split}
use Rattle.tg_query.specs.Accepts.{form_of_range, is_car_form}
use Rattle.tg_query.proofs.accepts.car_in.Goals as goal

pub returns : goal.returns
returns c =
    let is_car : List ℕ → Bool = λ range. is_car_form (form_of_range range) in
    find_from_yields_List is_car _ _ c.find.result c.find.ensures.ran
    (YieldsList-from_slice_split _ (λ b. b == 44) c.args.value.now c.split.ensures.rest c.split.ensures.done c.split.ensures.closure (λ x b q k. search (rules, tests)))
    (λ x b q k. search (rules, tests))
