use Rattle.std.proofs.Common.{rules, tests, ◌≡◌, ◌==◌, ℕ, Bool, sym, ◌∙◌}
use Rattle.std.specs.List.{position}
use Rattle.std.proofs.lemmas.Iterator.{YieldsList-from_slice}
use Rattle.std.proofs.lemmas.Iterator.Search.{position_from_yields_List}
use Rattle.tg_query.proofs.FirstCuts.{cut_here, cut_none}
use Rattle.tg_query.proofs.cuts.cut_first.Goals as goal

pub returns-in-Some : goal.returns-in-Some
returns-in-Some c =
    let is_byte : ℕ → Bool = λ b. b == c.args.byte in
    let found : c.position.result ≡ position is_byte c.args.text.now =
    position_from_yields_List is_byte _ _ _ c.position.ensures.ran (YieldsList-from_slice c.args.text.now cc) (λ x b q k. search (rules, tests)) in
    cut_here c.args.byte c.args.text.now c.in-Some.at (sym found ∙ c.in-Some.is)

pub returns-in-None : goal.returns-in-None
returns-in-None c =
    let is_byte : ℕ → Bool = λ b. b == c.args.byte in
    let found : c.position.result ≡ position is_byte c.args.text.now =
    position_from_yields_List is_byte _ _ _ c.position.ensures.ran (YieldsList-from_slice c.args.text.now cc) (λ x b q k. search (rules, tests)) in
    cut_none c.args.byte c.args.text.now (sym found ∙ c.in-None.is)
