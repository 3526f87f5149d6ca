use Rattle.std.proofs.Common.{◌≡◌, ℕ, List, [], ◌++◌, subst, sym}
use Rattle.tg_filedag.proofs.Beginnings.{nothing_stands}
use Rattle.tg_filedag.proofs.balanced.Balanced.finish.Goals as goal
use Rattle.tg_node_writing.specs.BlockOrder.{AreBehindLinks}
use Rattle.tg_node_writing.specs.Keeping.{Keeps, StopsAfter}
use Rattle.tg_filedag.specs.MadeFile.{IsMadeFile}
use Rattle.tg_filedag.specs.State.{BalancedState, IsFrontFor, StandsFor}
use Rattle.tg_filedag.specs.Trees.{bottom_up}
use Rattle.tg_model.specs.Dag.{Dag, Section}
use Rattle.tg_model.specs.Stores.{kept_in}

pub invariant_of-self : goal.invariant_of-self
invariant_of-self g c = λ e.
    let forest = (c.self.invariant c.in_default.is).2.forest in
    ([], [], nothing_stands c.self.inside.width c.self.inside.refused c.clear.new.self.items forest.low forest.high c.in_default.is c.clear.ensures.items)

pub returns-in-Ok-clause-made : goal.returns-in-Ok-clause-made
returns-in-Ok-clause-made g c =
    subst (λ (s : BalancedState). (chunks : List (List ℕ)) (kept : List Section) → StandsFor s chunks kept
    → (sections : List Section) × (d : Dag) × Keeps sections (kept_in g.K.Keep.keeper c.args.keep.now c.link_all.new.keep)
    × IsMadeFile s.width chunks d c.in-Ok.made × (kept ++ sections ≡ bottom_up d) × AreBehindLinks [] (kept ++ sections)) c.self.view_is
    (λ chunks kept h.
    let made = c.in-Ok.ensures.made chunks kept h.forest in
    (made.0, made.1, made.2, made.3, made.4, subst (AreBehindLinks []) (sym made.4) (c.kept_in_order.ensures.whole made.1 made.3.sound)))

pub returns-in-Ok-clause-anew : goal.returns-in-Ok-clause-anew
returns-in-Ok-clause-anew g c =
    let forest = (c.self.invariant c.in_default.is).2.forest in
    nothing_stands c.self.inside.width c.self.inside.refused c.clear.new.self.items forest.low forest.high c.in_default.is c.clear.ensures.items

pub returns-in-Err-clause-stops : goal.returns-in-Err-clause-stops
returns-in-Err-clause-stops g c =
    subst (λ (s : BalancedState). (chunks : List (List ℕ)) (kept : List Section) → StandsFor s chunks kept
    → (sections : List Section) × StopsAfter sections c.in-Err.fault (kept_in g.K.Keep.keeper c.args.keep.now c.link_all.new.keep)
    × IsFrontFor s.width chunks kept sections) c.self.view_is
    (λ chunks kept h. c.in-Err.ensures.stops chunks kept h.forest)

pub returns-in-Ok-clause-quiet : goal.returns-in-Ok-clause-quiet
returns-in-Ok-clause-quiet g c =
    let old = c.self.invariant c.in_default.is in
    (c.in-Ok.ensures.made old.0 old.1 old.2.forest).2.quiet

pub returns-in-Err-clause-cause : goal.returns-in-Err-clause-cause
returns-in-Err-clause-cause g c = λ none.
    let old = c.self.invariant c.in_default.is in
    (c.in-Err.ensures.stops old.0 old.1 old.2.forest).1.counted
