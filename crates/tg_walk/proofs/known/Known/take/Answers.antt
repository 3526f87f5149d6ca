use Rattle.std.proofs.Common.{List, None, Option, Some, [], ap, option_to_list, reverse, subst, sym, ℕ, ◌++◌, ◌∙◌, ◌≡◌}
use Rattle.tg_walk.specs.Known.{HasInnermost, KnownState, LieAbove}
use Rattle.tg_walk.specs.declared.known.Opened.{Opened}
use Rattle.tg_walk.proofs.known.Known.take.Goals as goal

none_above : (innermost : Option Opened) (outer nodes : List Opened) (depth : ℕ) → innermost ≡ None → HasInnermost innermost outer → option_to_list innermost ++ reverse outer ≡ nodes → LieAbove nodes depth
none_above None outer nodes depth is none e =
    let nothing : reverse outer ≡ [] = ap reverse none in
    subst (λ (nodes : List Opened). LieAbove nodes depth) (sym nothing ∙ e) tt
none_above (Some node) outer nodes depth is none e = cc

pub returns-in_err-node : goal.returns-in_err-node
returns-in_err-node c =
    let none : c.self.inside.innermost ≡ None = sym c.take.ensures.value ∙ c.in_err-node.was in
    rw (c.from_residual.ensures) (
      ap (λ (o : Option Opened). let k : KnownState = record { entries = c.self.inside.blocks.entries; nodes = option_to_list o ++ reverse c.self.inside.outer.items } in k) (c.take.ensures.after ∙ sym none) ∙ c.self.view_is,
      none_above c.self.inside.innermost c.self.inside.outer.items c.args.self.now.nodes c.args.depth none c.self.invariant (ap (λ (k : KnownState). k.nodes) c.self.view_is),
    )
