use Rattle.std.proofs.Common.{List, None, Option, Some, [], ap, arith, option_to_list, reverse, subst, sym, ℕ, ◌++◌, ◌∙◌, ◌∷◌, ◌≡◌, ◌≤◌}
use Rattle.tg_traversal.specs.declared.position.Role.{Role}
use Rattle.tg_walk.specs.Known.{HasInnermost, IsDeepened, KnownState, role_above}
use Rattle.tg_walk.specs.declared.known.Known.TheInside.{Inside}
use Rattle.tg_walk.specs.declared.known.Opened.{Opened}
use Rattle.tg_walk.proofs.known.Known.deepen.Goals as goal
use Rattle.tg_walk.proofs.known.Known.deepen.Goals.{in-Some+then-node-depth, in-Some+else-node-depth, in_default}

nodes_of : Option Opened → List Opened → List Opened
nodes_of innermost outer = option_to_list innermost ++ reverse outer

deepened : (depth : ℕ) (role now : Option Role) (innermost : Option Opened) (node : Opened) (deepest : ℕ) (outer old new : List Opened) → now ≡ role_above role node.role → innermost ≡ Some node → node.deepest ≤ deepest → depth ≤ deepest
    → option_to_list innermost ++ reverse outer ≡ old → new ≡ record node { deepest = deepest; role = now } ∷ reverse outer → IsDeepened depth role old new
deepened depth role now innermost node deepest outer old new r is d e was it =
    subst (λ (nodes : List Opened). IsDeepened depth role nodes new) (sym (ap (λ (o : Option Opened). option_to_list o ++ reverse outer) is) ∙ was)
    (deepest, d, e, it ∙ ap (λ (r : Option Role). (record node { deepest = deepest; role = r }) ∷ reverse outer) r)

shallow : (depth : ℕ) (role : Option Role) (innermost : Option Opened) (outer old new : List Opened) → innermost ≡ None → HasInnermost innermost outer → option_to_list innermost ++ reverse outer ≡ old
    → new ≡ option_to_list innermost ++ reverse outer → IsDeepened depth role old new
shallow depth role None outer old new is none was now =
    let nothing : reverse outer ≡ [] = ap reverse none in
    subst (λ (nodes : List Opened). IsDeepened depth role nodes new) (sym nothing ∙ was) (now ∙ nothing)
shallow depth role (Some node) outer old new is none was now = cc

pub returns-clause-open : goal.returns-clause-open
returns-clause-open c = elim c.match-self.branch [
  | in-Some+then-node-depth w ↦
      deepened c.args.depth c.args.role _ c.self.inside.innermost w.in-Some.node c.args.depth c.self.inside.outer.items c.args.self.now.nodes _ w.role_above-node.ensures w.in-Some.is
      (omega (arith, w.if-node-depth.true)) (omega arith) (ap (λ (k : KnownState). k.nodes) c.self.view_is)
      (ap (λ (k : Inside). option_to_list k.innermost ++ reverse k.outer.items) w.self-inside-is)
  | in-Some+else-node-depth w ↦
      deepened c.args.depth c.args.role _ c.self.inside.innermost w.in-Some.node w.in-Some.node.deepest c.self.inside.outer.items c.args.self.now.nodes _ w.role_above-node.ensures w.in-Some.is
      (omega arith) w.if-node-depth.false (ap (λ (k : KnownState). k.nodes) c.self.view_is)
      (ap (λ (k : Inside). option_to_list k.innermost ++ reverse k.outer.items) w.self-inside-is)
  | in_default w ↦
      shallow c.args.depth c.args.role c.self.inside.innermost c.self.inside.outer.items c.args.self.now.nodes _ w.in_default.is c.self.invariant (ap (λ (k : KnownState). k.nodes) c.self.view_is)
      (ap (λ (k : Inside). option_to_list k.innermost ++ reverse k.outer.items) w.self-inside-is)
]
