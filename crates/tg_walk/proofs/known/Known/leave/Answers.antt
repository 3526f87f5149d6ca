use Rattle.std.proofs.Common.{ap, arith, length, refl, subst, sym, ℕ, ◌∙◌, ◌∷◌, ◌≤◌}
use Rattle.std.specs.Map.{keys_of}
use Rattle.tg_walk.proofs.Knowing.{deep_length, left_one}
use Rattle.tg_model_laws.specs.Tasks.{open_block}
use Rattle.tg_walk.specs.Known.{KnownState, KnowsBelow, LieAbove}
use Rattle.tg_walk.proofs.known.Known.leave.Goals as goal

pub loop-node-init : goal.loop-node-init
loop-node-init c = record { keys = refl; knows = λ q store sections w cid later e h. h }

pub loop-node-smaller : goal.loop-node-smaller
loop-node-smaller c =
    let before = ap length c.in-Some.ensures.1 in
    let deep = deep_length c.in-Some.node.deepest c.in-Some.node.role c.take.new.self.nodes c.deepen.new.self.nodes c.deepen.ensures.open in
    let after = ap length c.keep.ensures.nodes in
    omega (arith, before, deep, after)

pub loop-node-preserved : goal.loop-node-preserved
loop-node-preserved c = record {
  keys = c.in_ok-keep.ensures.keys ∙ ap keys_of (c.deepen.ensures.entries ∙ c.in-Some.ensures.0) ∙ c.loop-node.invariant.keys;
  knows = λ q store sections w cid later e h.
      left_one q store sections c.loop-node.self c.take.new.self c.deepen.new.self c.keep.new.self c.in-Some.node w cid later c.in-Some.ensures.0 c.in-Some.ensures.1
      (subst (λ (n : ℕ). n ≤ c.in-Some.node.depth) (sym e) c.in-Some.ensures.2) c.deepen.ensures.entries c.deepen.ensures.open c.keep.ensures.nodes c.in_ok-keep.ensures.kept
      (c.loop-node.invariant.knows q store sections w cid later e h);
}

pub returns : goal.returns
returns c = record {
  keys = ap (λ (k : KnownState). keys_of k.entries) c.in_default.ensures.0 ∙ c.loop-node.invariant.keys;
  above = subst (λ (k : KnownState). LieAbove k.nodes c.args.depth) (sym c.in_default.ensures.0) c.in_default.ensures.1;
  knows = λ q store sections w cid later e h.
      subst (λ (k : KnownState). KnowsBelow q store sections k (open_block w cid ∷ later)) (sym c.in_default.ensures.0) (c.loop-node.invariant.knows q store sections w cid later e h);
}
