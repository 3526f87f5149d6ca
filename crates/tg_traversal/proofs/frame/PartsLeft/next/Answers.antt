use Rattle.std.proofs.Common.{◌∙◌, None, Some, arith, refl, subst, sym, [], ◌≡◌, ◌≤◌}
use Rattle.std.proofs.Math.Facts.{Fits-of_lt}
use Rattle.tg_traversal.proofs.PartSteps.{fits, left_behind, next_of, next_tasks, no_tasks, one_left}
use Rattle.tg_traversal.specs.Frames.{last_parts}
use Rattle.tg_model.specs.Placed.{ArePartsAhead}
use Rattle.tg_traversal.proofs.frame.PartsLeft.next.Goals as goal

pub overflow_sub-self : goal.overflow_sub-self
overflow_sub-self c =
    one_left c.loop-part.self c.in-Some.part c.in-Some.cursor c.loop-part.invariant.left
    (next_of c.loop-part.self c.as_slice.result.now c.in-Some.part c.in-Some.cursor c.loop-part.invariant.left c.as_slice.ensures (c.in-Some.ensures).next)

pub overflow_add-self : goal.overflow_add-self
overflow_add-self c = Fits-of_lt (
    fits c.loop-part.self c.in-Some.part c.in-Some.cursor c.loop-part.invariant.left
    (next_of c.loop-part.self c.as_slice.result.now c.in-Some.part c.in-Some.cursor c.loop-part.invariant.left c.as_slice.ensures (c.in-Some.ensures).next))

pub reach_of_part-requires : goal.reach_of_part-requires
reach_of_part-requires c =
    fits c.loop-part.self c.in-Some.part c.in-Some.cursor c.loop-part.invariant.left
    (next_of c.loop-part.self c.as_slice.result.now c.in-Some.part c.in-Some.cursor c.loop-part.invariant.left c.as_slice.ensures (c.in-Some.ensures).next)

pub returns-in-Some-reach_of_part-clause-left : goal.returns-in-Some-reach_of_part-clause-left
returns-in-Some-reach_of_part-clause-left c =
    left_behind c.loop-part.self c.in-Some.part c.in-Some.cursor c.loop-part.invariant.left
    (next_of c.loop-part.self c.as_slice.result.now c.in-Some.part c.in-Some.cursor c.loop-part.invariant.left c.as_slice.ensures (c.in-Some.ensures).next)

pub returns-in-Some-reach_of_part-clause-next : goal.returns-in-Some-reach_of_part-clause-next
returns-in-Some-reach_of_part-clause-next c = record {
  first = c.loop-part.invariant.tasks ∙ next_tasks c.args.depth c.loop-part.self c.in-Some.part c.in-Some.cursor (Some c.in-Some-reach_of_part.reach) c.loop-part.invariant.left
      (next_of c.loop-part.self c.as_slice.result.now c.in-Some.part c.in-Some.cursor c.loop-part.invariant.left c.as_slice.ensures (c.in-Some.ensures).next)
      c.in-Some-reach_of_part.ensures;
  sized = refl;
  done = tt;
  of_child = λ path. refl;
}

pub loop-part-smaller : goal.loop-part-smaller
loop-part-smaller c =
    let one : 1 ≤ c.loop-part.self.count = one_left c.loop-part.self c.in-Some.part c.in-Some.cursor c.loop-part.invariant.left
    (next_of c.loop-part.self c.as_slice.result.now c.in-Some.part c.in-Some.cursor c.loop-part.invariant.left c.as_slice.ensures (c.in-Some.ensures).next) in
    omega arith

pub loop-part-preserved : goal.loop-part-preserved
loop-part-preserved c = record {
  left = left_behind c.loop-part.self c.in-Some.part c.in-Some.cursor c.loop-part.invariant.left
      (next_of c.loop-part.self c.as_slice.result.now c.in-Some.part c.in-Some.cursor c.loop-part.invariant.left c.as_slice.ensures (c.in-Some.ensures).next);
  tasks = c.loop-part.invariant.tasks ∙ next_tasks c.args.depth c.loop-part.self c.in-Some.part c.in-Some.cursor None c.loop-part.invariant.left
      (next_of c.loop-part.self c.as_slice.result.now c.in-Some.part c.in-Some.cursor c.loop-part.invariant.left c.as_slice.ensures (c.in-Some.ensures).next)
      c.in_default-reach_of_part.ensures;
}

pub returns-clause-next : goal.returns-clause-next
returns-clause-next c =
    let none : last_parts c.loop-part.self.block c.loop-part.self.count ≡ [] =
    (c.in_default.ensures).next (last_parts c.loop-part.self.block c.loop-part.self.count)
    (subst (λ (block : _). ArePartsAhead block c.loop-part.self.cursor (last_parts c.loop-part.self.block c.loop-part.self.count)) (sym c.as_slice.ensures) c.loop-part.invariant.left.ahead) in
    record {
      first = c.loop-part.invariant.tasks;
      sized = refl;
      done = c.loop-part.invariant.tasks ∙ no_tasks c.args.depth c.loop-part.self none;
      of_child = tt;
    }
