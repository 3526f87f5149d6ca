-- what is left is what was left
use Rattle.std.proofs.Common.{◌≡◌, ◌+◌, ◌++◌, length, option_to_list}
use Rattle.tg_traversal.specs.Left.{IsStack, stack_tasks, top_tasks}
use Rattle.tg_traversal.proofs.stack.Stack.next.Given as goal

abbrev pub invariant-loop-frame : goal.invariant-loop-frame
invariant-loop-frame l = record {
  left : top_tasks l.initial.self-inside.top ++ stack_tasks l.initial.self-inside.below.items ≡ top_tasks l.self-inside.top ++ stack_tasks l.self-inside.below.items;
  is_stack : IsStack l.self-inside.top l.self-inside.below.items;
}

abbrev pub decreases-loop-frame : goal.decreases-loop-frame
decreases-loop-frame l = length l.self-inside.below.items + length (option_to_list l.self-inside.top)
