use Rattle.std.proofs.Common.{◌∙◌, ◌++◌, ap, sym, Option}
use Rattle.tg_traversal.proofs.Stacks.{popped}
use Rattle.tg_traversal.specs.Left.{stack_tasks, top_tasks}
use Rattle.tg_traversal.specs.declared.frame.Frame.{Frame}
use Rattle.tg_traversal.proofs.stack.uppermost.Goals as goal

pub returns-in-None-clause-tasks : goal.returns-in-None-clause-tasks
returns-in-None-clause-tasks c =
    sym (popped c.args.below.now.items c.pop.new.self.items c.pop.result c.pop.ensures.items)
    ∙ ap (λ (left : Option Frame). top_tasks left ++ stack_tasks c.args.below.now.items) (sym c.in-None.is)
