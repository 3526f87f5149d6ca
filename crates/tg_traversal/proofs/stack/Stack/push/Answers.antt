use Rattle.std.proofs.Common.{◌∙◌, ◌++◌, ap, sym, List, Option}
use Rattle.tg_cid.specs.Cid.{CidParts}
use Rattle.tg_traversal.proofs.Stacks.{innermost, pushed}
use Rattle.tg_traversal.specs.Frames.{frame_tasks}
use Rattle.tg_traversal.specs.Left.{stack_tasks, top_tasks}
use Rattle.tg_traversal.specs.declared.frame.Frame.{Frame}
use Rattle.tg_traversal.specs.declared.stack.Stack.TheInside.{Inside}
use Rattle.tg_model_laws.specs.Tasks.{Task}
use Rattle.tg_traversal.proofs.stack.Stack.push.Goals as goal

pub invariant_of-self-in_default-push : goal.invariant_of-self-in_default-push
invariant_of-self-in_default-push c =
    pushed c.self.inside.top c.replace.new.self c.args.frame c.in-Some.top c.self.inside.below.items c.push.new.self.items
    (sym c.replace.ensures.value ∙ c.in-Some.is) c.replace.ensures.after c.requires c.self.invariant (c.in_default-push.ensures).items

pub returns-clause-ok : goal.returns-clause-ok
returns-clause-ok c =
    let old : Inside = c.self.inside in
    ap (λ (top : Option Frame). top_tasks top ++ stack_tasks c.push.new.self.items) c.replace.ensures.after
    ∙ ap (λ (tasks : List (Task CidParts)). frame_tasks c.args.frame ++ tasks)
    (ap stack_tasks (c.in_default-push.ensures).items ∙ innermost old.below.items c.in-Some.top
    ∙ ap (λ (top : Option Frame). top_tasks top ++ stack_tasks old.below.items) (sym c.in-Some.is ∙ c.replace.ensures.value) ∙ c.self.view_is)
