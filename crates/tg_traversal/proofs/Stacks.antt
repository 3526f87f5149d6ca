-- The innermost frame's tasks come first.
use Rattle.std.proofs.Common.{◌≡◌, All, List, Option, Some, None, [], ◌∷◌, ◌++◌, option_to_list, subst, sym, ap, ◌∙◌, append_assoc, append-nil}
use Rattle.std.proofs.lemmas.List.Elements.{All-push}
use Rattle.tg_cid.specs.Cid.{CidParts}
use Rattle.tg_traversal.specs.Frames.{IsFrame, frame_tasks}
use Rattle.tg_traversal.specs.Left.{IsStack, stack_tasks, top_tasks}
use Rattle.tg_traversal.specs.declared.frame.Frame.{Frame}
use Rattle.tg_model_laws.specs.Tasks.{Task}

pub innermost : (frames : List Frame) (f : Frame) → stack_tasks (frames ++ f ∷ []) ≡ frame_tasks f ++ stack_tasks frames
innermost [] f = sym (append-nil (frame_tasks f))
innermost (g ∷ frames) f = ap (λ (tasks : List (Task CidParts)). tasks ++ frame_tasks g) (innermost frames f) ∙ append_assoc (frame_tasks f) (stack_tasks frames) (frame_tasks g)

-- the innermost of what lies below comes to the top
pub popped : (old new : List Frame) (top : Option Frame) → old ≡ new ++ option_to_list top → stack_tasks old ≡ top_tasks top ++ stack_tasks new
popped old new None e = ap stack_tasks (e ∙ append-nil new)
popped old new (Some f) e = ap stack_tasks e ∙ innermost new f

-- the frame `f` comes to the top, and the one that was there lies below it
pub pushed : (before top : Option Frame) (f was : Frame) (below new : List Frame) → before ≡ Some was → top ≡ Some f → IsFrame f → IsStack before below → new ≡ below ++ was ∷ []
    → IsStack top new
pushed before top f was below new b e f_is stack added =
    let old : IsStack (Some was) below = subst (λ (top : Option Frame). IsStack top below) b stack in
    subst (λ (top : Option Frame). IsStack top new) (sym e) (f_is, subst (λ (frames : List Frame). All IsFrame frames) (sym added) (All-push IsFrame below was old.1 old.0))
