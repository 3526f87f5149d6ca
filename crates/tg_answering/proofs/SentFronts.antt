-- A walk that goes on has given the first of the sections that are sent.
use Rattle.std.proofs.Common.{List, ap, ◌++◌, ◌∙◌}
use Rattle.std.proofs.lemmas.List.{map-append}
use Rattle.tg_answering.specs.WalksSend.{WalksSendFronts}
use Rattle.tg_model.specs.Dag.{Section}
use Rattle.tg_model.specs.Traversal.{Place, Traversal, sections_of, sent}
use Rattle.tg_model_laws.specs.SentSections.{sent_front}
use Rattle.tg_traversal.specs.Left.{tasks_left}
use Rattle.tg_model_laws.specs.TakenBlocks.{opened_by}
use Rattle.tg_model_laws.specs.Stages.{tasks_give}
use Rattle.tg_model_laws.specs.StoreWalks.{cut_at, shown_tasks}
use Rattle.tg_walk.specs.Walks.{max_depth}

-- the cut traversal gives what was given, and behind it what the tasks that are left give
pub fronts : WalksSendFronts
fronts left known store sections on =
    let q = left.query in
    let rest = tasks_give q (shown_tasks (cut_at max_depth store) (tasks_left left)) in
    let more = sent_front q (opened_by on.given) (sections_of rest.places) in (
      more.0,
      ap (λ (t : Traversal). sent q (sections_of t.places)) on.walked.cut
          ∙ ap (sent q) (map-append (λ (p : Place). p.section) on.given.places rest.places) ∙ more.1
          ∙ ap (λ (l : List Section). l ++ more.0) on.gave,
    )
