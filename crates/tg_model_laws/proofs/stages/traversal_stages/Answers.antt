use Rattle.tg_model_laws.proofs.StageSteps.{stage_ends, stage_gives, stage_gone, stage_misfit, stage_misses, stage_not_read, stage_opens, stage_opens_alone, stage_starts, stage_unreadable}
use Rattle.tg_model_laws.proofs.stages.traversal_stages.Goals as goal

pub returns : goal.returns
returns c =
    let behind = c.traversals_joined.ensures.behind in
    let associative = c.traversals_joined.ensures.associative in
    let steps = c.traversal_steps.ensures in
    record {
      start = stage_starts behind associative steps.terminal steps.path steps.below steps.root;
      up_to_next = stage_gives behind associative;
      opened = stage_opens behind associative steps.terminal steps.path steps.below;
      alone = stage_opens_alone behind associative;
      not_opened = stage_gone behind associative;
      not_read = stage_not_read behind associative;
      unreadable = stage_unreadable behind associative;
      misfit = stage_misfit behind associative steps.path_fault steps.below_fault;
      miss = stage_misses behind associative;
      done = stage_ends behind associative;
    }
