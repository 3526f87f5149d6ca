use Rattle.tg_model_laws.proofs.OpeningSteps.{opening_alone, opening_gives, opening_opens, opening_shows, opening_starts}
use Rattle.tg_model_laws.proofs.openings.taken_blocks.Goals as goal

pub returns : goal.returns
returns c =
    let laws = c.traversal_stages.ensures in
    record {
      start = opening_starts laws;
      up_to_next = opening_gives laws;
      opened = opening_opens laws c.placed_children.ensures.visits c.placed_children.ensures.steps;
      alone = opening_alone laws;
      shows = opening_shows laws;
    }
