use Rattle.tg_model_laws.proofs.BesideSteps.{beside_alone, beside_counts, beside_ends, beside_gives, beside_misses, beside_next, beside_opens, beside_refuses, beside_starts, opened_alone, opened_goes_on, opened_passes, opened_stops}
use Rattle.tg_model_laws.proofs.beside.beside_dags.Goals as goal

pub returns : goal.returns
returns c =
    let laws = c.traversal_stages.ensures in
    let stand = c.placed_children.ensures.visits in
    let lead = c.placed_children.ensures.steps in
    let one_kind = c.readings.ensures.one_kind in
    let one_block = c.partial_dags.ensures.one_block in
    record {
      start = beside_starts laws stand lead;
      up_to_next = beside_gives laws stand lead;
      miss = beside_misses laws stand lead;
      done = beside_ends laws stand lead;
      counted = beside_counts laws stand lead;
      next = beside_next laws stand lead;
      opened = λ q d given w section kind tasks sound named r b. beside_opens laws stand lead one_kind one_block q d given w section tasks sound named b kind r;
      alone = λ q d given w section tasks sound unread named b. beside_alone laws stand lead one_kind one_block q d given w section tasks sound named b unread;
      refused = λ q d given w section tasks sound named bad b. beside_refuses laws stand lead one_kind one_block q d given w section tasks sound named b bad;
      passes = opened_passes laws stand lead;
      goes_on = λ q d given w section kind tasks rest l reads r b. opened_goes_on laws stand lead q d given w section.cid tasks section rest l one_kind kind reads r b;
      goes_on_alone = λ q d given w section tasks rest l unread b. opened_alone laws stand lead q d given w section.cid tasks section rest l unread b;
      stops = opened_stops laws stand lead;
    }
