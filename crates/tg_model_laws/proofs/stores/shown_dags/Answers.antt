use Rattle.tg_model_laws.proofs.ShownDags.{front_shown, shown_whole}
use Rattle.tg_model_laws.proofs.stores.shown_dags.Goals as goal

pub returns-clause-whole : goal.returns-clause-whole
returns-clause-whole c = λ store d sound deep holds.
    shown_whole c.readings.ensures.computed store 1100 d sound.whole sound.checked deep (λ section within. (holds.blocks_are section within, holds.bytes section within))

pub returns-clause-front : goal.returns-clause-front
returns-clause-front c = λ store d sound holds.
    front_shown c.readings.ensures.computed store 1100 d sound.whole sound.checked (λ section within. (holds.blocks_are section within, holds.bytes section within))
