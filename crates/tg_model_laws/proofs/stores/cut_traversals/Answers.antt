use Rattle.tg_model_laws.proofs.DepthLaws.{cuts_at_depths, shown_cut}
use Rattle.tg_model_laws.proofs.stores.cut_traversals.Goals as goal

pub returns-clause-cut : goal.returns-clause-cut
returns-clause-cut c = cuts_at_depths

pub returns-clause-shown : goal.returns-clause-shown
returns-clause-shown c = λ store d most sound holds less.
    shown_cut c.readings.ensures.computed store 1100 most d sound.whole sound.checked (λ section within. (holds.blocks_are section within, holds.bytes section within)) less
