use Rattle.tg_store.proofs.Finished.{attached_once, finished_attached}
use Rattle.tg_store.specs.Attaching.{IsAttached}
use Rattle.tg_store.specs.Entries.{store_of}
use Rattle.tg_store.specs.Packs.{block_at}
use Rattle.tg_store.proofs.laws.finished_packs.Goals as goal

pub returns-clause-attached : goal.returns-clause-attached
returns-clause-attached g c = λ a b c' sections root content new kept finished version sha other told.
    let attached : IsAttached content (store_of (block_at content) c'.places) =
    finished_attached c.car_laws.ensures c.spelling_laws.ensures c.one_spelling.ensures.no_front g.P.Pack.pack a b c' sections root content new kept.moved kept.stored finished version sha other told in
    (attached, λ fault. c.one_cause.ensures.none content (store_of (block_at content) c'.places) fault attached)

pub returns-clause-same : goal.returns-clause-same
returns-clause-same g c = λ content s t cid h k. attached_once c.car_laws.ensures c.spelling_laws.ensures c.one_spelling.ensures.no_front content s t cid h k
