use Rattle.tg_serve.proofs.packed.serve_attached.Goals as goal

pub returns-in-Ok-clause-pack : goal.returns-in-Ok-clause-pack
returns-in-Ok-clause-pack g c = rw (c.in-Ok.is, c.into_pack.ensures) c.serve_store-store.ensures.looked.looked.moved.did
