use Rattle.tg_store.proofs.Growing.{kept_text}
use Rattle.tg_store.proofs.laws.pack_laws.Goals as goal

pub returns : goal.returns
returns g c = λ a b sections content new kept told. kept_text g.P.Pack.pack a b sections content new kept told
