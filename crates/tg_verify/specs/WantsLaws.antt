-- Which section is wanted next.
use Rattle.std.specs.Prelude.{[]}
use Rattle.tg_model.specs.Dag.{Section}
use Rattle.tg_model.specs.Queries.{QueryParts}
use Rattle.tg_model_laws.specs.Verified.{WantsNext}

-- none behind the last
pub none_next : (q : QueryParts) (section : Section) → WantsNext q [] section → ⊥
none_next q section h = let e = h.then_is in absurd (cc e)
