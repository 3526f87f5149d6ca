use Rattle.tg_verify.proofs.Owning.{SoundLaws, own_laws}
use Rattle.tg_verify.proofs.laws.own_sections_taken.Goals as goal

pub returns : goal.returns
returns c =
    let laws : SoundLaws = record { alike = c.paths.ensures; through = c.traversals.ensures.through; own = c.own_sections.ensures } in
    own_laws c.verified_sections.ensures c.beside_dags.ensures c.readings.ensures.computed laws
