use Rattle.tg_swarm.proofs.Sound.{fronts_are_sound, swarms_are_sound}
use Rattle.tg_swarm.proofs.laws.sound_swarms.Goals as goal

pub returns-clause-fronts : goal.returns-clause-fronts
returns-clause-fronts c = fronts_are_sound c.accepted_roots.ensures.read c.accepted_parts.ensures.content

pub returns-clause-stands : goal.returns-clause-stands
returns-clause-stands c = swarms_are_sound c.accepted_roots.ensures.read c.accepted_parts.ensures.content
