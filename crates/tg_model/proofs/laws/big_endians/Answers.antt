use Rattle.tg_model.proofs.BitLemmas.{big_endian_below, first_byte}
use Rattle.tg_model.proofs.laws.big_endians.Goals as goal

pub returns-clause-first : goal.returns-clause-first
returns-clause-first c = first_byte

pub returns-clause-below : goal.returns-clause-below
returns-clause-below c = big_endian_below
