use Rattle.tg_parts.proofs.Roots.{root_is_read, roots_stay, total_is_told, totals_stay}
use Rattle.tg_parts.proofs.accepted_roots.Goals as goal

pub returns-clause-read : goal.returns-clause-read
returns-clause-read c = root_is_read c.readings.ensures.computed

pub returns-clause-total : goal.returns-clause-total
returns-clause-total c = total_is_told c.readings.ensures.computed c.file_sizes.ensures

pub returns-clause-block_stays : goal.returns-clause-block_stays
returns-clause-block_stays c = roots_stay

pub returns-clause-total_stays : goal.returns-clause-total_stays
returns-clause-total_stays c = totals_stay
