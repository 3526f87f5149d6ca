use Rattle.tg_parts.proofs.Accepted.{accepted_stay}
use Rattle.tg_parts.proofs.Written.{parts_are_content}
use Rattle.tg_parts.proofs.accepted_parts.Goals as goal

pub returns-clause-content : goal.returns-clause-content
returns-clause-content c = parts_are_content c.slices_join.ensures.front c.file_parts.ensures c.accepted_roots.ensures.total

pub returns-clause-stay : goal.returns-clause-stay
returns-clause-stay c = accepted_stay
