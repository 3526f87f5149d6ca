use Rattle.std.proofs.Common.{◌∙◌}
use Rattle.tg_serve.proofs.packed.put_line.Goals as goal

pub returns-clause-put : goal.returns-clause-put
returns-clause-put g c = rw (c.as_bytes-number.ensures.value ∙ c.format.ensures.text) at c.put_pieces.ensures.put

pub returns-clause-err_front : goal.returns-clause-err_front
returns-clause-err_front g c = rw (c.as_bytes-number.ensures.value ∙ c.format.ensures.text) at c.put_pieces.ensures.err_front
