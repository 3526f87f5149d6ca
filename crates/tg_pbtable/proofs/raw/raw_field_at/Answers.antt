use Rattle.std.proofs.lemmas.Result.{err_from_is_err_and}
use Rattle.tg_pbtable.proofs.Whole.{field_there, fault_there, unsliced}
use Rattle.tg_pbtable.proofs.raw.raw_field_at.Goals as goal

pub returns : goal.returns
returns c = field_there c.args.at c.args.bytes.now c.in_ok-key.key c.in_ok-key.size c.in_ok-value.value (unsliced c.args.at c.args.bytes.now _ _ c.in_ok-key.ensures) c.in_ok-value.ensures

pub returns-in_err-value : goal.returns-in_err-value
returns-in_err-value c =
    let p = err_from_is_err_and c.from_residual-in_err-value.result c.from_residual-in_err-value.ensures.1 in
    rw (p.1, p.2) (fault_there c.args.at c.args.bytes.now c.in_ok-key.key c.in_ok-key.size c.in_err-value.field-0.0 (unsliced c.args.at c.args.bytes.now _ _ c.in_ok-key.ensures) c.in_err-value.ensures)
