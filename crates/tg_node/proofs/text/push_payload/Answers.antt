use Rattle.std.proofs.lemmas.Result.{err_from_is_err_and}
use Rattle.tg_node.proofs.NodeLines.{payload_err}
use Rattle.tg_node.proofs.text.push_payload.Goals as goal

pub returns-in_err-unix-clause-lines : goal.returns-in_err-unix-clause-lines
returns-in_err-unix-clause-lines c =
    let p = err_from_is_err_and c.from_residual-in_err-unix.result c.from_residual-in_err-unix.ensures.1 in
    rw (p.1, p.2) (payload_err c.args.payload.now c.as_slice-payload.result.now _ c.in_err-unix.field-0.0 c.in-Some.is c.as_slice-payload.ensures
    c.in_err-unix.ensures.only c.in_err-unix.ensures.cause)
