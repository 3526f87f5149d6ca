use Rattle.std.proofs.Common.{List, subst}
use Rattle.std.proofs.lemmas.Result.{err_from_is_err_and}
use Rattle.tg_dagpb.specs.declared.Link.{Link}
use Rattle.tg_node.specs.NodeTexts.{LinkLines}
use Rattle.tg_node.proofs.NodeLines.{payload_caused}
use Rattle.tg_node.proofs.text.lines_of.Goals as goal

pub returns-in_err-push_payload : goal.returns-in_err-push_payload
returns-in_err-push_payload c =
    let p = err_from_is_err_and c.from_residual-in_err-push_payload.result c.from_residual-in_err-push_payload.ensures.1 in
    let lines = c.in_ok-push_links.ensures in
    rw (p.1, p.2) (payload_caused c.args.node.now lines.0 c.in_err-push_payload.field-0.0
    (subst (λ (ls : List Link). LinkLines ls lines.0) c.as_slice-links.ensures lines.1) c.in_err-push_payload.ensures.lines)
