use Rattle.tg_node.proofs.NodeLines.{bad_alone}
use Rattle.tg_node.proofs.text.push_link.Goals as goal

pub returns-in_default-clause-line : goal.returns-in_default-clause-line
returns-in_default-clause-line c = bad_alone c.args.link.now (λ is_cid.
    let was = c.in_default.is in
    let found = c.from_bytes.ensures.only is_cid.0 (rw c.as_slice.ensures is_cid.1) in
    absurd (cc))
