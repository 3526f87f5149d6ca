use Rattle.std.proofs.Common.{◌≡◌, ℕ, List, [], Result, Err, ap, sym, ◌∙◌}
use Rattle.std.proofs.lemmas.Result.{err_from_is_err_and}
use Rattle.tg_cid.specs.declared.cid.Codec.TheVariants.{DagPb}
use Rattle.tg_cid.specs.declared.cid.HashKind.TheVariants.{Sha256}
use Rattle.tg_node.specs.NodeTexts.{fault_of_pb}
use Rattle.tg_node.specs.declared.fault.TextFault.{TextFault}
use Rattle.tg_node.specs.declared.fault.TextFault.TheVariants.{OutOfMemory}
use Rattle.tg_node.proofs.NodeLines.{node_err, exact_lines, wants_pb}
use Rattle.tg_node.proofs.text.dag_pb_text.Goals as goal

pub returns-in_err-node-clause-exact : goal.returns-in_err-node-clause-exact
returns-in_err-node-clause-exact c =
    let p = err_from_is_err_and c.from_residual.result c.from_residual.ensures.1 in
    rw (p.1, p.2) (node_err c.args.block.now c.in_err-node.field-0.0 c.in_err-node.ensures.only c.in_err-node.ensures.cause)

pub returns-in_err-node-clause-memory : goal.returns-in_err-node-clause-memory
returns-in_err-node-clause-memory c = λ wants.
    let p = err_from_is_err_and c.from_residual.result c.from_residual.ensures.1 in
    let from : ◌≡◌ {A = Result (List ℕ) TextFault} (Err (fault_of_pb c.in_err-node.field-0.0)) (Err OutOfMemory) = ap Err (sym p.2) ∙ sym p.1 ∙ wants in
    let good = c.in_err-node.ensures.memory (ap Err (wants_pb c.in_err-node.field-0.0 from)) in
    (good.0, good.1)

pub returns-clause-exact : goal.returns-clause-exact
returns-clause-exact c =
    exact_lines c.args.block.now c.in_ok-node.node c.lines_of.result
    (record {
      text_is = c.in_ok-node.ensures.found;
      only = c.in_ok-node.ensures.only;
      good = λ fault cause. let e = c.in_ok-node.ensures.given fault cause in absurd (cc);
    })
    (λ a b p q. c.one_node_text.ensures (record { version = 1; codec = DagPb; hash = Sha256; digest = [] }) c.args.block.now a b p q)
    c.lines_of.ensures
