use Rattle.std.proofs.Common.{◌≡◌, Result, Ok, Err, ap, ◌∙◌, sym, subst}
use Rattle.std.proofs.lemmas.Result.{err_from_is_err_and}
use Rattle.tg_pbtable.specs.declared.fault.PbFault.{PbFault}
use Rattle.tg_dagpb.specs.declared.Node.{Node}
use Rattle.tg_dagpb.specs.Node.{HasContent, NodeText}
use Rattle.tg_dagpb.proofs.Cursors.{start_between}
use Rattle.tg_dagpb.proofs.Same.{node_with}
use Rattle.tg_dagpb.proofs.reading.decode.Goals as goal

err_same : {T : Type 0} (a b : PbFault) → ◌≡◌ {A = Result T PbFault} (Err a) (Err b) → a ≡ b
err_same a b e = cc

not_both : {T : Type 0} (x : T) (fault : PbFault) → ◌≡◌ {A = Result T PbFault} (Ok x) (Err fault) → ⊥
not_both x fault e = absurd (cc)

pub returns-in_err-payload-clause-only : goal.returns-in_err-payload-clause-only
returns-in_err-payload-clause-only c = λ node text. absurd (c.in_err-payload.ensures.only node text)

pub returns-in_err-payload-clause-given : goal.returns-in_err-payload-clause-given
returns-in_err-payload-clause-given c = λ fault cause.
    let p = err_from_is_err_and c.from_residual.result c.from_residual.ensures.1 in
    rw (p.1, p.2) (ap (λ (x : PbFault). Err x) (err_same c.in_err-payload.field-0.0 fault (c.in_err-payload.ensures.given fault cause)))

pub returns-clause-found : goal.returns-clause-found
returns-clause-found c =
    let text = c.args.bytes.now in
    let h = c.in_ok-payload.ensures.found in
    let same : c.in_ok-copied.field-0 ≡ h.node = c.in_ok-copied.ensures.node h.node.links (start_between text h.node h.is_text) ∙ ap (node_with h.node.links) h.payload_is in
    subst (λ (node : Node). NodeText node text) (sym same) h.is_text

pub returns-clause-only : goal.returns-clause-only
returns-clause-only c = λ node text.
    c.in_ok-copied.ensures.node node.links (start_between c.args.bytes.now node text) ∙ ap (node_with node.links) (c.in_ok-payload.ensures.only node text)

pub returns-in_err-copied-clause-memory : goal.returns-in_err-copied-clause-memory
returns-in_err-copied-clause-memory c = λ _.
    let h = c.in_ok-payload.ensures.found in
    let content = c.in_err-copied.ensures.memory h.node.links (start_between c.args.bytes.now h.node h.is_text) in
    (h.node, h.is_text, subst HasContent (ap (node_with h.node.links) h.payload_is) content)

pub returns-in_err-copied-clause-given : goal.returns-in_err-copied-clause-given
returns-in_err-copied-clause-given c = λ fault cause. absurd (not_both c.in_ok-payload.payload fault (c.in_ok-payload.ensures.given fault cause))

pub returns-clause-given : goal.returns-clause-given
returns-clause-given c = λ fault cause. absurd (not_both c.in_ok-payload.payload fault (c.in_ok-payload.ensures.given fault cause))
