use Rattle.std.proofs.Common.{◌<◌, [], ◌∷◌, ◌++◌, Err, refl, ap, inl, inr, arith}
use Rattle.std.proofs.lemmas.Result.{err_from_is_err_and}
use Rattle.std.proofs.lemmas.List.Elements.{All-nil}
use Rattle.tg_pbtable.specs.declared.fault.PbFault.{PbFault}
use Rattle.tg_pbtable.specs.declared.table.Order.TheVariants.{Runs}
use Rattle.tg_pbtable.specs.Message.{Message}
use Rattle.std.specs.Prelude.{All}
use Rattle.tg_pbtable.specs.Values.{bytes_at}
use Rattle.tg_pbtable.specs.Place.{placed_bytes}
use Rattle.tg_dagpb.specs.declared.TheConstants.{NODE}
use Rattle.tg_dagpb.specs.Reading.{HasFirstBad}
use Rattle.tg_dagpb.specs.Faults.{IsLinkText}
use Rattle.tg_dagpb.proofs.Causes.{node_has_none, one_node_cause}
use Rattle.tg_dagpb.proofs.Checking.{last_wire, verdict_more, verdict_kept, payload_more, payload_there, payload_only, bad_link_there}
use Rattle.tg_dagpb.proofs.Cursors.{start_between}
use Rattle.tg_dagpb.proofs.reading.payload_at.Goals as goal

pub loop-field-init : goal.loop-field-init
loop-field-init c = record {
  fields = [];
  read = c.new-cursor.ensures.read NODE.now Runs c.args.bytes.now refl;
  verdict = All-nil IsLinkText;
  payload_is = refl;
  inside = tt;
}

pub returns-in_err-field-clause-only : goal.returns-in_err-field-clause-only
returns-in_err-field-clause-only c = λ node text.
    let h = c.in_err-field.ensures.next c.loop-field.invariant.fields c.loop-field.invariant.read in
    absurd (node_has_none c.table_laws.ensures c.args.bytes.now node c.in_err-field.field-0.0 text (inl h))

pub returns-in_err-field-clause-cause : goal.returns-in_err-field-clause-cause
returns-in_err-field-clause-cause c =
    let p = err_from_is_err_and c.from_residual.result c.from_residual.ensures.1 in
    rw (p.1, p.2) (inl (c.in_err-field.ensures.next c.loop-field.invariant.fields c.loop-field.invariant.read))

pub returns-in_err-field-clause-given : goal.returns-in_err-field-clause-given
returns-in_err-field-clause-given c = λ fault cause.
    let p = err_from_is_err_and c.from_residual.result c.from_residual.ensures.1 in
    let h = c.in_err-field.ensures.next c.loop-field.invariant.fields c.loop-field.invariant.read in
    rw (p.1, p.2) (ap (λ (x : PbFault). Err x) (one_node_cause c.table_laws.ensures c.args.bytes.now c.in_err-field.field-0.0 fault (inl h) cause))

pub link_fault-bad-requires-clause-lies : goal.link_fault-bad-requires-clause-lies
link_fault-bad-requires-clause-lies c =
    let h = rw c.in-Some.is at (c.in_ok-field.ensures.next c.loop-field.invariant.fields c.loop-field.invariant.read) in
    h.1

pub link_fault-bad-requires-clause-wire : goal.link_fault-bad-requires-clause-wire
link_fault-bad-requires-clause-wire c =
    let h = rw c.in-Some.is at (c.in_ok-field.ensures.next c.loop-field.invariant.fields c.loop-field.invariant.read) in
    last_wire NODE.now c.loop-field.invariant.fields c.in-Some.field h.0.begins.ruled

pub loop-field-smaller-then-is_none : goal.loop-field-smaller-then-is_none
loop-field-smaller-then-is_none c =
    let h = rw c.in-Some.is at (c.in_ok-field.ensures.next c.loop-field.invariant.fields c.loop-field.invariant.read) in
    let up : c.loop-field.cursor.at < c.next.new.self.at = h.2 in
    omega (arith, c.in_ok-field.ensures.inside)

pub loop-field-preserved-then-is_none : goal.loop-field-preserved-then-is_none
loop-field-preserved-then-is_none c =
    let fs = c.loop-field.invariant.fields in
    let text = c.args.bytes.now in
    let f = c.in-Some.field in
    let h = rw c.in-Some.is at (c.in_ok-field.ensures.next c.loop-field.invariant.fields c.loop-field.invariant.read) in
    record {
      fields = fs ++ f ∷ [];
      read = h.0;
      verdict = verdict_more c.table_laws.ensures text fs f c.loop-field.bad c.link_fault-bad.result c.if-is_none.ensures c.loop-field.invariant.verdict c.link_fault-bad.ensures;
      payload_is = payload_more c.table_laws.ensures text fs f (placed_bytes text c.loop-field.payload) (placed_bytes text c.with_payload-payload.result) c.loop-field.invariant.payload_is (c.with_payload-payload.ensures.bytes text);
      inside = c.with_payload-payload.ensures.inside text h.1 c.loop-field.invariant.inside;
    }

pub loop-field-smaller : goal.loop-field-smaller
loop-field-smaller c =
    let h = rw c.in-Some.is at (c.in_ok-field.ensures.next c.loop-field.invariant.fields c.loop-field.invariant.read) in
    let up : c.loop-field.cursor.at < c.next.new.self.at = h.2 in
    omega (arith, c.in_ok-field.ensures.inside)

pub loop-field-preserved : goal.loop-field-preserved
loop-field-preserved c =
    let fs = c.loop-field.invariant.fields in
    let text = c.args.bytes.now in
    let f = c.in-Some.field in
    let h = rw c.in-Some.is at (c.in_ok-field.ensures.next c.loop-field.invariant.fields c.loop-field.invariant.read) in
    record {
      fields = fs ++ f ∷ [];
      read = h.0;
      verdict = verdict_kept text fs f c.loop-field.bad c.if-is_none.ensures c.loop-field.invariant.verdict;
      payload_is = payload_more c.table_laws.ensures text fs f (placed_bytes text c.loop-field.payload) (placed_bytes text c.with_payload-payload.result) c.loop-field.invariant.payload_is (c.with_payload-payload.ensures.bytes text);
      inside = c.with_payload-payload.ensures.inside text h.1 c.loop-field.invariant.inside;
    }

pub returns-in-Some-bad-clause-cause : goal.returns-in-Some-bad-clause-cause
returns-in-Some-bad-clause-cause c =
    let fs = c.loop-field.invariant.fields in
    let message : Message NODE.now Runs c.args.bytes.now fs = rw c.in_default.is at (c.in_ok-field.ensures.next fs c.loop-field.invariant.read) in
    let verdict : HasFirstBad c.args.bytes.now fs c.in-Some-bad.fault = rw c.in-Some-bad.is at c.loop-field.invariant.verdict in
    inr (bad_link_there c.args.bytes.now fs c.in-Some-bad.fault message verdict)

pub returns-in-Some-bad-clause-only : goal.returns-in-Some-bad-clause-only
returns-in-Some-bad-clause-only c = λ node text.
    absurd (node_has_none c.table_laws.ensures c.args.bytes.now node c.in-Some-bad.fault text (returns-in-Some-bad-clause-cause c))

pub returns-in-Some-bad-clause-given : goal.returns-in-Some-bad-clause-given
returns-in-Some-bad-clause-given c = λ fault cause.
    ap (λ (x : PbFault). Err x) (one_node_cause c.table_laws.ensures c.args.bytes.now c.in-Some-bad.fault fault (returns-in-Some-bad-clause-cause c) cause)

pub returns-in-None-clause-found : goal.returns-in-None-clause-found
returns-in-None-clause-found c =
    let fs = c.loop-field.invariant.fields in
    let message : Message NODE.now Runs c.args.bytes.now fs = rw c.in_default.is at (c.in_ok-field.ensures.next fs c.loop-field.invariant.read) in
    let verdict : All IsLinkText (bytes_at c.args.bytes.now 2 fs) = rw c.in-None.is at c.loop-field.invariant.verdict in
    payload_there c.table_laws.ensures c.args.bytes.now fs c.loop-field.payload message verdict c.loop-field.invariant.payload_is

pub returns-in-None-clause-cursor : goal.returns-in-None-clause-cursor
returns-in-None-clause-cursor c =
    let h = returns-in-None-clause-found c in
    ([], h.node.links, start_between c.args.bytes.now h.node h.is_text)

pub returns-in-None-clause-only : goal.returns-in-None-clause-only
returns-in-None-clause-only c = λ node text. payload_only c.table_laws.ensures c.args.bytes.now c.loop-field.payload (returns-in-None-clause-found c) node text

pub returns-in-None-clause-given : goal.returns-in-None-clause-given
returns-in-None-clause-given c = λ fault cause.
    let h = returns-in-None-clause-found c in
    absurd (node_has_none c.table_laws.ensures c.args.bytes.now h.node fault h.is_text cause)
