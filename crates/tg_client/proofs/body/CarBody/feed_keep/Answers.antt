use Rattle.std.proofs.Common.{Ok, rules, ◌≡◌, ◌+◌, ◌-◌, ◌++◌, ℕ, List, refl, ap, sym, subst, ◌∙◌, take, drop, length, append_assoc, arith}
use Rattle.std.proofs.lemmas.List.{length-drop, length-take, take_rest, take-append-drop, take_all}
use Rattle.std.proofs.lemmas.Result.{err_from_is_err_and}
use Rattle.std.proofs.Math.Seq.{take-add}
use Rattle.tg_model.specs.LimitNumbers.{LimitNumbers}
use Rattle.tg_model.specs.Queries.{QueryParts}
use Rattle.tg_model.specs.Stores.{kept_in}
use Rattle.tg_streams.specs.Streams.{into}
use Rattle.tg_client.specs.Keeping.{StoppedKeeping, WentOnKeeping}
use Rattle.tg_client.proofs.Feeding.{fed_stands, keep_cause_from, stopped_on, went_further, went_nothing}
use Rattle.tg_client.proofs.Terminals.{heard_as, told_further, told_stays}
use Rattle.tg_client.proofs.body.CarBody.feed_keep.Goals as goal

pub loop-at-init : goal.loop-at-init
loop-at-init g c = record {
  query = refl;
  limits = refl;
  unrefused = search rules;
  most = refl;
  within = omega arith;
  heard = λ e. (omega arith, e);
  cause = λ e. (e, refl);
  quiet = refl;
  told = told_stays c.args.self.now.verifier.terminal;
  kept = λ heard sections written h.
      went_nothing g.K.Keep.keeper c.args.keep.now (g.met.K.Keep.rests c.args.keep.now) g.S.Sink.sink c.args.out.now (g.met.S.Sink.rests c.args.out.now) c.args.self.now heard sections written h;
}

pub returns-in_err-at-clause-kept : goal.returns-in_err-at-clause-kept
returns-in_err-at-clause-kept g c heard sections written h =
    let p = err_from_is_err_and c.from_residual.result c.from_residual.ensures.1 in
    let w = c.loop-at.invariant.kept heard sections written h in
    let piece : List ℕ = c.args.piece.now in
    let at : ℕ = c.loop-at.at in
    let rest : List ℕ = take (length piece - at) (drop at piece) in
    let all : piece ≡ take at piece ++ rest = sym (take-append-drop at piece) ∙ ap (λ (l : List ℕ). take at piece ++ l) (sym (take_rest piece at)) in
    let out = into g.S.Sink.sink c.loop-at.out c.take.new.out in
    let keeping = kept_in g.K.Keep.keeper c.loop-at.keep c.take.new.keep in
    let fault = c.in_err-at.field-0.0 in
    let stopped = c.in_err-at.ensures.kept (heard ++ take at piece) (sections ++ w.came) (written ++ w.text) w.is_body in
    rw (p.1, p.2)
    (stopped_on g.K.Keep.keeper g.met.K.Keep.joins c.kept_sections.ensures.joins c.args.keep.now c.loop-at.keep c.take.new.keep w.came w.kept
    g.S.Sink.sink g.met.S.Sink.joins c.args.out.now c.loop-at.out c.take.new.out sections written w.text w.put c.args.self.now.verifier.left.query c.args.self.now.verifier.limits c.take.new.self.verifier.taken
    heard piece (take at piece) rest fault all
    (subst (λ (n : LimitNumbers). StoppedKeeping c.args.self.now.verifier.left.query n c.take.new.self.verifier.taken (heard ++ take at piece) rest (sections ++ w.came) (written ++ w.text) out keeping fault)
    c.loop-at.invariant.limits
    (subst (λ (q : QueryParts). StoppedKeeping q c.loop-at.self.verifier.limits c.take.new.self.verifier.taken (heard ++ take at piece) rest (sections ++ w.came) (written ++ w.text) out keeping fault)
    c.loop-at.invariant.query stopped)))

pub loop-at-preserved : goal.loop-at-preserved
loop-at-preserved g c =
    let inv = c.loop-at.invariant in
    let piece : List ℕ = c.args.piece.now in
    let at : ℕ = c.loop-at.at in
    let n : ℕ = c.in_ok-at.field-0 in
    let bounds = c.in_ok-at.ensures.taken in
    record {
      query = c.take.ensures.query ∙ inv.query;
      limits = c.take.ensures.limits ∙ inv.limits;
      unrefused = c.in_ok-at.ensures.refused;
      most = c.take.ensures.most ∙ inv.most;
      within = omega (arith, bounds.1, length-drop at piece, length-take (length piece - at) (drop at piece));
      heard = λ e.
          let before = inv.heard e in
          let after = c.in_ok-at.ensures.heard in
          (omega (arith, before.0, after.0), after.1);
      cause = λ e.
          let before = inv.cause e in
          let after = c.in_ok-at.ensures.cause inv.unrefused before.0 in
          (after.0, after.1 ∙ before.1);
      quiet = c.in_ok-at.ensures.keep_cause inv.unrefused ∙ inv.quiet;
      told = told_further c.args.self.now.verifier.terminal c.loop-at.self.verifier.terminal c.take.new.self.verifier.terminal inv.told c.take.ensures.told;
      kept = λ heard sections written h.
          let w = inv.kept heard sections written h in
          let rest : List ℕ = take (length piece - at) (drop at piece) in
          let all : (heard ++ take at piece) ++ take n rest ≡ heard ++ take (at + n) piece =
          ap (λ (l : List ℕ). (heard ++ take at piece) ++ take n l) (take_rest piece at)
          ∙ (append_assoc heard (take at piece) (take n (drop at piece)) ∙ ap (λ (l : List ℕ). heard ++ l) (sym (take-add at n piece))) in
          let on = c.in_ok-at.ensures.kept (heard ++ take at piece) (sections ++ w.came) (written ++ w.text) w.is_body in
          subst (λ (l : List ℕ). WentOnKeeping c.take.new.self l sections written (into g.S.Sink.sink c.args.out.now c.take.new.out) (kept_in g.K.Keep.keeper c.args.keep.now c.take.new.keep)) all
          (went_further g.K.Keep.keeper g.met.K.Keep.joins c.kept_sections.ensures.joins c.args.keep.now c.loop-at.keep c.take.new.keep w.came w.kept
          g.S.Sink.sink g.met.S.Sink.joins c.args.out.now c.loop-at.out c.take.new.out sections written w.text w.put c.take.new.self ((heard ++ take at piece) ++ take n rest) on);
    }

pub returns-clause-kept : goal.returns-clause-kept
returns-clause-kept g c heard sections written h =
    let all : take c.loop-at.at c.args.piece.now ≡ c.args.piece.now = take_all c.loop-at.at c.args.piece.now c.loop-at-test.false in
    subst (λ (l : List ℕ). WentOnKeeping c.loop-at.self (heard ++ l) sections written (into g.S.Sink.sink c.args.out.now c.loop-at.out) (kept_in g.K.Keep.keeper c.args.keep.now c.loop-at.keep)) all
    (c.loop-at.invariant.kept heard sections written h)

pub returns-in_err-at-clause-stands : goal.returns-in_err-at-clause-stands
returns-in_err-at-clause-stands g c heard sections written h =
    fed_stands c.from_residual.result c.args.self.now.verifier.left.query c.args.self.now.verifier.limits c.take.new.self.verifier.taken c.take.new.self heard c.args.piece.now sections written
    (into g.S.Sink.sink c.args.out.now c.take.new.out) (kept_in g.K.Keep.keeper c.args.keep.now c.take.new.keep) (returns-in_err-at-clause-kept g c heard sections written h)

pub returns-in_err-at-clause-keep_cause : goal.returns-in_err-at-clause-keep_cause
returns-in_err-at-clause-keep_cause g c none =
    let p = err_from_is_err_and c.from_residual.result c.from_residual.ensures.1 in
    rw (p.1, p.2)
    (keep_cause_from g.K.Keep.keeper c.args.keep.now c.loop-at.keep c.take.new.keep c.loop-at.invariant.quiet c.in_err-at.field-0.0 (c.in_err-at.ensures.keep_cause c.loop-at.invariant.unrefused))

pub returns-clause-stands : goal.returns-clause-stands
returns-clause-stands g c heard sections written h =
    fed_stands (Ok tt) c.args.self.now.verifier.left.query c.args.self.now.verifier.limits c.loop-at.self.verifier.taken c.loop-at.self heard c.args.piece.now sections written
    (into g.S.Sink.sink c.args.out.now c.loop-at.out) (kept_in g.K.Keep.keeper c.args.keep.now c.loop-at.keep) (returns-clause-kept g c heard sections written h)

pub returns-in_err-at-clause-terminal : goal.returns-in_err-at-clause-terminal
returns-in_err-at-clause-terminal g c heard sections written h =
    let inv = c.loop-at.invariant in
    let w = inv.kept heard sections written h in
    let piece : List ℕ = c.args.piece.now in
    let at : ℕ = c.loop-at.at in
    let rest : List ℕ = take (length piece - at) (drop at piece) in
    let all : take at piece ++ rest ≡ piece = ap (λ (l : List ℕ). take at piece ++ l) (take_rest piece at) ∙ take-append-drop at piece in
    heard_as c.loop-at.self.verifier.left.query c.args.self.now.verifier.left.query c.loop-at.self.verifier.limits c.args.self.now.verifier.limits
    ((heard ++ take at piece) ++ rest) (heard ++ piece) c.take.new.self.verifier.terminal inv.query inv.limits
    (append_assoc heard (take at piece) rest ∙ ap (λ (l : List ℕ). heard ++ l) all)
    (c.take.ensures.terminal (heard ++ take at piece) (sections ++ w.came) (written ++ w.text) w.is_body)

pub returns-in_err-at-clause-told : goal.returns-in_err-at-clause-told
returns-in_err-at-clause-told g c =
    told_further c.args.self.now.verifier.terminal c.loop-at.self.verifier.terminal c.take.new.self.verifier.terminal c.loop-at.invariant.told c.take.ensures.told

pub returns-clause-terminal : goal.returns-clause-terminal
returns-clause-terminal g c heard sections written h =
    let inv = c.loop-at.invariant in
    let w = inv.kept heard sections written h in
    let piece : List ℕ = c.args.piece.now in
    let at : ℕ = c.loop-at.at in
    heard_as c.loop-at.self.verifier.left.query c.args.self.now.verifier.left.query c.loop-at.self.verifier.limits c.args.self.now.verifier.limits
    (heard ++ take at piece) (heard ++ piece) c.loop-at.self.verifier.terminal inv.query inv.limits
    (ap (λ (l : List ℕ). heard ++ l) (take_all at piece c.loop-at-test.false))
    (c.told_bodies.ensures c.loop-at.self (heard ++ take at piece) (sections ++ w.came) (written ++ w.text) w.is_body).so
