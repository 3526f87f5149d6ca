use Rattle.std.proofs.Common.{◌≡◌, ◌<◌, ◌++◌, [], ℕ, List, refl, ap, subst, sym, ◌∙◌, take, length, append-nil, arith, Err}
use Rattle.std.specs.Prelude.{IfErr, Result, ⊤}
use Rattle.std.proofs.lemmas.List.{length-take-le}
use Rattle.std.proofs.lemmas.Result.{err_from_is_err_and}
use Rattle.tg_faults.specs.Faults.{Rose}
use Rattle.tg_model.specs.LimitNumbers.{LimitNumbers}
use Rattle.tg_model.specs.Queries.{QueryParts}
use Rattle.tg_streams.specs.Joining.{took_took, took_untaken}
use Rattle.tg_streams.specs.Streams.{Took, into, through}
use Rattle.tg_client.specs.Body.{HasEnded, IsEndFault, IsStopped}
use Rattle.tg_client.specs.Ends.{IsWithinReceived}
use Rattle.tg_client.specs.declared.fault.ClientFault.{ClientFault}
use Rattle.tg_client.proofs.Coming.{come_first, come_more, come_none, ended_there}
use Rattle.tg_client.proofs.Feeding.{stopped_behind}
use Rattle.tg_client.proofs.Going.{is_within}
use Rattle.tg_client.proofs.Hearing.{end_cause, end_heard, fault_heard, out_cause_from, out_cause_then, stop_cause, stop_heard}
use Rattle.tg_client.specs.Telling.{telling}
use Rattle.tg_client.proofs.Tellers.{MayTell, come_then, heard_as, is_told, knows_stopped, knows_went, not_told, stopped_telling, stopped_then, told_end, told_refused, untold_first, went_telling}
use Rattle.tg_client.proofs.cars.hear_pieces.Given as given
use Rattle.tg_client.proofs.cars.hear_pieces.Goals as goal
use Rattle.tg_client.proofs.cars.hear_pieces.Goals.{After-branch-end, in-Some, in_default-terminal}

pub loop-filled-init : goal.loop-filled-init
loop-filled-init g c = record {
  room = c.requires.room;
  query = refl;
  limits = refl;
  fresh = c.requires.fresh;
  unrefused = c.requires.stands.unrefused;
  within = c.requires.within;
  heard_quiet = refl;
  put_quiet = refl;
  come = come_first g.I.Source.source g.met.I.Source.joins (telling g.S.Sink.sink g.T.TellTerminal.wrote) g.met.T.TellTerminal.joins c.args.input.now c.args.out.now c.args.body.now (g.met.I.Source.rests c.args.input.now)
      (g.met.T.TellTerminal.puts c.args.out.now c.args.out.now [] (g.met.S.Sink.rests c.args.out.now)) c.requires.stands;
  told = λ known. subst (g.T.TellTerminal.knows c.args.out.now) (sym (untold_first c.args.body.now c.requires.stands)) known;
}

pub returns-in_default-clause-verifies : goal.returns-in_default-clause-verifies
returns-in_default-clause-verifies g c =
    let inv = c.loop-filled.invariant in
    fault_heard c.verified_answers.ensures c.args.body.now.verifier.limits c.args.body.now.verifier.left.query c.loop-filled.body (through g.I.Source.source c.args.input.now c.take_piece.new.source) (into (telling g.S.Sink.sink g.T.TellTerminal.wrote) c.args.out.now c.loop-filled.out)
    inv.query inv.limits
    (come_none g.I.Source.source g.met.I.Source.joins (telling g.S.Sink.sink g.T.TellTerminal.wrote) g.met.T.TellTerminal.joins c.args.input.now c.loop-filled.input c.take_piece.new.source c.args.out.now c.loop-filled.out c.loop-filled.body inv.come
    c.in_default.ensures.err_untaken)

pub returns-in_default-clause-cause : goal.returns-in_default-clause-cause
returns-in_default-clause-cause g c =
    let inv = c.loop-filled.invariant in
    (subst (λ (n : ℕ). Rose n (g.I.Source.source.faults c.take_piece.new.source)) inv.heard_quiet c.in_default.ensures.err_rose, inv.put_quiet)

pub returns-then-filled-eq0-clause-verifies : goal.returns-then-filled-eq0-clause-verifies
returns-then-filled-eq0-clause-verifies g c =
    let inv = c.loop-filled.invariant in
    let come = inv.come in
    let w = come.went in
    let old = c.loop-filled.body in
    let input = through g.I.Source.source c.args.input.now c.take_piece.new.source in
    let room : 0 < length c.take_piece.new.buf = omega arith in
    let none : take c.in-Ok.filled c.take_piece.new.buf ≡ [] = ap (λ (n : ℕ). take n c.take_piece.new.buf) c.if-filled-eq0.true in
    let took = took_took _ g.I.Source.source c.args.input.now c.loop-filled.input c.take_piece.new.source come.heard (take c.in-Ok.filled c.take_piece.new.buf) g.met.I.Source.joins come.took c.in-Ok.ensures.took in
    let all : come.heard ++ take c.in-Ok.filled c.take_piece.new.buf ≡ come.heard = ap (λ (l : List ℕ). come.heard ++ l) none ∙ append-nil come.heard in
    end_heard c.args.body.now.verifier.limits c.args.body.now.verifier.left.query input (into (telling g.S.Sink.sink g.T.TellTerminal.wrote) c.args.out.now c.loop-filled.out) come.heard w.sections w.text c.end.result
    (subst (λ (l : List ℕ). Took l input) all took)
    (ended_there g.I.Source.source g.met.I.Source.joins (telling g.S.Sink.sink g.T.TellTerminal.wrote) g.met.T.TellTerminal.joins c.args.input.now c.loop-filled.input c.take_piece.new.source (c.in-Ok.ensures.end c.if-filled-eq0.true room))
    (subst (λ (n : LimitNumbers). IsWithinReceived n come.heard) inv.limits (is_within old come.heard w.sections w.text w.is_body)) w.put
    (subst (λ (n : LimitNumbers). HasEnded c.args.body.now.verifier.left.query n come.heard w.sections w.text c.end.result) inv.limits
    (subst (λ (q : QueryParts). HasEnded q old.verifier.limits come.heard w.sections w.text c.end.result) inv.query (c.end.ensures.stands come.heard w.sections w.text w.is_body)))

pub returns-then-filled-eq0-clause-cause : goal.returns-then-filled-eq0-clause-cause
returns-then-filled-eq0-clause-cause g c =
    let inv = c.loop-filled.invariant in
    end_cause (through g.I.Source.source c.args.input.now c.take_piece.new.source) (into g.S.Sink.sink c.args.out.now c.loop-filled.out) c.end.result (c.in-Ok.ensures.quiet ∙ inv.heard_quiet) inv.put_quiet
    (λ fault e. subst (λ (r : Result ⊤ ClientFault). IfErr r IsEndFault) e (c.end.ensures.cause inv.unrefused inv.fresh))

pub returns-in_default-clause-told : goal.returns-in_default-clause-told
returns-in_default-clause-told g c known =
    let inv = c.loop-filled.invariant in
    let come = inv.come in
    let w = come.went in
    let old = c.loop-filled.body in
    let input = through g.I.Source.source c.args.input.now c.take_piece.new.source in
    let tells = c.told_bodies.ensures old come.heard w.sections w.text w.is_body in
    told_refused c.args.body.now.verifier.left.query c.args.body.now.verifier.limits input (g.T.TellTerminal.knows c.loop-filled.out) come.heard old.verifier.terminal _
    (took_untaken _ g.I.Source.source c.args.input.now c.loop-filled.input c.take_piece.new.source come.heard g.met.I.Source.joins come.took c.in_default.ensures.err_untaken) (inv.told known)
    (heard_as old.verifier.left.query c.args.body.now.verifier.left.query old.verifier.limits c.args.body.now.verifier.limits come.heard old.verifier.terminal inv.query inv.limits tells.so)

pub returns-then-filled-eq0-clause-told : goal.returns-then-filled-eq0-clause-told
returns-then-filled-eq0-clause-told g c known =
    let inv = c.loop-filled.invariant in
    let come = inv.come in
    let w = come.went in
    let old = c.loop-filled.body in
    let input = through g.I.Source.source c.args.input.now c.take_piece.new.source in
    let none : take c.in-Ok.filled c.take_piece.new.buf ≡ [] = ap (λ (n : ℕ). take n c.take_piece.new.buf) c.if-filled-eq0.true in
    let took = took_took _ g.I.Source.source c.args.input.now c.loop-filled.input c.take_piece.new.source come.heard (take c.in-Ok.filled c.take_piece.new.buf) g.met.I.Source.joins come.took c.in-Ok.ensures.took in
    let all : come.heard ++ take c.in-Ok.filled c.take_piece.new.buf ≡ come.heard = ap (λ (l : List ℕ). come.heard ++ l) none ∙ append-nil come.heard in
    told_end c.args.body.now.verifier.left.query c.args.body.now.verifier.limits input (g.T.TellTerminal.knows c.loop-filled.out) c.received_sections.ensures c.verified_answers.ensures
    old come.heard w.sections w.text c.end.result inv.query inv.limits w.is_body (c.told_bodies.ensures old come.heard w.sections w.text w.is_body)
    (c.end.ensures.stands come.heard w.sections w.text w.is_body) (subst (λ (l : List ℕ). Took l input) all took) (inv.told known)

-- what becomes of out behind the feed
may_tell : (g : given.Over) (c : After-branch-end g)
    → MayTell g.S.Sink.sink g.T.TellTerminal.wrote g.T.TellTerminal.knows c.feed-end.new.out c.match-terminal.out c.feed-end.new.self.verifier.terminal
may_tell g c =
    let out = c.feed-end.new.out in
    let now = c.feed-end.new.self.verifier.terminal in
    elim c.match-terminal.branch [
      | in-Some w ↦ rw w.out-is
          (is_told g.S.Sink.sink g.T.TellTerminal.wrote g.T.TellTerminal.knows out w.tell.new.out now w.in-Some.terminal (sym c.terminal.ensures ∙ w.in-Some.is) w.tell.ensures.wrote w.tell.ensures.held w.tell.ensures.faults
          w.tell.ensures.knows)
      | in_default-terminal w ↦ rw w.out-is
          (not_told g.S.Sink.sink g.T.TellTerminal.wrote g.T.TellTerminal.knows out now (g.met.T.TellTerminal.puts out out [] (g.met.S.Sink.rests out)) (sym c.terminal.ensures ∙ w.in_default-terminal.is))
    ]

pub loop-filled-smaller : goal.loop-filled-smaller
loop-filled-smaller g c =
    let after = c.in_ok-end.ensures.heard c.loop-filled.invariant.within in
    let some : length (take c.in-Ok.filled c.take_piece.new.buf) ≡ c.in-Ok.filled = length-take-le c.in-Ok.filled c.take_piece.new.buf c.in-Ok.ensures.within in
    omega (arith, after.0, after.1, some, c.feed-end.ensures.most)

pub loop-filled-preserved : goal.loop-filled-preserved
loop-filled-preserved g c =
    let inv = c.loop-filled.invariant in
    let come = inv.come in
    let before = c.loop-filled.out in
    let new = c.feed-end.new.self in
    let piece : List ℕ = take c.in-Ok.filled c.take_piece.new.buf in
    let counted = c.in_ok-end.ensures.cause inv.unrefused inv.fresh in
    let went = c.in_ok-end.ensures.stands come.heard come.went.sections come.went.text come.went.is_body in
    let out = c.feed-end.new.out in
    let tells = may_tell g (goal.at.loop-filled-preserved g c).After-branch-end in
    record {
      room = omega arith;
      query = c.feed-end.ensures.query ∙ inv.query;
      limits = c.feed-end.ensures.limits ∙ inv.limits;
      fresh = counted.0;
      unrefused = c.in_ok-end.ensures.refused;
      within = (c.in_ok-end.ensures.heard inv.within).1;
      heard_quiet = c.in-Ok.ensures.quiet ∙ inv.heard_quiet;
      put_quiet = tells.quiet ∙ (counted.1 ∙ inv.put_quiet);
      come = come_then (telling g.S.Sink.sink g.T.TellTerminal.wrote) g.met.T.TellTerminal.joins c.args.out.now out c.match-terminal.out tells.none new (through g.I.Source.source c.args.input.now c.take_piece.new.source)
          (come_more g.I.Source.source g.met.I.Source.joins (telling g.S.Sink.sink g.T.TellTerminal.wrote) g.met.T.TellTerminal.joins c.args.input.now c.loop-filled.input c.take_piece.new.source c.args.out.now before out
          c.loop-filled.body new piece come c.in-Ok.ensures.took (went_telling g.S.Sink.sink g.T.TellTerminal.wrote g.met.T.TellTerminal.puts before out new (come.heard ++ piece) come.went.text went));
      told = λ known. tells.known c.loop-filled.body.verifier.terminal c.feed-end.ensures.told
          (knows_went g.S.Sink.sink g.T.TellTerminal.knows g.met.T.TellTerminal.stays before out new (come.heard ++ piece) come.went.text went c.loop-filled.body.verifier.terminal (inv.told known));
    }

pub returns-in_err-end-clause-cause : goal.returns-in_err-end-clause-cause
returns-in_err-end-clause-cause g c =
    let inv = c.loop-filled.invariant in
    let p = err_from_is_err_and c.from_residual.result c.from_residual.ensures.1 in
    let fault = c.in_err-end.field-0.0 in
    let out = c.feed-end.new.out in
    let tells = may_tell g (goal.at.returns-in_err-end-clause-cause g c).After-branch-end in
    rw (p.1, p.2)
    (stop_cause (through g.I.Source.source c.args.input.now c.take_piece.new.source) (into g.S.Sink.sink c.args.out.now c.match-terminal.out) fault (c.in-Ok.ensures.quiet ∙ inv.heard_quiet)
    (λ is. c.in_err-end.ensures.unkept inv.unrefused (ap (λ (f : ClientFault). Err f) is))
    (out_cause_then g.S.Sink.sink c.args.out.now out c.match-terminal.out tells.quiet fault
    (out_cause_from g.S.Sink.sink c.args.out.now c.loop-filled.out out inv.put_quiet fault (c.in_err-end.ensures.cause inv.unrefused inv.fresh))))

pub returns-in_err-end-clause-verifies : goal.returns-in_err-end-clause-verifies
returns-in_err-end-clause-verifies g c =
    let inv = c.loop-filled.invariant in
    let come = inv.come in
    let w = come.went in
    let p = err_from_is_err_and c.from_residual.result c.from_residual.ensures.1 in
    let bytes : List ℕ = come.heard ++ take c.in-Ok.filled c.take_piece.new.buf in
    let fault = c.in_err-end.field-0.0 in
    let old = c.loop-filled.body in
    let before = c.loop-filled.out in
    let taken = c.feed-end.new.self.verifier.taken in
    let q = c.args.body.now.verifier.left.query in
    let limits = c.args.body.now.verifier.limits in
    let out = c.feed-end.new.out in
    let tells = may_tell g (goal.at.returns-in_err-end-clause-verifies g c).After-branch-end in
    let after = into g.S.Sink.sink before out in
    rw (p.1, p.2)
    (stop_heard limits q (through g.I.Source.source c.args.input.now c.take_piece.new.source) (into (telling g.S.Sink.sink g.T.TellTerminal.wrote) c.args.out.now c.match-terminal.out) bytes fault
    (took_took _ g.I.Source.source c.args.input.now c.loop-filled.input c.take_piece.new.source come.heard (take c.in-Ok.filled c.take_piece.new.buf) g.met.I.Source.joins come.took c.in-Ok.ensures.took) taken
    (stopped_then (telling g.S.Sink.sink g.T.TellTerminal.wrote) g.met.T.TellTerminal.joins c.args.out.now out c.match-terminal.out tells.none q limits taken bytes [] fault
    (stopped_behind (telling g.S.Sink.sink g.T.TellTerminal.wrote) g.met.T.TellTerminal.joins c.args.out.now before out [] w.text w.put q limits taken bytes fault
    (stopped_telling g.S.Sink.sink g.T.TellTerminal.wrote g.met.T.TellTerminal.puts before out q limits taken bytes w.text fault
    (subst (λ (n : LimitNumbers). IsStopped q n taken bytes w.text after fault) inv.limits
    (subst (λ (q : QueryParts). IsStopped q old.verifier.limits taken bytes w.text after fault) inv.query (c.in_err-end.ensures.stands come.heard w.sections w.text w.is_body)))))))

pub returns-in_err-end-clause-told : goal.returns-in_err-end-clause-told
returns-in_err-end-clause-told g c known =
    let inv = c.loop-filled.invariant in
    let come = inv.come in
    let w = come.went in
    let p = err_from_is_err_and c.from_residual.result c.from_residual.ensures.1 in
    let bytes : List ℕ = come.heard ++ take c.in-Ok.filled c.take_piece.new.buf in
    let fault = c.in_err-end.field-0.0 in
    let old = c.loop-filled.body in
    let out = c.feed-end.new.out in
    let now = c.feed-end.new.self.verifier.terminal in
    let tells = may_tell g (goal.at.returns-in_err-end-clause-told g c).After-branch-end in
    let told = tells.known old.verifier.terminal c.in_err-end.ensures.told
    (knows_stopped g.S.Sink.sink g.T.TellTerminal.knows g.met.T.TellTerminal.stays c.loop-filled.out out old.verifier.left.query old.verifier.limits c.feed-end.new.self.verifier.taken bytes w.text fault
    (c.in_err-end.ensures.stands come.heard w.sections w.text w.is_body) old.verifier.terminal (inv.told known)) in
    rw (p.1, p.2)
    (told_refused c.args.body.now.verifier.left.query c.args.body.now.verifier.limits (through g.I.Source.source c.args.input.now c.take_piece.new.source) (g.T.TellTerminal.knows c.match-terminal.out) bytes now fault
    (took_took _ g.I.Source.source c.args.input.now c.loop-filled.input c.take_piece.new.source come.heard (take c.in-Ok.filled c.take_piece.new.buf) g.met.I.Source.joins come.took c.in-Ok.ensures.took) told
    (heard_as old.verifier.left.query c.args.body.now.verifier.left.query old.verifier.limits c.args.body.now.verifier.limits bytes now inv.query inv.limits
    (c.in_err-end.ensures.terminal come.heard w.sections w.text w.is_body)))
