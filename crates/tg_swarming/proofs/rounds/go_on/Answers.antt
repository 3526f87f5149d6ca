use Rattle.std.proofs.Common.{ap, arith, length, subst, sym, ◌∙◌}
use Rattle.std.proofs.lemmas.Option.{slice_get_within}
use Rattle.std.specs.List.{slice_get}
use Rattle.std.proofs.lemmas.Result.{err_from_is_err_and}
use Rattle.tg_swarming.proofs.Counting.{keeps_both}
use Rattle.tg_swarming.proofs.Moments.{go_as, go_both, running_as, running_on, stop_as, stop_behind}
use Rattle.tg_swarming.specs.Counts.{KeepsCount, open_count}
use Rattle.tg_swarming.specs.Rounds.{GoOn, HasAddr, IsAny, meanings, moment_of}
use Rattle.tg_swarming.proofs.Stepping.{heard_steps}
use Rattle.tg_swarming.proofs.rounds.go_on.Goals as goal

pub begin-requires-clause-addr : goal.begin-requires-clause-addr
begin-requires-clause-addr g c = c.requires.addr

pub begin-requires-clause-runs : goal.begin-requires-clause-runs
begin-requires-clause-runs g c = c.requires.runs

pub returns-in_err-went-clause-goes : goal.returns-in_err-went-clause-goes
returns-in_err-went-clause-goes g c =
    let p = err_from_is_err_and c.from_residual.result c.from_residual.ensures.1 in
    rw (p.1, p.2) c.in_err-went.ensures.goes

pub returns-in_err-went-clause-whole : goal.returns-in_err-went-clause-whole
returns-in_err-went-clause-whole g c =
    let p = err_from_is_err_and c.from_residual.result c.from_residual.ensures.1 in
    rw p.1 tt

pub is_ready-requires : goal.is_ready-requires
is_ready-requires g c =
    let h = c.requires.runs in
    let runs = c.in_ok-went.ensures.goes h.setup h.first h.start h.is_which h.runs in
    let lt = slice_get_within h.setup.addrs c.args.peer c.args.addr.now h.is_which in
    let number = runs.number in
    let size = ap length (c.as_slice.ensures.value ∙ c.lines.view_is) in
    omega (arith, lt, number, size)

pub begin-requires-clause-linked : goal.begin-requires-clause-linked
begin-requires-clause-linked g c = c.requires.linked

pub listen-requires-clause-link : goal.listen-requires-clause-link
listen-requires-clause-link g c =
    let has = c.is_ready.ensures.link c.if-is_ready.true in
    (has.0, ap (λ ls. slice_get ls c.args.peer) (sym (c.as_slice.ensures.value ∙ c.lines.view_is)) ∙ has.1)

pub listen-requires-clause-linked : goal.listen-requires-clause-linked
listen-requires-clause-linked g c = c.in_ok-went.ensures.linked

pub listen-requires-clause-runs : goal.listen-requires-clause-runs
listen-requires-clause-runs g c =
    let m = meanings g.D.Dial.dial g.D.Link.Link.link g.D.Link.Source.source g.S.Sink.sink in
    let x = moment_of c.args.swarm.now c.args.lines.now c.args.dial.now c.args.out.now in
    let y = moment_of c.begin.new.swarm c.begin.new.lines c.is_ready.new.dial c.begin.new.out in
    let first = subst (λ (d : g.row.D.Denot). GoOn m (HasAddr c.args.peer c.args.addr.now) x (moment_of c.begin.new.swarm c.begin.new.lines d c.begin.new.out))
    (sym c.is_ready.ensures.same) c.in_ok-went.ensures.goes in
    running_as m (HasAddr c.args.peer c.args.addr.now) IsAny y (λ setup is. tt)
    (running_on m (HasAddr c.args.peer c.args.addr.now) x y c.requires.runs first)

pub returns-in_err-listen-clause-goes : goal.returns-in_err-listen-clause-goes
returns-in_err-listen-clause-goes g c =
    let p = err_from_is_err_and c.from_residual-in_err-listen.result c.from_residual-in_err-listen.ensures.1 in
    let m = meanings g.D.Dial.dial g.D.Link.Link.link g.D.Link.Source.source g.S.Sink.sink in
    let x = moment_of c.args.swarm.now c.args.lines.now c.args.dial.now c.args.out.now in
    let y = moment_of c.begin.new.swarm c.begin.new.lines c.is_ready.new.dial c.begin.new.out in
    let z = moment_of c.listen.new.swarm c.listen.new.lines c.listen.new.dial c.listen.new.out in
    let first = subst (λ (d : g.row.D.Denot). GoOn m (HasAddr c.args.peer c.args.addr.now) x (moment_of c.begin.new.swarm c.begin.new.lines d c.begin.new.out))
    (sym c.is_ready.ensures.same) c.in_ok-went.ensures.goes in
    rw (p.1, p.2)
    (stop_behind m (HasAddr c.args.peer c.args.addr.now) x y z c.in_err-listen.field-0.0 first
    (stop_as m IsAny (HasAddr c.args.peer c.args.addr.now) y z c.in_err-listen.field-0.0 (λ setup is. tt) c.in_err-listen.ensures.goes))

pub returns-in_err-listen-clause-whole : goal.returns-in_err-listen-clause-whole
returns-in_err-listen-clause-whole g c =
    let p = err_from_is_err_and c.from_residual-in_err-listen.result c.from_residual-in_err-listen.ensures.1 in
    rw p.1 tt

pub returns-then-is_ready-clause-goes : goal.returns-then-is_ready-clause-goes
returns-then-is_ready-clause-goes g c =
    let m = meanings g.D.Dial.dial g.D.Link.Link.link g.D.Link.Source.source g.S.Sink.sink in
    let x = moment_of c.args.swarm.now c.args.lines.now c.args.dial.now c.args.out.now in
    let y = moment_of c.begin.new.swarm c.begin.new.lines c.is_ready.new.dial c.begin.new.out in
    let z = moment_of c.listen.new.swarm c.listen.new.lines c.listen.new.dial c.listen.new.out in
    let first = subst (λ (d : g.row.D.Denot). GoOn m (HasAddr c.args.peer c.args.addr.now) x (moment_of c.begin.new.swarm c.begin.new.lines d c.begin.new.out))
    (sym c.is_ready.ensures.same) c.in_ok-went.ensures.goes in
    go_both m (HasAddr c.args.peer c.args.addr.now) x y z first (go_as m IsAny (HasAddr c.args.peer c.args.addr.now) y z (λ setup is. tt) c.in_ok-listen.ensures.goes)

pub returns-then-is_ready-clause-whole : goal.returns-then-is_ready-clause-whole
returns-then-is_ready-clause-whole g c is = c.in_ok-listen.ensures.whole (c.of.ensures.done is)

pub returns-clause-goes : goal.returns-clause-goes
returns-clause-goes g c = rw c.is_ready.ensures.same c.in_ok-went.ensures.goes

pub returns-clause-whole : goal.returns-clause-whole
returns-clause-whole g c = c.in_ok-went.ensures.whole

-- ---- links and steps

pub returns-in_err-went-clause-linked : goal.returns-in_err-went-clause-linked
returns-in_err-went-clause-linked g c =
    let p = err_from_is_err_and c.from_residual.result c.from_residual.ensures.1 in
    rw p.1 tt

pub returns-in_err-went-clause-steps : goal.returns-in_err-went-clause-steps
returns-in_err-went-clause-steps g c =
    let p = err_from_is_err_and c.from_residual.result c.from_residual.ensures.1 in
    rw p.1 tt

pub returns-in_err-listen-clause-linked : goal.returns-in_err-listen-clause-linked
returns-in_err-listen-clause-linked g c =
    let p = err_from_is_err_and c.from_residual-in_err-listen.result c.from_residual-in_err-listen.ensures.1 in
    rw p.1 tt

pub returns-in_err-listen-clause-steps : goal.returns-in_err-listen-clause-steps
returns-in_err-listen-clause-steps g c =
    let p = err_from_is_err_and c.from_residual-in_err-listen.result c.from_residual-in_err-listen.ensures.1 in
    rw p.1 tt

pub returns-then-is_ready-clause-linked : goal.returns-then-is_ready-clause-linked
returns-then-is_ready-clause-linked g c = c.in_ok-listen.ensures.linked

pub returns-then-is_ready-clause-steps : goal.returns-then-is_ready-clause-steps
returns-then-is_ready-clause-steps g c =
    heard_steps c.args.swarm.now c.begin.new.swarm c.listen.new.swarm c.args.peer _ _ c.in_ok-went.ensures.steps.most c.in_ok-listen.ensures.shorter
    c.of.ensures.nowhere (λ is. c.in_ok-listen.ensures.steps (c.of.ensures.on is))

pub returns-clause-linked : goal.returns-clause-linked
returns-clause-linked g c = c.in_ok-went.ensures.linked

pub returns-clause-steps : goal.returns-clause-steps
returns-clause-steps g c = c.in_ok-went.ensures.steps

-- ---- how many links there are

pub returns-in_err-went-clause-count : goal.returns-in_err-went-clause-count
returns-in_err-went-clause-count g c = c.begin.ensures.count

pub returns-in_err-listen-clause-count : goal.returns-in_err-listen-clause-count
returns-in_err-listen-clause-count g c =
    let first = subst (λ (d : g.row.D.Denot). KeepsCount g.D.Dial.dial c.args.dial.now (open_count c.args.lines.now) d (open_count c.begin.new.lines)) (sym c.is_ready.ensures.same)
    c.begin.ensures.count in
    keeps_both g.D.Dial.dial c.args.dial.now c.is_ready.new.dial c.listen.new.dial _ (open_count c.begin.new.lines) _ first c.listen.ensures.count

pub returns-then-is_ready-clause-count : goal.returns-then-is_ready-clause-count
returns-then-is_ready-clause-count g c =
    let first = subst (λ (d : g.row.D.Denot). KeepsCount g.D.Dial.dial c.args.dial.now (open_count c.args.lines.now) d (open_count c.begin.new.lines)) (sym c.is_ready.ensures.same)
    c.begin.ensures.count in
    keeps_both g.D.Dial.dial c.args.dial.now c.is_ready.new.dial c.listen.new.dial _ (open_count c.begin.new.lines) _ first c.listen.ensures.count

pub returns-clause-count : goal.returns-clause-count
returns-clause-count g c = rw c.is_ready.ensures.same c.begin.ensures.count
