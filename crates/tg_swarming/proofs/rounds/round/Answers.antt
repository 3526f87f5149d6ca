use Rattle.std.proofs.Common.{Bool, IfOk, ap, arith, length, map, refl, string_bytes, subst, sym, true, ◌+◌, ◌≡◌}
use Rattle.std.proofs.lemmas.List.{length-map}
use Rattle.std.proofs.lemmas.Result.{err_from_is_err_and}
use Rattle.tg_query.specs.Requests.{IsAddr}
use Rattle.tg_swarming.proofs.Counting.{keeps_both}
use Rattle.tg_swarming.proofs.Moments.{all_at, go_as, go_both, has_addr, running_as, running_on, so_behind, stop_as, stop_behind, text_at}
use Rattle.tg_swarming.specs.Counts.{open_count}
use Rattle.tg_swarming.specs.Rounds.{GoesShorter, HasAddr, HasAddrs, IsUnended, meanings, moment_of}
use Rattle.tg_swarm.specs.Swarms.{SwarmState}
use Rattle.tg_swarming.proofs.Stepping.{HasCome, come_all, come_nowhere, come_on, some_link}
use Rattle.tg_verify.specs.declared.verifier.Progress.TheVariants as progresses
use Rattle.tg_swarming.proofs.rounds.round.Goals.{in-Nowhere, in-On}
use Rattle.tg_swarming.proofs.rounds.round.Goals as goal

pub loop-peer-init : goal.loop-peer-init
loop-peer-init g c = record {
  goes = λ setup first start is runs. runs;
  count = λ n e. e;
  linked = c.requires.linked;
  unended = c.requires.unended;
  come = (refl, λ peer below. absurd (omega (arith, below)));
}

pub go_on-requires-clause-addr : goal.go_on-requires-clause-addr
go_on-requires-clause-addr g c =
    let at = text_at string_bytes c.args.addrs.now c.loop-peer.peer c.index-addrs-peer.result c.as_str.result.now c.loop-peer-test.true c.index-addrs-peer.is
    c.as_str.ensures.value in
    all_at IsAddr (map string_bytes c.args.addrs.now) c.loop-peer.peer c.as_str.result.now at c.requires.addrs

pub go_on-requires-clause-runs : goal.go_on-requires-clause-runs
go_on-requires-clause-runs g c =
    let m = meanings g.D.Dial.dial g.D.Link.Link.link g.D.Link.Source.source g.S.Sink.sink in
    let w = HasAddrs (map string_bytes c.args.addrs.now) in
    let x = moment_of c.args.swarm.now c.args.lines.now c.args.dial.now c.args.out.now in
    let y = moment_of c.loop-peer.swarm c.loop-peer.lines c.loop-peer.dial c.loop-peer.out in
    let to = has_addr string_bytes c.args.addrs.now c.loop-peer.peer c.index-addrs-peer.result c.as_str.result.now c.loop-peer-test.true c.index-addrs-peer.is
    c.as_str.ensures.value in
    running_as m w (HasAddr c.loop-peer.peer c.as_str.result.now) y to (running_on m w x y c.requires.runs c.loop-peer.invariant.goes)

pub returns-in_err-go_on-clause-goes : goal.returns-in_err-go_on-clause-goes
returns-in_err-go_on-clause-goes g c =
    let p = err_from_is_err_and c.from_residual.result c.from_residual.ensures.1 in
    let m = meanings g.D.Dial.dial g.D.Link.Link.link g.D.Link.Source.source g.S.Sink.sink in
    let w = HasAddrs (map string_bytes c.args.addrs.now) in
    let x = moment_of c.args.swarm.now c.args.lines.now c.args.dial.now c.args.out.now in
    let y = moment_of c.loop-peer.swarm c.loop-peer.lines c.loop-peer.dial c.loop-peer.out in
    let z = moment_of c.go_on.new.swarm c.go_on.new.lines c.go_on.new.dial c.go_on.new.out in
    let to = has_addr string_bytes c.args.addrs.now c.loop-peer.peer c.index-addrs-peer.result c.as_str.result.now c.loop-peer-test.true c.index-addrs-peer.is
    c.as_str.ensures.value in
    rw (p.1, p.2)
    (stop_behind m w x y z c.in_err-go_on.field-0.0 c.loop-peer.invariant.goes
    (stop_as m (HasAddr c.loop-peer.peer c.as_str.result.now) w y z c.in_err-go_on.field-0.0 to c.in_err-go_on.ensures.goes))

pub returns-in_err-go_on-clause-whole : goal.returns-in_err-go_on-clause-whole
returns-in_err-go_on-clause-whole g c =
    let p = err_from_is_err_and c.from_residual.result c.from_residual.ensures.1 in
    rw p.1 tt

pub returns-in-Done-clause-goes : goal.returns-in-Done-clause-goes
returns-in-Done-clause-goes g c =
    let m = meanings g.D.Dial.dial g.D.Link.Link.link g.D.Link.Source.source g.S.Sink.sink in
    let w = HasAddrs (map string_bytes c.args.addrs.now) in
    let x = moment_of c.args.swarm.now c.args.lines.now c.args.dial.now c.args.out.now in
    let y = moment_of c.loop-peer.swarm c.loop-peer.lines c.loop-peer.dial c.loop-peer.out in
    let z = moment_of c.go_on.new.swarm c.go_on.new.lines c.go_on.new.dial c.go_on.new.out in
    let to = has_addr string_bytes c.args.addrs.now c.loop-peer.peer c.index-addrs-peer.result c.as_str.result.now c.loop-peer-test.true c.index-addrs-peer.is
    c.as_str.ensures.value in
    go_both m w x y z c.loop-peer.invariant.goes (go_as m (HasAddr c.loop-peer.peer c.as_str.result.now) w y z to c.in_ok-go_on.ensures.goes)

pub returns-in-Done-clause-whole : goal.returns-in-Done-clause-whole
returns-in-Done-clause-whole g c is = c.in_ok-go_on.ensures.whole c.in-Done.is

pub loop-peer-preserved : goal.loop-peer-preserved
loop-peer-preserved g c =
    let m = meanings g.D.Dial.dial g.D.Link.Link.link g.D.Link.Source.source g.S.Sink.sink in
    let w = HasAddrs (map string_bytes c.args.addrs.now) in
    let x = moment_of c.args.swarm.now c.args.lines.now c.args.dial.now c.args.out.now in
    let y = moment_of c.loop-peer.swarm c.loop-peer.lines c.loop-peer.dial c.loop-peer.out in
    let z = moment_of c.go_on.new.swarm c.go_on.new.lines c.go_on.new.dial c.go_on.new.out in
    let to = has_addr string_bytes c.args.addrs.now c.loop-peer.peer c.index-addrs-peer.result c.as_str.result.now c.loop-peer-test.true c.index-addrs-peer.is
    c.as_str.ensures.value in
    record {
      goes = go_both m w x y z c.loop-peer.invariant.goes (go_as m (HasAddr c.loop-peer.peer c.as_str.result.now) w y z to c.in_ok-go_on.ensures.goes);
      count = keeps_both g.D.Dial.dial c.args.dial.now c.loop-peer.dial c.go_on.new.dial _ (open_count c.loop-peer.lines) _ c.loop-peer.invariant.count c.go_on.ensures.count;
      linked = c.in_ok-go_on.ensures.linked;
      unended = elim c.match-branch-2.branch [
        | in-Nowhere w ↦ subst IsUnended (sym (c.in_ok-go_on.ensures.steps.is_nowhere w.in-Nowhere.is).same) c.loop-peer.invariant.unended
        | in-On w ↦ (c.in_ok-go_on.ensures.steps.is_on w.in-On.is).unended
      ];
      come = elim c.match-branch-2.branch [
        | in-Nowhere w ↦
            rw w.waits-is
            (come_nowhere c.loop-peer.waits c.args.swarm.now c.loop-peer.swarm c.go_on.new.swarm c.loop-peer.peer (c.loop-peer.peer + 1) (omega arith)
            c.loop-peer.invariant.come (c.in_ok-go_on.ensures.steps.is_nowhere w.in-Nowhere.is))
        | in-On w ↦
            rw w.waits-is
            (come_on c.loop-peer.waits c.args.swarm.now c.loop-peer.swarm c.go_on.new.swarm c.loop-peer.peer c.loop-peer.invariant.come
            (c.in_ok-go_on.ensures.steps.is_on w.in-On.is).shorter)
      ];
    }

pub returns-then-not-waits-clause-goes : goal.returns-then-not-waits-clause-goes
returns-then-not-waits-clause-goes g c = c.loop-peer.invariant.goes

pub returns-then-not-waits-clause-whole : goal.returns-then-not-waits-clause-whole
returns-then-not-waits-clause-whole g c never = absurd (cc never)

pub wait-requires-clause-runs : goal.wait-requires-clause-runs
wait-requires-clause-runs g c =
    let m = meanings g.D.Dial.dial g.D.Link.Link.link g.D.Link.Source.source g.S.Sink.sink in
    let w = HasAddrs (map string_bytes c.args.addrs.now) in
    let x = moment_of c.args.swarm.now c.args.lines.now c.args.dial.now c.args.out.now in
    let y = moment_of c.loop-peer.swarm c.loop-peer.lines c.loop-peer.dial c.loop-peer.out in
    running_on m w x y c.requires.runs c.loop-peer.invariant.goes

pub returns-clause-goes : goal.returns-clause-goes
returns-clause-goes g c =
    let m = meanings g.D.Dial.dial g.D.Link.Link.link g.D.Link.Source.source g.S.Sink.sink in
    let w = HasAddrs (map string_bytes c.args.addrs.now) in
    let x = moment_of c.args.swarm.now c.args.lines.now c.args.dial.now c.args.out.now in
    let y = moment_of c.loop-peer.swarm c.loop-peer.lines c.loop-peer.dial c.loop-peer.out in
    let z = moment_of c.wait.new.swarm c.wait.new.lines c.wait.new.dial c.wait.new.out in
    so_behind m w x y z c.wait.result c.loop-peer.invariant.goes c.wait.ensures.goes

pub returns-clause-whole : goal.returns-clause-whole
returns-clause-whole g c = c.wait.ensures.whole

-- ---- links and steps

pub go_on-requires-clause-linked : goal.go_on-requires-clause-linked
go_on-requires-clause-linked g c = c.loop-peer.invariant.linked

pub wait-requires-clause-linked : goal.wait-requires-clause-linked
wait-requires-clause-linked g c = c.loop-peer.invariant.linked

pub wait-requires-clause-link : goal.wait-requires-clause-link
wait-requires-clause-link g c =
    let h = c.requires.runs in
    let run = (c.loop-peer.invariant.goes h.setup h.first h.start h.is_which h.runs).run in
    let peers = run.is_for.peers in
    let addrs = ap length h.is_which in
    let size = length-map c.args.addrs.now string_bytes in
    let all = c.loop-peer-test.false in
    let come : HasCome true c.args.swarm.now c.loop-peer.swarm c.loop-peer.peer =
    subst (λ (b : Bool). HasCome b c.args.swarm.now c.loop-peer.swarm c.loop-peer.peer) c.if-not-waits.false c.loop-peer.invariant.come in
    some_link c.each_job.ensures.unstuck c.loop-peer.swarm run.connections run.written c.loop-peer.lines run.stands c.loop-peer.invariant.unended
    c.loop-peer.invariant.linked (come_all c.args.swarm.now c.loop-peer.swarm c.loop-peer.peer come (omega (arith, peers, addrs, size, all)))

pub returns-in_err-go_on-clause-linked : goal.returns-in_err-go_on-clause-linked
returns-in_err-go_on-clause-linked g c =
    let p = err_from_is_err_and c.from_residual.result c.from_residual.ensures.1 in
    rw p.1 tt

pub returns-in_err-go_on-clause-steps : goal.returns-in_err-go_on-clause-steps
returns-in_err-go_on-clause-steps g c =
    let p = err_from_is_err_and c.from_residual.result c.from_residual.ensures.1 in
    rw p.1 tt

pub returns-in-Done-clause-linked : goal.returns-in-Done-clause-linked
returns-in-Done-clause-linked g c = c.in_ok-go_on.ensures.linked

pub returns-in-Done-clause-steps : goal.returns-in-Done-clause-steps
returns-in-Done-clause-steps g c never = absurd (cc never)

pub returns-then-not-waits-clause-linked : goal.returns-then-not-waits-clause-linked
returns-then-not-waits-clause-linked g c = c.loop-peer.invariant.linked

pub returns-then-not-waits-clause-steps : goal.returns-then-not-waits-clause-steps
returns-then-not-waits-clause-steps g c is = record {
  unended = c.loop-peer.invariant.unended;
  shorter = subst (λ (b : Bool). HasCome b c.args.swarm.now c.loop-peer.swarm c.loop-peer.peer) c.if-not-waits.true c.loop-peer.invariant.come;
}

pub returns-clause-linked : goal.returns-clause-linked
returns-clause-linked g c = c.wait.ensures.linked

pub returns-clause-steps : goal.returns-clause-steps
returns-clause-steps g c =
    let come : HasCome true c.args.swarm.now c.loop-peer.swarm c.loop-peer.peer =
    subst (λ (b : Bool). HasCome b c.args.swarm.now c.loop-peer.swarm c.loop-peer.peer) c.if-not-waits.false c.loop-peer.invariant.come in
    subst (λ (s : SwarmState). IfOk c.wait.result (λ progress. progress ≡ progresses.More → GoesShorter s c.wait.new.swarm)) come.0 c.wait.ensures.steps

-- ---- how many links there are

pub returns-in_err-go_on-clause-count : goal.returns-in_err-go_on-clause-count
returns-in_err-go_on-clause-count g c =
    keeps_both g.D.Dial.dial c.args.dial.now c.loop-peer.dial c.go_on.new.dial _ (open_count c.loop-peer.lines) _ c.loop-peer.invariant.count c.go_on.ensures.count

pub returns-in-Done-clause-count : goal.returns-in-Done-clause-count
returns-in-Done-clause-count g c =
    keeps_both g.D.Dial.dial c.args.dial.now c.loop-peer.dial c.go_on.new.dial _ (open_count c.loop-peer.lines) _ c.loop-peer.invariant.count c.go_on.ensures.count

pub returns-then-not-waits-clause-count : goal.returns-then-not-waits-clause-count
returns-then-not-waits-clause-count g c = c.loop-peer.invariant.count

pub returns-clause-count : goal.returns-clause-count
returns-clause-count g c =
    keeps_both g.D.Dial.dial c.args.dial.now c.loop-peer.dial c.wait.new.dial _ (open_count c.loop-peer.lines) _ c.loop-peer.invariant.count c.wait.ensures.count
