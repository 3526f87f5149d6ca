use Rattle.std.proofs.Common.{ap, map, string_bytes, subst, sym, ◌∙◌}
use Rattle.std.specs.List.{slice_get}
use Rattle.tg_swarming.proofs.Moments.{running_as, so_as}
use Rattle.tg_swarming.specs.Counts.{KeepsCount, open_count}
use Rattle.tg_swarming.specs.Rounds.{GoSo, HasAddrs, IsAny, IsRunning, meanings, moment_of}
use Rattle.tg_swarming.proofs.rounds.wait.Goals as goal

pub wait-peer-requires : goal.wait-peer-requires
wait-peer-requires g c =
    let (peer, (link, is)) = c.requires.link in
    (peer, link, ap (λ ls. slice_get ls peer) (c.as_slice.ensures.value ∙ c.lines.view_is) ∙ is)

pub listen-requires-clause-link : goal.listen-requires-clause-link
listen-requires-clause-link g c =
    let (link, is) = c.wait-peer.ensures.place in
    (link, ap (λ ls. slice_get ls c.wait-peer.result) (sym (c.as_slice.ensures.value ∙ c.lines.view_is)) ∙ is)

pub listen-requires-clause-linked : goal.listen-requires-clause-linked
listen-requires-clause-linked g c = c.requires.linked

pub listen-requires-clause-runs : goal.listen-requires-clause-runs
listen-requires-clause-runs g c =
    let m = meanings g.D.Dial.dial g.D.Link.Link.link g.D.Link.Source.source g.S.Sink.sink in
    let x = moment_of c.args.swarm.now c.args.lines.now c.args.dial.now c.args.out.now in
    subst (λ (d : g.row.D.Denot). IsRunning m IsAny (moment_of c.args.swarm.now c.args.lines.now d c.args.out.now)) (sym c.wait-peer.ensures.same)
    (running_as m (HasAddrs (map string_bytes c.args.addrs.now)) IsAny x (λ setup is. tt) c.requires.runs)

pub returns-clause-goes : goal.returns-clause-goes
returns-clause-goes g c =
    let m = meanings g.D.Dial.dial g.D.Link.Link.link g.D.Link.Source.source g.S.Sink.sink in
    let x = moment_of c.args.swarm.now c.args.lines.now c.args.dial.now c.args.out.now in
    let y = moment_of c.listen.new.swarm c.listen.new.lines c.listen.new.dial c.listen.new.out in
    so_as m IsAny (HasAddrs (map string_bytes c.args.addrs.now)) x y c.listen.result (λ setup is. tt)
    (subst (λ (d : g.row.D.Denot). GoSo m IsAny (moment_of c.args.swarm.now c.args.lines.now d c.args.out.now) y c.listen.result) c.wait-peer.ensures.same
    c.listen.ensures.goes)

pub returns-clause-whole : goal.returns-clause-whole
returns-clause-whole g c = c.listen.ensures.whole

pub returns-clause-linked : goal.returns-clause-linked
returns-clause-linked g c = c.listen.ensures.linked

pub returns-clause-steps : goal.returns-clause-steps
returns-clause-steps g c = c.listen.ensures.steps

pub returns-clause-count : goal.returns-clause-count
returns-clause-count g c =
    subst (λ (d : g.row.D.Denot). KeepsCount g.D.Dial.dial d (open_count c.args.lines.now) c.listen.new.dial (open_count c.listen.new.lines)) c.wait-peer.ensures.same c.listen.ensures.count
