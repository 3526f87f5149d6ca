use Rattle.std.proofs.Common.{Err, List, Ok, ap, arith, length, subst, suc, sym, ℕ, ◌<◌, ◌∙◌}
use Rattle.std.proofs.lemmas.Option.{slice_get_within}
use Rattle.std.proofs.lemmas.Result.{err_from_is_err_and}
use Rattle.tg_streams.specs.Streams.{Put, PutFront, into}
use Rattle.tg_swarming.proofs.Asking.{asked_some, nothing_asked}
use Rattle.tg_swarming.proofs.Counting.{keeps_as, keeps_made, keeps_missed, keeps_unput, open_more, unlinked_place}
use Rattle.tg_swarming.proofs.Listening.{ends_wanting, goes_asked, goes_made, goes_missed, goes_unput, on_err, on_ok, whole_asked}
use Rattle.tg_swarming.proofs.Running.{asked_busy}
use Rattle.tg_swarming.specs.Counts.{open_count}
use Rattle.tg_swarming.specs.Rounds.{meanings}
use Rattle.tg_swarming.proofs.Stepping.{asked_linked, asked_steps, failed_linked, failed_steps, nowhere_steps, shorter_some}
use Rattle.tg_swarming.proofs.rounds.begin.Goals as goal

pub ask-requires : goal.ask-requires
ask-requires g c =
    let lt = slice_get_within c.requires.runs.setup.addrs c.args.peer c.args.addr.now c.requires.runs.is_which in
    let number = c.requires.runs.runs.run.is_for.peers in
    omega (arith, lt, number)

pub returns-in_err-query-clause-goes : goal.returns-in_err-query-clause-goes
returns-in_err-query-clause-goes g c =
    let p = err_from_is_err_and c.from_residual.result c.from_residual.ensures.1 in
    let m = meanings g.D.Dial.dial g.D.Link.Link.link g.D.Link.Source.source g.S.Sink.sink in
    rw (p.1, p.2, c.in_err-query.ensures.err)
    (λ setup first start is runs. ends_wanting m setup first start c.args.swarm.now c.args.lines.now c.args.dial.now c.args.out.now runs)

pub returns-in_err-query-clause-whole : goal.returns-in_err-query-clause-whole
returns-in_err-query-clause-whole g c =
    let p = err_from_is_err_and c.from_residual.result c.from_residual.ensures.1 in
    rw p.1 tt

pub returns-in_default-clause-goes : goal.returns-in_default-clause-goes
returns-in_default-clause-goes g c setup first start is runs =
    let nothing = nothing_asked c.args.swarm.now c.ask.new.self c.args.peer c.in_ok-query.field-0 c.in_default.not-Some c.in_ok-query.ensures.asked in
    rw nothing.same runs

pub returns-in_default-clause-whole : goal.returns-in_default-clause-whole
returns-in_default-clause-whole g c never = absurd (cc never)

pub print_request-requires : goal.print_request-requires
print_request-requires g c = c.requires.addr

pub returns-in_err-request-clause-goes : goal.returns-in_err-request-clause-goes
returns-in_err-request-clause-goes g c =
    let p = err_from_is_err_and c.from_residual-in_err-request.result c.from_residual-in_err-request.ensures.1 in
    let m = meanings g.D.Dial.dial g.D.Link.Link.link g.D.Link.Source.source g.S.Sink.sink in
    let asked = asked_some c.args.swarm.now c.ask.new.self c.args.peer c.in_ok-query.field-0 c.in-Some.query c.in-Some.is c.in_ok-query.ensures.asked in
    rw (p.1, p.2)
    (λ setup first start is runs. ends_wanting m setup first start c.ask.new.self c.args.lines.now c.args.dial.now c.args.out.now
    (goes_asked m g.met.S.Sink.joins c.accepted_roots.ensures.total_stays c.args.lines.now c.args.dial.now c.args.out.now c.args.out.now c.args.swarm.now c.ask.new.self c.ask.new.self c.args.peer c.args.addr.now c.in-Some.query asked c.ask.ensures.stands setup first start is runs))

pub returns-in_err-request-clause-whole : goal.returns-in_err-request-clause-whole
returns-in_err-request-clause-whole g c =
    let p = err_from_is_err_and c.from_residual-in_err-request.result c.from_residual-in_err-request.ensures.1 in
    rw p.1 tt

pub event-end-requires : goal.event-end-requires
event-end-requires g c =
    let asked = asked_some c.args.swarm.now c.ask.new.self c.args.peer c.in_ok-query.field-0 c.in-Some.query c.in-Some.is c.in_ok-query.ensures.asked in
    let lt = slice_get_within c.requires.runs.setup.addrs c.args.peer c.args.addr.now c.requires.runs.is_which in
    let number = c.requires.runs.runs.run.is_for.peers in
    let within : c.args.peer < length c.args.swarm.now.jobs.peers = omega (arith, lt, number) in
    (asked.call, asked_busy c.args.swarm.now c.ask.new.self c.args.peer c.in-Some.query asked within)

pub returns-in_err-end-clause-goes : goal.returns-in_err-end-clause-goes
returns-in_err-end-clause-goes g c =
    let p = err_from_is_err_and c.from_residual-in_err-end.result c.from_residual-in_err-end.ensures.1 in
    let m = meanings g.D.Dial.dial g.D.Link.Link.link g.D.Link.Source.source g.S.Sink.sink in
    let asked = asked_some c.args.swarm.now c.ask.new.self c.args.peer c.in_ok-query.field-0 c.in-Some.query c.in-Some.is c.in_ok-query.ensures.asked in
    let e = c.in_err-end.ensures in
    rw (p.1, p.2)
    (goes_missed m g.met.S.Sink.joins c.accepted_roots.ensures.total_stays c.args.lines.now c.args.dial.now c.args.out.now c.event-end.new.out c.args.swarm.now c.ask.new.self c.event-end.new.self c.args.peer c.args.addr.now c.in-Some.query asked c.ask.ensures.stands c.dial.new.self c.in_default-dial.field-0
    c.in_default-dial.ensures.dialled c.dial.ensures.calls c.dial.ensures.counted
    c.dial.ensures.address c.dial.ensures.others (Err c.in_err-end.field-0.0)
    (record { ends = e.ends; after = e.peer; unfinished = e.unfinished; others = e.others; settings = e.settings; count = e.count; plan = e.plan; failed = e.failed; shorter = e.shorter }))

pub returns-in_err-end-clause-whole : goal.returns-in_err-end-clause-whole
returns-in_err-end-clause-whole g c =
    let p = err_from_is_err_and c.from_residual-in_err-end.result c.from_residual-in_err-end.ensures.1 in
    rw p.1 tt

pub returns-in_default-dial-clause-goes : goal.returns-in_default-dial-clause-goes
returns-in_default-dial-clause-goes g c =
    let m = meanings g.D.Dial.dial g.D.Link.Link.link g.D.Link.Source.source g.S.Sink.sink in
    let asked = asked_some c.args.swarm.now c.ask.new.self c.args.peer c.in_ok-query.field-0 c.in-Some.query c.in-Some.is c.in_ok-query.ensures.asked in
    let e = c.in_ok-end.ensures in
    goes_missed m g.met.S.Sink.joins c.accepted_roots.ensures.total_stays c.args.lines.now c.args.dial.now c.args.out.now c.event-end.new.out c.args.swarm.now c.ask.new.self c.event-end.new.self c.args.peer c.args.addr.now c.in-Some.query asked c.ask.ensures.stands c.dial.new.self c.in_default-dial.field-0
    c.in_default-dial.ensures.dialled c.dial.ensures.calls c.dial.ensures.counted
    c.dial.ensures.address c.dial.ensures.others (Ok c.in_ok-end.field-0)
    (record { ends = e.ends; after = e.peer; unfinished = e.unfinished; others = e.others; settings = e.settings; count = e.count; plan = e.plan; failed = e.failed; shorter = e.shorter })

pub returns-in_default-dial-clause-whole : goal.returns-in_default-dial-clause-whole
returns-in_default-dial-clause-whole g c is =
    let m = meanings g.D.Dial.dial g.D.Link.Link.link g.D.Link.Source.source g.S.Sink.sink in
    let asked = asked_some c.args.swarm.now c.ask.new.self c.args.peer c.in_ok-query.field-0 c.in-Some.query c.in-Some.is c.in_ok-query.ensures.asked in
    let e = c.in_ok-end.ensures in
    whole_asked m g.met.S.Sink.joins c.accepted_roots.ensures.total_stays c.args.lines.now c.args.dial.now c.args.out.now c.event-end.new.out c.args.swarm.now c.ask.new.self c.event-end.new.self c.args.peer c.args.addr.now c.in-Some.query asked c.ask.ensures.stands (Ok c.in_ok-end.field-0)
    (record { ends = e.ends; after = e.peer; unfinished = e.unfinished; others = e.others; settings = e.settings; count = e.count; plan = e.plan; failed = e.failed; shorter = e.shorter }) c.requires.runs (c.of.ensures.done is)

pub put_link-requires : goal.put_link-requires
put_link-requires g c =
    let lt = slice_get_within c.requires.runs.setup.addrs c.args.peer c.args.addr.now c.requires.runs.is_which in
    let number = c.requires.runs.runs.number in
    omega (arith, lt, number)

pub returns-then-is_ok-clause-goes : goal.returns-then-is_ok-clause-goes
returns-then-is_ok-clause-goes g c =
    let m = meanings g.D.Dial.dial g.D.Link.Link.link g.D.Link.Source.source g.S.Sink.sink in
    let asked = asked_some c.args.swarm.now c.ask.new.self c.args.peer c.in_ok-query.field-0 c.in-Some.query c.in-Some.is c.in_ok-query.ensures.asked in
    let text = c.as_slice.ensures ∙ c.in_ok-request.ensures in
    let ok = sym c.is_ok.ensures.value ∙ c.if-is_ok.true in
    rw c.put_link.ensures
    (goes_made m g.met.S.Sink.joins c.accepted_roots.ensures.total_stays c.args.lines.now c.args.dial.now c.args.out.now c.args.out.now c.args.swarm.now c.ask.new.self c.ask.new.self c.args.peer c.args.addr.now c.in-Some.query asked c.ask.ensures.stands g.D.Link.Sink.sink g.met.D.Link.Link.says g.met.D.Link.Link.one_count c.dial.new.self c.in-Ok.link c.put_all.new.sink
    c.in-Ok.ensures.dialled c.dial.ensures.calls c.dial.ensures.address c.dial.ensures.others
    (subst (λ (l : List ℕ). Put l (into g.D.Link.Sink.sink c.in-Ok.link c.put_all.new.sink)) text (on_ok c.put_all.result ok c.put_all.ensures.put))
    (on_ok c.put_all.result ok c.put_all.ensures.quiet))

pub returns-then-is_ok-clause-whole : goal.returns-then-is_ok-clause-whole
returns-then-is_ok-clause-whole g c never = absurd (cc never)

pub event-end-requires-2 : goal.event-end-requires-2
event-end-requires-2 g c =
    let asked = asked_some c.args.swarm.now c.ask.new.self c.args.peer c.in_ok-query.field-0 c.in-Some.query c.in-Some.is c.in_ok-query.ensures.asked in
    let lt = slice_get_within c.requires.runs.setup.addrs c.args.peer c.args.addr.now c.requires.runs.is_which in
    let number = c.requires.runs.runs.run.is_for.peers in
    let within : c.args.peer < length c.args.swarm.now.jobs.peers = omega (arith, lt, number) in
    (asked.call, asked_busy c.args.swarm.now c.ask.new.self c.args.peer c.in-Some.query asked within)

pub returns-in_err-end-2-clause-goes : goal.returns-in_err-end-2-clause-goes
returns-in_err-end-2-clause-goes g c =
    let p = err_from_is_err_and c.from_residual-in_err-end-2.result c.from_residual-in_err-end-2.ensures.1 in
    let m = meanings g.D.Dial.dial g.D.Link.Link.link g.D.Link.Source.source g.S.Sink.sink in
    let asked = asked_some c.args.swarm.now c.ask.new.self c.args.peer c.in_ok-query.field-0 c.in-Some.query c.in-Some.is c.in_ok-query.ensures.asked in
    let text = c.as_slice.ensures ∙ c.in_ok-request.ensures in
    let e = c.in_err-end-2.ensures in
    rw (p.1, p.2)
    (goes_unput m g.met.S.Sink.joins c.accepted_roots.ensures.total_stays c.args.lines.now c.args.dial.now c.args.out.now c.event-end-2.new.out c.args.swarm.now c.ask.new.self c.event-end-2.new.self c.args.peer c.args.addr.now c.in-Some.query asked c.ask.ensures.stands g.D.Link.Sink.sink g.met.D.Link.Link.says g.met.D.Link.Link.one_count c.dial.new.self c.in-Ok.link c.put_all.new.sink
    c.in-Ok.ensures.dialled c.dial.ensures.calls c.dial.ensures.address c.dial.ensures.others
    (subst (λ (l : List ℕ). PutFront l (into g.D.Link.Sink.sink c.in-Ok.link c.put_all.new.sink)) text
    (on_err c.put_all.result (sym c.is_ok.ensures.value ∙ c.if-is_ok.false) c.put_all.ensures.err_front)) c.done.new.self c.done.ensures.done c.done.ensures.missed c.done.ensures.address
    (Err c.in_err-end-2.field-0.0) (record { ends = e.ends; after = e.peer; unfinished = e.unfinished; others = e.others; settings = e.settings; count = e.count; plan = e.plan; failed = e.failed; shorter = e.shorter }))

pub returns-in_err-end-2-clause-whole : goal.returns-in_err-end-2-clause-whole
returns-in_err-end-2-clause-whole g c =
    let p = err_from_is_err_and c.from_residual-in_err-end-2.result c.from_residual-in_err-end-2.ensures.1 in
    rw p.1 tt

pub returns-clause-goes : goal.returns-clause-goes
returns-clause-goes g c =
    let m = meanings g.D.Dial.dial g.D.Link.Link.link g.D.Link.Source.source g.S.Sink.sink in
    let asked = asked_some c.args.swarm.now c.ask.new.self c.args.peer c.in_ok-query.field-0 c.in-Some.query c.in-Some.is c.in_ok-query.ensures.asked in
    let text = c.as_slice.ensures ∙ c.in_ok-request.ensures in
    let e = c.in_ok-end-2.ensures in
    goes_unput m g.met.S.Sink.joins c.accepted_roots.ensures.total_stays c.args.lines.now c.args.dial.now c.args.out.now c.event-end-2.new.out c.args.swarm.now c.ask.new.self c.event-end-2.new.self c.args.peer c.args.addr.now c.in-Some.query asked c.ask.ensures.stands g.D.Link.Sink.sink g.met.D.Link.Link.says g.met.D.Link.Link.one_count c.dial.new.self c.in-Ok.link c.put_all.new.sink
    c.in-Ok.ensures.dialled c.dial.ensures.calls c.dial.ensures.address c.dial.ensures.others
    (subst (λ (l : List ℕ). PutFront l (into g.D.Link.Sink.sink c.in-Ok.link c.put_all.new.sink)) text
    (on_err c.put_all.result (sym c.is_ok.ensures.value ∙ c.if-is_ok.false) c.put_all.ensures.err_front)) c.done.new.self c.done.ensures.done c.done.ensures.missed c.done.ensures.address
    (Ok c.in_ok-end-2.field-0) (record { ends = e.ends; after = e.peer; unfinished = e.unfinished; others = e.others; settings = e.settings; count = e.count; plan = e.plan; failed = e.failed; shorter = e.shorter })

pub returns-clause-whole : goal.returns-clause-whole
returns-clause-whole g c is =
    let m = meanings g.D.Dial.dial g.D.Link.Link.link g.D.Link.Source.source g.S.Sink.sink in
    let asked = asked_some c.args.swarm.now c.ask.new.self c.args.peer c.in_ok-query.field-0 c.in-Some.query c.in-Some.is c.in_ok-query.ensures.asked in
    let e = c.in_ok-end-2.ensures in
    whole_asked m g.met.S.Sink.joins c.accepted_roots.ensures.total_stays c.args.lines.now c.args.dial.now c.args.out.now c.event-end-2.new.out c.args.swarm.now c.ask.new.self c.event-end-2.new.self c.args.peer c.args.addr.now c.in-Some.query asked c.ask.ensures.stands (Ok c.in_ok-end-2.field-0)
    (record { ends = e.ends; after = e.peer; unfinished = e.unfinished; others = e.others; settings = e.settings; count = e.count; plan = e.plan; failed = e.failed; shorter = e.shorter }) c.requires.runs (c.of-2.ensures.done is)

-- ---- links and steps

pub returns-in_err-query-clause-linked : goal.returns-in_err-query-clause-linked
returns-in_err-query-clause-linked g c =
    let p = err_from_is_err_and c.from_residual.result c.from_residual.ensures.1 in
    rw p.1 tt

pub returns-in_err-query-clause-steps : goal.returns-in_err-query-clause-steps
returns-in_err-query-clause-steps g c =
    let p = err_from_is_err_and c.from_residual.result c.from_residual.ensures.1 in
    rw p.1 tt

pub returns-in_err-request-clause-linked : goal.returns-in_err-request-clause-linked
returns-in_err-request-clause-linked g c =
    let p = err_from_is_err_and c.from_residual-in_err-request.result c.from_residual-in_err-request.ensures.1 in
    rw p.1 tt

pub returns-in_err-request-clause-steps : goal.returns-in_err-request-clause-steps
returns-in_err-request-clause-steps g c =
    let p = err_from_is_err_and c.from_residual-in_err-request.result c.from_residual-in_err-request.ensures.1 in
    rw p.1 tt

pub returns-in_err-end-clause-linked : goal.returns-in_err-end-clause-linked
returns-in_err-end-clause-linked g c =
    let p = err_from_is_err_and c.from_residual-in_err-end.result c.from_residual-in_err-end.ensures.1 in
    rw p.1 tt

pub returns-in_err-end-clause-steps : goal.returns-in_err-end-clause-steps
returns-in_err-end-clause-steps g c =
    let p = err_from_is_err_and c.from_residual-in_err-end.result c.from_residual-in_err-end.ensures.1 in
    rw p.1 tt

pub returns-in_err-end-2-clause-linked : goal.returns-in_err-end-2-clause-linked
returns-in_err-end-2-clause-linked g c =
    let p = err_from_is_err_and c.from_residual-in_err-end-2.result c.from_residual-in_err-end-2.ensures.1 in
    rw p.1 tt

pub returns-in_err-end-2-clause-steps : goal.returns-in_err-end-2-clause-steps
returns-in_err-end-2-clause-steps g c =
    let p = err_from_is_err_and c.from_residual-in_err-end-2.result c.from_residual-in_err-end-2.ensures.1 in
    rw p.1 tt

pub returns-in_default-clause-linked : goal.returns-in_default-clause-linked
returns-in_default-clause-linked g c =
    let nothing = nothing_asked c.args.swarm.now c.ask.new.self c.args.peer c.in_ok-query.field-0 c.in_default.not-Some c.in_ok-query.ensures.asked in
    rw nothing.same c.requires.linked

pub returns-in_default-clause-steps : goal.returns-in_default-clause-steps
returns-in_default-clause-steps g c =
    let nothing = nothing_asked c.args.swarm.now c.ask.new.self c.args.peer c.in_ok-query.field-0 c.in_default.not-Some c.in_ok-query.ensures.asked in
    nowhere_steps c.args.swarm.now c.ask.new.self c.args.peer _ _ nothing c.requires.runs.runs.run.stands.going (λ never. absurd (cc never))

pub returns-in_default-dial-clause-linked : goal.returns-in_default-dial-clause-linked
returns-in_default-dial-clause-linked g c =
    let asked = asked_some c.args.swarm.now c.ask.new.self c.args.peer c.in_ok-query.field-0 c.in-Some.query c.in-Some.is c.in_ok-query.ensures.asked in
    let lt = slice_get_within c.requires.runs.setup.addrs c.args.peer c.args.addr.now c.requires.runs.is_which in
    let number = c.requires.runs.runs.run.is_for.peers in
    let within : c.args.peer < length c.args.swarm.now.jobs.peers = omega (arith, lt, number) in
    let e = c.in_ok-end.ensures in
    failed_linked c.args.swarm.now c.ask.new.self c.args.peer c.in-Some.query asked within
    g.S.Sink.sink c.args.out.now c.event-end.new.out c.event-end.new.self c.in_ok-end.field-0
    (record { ends = e.ends; after = e.peer; unfinished = e.unfinished; others = e.others; settings = e.settings; count = e.count; plan = e.plan; failed = e.failed; shorter = e.shorter })
    c.args.lines.now c.requires.linked

pub returns-in_default-dial-clause-steps : goal.returns-in_default-dial-clause-steps
returns-in_default-dial-clause-steps g c =
    let asked = asked_some c.args.swarm.now c.ask.new.self c.args.peer c.in_ok-query.field-0 c.in-Some.query c.in-Some.is c.in_ok-query.ensures.asked in
    let lt = slice_get_within c.requires.runs.setup.addrs c.args.peer c.args.addr.now c.requires.runs.is_which in
    let number = c.requires.runs.runs.run.is_for.peers in
    let within : c.args.peer < length c.args.swarm.now.jobs.peers = omega (arith, lt, number) in
    let e = c.in_ok-end.ensures in
    let run = c.requires.runs.runs.run in
    failed_steps c.args.swarm.now c.ask.new.self c.args.peer c.in-Some.query asked within _ _ c.of.ensures.nowhere
    (shorter_some c.in_ok-query.field-0 c.in-Some.query c.in-Some.is c.in_ok-query.ensures.shorter)
    g.S.Sink.sink c.args.out.now c.event-end.new.out c.event-end.new.self c.in_ok-end.field-0
    (record { ends = e.ends; after = e.peer; unfinished = e.unfinished; others = e.others; settings = e.settings; count = e.count; plan = e.plan; failed = e.failed; shorter = e.shorter })
    run.connections run.written (c.ask.ensures.stands run.connections run.written run.stands) c.of.ensures.on

pub returns-clause-linked : goal.returns-clause-linked
returns-clause-linked g c =
    let asked = asked_some c.args.swarm.now c.ask.new.self c.args.peer c.in_ok-query.field-0 c.in-Some.query c.in-Some.is c.in_ok-query.ensures.asked in
    let lt = slice_get_within c.requires.runs.setup.addrs c.args.peer c.args.addr.now c.requires.runs.is_which in
    let number = c.requires.runs.runs.run.is_for.peers in
    let within : c.args.peer < length c.args.swarm.now.jobs.peers = omega (arith, lt, number) in
    let e = c.in_ok-end-2.ensures in
    failed_linked c.args.swarm.now c.ask.new.self c.args.peer c.in-Some.query asked within
    g.S.Sink.sink c.args.out.now c.event-end-2.new.out c.event-end-2.new.self c.in_ok-end-2.field-0
    (record { ends = e.ends; after = e.peer; unfinished = e.unfinished; others = e.others; settings = e.settings; count = e.count; plan = e.plan; failed = e.failed; shorter = e.shorter })
    c.args.lines.now c.requires.linked

pub returns-clause-steps : goal.returns-clause-steps
returns-clause-steps g c =
    let asked = asked_some c.args.swarm.now c.ask.new.self c.args.peer c.in_ok-query.field-0 c.in-Some.query c.in-Some.is c.in_ok-query.ensures.asked in
    let lt = slice_get_within c.requires.runs.setup.addrs c.args.peer c.args.addr.now c.requires.runs.is_which in
    let number = c.requires.runs.runs.run.is_for.peers in
    let within : c.args.peer < length c.args.swarm.now.jobs.peers = omega (arith, lt, number) in
    let e = c.in_ok-end-2.ensures in
    let run = c.requires.runs.runs.run in
    failed_steps c.args.swarm.now c.ask.new.self c.args.peer c.in-Some.query asked within _ _ c.of-2.ensures.nowhere
    (shorter_some c.in_ok-query.field-0 c.in-Some.query c.in-Some.is c.in_ok-query.ensures.shorter)
    g.S.Sink.sink c.args.out.now c.event-end-2.new.out c.event-end-2.new.self c.in_ok-end-2.field-0
    (record { ends = e.ends; after = e.peer; unfinished = e.unfinished; others = e.others; settings = e.settings; count = e.count; plan = e.plan; failed = e.failed; shorter = e.shorter })
    run.connections run.written (c.ask.ensures.stands run.connections run.written run.stands) c.of-2.ensures.on

pub returns-then-is_ok-clause-linked : goal.returns-then-is_ok-clause-linked
returns-then-is_ok-clause-linked g c =
    let asked = asked_some c.args.swarm.now c.ask.new.self c.args.peer c.in_ok-query.field-0 c.in-Some.query c.in-Some.is c.in_ok-query.ensures.asked in
    let lt = slice_get_within c.requires.runs.setup.addrs c.args.peer c.args.addr.now c.requires.runs.is_which in
    let number = c.requires.runs.runs.run.is_for.peers in
    let within : c.args.peer < length c.args.swarm.now.jobs.peers = omega (arith, lt, number) in
    let lines = c.requires.runs.runs.number in
    rw c.put_link.ensures
    (asked_linked c.args.swarm.now c.ask.new.self c.args.peer c.in-Some.query asked within c.args.lines.now c.put_all.new.sink (omega (arith, lt, lines))
    c.requires.linked)

pub returns-then-is_ok-clause-steps : goal.returns-then-is_ok-clause-steps
returns-then-is_ok-clause-steps g c =
    let asked = asked_some c.args.swarm.now c.ask.new.self c.args.peer c.in_ok-query.field-0 c.in-Some.query c.in-Some.is c.in_ok-query.ensures.asked in
    let lt = slice_get_within c.requires.runs.setup.addrs c.args.peer c.args.addr.now c.requires.runs.is_which in
    let number = c.requires.runs.runs.run.is_for.peers in
    let within : c.args.peer < length c.args.swarm.now.jobs.peers = omega (arith, lt, number) in
    asked_steps c.args.swarm.now c.ask.new.self c.args.peer c.in-Some.query asked within _ _ (λ never. absurd (cc never))
    (shorter_some c.in_ok-query.field-0 c.in-Some.query c.in-Some.is c.in_ok-query.ensures.shorter)

-- ---- how many links there are

pub returns-in_err-end-clause-count : goal.returns-in_err-end-clause-count
returns-in_err-end-clause-count g c =
    keeps_missed g.D.Dial.dial c.args.dial.now c.dial.new.self c.in_default-dial.field-0 c.in_default-dial.ensures.dialled c.dial.ensures.calls (open_count c.args.lines.now)

pub returns-in_default-dial-clause-count : goal.returns-in_default-dial-clause-count
returns-in_default-dial-clause-count g c =
    keeps_missed g.D.Dial.dial c.args.dial.now c.dial.new.self c.in_default-dial.field-0 c.in_default-dial.ensures.dialled c.dial.ensures.calls (open_count c.args.lines.now)

pub returns-then-is_ok-clause-count : goal.returns-then-is_ok-clause-count
returns-then-is_ok-clause-count g c =
    let d = g.D.Dial.dial in
    let m = meanings d g.D.Link.Link.link g.D.Link.Source.source g.S.Sink.sink in
    let asked = asked_some c.args.swarm.now c.ask.new.self c.args.peer c.in_ok-query.field-0 c.in-Some.query c.in-Some.is c.in_ok-query.ensures.asked in
    let none = unlinked_place m c.args.swarm.now c.args.lines.now c.args.dial.now c.args.out.now c.args.peer c.args.addr.now c.requires.runs asked.idle in
    let l = open_count c.args.lines.now in
    keeps_as d c.args.dial.now c.dial.new.self l (suc l) _ (ap open_count c.put_link.ensures ∙ open_more c.args.lines.now c.args.peer c.put_all.new.sink none)
    (keeps_made d c.args.dial.now c.dial.new.self _ c.in-Ok.ensures.dialled c.dial.ensures.calls l)

pub returns-in_err-end-2-clause-count : goal.returns-in_err-end-2-clause-count
returns-in_err-end-2-clause-count g c =
    keeps_unput g.D.Dial.dial c.args.dial.now c.dial.new.self c.done.new.self _ _ c.in-Ok.ensures.dialled c.dial.ensures.calls c.done.ensures.done c.done.ensures.coming
    (open_count c.args.lines.now)

pub returns-clause-count : goal.returns-clause-count
returns-clause-count g c =
    keeps_unput g.D.Dial.dial c.args.dial.now c.dial.new.self c.done.new.self _ _ c.in-Ok.ensures.dialled c.dial.ensures.calls c.done.ensures.done c.done.ensures.coming
    (open_count c.args.lines.now)
