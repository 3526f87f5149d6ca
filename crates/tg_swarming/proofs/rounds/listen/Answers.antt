use Rattle.std.proofs.Common.{None, Some, ap, length, length-set, refl, set-set, slice_set, subst, sym, ℕ, ◌<◌, ◌∙◌, ◌≡◌}
use Rattle.tg_swarming.proofs.Counting.{keeps_as, keeps_less, open_other, open_untaken}
use Rattle.tg_swarming.proofs.Listening.{goes_back, goes_still_so, none_there, whole_event}
use Rattle.tg_swarming.proofs.Running.{whole_by}
use Rattle.tg_swarming.specs.Counts.{open_count}
use Rattle.tg_swarming.specs.Rounds.{IsAny, meanings}
use Rattle.tg_swarming.proofs.Stepping.{event_shorter, event_steps, if_ok, linked_with, not_absent, not_ok, place_of}
use Rattle.tg_swarming.proofs.rounds.listen.Goals as goal
use Rattle.tg_swarming.proofs.rounds.listen.Goals.{else-is_ok-via-else-is_ok, else-is_ok-via-then-is_ok+else-is_busy}

pub take_link-requires : goal.take_link-requires
take_link-requires g c = (place_of c.args.lines.now c.args.peer c.requires.link)

pub returns-in_default-clause-goes : goal.returns-in_default-clause-goes
returns-in_default-clause-goes g c =
    let m = meanings g.D.Dial.dial g.D.Link.Link.link g.D.Link.Source.source g.S.Sink.sink in
    rw c.take_link.ensures.links
    (none_there m IsAny c.args.swarm.now c.args.lines.now c.args.dial.now c.args.out.now c.args.peer (place_of c.args.lines.now c.args.peer c.requires.link))

pub returns-in_default-clause-whole : goal.returns-in_default-clause-whole
returns-in_default-clause-whole g c is =
    whole_by c.args.swarm.now c.progress.result (c.progress.ensures c.requires.runs.runs.run.stands.jobs.almost.within) is

pub event-end-requires : goal.event-end-requires
event-end-requires g c =
    let line = c.requires.runs.runs.lines c.args.peer c.in-Some.link (c.take_link.ensures.taken ∙ ap Some c.in-Some.is) in
    (line.call, line.busy)

pub put_link-requires : goal.put_link-requires
put_link-requires g c =
    let size = ap length (c.lines.view_is ∙ c.take_link.ensures.links) ∙ length-set c.args.lines.now c.args.peer None in
    subst (λ (n : ℕ). c.args.peer < n) (sym size) (place_of c.args.lines.now c.args.peer c.requires.link)

pub returns-then-is_busy-clause-goes : goal.returns-then-is_busy-clause-goes
returns-then-is_busy-clause-goes g c =
    let m = meanings g.D.Dial.dial g.D.Link.Link.link g.D.Link.Source.source g.S.Sink.sink in
    let e = c.event-end.ensures in
    let links = c.put_link.ensures ∙ ap (λ ls. slice_set ls c.args.peer (Some c.next_event-event.new.link)) (c.lines.view_is ∙ c.take_link.ensures.links)
    ∙ set-set c.args.lines.now c.args.peer None (Some c.next_event-event.new.link) in
    rw links
    (goes_still_so m g.met.S.Sink.joins c.accepted_roots.ensures.total_stays c.args.lines.now c.args.dial.now c.args.out.now c.event-end.new.out c.args.swarm.now c.event-end.new.self
    c.args.peer c.next_event-event.result c.in-Some.link c.next_event-event.new.link (place_of c.args.lines.now c.args.peer c.requires.link) (c.take_link.ensures.taken ∙ ap Some c.in-Some.is)
    c.next_event-event.ensures.heard IsAny c.event-end.result (sym c.is_ok.ensures.value ∙ c.if-is_ok.true)
    (record { ends = e.ends; after = e.peer; unfinished = e.unfinished; others = e.others; settings = e.settings; count = e.count; plan = e.plan; failed = e.failed; shorter = e.shorter })
    (c.is_busy.ensures.0 c.if-is_busy.true))

pub returns-then-is_busy-clause-whole : goal.returns-then-is_busy-clause-whole
returns-then-is_busy-clause-whole g c =
    let m = meanings g.D.Dial.dial g.D.Link.Link.link g.D.Link.Source.source g.S.Sink.sink in
    let e = c.event-end.ensures in
    whole_event m IsAny c.args.lines.now c.args.dial.now c.args.out.now c.event-end.new.out c.args.swarm.now c.event-end.new.self
    c.args.peer c.next_event-event.result c.event-end.result c.in-Some.link
    (record { ends = e.ends; after = e.peer; unfinished = e.unfinished; others = e.others; settings = e.settings; count = e.count; plan = e.plan; failed = e.failed; shorter = e.shorter })
    (c.take_link.ensures.taken ∙ ap Some c.in-Some.is) c.requires.runs

pub returns-clause-goes : goal.returns-clause-goes
returns-clause-goes g c =
    let m = meanings g.D.Dial.dial g.D.Link.Link.link g.D.Link.Source.source g.S.Sink.sink in
    let e = c.event-end.ensures in
    let links : c.else-is_ok.lines ≡ slice_set c.args.lines.now c.args.peer None = elim c.else-is_ok.branch [
      | else-is_ok-via-then-is_ok+else-is_busy w ↦ w.lines-is ∙ c.lines.view_is ∙ c.take_link.ensures.links
      | else-is_ok-via-else-is_ok w ↦ w.lines-is ∙ c.lines.view_is ∙ c.take_link.ensures.links
    ] in
    rw links
    (goes_back m g.met.S.Sink.joins c.accepted_roots.ensures.total_stays c.args.lines.now c.args.dial.now c.args.out.now c.event-end.new.out c.args.swarm.now c.event-end.new.self
    c.args.peer c.next_event-event.result c.in-Some.link c.next_event-event.new.link (place_of c.args.lines.now c.args.peer c.requires.link) (c.take_link.ensures.taken ∙ ap Some c.in-Some.is)
    c.next_event-event.ensures.heard IsAny c.done.new.self c.done.ensures.done c.done.ensures.missed c.done.ensures.address c.event-end.result
    (record { ends = e.ends; after = e.peer; unfinished = e.unfinished; others = e.others; settings = e.settings; count = e.count; plan = e.plan; failed = e.failed; shorter = e.shorter }))

pub returns-clause-whole : goal.returns-clause-whole
returns-clause-whole g c =
    let m = meanings g.D.Dial.dial g.D.Link.Link.link g.D.Link.Source.source g.S.Sink.sink in
    let e = c.event-end.ensures in
    whole_event m IsAny c.args.lines.now c.args.dial.now c.args.out.now c.event-end.new.out c.args.swarm.now c.event-end.new.self
    c.args.peer c.next_event-event.result c.event-end.result c.in-Some.link
    (record { ends = e.ends; after = e.peer; unfinished = e.unfinished; others = e.others; settings = e.settings; count = e.count; plan = e.plan; failed = e.failed; shorter = e.shorter })
    (c.take_link.ensures.taken ∙ ap Some c.in-Some.is) c.requires.runs

-- ---- links and steps

pub returns-in_default-clause-linked : goal.returns-in_default-clause-linked
returns-in_default-clause-linked g c =
    absurd (not_absent c.args.lines.now c.args.peer c.take_link.result c.take_link.ensures.taken c.requires.link c.in_default.not-Some)

pub returns-in_default-clause-steps : goal.returns-in_default-clause-steps
returns-in_default-clause-steps g c =
    absurd (not_absent c.args.lines.now c.args.peer c.take_link.result c.take_link.ensures.taken c.requires.link c.in_default.not-Some)

pub returns-in_default-clause-shorter : goal.returns-in_default-clause-shorter
returns-in_default-clause-shorter g c =
    absurd (not_absent c.args.lines.now c.args.peer c.take_link.result c.take_link.ensures.taken c.requires.link c.in_default.not-Some)

pub returns-then-is_busy-clause-steps : goal.returns-then-is_busy-clause-steps
returns-then-is_busy-clause-steps g c =
    let e = c.event-end.ensures in
    let run = c.requires.runs.runs.run in
    let line = c.requires.runs.runs.lines c.args.peer c.in-Some.link (c.take_link.ensures.taken ∙ ap Some c.in-Some.is) in
    event_steps g.S.Sink.sink c.args.out.now c.event-end.new.out c.args.swarm.now c.event-end.new.self c.args.peer c.next_event-event.result run.connections run.written
    line.heard line.call run.stands line.busy line.stands c.event-end.result
    (record { ends = e.ends; after = e.peer; unfinished = e.unfinished; others = e.others; settings = e.settings; count = e.count; plan = e.plan; failed = e.failed; shorter = e.shorter })
    c.next_event-event.ensures.tells

pub returns-then-is_busy-clause-shorter : goal.returns-then-is_busy-clause-shorter
returns-then-is_busy-clause-shorter g c =
    let e = c.event-end.ensures in
    let run = c.requires.runs.runs.run in
    let line = c.requires.runs.runs.lines c.args.peer c.in-Some.link (c.take_link.ensures.taken ∙ ap Some c.in-Some.is) in
    event_shorter g.S.Sink.sink c.args.out.now c.event-end.new.out c.args.swarm.now c.event-end.new.self c.args.peer c.next_event-event.result run.connections run.written
    line.heard line.call run.stands line.busy line.stands c.event-end.result
    (record { ends = e.ends; after = e.peer; unfinished = e.unfinished; others = e.others; settings = e.settings; count = e.count; plan = e.plan; failed = e.failed; shorter = e.shorter })
    c.next_event-event.ensures.tells

pub returns-clause-steps : goal.returns-clause-steps
returns-clause-steps g c =
    let e = c.event-end.ensures in
    let run = c.requires.runs.runs.run in
    let line = c.requires.runs.runs.lines c.args.peer c.in-Some.link (c.take_link.ensures.taken ∙ ap Some c.in-Some.is) in
    event_steps g.S.Sink.sink c.args.out.now c.event-end.new.out c.args.swarm.now c.event-end.new.self c.args.peer c.next_event-event.result run.connections run.written
    line.heard line.call run.stands line.busy line.stands c.event-end.result
    (record { ends = e.ends; after = e.peer; unfinished = e.unfinished; others = e.others; settings = e.settings; count = e.count; plan = e.plan; failed = e.failed; shorter = e.shorter })
    c.next_event-event.ensures.tells

pub returns-clause-shorter : goal.returns-clause-shorter
returns-clause-shorter g c =
    let e = c.event-end.ensures in
    let run = c.requires.runs.runs.run in
    let line = c.requires.runs.runs.lines c.args.peer c.in-Some.link (c.take_link.ensures.taken ∙ ap Some c.in-Some.is) in
    event_shorter g.S.Sink.sink c.args.out.now c.event-end.new.out c.args.swarm.now c.event-end.new.self c.args.peer c.next_event-event.result run.connections run.written
    line.heard line.call run.stands line.busy line.stands c.event-end.result
    (record { ends = e.ends; after = e.peer; unfinished = e.unfinished; others = e.others; settings = e.settings; count = e.count; plan = e.plan; failed = e.failed; shorter = e.shorter })
    c.next_event-event.ensures.tells

pub returns-then-is_busy-clause-linked : goal.returns-then-is_busy-clause-linked
returns-then-is_busy-clause-linked g c =
    let links = c.put_link.ensures ∙ ap (λ ls. slice_set ls c.args.peer (Some c.next_event-event.new.link)) (c.lines.view_is ∙ c.take_link.ensures.links)
    ∙ set-set c.args.lines.now c.args.peer None (Some c.next_event-event.new.link) in
    rw links
    (if_ok c.event-end.result (linked_with c.args.swarm.now c.event-end.new.self c.args.peer c.args.lines.now (Some c.next_event-event.new.link)
    (place_of c.args.lines.now c.args.peer c.requires.link) c.event-end.ensures.others (λ call busy. (c.next_event-event.new.link, refl)) c.requires.linked))

pub returns-clause-linked : goal.returns-clause-linked
returns-clause-linked g c = elim c.else-is_ok.branch [
  | else-is_ok-via-then-is_ok+else-is_busy w ↦
      rw (w.lines-is ∙ c.lines.view_is ∙ c.take_link.ensures.links)
      (if_ok c.event-end.result (linked_with c.args.swarm.now c.event-end.new.self c.args.peer c.args.lines.now None
      (place_of c.args.lines.now c.args.peer c.requires.link) c.event-end.ensures.others
      (λ call busy. let yes = w.is_busy.ensures.1 (call, busy) in let no = w.if-is_busy.false in absurd (cc (yes, no))) c.requires.linked))
  | else-is_ok-via-else-is_ok w ↦ not_ok _ c.event-end.result (sym c.is_ok.ensures.value ∙ w.if-is_ok.false)
]

-- ---- how many links there are

pub returns-in_default-clause-count : goal.returns-in_default-clause-count
returns-in_default-clause-count g c =
    let d = g.D.Dial.dial in
    keeps_as d c.args.dial.now c.args.dial.now (open_count c.args.lines.now) (open_count c.args.lines.now) _
    (ap open_count c.take_link.ensures.links ∙ open_untaken c.args.lines.now c.args.peer c.take_link.result c.take_link.ensures.taken c.in_default.not-Some) (λ n e. e)

pub returns-then-is_busy-clause-count : goal.returns-then-is_busy-clause-count
returns-then-is_busy-clause-count g c =
    let d = g.D.Dial.dial in
    let links = c.put_link.ensures ∙ ap (λ ls. slice_set ls c.args.peer (Some c.next_event-event.new.link)) (c.lines.view_is ∙ c.take_link.ensures.links)
    ∙ set-set c.args.lines.now c.args.peer None (Some c.next_event-event.new.link) in
    keeps_as d c.args.dial.now c.args.dial.now (open_count c.args.lines.now) (open_count c.args.lines.now) _
    (ap open_count links ∙ open_other c.args.lines.now c.args.peer c.in-Some.link c.next_event-event.new.link (c.take_link.ensures.taken ∙ ap Some c.in-Some.is)) (λ n e. e)

pub returns-clause-count : goal.returns-clause-count
returns-clause-count g c =
    let links : c.else-is_ok.lines ≡ slice_set c.args.lines.now c.args.peer None = elim c.else-is_ok.branch [
      | else-is_ok-via-then-is_ok+else-is_busy w ↦ w.lines-is ∙ c.lines.view_is ∙ c.take_link.ensures.links
      | else-is_ok-via-else-is_ok w ↦ w.lines-is ∙ c.lines.view_is ∙ c.take_link.ensures.links
    ] in
    rw links
    (keeps_less g.D.Dial.dial c.args.dial.now c.done.new.self c.args.lines.now c.args.peer c.in-Some.link (c.take_link.ensures.taken ∙ ap Some c.in-Some.is) _
    c.done.ensures.done c.done.ensures.coming)
