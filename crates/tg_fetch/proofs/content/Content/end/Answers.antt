use Rattle.std.proofs.Common.{subst, ◌∙◌}
use Rattle.std.proofs.lemmas.Result.{err_from_is_err_and}
use Rattle.tg_body.specs.Bodies.{BodyText}
use Rattle.tg_body.specs.History.{HasEndCause}
use Rattle.tg_http.specs.declared.framing.Framing.{Framing}
use Rattle.tg_streams.specs.Streams.{into}
use Rattle.tg_fetch.proofs.Contents.{cut_refused, has_ended}
use Rattle.tg_fetch.proofs.KeptSections.{nothing_kept}
use Rattle.tg_fetch.specs.Keeping.{unkept}
use Rattle.tg_fetch.proofs.KeptReplies.{cut_keeps, ended_keeps, taken_here}
use Rattle.tg_fetch.proofs.content.Content.end.Goals as goal

pub returns-in_err-end-clause-ends : goal.returns-in_err-end-clause-ends
returns-in_err-end-clause-ends g c q limits heard written h within =
    let p = err_from_is_err_and c.from_residual.result c.from_residual.ensures.1 in
    let stopped = c.in_err-end.ensures.stands _ h.reads in
    let fault = c.in_err-end.field-0.0 in
    let cause : HasEndCause h.head.framing h.rest h.given fault =
    subst (λ (f : Framing). HasEndCause f h.rest h.given fault) (c.in_err-end.ensures.framing ∙ h.framing) stopped.exact.stopped.1 in
    rw (p.1, p.2)
    (cut_refused q limits c.args.self.now heard written h c.standing_bodies.ensures _ g.S.Sink.sink c.args.out.now (g.met.S.Sink.rests c.args.out.now) fault within cause)

pub returns-clause-ends : goal.returns-clause-ends
returns-clause-ends g c q limits heard written h within =
    has_ended q limits c.args.self.now heard written h (subst (λ (f : Framing). BodyText f h.given h.rest) h.framing (c.in_ok-end.ensures.whole _ h.reads)) within
    (into g.S.Sink.sink c.args.out.now c.end-2.new.out) c.end-2.result (c.end-2.ensures.ends q limits h.head h.given written h.taking)

pub returns-in_err-end-clause-kept : goal.returns-in_err-end-clause-kept
returns-in_err-end-clause-kept g c q limits heard written before h within stand =
    let p = err_from_is_err_and c.from_residual.result c.from_residual.ensures.1 in
    let stopped = c.in_err-end.ensures.stands _ h.reads in
    let fault = c.in_err-end.field-0.0 in
    let cause : HasEndCause h.head.framing h.rest h.given fault =
    subst (λ (f : Framing). HasEndCause f h.rest h.given fault) (c.in_err-end.ensures.framing ∙ h.framing) stopped.exact.stopped.1 in
    rw (p.1, p.2)
    (cut_keeps c.heads_go_on.ensures c.bodies_go_on.ensures q limits c.args.self.now heard written h c.standing_bodies.ensures c.received_sections.ensures.one
    _ g.S.Sink.sink c.args.out.now (g.met.S.Sink.rests c.args.out.now) before unkept stand nothing_kept fault within cause)

pub returns-clause-kept : goal.returns-clause-kept
returns-clause-kept g c q limits heard written before h within stand =
    ended_keeps c.heads_go_on.ensures c.bodies_go_on.ensures q limits c.args.self.now heard written h
    (subst (λ (f : Framing). BodyText f h.given h.rest) h.framing (c.in_ok-end.ensures.whole _ h.reads)) within before
    (into g.S.Sink.sink c.args.out.now c.end-2.new.out) unkept c.end-2.result
    (c.end-2.ensures.kept q limits h.head h.given written before h.taking
    (taken_here c.heads_go_on.ensures c.bodies_go_on.ensures q limits c.args.self.now heard written h before stand))

-- ---- what the path leads to

pub returns-clause-reached : goal.returns-clause-reached
returns-clause-reached g c q limits heard written h ok form = c.end-2.ensures.told q limits h.head h.given written h.taking form ok
