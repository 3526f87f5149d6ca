use Rattle.std.proofs.Common.{Option, ◌∙◌, refl, subst, sym}
use Rattle.tg_fetch.proofs.Telling.{tells_done, tells_in_content, terminal_content, terminal_done}
use Rattle.tg_fetch.specs.Telling.{IsTerminalReceived, terminal_in}
use Rattle.tg_fetch.specs.declared.client.Client.{Client}
use Rattle.tg_fetch.specs.declared.client.Stage.TheVariants as stages
use Rattle.tg_verify.specs.declared.terminal.Terminal.{Terminal}
use Rattle.tg_fetch.proofs.Feeding.{heads_cut}
use Rattle.tg_streams.specs.Joining.{put_nothing}
use Rattle.tg_streams.specs.Streams.{into}
use Rattle.tg_fetch.proofs.Feeding.{in_content}
use Rattle.tg_fetch.proofs.KeptSections.{nothing_kept}
use Rattle.tg_fetch.specs.Keeping.{unkept}
use Rattle.tg_fetch.proofs.KeptReplies.{heads_cut_keep, whole_at_end}
use Rattle.std.proofs.lemmas.Result.{err_from_is_err_and}
use Rattle.tg_fetch.proofs.client.Client.finish.Goals as goal

pub returns-in-Heads-clause-ends : goal.returns-in-Heads-clause-ends
returns-in-Heads-clause-ends g c heard written h =
    heads_cut c.args.self.now c.in-Heads.field-0 heard written (into g.S.Sink.sink c.args.out.now c.args.out.now) c.in-Heads.is h
    (put_nothing _ g.S.Sink.sink c.args.out.now (g.met.S.Sink.rests c.args.out.now))

pub returns-in-Heads-clause-kept : goal.returns-in-Heads-clause-kept
returns-in-Heads-clause-kept g c heard written before h stand =
    heads_cut_keep c.args.self.now c.in-Heads.field-0 heard written c.in-Heads.is h c.heads_go_on.ensures before stand (into g.S.Sink.sink c.args.out.now c.args.out.now)
    (put_nothing _ g.S.Sink.sink c.args.out.now (g.met.S.Sink.rests c.args.out.now)) unkept nothing_kept

pub returns-in_err-end-in-Content-clause-kept : goal.returns-in_err-end-in-Content-clause-kept
returns-in_err-end-in-Content-clause-kept g c heard written before h stand =
    let p = err_from_is_err_and c.from_residual.result c.from_residual.ensures.1 in
    let old = c.args.self.now in
    rw (p.1, p.2)
    (c.in_err-end-in-Content.ensures.kept old.query old.limits heard written before (in_content old.query old.limits old.stage c.in-Content.content heard written c.in-Content.is h.at)
    h.within stand)

pub returns-in_ok-end-in-Content-clause-kept : goal.returns-in_ok-end-in-Content-clause-kept
returns-in_ok-end-in-Content-clause-kept g c heard written before h stand =
    let old = c.args.self.now in
    whole_at_end old.query old.limits heard before written (into g.S.Sink.sink c.args.out.now c.end.new.out) unkept h.within
    (c.in_ok-end-in-Content.ensures.kept old.query old.limits heard written before (in_content old.query old.limits old.stage c.in-Content.content heard written c.in-Content.is h.at)
    h.within stand)

-- ---- what the path leads to

pub returns-in_err-end-in-Content-clause-tells : goal.returns-in_err-end-in-Content-clause-tells
returns-in_err-end-in-Content-clause-tells g c heard written h t =
    let old = c.args.self.now in
    let content = c.end.new.self in
    tells_in_content (record old { stage = stages.Content content }) content heard refl
    (subst (λ (o : Option Terminal). IsTerminalReceived old.query old.limits heard o) (terminal_content old c.in-Content.content c.in-Content.is ∙ sym c.end.ensures.terminal) t.so)

pub returns-in_err-end-in-Content-clause-told : goal.returns-in_err-end-in-Content-clause-told
returns-in_err-end-in-Content-clause-told g c =
    c.end.ensures.terminal ∙ sym (terminal_content c.args.self.now c.in-Content.content c.in-Content.is)

pub returns-in_ok-end-in-Content-clause-tells : goal.returns-in_ok-end-in-Content-clause-tells
returns-in_ok-end-in-Content-clause-tells g c heard written h t =
    let old = c.args.self.now in
    let content = c.end.new.self in
    let new : Client = record old { terminal = c.terminal-self.result; stage = c.enter.new.self } in
    tells_done new (terminal_in content.sections) heard c.enter.ensures c.terminal-self.ensures
    (subst (λ (o : Option Terminal). IsTerminalReceived old.query old.limits heard o) (terminal_content old c.in-Content.content c.in-Content.is ∙ sym c.end.ensures.terminal) t.so)
    (c.in_ok-end-in-Content.ensures.reached old.query old.limits heard written
    (in_content old.query old.limits old.stage c.in-Content.content heard written c.in-Content.is h.at) refl)

pub returns-in_ok-end-in-Content-clause-told : goal.returns-in_ok-end-in-Content-clause-told
returns-in_ok-end-in-Content-clause-told g c =
    let old = c.args.self.now in
    let new : Client = record old { terminal = c.terminal-self.result; stage = c.enter.new.self } in
    terminal_done new c.enter.ensures ∙ (c.terminal-self.ensures ∙ (c.end.ensures.terminal ∙ sym (terminal_content old c.in-Content.content c.in-Content.is)))
