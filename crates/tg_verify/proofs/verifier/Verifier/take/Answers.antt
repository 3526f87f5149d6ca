use Rattle.std.proofs.Common.{[], ◌++◌, ◌∙◌, ◌∷◌}
use Rattle.std.proofs.lemmas.Result.{err_from_is_err_and}
use Rattle.tg_streams.specs.Streams.{into}
use Rattle.tg_verify.proofs.Turns.{cause_later, counted_none, counted_one, gone_later, gone_taken, same_both, told_later}
use Rattle.tg_verify.specs.Steps.{section_with}
use Rattle.tg_verify.proofs.verifier.Verifier.take.Goals as goal

pub returns-in_err-accept-clause-counted : goal.returns-in_err-accept-clause-counted
returns-in_err-accept-clause-counted g c =
    let p = err_from_is_err_and c.from_residual.result c.from_residual.ensures.1 in
    rw (p.1, p.2) (counted_none c.args.self.now.taken c.accept.new.self.taken c.in_err-accept.field-0.0 c.in_err-accept.ensures.counted)

pub returns-in_err-accept-clause-stands : goal.returns-in_err-accept-clause-stands
returns-in_err-accept-clause-stands g c sections written h =
    let p = err_from_is_err_and c.from_residual.result c.from_residual.ensures.1 in
    rw (p.1, p.2) (c.in_err-accept.ensures.stands sections written h)

pub returns-clause-same : goal.returns-clause-same
returns-clause-same g c = same_both c.args.self.now c.accept.new.self c.go_on.new.self c.in_ok-accept.ensures.same c.go_on.ensures.same

pub returns-clause-stands : goal.returns-clause-stands
returns-clause-stands g c sections written h =
    let all = sections ++ section_with c.args.cid c.args.block ∷ [] in
    gone_taken c.verified_sections.ensures c.go_on.new.self all written (into g.S.Sink.sink c.args.out.now c.go_on.new.out) c.go_on.result
    (gone_later g.S.Sink.sink g.met.S.Sink.joins c.args.out.now c.accept.new.out c.go_on.new.out c.accept.new.self c.go_on.new.self all written c.go_on.result
    (c.in_ok-accept.ensures.stands sections written h) (λ text. c.go_on.ensures.stands all text))

pub returns-clause-cause : goal.returns-clause-cause
returns-clause-cause g c =
    cause_later g.S.Sink.sink c.args.out.now c.accept.new.out c.go_on.new.out c.go_on.result c.in_ok-accept.ensures.cause c.go_on.ensures.cause

pub returns-clause-counted : goal.returns-clause-counted
returns-clause-counted g c =
    counted_one c.args.self.now.taken c.go_on.new.self.taken c.go_on.result (c.go_on.ensures.taken ∙ c.in_ok-accept.ensures.counted) c.go_on.ensures.place

pub returns-clause-terminal : goal.returns-clause-terminal
returns-clause-terminal g c sections written h =
    let mid = c.in_ok-accept.ensures.stands sections written h in c.go_on.ensures.terminal (sections ++ section_with c.args.cid c.args.block ∷ []) (written ++ mid.text) mid.on

pub returns-clause-told : goal.returns-clause-told
returns-clause-told g c = told_later c.args.self.now.terminal c.accept.new.self.terminal c.go_on.new.self.terminal c.in_ok-accept.ensures.told c.go_on.ensures.told
