use Rattle.std.proofs.Common.{◌≡◌, Err, List, ℕ, Option, ap, subst, sym}
use Rattle.tg_client.specs.declared.body.CarBody.{CarBody}
use Rattle.tg_fetch.proofs.Telling.{all_told}
use Rattle.tg_model.specs.Queries.{QueryParts}
use Rattle.tg_verify.specs.Terminals.{IsToldIn}
use Rattle.tg_verify.specs.declared.terminal.Terminal.{Terminal}
use Rattle.std.proofs.lemmas.Result.{err_from_is_err_and}
use Rattle.tg_fetch.specs.Bodies.{EndsTaking, IsTaking}
use Rattle.tg_fetch.specs.declared.sections.Sections.{Sections}
use Rattle.tg_streams.specs.Joining.{put_nothing}
use Rattle.tg_streams.specs.Streams.{into}
use Rattle.tg_fetch.proofs.KeptSections.{nothing_kept}
use Rattle.tg_fetch.specs.Keeping.{unkept}
use Rattle.tg_fetch.proofs.TakenSections.{absence_end_keeps, block_end_keeps, short_keeping, whole_keeping}
use Rattle.tg_fetch.specs.Faults.{fault_of_client}
use Rattle.tg_fetch.specs.KeepingSteps.{BodyEndKeeps, BodyFailsKeeping, BodyWholeKeeping, TakenIn}
use Rattle.tg_fetch.specs.declared.fault.FetchFault.TheVariants as faults
use Rattle.tg_fetch.proofs.Taking.{absence_reached, absence_short, ends_short, ends_whole}
use Rattle.tg_fetch.proofs.sections.Sections.end.Goals as goal

pub returns-in_err-end-in-Answer-clause-ends : goal.returns-in_err-end-in-Answer-clause-ends
returns-in_err-end-in-Answer-clause-ends g c q limits head given written taking =
    let p = err_from_is_err_and c.from_residual.result c.from_residual.ensures.1 in
    let h = subst (λ (s : Sections). IsTaking q limits head s given written) c.in-Answer.is taking in
    let e = c.in_err-end-in-Answer in
    rw (p.1, p.2)
    (ends_short q limits head c.in-Answer.body given written h (into g.S.Sink.sink c.args.out.now c.args.out.now)
    (put_nothing _ g.S.Sink.sink c.args.out.now (g.met.S.Sink.rests c.args.out.now)) e.field-0.0 (e.ensures.stands given h.sections written h.is_body))

pub returns-in_err-end-in-Absence-clause-ends : goal.returns-in_err-end-in-Absence-clause-ends
returns-in_err-end-in-Absence-clause-ends g c q limits head given written taking =
    let p = err_from_is_err_and c.from_residual-in_err-end-in-Absence.result c.from_residual-in_err-end-in-Absence.ensures.1 in
    let (h, none) = subst (λ (s : Sections). IsTaking q limits head s given written) c.in-Absence.is taking in
    let e = c.in_err-end-in-Absence in
    rw (p.1, p.2)
    (absence_short q limits head c.in-Absence.body given h written none (into g.S.Sink.sink c.args.out.now c.args.out.now)
    (put_nothing _ g.S.Sink.sink c.args.out.now (g.met.S.Sink.rests c.args.out.now)) e.field-0.0 (e.ensures.stands given h.sections h.said h.is_body))

pub returns-in_ok-end-in-Answer-clause-ends : goal.returns-in_ok-end-in-Answer-clause-ends
returns-in_ok-end-in-Answer-clause-ends g c q limits head given written taking =
    let h = subst (λ (s : Sections). IsTaking q limits head s given written) c.in-Answer.is taking in
    ends_whole q limits head c.in-Answer.body given written h (into g.S.Sink.sink c.args.out.now c.args.out.now)
    (put_nothing _ g.S.Sink.sink c.args.out.now (g.met.S.Sink.rests c.args.out.now)) (c.in_ok-end-in-Answer.ensures.stands given h.sections written h.is_body)

pub returns-in_ok-end-in-Absence-clause-ends : goal.returns-in_ok-end-in-Absence-clause-ends
returns-in_ok-end-in-Absence-clause-ends g c q limits head given written taking =
    let (h, none) = subst (λ (s : Sections). IsTaking q limits head s given written) c.in-Absence.is taking in
    absence_reached q limits head c.in-Absence.body given h written none (into g.S.Sink.sink c.args.out.now c.args.out.now)
    (put_nothing _ g.S.Sink.sink c.args.out.now (g.met.S.Sink.rests c.args.out.now)) (c.in_ok-end-in-Absence.ensures.stands given h.sections h.said h.is_body)

pub returns-in-Block-clause-ends : goal.returns-in-Block-clause-ends
returns-in-Block-clause-ends g c q limits head given written taking =
    let (h, none) = subst (λ (s : Sections). IsTaking q limits head s given written) c.in-Block.is taking in
    subst (λ (t : List ℕ). EndsTaking q limits head given t (into g.S.Sink.sink c.args.out.now c.verify.new.out) c.verify.result) (sym none) (c.verify.ensures.ends q limits head given h)

pub returns-in_err-end-in-Answer-clause-kept : goal.returns-in_err-end-in-Answer-clause-kept
returns-in_err-end-in-Answer-clause-kept g c q limits head given written before taking taken =
    let p = err_from_is_err_and c.from_residual.result c.from_residual.ensures.1 in
    let h = subst (λ (s : Sections). IsTaking q limits head s given written) c.in-Answer.is taking in
    let received = subst (λ (s : Sections). TakenIn s limits given before) c.in-Answer.is taken in
    let e = c.in_err-end-in-Answer in
    let out = into g.S.Sink.sink c.args.out.now c.args.out.now in
    rw (p.1, p.2)
    (subst (λ (s : Sections). BodyFailsKeeping q limits head s given before written out unkept (fault_of_client e.field-0.0)) (sym c.in-Answer.is)
    (short_keeping c.standing_bodies.ensures c.received_sections.ensures.one q limits head c.in-Answer.body given written h before received out unkept
    (put_nothing _ g.S.Sink.sink c.args.out.now (g.met.S.Sink.rests c.args.out.now)) nothing_kept e.field-0.0 (e.ensures.stands given h.sections written h.is_body)))

pub returns-in_ok-end-in-Answer-clause-kept : goal.returns-in_ok-end-in-Answer-clause-kept
returns-in_ok-end-in-Answer-clause-kept g c q limits head given written before taking taken =
    let h = subst (λ (s : Sections). IsTaking q limits head s given written) c.in-Answer.is taking in
    let received = subst (λ (s : Sections). TakenIn s limits given before) c.in-Answer.is taken in
    let out = into g.S.Sink.sink c.args.out.now c.args.out.now in
    subst (λ (s : Sections). BodyWholeKeeping q limits head s given before written out unkept) (sym c.in-Answer.is)
    (whole_keeping c.standing_bodies.ensures c.received_sections.ensures.one q limits head c.in-Answer.body given written h before received out unkept
    (put_nothing _ g.S.Sink.sink c.args.out.now (g.met.S.Sink.rests c.args.out.now)) nothing_kept (c.in_ok-end-in-Answer.ensures.stands given h.sections written h.is_body))

pub returns-in_err-end-in-Absence-clause-kept : goal.returns-in_err-end-in-Absence-clause-kept
returns-in_err-end-in-Absence-clause-kept g c q limits head given written before taking taken =
    let out = into g.S.Sink.sink c.args.out.now c.args.out.now in
    subst (λ (s : Sections). BodyEndKeeps q limits head s given before written out unkept c.from_residual-in_err-end-in-Absence.result) (sym c.in-Absence.is)
    (absence_end_keeps q limits head given written out unkept before nothing_kept c.in-Absence.body c.from_residual-in_err-end-in-Absence.result
    (returns-in_err-end-in-Absence-clause-ends g c q limits head given written taking))

pub returns-in_ok-end-in-Absence-clause-kept : goal.returns-in_ok-end-in-Absence-clause-kept
returns-in_ok-end-in-Absence-clause-kept g c q limits head given written before taking taken =
    let out = into g.S.Sink.sink c.args.out.now c.args.out.now in
    subst (λ (s : Sections). BodyEndKeeps q limits head s given before written out unkept (Err (faults.Status 404))) (sym c.in-Absence.is)
    (absence_end_keeps q limits head given written out unkept before nothing_kept c.in-Absence.body (Err (faults.Status 404))
    (returns-in_ok-end-in-Absence-clause-ends g c q limits head given written taking))

pub returns-in-Block-clause-kept : goal.returns-in-Block-clause-kept
returns-in-Block-clause-kept g c q limits head given written before taking taken =
    let out = into g.S.Sink.sink c.args.out.now c.verify.new.out in
    subst (λ (s : Sections). BodyEndKeeps q limits head s given before written out unkept c.verify.result) (sym c.in-Block.is)
    (block_end_keeps q limits head given written out unkept before nothing_kept c.in-Block.block c.verify.result
    (returns-in-Block-clause-ends g c q limits head given written taking))

-- ---- what the path leads to

still_told : (q : QueryParts) (old new : CarBody) → new ≡ record old { verifier = record old.verifier { refused = new.verifier.refused }; refused = new.refused }
    → IsToldIn q.scope old.verifier.terminal → IsToldIn q.scope new.verifier.terminal
still_told q old new e told = subst (λ (t : Option Terminal). IsToldIn q.scope t) (sym (ap (λ (b : CarBody). b.verifier.terminal) e)) told

pub returns-in_ok-end-in-Answer-clause-told : goal.returns-in_ok-end-in-Answer-clause-told
returns-in_ok-end-in-Answer-clause-told g c q limits head given written taking form ok =
    let h = subst (λ (s : Sections). IsTaking q limits head s given written) c.in-Answer.is taking in
    let e = c.in_ok-end-in-Answer in
    still_told q c.in-Answer.body c.end.new.self c.end.ensures.rest
    (all_told c.verified_sections.ensures c.received_sections.ensures c.standing_bodies.ensures c.told_bodies.ensures q limits head c.in-Answer.body given written h
    (e.ensures.stands given h.sections written h.is_body))
