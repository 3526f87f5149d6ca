use Rattle.std.proofs.Common.{◌++◌, ◌≡◌, Some, refl, subst, sym}
use Rattle.std.specs.Prelude.{IfSome, ⊤}
use Rattle.tg_fetch.proofs.Telling.{heard_by_its, untold_heard}
use Rattle.tg_fetch.specs.Telling.{terminal_in}
use Rattle.std.proofs.lemmas.Result.{err_from_is_err_and}
use Rattle.tg_fetch.specs.Bodies.{IsTaking}
use Rattle.tg_fetch.specs.declared.sections.Sections.{Sections}
use Rattle.tg_streams.specs.Joining.{put_nothing}
use Rattle.tg_streams.specs.Streams.{into}
use Rattle.tg_fetch.proofs.KeptSections.{client_cause, none_kept, quiet_also}
use Rattle.tg_fetch.proofs.TakenSections.{absence_keeps, block_keeps, goes_keeping, stops_keeping}
use Rattle.tg_fetch.proofs.Taking.{absence_takes, block_quiet, block_takes, goes_on, quiet_other, stops}
use Rattle.tg_fetch.specs.Faults.{fault_of_client}
use Rattle.tg_fetch.specs.KeepingSteps.{BodyKeeps, BodyStopsKeeping, TakenIn}
use Rattle.tg_fetch.specs.declared.sections.Sections.TheVariants as takings
use Rattle.tg_model.specs.Stores.{kept_in}
use Rattle.tg_fetch.proofs.sections.Sections.take.Goals as goal

pub returns-in_err-feed_keep-in-Answer-clause-takes : goal.returns-in_err-feed_keep-in-Answer-clause-takes
returns-in_err-feed_keep-in-Answer-clause-takes g c q limits head given written taking =
    let p = err_from_is_err_and c.from_residual.result c.from_residual.ensures.1 in
    let h = subst (λ (s : Sections). IsTaking q limits head s given written) c.in-Answer.is taking in
    let e = c.in_err-feed_keep-in-Answer in
    rw (p.1, p.2)
    (stops q limits head c.in-Answer.body given written h (given ++ c.args.part.now) (into g.S.Sink.sink c.args.out.now c.feed_keep.new.out) e.field-0.0
    (e.ensures.cause h.is_body.unrefused h.is_body.fresh) (e.ensures.stands given h.sections written h.is_body))

pub returns-in_ok-feed_keep-in-Answer-clause-takes : goal.returns-in_ok-feed_keep-in-Answer-clause-takes
returns-in_ok-feed_keep-in-Answer-clause-takes g c q limits head given written taking =
    let h = subst (λ (s : Sections). IsTaking q limits head s given written) c.in-Answer.is taking in
    let e = c.in_ok-feed_keep-in-Answer in
    goes_on q limits head c.in-Answer.body given written h c.feed_keep.new.self (given ++ c.args.part.now) (into g.S.Sink.sink c.args.out.now c.feed_keep.new.out)
    e.ensures.query e.ensures.limits (e.ensures.stands given h.sections written h.is_body)

pub returns-in-Absence-clause-takes : goal.returns-in-Absence-clause-takes
returns-in-Absence-clause-takes g c q limits head given written taking =
    let (h, none) = subst (λ (s : Sections). IsTaking q limits head s given written) c.in-Absence.is taking in
    absence_takes q limits head c.in-Absence.body given h written none (into g.S.Sink.sink c.args.out.now c.args.out.now)
    (put_nothing _ g.S.Sink.sink c.args.out.now (g.met.S.Sink.rests c.args.out.now)) c.show.new.body (given ++ c.args.part.now) c.show.result
    (c.show.ensures.shows q limits head given h)

pub returns-in-Block-clause-takes : goal.returns-in-Block-clause-takes
returns-in-Block-clause-takes g c q limits head given written taking =
    let (h, none) = subst (λ (s : Sections). IsTaking q limits head s given written) c.in-Block.is taking in
    block_takes q limits head c.in-Block.block given h written none (into g.S.Sink.sink c.args.out.now c.args.out.now)
    (put_nothing _ g.S.Sink.sink c.args.out.now (g.met.S.Sink.rests c.args.out.now)) c.add.new.self (given ++ c.args.part.now) c.add.result
    (c.add.ensures q limits head given h)

pub returns-in_err-feed_keep-in-Answer-clause-kept : goal.returns-in_err-feed_keep-in-Answer-clause-kept
returns-in_err-feed_keep-in-Answer-clause-kept g c q limits head given written before taking taken =
    let p = err_from_is_err_and c.from_residual.result c.from_residual.ensures.1 in
    let h = subst (λ (s : Sections). IsTaking q limits head s given written) c.in-Answer.is taking in
    let received = subst (λ (s : Sections). TakenIn s limits given before) c.in-Answer.is taken in
    let e = c.in_err-feed_keep-in-Answer in
    let out = into g.S.Sink.sink c.args.out.now c.feed_keep.new.out in
    let keeping = kept_in g.K.Keep.keeper c.args.keep.now c.feed_keep.new.keep in
    rw (p.1, p.2)
    (subst (λ (s : Sections). BodyStopsKeeping q limits head s (given ++ c.args.part.now) before written out keeping (fault_of_client e.field-0.0)) (sym c.in-Answer.is)
    (stops_keeping c.standing_bodies.ensures c.received_sections.ensures.one q limits head c.in-Answer.body given written h before received c.args.part.now out keeping e.field-0.0
    (e.ensures.cause h.is_body.unrefused h.is_body.fresh) (e.ensures.kept given h.sections written h.is_body)))

pub returns-in_ok-feed_keep-in-Answer-clause-kept : goal.returns-in_ok-feed_keep-in-Answer-clause-kept
returns-in_ok-feed_keep-in-Answer-clause-kept g c q limits head given written before taking taken =
    let h = subst (λ (s : Sections). IsTaking q limits head s given written) c.in-Answer.is taking in
    let received = subst (λ (s : Sections). TakenIn s limits given before) c.in-Answer.is taken in
    let e = c.in_ok-feed_keep-in-Answer in
    goes_keeping c.standing_bodies.ensures c.received_sections.ensures.one q limits head c.in-Answer.body given written h before received c.feed_keep.new.self
    (given ++ c.args.part.now) (into g.S.Sink.sink c.args.out.now c.feed_keep.new.out) (kept_in g.K.Keep.keeper c.args.keep.now c.feed_keep.new.keep) e.ensures.limits
    (e.ensures.kept given h.sections written h.is_body)

pub returns-in-Absence-clause-kept : goal.returns-in-Absence-clause-kept
returns-in-Absence-clause-kept g c q limits head given written before taking taken =
    let none = subst (λ (s : Sections). TakenIn s limits given before) c.in-Absence.is taken in
    let out = into g.S.Sink.sink c.args.out.now c.args.out.now in
    let keeping = kept_in g.K.Keep.keeper c.args.keep.now c.args.keep.now in
    let new : Sections = takings.Absence c.show.new.body in
    subst (λ (s : Sections). BodyKeeps q limits head s new (given ++ c.args.part.now) before written out keeping c.show.result) (sym c.in-Absence.is)
    (absence_keeps q limits head (given ++ c.args.part.now) written out keeping before none (none_kept g.K.Keep.keeper c.args.keep.now (g.met.K.Keep.rests c.args.keep.now))
    c.in-Absence.body c.show.new.body c.show.result (returns-in-Absence-clause-takes g c q limits head given written taking))

pub returns-in-Block-clause-kept : goal.returns-in-Block-clause-kept
returns-in-Block-clause-kept g c q limits head given written before taking taken =
    let none = subst (λ (s : Sections). TakenIn s limits given before) c.in-Block.is taken in
    let out = into g.S.Sink.sink c.args.out.now c.args.out.now in
    let keeping = kept_in g.K.Keep.keeper c.args.keep.now c.args.keep.now in
    let new : Sections = takings.Block c.add.new.self in
    subst (λ (s : Sections). BodyKeeps q limits head s new (given ++ c.args.part.now) before written out keeping c.add.result) (sym c.in-Block.is)
    (block_keeps q limits head (given ++ c.args.part.now) written out keeping before none (none_kept g.K.Keep.keeper c.args.keep.now (g.met.K.Keep.rests c.args.keep.now))
    c.in-Block.block c.add.new.self c.add.result (returns-in-Block-clause-takes g c q limits head given written taking))

pub returns-in-Block-clause-cause : goal.returns-in-Block-clause-cause
returns-in-Block-clause-cause g c q limits head given written taking =
    let (h, none) = subst (λ (s : Sections). IsTaking q limits head s given written) c.in-Block.is taking in
    quiet_also ⊤ (into g.S.Sink.sink c.args.out.now c.args.out.now) (kept_in g.K.Keep.keeper c.args.keep.now c.args.keep.now) c.add.result refl
    (block_quiet q limits head c.in-Block.block given h (into g.S.Sink.sink c.args.out.now c.args.out.now) refl c.add.new.self (given ++ c.args.part.now) c.add.result
    (c.add.ensures q limits head given h))

pub returns-in_err-feed_keep-in-Answer-clause-cause : goal.returns-in_err-feed_keep-in-Answer-clause-cause
returns-in_err-feed_keep-in-Answer-clause-cause g c q limits head given written taking =
    let p = err_from_is_err_and c.from_residual.result c.from_residual.ensures.1 in
    let h = subst (λ (s : Sections). IsTaking q limits head s given written) c.in-Answer.is taking in
    let e = c.in_err-feed_keep-in-Answer in
    rw (p.1, p.2)
    (client_cause ⊤ ⊤ (into g.S.Sink.sink c.args.out.now c.feed_keep.new.out) (kept_in g.K.Keep.keeper c.args.keep.now c.feed_keep.new.keep) e.field-0.0
    (e.ensures.cause h.is_body.unrefused h.is_body.fresh) (e.ensures.keep_cause h.is_body.unrefused))

pub returns-in_ok-feed_keep-in-Answer-clause-cause : goal.returns-in_ok-feed_keep-in-Answer-clause-cause
returns-in_ok-feed_keep-in-Answer-clause-cause g c q limits head given written taking =
    let h = subst (λ (s : Sections). IsTaking q limits head s given written) c.in-Answer.is taking in
    let e = c.in_ok-feed_keep-in-Answer in
    ((e.ensures.cause h.is_body.unrefused h.is_body.fresh).1, e.ensures.keep_cause h.is_body.unrefused)

pub returns-in-Absence-clause-cause : goal.returns-in-Absence-clause-cause
returns-in-Absence-clause-cause g c q limits head given written taking =
    let (h, none) = subst (λ (s : Sections). IsTaking q limits head s given written) c.in-Absence.is taking in
    quiet_also ⊤ (into g.S.Sink.sink c.args.out.now c.args.out.now) (kept_in g.K.Keep.keeper c.args.keep.now c.args.keep.now) c.show.result refl
    (quiet_other (into g.S.Sink.sink c.args.out.now c.args.out.now) c.show.result (c.show.ensures.cause h.is_body.unrefused h.is_body.fresh) (c.show.ensures.unkept h.is_body.unrefused) refl)

-- ---- what the path leads to

pub returns-in_err-feed_keep-in-Answer-clause-terminal : goal.returns-in_err-feed_keep-in-Answer-clause-terminal
returns-in_err-feed_keep-in-Answer-clause-terminal g c q limits head given written taking =
    let h = subst (λ (s : Sections). IsTaking q limits head s given written) c.in-Answer.is taking in
    let v = c.in-Answer.body.verifier in
    heard_by_its q v.left.query limits v.limits (given ++ c.args.part.now) c.feed_keep.new.self.verifier.terminal h.query h.limits_are
    (c.feed_keep.ensures.terminal given h.sections written h.is_body)

pub returns-in_err-feed_keep-in-Answer-clause-told : goal.returns-in_err-feed_keep-in-Answer-clause-told
returns-in_err-feed_keep-in-Answer-clause-told g c =
    subst (λ (s : Sections). IfSome (terminal_in s) (λ t. c.feed_keep.new.self.verifier.terminal ≡ Some t)) (sym c.in-Answer.is) c.feed_keep.ensures.told

pub returns-in_ok-feed_keep-in-Answer-clause-terminal : goal.returns-in_ok-feed_keep-in-Answer-clause-terminal
returns-in_ok-feed_keep-in-Answer-clause-terminal g c q limits head given written taking =
    let h = subst (λ (s : Sections). IsTaking q limits head s given written) c.in-Answer.is taking in
    let v = c.in-Answer.body.verifier in
    heard_by_its q v.left.query limits v.limits (given ++ c.args.part.now) c.feed_keep.new.self.verifier.terminal h.query h.limits_are
    (c.feed_keep.ensures.terminal given h.sections written h.is_body)

pub returns-in_ok-feed_keep-in-Answer-clause-told : goal.returns-in_ok-feed_keep-in-Answer-clause-told
returns-in_ok-feed_keep-in-Answer-clause-told g c =
    subst (λ (s : Sections). IfSome (terminal_in s) (λ t. c.feed_keep.new.self.verifier.terminal ≡ Some t)) (sym c.in-Answer.is) c.feed_keep.ensures.told

pub returns-in-Block-clause-terminal : goal.returns-in-Block-clause-terminal
returns-in-Block-clause-terminal g c q limits head given written taking = untold_heard q limits (given ++ c.args.part.now)
