use Rattle.std.proofs.Common.{Err, rules, ap, ◌++◌, None}
use Rattle.std.specs.Prelude.{◌≢◌}
use Rattle.tg_client.specs.declared.fault.ClientFault.{ClientFault}
use Rattle.tg_fetch.proofs.Taking.{never_of_sink, none_wanted, shows_on, shows_stop, shows_terminal}
use Rattle.tg_fetch.proofs.sections.show.Goals as goal

pub returns-in-Ok-clause-shows : goal.returns-in-Ok-clause-shows
returns-in-Ok-clause-shows c q limits head given h =
    let e = c.in-Ok.ensures in
    let w = e.stands given h.sections h.said h.is_body in
    let none = none_wanted c.feed.new.self.verifier.refused c.feed.new.self.verifier.left.wanted w.is_body.fresh (c.is_whole.ensures.0 (search rules)) in
    shows_terminal q limits head c.args.body.now given h c.standing_bodies.ensures _ c.feed.new.self (given ++ c.args.part.now) e.query e.limits w none

pub returns-in-Ok-2-clause-shows : goal.returns-in-Ok-2-clause-shows
returns-in-Ok-2-clause-shows c q limits head given h =
    let e = c.in-Ok-2.ensures in
    let w = e.stands given h.sections h.said h.is_body in
    let some : c.feed.new.self.verifier.left.wanted ≢ None = λ none. search rules in
    shows_on q limits head c.args.body.now given h _ c.feed.new.self (given ++ c.args.part.now) e.query e.limits w some

pub returns-in-Err-clause-shows : goal.returns-in-Err-clause-shows
returns-in-Err-clause-shows c q limits head given h =
    let e = c.in-Err.ensures in
    let cause = e.cause h.is_body.unrefused h.is_body.fresh in
    let stop = shows_stop q limits head c.args.body.now given h c.own_absences.ensures.nowhere _ (given ++ c.args.part.now) c.in-Err.fault cause
    (λ is. e.unkept h.is_body.unrefused (ap (λ (f : ClientFault). Err f) is)) (never_of_sink c.in-Err.fault cause)
    (e.stands given h.sections h.said h.is_body) in
    rw c.shown_by.ensures stop

pub returns-in-Err-clause-cause : goal.returns-in-Err-clause-cause
returns-in-Err-clause-cause c unrefused fresh e = never_of_sink c.in-Err.fault (c.in-Err.ensures.cause unrefused fresh) (cc (e, c.shown_by.ensures))
