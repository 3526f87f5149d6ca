use Rattle.std.proofs.Common.{ap, refl, subst, sym, ◌∙◌, slice_set}
use Rattle.tg_gateway.specs.Sessions.{SessionView}
use Rattle.tg_lanes.proofs.Moves.{agreed_set, lanes_renewed}
use Rattle.tg_lanes.specs.OwnLaws.{get_some}
use Rattle.tg_lanes.specs.Lanes.{IsAgreed}
use Rattle.tg_lanes.proofs.lanes.Lanes.renew.Goals as goal

pub invariant_of-self : goal.invariant_of-self
invariant_of-self g c =
    agreed_set c.self.inside.sessions.items c.args.lane c.in_ok-self-inside.field-0 c.self.invariant
    (subst IsAgreed (sym c.in_ok-self-inside.ensures) refl)

pub returns-clause-stands : goal.returns-clause-stands
returns-clause-stands g c = λ told since now moves stand.
    let found = get_some c.args.self.now.sessions c.args.lane c.requires in
    lanes_renewed c.sessions_stand.ensures.begin told c.args.self.now.sessions (slice_set c.self.inside.sessions.items c.args.lane c.in_ok-self-inside.field-0) c.args.lane
    c.self.inside.limits.received since now moves found.0 found.1
    (ap (λ s. slice_set s.sessions c.args.lane c.in_ok-self-inside.field-0) c.self.view_is
    ∙ ap (λ (v : SessionView). slice_set c.args.self.now.sessions c.args.lane v) c.in_ok-self-inside.ensures)
    stand
