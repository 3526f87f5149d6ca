use Rattle.tg_client.specs.Telling.{telling}
use Rattle.tg_dials.specs.Dials.{at_dial}
use Rattle.tg_fetch.proofs.Accepted.{fitting_accepted, nowhere_told, own_accepted, own_nowhere_told}
use Rattle.tg_fetch.proofs.Receiving.{sound_call}
use Rattle.tg_streams.specs.Streams.{into}
use Rattle.tg_fetch.proofs.calls.fetch_telling.Goals as goal

pub returns-clause-sound : goal.returns-clause-sound
returns-clause-sound g c =
    sound_call c.args.query.now c.args.limits c.args.addr.now (at_dial g.D.Dial.dial c.args.dial.now c.dialled-end.new.dial)
    (into (telling g.S.Sink.sink g.T.TellTerminal.wrote) c.args.out.now c.dialled-end.new.out) c.dialled-end.result c.dialled-end.ensures.ends

pub returns-clause-fitting : goal.returns-clause-fitting
returns-clause-fitting g c =
    fitting_accepted c.args.query.now c.args.limits c.args.addr.now (at_dial g.D.Dial.dial c.args.dial.now c.dialled-end.new.dial)
    (into (telling g.S.Sink.sink g.T.TellTerminal.wrote) c.args.out.now c.dialled-end.new.out) c.dialled-end.result c.dialled-end.ensures.ends c.carried_replies.ensures.taken c.carried_replies.ensures.answer

pub returns-clause-own : goal.returns-clause-own
returns-clause-own g c =
    own_accepted c.args.query.now c.args.limits c.args.addr.now (at_dial g.D.Dial.dial c.args.dial.now c.dialled-end.new.dial)
    (into (telling g.S.Sink.sink g.T.TellTerminal.wrote) c.args.out.now c.dialled-end.new.out) c.dialled-end.result c.dialled-end.ensures.ends c.carried_replies.ensures.taken c.carried_replies.ensures.answer
    c.own_sections.ensures c.against_every_peer.ensures.counted

pub returns-clause-nowhere : goal.returns-clause-nowhere
returns-clause-nowhere g c =
    nowhere_told c.args.query.now c.args.limits c.args.addr.now (at_dial g.D.Dial.dial c.args.dial.now c.dialled-end.new.dial)
    (into (telling g.S.Sink.sink g.T.TellTerminal.wrote) c.args.out.now c.dialled-end.new.out) c.dialled-end.result c.dialled-end.ensures.ends c.carried_absences.ensures.told c.carried_absences.ensures.none

pub returns-clause-own_nowhere : goal.returns-clause-own_nowhere
returns-clause-own_nowhere g c =
    own_nowhere_told c.args.query.now c.args.limits c.args.addr.now (at_dial g.D.Dial.dial c.args.dial.now c.dialled-end.new.dial)
    (into (telling g.S.Sink.sink g.T.TellTerminal.wrote) c.args.out.now c.dialled-end.new.out) c.dialled-end.result c.dialled-end.ensures.ends c.carried_absences.ensures.told c.carried_absences.ensures.none
    c.own_absences.ensures.nowhere c.own_absences.ensures.opened
