use Rattle.tg_fetch.proofs.OwnAbsences.{absence_fed, own_absence}
use Rattle.tg_fetch.proofs.OwnExchanges.{answer_fed, own_answer}
use Rattle.tg_streams.specs.Streams.{into}
use Rattle.tg_fetch.proofs.laws.own_exchanges.Goals as goal

pub returns : goal.returns
returns g c old new store q d limits addr next rest sent held within printable full unfailed client heard piece more written result query limits_are same fed = let out = into g.S.Sink.sink old new in (
  λ text is.
      answer_fed c.heads_go_on.ensures c.heard_is_one.ensures.head c.bodies_go_on.ensures c.standing_bodies.ensures c.carried_replies.ensures.taken
      c.carried_replies.ensures.answer q limits d _ text
      (own_answer c.own_sessions.ensures.carries c.own_sections.ensures c.against_every_peer.ensures.counted store q d limits addr next rest sent held within printable full unfailed text is)
      client heard piece more written out result query limits_are same fed,
  λ miss car end.
      absence_fed c.heads_go_on.ensures c.heard_is_one.ensures.head c.bodies_go_on.ensures c.standing_bodies.ensures c.carried_absences.ensures.told
      c.carried_absences.ensures.none q limits miss _
      (own_absence c.own_sessions.ensures.carries c.own_absences.ensures.nowhere c.own_absences.ensures.opened store q d limits addr next rest sent held within printable full unfailed
      miss car end) client heard piece more written out result query limits_are same fed,
)
