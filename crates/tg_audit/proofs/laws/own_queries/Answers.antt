use Rattle.tg_audit.proofs.OwnQueries.{own_answered, own_refused}
use Rattle.tg_audit.proofs.laws.own_queries.Goals as goal

pub returns-clause-answered : goal.returns-clause-answered
returns-clause-answered c store q d text own is = own_answered (record {
  requests = c.own_requests.ensures;
  answers = c.own_replies.ensures.answers;
  absences = c.own_replies.ensures.absences;
  raws = c.own_replies.ensures.raws;
  alike = c.paths.ensures;
  carries = c.own_replies_carry.ensures.own;
  one = c.one_writing.ensures.one;
  replies = c.sent_is_determined.ensures.replies;
  taken = c.carried_replies.ensures.taken;
  answer_is = c.carried_replies.ensures.answer;
  told = c.carried_absences.ensures.told;
  no_answer = c.carried_absences.ensures.none;
  fits = c.own_sections.ensures;
  counted = c.against_every_peer.ensures.counted;
  nowhere = c.own_absences.ensures.nowhere;
  opened = c.own_absences.ensures.opened;
}) store q d own text is

pub returns-clause-refused : goal.returns-clause-refused
returns-clause-refused c store q d miss own car end = own_refused (record {
  requests = c.own_requests.ensures;
  answers = c.own_replies.ensures.answers;
  absences = c.own_replies.ensures.absences;
  raws = c.own_replies.ensures.raws;
  alike = c.paths.ensures;
  carries = c.own_replies_carry.ensures.own;
  one = c.one_writing.ensures.one;
  replies = c.sent_is_determined.ensures.replies;
  taken = c.carried_replies.ensures.taken;
  answer_is = c.carried_replies.ensures.answer;
  told = c.carried_absences.ensures.told;
  no_answer = c.carried_absences.ensures.none;
  fits = c.own_sections.ensures;
  counted = c.against_every_peer.ensures.counted;
  nowhere = c.own_absences.ensures.nowhere;
  opened = c.own_absences.ensures.opened;
}) store q d own miss car end
