use Rattle.tg_heard.proofs.Carried.{answerable, own_replies_carry, own_reply_carries}
use Rattle.tg_heard.proofs.own.own_replies_carry.Goals as goal

pub returns-clause-own : goal.returns-clause-own
returns-clause-own c = own_reply_carries (record {
  requests = c.own_requests.ensures;
  own = c.own_replies.ensures.reply;
  sections = c.own_replies-2.ensures.sections;
  cars = c.replies_carry.ensures.car;
  raws = c.replies_carry.ensures.raw;
  spelled = c.sent_sections.ensures;
  one = c.one_writing.ensures.one;
})

pub returns-clause-carry : goal.returns-clause-carry
returns-clause-carry c = own_replies_carry (record {
  requests = c.own_requests.ensures;
  own = c.own_replies.ensures.reply;
  sections = c.own_replies-2.ensures.sections;
  cars = c.replies_carry.ensures.car;
  raws = c.replies_carry.ensures.raw;
  spelled = c.sent_sections.ensures;
  one = c.one_writing.ensures.one;
})

pub returns-clause-answerable : goal.returns-clause-answerable
returns-clause-answerable c = answerable (record {
  requests = c.own_requests.ensures;
  own = c.own_replies.ensures.reply;
  sections = c.own_replies-2.ensures.sections;
  cars = c.replies_carry.ensures.car;
  raws = c.replies_carry.ensures.raw;
  spelled = c.sent_sections.ensures;
  one = c.one_writing.ensures.one;
})
