use Rattle.tg_model.proofs.BlockKinds.{computed, one_kind}
use Rattle.tg_model.proofs.InnerCauses.{no_want_of_memory}
use Rattle.tg_model.proofs.laws.readings.Goals as goal

pub returns-clause-one_kind : goal.returns-clause-one_kind
returns-clause-one_kind c = one_kind (record {
  one_node = c.one_text.ensures.one_node;
  one_unix = c.one_data.ensures;
  one_cid = c.one_spelling.ensures.no_front;
})

pub returns-clause-computed : goal.returns-clause-computed
returns-clause-computed c = computed (record {
  node = c.computes.ensures.node;
  unix = c.computes-2.ensures.«data»;
  cid = c.computes-3.ensures.cid;
})

pub returns-clause-inner : goal.returns-clause-inner
returns-clause-inner c = no_want_of_memory (record {
  node = c.computes.ensures.fault;
  found = c.computes.ensures.node;
  unix = c.computes-2.ensures.fault;
})
