use Rattle.std.proofs.Common.{[], arith, subst, sym}
use Rattle.tg_heard.specs.FinalHeads.{Interims, none}
use Rattle.tg_http.specs.Heads.{IsWaiting}
use Rattle.tg_fetch.proofs.TakingHeads.{waits_first}
use Rattle.tg_fetch.proofs.heads.Heads.new.Goals as goal

pub returns : goal.returns
returns c = record {
  interims = subst (Interims 0 []) (sym c.new.ensures) (none []);
  few = omega arith;
  waiting = subst IsWaiting (sym c.new.ensures) waits_first;
}
