use Rattle.std.proofs.Common.{arith, ◌-◌}
use Rattle.tg_serve.proofs.Runs.{looks_both, one_more}
use Rattle.tg_serve.proofs.serve_door.Goals as goal

pub returns-in-Ok-None-clause-looked : goal.returns-in-Ok-None-clause-looked
returns-in-Ok-None-clause-looked g c =
    looks_both g.B.Blocks.blocks _ _ _ g.met.B.Blocks.joins c.loop-left.invariant.looked c.in-Ok-None.ensures.looked

pub returns-in-Err-clause-looked : goal.returns-in-Err-clause-looked
returns-in-Err-clause-looked g c =
    looks_both g.B.Blocks.blocks _ _ _ g.met.B.Blocks.joins c.loop-left.invariant.looked c.in-Err.ensures.looked

pub loop-left-preserved : goal.loop-left-preserved
loop-left-preserved g c =
    let link = rw c.in-Ok-Some.field-0-is at c.in-Ok-Some.ensures.serves in
    record {
      served = rw c.with-happened.ensures (one_more g.B.Blocks.blocks g.L.Door.door _ _ _ _ _ _ _ _ _ _ _ c.loop-left.invariant.served
          c.in-Ok-Some.served c.in-Ok-Some.end c.loop-left.invariant.looked.looked.stored link (c.loop-left.left - 1) (omega arith));
      asks = λ before asked was. c.in-Ok-Some.ensures.asks before asked (c.loop-left.invariant.asks before asked was);
      looked = looks_both g.B.Blocks.blocks _ _ _ g.met.B.Blocks.joins c.loop-left.invariant.looked c.in-Ok-Some.ensures.looked;
    }
