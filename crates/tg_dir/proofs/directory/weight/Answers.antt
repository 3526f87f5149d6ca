use Rattle.std.proofs.Common.{rules, subst, sym, take}
use Rattle.tg_cid.specs.Cid.{CidParts}
use Rattle.tg_cid.specs.Spelling.{CidBytes}
use Rattle.tg_dir.proofs.Weighing.{next_weight}
use Rattle.tg_dir.proofs.directory.weight.Goals as goal
use Rattle.tg_hamt.specs.Order.{IsGoodEntry}

pub loop-entry-preserved : goal.loop-entry-preserved
loop-entry-preserved c =
    let entry = c.entry-item.result in
    let good = subst IsGoodEntry (sym c.entry-item.is) (c.requires.each c.loop-entry.entry-index entry c.loop-entry-test.true) in
    next_weight c.computes.ensures.bytes c.one_spelling.ensures.one_bytes c.args.entries.now c.loop-entry.entry-index entry c.spelling-cid.result.0 c.as_slice.result.now
    c.spelling-cid.result.1 c.loop-entry.weight c.loop-entry-test.true c.entry-item.is c.as_slice.ensures good.short c.spelling-cid.ensures.size (search rules)
    (subst (λ (cid : CidParts). CidBytes cid (take c.spelling-cid.result.1 c.spelling-cid.result.0)) c.to_v1.ensures c.spelling-cid.ensures.spelled)
    c.loop-entry.invariant.0 c.loop-entry.invariant.1
