use Rattle.std.proofs.Common.{refl, ap, arith}
use Rattle.std.proofs.lemmas.Result.{IfOk-weaker}
use Rattle.std.specs.List.{sum_by}
use Rattle.std.specs.Prelude.{length}
use Rattle.tg_cid.specs.declared.cid.Codec.TheVariants.{DagPb}
use Rattle.tg_dir.proofs.Weighing.{block_small}
use Rattle.tg_dir.proofs.basic.keep_sorted.Goals as goal
use Rattle.tg_dir.specs.Basic.{IsKeptBlock}
use Rattle.tg_model.specs.Stores.{kept_in}
use Rattle.tg_model.specs.declared.kinds.Made.{Made}
use Rattle.tg_model.specs.declared.kinds.NewEntry.{NewEntry}
use Rattle.tg_node_writing.specs.KeepingSteps.{keeps_as}

pub keep_block-requires-clause-small : goal.keep_block-requires-clause-small
keep_block-requires-clause-small g c =
    let small = block_small c.written_nodes.ensures.room c.digest_laws.ensures.size c.args.entries.now c.in-Ok.block c.requires.plain c.requires.light c.in-Ok.ensures in
    let same = ap length c.as_slice.ensures in
    omega (arith, small, same)

pub returns-clause-made : goal.returns-clause-made
returns-clause-made g c =
    let entries = c.args.entries.now in
    let keeping = kept_in g.K.Keep.keeper c.args.keep.now c.keep_block.new.keep in
    IfOk-weaker c.keep_block.result _ (λ (m : Made). IsKeptBlock entries m keeping)
    (λ made h. let k = keeps_as DagPb made keeping c.as_slice.result.now c.in-Ok.block 0 0 c.total.result (sum_by (λ (e : NewEntry). e.tsize) entries) c.as_slice.ensures refl c.total.ensures h in
    record {
      block = c.in-Ok.block;
      written = c.in-Ok.ensures;
      cid_is = ap (λ (x : Made). x.cid) k.made_is;
      content_is = ap (λ (x : Made). x.content) k.made_is;
      tsize_is = ap (λ (x : Made). x.tsize) k.made_is;
      keeps = k.keeps;
    })
    c.keep_block.ensures.made
