use Rattle.std.proofs.Common.{List, refl, length, ap, ◌∙◌, subst, arith}
use Rattle.std.proofs.lemmas.Result.{IfOk-weaker}
use Rattle.tg_cid.specs.declared.cid.Codec.TheVariants.{DagPb}
use Rattle.tg_node_writing.specs.KeepingSteps.{keeps_as, same_stops}
use Rattle.tg_hamt.proofs.Rooms.{shard_small}
use Rattle.tg_hamt.proofs.links.keep_links.Goals as goal
use Rattle.std.specs.List.{sum_by}
use Rattle.tg_hamt.specs.Links.{IsKeptShard, tsize_in}
use Rattle.tg_model.specs.ImportLayout.{shard_unix}
use Rattle.tg_model.specs.Stores.{kept_in}
use Rattle.tg_model.specs.declared.kinds.Made.{Made}
use Rattle.tg_model.specs.declared.kinds.NewEntry.{NewEntry}
use Rattle.tg_node_writing.specs.Nodes.{IsNodeOf}

pub keep_block-requires-clause-small : goal.keep_block-requires-clause-small
keep_block-requires-clause-small g c =
    let links = c.args.shard.now.links.items in
    let written = subst (λ (l : List NewEntry). IsNodeOf l (shard_unix c.shortest.result.now) c.in-Ok.block) c.as_slice-links.ensures.value c.in-Ok.ensures in
    let small = shard_small c.written_nodes.ensures.room links c.shortest.result.now c.in-Ok.block c.requires.few c.shortest.ensures.few c.requires.links written in
    let same = ap length c.as_slice.ensures in
    omega arith

pub returns-clause-made : goal.returns-clause-made
returns-clause-made g c =
    let links = c.args.shard.now.links.items in
    let block = c.in-Ok.block in
    let written = subst (λ (l : List NewEntry). IsNodeOf l (shard_unix c.shortest.result.now) block) c.as_slice-links.ensures.value c.in-Ok.ensures in
    let keeping = kept_in g.K.Keep.keeper c.args.keep.now c.keep_block.new.keep in
    let sums = c.total.ensures ∙ ap (λ (l : List NewEntry). sum_by tsize_in l) c.as_slice-links.ensures.value in
    IfOk-weaker c.keep_block.result _ (λ (m : Made). IsKeptShard links c.args.shard.now.bits m keeping)
    (λ made h. let k = keeps_as DagPb made keeping c.as_slice.result.now block 0 0 c.total.result (sum_by tsize_in links) c.as_slice.ensures refl sums h in
    record {
      shortest = c.shortest.result.now;
      used = c.shortest.ensures.used;
      no_zero = c.shortest.ensures.shortest;
      few = c.shortest.ensures.few;
      block = block;
      written = written;
      small = shard_small c.written_nodes.ensures.room links c.shortest.result.now block c.requires.few c.shortest.ensures.few c.requires.links written;
      cid_is = ap (λ (x : Made). x.cid) k.made_is;
      content_is = ap (λ (x : Made). x.content) k.made_is;
      tsize_is = ap (λ (x : Made). x.tsize) k.made_is;
      keeps = k.keeps;
    })
    c.keep_block.ensures.made

pub returns-in_default-clause-stops : goal.returns-in_default-clause-stops
returns-in_default-clause-stops g c = same_stops g.K.Keep.keeper g.met.K.Keep.rests c.args.keep.now
