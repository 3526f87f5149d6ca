-- The blocks that a sound DAG's traversal opens are the DAG's, so a store that holds them has one under each CID.
use Rattle.std.proofs.Common.{Contains, Some, ap, false, sym, true, Bool, ◌∙◌, ◌≡◌}
use Rattle.std.proofs.lemmas.List.Elements.{All-contains}
use Rattle.tg_model.specs.Dag.{Dag, Section, blocks, root_cid}
use Rattle.tg_model.specs.Fits.{HasOneBlockEach, IfOnce}
use Rattle.tg_model.specs.Queries.{QueryParts}
use Rattle.tg_model.specs.Sound.{IsSound}
use Rattle.tg_model.specs.StoreView.{block_at}
use Rattle.tg_model.specs.Stores.{Store}
use Rattle.tg_model.specs.Traversal.{opened_list}
use Rattle.tg_model_laws.specs.Stores.{Holds}
use Rattle.tg_parts.specs.PartLaws.{OpenedAreBlocks}

if_once : (dups : Bool) (P : Type 0) → P → IfOnce dups P
if_once true P h = tt
if_once false P h = h

module _ (opened : OpenedAreBlocks) (q : QueryParts) (d : Dag) (sound : IsSound d) (root : root_cid d ≡ q.root) where
  one_block : (store : Store) → Holds store d → HasOneBlockEach (opened_list q d)
  one_block store holds a b in_a in_b e =
      let held : (x : Section) → Contains (opened_list q d) x → Contains (blocks d) x =
      λ x at. All-contains (λ (y : Section). Contains (blocks d) y) (opened_list q d) x (opened q d sound root) at in
      let both : Some a.block ≡ Some b.block = sym (holds.blocks_are a (held a in_a)) ∙ (ap (block_at store) e ∙ holds.blocks_are b (held b in_b)) in
      cc

  pub one_each_of : (store : Store) → Holds store d → IfOnce q.dups (HasOneBlockEach (opened_list q d))
  one_each_of store holds = if_once q.dups (HasOneBlockEach (opened_list q d)) (one_block store holds)
