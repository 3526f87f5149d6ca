-- What a store shows of a sound DAG of which it holds the blocks.
use Rattle.std.proofs.Common.{◌≡◌, ◌↔◌, ◌≤◌, ◌<◌, ◌∷◌, ℕ, zero, suc, List, [], All, Contains, Ok, Some, refl, sym, ap, ap₂, ◌∙◌, arith, subst}
use Rattle.std.proofs.lemmas.List.Elements.{Contains-append_left, Contains-append_right}
use Rattle.tg_cid.specs.Cid.{CidParts}
use Rattle.tg_model_laws.proofs.OpenedDags.{first_one}
use Rattle.tg_model_laws.specs.PartialDags.{ChildrenOpenedFrom, OpenedFrom, each, none, opened, unseen}
use Rattle.tg_model_laws.specs.Stores.{height, height_of_children}
use Rattle.tg_model.specs.Computed.{read}
use Rattle.tg_model.specs.Dag.{AreWhole, Children, Dag, IsWhole, Section, bare, blocks, blocks_of_children, links_of, no_child, node, root_cid, root_cids, unopened, with_child}
use Rattle.tg_model.specs.Reading.{Reads}
use Rattle.tg_model.specs.Sound.{AreCheckedAt, IsCheckedAt, Position, positions, top}
use Rattle.tg_model.specs.StoreView.{block_at, children_by, opened_to, read_as, with_block}
use Rattle.tg_model.specs.Stores.{Store}
use Rattle.tg_model.specs.declared.kinds.Kind.{Kind}

-- of a block of bytes the kind is computed
abbrev pub Computes : Type 0
Computes = (cid : CidParts) (block : List ℕ) (kind : Kind) → All (λ b. b < 256) block → (read cid block ≡ Ok kind) ↔ Reads cid block kind

module _ (computes : Computes) (store : Store) where
  -- the store leads from each section's CID to its block, which are bytes
  abbrev pub HoldsEach : List Section → Type 0
  HoldsEach sections = (section : Section) → Contains sections section → (block_at store section.cid ≡ Some section.block) × All (λ b. b < 256) section.block

  -- what is shown of a block that is read
  pub shown_node : (n : ℕ) (section : Section) (kind : Kind) → block_at store section.cid ≡ Some section.block → read section.cid section.block ≡ Ok kind
      → opened_to (suc n) store section.cid ≡ node section kind (children_by (opened_to n store) (links_of kind))
  shown_node n section kind held is =
      ap (with_block (opened_to n store) section.cid) held ∙ ap (read_as (opened_to n store) section) is

  mutual
    -- a node and what is below it
    shown : (n : ℕ) (position : Position) (d : Dag) → IsWhole d → IsCheckedAt position d → height d ≤ n → HoldsEach (blocks d) → opened_to n store (root_cid d) ≡ d
    shown n position (unopened cid) whole checked deep holds = absurd whole
    shown n position (bare section fault) whole checked deep holds = absurd whole
    shown zero position (node section kind children) whole checked deep holds = absurd (omega (arith, deep))
    shown (suc n) position (node section kind children) whole checked deep holds =
        let here = holds section (first_one section (blocks_of_children children)) in
        let is : read section.cid section.block ≡ Ok kind = (computes section.cid section.block kind here.1).1 checked.0.reads in
        let below : height_of_children children ≤ n = omega (arith, deep) in
        shown_node n section kind here.0 is
        ∙ ap (λ (cids : List CidParts). node section kind (children_by (opened_to n store) cids)) (sym checked.0.links)
        ∙ ap (node section kind) (children_shown n (positions position kind) children whole checked.1 below
        (λ other within. holds other (Contains-append_right (section ∷ []) (blocks_of_children children) other within)))

    -- and children
    children_shown : (n : ℕ) (places : List Position) (children : Children) → AreWhole children → AreCheckedAt places children → height_of_children children ≤ n
        → HoldsEach (blocks_of_children children) → children_by (opened_to n store) (root_cids children) ≡ children
    children_shown n places no_child whole checked deep holds = refl
    children_shown n [] (with_child d children) whole checked deep holds = absurd checked
    children_shown n (place ∷ places) (with_child d children) whole checked deep holds =
        let first : height d ≤ n = omega (arith, deep) in
        let rest : height_of_children children ≤ n = omega (arith, deep) in
        ap₂ (λ (d : Dag) (children : Children). with_child d children)
        (shown n place d whole.0 checked.0 first (λ section within. holds section (Contains-append_left (blocks d) (blocks_of_children children) section within)))
        (children_shown n places children whole.1 checked.1 rest (λ section within. holds section (Contains-append_right (blocks d) (blocks_of_children children) section within)))

  pub shown_whole : (n : ℕ) (d : Dag) → IsWhole d → IsCheckedAt top d → height d ≤ n → HoldsEach (blocks d) → opened_to n store (root_cid d) ≡ d
  shown_whole n d whole checked deep holds = shown n top d whole checked deep holds

  mutual
    -- whatever the depth, what is shown is the DAG with some blocks unopened
    shown_front : (n : ℕ) (position : Position) (d : Dag) → IsWhole d → IsCheckedAt position d → HoldsEach (blocks d) → OpenedFrom (opened_to n store (root_cid d)) d
    shown_front n position (unopened cid) whole checked holds = absurd whole
    shown_front n position (bare section fault) whole checked holds = absurd whole
    shown_front zero position (node section kind children) whole checked holds = unseen section.cid (node section kind children) refl
    shown_front (suc n) position (node section kind children) whole checked holds =
        let here = holds section (first_one section (blocks_of_children children)) in
        let is : read section.cid section.block ≡ Ok kind = (computes section.cid section.block kind here.1).1 checked.0.reads in
        let same : opened_to (suc n) store section.cid ≡ node section kind (children_by (opened_to n store) (root_cids children)) =
        shown_node n section kind here.0 is ∙ ap (λ (cids : List CidParts). node section kind (children_by (opened_to n store) cids)) (sym checked.0.links) in
        subst (λ (s : Dag). OpenedFrom s (node section kind children)) (sym same)
        (opened section kind (children_by (opened_to n store) (root_cids children)) children (children_front n (positions position kind) children whole checked.1
        (λ other within. holds other (Contains-append_right (section ∷ []) (blocks_of_children children) other within))))

    children_front : (n : ℕ) (places : List Position) (children : Children) → AreWhole children → AreCheckedAt places children → HoldsEach (blocks_of_children children)
        → ChildrenOpenedFrom (children_by (opened_to n store) (root_cids children)) children
    children_front n places no_child whole checked holds = none
    children_front n [] (with_child d children) whole checked holds = absurd checked
    children_front n (place ∷ places) (with_child d children) whole checked holds =
        each (opened_to n store (root_cid d)) d (children_by (opened_to n store) (root_cids children)) children
        (shown_front n place d whole.0 checked.0 (λ section within. holds section (Contains-append_left (blocks d) (blocks_of_children children) section within)))
        (children_front n places children whole.1 checked.1 (λ section within. holds section (Contains-append_right (blocks d) (blocks_of_children children) section within)))

  pub front_shown : (n : ℕ) (d : Dag) → IsWhole d → IsCheckedAt top d → HoldsEach (blocks d) → OpenedFrom (opened_to n store (root_cid d)) d
  front_shown n d whole checked holds = shown_front n top d whole checked holds
