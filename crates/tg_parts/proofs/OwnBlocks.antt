-- The blocks that a DAG's traversal opens are the DAG's.
use Rattle.std.proofs.Common.{Contains, [], ◌∷◌}
use Rattle.std.proofs.lemmas.List.Elements.{Contains-append_left, Contains-append_right, Contains-push}
use Rattle.tg_model.specs.Dag.{Children, Dag, Section, bare, blocks, blocks_of_children, no_child, node, unopened, with_child}
use Rattle.tg_model_laws.specs.OpenedSections.{Opened, OpenedChildren, list_opened, traversal_opened}
use Rattle.tg_parts.specs.PartLaws.{OpenedAreBlocks, OwnAreBlocks}

-- what holds of each block of a DAG holds of each opened section of it
module _ (P : Section → Type 0) where
  mutual
    opened : (d : Dag) → ((x : Section) → Contains (blocks d) x → P x) → Opened P d
    opened (unopened cid) each = tt
    opened (bare section fault) each = each section (Contains-push [] section)
    opened (node section kind children) each = (
      each section (Contains-append_left (section ∷ []) (blocks_of_children children) section (Contains-push [] section)),
      opened_children children (λ x h. each x (Contains-append_right (section ∷ []) (blocks_of_children children) x h)),
    )

    opened_children : (children : Children) → ((x : Section) → Contains (blocks_of_children children) x → P x) → OpenedChildren P children
    opened_children no_child each = tt
    opened_children (with_child d children) each = (
      opened d (λ x h. each x (Contains-append_left (blocks d) (blocks_of_children children) x h)),
      opened_children children (λ x h. each x (Contains-append_right (blocks d) (blocks_of_children children) x h)),
    )

pub opened_are_blocks : OpenedAreBlocks
opened_are_blocks q d sound root = traversal_opened (λ x. Contains (blocks d) x) q d (opened (λ x. Contains (blocks d) x) d (λ x h. h))

pub own_are_blocks : OwnAreBlocks
own_are_blocks q d sound root = list_opened (λ x. Contains (blocks d) x) q d (opened (λ x. Contains (blocks d) x) d (λ x h. h))
