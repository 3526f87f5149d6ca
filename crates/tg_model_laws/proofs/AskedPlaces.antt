-- What a query asks of each node of a DAG, and when a partial DAG has opened just that, or just that up to an unopened place.
use Rattle.std.specs.Prelude.{◌≡◌, ◌+◌, Bool, true, false, Option, Some, None, List, [], ◌∷◌, ℕ, zero, suc, length, map}
use Rattle.tg_model.specs.Dag.{Dag, Children, Section, bare, blocks, blocks_of_children, with_child, no_child, node, unopened}
use Rattle.tg_model.specs.PathWalk.{StepTo, TraversalEnd, absent, child_below, gone, not_folder_here, spot_at, step_of, stopped, to_child, to_entry, whole}
use Rattle.tg_model.specs.Queries.{SpanParts}
use Rattle.tg_model.specs.Sound.{Position, passed, top}
use Rattle.tg_model.specs.Traversal.{Reach, Visit, all_reach, entire, entity_reach, visits}
use Rattle.tg_model.specs.declared.kinds.Kind.{Kind}
use Rattle.tg_model.specs.declared.queries.Scope.{Scope}
use Rattle.tg_model.specs.declared.queries.Scope.TheVariants as scopes
use Rattle.tg_murmur.specs.NameHash.{slot_of}

-- what is asked of a node at a position: the rest of a path, and what scope and range ask for at its end; or what is in reach
pub data Asked : Type 0 where
  along : Scope → Option SpanParts → Position → List (List ℕ) → Asked
  within : Reach → Position → Asked

-- the block alone is asked for at the end of a path, and this is the end
abbrev pub alone_at : Scope → List (List ℕ) → Bool
alone_at scopes.Block [] = true
alone_at scopes.Entity [] = false
alone_at scopes.All [] = false
alone_at scope (name ∷ path) = false

-- the block alone is asked of a node
abbrev pub is_alone : Asked → Bool
is_alone (along scope span position path) = alone_at scope path
is_alone (within reach position) = false

-- where the node stands of which it is asked
abbrev pub position_asked : Asked → Position
position_asked (along scope span position path) = position
position_asked (within reach position) = position

-- what is asked for of a terminal with a kind, where more than the block is
abbrev pub end_reach : Scope → Option SpanParts → Section → Kind → Reach
end_reach scopes.Block span section kind = entire
end_reach scopes.Entity span section kind = entity_reach span section kind
end_reach scopes.All span section kind = all_reach kind

-- what is asked of a child that is visited, and nothing where it is passed over
abbrev pub asked_inside : Option (Reach × Position) → Option Asked
asked_inside None = None
asked_inside (Some into) = Some (within into.0 into.1)

-- what is asked of the children by visits
abbrev pub asked_at_visits : List Visit → List (Option Asked)
asked_at_visits todo = map (λ visit. asked_inside visit.into) todo

-- something is asked of the child with this index alone
abbrev pub asked_at : ℕ → Asked → List (Option Asked)
asked_at zero asked = Some asked ∷ []
asked_at (suc k) asked = None ∷ asked_at k asked

-- what is asked of the children by a step to an entry or to a child
abbrev pub asked_by_step : Asked → Asked → StepTo → List (Option Asked)
asked_by_step entry inner (to_entry k) = asked_at k entry
asked_by_step entry inner (to_child k) = asked_at k inner
asked_by_step entry inner absent = []
asked_by_step entry inner not_folder_here = []

-- what is asked of the children of a node
abbrev pub asked_of_children : Asked → Section → Kind → List (Option Asked)
asked_of_children (within reach position) section kind = asked_at_visits (visits reach position kind)
asked_of_children (along scope span position []) section kind = asked_at_visits (visits (end_reach scope span section kind) top kind)
asked_of_children (along scope span position (name ∷ path)) section kind =
    asked_by_step (along scope span top path)
    (along scope span (child_below position (slot_of name (length (passed position)))) (name ∷ path))
    (step_of kind (length (passed position)) name)

-- what holds behind a child, where something ended at it: the others are as they should be; or nothing of them is opened
abbrev pub Behind : TraversalEnd → TraversalEnd → (TraversalEnd → Type 0) → Type 0 → Type 0
Behind whole end later nothing = later end
Behind other end later nothing = (end ≡ other) × nothing

-- a child and the others, with the child's end first
abbrev pub Both : (TraversalEnd → Type 0) → (TraversalEnd → Type 0) → Type 0 → TraversalEnd → Type 0
Both child_opens later nothing end = (first : TraversalEnd) × child_opens first × Behind first end later nothing

-- of a child of which nothing is asked nothing is opened, and one of which something is opens just that
abbrev pub ChildOpens : Option Asked → (Asked → TraversalEnd → Type 0) → Dag → TraversalEnd → Type 0
ChildOpens None inside d end = (end ≡ whole) × (blocks d ≡ [])
ChildOpens (Some asked) inside d end = inside asked end

-- just what is asked of a node at a depth is opened, all or up to an unopened block, and this is the end
abbrev mutual
  pub Opens : Asked → ℕ → Dag → TraversalEnd → Type 0
  Opens asked depth (unopened cid) end = end ≡ stopped (gone (spot_at cid depth (position_asked asked)))
  Opens asked depth (bare section fault) end = (end ≡ whole) × (is_alone asked ≡ true)
  Opens asked depth (node section kind children) end = (is_alone asked ≡ false) × ChildrenOpen (asked_of_children asked section kind) (depth + 1) children end

  -- and of children, one by one
  pub ChildrenOpen : List (Option Asked) → ℕ → Children → TraversalEnd → Type 0
  ChildrenOpen todo depth no_child end = end ≡ whole
  ChildrenOpen [] depth (with_child d children) end = (end ≡ whole) × (blocks_of_children (with_child d children) ≡ [])
  ChildrenOpen (asked ∷ todo) depth (with_child d children) end =
      Both (ChildOpens asked (λ asked. Opens asked depth d) d) (ChildrenOpen todo depth children) (blocks_of_children children ≡ []) end
