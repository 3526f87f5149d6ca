-- The partial DAG that opens just what is asked of a node.
use Rattle.std.proofs.Common.{◌≡◌, Option, Some, None, List, [], ◌∷◌, ◌++◌, ℕ, ◌+◌, refl, sym, ap, ap₂, ◌∙◌}
use Rattle.std.proofs.lemmas.List.{map-append}
use Rattle.tg_cid.specs.Cid.{CidParts}
use Rattle.tg_model_laws.proofs.ContentSizes.{AreReadOn, IsReadOn}
use Rattle.tg_model_laws.specs.PartialDags as dags
use Rattle.tg_model_laws.specs.PartialDags.{ChildrenOpenedFrom, OpenedFrom, each, none, unseen}
use Rattle.tg_model_laws.proofs.Through.{child-through, node-through}
use Rattle.tg_model.specs.PathWalk.{spot_at, whole}
use Rattle.tg_model.specs.Dag.{Dag, Children, Section, bare, blocks, blocks_of_children, with_child, no_child, node, root_cid, unopened}
use Rattle.tg_model.specs.Sound.{Position, position_fault}
use Rattle.tg_model.specs.Traversal.{Place, Reach, Traversal, Visit, and_then, giving_entries, giving_place, giving_text, sections_of, text_before, text_behind, traverse, traverse_children, unless_bad, visited, visits}

-- a child is opened as far as it is gone into, and otherwise it stays unopened
abbrev pub opened_at : (Reach → Position → Dag) → CidParts → Option (Reach × Position) → Dag
opened_at inside cid None = unopened cid
opened_at inside cid (Some into) = inside into.0 into.1

-- a node with what is asked below it
abbrev mutual
  pub opened : Reach → Position → Dag → Dag
  opened reach position (unopened cid) = unopened cid
  opened reach position (bare section fault) = bare section fault
  opened reach position (node section kind children) = node section kind (opened_children (visits reach position kind) children)

  pub opened_children : List Visit → Children → Children
  opened_children todo no_child = no_child
  opened_children [] (with_child d children) = with_child (unopened (root_cid d)) (opened_children [] children)
  opened_children (visit ∷ todo) (with_child d children) = with_child (opened_at (λ reach position. opened reach position d) (root_cid d) visit.into) (opened_children todo children)

-- ---- what it gives

abbrev pub sections_in : Traversal → List Section
sections_in t = sections_of t.places

-- what is opened is opened from the whole, it is read on, its traversal gives the same, and its blocks are those that are sent
pub record Gives (From Read : Type 0) (mine other : Traversal) (held : List Section) : Type 0 where
  pub from : From
  pub read : Read
  pub same : mine ≡ other
  pub sent : held ≡ sections_in other

-- children that all stay unopened
pub closed : (children : Children) → ChildrenOpenedFrom (opened_children [] children) children × AreReadOn (opened_children [] children) × (blocks_of_children (opened_children [] children) ≡ [])
closed no_child = (none, tt, refl)
closed (with_child d children) =
    let (from, read, blocks) = closed children in
    (each (unopened (root_cid d)) d (opened_children [] children) children (unseen (root_cid d) d refl) from, (tt, read), blocks)

-- of a node
abbrev pub NodeGives : Reach → Position → ℕ → Dag → Type 0
NodeGives reach position depth d =
    Gives (OpenedFrom (opened reach position d) d) (IsReadOn (opened reach position d)) (traverse reach position depth (opened reach position d)) (traverse reach position depth d) (blocks (opened reach position d))

-- of a child, whether it is gone into or not
child_gives : (into : Option (Reach × Position)) (depth : ℕ) (d : Dag) → ((reach : Reach) (position : Position) → (traverse reach position depth d).end ≡ whole → NodeGives reach position depth d)
    → (visited (λ reach position. traverse reach position depth d) into).end ≡ whole
    → (let some : Dag = opened_at (λ reach position. opened reach position d) (root_cid d) into in
    Gives (OpenedFrom some d) (IsReadOn some) (visited (λ reach position. traverse reach position depth some) into) (visited (λ reach position. traverse reach position depth d) into) (blocks some))
child_gives None depth d h w = record { from = unseen (root_cid d) d refl; read = tt; same = refl; sent = refl }
child_gives (Some into) depth d h w = h into.0 into.1 w

mutual
  -- a node, where its traversal comes through
  pub opened_gives : (reach : Reach) (position : Position) (depth : ℕ) (d : Dag) → (traverse reach position depth d).end ≡ whole → NodeGives reach position depth d
  opened_gives reach position depth (bare section None) w = absurd (cc)
  opened_gives reach position depth (node section kind children) w =
      let through = node-through reach position depth section kind children w in
      let inside = children_give (visits reach position kind) (depth + 1) children through.children_end in
      record {
        from = dags.opened section kind (opened_children (visits reach position kind) children) children inside.from;
        read = inside.read;
        same = ap (λ (inside : Traversal). unless_bad (spot_at section.cid depth position) (position_fault position kind)
            (and_then (giving_place (record { section = section; depth = depth }) (text_before reach position section kind)) (and_then inside (giving_text (text_behind reach kind)))))
            inside.same;
        sent = ap (λ (sections : List Section). section ∷ sections) inside.sent ∙ sym (ap sections_of through.places);
      }
  opened_gives reach position depth _ w = absurd (cc)

  -- and children
  children_give : (todo : List Visit) (depth : ℕ) (children : Children) → (traverse_children todo depth children).end ≡ whole
      → Gives (ChildrenOpenedFrom (opened_children todo children) children) (AreReadOn (opened_children todo children)) (traverse_children todo depth (opened_children todo children)) (traverse_children todo depth children) (blocks_of_children (opened_children todo children))
  children_give todo depth no_child w = record { from = none; read = tt; same = refl; sent = refl }
  children_give [] depth (with_child d children) w = let (from, read, blocks) = closed (with_child d children) in record { from = from; read = read; same = refl; sent = blocks }
  children_give (visit ∷ todo) depth (with_child d children) w =
      let through = child-through visit todo depth d children w in
      let first = child_gives visit.into depth d (λ reach position. opened_gives reach position depth d) through.first in
      let rest = children_give todo depth children through.rest in
      record {
        from = each (opened_at (λ reach position. opened reach position d) (root_cid d) visit.into) d (opened_children todo children) children first.from rest.from;
        read = (first.read, rest.read);
        same = ap₂ (λ (inside rest : Traversal). and_then (giving_entries visit.met) (and_then inside rest)) first.same rest.same;
        sent = ap₂ (λ (a b : List Section). a ++ b) first.sent rest.sent
            ∙ sym (map-append (λ (p : Place). p.section) (visited (λ reach position. traverse reach position depth d) visit.into).places (traverse_children todo depth children).places)
            ∙ sym (ap sections_of through.places);
      }
