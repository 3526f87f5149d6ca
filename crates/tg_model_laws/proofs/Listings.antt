-- Listing a checked directory meets its entries in order, each with the CID under which it stands, where the traversal comes
-- through.
use Rattle.std.proofs.Common.{◌≡◌, true, Option, Some, None, List, [], ◌∷◌, ◌++◌, ℕ, ◌+◌, length, map, refl, sym, ap, ap₂, ◌∙◌, append_assoc}
use Rattle.std.proofs.lemmas.List.{map-append}
use Rattle.tg_cid.specs.Cid.{CidParts}
use Rattle.tg_model_laws.proofs.Terminals.{terminal_sound, traversal_whole}
use Rattle.tg_model_laws.proofs.Through.{ChildThrough, NodeThrough, child-through, node-through}
use Rattle.tg_model.specs.Answer.{is_listed, named_of}
use Rattle.tg_model.specs.Content.{entries, entries_of_slots, named_children, slot_entries}
use Rattle.tg_model.specs.Dag.{Dag, Children, Section, bare, with_child, no_child, node, root_cid, root_cids, unopened}
use Rattle.tg_model.specs.PathWalk.{PathEnd, path_walk, terminal, whole}
use Rattle.tg_model.specs.Queries.{QueryParts, SpanParts}
use Rattle.tg_model.specs.Sound.{AreCheckedAt, IsChecked, IsCheckedAt, IsSound, Position, passed, position_by_name, slot_position, top}
use Rattle.tg_model.specs.Texts.{Named}
use Rattle.tg_model.specs.Traversal.{ListedEntry, Reach, Traversal, Visit, at_terminal, entry_visit, from_end, listed, named_met, passed_over, slot_visit, traversal, traverse, traverse_children, visit_by_name, visited, visits}
use Rattle.tg_model.specs.declared.kinds.Entry.{Entry}
use Rattle.tg_model.specs.declared.kinds.Kind.{Kind}
use Rattle.tg_model.specs.declared.kinds.Kind.TheVariants.{Basic, File, Raw, Shard, Symlink}
use Rattle.tg_model.specs.declared.kinds.Part.{Part}
use Rattle.tg_model.specs.declared.kinds.Slot.{Slot}
use Rattle.tg_model.specs.declared.queries.Scope.{Scope}
use Rattle.tg_model.specs.declared.queries.Scope.TheVariants as scopes

-- the names and CIDs that are met
abbrev met_in : Traversal → List Named
met_in t = map named_met t.met

-- a node meets what is met at its links
node_met : (reach : Reach) (position : Position) (depth : ℕ) (section : Section) (kind : Kind) (children : Children) → (traverse reach position depth (node section kind children)).end ≡ whole
    → met_in (traverse reach position depth (node section kind children)) ≡ met_in (traverse_children (visits reach position kind) (depth + 1) children)
node_met reach position depth section kind children w =
    let through : NodeThrough reach position depth section kind children = node-through reach position depth section kind children w in
    ap (λ (met : List ListedEntry). map named_met met) through.met

-- where each link is passed over nothing is met
passed_met : (parts : List Part) (depth : ℕ) (children : Children) → met_in (traverse_children (map (λ p. passed_over) parts) depth children) ≡ []
passed_met parts depth no_child = refl
passed_met [] depth (with_child d children) = refl
passed_met (p ∷ parts) depth (with_child d children) = passed_met parts depth children

-- a directory in one block
basic_met : (es : List Entry) (depth : ℕ) (children : Children) → root_cids children ≡ map (λ entry. entry.cid) es
    → met_in (traverse_children (map (λ e. entry_visit listed e.name e.cid) es) depth children) ≡ map named_of (named_children es children)
basic_met es depth no_child links = refl
basic_met [] depth (with_child d children) links = refl
basic_met (entry ∷ es) depth (with_child d children) links =
    let here : entry.cid ≡ root_cid d = cc in
    let later : root_cids children ≡ map (λ (entry : Entry). entry.cid) es = cc in
    ap₂ (λ (cid : CidParts) (rest : List Named). let named : Named = record { name = entry.name; cid = cid } in named ∷ rest) here (basic_met es depth children later)

-- a slot meets its entry, or those of its child shard
slot_met : (position : Position) (number : ℕ) (cid : CidParts) (name : Option (List ℕ)) (depth : ℕ) (d : Dag) → cid ≡ root_cid d
    → IsCheckedAt (position_by_name (passed position ++ number ∷ []) name) d
    → ((place : Position) → IsCheckedAt place d → (traverse listed place depth d).end ≡ whole → met_in (traverse listed place depth d) ≡ map named_of (entries d))
    → (visited (λ reach place. traverse reach place depth d) (visit_by_name listed position number cid name).into).end ≡ whole
    → map named_met ((visit_by_name listed position number cid name).met ++ (visited (λ reach place. traverse reach place depth d) (visit_by_name listed position number cid name).into).met)
    ≡ map named_of (slot_entries name d (entries d))
slot_met position number cid (Some name) depth d link h inner w =
    ap (λ (c : CidParts). let named : Named = record { name = name; cid = c } in named ∷ []) link
slot_met position number cid None depth d link h inner w = inner _ h w

mutual
  -- a listing below any node
  listed_met : (position : Position) (depth : ℕ) (d : Dag) → IsCheckedAt position d → (traverse listed position depth d).end ≡ whole → met_in (traverse listed position depth d) ≡ map named_of (entries d)
  listed_met position depth (unopened cid) h w = refl
  listed_met position depth (bare section None) h w = refl
  listed_met position depth (bare section (Some fault)) h w = refl
  listed_met position depth (node section Raw children) h w = node_met listed position depth section Raw children w ∙ passed_met [] (depth + 1) children
  listed_met position depth (node section (File inline filesize parts) children) h w =
      node_met listed position depth section (File inline filesize parts) children w ∙ passed_met parts (depth + 1) children
  listed_met position depth (node section (Basic es) children) h w = node_met listed position depth section (Basic es) children w ∙ basic_met es (depth + 1) children h.0.links
  listed_met position depth (node section (Shard slots) children) h w =
      let through : NodeThrough listed position depth section (Shard slots) children = node-through listed position depth section (Shard slots) children w in
      node_met listed position depth section (Shard slots) children w ∙ slots_met position slots (depth + 1) children h.0.links h.1 through.children_end
  listed_met position depth (node section (Symlink target) children) h w = node_met listed position depth section (Symlink target) children w ∙ passed_met [] (depth + 1) children

  -- the slots of a shard
  slots_met : (position : Position) (slots : List Slot) (depth : ℕ) (children : Children) → root_cids children ≡ map (λ slot. slot.cid) slots
      → AreCheckedAt (map (slot_position (passed position)) slots) children → (traverse_children (map (slot_visit listed position) slots) depth children).end ≡ whole
      → met_in (traverse_children (map (slot_visit listed position) slots) depth children) ≡ map named_of (entries_of_slots slots children)
  slots_met position slots depth no_child links h w = refl
  slots_met position [] depth (with_child d children) links h w = refl
  slots_met position (slot ∷ slots) depth (with_child d children) links h w =
      let visit : Visit = slot_visit listed position slot in
      let todo : List Visit = map (slot_visit listed position) slots in
      let inside : Traversal = visited (λ reach place. traverse reach place depth d) visit.into in
      let rest : Traversal = traverse_children todo depth children in
      let through : ChildThrough visit todo depth d children = child-through visit todo depth d children w in
      let here : slot.cid ≡ root_cid d = cc in
      let later : root_cids children ≡ map (λ (slot : Slot). slot.cid) slots = cc in
      ap (λ (met : List ListedEntry). map named_met met) (through.met ∙ sym (append_assoc visit.met inside.met rest.met))
      ∙ map-append named_met (visit.met ++ inside.met) rest.met
      ∙ ap₂ (λ (a b : List Named). a ++ b)
      (slot_met position slot.slot slot.cid slot.name depth d here h.0 (λ place g v. listed_met place depth d g v) through.first)
      (slots_met position slots depth children later h.1 through.rest)
      ∙ sym (map-append named_of (slot_entries slot.name d (entries d)) (entries_of_slots slots children))

-- a terminal of which the listing is asked for
terminal_met : (scope : Scope) (span : Option SpanParts) (depth : ℕ) (t : Dag) → IsChecked t → (at_terminal scope span depth t).end ≡ whole → is_listed scope t ≡ true
    → met_in (at_terminal scope span depth t) ≡ map named_of (entries t)
terminal_met scopes.Entity span depth (node section (Basic es) children) h w e = listed_met top depth (node section (Basic es) children) h w
terminal_met scopes.Entity span depth (node section (Shard slots) children) h w e = listed_met top depth (node section (Shard slots) children) h w
terminal_met _ span depth _ h w e = absurd (cc)

-- where a traversal for a listing comes through, it meets the entries of a checked terminal
pub partial_met : (q : QueryParts) (s t : Dag) → IsChecked t → (path_walk q.path s).end ≡ terminal t → (traversal q s).end ≡ whole → is_listed q.scope t ≡ true
    → map named_met (traversal q s).met ≡ map named_of (entries t)
partial_met q s t h e w is =
    let depth : ℕ = length (path_walk q.path s).sections + 1 in
    let same : from_end (path_walk q.path s).end q.scope q.span depth ≡ at_terminal q.scope q.span depth t = ap (λ (end : PathEnd). from_end end q.scope q.span depth) e in
    ap met_in same ∙ terminal_met q.scope q.span depth t h (sym (ap (λ (t : Traversal). t.end) same) ∙ w) is

-- so it does in a sound DAG
pub traversal_met : (q : QueryParts) (d t : Dag) → IsSound d → (path_walk q.path d).end ≡ terminal t → is_listed q.scope t ≡ true
    → map named_met (traversal q d).met ≡ map named_of (entries t)
traversal_met q d t sound e is = partial_met q d t (terminal_sound q.path d t sound e).checked e (traversal_whole q d t sound e) is
