-- The text of a bundle's traversal is the bundle.
use Rattle.std.proofs.Common.{◌≡◌, ℕ, ◌+◌, ◌++◌, List, [], ◌∷◌, Option, Some, None, length, map, refl, ap, ap₂, ◌∙◌}
use Rattle.std.proofs.lemmas.List.{append-nil, append_assoc}
use Rattle.tg_cid.specs.Cid.{CidParts}
use Rattle.tg_model.specs.Answer.{bundle, bundle_inside, bundle_of_entries, bundle_of_slots, slot_bundle}
use Rattle.tg_model.specs.Content.{content_of_children}
use Rattle.tg_model.specs.Dag.{Dag, Children, bare, with_child, no_child, node, total_of, unopened}
use Rattle.tg_model.specs.PathWalk.{whole}
use Rattle.tg_model.specs.Sound.{Position, child, part, passed, top}
use Rattle.tg_model.specs.Texts.{dir_line, file_line, joined, link_line}
use Rattle.tg_model.specs.Traversal.{bundled, entry_visit, slot_visit, traverse, traverse_children, visit_by_name, visited}
use Rattle.tg_model.specs.declared.kinds.Entry.{Entry}
use Rattle.tg_model.specs.declared.kinds.Kind.TheVariants.{Basic, File, Raw, Shard, Symlink}
use Rattle.tg_model.specs.declared.kinds.Slot.{Slot}
use Rattle.tg_model_laws.proofs.FileTexts.{parts-entire}
use Rattle.tg_model_laws.proofs.Through.{child-through, no-visits, node-through}

-- the records of a slot: of its entry, or those inside its child shard
slot-bundled : (path : List ℕ) (position : Position) (number depth : ℕ) (d : Dag) (cid : CidParts) (name : Option (List ℕ))
    → ((below : List ℕ) → (traverse (bundled below) top depth d).end ≡ whole → (traverse (bundled below) top depth d).text ≡ bundle below d)
    → ((above : List ℕ) → (traverse (bundled path) (child above) depth d).end ≡ whole → (traverse (bundled path) (child above) depth d).text ≡ bundle_inside path d)
    → (visited (λ reach position. traverse reach position depth d) (visit_by_name (bundled path) position number cid name).into).end ≡ whole
    → (visited (λ reach position. traverse reach position depth d) (visit_by_name (bundled path) position number cid name).into).text
    ≡ slot_bundle (λ name. bundle (joined path name) d) (bundle_inside path d) name
slot-bundled path position number depth d cid (Some name) entry inside w = entry (joined path name) w
slot-bundled path position number depth d cid None entry inside w = inside (passed position ++ number ∷ []) w

mutual
  -- the records of the root or an entry of a directory
  pub top-bundled : (path : List ℕ) (depth : ℕ) (d : Dag) → (traverse (bundled path) top depth d).end ≡ whole → (traverse (bundled path) top depth d).text ≡ bundle path d
  top-bundled path depth (unopened cid) w = refl
  top-bundled path depth (bare section None) w = refl
  top-bundled path depth (bare section (Some fault)) w = refl
  top-bundled path depth (node section Raw children) w =
      let through = node-through (bundled path) top depth section Raw children w in
      through.text
      ∙ ap (λ (text : List ℕ). (file_line (length section.block) path ++ section.block) ++ (text ++ 10 ∷ [])) (no-visits (depth + 1) children)
      ∙ append_assoc (file_line (length section.block) path) section.block (10 ∷ [])
  top-bundled path depth (node section (File inline filesize parts) children) w =
      let line : List ℕ = file_line (total_of section (File inline filesize parts)) path in
      let through = node-through (bundled path) top depth section (File inline filesize parts) children w in
      through.text
      ∙ ap (λ (text : List ℕ). (line ++ inline) ++ (text ++ 10 ∷ [])) (parts-entire parts (depth + 1) children through.children_end)
      ∙ append_assoc line inline (content_of_children (map (λ p. part p.size) parts) children ++ 10 ∷ [])
  top-bundled path depth (node section (Basic es) children) w =
      let through = node-through (bundled path) top depth section (Basic es) children w in
      through.text ∙ ap₂ (λ s t. s ++ t) (append-nil (dir_line path)) (append-nil _ ∙ entries-bundled path es (depth + 1) children through.children_end)
  top-bundled path depth (node section (Shard slots) children) w =
      let through = node-through (bundled path) top depth section (Shard slots) children w in
      through.text ∙ ap₂ (λ s t. s ++ t) (append-nil (dir_line path)) (append-nil _ ∙ slots-bundled path top slots (depth + 1) children through.children_end)
  top-bundled path depth (node section (Symlink target) children) w =
      let through = node-through (bundled path) top depth section (Symlink target) children w in
      through.text
      ∙ ap (λ (text : List ℕ). (link_line (length target) path ++ target) ++ (text ++ 10 ∷ [])) (no-visits (depth + 1) children)
      ∙ append_assoc (link_line (length target) path) target (10 ∷ [])

  -- the records inside a child shard
  pub inside-bundled : (path above : List ℕ) (depth : ℕ) (d : Dag) → (traverse (bundled path) (child above) depth d).end ≡ whole
      → (traverse (bundled path) (child above) depth d).text ≡ bundle_inside path d
  inside-bundled path above depth (unopened cid) w = refl
  inside-bundled path above depth (bare section None) w = refl
  inside-bundled path above depth (bare section (Some fault)) w = refl
  inside-bundled path above depth (node section (Shard slots) children) w =
      let through = node-through (bundled path) (child above) depth section (Shard slots) children w in
      through.text ∙ append-nil _ ∙ slots-bundled path (child above) slots (depth + 1) children through.children_end
  inside-bundled path above depth (node section kind children) w = absurd (cc w)

  -- the records of the entries
  pub entries-bundled : (path : List ℕ) (es : List Entry) (depth : ℕ) (children : Children)
      → (traverse_children (map (λ e. entry_visit (bundled path) e.name e.cid) es) depth children).end ≡ whole
      → (traverse_children (map (λ e. entry_visit (bundled path) e.name e.cid) es) depth children).text ≡ bundle_of_entries path es children
  entries-bundled path es depth no_child w = refl
  entries-bundled path [] depth (with_child d children) w = refl
  entries-bundled path (e ∷ es) depth (with_child d children) w =
      let through = child-through (entry_visit (bundled path) e.name e.cid) _ depth d children w in
      through.text ∙ ap₂ (λ s t. s ++ t) (top-bundled (joined path e.name) depth d through.first) (entries-bundled path es depth children through.rest)

  -- the records of the slots
  pub slots-bundled : (path : List ℕ) (position : Position) (slots : List Slot) (depth : ℕ) (children : Children)
      → (traverse_children (map (slot_visit (bundled path) position) slots) depth children).end ≡ whole
      → (traverse_children (map (slot_visit (bundled path) position) slots) depth children).text ≡ bundle_of_slots path slots children
  slots-bundled path position slots depth no_child w = refl
  slots-bundled path position [] depth (with_child d children) w = refl
  slots-bundled path position (slot ∷ slots) depth (with_child d children) w =
      let through = child-through (slot_visit (bundled path) position slot) _ depth d children w in
      through.text
      ∙ ap₂ (λ s t. s ++ t)
      (slot-bundled path position slot.slot depth d slot.cid slot.name (λ below. top-bundled below depth d) (λ above. inside-bundled path above depth d) through.first)
      (slots-bundled path position slots depth children through.rest)
