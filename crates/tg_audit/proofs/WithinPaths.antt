-- What stands at a path of a drawn folder's DAG, and what a walk there opens.
use Rattle.std.proofs.Common.{All, Bool, List, None, Option, Some, [], ap, arith, length, refl, subst, suc, true, zero, ℕ, ◌+◌, ◌++◌, ◌∙◌, ◌∷◌, ◌≡◌, ◌≤◌}
use Rattle.std.proofs.lemmas.List.Elements.{All-append, All-cons, All-contains, All-head, All-nil, All-tail}
use Rattle.std.specs.Prelude.{bytes_eq, if◌then◌else◌, map, ⊤}
use Rattle.tg_audit.proofs.DagEntries.{StandsAt, stands_at}
use Rattle.tg_audit.proofs.FileSizes.{IsAt}
use Rattle.tg_audit.proofs.FolderSizes.{AreAt, first_at, rest_at}
use Rattle.tg_audit.proofs.WithinCounts.{IsShallow}
use Rattle.tg_audit.specs.Packing.{audit_options}
use Rattle.tg_import.specs.Imported.{layout}
use Rattle.tg_model.specs.Content.{DirEntry, entries, entries_of_slots, named_children, slot_entries}
use Rattle.tg_model.specs.Dag.{Children, Dag, Section, bare, blocks_of_children, no_child, node, unopened, with_child}
use Rattle.tg_model.specs.Ends.{EndsAlike, StopsAlike}
use Rattle.tg_model.specs.ImportLayout.{HasPlainCid}
use Rattle.tg_model.specs.Lookup.{LookupEnd}
use Rattle.tg_model.specs.Lookup as lookups
use Rattle.tg_model.specs.PathWalk.{PathEnd, StepTo, absent, child_below, entry_step, not_folder_here, not_reached, path_walk, terminal, to_child, to_entry, walk_child, walk_step, Stop}
use Rattle.tg_model.specs.ShowsTree.{Shows}
use Rattle.tg_model.specs.Sound.{Position, child as child_position, passed, position_by_name, slot_position, top}
use Rattle.tg_model.specs.Traversal.{Place, sections_of, walk_places}
use Rattle.tg_model.specs.declared.kinds.Entry.{Entry}
use Rattle.tg_model.specs.declared.kinds.Kind.TheVariants.{Basic, File, Raw, Shard, Symlink}
use Rattle.tg_model.specs.declared.kinds.Slot.{Slot}
use Rattle.tg_murmur.specs.NameHash.{slot_of}
use Rattle.tg_tree.specs.Tree.{child, sort_of}
use Rattle.tg_tree.specs.declared.items.Sort.TheVariants as sorts
use Rattle.tg_tree.specs.declared.tree.Tree.{Tree}
use Rattle.tg_model.specs.PathWalk as walks

-- ---- each entry of a directory stands where it should

abbrev IsTop : DirEntry → Type 0
IsTop e = IsAt top e.dag

named_stand : (es : List Entry) (children : Children) → AreAt (map (λ e. top) es) children → All IsTop (named_children es children)
named_stand es no_child h = All-nil IsTop
named_stand [] (with_child d children) h = absurd h.checked
named_stand (e ∷ es) (with_child d children) h =
    All-cons IsTop (record { name = e.name; dag = d }) (named_children es children) (first_at top (map (λ e. top) es) d children h)
    (named_stand es children (rest_at top (map (λ e. top) es) d children h))

slot_stand : (slots : List ℕ) (name : Option (List ℕ)) (d : Dag) → (IsAt (child_position slots) d → All IsTop (entries d))
    → IsAt (position_by_name slots name) d → All IsTop (slot_entries name d (entries d))
slot_stand slots (Some name) d inside h = All-cons IsTop (record { name = name; dag = d }) [] h (All-nil IsTop)
slot_stand slots None d inside h = inside h

mutual
  pub entries_stand : (position : Position) (d : Dag) → IsAt position d → All IsTop (entries d)
  entries_stand position (unopened cid) h = All-nil IsTop
  entries_stand position (bare section fault) h = All-nil IsTop
  entries_stand position (node section Raw children) h = All-nil IsTop
  entries_stand position (node section (File inline filesize parts) children) h = All-nil IsTop
  entries_stand position (node section (Basic es) children) h =
      named_stand es children
      (record { whole = h.whole; checked = h.checked.1; laid = h.laid.3; plain = All-tail HasPlainCid section (blocks_of_children children) h.plain })
  entries_stand position (node section (Shard slots) children) h =
      slots_stand (passed position) slots children
      (record { whole = h.whole; checked = h.checked.1; laid = h.laid.2; plain = All-tail HasPlainCid section (blocks_of_children children) h.plain })
  entries_stand position (node section (Symlink target) children) h = All-nil IsTop

  slots_stand : (above : List ℕ) (slots : List Slot) (children : Children) → AreAt (map (slot_position above) slots) children → All IsTop (entries_of_slots slots children)
  slots_stand above slots no_child h = All-nil IsTop
  slots_stand above [] (with_child d children) h = absurd h.checked
  slots_stand above (slot ∷ slots) (with_child d children) h =
      All-append IsTop (slot_entries slot.name d (entries d)) (entries_of_slots slots children)
      (slot_stand (above ++ slot.slot ∷ []) slot.name d (λ l. entries_stand (child_position (above ++ slot.slot ∷ [])) d l)
      (first_at (slot_position above slot) (map (slot_position above) slots) d children h))
      (slots_stand above slots children (rest_at (slot_position above slot) (map (slot_position above) slots) d children h))

-- what stands under a name, and that it stands there
pub record Stands (d : Dag) (name : List ℕ) (below : Tree) : Type 0 where
  pub at : StandsAt (layout audit_options) d name below
  pub stands : IsAt top at.dag

pub stands_there : (tree : Tree) (d : Dag) (name : List ℕ) (below : Tree) → sort_of tree ≡ sorts.Folder → IsAt top d → Shows d tree → child tree name ≡ Some below → Stands d name below
stands_there tree d name below folder h shown is =
    let x = stands_at (layout audit_options) tree d name below folder shown h.laid is in
    record { at = x; stands = subst (IsAt top) x.dag_is (All-contains IsTop (entries d) x.entry (entries_stand top d h) x.among) }

-- so a walk ends there
pub ends_at : (end : PathEnd) (look : LookupEnd) (t : Dag) → EndsAlike end look → look ≡ lookups.found t → end ≡ terminal t
ends_at (terminal d) (lookups.found other) t alike is = let same : other ≡ t = cc is in ap terminal (alike ∙ same)
ends_at (terminal d) (lookups.not_there i) t alike is = absurd alike
ends_at (terminal d) (lookups.not_folder i) t alike is = absurd alike
ends_at (not_reached stop) (lookups.found other) t alike is = absurd (no_stop stop other alike)
  where
    no_stop : (stop : Stop) (other : Dag) → StopsAlike stop (lookups.found other) → ⊥
    no_stop (walks.not_there i) other h = h
    no_stop (walks.not_folder i) other h = h
    no_stop (walks.gone spot) other h = h
    no_stop (walks.bad_block spot fault) other h = h
ends_at (not_reached stop) (lookups.not_there i) t alike is = absurd (cc is)
ends_at (not_reached stop) (lookups.not_folder i) t alike is = absurd (cc is)

-- ---- what a walk opens

-- of one segment from a directory in one block it opens this block
abbrev IsNoChild : StepTo → Type 0
IsNoChild (to_entry k) = ⊤
IsNoChild (to_child k) = ⊥
IsNoChild absent = ⊤
IsNoChild not_folder_here = ⊤

no_child_step : (at : ℕ) (name : List ℕ) (es : List Entry) → IsNoChild (entry_step at name es)
no_child_step at name [] = tt
no_child_step at name (e ∷ es) = by (bytes_eq name e.name) (no_child_step (at + 1) name es)
  where
    by : (b : Bool) → IsNoChild (entry_step (at + 1) name es) → IsNoChild (if b then to_entry at else entry_step (at + 1) name es)
    by true rest = tt
    by _ rest = rest

no_more : (k i : ℕ) (position : Position) (depth : ℕ) (children : Children) → (walk_child k i position depth [] children).sections ≡ []
no_more k i position depth no_child = refl
no_more zero i position depth (with_child (unopened cid) children) = refl
no_more zero i position depth (with_child (bare section fault) children) = refl
no_more zero i position depth (with_child (node section kind more) children) = refl
no_more (suc k) i position depth (with_child d children) = no_more k i position depth children

pub one_section : (section : Section) (es : List Entry) (children : Children) (name : List ℕ) → (path_walk (name ∷ []) (node section (Basic es) children)).sections ≡ section ∷ []
one_section section es children name = ap (λ (l : List Section). section ∷ l) (by (entry_step 0 name es) (no_child_step 0 name es))
  where
    by : (step : StepTo) → IsNoChild step
        → (walk_step 0 (λ k. walk_child k 1 top 2 [] children) (λ k. walk_child k 0 (child_below top (slot_of name 0)) 2 (name ∷ []) children) step).sections ≡ []
    by (to_entry k) h = no_more k 1 top 2 children
    by (to_child k) h = absurd h
    by absent h = refl
    by not_folder_here h = refl

-- a walk whose places lie no deeper opens no more
pub few_walked : (most depth : ℕ) (sections : List Section) → All (IsShallow most) (walk_places depth sections) → depth ≤ most + 1 → length sections + depth ≤ most + 1
few_walked most depth [] all start = omega (arith, start)
few_walked most depth (s ∷ sections) all start =
    let here = All-head (IsShallow most) (record { section = s; depth = depth }) (walk_places (depth + 1) sections) all in
    let rest = few_walked most (depth + 1) sections (All-tail (IsShallow most) (record { section = s; depth = depth }) (walk_places (depth + 1) sections) all) (omega (arith, here)) in
    omega (arith, rest)

pub walk_sections : (depth : ℕ) (sections : List Section) → sections_of (walk_places depth sections) ≡ sections
walk_sections depth [] = refl
walk_sections depth (s ∷ sections) = ap (λ (l : List Section). s ∷ l) (walk_sections (depth + 1) sections)

pub places_both : (a b : List Place) → sections_of (a ++ b) ≡ sections_of a ++ sections_of b
places_both [] b = refl
places_both (p ∷ a) b = ap (λ (l : List Section). p.section ∷ l) (places_both a b)
