-- Two DAGs in the layout that show one tree are the same.
use Rattle.std.proofs.Common.{◌≡◌, ◌+◌, ◌<◌, ◌≤◌, ℕ, List, Option, None, Some, [], ◌∷◌, ◌++◌, length, map, inl, inr, refl, sym, ap, ap₂, ◌∙◌, subst, arith}
use Rattle.std.proofs.lemmas.Bool.{cases_order}
use Rattle.std.proofs.lemmas.List.{append-nil}
use Rattle.std.proofs.lemmas.List.Elements.{All-head, All-tail}
use Rattle.std.specs.Prelude.{All, unwrap_or}
use Rattle.tg_model.specs.Reading.{slot_digits}
use Rattle.tg_model.specs.Content.{DirEntry, content, entries, entries_of_slots, named_children}
use Rattle.tg_model.specs.Dag.{Children, Dag, Section, bare, blocks, blocks_of_children, no_child, node, root_cids, unopened, with_child}
use Rattle.tg_model.specs.ImportLayout.{AreLaidAt, HasPlainCid, IsShardWritten, IsWritten, LayoutOptions, basic_unix, link_name, shard_unix, weight_of}
use Rattle.tg_model.specs.ShowsTree.{EntriesShow, HasNamesOf, Shows, ShowsInside, SlotShows, SlotsShow}
use Rattle.tg_model.specs.Sound.{AreCheckedAt, IsNodeAt, Position, child, position_by_name, top}
use Rattle.tg_model.specs.declared.kinds.Entry.{Entry}
use Rattle.tg_model.specs.declared.kinds.Kind.TheVariants.{Basic, File, Raw, Shard, Symlink}
use Rattle.tg_model.specs.declared.kinds.Slot.{Slot}
use Rattle.tg_tree.specs.Tree.{bytes_of, bytes_within, child as tree_child, sort_of, sort_within}
use Rattle.tg_tree.specs.declared.items.Sort.TheVariants as sorts
use Rattle.tg_tree.specs.declared.tree.Tree.{Tree, Tree-F, out-Tree}
use Rattle.tg_tree.specs.declared.tree.Tree.TheOpen as trees
use Rattle.tg_model_laws.specs.Places.{IsFaultlessShard}
use Rattle.tg_layout_laws.proofs.NamesRise.{Before, names_rise, never_before, one_before}
use Rattle.tg_layout_laws.proofs.Nodes.{TextLaws, same_node, same_written}
use Rattle.tg_layout_laws.proofs.OneFile.{IsFileTop, no_content, same_files}
use Rattle.tg_layout_laws.proofs.Rows.{all_left, all_right, mapped}
use Rattle.tg_layout_laws.proofs.Sets.{Among, Distinct, SameElements, among_cases, among_contains, among_left, among_right, contains_among, rise_same, total_most}
use Rattle.tg_layout_laws.proofs.ShardNames.{AreSlotsAt, IsAt, child_distinct, first_at, first_stand, names_in, names_split, numbers_of, rest_at, rest_stand, shard_at, slot_names, slots_distinct}
use Rattle.tg_layout_laws.proofs.Weights.{AreAt, basic_weight, name_weight, shard_weight}

-- the laws that the crates below state, and that the slots of a shard determine its bits
pub record DirLaws : Type 0 where
  pub texts : TextLaws
  pub faultless : IsFaultlessShard
  pub one_bits : (s t : Section) (ss ts : List Slot) (a b : Children) → (h : IsShardWritten s.block ss a)
      → (k : IsShardWritten t.block ts b) → numbers_of ss ≡ numbers_of ts → h.bits ≡ k.bits

-- ---- files

file_or_folder : (bytes : List ℕ) (t : (Tree-F Tree)) → bytes_within t ≡ Some bytes → sort_within t ≡ sorts.Folder → ⊥
file_or_folder bytes (trees.File own) e f = absurd (cc)
file_or_folder bytes (trees.Folder inner) e f = absurd (cc)
file_or_folder bytes (trees.Symlink target) e f = absurd (cc)
file_or_folder bytes trees.Other e f = absurd (cc)

not_folder : (tree : Tree) (bytes : List ℕ) → bytes_of (Some tree) ≡ Some bytes → sort_of tree ≡ sorts.Folder → ⊥
not_folder tree bytes e f = file_or_folder bytes (out-Tree tree) e f

-- what shows a file is a file with its bytes
file_shown : (options : LayoutOptions) (e : Dag) (tree : Tree) (bytes : List ℕ) → IsAt options top e → Shows e tree
    → bytes_of (Some tree) ≡ Some bytes → IsFileTop options e × (content e ≡ bytes)
file_shown options (unopened cid) tree bytes h shows is = absurd shows
file_shown options (bare section fault) tree bytes h shows is = absurd shows
file_shown options (node section Raw children) tree bytes h shows is =
    let same : section.block ≡ bytes = cc in (
      record { checked = h.checked; laid = h.laid; file = h.laid; plain = h.plain },
      ap (λ (b : List ℕ). section.block ++ b) (no_content children) ∙ append-nil section.block ∙ same,
    )
file_shown options (node section (File inline filesize parts) children) tree bytes h shows is =
    let own : List ℕ = content (node section (File inline filesize parts) children) in
    let both : Some own ≡ Some bytes = sym shows ∙ is in
    (record { checked = h.checked; laid = h.laid; file = h.laid.0; plain = h.plain }, some_same own bytes both)
  where
    some_same : (a b : List ℕ) → Some a ≡ Some b → a ≡ b
    some_same a b e = cc
file_shown options (node section (Basic es) children) tree bytes h shows is = absurd
    (not_folder tree bytes is shows.0.folder)
file_shown options (node section (Shard slots) children) tree bytes h shows is = absurd
    (not_folder tree bytes is shows.0.folder)
file_shown options (node section (Symlink target) children) tree bytes h shows is = absurd h.laid

-- ---- names

same_names : (a b : List DirEntry) (tree : Tree) → HasNamesOf a tree → HasNamesOf b tree
    → SameElements (names_in a) (names_in b)
same_names a b tree h k = λ name. (
  (λ m. among_contains (names_in b) name ((k.names name).1 ((h.names name).0 (contains_among (names_in a) name m)))),
  (λ m. among_contains (names_in a) name ((h.names name).1 ((k.names name).0 (contains_among (names_in b) name m)))),
)

entry_names : (es : List Entry) (children : Children) → root_cids children ≡ map (λ e. e.cid) es
    → names_in (named_children es children) ≡ map (λ e. e.name) es
entry_names [] no_child links = refl
entry_names [] (with_child d children) links = refl
entry_names (e ∷ es) no_child links = absurd (cc)
entry_names (e ∷ es) (with_child d children) links =
    let rest : root_cids children ≡ map (λ e. e.cid) es = cc in
    ap (λ (names : List (List ℕ)). e.name ∷ names) (entry_names es children rest)

-- ---- directories in one block

pub are_at : (options : LayoutOptions) (places : List Position) (children : Children) → AreCheckedAt places children
    → AreLaidAt options places children → All HasPlainCid (blocks_of_children children) → AreAt options places children
are_at options places no_child checked laid plain = tt
are_at options [] (with_child d children) checked laid plain = absurd checked
are_at options (position ∷ places) (with_child d children) checked laid plain =
    let first = all_left HasPlainCid (blocks d) (blocks_of_children children) plain in
    let rest = all_right HasPlainCid (blocks d) (blocks_of_children children) plain in
    (record { checked = checked.0; laid = laid.0; plain = first }, are_at options places children checked.1 laid.1 rest)

entries_at : (options : LayoutOptions) (section : Section) (es : List Entry) (children : Children)
    → IsAt options top (node section (Basic es) children) → AreAt options (map (λ e. top) es) children
entries_at options section es children h =
    let plain = All-tail HasPlainCid section (blocks_of_children children) h.plain in
    are_at options (map (λ e. top) es) children h.checked.1 h.laid.3 plain

basic_names : (options : LayoutOptions) (s t : Section) (es fs : List Entry) (a b : Children) (tree : Tree)
    → IsAt options top (node s (Basic es) a) → IsAt options top (node t (Basic fs) b)
    → HasNamesOf (named_children es a) tree → HasNamesOf (named_children fs b) tree
    → map (λ e. e.name) es ≡ map (λ e. e.name) fs
basic_names options s t es fs a b tree h k p q =
    let same = same_names (named_children es a) (named_children fs b) tree p q in
    let left = entry_names es a h.checked.0.links in
    let right = entry_names fs b k.checked.0.links in
    rise_same Before never_before one_before (map (λ e. e.name) es) (map (λ e. e.name) fs) (names_rise es h.laid.1)
    (names_rise fs k.laid.1)
    (λ name. (
      (λ m. subst (Among name) right ((same name).0 (subst (Among name) (sym left) m))),
      (λ m. subst (Among name) left ((same name).1 (subst (Among name) (sym right) m))),
    ))

-- names and children determine such a directory
same_basic : TextLaws → (options : LayoutOptions) (s t : Section) (es fs : List Entry) (a b : Children)
    → IsAt options top (node s (Basic es) a) → IsAt options top (node t (Basic fs) b)
    → map (λ e. e.name) es ≡ map (λ e. e.name) fs → a ≡ b → node s (Basic es) a ≡ node t (Basic fs) b
same_basic laws options s t es fs a b h k names children =
    let written : IsWritten s.block (map (λ e. e.name) fs) b basic_unix =
    subst (λ (c : Children). IsWritten s.block (map (λ e. e.name) fs) c basic_unix) children
    (subst (λ (ns : List (List ℕ)). IsWritten s.block ns a basic_unix) names h.laid.2) in
    let block = same_written laws s.block t.block (map (λ e. e.name) fs) b basic_unix written k.laid.2 in
    let there : IsNodeAt top s (Basic es) b = subst (λ (c : Children). IsNodeAt top s (Basic es) c) children
    h.checked.0 in
    ap (node s (Basic es)) children
    ∙ same_node laws top top s t (Basic es) (Basic fs) b (λ e. (cc)) (λ e. (cc)) there k.checked.0
    (All-head HasPlainCid s (blocks_of_children a) h.plain) (All-head HasPlainCid t (blocks_of_children b) k.plain)
    block

-- ---- shards

-- slots with the same names and numbers, and the same children
pub record SameSlots (ss ts : List Slot) (a b : Children) : Type 0 where
  pub names : map link_name ss ≡ map link_name ts
  pub numbers : numbers_of ss ≡ numbers_of ts
  pub children : a ≡ b

-- determine a shard
same_shard : (laws : DirLaws) (options : LayoutOptions) (position : Position) (s t : Section) (ss ts : List Slot)
    (a b : Children)
    → IsAt options position (node s (Shard ss) a) → IsAt options position (node t (Shard ts) b) → SameSlots ss ts a b
    → node s (Shard ss) a ≡ node t (Shard ts) b
same_shard laws options position s t ss ts a b h k same =
    let bits = laws.one_bits s t ss ts a b h.laid.1 k.laid.1 same.numbers in
    let written : IsWritten s.block (map link_name ts) b (shard_unix k.laid.1.bits) =
    subst (λ (c : Children). IsWritten s.block (map link_name ts) c (shard_unix k.laid.1.bits)) same.children
    (subst (λ (ns : List (List ℕ)). IsWritten s.block ns a (shard_unix k.laid.1.bits)) same.names
    (subst (λ (bs : List ℕ). IsWritten s.block (map link_name ss) a (shard_unix bs)) bits h.laid.1.written)) in
    let block = same_written laws.texts s.block t.block (map link_name ts) b (shard_unix k.laid.1.bits) written
    k.laid.1.written in
    let there : IsNodeAt position s (Shard ss) b = subst (λ (c : Children). IsNodeAt position s (Shard ss) c)
    same.children h.checked.0 in
    ap (node s (Shard ss)) same.children
    ∙ same_node laws.texts position position s t (Shard ss) (Shard ts) b (λ e. (cc)) (λ e. (cc)) there k.checked.0
    (All-head HasPlainCid s (blocks_of_children a) h.plain) (All-head HasPlainCid t (blocks_of_children b) k.plain)
    block

-- a child shard has two names that differ
two_entries : (options : LayoutOptions) (slots : List ℕ) (d : Dag) → IsAt options (child slots) d
    → 2 ≤ length (names_in (entries d))
two_entries options slots (unopened cid) h = absurd h.laid
two_entries options slots (bare section fault) h = absurd h.laid
two_entries options slots (node section Raw children) h = absurd h.laid
two_entries options slots (node section (File inline filesize parts) children) h = absurd h.laid.0
two_entries options slots (node section (Basic es) children) h = let e = h.checked.0.stands in absurd (cc)
two_entries options slots (node section (Shard ss) children) h =
    let two : 2 ≤ length (entries_of_slots ss children) = h.laid.0 in
    let many = mapped (λ (entry : DirEntry). entry.name) (entries_of_slots ss children) in
    omega (arith, two, many)
two_entries options slots (node section (Symlink target) children) h = absurd h.laid

not_alone : (name : List ℕ) (names : List (List ℕ)) → Distinct names → 2 ≤ length names
    → ((n : List ℕ) → Among n names → Among n (name ∷ [])) → ⊥
not_alone name [] differ two all = omega (arith, two)
not_alone name (a ∷ []) differ two all = omega (arith, two)
not_alone name (a ∷ b ∷ names) differ two all =
    let first : name ≡ a = only a (all a (inl refl)) in
    let second : name ≡ b = only b (all b (inr (inl refl))) in
    differ.0 (inl (sym second ∙ first))
  where
    only : (n : List ℕ) → Among n (name ∷ []) → name ≡ n
    only n (inl e) = e
    only n (inr never) = absurd never

first_among : (names : List (List ℕ)) → 0 < length names → (name : List ℕ) × Among name names
first_among [] some = absurd (omega (arith, some))
first_among (a ∷ names) some = (a, inl refl)

-- each slot has a name
slot_some : (options : LayoutOptions) (slots : List ℕ) (own : Option (List ℕ)) (d : Dag)
    → IsAt options (position_by_name slots own) d → (name : List ℕ) × Among name (slot_names own d)
slot_some options slots (Some own) d h = (own, inl refl)
slot_some options slots None d h = first_among (names_in (entries d))
    (let two = two_entries options slots d h in omega (arith, two))

-- what has one name is one
tree_is : (a b : Tree) → Some a ≡ Some b → a ≡ b
tree_is a b e = cc

-- in one slot: an entry and an entry, or a child shard and a child shard
same_slot : (laws : DirLaws) (options : LayoutOptions) (d e : Dag) (slots : List ℕ) (a b : Option (List ℕ))
    (tree : Tree) → IsAt options (position_by_name slots a) d → IsAt options (position_by_name slots b) e
    → SlotShows (λ name. (below : Tree) × (tree_child tree name ≡ Some below) × Shows d below) (ShowsInside d tree) a
    → SlotShows (λ name. (below : Tree) × (tree_child tree name ≡ Some below) × Shows e below) (ShowsInside e tree) b
    → SameElements (slot_names a d) (slot_names b e)
    → ((below : Tree) → IsAt options top d → IsAt options top e → Shows d below → Shows e below → d ≡ e)
    → (IsAt options (child slots) d → IsAt options (child slots) e → ShowsInside d tree → ShowsInside e tree →
    SameElements (names_in (entries d)) (names_in (entries e)) → d ≡ e)
    → (a ≡ b) × (d ≡ e)
same_slot laws options d e slots (Some a) (Some b) tree h k p q same entry inner =
    let names : a ≡ b = elim ((same b).1 (inl refl)) [
      | inl x ↦ x
      | inr never ↦ absurd never
    ] in
    let both : Some q.0 ≡ Some p.0 = sym q.1 ∙ ap (tree_child tree) (sym names) ∙ p.1 in
    let tree_same : q.0 ≡ p.0 = tree_is q.0 p.0 both in
    (ap (λ (n : List ℕ). Some n) names, entry p.0 h k p.2 (subst (λ t. Shows e t) tree_same q.2))
same_slot laws options d e slots (Some a) None tree h k p q same entry inner =
    absurd (not_alone a (names_in (entries e)) (child_distinct laws.faultless options e slots k)
    (two_entries options slots e k) (λ n m. (same n).1 m))
same_slot laws options d e slots None (Some b) tree h k p q same entry inner =
    absurd (not_alone b (names_in (entries d)) (child_distinct laws.faultless options d slots h)
    (two_entries options slots d h) (λ n m. (same n).0 m))
same_slot laws options d e slots None None tree h k p q same entry inner = (refl, inner h k p q same)

-- the slots from the first's number on
from_first : (options : LayoutOptions) (above : List ℕ) (low : ℕ) (t : Slot) (ts : List Slot) (e : Dag) (b : Children)
    → AreSlotsAt options above low (t ∷ ts) (with_child e b) → AreSlotsAt options above t.slot (t ∷ ts) (with_child e b)
from_first options above low t ts e b k = record {
  ascend = (omega arith, k.ascend.1);
  placed = k.placed;
  checked = k.checked;
  laid = k.laid;
  plain = k.plain;
  linked = k.linked;
}

-- the first slots aren't one before the other
not_before : (laws : DirLaws) (options : LayoutOptions) (above : List ℕ) (low : ℕ) (s t : Slot) (ss ts : List Slot)
    (d e : Dag) (a b : Children)
    → AreSlotsAt options above low (s ∷ ss) (with_child d a) → AreSlotsAt options above low (t ∷ ts) (with_child e b)
    → ((name : List ℕ) → Among name (names_in (entries_of_slots (s ∷ ss) (with_child d a))) → Among name
    (names_in (entries_of_slots (t ∷ ts) (with_child e b)))) → s.slot < t.slot → ⊥
not_before laws options above low s t ss ts d e a b h k within lt =
    let some = slot_some options (above ++ s.slot ∷ []) s.name d (first_at options above low s ss d a h) in
    let here = first_stand laws.faultless options d a s ss above low h some.0 some.1 in
    let inside : Among some.0 (names_in (entries_of_slots (s ∷ ss) (with_child d a))) =
    subst (Among some.0) (sym (names_split s ss d a))
    (among_left some.0 (slot_names s.name d) (names_in (entries_of_slots ss a)) some.1) in
    let there = rest_stand laws.faultless options (with_child e b) (t ∷ ts) above t.slot
    (from_first options above low t ts e b k) some.0 (within some.0 inside) in
    omega (arith, here, there, lt)

-- the first slots' names are the same, and those behind them
record Splits (s t : Slot) (ss ts : List Slot) (d e : Dag) (a b : Children) : Type 0 where
  first : SameElements (slot_names s.name d) (slot_names t.name e)
  rest : SameElements (names_in (entries_of_slots ss a)) (names_in (entries_of_slots ts b))

first_goes : (laws : DirLaws) (options : LayoutOptions) (above : List ℕ) (low : ℕ) (s t : Slot) (ss ts : List Slot)
    (d e : Dag) (a b : Children)
    → AreSlotsAt options above low (s ∷ ss) (with_child d a) → AreSlotsAt options above low (t ∷ ts) (with_child e b)
    → ((name : List ℕ) → Among name (names_in (entries_of_slots (s ∷ ss) (with_child d a))) → Among name
    (names_in (entries_of_slots (t ∷ ts) (with_child e b)))) → s.slot ≡ t.slot
    → (name : List ℕ) → Among name (slot_names s.name d) → Among name (slot_names t.name e)
first_goes laws options above low s t ss ts d e a b h k within same name m =
    let here = first_stand laws.faultless options d a s ss above low h name m in
    elim (among_cases name (slot_names t.name e) (names_in (entries_of_slots ts b))
    (subst (Among name) (names_split t ts e b)
    (within name (subst (Among name) (sym (names_split s ss d a))
    (among_left name (slot_names s.name d) (names_in (entries_of_slots ss a)) m))))) [
      | inl left ↦ left
      | inr right ↦ let there = rest_stand laws.faultless options b ts above (t.slot + 1)
          (rest_at options above low t ts e b k) name right in absurd (omega (arith, here, there, same))
    ]

rest_goes : (laws : DirLaws) (options : LayoutOptions) (above : List ℕ) (low : ℕ) (s t : Slot) (ss ts : List Slot)
    (d e : Dag) (a b : Children)
    → AreSlotsAt options above low (s ∷ ss) (with_child d a) → AreSlotsAt options above low (t ∷ ts) (with_child e b)
    → ((name : List ℕ) → Among name (names_in (entries_of_slots (s ∷ ss) (with_child d a))) → Among name
    (names_in (entries_of_slots (t ∷ ts) (with_child e b)))) → s.slot ≡ t.slot
    → (name : List ℕ) → Among name (names_in (entries_of_slots ss a)) → Among name (names_in (entries_of_slots ts b))
rest_goes laws options above low s t ss ts d e a b h k within same name m =
    let here = rest_stand laws.faultless options a ss above (s.slot + 1) (rest_at options above low s ss d a h) name
    m in
    elim (among_cases name (slot_names t.name e) (names_in (entries_of_slots ts b))
    (subst (Among name) (names_split t ts e b)
    (within name (subst (Among name) (sym (names_split s ss d a))
    (among_right name (slot_names s.name d) (names_in (entries_of_slots ss a)) m))))) [
      | inl left ↦ let there = first_stand laws.faultless options e b t ts above low k name left in absurd
          (omega (arith, here, there, same))
      | inr right ↦ right
    ]

splits : (laws : DirLaws) (options : LayoutOptions) (above : List ℕ) (low : ℕ) (s t : Slot) (ss ts : List Slot)
    (d e : Dag) (a b : Children)
    → AreSlotsAt options above low (s ∷ ss) (with_child d a) → AreSlotsAt options above low (t ∷ ts) (with_child e b)
    → SameElements (names_in (entries_of_slots (s ∷ ss) (with_child d a)))
    (names_in (entries_of_slots (t ∷ ts) (with_child e b))) → s.slot ≡ t.slot → Splits s t ss ts d e a b
splits laws options above low s t ss ts d e a b h k same slot = record {
  first = λ name. (
    first_goes laws options above low s t ss ts d e a b h k (λ n m. (same n).0 m) slot name,
    first_goes laws options above low t s ts ss e d b a k h (λ n m. (same n).1 m) (sym slot) name,
  );
  rest = λ name. (
    rest_goes laws options above low s t ss ts d e a b h k (λ n m. (same n).0 m) slot name,
    rest_goes laws options above low t s ts ss e d b a k h (λ n m. (same n).1 m) (sym slot) name,
  );
}

first_slot : (laws : DirLaws) (options : LayoutOptions) (above : List ℕ) (low : ℕ) (s t : Slot) (ss ts : List Slot)
    (d e : Dag) (a b : Children)
    → AreSlotsAt options above low (s ∷ ss) (with_child d a) → AreSlotsAt options above low (t ∷ ts) (with_child e b)
    → SameElements (names_in (entries_of_slots (s ∷ ss) (with_child d a)))
    (names_in (entries_of_slots (t ∷ ts) (with_child e b))) → s.slot ≡ t.slot
first_slot laws options above low s t ss ts d e a b h k same = elim (cases_order s.slot t.slot) [
  | inl equal ↦ equal
  | inr (inl below) ↦ absurd (not_before laws options above low s t ss ts d e a b h k (λ n m. (same n).0 m) below)
  | inr (inr over) ↦ absurd (not_before laws options above low t s ts ss e d b a k h (λ n m. (same n).1 m) over)
]

-- a first slot that isn't there has no name
not_more : (options : LayoutOptions) (above : List ℕ) (low : ℕ) (s : Slot) (ss : List Slot) (d : Dag) (a : Children)
    → AreSlotsAt options above low (s ∷ ss) (with_child d a)
    → ((name : List ℕ) → Among name (names_in (entries_of_slots (s ∷ ss) (with_child d a))) → ⊥) → ⊥
not_more options above low s ss d a h none =
    let some = slot_some options (above ++ s.slot ∷ []) s.name d (first_at options above low s ss d a h) in
    none some.0 (subst (Among some.0) (sym (names_split s ss d a))
    (among_left some.0 (slot_names s.name d) (names_in (entries_of_slots ss a)) some.1))

-- ---- a directory in one block and a shard

not_both : (laws : DirLaws) (options : LayoutOptions) (s t : Section) (es : List Entry) (ts : List Slot)
    (a b : Children) (tree : Tree) → IsAt options top (node s (Basic es) a) → IsAt options top (node t (Shard ts) b)
    → HasNamesOf (named_children es a) tree → HasNamesOf (entries_of_slots ts b) tree → ⊥
not_both laws options s t es ts a b tree h k p q =
    let same = same_names (named_children es a) (entries_of_slots ts b) tree p q in
    let light : weight_of (named_children es a) ≤ options.shard = h.laid.0 in
    let heavy : options.shard < weight_of (entries_of_slots ts b) = k.laid.0 in
    let left = basic_weight laws.texts options (map (λ e. top) es) (map (λ e. e.name) es) es a h.laid.2.links
    (entries_at options s es a h) h.laid.2.links_are in
    let right = shard_weight laws.texts laws.faultless options t ts b k in
    let most = total_most name_weight (names_in (entries_of_slots ts b)) (names_in (named_children es a))
    (slots_distinct laws.faultless options b ts [] 0 (shard_at laws.faultless options top t ts b k))
    (λ name m. (same name).1 m) in
    omega (arith, light, heavy, left, right, most)

-- ---- all

link_same : (s t : Slot) → s.slot ≡ t.slot → s.name ≡ t.name → link_name s ≡ link_name t
link_same s t number name = ap₂ (λ (n : ℕ) (own : Option (List ℕ)). slot_digits n ++ unwrap_or own []) number name

mutual
  pub same_top : (laws : DirLaws) (options : LayoutOptions) (d e : Dag) (tree : Tree) → IsAt options top d
      → IsAt options top e → Shows d tree → Shows e tree → d ≡ e
  same_top laws options (unopened cid) e tree h k p q = absurd p
  same_top laws options (bare section fault) e tree h k p q = absurd p
  same_top laws options (node s Raw a) e tree h k p q =
      let own = file_shown options (node s Raw a) tree s.block h p p in
      let other = file_shown options e tree s.block k q p in
      same_files laws.texts options (node s Raw a) e own.0 other.0 (own.1 ∙ sym other.1)
  same_top laws options (node s (File inline filesize parts) a) e tree h k p q =
      let own = file_shown options (node s (File inline filesize parts) a) tree
      (content (node s (File inline filesize parts) a)) h p p in
      let other = file_shown options e tree (content (node s (File inline filesize parts) a)) k q p in
      same_files laws.texts options (node s (File inline filesize parts) a) e own.0 other.0 (own.1 ∙ sym other.1)
  same_top laws options (node s (Symlink target) a) e tree h k p q = absurd h.laid
  same_top laws options (node s (Basic es) a) (unopened cid) tree h k p q = absurd q
  same_top laws options (node s (Basic es) a) (bare section fault) tree h k p q = absurd q
  same_top laws options (node s (Basic es) a) (node t Raw b) tree h k p q = absurd
      (not_folder tree t.block q p.0.folder)
  same_top laws options (node s (Basic es) a) (node t (File inline filesize parts) b) tree h k p q =
      absurd (not_folder tree (content (node t (File inline filesize parts) b)) q p.0.folder)
  same_top laws options (node s (Basic es) a) (node t (Symlink target) b) tree h k p q = absurd k.laid
  same_top laws options (node s (Basic es) a) (node t (Shard ts) b) tree h k p q = absurd
      (not_both laws options s t es ts a b tree h k p.0 q.0)
  same_top laws options (node s (Basic es) a) (node t (Basic fs) b) tree h k p q =
      let names = basic_names options s t es fs a b tree h k p.0 q.0 in
      same_basic laws.texts options s t es fs a b h k names
      (same_entries laws options a b es fs tree (entries_at options s es a h) (entries_at options t fs b k)
      h.checked.0.links k.checked.0.links names p.1 q.1)
  same_top laws options (node s (Shard ss) a) (unopened cid) tree h k p q = absurd q
  same_top laws options (node s (Shard ss) a) (bare section fault) tree h k p q = absurd q
  same_top laws options (node s (Shard ss) a) (node t Raw b) tree h k p q = absurd
      (not_folder tree t.block q p.0.folder)
  same_top laws options (node s (Shard ss) a) (node t (File inline filesize parts) b) tree h k p q =
      absurd (not_folder tree (content (node t (File inline filesize parts) b)) q p.0.folder)
  same_top laws options (node s (Shard ss) a) (node t (Symlink target) b) tree h k p q = absurd k.laid
  same_top laws options (node s (Shard ss) a) (node t (Basic fs) b) tree h k p q = absurd
      (not_both laws options t s fs ss b a tree k h q.0 p.0)
  same_top laws options (node s (Shard ss) a) (node t (Shard ts) b) tree h k p q =
      same_shard laws options top s t ss ts a b h k
      (same_slots laws options a b ss ts [] 0 tree (shard_at laws.faultless options top s ss a h)
      (shard_at laws.faultless options top t ts b k) p.1 q.1
      (same_names (entries_of_slots ss a) (entries_of_slots ts b) tree p.0 q.0))

  same_entries : (laws : DirLaws) (options : LayoutOptions) (a b : Children) (es fs : List Entry) (tree : Tree)
      → AreAt options (map (λ e. top) es) a → AreAt options (map (λ e. top) fs) b
      → root_cids a ≡ map (λ e. e.cid) es → root_cids b ≡ map (λ e. e.cid) fs
      → map (λ e. e.name) es ≡ map (λ e. e.name) fs → EntriesShow es a tree → EntriesShow fs b tree → a ≡ b
  same_entries laws options no_child no_child es fs tree h k left right names p q = refl
  same_entries laws options no_child (with_child e b) [] [] tree h k left right names p q = absurd k
  same_entries laws options no_child (with_child e b) [] (y ∷ fs) tree h k left right names p q = absurd (cc)
  same_entries laws options no_child (with_child e b) (x ∷ es) fs tree h k left right names p q = absurd (cc)
  same_entries laws options (with_child d a) no_child [] fs tree h k left right names p q = absurd h
  same_entries laws options (with_child d a) no_child (x ∷ es) [] tree h k left right names p q = absurd (cc)
  same_entries laws options (with_child d a) no_child (x ∷ es) (y ∷ fs) tree h k left right names p q = absurd (cc)
  same_entries laws options (with_child d a) (with_child e b) [] fs tree h k left right names p q = absurd h
  same_entries laws options (with_child d a) (with_child e b) (x ∷ es) [] tree h k left right names p q = absurd k
  same_entries laws options (with_child d a) (with_child e b) (x ∷ es) (y ∷ fs) tree h k left right names p q =
      let name : x.name ≡ y.name = cc in
      let behind : map (λ e. e.name) es ≡ map (λ e. e.name) fs = cc in
      let left_behind : root_cids a ≡ map (λ e. e.cid) es = cc in
      let right_behind : root_cids b ≡ map (λ e. e.cid) fs = cc in
      let both : Some q.0.0 ≡ Some p.0.0 = sym q.0.1 ∙ ap (tree_child tree) (sym name) ∙ p.0.1 in
      let below = tree_is q.0.0 p.0.0 both in
      ap₂ with_child (same_top laws options d e p.0.0 h.0 k.0 p.0.2 (subst (λ t. Shows e t) below q.0.2))
      (same_entries laws options a b es fs tree h.1 k.1 left_behind right_behind behind p.1 q.1)

  same_inside : (laws : DirLaws) (options : LayoutOptions) (d e : Dag) (slots : List ℕ) (tree : Tree)
      → IsAt options (child slots) d → IsAt options (child slots) e
      → ShowsInside d tree → ShowsInside e tree → SameElements (names_in (entries d)) (names_in (entries e)) → d ≡ e
  same_inside laws options (unopened cid) e slots tree h k p q same = absurd p
  same_inside laws options (bare section fault) e slots tree h k p q same = absurd p
  same_inside laws options (node s Raw a) e slots tree h k p q same = absurd p
  same_inside laws options (node s (File inline filesize parts) a) e slots tree h k p q same = absurd p
  same_inside laws options (node s (Basic es) a) e slots tree h k p q same = absurd p
  same_inside laws options (node s (Symlink target) a) e slots tree h k p q same = absurd p
  same_inside laws options (node s (Shard ss) a) (unopened cid) slots tree h k p q same = absurd q
  same_inside laws options (node s (Shard ss) a) (bare section fault) slots tree h k p q same = absurd q
  same_inside laws options (node s (Shard ss) a) (node t Raw b) slots tree h k p q same = absurd q
  same_inside laws options (node s (Shard ss) a) (node t (File inline filesize parts) b) slots tree h k p q same =
      absurd q
  same_inside laws options (node s (Shard ss) a) (node t (Basic fs) b) slots tree h k p q same = absurd q
  same_inside laws options (node s (Shard ss) a) (node t (Symlink target) b) slots tree h k p q same = absurd q
  same_inside laws options (node s (Shard ss) a) (node t (Shard ts) b) slots tree h k p q same =
      same_shard laws options (child slots) s t ss ts a b h k
      (same_slots laws options a b ss ts slots 0 tree (shard_at laws.faultless options (child slots) s ss a h)
      (shard_at laws.faultless options (child slots) t ts b k) p q same)

  same_slots : (laws : DirLaws) (options : LayoutOptions) (a b : Children) (ss ts : List Slot) (above : List ℕ)
      (low : ℕ) (tree : Tree)
      → AreSlotsAt options above low ss a → AreSlotsAt options above low ts b → SlotsShow ss a tree
      → SlotsShow ts b tree
      → SameElements (names_in (entries_of_slots ss a)) (names_in (entries_of_slots ts b)) → SameSlots ss ts a b
  same_slots laws options no_child no_child [] [] above low tree h k p q same = record
      { names = refl; numbers = refl; children = refl }
  same_slots laws options no_child b (s ∷ ss) ts above low tree h k p q same = let e = h.linked in absurd (cc)
  same_slots laws options a no_child ss (t ∷ ts) above low tree h k p q same = let e = k.linked in absurd (cc)
  same_slots laws options (with_child d a) b [] ts above low tree h k p q same = absurd h.checked
  same_slots laws options a (with_child e b) ss [] above low tree h k p q same = absurd k.checked
  same_slots laws options no_child (with_child e b) [] (t ∷ ts) above low tree h k p q same = absurd
      (not_more options above low t ts e b k (λ n m. (same n).1 m))
  same_slots laws options (with_child d a) no_child (s ∷ ss) [] above low tree h k p q same = absurd
      (not_more options above low s ss d a h (λ n m. (same n).0 m))
  same_slots laws options (with_child d a) (with_child e b) (s ∷ ss) (t ∷ ts) above low tree h k p q same =
      let number = first_slot laws options above low s t ss ts d e a b h k same in
      let split = splits laws options above low s t ss ts d e a b h k same number in
      let own = first_at options above low s ss d a h in
      let other : IsAt options (position_by_name (above ++ s.slot ∷ []) t.name) e =
      subst (λ (n : ℕ). IsAt options (position_by_name (above ++ n ∷ []) t.name) e) (sym number)
      (first_at options above low t ts e b k) in
      let first = same_slot laws options d e (above ++ s.slot ∷ []) s.name t.name tree own other p.0 q.0 split.first
      (λ below x y u v. same_top laws options d e below x y u v)
      (λ x y u v w. same_inside laws options d e (above ++ s.slot ∷ []) tree x y u v w) in
      let rest_other : AreSlotsAt options above (s.slot + 1) ts b = subst
      (λ (n : ℕ). AreSlotsAt options above (n + 1) ts b) (sym number) (rest_at options above low t ts e b k) in
      let rest = same_slots laws options a b ss ts above (s.slot + 1) tree (rest_at options above low s ss d a h)
      rest_other p.1 q.1 split.rest in
      record {
        names = ap₂ (λ (x : List ℕ) (xs : List (List ℕ)). x ∷ xs) (link_same s t number first.0) rest.names;
        numbers = ap₂ (λ (x : ℕ) (xs : List ℕ). x ∷ xs) number rest.numbers;
        children = ap₂ with_child first.1 rest.children;
      }
