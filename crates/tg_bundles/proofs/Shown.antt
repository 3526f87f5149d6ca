-- The records of a DAG are just what stands in the tree that it shows.
use Rattle.std.proofs.Common.{All, Contains, List, None, Option, Some, [], ap, append_assoc, append-nil, inl, inr, refl, subst, sym, ℕ, ◌++◌, ◌∙◌, ◌∷◌, ◌≡◌}
use Rattle.std.proofs.lemmas.List.Elements.{All-append, All-cons, All-contains, All-nil, All-weaker, Contains-append_left, Contains-append_right}
use Rattle.std.specs.Map.{lookup}
use Rattle.std.specs.Prelude.{bytes_eq, option_and_then, option_map}
use Rattle.tg_bundles.proofs.Members.{first_one, found_key, name_cases, names_in, none_in, one_of, other_one}
use Rattle.tg_bundles.specs.Laws.{RecordsAreTree, target_at}
use Rattle.tg_bundles.specs.Records.{Record, file, folder, link, records_inside, records_of, records_of_entries, records_of_slots, slot_records}
use Rattle.tg_model.specs.Content.{DirEntry, content, entries, entries_of_slots, named_children, slot_entries}
use Rattle.tg_model.specs.Dag.{Children, Dag, bare, no_child, node, unopened, with_child}
use Rattle.tg_model.specs.ShowsTree.{EntriesShow, HasNamesOf, Shows, ShowsInside, SlotShows, SlotsShow, target_of, target_within}
use Rattle.tg_model.specs.declared.kinds.Entry.{Entry}
use Rattle.tg_model.specs.declared.kinds.Kind.TheVariants.{Basic, File, Raw, Shard, Symlink}
use Rattle.tg_model.specs.declared.kinds.Slot.{Slot}
use Rattle.tg_tree.specs.Tree.{HasFolderAt, below, bytes_of, bytes_within, child, entries_of, entries_within, sort_of, sort_within, tree_at}
use Rattle.tg_tree.specs.declared.items.Sort.TheVariants as sorts
use Rattle.tg_tree.specs.declared.tree.Tree.TheOpen as trees
use Rattle.tg_tree.specs.declared.tree.Tree.{Tree, Tree-F, out-Tree}

-- ---- the record of what stands at a path

abbrev record_within : List (List ℕ) → Tree-F Tree → Option Record
record_within path (trees.File bytes) = Some (file path bytes)
record_within path (trees.Folder entries) = Some (folder path)
record_within path (trees.Symlink target) = Some (link path target)
record_within path trees.Other = None

abbrev record_at : List (List ℕ) → Tree → Option Record
record_at path tree = record_within path (out-Tree tree)

file_stands : (path : List (List ℕ)) (o : Tree-F Tree) (bytes : List ℕ) → bytes_within o ≡ Some bytes → record_within path o ≡ Some (file path bytes)
file_stands path (trees.File held) bytes h = let same : held ≡ bytes = cc h in ap (λ (b : List ℕ). Some (file path b)) same
file_stands path (trees.Folder entries) bytes h = absurd (cc h)
file_stands path (trees.Symlink target) bytes h = absurd (cc h)
file_stands path trees.Other bytes h = absurd (cc h)

folder_stands : (path : List (List ℕ)) (o : Tree-F Tree) → sort_within o ≡ sorts.Folder → record_within path o ≡ Some (folder path)
folder_stands path (trees.File held) h = absurd (cc h)
folder_stands path (trees.Folder entries) h = refl
folder_stands path (trees.Symlink target) h = absurd (cc h)
folder_stands path trees.Other h = absurd (cc h)

link_stands : (path : List (List ℕ)) (o : Tree-F Tree) (target : List ℕ) → target_within o ≡ Some target → record_within path o ≡ Some (link path target)
link_stands path (trees.File held) target h = absurd (cc h)
link_stands path (trees.Folder entries) target h = absurd (cc h)
link_stands path (trees.Symlink held) target h = let same : held ≡ target = cc h in ap (λ (t : List ℕ). Some (link path t)) same
link_stands path trees.Other target h = absurd (cc h)

-- and what stands there by its record
is_file : (q path : List (List ℕ)) (o : Tree-F Tree) (bytes : List ℕ) → record_within q o ≡ Some (file path bytes) → (q ≡ path) × (bytes_within o ≡ Some bytes)
is_file q path (trees.File held) bytes h = let same : held ≡ bytes = cc h in (cc h, ap (λ (b : List ℕ). Some b) same)
is_file q path (trees.Folder entries) bytes h = absurd (cc h)
is_file q path (trees.Symlink target) bytes h = absurd (cc h)
is_file q path trees.Other bytes h = absurd (cc h)

is_folder : (q path : List (List ℕ)) (o : Tree-F Tree) → record_within q o ≡ Some (folder path) → (q ≡ path) × (sort_within o ≡ sorts.Folder)
is_folder q path (trees.File held) h = absurd (cc h)
is_folder q path (trees.Folder entries) h = (cc h, refl)
is_folder q path (trees.Symlink target) h = absurd (cc h)
is_folder q path trees.Other h = absurd (cc h)

is_link : (q path : List (List ℕ)) (o : Tree-F Tree) (target : List ℕ) → record_within q o ≡ Some (link path target) → (q ≡ path) × (target_within o ≡ Some target)
is_link q path (trees.File held) target h = absurd (cc h)
is_link q path (trees.Folder entries) target h = absurd (cc h)
is_link q path (trees.Symlink held) target h = let same : held ≡ target = cc h in (cc h, ap (λ (t : List ℕ). Some t) same)
is_link q path trees.Other target h = absurd (cc h)

-- a file and a symbolic link have no entries
file_entries : (o : Tree-F Tree) (bytes : List ℕ) → bytes_within o ≡ Some bytes → entries_within o ≡ []
file_entries (trees.File held) bytes h = refl
file_entries (trees.Folder entries) bytes h = absurd (cc h)
file_entries (trees.Symlink target) bytes h = refl
file_entries trees.Other bytes h = refl

link_entries : (o : Tree-F Tree) (target : List ℕ) → target_within o ≡ Some target → entries_within o ≡ []
link_entries (trees.File held) target h = refl
link_entries (trees.Folder entries) target h = absurd (cc h)
link_entries (trees.Symlink held) target h = refl
link_entries trees.Other target h = refl

-- ---- each record is of what stands in the tree

abbrev IsBelow : List (List ℕ) → Tree → Record → Type 0
IsBelow path tree r = (q : List (List ℕ)) × (b : Tree) × (below tree q ≡ Some b) × (record_at (path ++ q) b ≡ Some r)

here : (path : List (List ℕ)) (tree : Tree) (r : Record) → record_at path tree ≡ Some r → IsBelow path tree r
here path tree r h = ([], tree, refl, ap (λ (p : List (List ℕ)). record_at p tree) (append-nil path) ∙ h)

under : (path : List (List ℕ)) (tree : Tree) (name : List ℕ) (c : Tree) → child tree name ≡ Some c → (r : Record) → IsBelow (path ++ name ∷ []) c r → IsBelow path tree r
under path tree name c is r (q, b, at, stands) = (
  name ∷ q,
  b,
  ap (λ (o : Option Tree). option_and_then (λ found. below found q) o) is ∙ at,
  ap (λ (p : List (List ℕ)). record_at p b) (sym (append_assoc path (name ∷ []) q)) ∙ stands,
)

abbrev AreBelow : List (List ℕ) → Tree → List Record → Type 0
AreBelow path tree records = All (IsBelow path tree) records

alone : (path : List (List ℕ)) (tree : Tree) (r : Record) → record_at path tree ≡ Some r → AreBelow path tree (r ∷ [])
alone path tree r h = All-cons (IsBelow path tree) r [] (here path tree r h) (All-nil (IsBelow path tree))

entry_below : (path : List (List ℕ)) (tree : Tree) (name : List ℕ) (d : Dag)
    → ((own : List (List ℕ)) (c : Tree) → Shows d c → AreBelow own c (records_of own d))
    → (c : Tree) × (child tree name ≡ Some c) × Shows d c → AreBelow path tree (records_of (path ++ name ∷ []) d)
entry_below path tree name d on (c, is, shown) =
    All-weaker (IsBelow (path ++ name ∷ []) c) (IsBelow path tree) (under path tree name c is) (records_of (path ++ name ∷ []) d) (on (path ++ name ∷ []) c shown)

slot_below : (path : List (List ℕ)) (tree : Tree) (name : Option (List ℕ)) (d : Dag)
    → ((own : List (List ℕ)) (c : Tree) → Shows d c → AreBelow own c (records_of own d))
    → (ShowsInside d tree → AreBelow path tree (records_inside path d))
    → SlotShows (λ n. (c : Tree) × (child tree n ≡ Some c) × Shows d c) (ShowsInside d tree) name
    → AreBelow path tree (slot_records (λ n. records_of (path ++ n ∷ []) d) (records_inside path d) name)
slot_below path tree (Some name) d on inside h = entry_below path tree name d on h
slot_below path tree None d on inside h = inside h

mutual
  all_below : (d : Dag) (path : List (List ℕ)) (tree : Tree) → Shows d tree → AreBelow path tree (records_of path d)
  all_below (unopened cid) path tree h = absurd h
  all_below (bare section fault) path tree h = absurd h
  all_below (node section Raw children) path tree h = alone path tree (file path section.block) (file_stands path (out-Tree tree) section.block h)
  all_below (node section (File inline filesize parts) children) path tree h =
      alone path tree (file path (content (node section (File inline filesize parts) children)))
      (file_stands path (out-Tree tree) (content (node section (File inline filesize parts) children)) h)
  all_below (node section (Basic es) children) path tree h =
      All-append (IsBelow path tree) (folder path ∷ []) (records_of_entries path es children)
      (alone path tree (folder path) (folder_stands path (out-Tree tree) h.0.folder)) (entries_below es children path tree h.1)
  all_below (node section (Shard slots) children) path tree h =
      All-append (IsBelow path tree) (folder path ∷ []) (records_of_slots path slots children)
      (alone path tree (folder path) (folder_stands path (out-Tree tree) h.0.folder)) (slots_below slots children path tree h.1)
  all_below (node section (Symlink target) children) path tree h = alone path tree (link path target) (link_stands path (out-Tree tree) target h)

  entries_below : (es : List Entry) (children : Children) (path : List (List ℕ)) (tree : Tree) → EntriesShow es children tree → AreBelow path tree (records_of_entries path es children)
  entries_below es no_child path tree h = All-nil (IsBelow path tree)
  entries_below [] (with_child d children) path tree h = All-nil (IsBelow path tree)
  entries_below (entry ∷ es) (with_child d children) path tree h =
      All-append (IsBelow path tree) (records_of (path ++ entry.name ∷ []) d) (records_of_entries path es children)
      (entry_below path tree entry.name d (λ own c shown. all_below d own c shown) h.0) (entries_below es children path tree h.1)

  slots_below : (slots : List Slot) (children : Children) (path : List (List ℕ)) (tree : Tree) → SlotsShow slots children tree → AreBelow path tree (records_of_slots path slots children)
  slots_below slots no_child path tree h = All-nil (IsBelow path tree)
  slots_below [] (with_child d children) path tree h = All-nil (IsBelow path tree)
  slots_below (slot ∷ slots) (with_child d children) path tree h =
      All-append (IsBelow path tree) (slot_records (λ name. records_of (path ++ name ∷ []) d) (records_inside path d) slot.name) (records_of_slots path slots children)
      (slot_below path tree slot.name d (λ own c shown. all_below d own c shown) (λ s. inside_below d path tree s) h.0) (slots_below slots children path tree h.1)

  inside_below : (d : Dag) (path : List (List ℕ)) (tree : Tree) → ShowsInside d tree → AreBelow path tree (records_inside path d)
  inside_below (unopened cid) path tree h = absurd h
  inside_below (bare section fault) path tree h = absurd h
  inside_below (node section Raw children) path tree h = absurd h
  inside_below (node section (File inline filesize parts) children) path tree h = absurd h
  inside_below (node section (Basic es) children) path tree h = absurd h
  inside_below (node section (Shard slots) children) path tree h = slots_below slots children path tree h
  inside_below (node section (Symlink target) children) path tree h = absurd h

-- ---- and what stands there has its record

abbrev HaveAll : List (List ℕ) → Tree → List Record → Type 0
HaveAll path tree records = (q : List (List ℕ)) (b : Tree) (r : Record) → below tree q ≡ Some b → record_at (path ++ q) b ≡ Some r → Contains records r

-- what stands at the top
have_top : (path : List (List ℕ)) (tree b : Tree) (s r : Record) (rest : List Record) → record_at path tree ≡ Some s → below tree [] ≡ Some b → record_at (path ++ []) b ≡ Some r
    → Contains (s ∷ rest) r
have_top path tree b s r rest top at stands =
    let same : tree ≡ b = cc at in
    let both : Some s ≡ Some r =
    sym top ∙ (ap (record_at path) same ∙ (sym (ap (λ (p : List (List ℕ)). record_at p b) (append-nil path)) ∙ stands))
    in
    let one : s ≡ r = cc both in
    subst (Contains (s ∷ rest)) one (first_one s rest)

-- where nothing stands below
have_leaf : (path : List (List ℕ)) (tree : Tree) (s : Record) → record_at path tree ≡ Some s → entries_of tree ≡ [] → HaveAll path tree (s ∷ [])
have_leaf path tree s top none [] b r at stands = have_top path tree b s r [] top at stands
have_leaf path tree s top none (name ∷ q) b r at stands =
    let nowhere : None ≡ Some b = sym (ap (λ (es : List (List ℕ × Tree)). option_and_then (λ found. below found q) (lookup (bytes_eq name) es)) none) ∙ at in
    absurd (cc nowhere)

-- below a folder, by what stands under each name
first_step : (o : Option Tree) (q : List (List ℕ)) (b : Tree) → option_and_then (λ found. below found q) o ≡ Some b → (c : Tree) × (o ≡ Some c) × (below c q ≡ Some b)
first_step None q b h = absurd (cc h)
first_step (Some c) q b h = (c, refl, h)

abbrev HaveNamed : List (List ℕ) → Tree → List DirEntry → List Record → Type 0
HaveNamed path tree listed records = (name : List ℕ) (c : Tree) → child tree name ≡ Some c → Contains (names_in listed) name → HaveAll (path ++ name ∷ []) c records

have_folder : (path : List (List ℕ)) (tree : Tree) (listed : List DirEntry) (records : List Record) → HasNamesOf listed tree → HaveNamed path tree listed records
    → HaveAll path tree (folder path ∷ records)
have_folder path tree listed records names named [] b r at stands =
    have_top path tree b (folder path) r records (folder_stands path (out-Tree tree) names.folder) at stands
have_folder path tree listed records names named (name ∷ q) b r at stands =
    let (c, is, rest) = first_step (child tree name) q b at in
    other_one (folder path) r records
    (named name c is ((names.names name).1 (found_key (entries_of tree) name c is)) q b r rest
    (ap (λ (p : List (List ℕ)). record_at p b) (append_assoc path (name ∷ []) q) ∙ stands))

have_left : (path : List (List ℕ)) (tree : Tree) (a b : List Record) → HaveAll path tree a → HaveAll path tree (a ++ b)
have_left path tree a b h q t r at stands = Contains-append_left a b r (h q t r at stands)

have_right : (path : List (List ℕ)) (tree : Tree) (a b : List Record) → HaveAll path tree b → HaveAll path tree (a ++ b)
have_right path tree a b h q t r at stands = Contains-append_right a b r (h q t r at stands)

-- the entry of a name
entry_has : (path : List (List ℕ)) (tree : Tree) (own : List ℕ) (d : Dag)
    → ((p : List (List ℕ)) (c : Tree) → Shows d c → HaveAll p c (records_of p d))
    → (c : Tree) × (child tree own ≡ Some c) × Shows d c
    → (name : List ℕ) (c : Tree) → child tree name ≡ Some c → own ≡ name → HaveAll (path ++ name ∷ []) c (records_of (path ++ own ∷ []) d)
entry_has path tree own d on (b, shown_is, shown) name c is same =
    let both : Some b ≡ Some c = sym shown_is ∙ (ap (child tree) same ∙ is) in
    let one : b ≡ c = cc both in
    subst (λ (n : List ℕ). HaveAll (path ++ n ∷ []) c (records_of (path ++ own ∷ []) d)) same
    (subst (λ (t : Tree). HaveAll (path ++ own ∷ []) t (records_of (path ++ own ∷ []) d)) one (on (path ++ own ∷ []) b shown))

slot_has : (path : List (List ℕ)) (tree : Tree) (own : Option (List ℕ)) (d : Dag)
    → ((p : List (List ℕ)) (c : Tree) → Shows d c → HaveAll p c (records_of p d))
    → (ShowsInside d tree → HaveNamed path tree (entries d) (records_inside path d))
    → SlotShows (λ n. (c : Tree) × (child tree n ≡ Some c) × Shows d c) (ShowsInside d tree) own
    → HaveNamed path tree (slot_entries own d (entries d)) (slot_records (λ n. records_of (path ++ n ∷ []) d) (records_inside path d) own)
slot_has path tree (Some own) d on inside h name c is among = elim (one_of own name [] among) [
  | inl same ↦ entry_has path tree own d on h name c is same
  | inr none ↦ absurd (none_in name none)
]
slot_has path tree None d on inside h name c is among = inside h name c is among

mutual
  have_all : (d : Dag) (path : List (List ℕ)) (tree : Tree) → Shows d tree → HaveAll path tree (records_of path d)
  have_all (unopened cid) path tree h = absurd h
  have_all (bare section fault) path tree h = absurd h
  have_all (node section Raw children) path tree h =
      have_leaf path tree (file path section.block) (file_stands path (out-Tree tree) section.block h) (file_entries (out-Tree tree) section.block h)
  have_all (node section (File inline filesize parts) children) path tree h =
      let bytes = content (node section (File inline filesize parts) children) in
      have_leaf path tree (file path bytes) (file_stands path (out-Tree tree) bytes h) (file_entries (out-Tree tree) bytes h)
  have_all (node section (Basic es) children) path tree h =
      have_folder path tree (named_children es children) (records_of_entries path es children) h.0 (entries_have es children path tree h.1)
  have_all (node section (Shard slots) children) path tree h =
      have_folder path tree (entries_of_slots slots children) (records_of_slots path slots children) h.0 (slots_have slots children path tree h.1)
  have_all (node section (Symlink target) children) path tree h =
      have_leaf path tree (link path target) (link_stands path (out-Tree tree) target h) (link_entries (out-Tree tree) target h)

  entries_have : (es : List Entry) (children : Children) (path : List (List ℕ)) (tree : Tree) → EntriesShow es children tree
      → HaveNamed path tree (named_children es children) (records_of_entries path es children)
  entries_have es no_child path tree h name c is among = absurd (none_in name among)
  entries_have [] (with_child d children) path tree h name c is among = absurd (none_in name among)
  entries_have (entry ∷ es) (with_child d children) path tree h name c is among =
      elim (one_of entry.name name (names_in (named_children es children)) among) [
        | inl same ↦ have_left (path ++ name ∷ []) c (records_of (path ++ entry.name ∷ []) d) (records_of_entries path es children)
            (entry_has path tree entry.name d (λ p b shown. have_all d p b shown) h.0 name c is same)
        | inr behind ↦ have_right (path ++ name ∷ []) c (records_of (path ++ entry.name ∷ []) d) (records_of_entries path es children)
            (entries_have es children path tree h.1 name c is behind)
      ]

  slots_have : (slots : List Slot) (children : Children) (path : List (List ℕ)) (tree : Tree) → SlotsShow slots children tree
      → HaveNamed path tree (entries_of_slots slots children) (records_of_slots path slots children)
  slots_have slots no_child path tree h name c is among = absurd (none_in name among)
  slots_have [] (with_child d children) path tree h name c is among = absurd (none_in name among)
  slots_have (slot ∷ slots) (with_child d children) path tree h name c is among =
      let own = slot_records (λ n. records_of (path ++ n ∷ []) d) (records_inside path d) slot.name in
      elim (name_cases (slot_entries slot.name d (entries d)) (entries_of_slots slots children) name among) [
        | inl first ↦ have_left (path ++ name ∷ []) c own (records_of_slots path slots children)
            (slot_has path tree slot.name d (λ p b shown. have_all d p b shown) (λ s. inside_has d path tree s) h.0 name c is first)
        | inr behind ↦ have_right (path ++ name ∷ []) c own (records_of_slots path slots children)
            (slots_have slots children path tree h.1 name c is behind)
      ]

  inside_has : (d : Dag) (path : List (List ℕ)) (tree : Tree) → ShowsInside d tree → HaveNamed path tree (entries d) (records_inside path d)
  inside_has (unopened cid) path tree h = absurd h
  inside_has (bare section fault) path tree h = absurd h
  inside_has (node section Raw children) path tree h = absurd h
  inside_has (node section (File inline filesize parts) children) path tree h = absurd h
  inside_has (node section (Basic es) children) path tree h = absurd h
  inside_has (node section (Shard slots) children) path tree h = slots_have slots children path tree h
  inside_has (node section (Symlink target) children) path tree h = absurd h

-- ---- both together

sort_there : (o : Option Tree) → option_map sort_of o ≡ Some sorts.Folder → (b : Tree) × (o ≡ Some b) × (sort_of b ≡ sorts.Folder)
sort_there None h = absurd (cc h)
sort_there (Some b) h = (b, refl, cc h)

bytes_there : (o : Option Tree) (bytes : List ℕ) → bytes_of o ≡ Some bytes → (b : Tree) × (o ≡ Some b) × (bytes_of (Some b) ≡ Some bytes)
bytes_there None bytes h = absurd (cc h)
bytes_there (Some b) bytes h = (b, refl, h)

target_there : (o : Option Tree) (target : List ℕ) → option_and_then target_of o ≡ Some target → (b : Tree) × (o ≡ Some b) × (target_of b ≡ Some target)
target_there None target h = absurd (cc h)
target_there (Some b) target h = (b, refl, h)

module _ (d : Dag) (tree : Tree) (shown : Shows d tree) where
  record_below : (r : Record) → Contains (records_of [] d) r → IsBelow [] tree r
  record_below r c = All-contains (IsBelow [] tree) (records_of [] d) r (all_below d [] tree shown) c

  folder_to : (path : List (List ℕ)) → Contains (records_of [] d) (folder path) → HasFolderAt (Some tree) path
  folder_to path c =
      let (q, b, at, stands) = record_below (folder path) c in
      let (same, sort) = is_folder q path (out-Tree b) stands in
      ap (λ (p : List (List ℕ)). option_map sort_of (below tree p)) (sym same) ∙ (ap (option_map sort_of) at ∙ ap (λ (s : _). Some s) sort)

  folder_from : (path : List (List ℕ)) → HasFolderAt (Some tree) path → Contains (records_of [] d) (folder path)
  folder_from path h =
      let (b, at, sort) = sort_there (below tree path) h in
      have_all d [] tree shown path b (folder path) at (folder_stands path (out-Tree b) sort)

  file_to : (path : List (List ℕ)) (bytes : List ℕ) → Contains (records_of [] d) (file path bytes) → bytes_of (tree_at (Some tree) path) ≡ Some bytes
  file_to path bytes c =
      let (q, b, at, stands) = record_below (file path bytes) c in
      let (same, held) = is_file q path (out-Tree b) bytes stands in
      ap (λ (p : List (List ℕ)). bytes_of (below tree p)) (sym same) ∙ (ap bytes_of at ∙ held)

  file_from : (path : List (List ℕ)) (bytes : List ℕ) → bytes_of (tree_at (Some tree) path) ≡ Some bytes → Contains (records_of [] d) (file path bytes)
  file_from path bytes h =
      let (b, at, held) = bytes_there (below tree path) bytes h in
      have_all d [] tree shown path b (file path bytes) at (file_stands path (out-Tree b) bytes held)

  link_to : (path : List (List ℕ)) (target : List ℕ) → Contains (records_of [] d) (link path target) → target_at tree path ≡ Some target
  link_to path target c =
      let (q, b, at, stands) = record_below (link path target) c in
      let (same, held) = is_link q path (out-Tree b) target stands in
      ap (λ (p : List (List ℕ)). option_and_then target_of (below tree p)) (sym same) ∙ (ap (option_and_then target_of) at ∙ held)

  link_from : (path : List (List ℕ)) (target : List ℕ) → target_at tree path ≡ Some target → Contains (records_of [] d) (link path target)
  link_from path target h =
      let (b, at, held) = target_there (below tree path) target h in
      have_all d [] tree shown path b (link path target) at (link_stands path (out-Tree b) target held)

pub records_are_tree : RecordsAreTree
records_are_tree d tree shown = record {
  folders = λ path. (folder_to d tree shown path, folder_from d tree shown path);
  files = λ path bytes. (file_to d tree shown path bytes, file_from d tree shown path bytes);
  links = λ path target. (link_to d tree shown path target, link_from d tree shown path target);
}
