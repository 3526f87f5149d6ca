-- What stands under a name in a directory's DAG that shows a folder.
use Rattle.std.proofs.Common.{All, Bool, Contains, List, None, Option, Some, [], ap, append-nil, cond, false, inl, inr, refl, subst, sym, true, ℕ, ◌+◌, ◌++◌, ◌∙◌, ◌∷◌, ◌≡◌}
use Rattle.std.proofs.lemmas.List.Elements.{All-append, All-cons, All-contains, All-nil}
use Rattle.std.proofs.lemmas.Slice.Eq.{bytes_eq-Decides}
use Rattle.std.specs.Map.{keys_of, lookup}
use Rattle.std.specs.Prelude.{bytes_eq, map}
use Rattle.tg_audit.proofs.Members.{first_one, none_in, one_of, other_one}
use Rattle.tg_audit.proofs.Alike.{file_sort, file_target, folder_bytes, folder_target}
use Rattle.tg_draws.specs.Trees.{IsFileOf}
use Rattle.tg_model.specs.Answer.{content_text, entity_text}
use Rattle.tg_model.specs.Content.{DirEntry, content, content_of_children, entries, entries_of_slots, named_children, slot_entries}
use Rattle.tg_model.specs.Dag.{Children, Dag, bare, no_child, node, unopened, with_child}
use Rattle.tg_model.specs.ImportLayout.{AreLaidAt, IsLaidAt, LayoutOptions}
use Rattle.tg_model.specs.Lookup.{entry_named, is_directory, lookup_from, not_there}
use Rattle.tg_model.specs.Queries.{SpanParts}
use Rattle.tg_model.specs.ShowsTree.{EntriesShow, HasNamesOf, Shows, ShowsInside, SlotShows, SlotsShow, target_of}
use Rattle.tg_model.specs.Sound.{Position, child as child_position, passed, position_by_name, slot_position, top}
use Rattle.tg_model.specs.declared.kinds.Entry.{Entry}
use Rattle.tg_model.specs.declared.kinds.Kind.TheVariants.{Basic, File, Raw, Shard, Symlink}
use Rattle.tg_model.specs.declared.kinds.Slot.{Slot}
use Rattle.tg_tree.specs.Tree.{bytes_of, child, entries_of, sort_of}
use Rattle.tg_tree.specs.declared.items.Sort.TheVariants as sorts
use Rattle.tg_tree.specs.declared.tree.Tree.{Tree, out-Tree}

-- ---- each entry shows what has its name

abbrev pub IsShownIn : Tree → DirEntry → Type 0
IsShownIn tree e = (below : Tree) × (child tree e.name ≡ Some below) × Shows e.dag below

slot_shown : (name : Option (List ℕ)) (d : Dag) (tree : Tree) → (ShowsInside d tree → All (IsShownIn tree) (entries d))
    → SlotShows (λ name. (below : Tree) × (child tree name ≡ Some below) × Shows d below) (ShowsInside d tree) name → All (IsShownIn tree) (slot_entries name d (entries d))
slot_shown (Some name) d tree inside h = All-cons (IsShownIn tree) (record { name = name; dag = d }) [] h (All-nil (IsShownIn tree))
slot_shown None d tree inside h = inside h

named_shown : (es : List Entry) (children : Children) (tree : Tree) → EntriesShow es children tree → All (IsShownIn tree) (named_children es children)
named_shown es no_child tree h = All-nil (IsShownIn tree)
named_shown [] (with_child d children) tree h = All-nil (IsShownIn tree)
named_shown (entry ∷ es) (with_child d children) tree h =
    All-cons (IsShownIn tree) (record { name = entry.name; dag = d }) (named_children es children) h.0 (named_shown es children tree h.1)

mutual
  slots_shown : (slots : List Slot) (children : Children) (tree : Tree) → SlotsShow slots children tree → All (IsShownIn tree) (entries_of_slots slots children)
  slots_shown slots no_child tree h = All-nil (IsShownIn tree)
  slots_shown [] (with_child d children) tree h = All-nil (IsShownIn tree)
  slots_shown (slot ∷ slots) (with_child d children) tree h =
      All-append (IsShownIn tree) (slot_entries slot.name d (entries d)) (entries_of_slots slots children)
      (slot_shown slot.name d tree (λ s. inside_shown d tree s) h.0) (slots_shown slots children tree h.1)

  inside_shown : (d : Dag) (tree : Tree) → ShowsInside d tree → All (IsShownIn tree) (entries d)
  inside_shown (unopened cid) tree h = absurd h
  inside_shown (bare section fault) tree h = absurd h
  inside_shown (node section Raw children) tree h = absurd h
  inside_shown (node section (File inline filesize parts) children) tree h = absurd h
  inside_shown (node section (Basic es) children) tree h = absurd h
  inside_shown (node section (Shard slots) children) tree h = slots_shown slots children tree h
  inside_shown (node section (Symlink target) children) tree h = absurd h

-- ---- and is laid out as what stands at the top

module _ (options : LayoutOptions) where
  abbrev IsLaidEntry : DirEntry → Type 0
  IsLaidEntry e = IsLaidAt options top e.dag

  named_laid : (es : List Entry) (children : Children) → AreLaidAt options (map (λ e. top) es) children → All IsLaidEntry (named_children es children)
  named_laid es no_child h = All-nil IsLaidEntry
  named_laid [] (with_child d children) h = absurd h
  named_laid (entry ∷ es) (with_child d children) h =
      All-cons IsLaidEntry (record { name = entry.name; dag = d }) (named_children es children) h.0 (named_laid es children h.1)

  slot_laid : (slots : List ℕ) (name : Option (List ℕ)) (d : Dag) → (IsLaidAt options (child_position slots) d → All IsLaidEntry (entries d))
      → IsLaidAt options (position_by_name slots name) d → All IsLaidEntry (slot_entries name d (entries d))
  slot_laid slots (Some name) d inside h = All-cons IsLaidEntry (record { name = name; dag = d }) [] h (All-nil IsLaidEntry)
  slot_laid slots None d inside h = inside h

  mutual
    pub entries_laid : (position : Position) (d : Dag) → IsLaidAt options position d → All IsLaidEntry (entries d)
    entries_laid position (unopened cid) h = All-nil IsLaidEntry
    entries_laid position (bare section fault) h = All-nil IsLaidEntry
    entries_laid position (node section Raw children) h = All-nil IsLaidEntry
    entries_laid position (node section (File inline filesize parts) children) h = All-nil IsLaidEntry
    entries_laid position (node section (Basic es) children) h = named_laid es children h.3
    entries_laid position (node section (Shard slots) children) h = slots_laid (passed position) slots children h.2
    entries_laid position (node section (Symlink target) children) h = All-nil IsLaidEntry

    slots_laid : (above : List ℕ) (slots : List Slot) (children : Children) → AreLaidAt options (map (slot_position above) slots) children → All IsLaidEntry (entries_of_slots slots children)
    slots_laid above slots no_child h = All-nil IsLaidEntry
    slots_laid above [] (with_child d children) h = absurd h
    slots_laid above (slot ∷ slots) (with_child d children) h =
        All-append IsLaidEntry (slot_entries slot.name d (entries d)) (entries_of_slots slots children)
        (slot_laid (above ++ slot.slot ∷ []) slot.name d (λ l. entries_laid (child_position (above ++ slot.slot ∷ [])) d l) h.0) (slots_laid above slots children h.1)

-- ---- the entry of a name

entry_found : (listed : List DirEntry) (name : List ℕ) → Contains (map (λ entry. entry.name) listed) name
    → (e : DirEntry) × Contains listed e × (e.name ≡ name) × (entry_named name listed ≡ Some e.dag)
entry_found [] name h = absurd (none_in name h)
entry_found (x ∷ listed) name h = by (bytes_eq name x.name) refl (λ c. entry_found listed name c)
  where
    by : (b : Bool) → bytes_eq name x.name ≡ b
        → (Contains (map (λ entry. entry.name) listed) name → (e : DirEntry) × Contains listed e × (e.name ≡ name) × (entry_named name listed ≡ Some e.dag))
        → (e : DirEntry) × Contains (x ∷ listed) e × (e.name ≡ name) × (entry_named name (x ∷ listed) ≡ Some e.dag)
    by true is on = (x, first_one x listed, sym ((bytes_eq-Decides name x.name).0 is), rw is refl)
    by false is on =
        let behind : Contains (map (λ entry. entry.name) listed) name = elim (one_of x.name name (map (λ entry. entry.name) listed) h) [
          | inl same ↦ absurd (let no : false ≡ true = sym is ∙ (bytes_eq-Decides name x.name).1 (sym same) in cc no)
          | inr b ↦ b
        ] in
        let (e, among, named, entry) = on behind in
        (e, other_one x e listed among, named, rw is entry)

entry_missing : (listed : List DirEntry) (name : List ℕ) → (Contains (map (λ entry. entry.name) listed) name → ⊥) → entry_named name listed ≡ None
entry_missing [] name h = refl
entry_missing (x ∷ listed) name h =
    by (bytes_eq name x.name) refl (entry_missing listed name (λ c. h (other_one x.name name (map (λ entry. entry.name) listed) c)))
  where
    by : (b : Bool) → bytes_eq name x.name ≡ b → entry_named name listed ≡ None → entry_named name (x ∷ listed) ≡ None
    by true is rest = absurd (h (subst (Contains (map (λ entry. entry.name) (x ∷ listed))) (sym ((bytes_eq-Decides name x.name).0 is)) (first_one x.name (map (λ entry. entry.name) listed))))
    by false is rest = rw is rest

-- a name that is found is one of the names
found_key : (es : List (List ℕ × Tree)) (name : List ℕ) (b : Tree) → lookup (bytes_eq name) es ≡ Some b → Contains (keys_of es) name
found_key [] name b h = absurd (cc h)
found_key (e ∷ es) name b h = by (bytes_eq name e.0) refl h (λ g. found_key es name b g)
  where
    by : (t : Bool) → bytes_eq name e.0 ≡ t → cond t (Some e.1) (lookup (bytes_eq name) es) ≡ Some b → (lookup (bytes_eq name) es ≡ Some b → Contains (keys_of es) name)
        → Contains (keys_of (e ∷ es)) name
    by true is h on = subst (Contains (e.0 ∷ keys_of es)) (sym ((bytes_eq-Decides name e.0).0 is)) (first_one e.0 (keys_of es))
    by false is h on = other_one e.0 name (keys_of es) (on h)

key_found : (es : List (List ℕ × Tree)) (name : List ℕ) → lookup (bytes_eq name) es ≡ None → Contains (keys_of es) name → ⊥
key_found [] name h c = none_in name c
key_found (e ∷ es) name h c = by (bytes_eq name e.0) refl h (λ g d. key_found es name g d)
  where
    by : (t : Bool) → bytes_eq name e.0 ≡ t → cond t (Some e.1) (lookup (bytes_eq name) es) ≡ None → (lookup (bytes_eq name) es ≡ None → Contains (keys_of es) name → ⊥) → ⊥
    by true is h on = cc h
    by false is h on = elim (one_of e.0 name (keys_of es) c) [
      | inl same ↦ (let no : false ≡ true = sym is ∙ (bytes_eq-Decides name e.0).1 (sym same) in cc no)
      | inr b ↦ on h b
    ]

-- ---- a directory that shows a folder

-- a DAG that shows a folder is a directory, whose names are the folder's and whose entries show what has them
pub record IsDirectoryOf (tree : Tree) (d : Dag) : Type 0 where
  pub directory : is_directory d ≡ true
  pub names : HasNamesOf (entries d) tree
  pub shown : All (IsShownIn tree) (entries d)

no_file : (tree : Tree) (bytes : List ℕ) → sort_of tree ≡ sorts.Folder → bytes_of (Some tree) ≡ Some bytes → ⊥
no_file tree bytes s h = let no : None ≡ Some bytes = sym (folder_bytes (out-Tree tree) s) ∙ h in cc no

no_link : (tree : Tree) (target : List ℕ) → sort_of tree ≡ sorts.Folder → target_of tree ≡ Some target → ⊥
no_link tree target s h = let no : None ≡ Some target = sym (folder_target (out-Tree tree) s) ∙ h in cc no

pub directory_of : (tree : Tree) (d : Dag) → sort_of tree ≡ sorts.Folder → Shows d tree → IsDirectoryOf tree d
directory_of tree (unopened cid) s h = absurd h
directory_of tree (bare section fault) s h = absurd h
directory_of tree (node section Raw children) s h = absurd (no_file tree _ s h)
directory_of tree (node section (File inline filesize parts) children) s h = absurd (no_file tree _ s h)
directory_of tree (node section (Basic es) children) s h = record { directory = refl; names = h.0; shown = named_shown es children tree h.1 }
directory_of tree (node section (Shard slots) children) s h = record { directory = refl; names = h.0; shown = slots_shown slots children tree h.1 }
directory_of tree (node section (Symlink target) children) s h = absurd (no_link tree target s h)

-- what stands under a name
pub record StandsAt (options : LayoutOptions) (d : Dag) (name : List ℕ) (below : Tree) : Type 0 where
  pub dag : Dag
  pub entry : DirEntry
  pub among : Contains (entries d) entry
  pub dag_is : entry.dag ≡ dag
  pub shows : Shows dag below
  pub laid : IsLaidAt options top dag
  pub leads : (i : ℕ) (path : List (List ℕ)) → lookup_from i (name ∷ path) d ≡ lookup_from (i + 1) path dag

pub stands_at : (options : LayoutOptions) (tree : Tree) (d : Dag) (name : List ℕ) (below : Tree) → sort_of tree ≡ sorts.Folder → Shows d tree → IsLaidAt options top d
    → child tree name ≡ Some below → StandsAt options d name below
stands_at options tree d name below s shown laid is =
    let dir = directory_of tree d s shown in
    let (e, in_entries, named, first) = entry_found (entries d) name ((dir.names.names name).1 (found_key (entries_of tree) name below is)) in
    let (other, other_is, shows) = All-contains (IsShownIn tree) (entries d) e dir.shown in_entries in
    let same : other ≡ below = (let both : Some other ≡ Some below = sym other_is ∙ (ap (child tree) named ∙ is) in cc both) in
    record {
      dag = e.dag;
      entry = e;
      among = in_entries;
      dag_is = refl;
      shows = subst (Shows e.dag) same shows;
      laid = All-contains (IsLaidEntry options) (entries d) e (entries_laid options top d laid) in_entries;
      leads = λ i path. rw (dir.directory, first) refl;
    }

-- and where there is no such name
pub missing_at : (tree : Tree) (d : Dag) (name : List ℕ) → sort_of tree ≡ sorts.Folder → Shows d tree → child tree name ≡ None
    → (i : ℕ) (path : List (List ℕ)) → lookup_from i (name ∷ path) d ≡ not_there i
missing_at tree d name s shown is i path =
    let dir = directory_of tree d s shown in
    let none : entry_named name (entries d) ≡ None = entry_missing (entries d) name (λ c. key_found (entries_of tree) name is ((dir.names.names name).0 c)) in
    rw (dir.directory, none) refl

-- ---- a file

no_more : (children : Children) → content_of_children [] children ≡ []
no_more no_child = refl
no_more (with_child d children) = refl

not_folder : (tree : Tree) (bytes : List ℕ) → IsFileOf bytes tree → sort_of tree ≡ sorts.Folder → ⊥
not_folder tree bytes is s = let no : sorts.File ≡ sorts.Folder = sym (file_sort (out-Tree tree) bytes is) ∙ s in cc no

some_one : (a b : List ℕ) → Some a ≡ Some b → a ≡ b
some_one a b e = cc e

-- what it says is its bytes, or the range of them
pub file_says : (span : Option SpanParts) (tree : Tree) (bytes : List ℕ) (d : Dag) → IsFileOf bytes tree → Shows d tree → entity_text span d ≡ content_text span bytes
file_says span tree bytes (unopened cid) is h = absurd h
file_says span tree bytes (bare section fault) is h = absurd h
file_says span tree bytes (node section Raw children) is h =
    ap (content_text span) ((ap (λ (l : List ℕ). section.block ++ l) (no_more children) ∙ append-nil section.block) ∙ some_one section.block bytes (sym h ∙ is))
file_says span tree bytes (node section (File inline filesize parts) children) is h =
    ap (content_text span) (some_one (content (node section (File inline filesize parts) children)) bytes (sym h ∙ is))
file_says span tree bytes (node section (Basic es) children) is h = absurd (not_folder tree bytes is h.0.folder)
file_says span tree bytes (node section (Shard slots) children) is h = absurd (not_folder tree bytes is h.0.folder)
file_says span tree bytes (node section (Symlink target) children) is h =
    absurd (let no : None ≡ Some target = sym (file_target (out-Tree tree) bytes is) ∙ h in cc no)
