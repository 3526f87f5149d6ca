-- Folders of the same files are shown by the same DAGs.
use Rattle.std.proofs.Common.{Bool, Contains, List, None, Option, Some, [], ap, ap₂, cond, false, refl, subst, suc, sym, true, zero, ℕ, ◌+◌, ◌∙◌, ◌∷◌, ◌≡◌}
use Rattle.std.specs.Map.{keys_of, lookup}
use Rattle.std.specs.Prelude.{bytes_eq, codes, ⊤}
use Rattle.tg_draws.specs.Trees.{AreFilesFrom, IsFileOf, IsFolderWith, IsTreeOf}
use Rattle.tg_draws.specs.declared.drawing.Drawn.{Drawn}
use Rattle.tg_model.specs.Dag.{Children, Dag, bare, no_child, node, unopened, with_child}
use Rattle.tg_model.specs.ShowsTree.{EntriesShow, HasNamesOf, Shows, ShowsInside, SlotShows, SlotsShow, target_of, target_within}
use Rattle.tg_model.specs.declared.kinds.Entry.{Entry}
use Rattle.tg_model.specs.declared.kinds.Kind.TheVariants.{Basic, File, Raw, Shard, Symlink}
use Rattle.tg_model.specs.declared.kinds.Slot.{Slot}
use Rattle.tg_tree.specs.Tree.{bytes_of, bytes_within, child, entries_of, entries_within, names_of, sort_of, sort_within}
use Rattle.tg_tree.specs.declared.items.Sort.TheVariants as sorts
use Rattle.tg_tree.specs.declared.tree.Tree.TheOpen as trees
use Rattle.tg_tree.specs.declared.tree.Tree.{Tree, Tree-F, out-Tree}

-- two trees say the same at their tops
pub record SameTops (t u : Tree) : Type 0 where
  pub bytes : bytes_of (Some t) ≡ bytes_of (Some u)
  pub target : target_of t ≡ target_of u
  pub sort : sort_of t ≡ sort_of u
  pub names : names_of (Some t) ≡ names_of (Some u)

-- and so does what stands below them, so many levels down, below which nothing stands
abbrev pub Alike : ℕ → Tree → Tree → Type 0
Alike zero t u = SameTops t u × ((name : List ℕ) (b : Tree) → child t name ≡ Some b → ⊥)
Alike (suc n) t u = SameTops t u × ((name : List ℕ) (b : Tree) → child t name ≡ Some b → (c : Tree) × (child u name ≡ Some c) × Alike n b c)

tops_of : (n : ℕ) (t u : Tree) → Alike n t u → SameTops t u
tops_of zero t u a = a.0
tops_of (suc n) t u a = a.0

-- an entry of the one, and that of its name of the other
below_of : (n : ℕ) (t u : Tree) → Alike n t u → (name : List ℕ) (b : Tree) → child t name ≡ Some b → (c : Tree) × (m : ℕ) × (child u name ≡ Some c) × Alike m b c
below_of zero t u a name b e = absurd (a.1 name b e)
below_of (suc n) t u a name b e = let (c, is, rest) = a.1 name b e in (c, n, is, rest)

-- ---- what shows the one shows the other

names_shown : (listed : List _) (t u : Tree) → SameTops t u → HasNamesOf listed t → HasNamesOf listed u
names_shown listed t u s h = record {
  folder = sym s.sort ∙ h.folder;
  names = λ name. (
    (λ c. subst (λ (l : List (List ℕ)). Contains l name) s.names ((h.names name).0 c)),
    (λ c. (h.names name).1 (subst (λ (l : List (List ℕ)). Contains l name) (sym s.names) c)),
  );
}

-- an entry, by what holds of what it shows
entry_alike : (n : ℕ) (d : Dag) (name : List ℕ) (t u : Tree) → Alike n t u → ((m : ℕ) (b c : Tree) → Alike m b c → Shows d b → Shows d c)
    → (below : Tree) × (child t name ≡ Some below) × Shows d below → (below : Tree) × (child u name ≡ Some below) × Shows d below
entry_alike n d name t u a on (b, is, shown) = let (c, m, other, rest) = below_of n t u a name b is in (c, other, on m b c rest shown)

slot_alike : (n : ℕ) (name : Option (List ℕ)) (d : Dag) (t u : Tree) → Alike n t u → ((m : ℕ) (b c : Tree) → Alike m b c → Shows d b → Shows d c)
    → (ShowsInside d t → ShowsInside d u)
    → SlotShows (λ name. (below : Tree) × (child t name ≡ Some below) × Shows d below) (ShowsInside d t) name
    → SlotShows (λ name. (below : Tree) × (child u name ≡ Some below) × Shows d below) (ShowsInside d u) name
slot_alike n (Some name) d t u a on inside h = entry_alike n d name t u a on h
slot_alike n None d t u a on inside h = inside h

mutual
  pub shows_alike : (n : ℕ) (d : Dag) (t u : Tree) → Alike n t u → Shows d t → Shows d u
  shows_alike n (unopened cid) t u a h = absurd h
  shows_alike n (bare section fault) t u a h = absurd h
  shows_alike n (node section Raw children) t u a h = sym (tops_of n t u a).bytes ∙ h
  shows_alike n (node section (File inline filesize parts) children) t u a h = sym (tops_of n t u a).bytes ∙ h
  shows_alike n (node section (Basic es) children) t u a h = (names_shown _ t u (tops_of n t u a) h.0, entries_alike n es children t u a h.1)
  shows_alike n (node section (Shard slots) children) t u a h = (names_shown _ t u (tops_of n t u a) h.0, slots_alike n slots children t u a h.1)
  shows_alike n (node section (Symlink target) children) t u a h = sym (tops_of n t u a).target ∙ h

  entries_alike : (n : ℕ) (es : List Entry) (children : Children) (t u : Tree) → Alike n t u → EntriesShow es children t → EntriesShow es children u
  entries_alike n es no_child t u a h = tt
  entries_alike n [] (with_child d children) t u a h = tt
  entries_alike n (entry ∷ es) (with_child d children) t u a h =
      (entry_alike n d entry.name t u a (λ m b c r s. shows_alike m d b c r s) h.0, entries_alike n es children t u a h.1)

  slots_alike : (n : ℕ) (slots : List Slot) (children : Children) (t u : Tree) → Alike n t u → SlotsShow slots children t → SlotsShow slots children u
  slots_alike n slots no_child t u a h = tt
  slots_alike n [] (with_child d children) t u a h = tt
  slots_alike n (slot ∷ slots) (with_child d children) t u a h =
      (slot_alike n slot.name d t u a (λ m b c r s. shows_alike m d b c r s) (λ s. inside_alike n d t u a s) h.0, slots_alike n slots children t u a h.1)

  inside_alike : (n : ℕ) (d : Dag) (t u : Tree) → Alike n t u → ShowsInside d t → ShowsInside d u
  inside_alike n (unopened cid) t u a h = absurd h
  inside_alike n (bare section fault) t u a h = absurd h
  inside_alike n (node section Raw children) t u a h = absurd h
  inside_alike n (node section (File inline filesize parts) children) t u a h = absurd h
  inside_alike n (node section (Basic es) children) t u a h = absurd h
  inside_alike n (node section (Shard slots) children) t u a h = slots_alike n slots children t u a h
  inside_alike n (node section (Symlink target) children) t u a h = absurd h

-- ---- files

pub file_target : (o : Tree-F Tree) (bytes : List ℕ) → bytes_within o ≡ Some bytes → target_within o ≡ None
file_target (trees.File held) bytes h = refl
file_target (trees.Folder entries) bytes h = refl
file_target (trees.Symlink target) bytes h = absurd (cc h)
file_target trees.Other bytes h = refl

pub file_sort : (o : Tree-F Tree) (bytes : List ℕ) → bytes_within o ≡ Some bytes → sort_within o ≡ sorts.File
file_sort (trees.File held) bytes h = refl
file_sort (trees.Folder entries) bytes h = absurd (cc h)
file_sort (trees.Symlink target) bytes h = absurd (cc h)
file_sort trees.Other bytes h = absurd (cc h)

file_entries : (o : Tree-F Tree) (bytes : List ℕ) → bytes_within o ≡ Some bytes → entries_within o ≡ []
file_entries (trees.File held) bytes h = refl
file_entries (trees.Folder entries) bytes h = absurd (cc h)
file_entries (trees.Symlink target) bytes h = refl
file_entries trees.Other bytes h = refl

pub folder_bytes : (o : Tree-F Tree) → sort_within o ≡ sorts.Folder → bytes_within o ≡ None
folder_bytes (trees.File held) h = absurd (cc h)
folder_bytes (trees.Folder entries) h = refl
folder_bytes (trees.Symlink target) h = refl
folder_bytes trees.Other h = refl

pub folder_target : (o : Tree-F Tree) → sort_within o ≡ sorts.Folder → target_within o ≡ None
folder_target (trees.File held) h = refl
folder_target (trees.Folder entries) h = refl
folder_target (trees.Symlink target) h = absurd (cc h)
folder_target trees.Other h = refl

-- nothing stands below what has no entry
no_child_of : (t : Tree) → entries_of t ≡ [] → (name : List ℕ) (b : Tree) → child t name ≡ Some b → ⊥
no_child_of t none name b e =
    let no : None ≡ Some b = sym (ap (lookup (bytes_eq name)) none) ∙ e in cc no

file_alike : (n : ℕ) (bytes : List ℕ) (t u : Tree) → IsFileOf bytes t → IsFileOf bytes u → Alike n t u
file_alike n bytes t u ht hu = by n
  where
    none : entries_of t ≡ []
    none = file_entries (out-Tree t) bytes ht

    same : SameTops t u
    same = record {
      bytes = ht ∙ sym hu;
      target = file_target (out-Tree t) bytes ht ∙ sym (file_target (out-Tree u) bytes hu);
      sort = file_sort (out-Tree t) bytes ht ∙ sym (file_sort (out-Tree u) bytes hu);
      names = ap keys_of none ∙ sym (ap keys_of (file_entries (out-Tree u) bytes hu));
    }

    by : (n : ℕ) → Alike n t u
    by zero = (same, no_child_of t none)
    by (suc n) = (same, λ name b e. absurd (no_child_of t none name b e))

-- ---- folders

-- the entries have the same names, and what has them is alike
abbrev AllAlike : ℕ → List (List ℕ × Tree) → List (List ℕ × Tree) → Type 0
AllAlike n [] [] = ⊤
AllAlike n (e ∷ es) (f ∷ fs) = (e.0 ≡ f.0) × Alike n e.1 f.1 × AllAlike n es fs
AllAlike n [] (f ∷ fs) = ⊥
AllAlike n (e ∷ es) [] = ⊥

same_keys : (n : ℕ) (es fs : List (List ℕ × Tree)) → AllAlike n es fs → keys_of es ≡ keys_of fs
same_keys n [] [] a = refl
same_keys n (e ∷ es) (f ∷ fs) a = ap₂ (λ (k : List ℕ) (ks : List (List ℕ)). k ∷ ks) a.0 (same_keys n es fs a.2)
same_keys n [] (f ∷ fs) a = absurd a
same_keys n (e ∷ es) [] a = absurd a

found_alike : (n : ℕ) (test : List ℕ → Bool) (es fs : List (List ℕ × Tree)) (b : Tree) → AllAlike n es fs → lookup test es ≡ Some b
    → (c : Tree) × (lookup test fs ≡ Some c) × Alike n b c
found_alike n test [] [] b a h = absurd (cc h)
found_alike n test [] (f ∷ fs) b a h = absurd a
found_alike n test (e ∷ es) [] b a h = absurd a
found_alike n test (e ∷ es) (f ∷ fs) b a h = by (test e.0) refl h (λ g. found_alike n test es fs b a.2 g)
  where
    by : (t : Bool) → test e.0 ≡ t → cond t (Some e.1) (lookup test es) ≡ Some b
        → (lookup test es ≡ Some b → (c : Tree) × (lookup test fs ≡ Some c) × Alike n b c) → (c : Tree) × (lookup test (f ∷ fs) ≡ Some c) × Alike n b c
    by true is h on =
        let same : e.1 ≡ b = cc h in (
          f.1,
          ap (λ (t : Bool). cond t (Some f.1) (lookup test fs)) (sym (ap test a.0) ∙ is),
          subst (λ (x : Tree). Alike n x f.1) same a.1,
        )
    by false is h on =
        let (c, found, rest) = on h in
        (c, ap (λ (t : Bool). cond t (Some f.1) (lookup test fs)) (sym (ap test a.0) ∙ is) ∙ found, rest)

folder_alike : (n : ℕ) (es fs : List (List ℕ × Tree)) (t u : Tree) → IsFolderWith es t → IsFolderWith fs u → AllAlike n es fs → Alike (suc n) t u
folder_alike n es fs t u ht hu a = (
  record {
    bytes = folder_bytes (out-Tree t) ht.sort ∙ sym (folder_bytes (out-Tree u) hu.sort);
    target = folder_target (out-Tree t) ht.sort ∙ sym (folder_target (out-Tree u) hu.sort);
    sort = ht.sort ∙ sym hu.sort;
    names = ap keys_of ht.entries_are ∙ (same_keys n es fs a ∙ sym (ap keys_of hu.entries_are));
  },
  λ name b e.
      let (c, found, rest) = found_alike n (bytes_eq name) es fs b a (sym (ap (lookup (bytes_eq name)) ht.entries_are) ∙ e) in
      (c, ap (lookup (bytes_eq name)) hu.entries_are ∙ found, rest),
)

-- ---- a drawn folder

files_alike : (number : ℕ) (files : List (List ℕ)) (es fs : List (List ℕ × Tree)) → AreFilesFrom number files es → AreFilesFrom number files fs → AllAlike 0 es fs
files_alike number [] es fs he hf = subst (λ (l : List (List ℕ × Tree)). AllAlike 0 l fs) (sym he) (subst (AllAlike 0 []) (sym hf) tt)
files_alike number (bytes ∷ files) [] fs he hf = absurd he
files_alike number (bytes ∷ files) (e ∷ es) [] he hf = absurd hf
files_alike number (bytes ∷ files) (e ∷ es) (f ∷ fs) he hf =
    (he.0 ∙ sym hf.0, file_alike 0 bytes e.1 f.1 he.1 hf.1, files_alike (number + 1) files es fs he.2 hf.2)

pub tree_alike : (drawn : Drawn) (t u : Tree) → IsTreeOf drawn t → IsTreeOf drawn u → Alike 2 t u
tree_alike drawn t u ht hu =
    folder_alike 1 ((codes "big", ht.big) ∷ (codes "many", ht.many) ∷ (codes "empty", ht.empty) ∷ (codes "none", ht.none) ∷ [])
    ((codes "big", hu.big) ∷ (codes "many", hu.many) ∷ (codes "empty", hu.empty) ∷ (codes "none", hu.none) ∷ []) t u ht.is_folder hu.is_folder (
      refl,
      file_alike 1 drawn.big ht.big hu.big ht.big_is hu.big_is,
      (
        refl,
        folder_alike 0 ht.files hu.files ht.many hu.many ht.many_is hu.many_is (files_alike 0 drawn.many ht.files hu.files ht.files_are hu.files_are),
        (refl, folder_alike 0 [] [] ht.empty hu.empty ht.empty_is hu.empty_is tt, (refl, file_alike 1 [] ht.none hu.none ht.none_is hu.none_is, tt)),
      ),
    )

-- a DAG that shows one shows the other
pub shows_both : (drawn : Drawn) (d : Dag) (t u : Tree) → IsTreeOf drawn t → IsTreeOf drawn u → Shows d t → Shows d u
shows_both drawn d t u ht hu shown = shows_alike 2 d t u (tree_alike drawn t u ht hu) shown
