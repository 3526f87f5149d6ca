-- What the constructors of trees make, and that in a drawn folder, and in each folder below it, the names differ.
use Rattle.std.proofs.Common.{◌≡◌, ◌+◌, ◌≤◌, ◌<◌, ℕ, List, [], ◌∷◌, ◌++◌, All, IfSome, Global, None, Option, Some, Vec, ap, arith, codes, false, length, refl, rules, subst, sym, ◌∙◌}
use Rattle.std.proofs.lemmas.List.{append-nil}
use Rattle.std.proofs.lemmas.List.Elements.{All-cons, All-from_recursion, All-nil}
use Rattle.std.proofs.lemmas.Map.Entries.{All-lookup}
use Rattle.std.proofs.lemmas.Map.Keys.{IsDistinct-cons}
use Rattle.std.specs.List.{AllByRecursion, IsDistinct}
use Rattle.std.specs.Map.{keys_of}
use Rattle.std.specs.Str.{bytes_eq}
use Rattle.tg_draws.specs.Trees.{AreFilesFrom, IsFileOf, IsFolderWith, IsTreeOf, file_name}
use Rattle.tg_draws.specs.declared.drawing.Drawn.{Drawn}
use Rattle.tg_draws.proofs.Names.{names_differ}
use Rattle.tg_tree.specs.Tree.{IsFolderOfFiles, NamesDiffer, below, bytes_within, entries_of, entries_within, names_of, sort_within, tree_at}
use Rattle.tg_tree.specs.declared.tree.Tree.{Tree, Tree-F, out-Tree, roll-Tree}
use Rattle.tg_tree.specs.declared.tree.Tree as trees
use Rattle.tg_tree.specs.declared.tree.Tree.TheViews.{the_lemmas}
use Rattle.tg_tree.specs.declared.tree.Tree.TheOpen.{File, Folder, Symlink, Other}

-- ---- what is made

-- where no files are left, the entries are those of all
pub whole_at_end : (number : ℕ) (left files : List (List ℕ)) (entries : List (List ℕ × Tree)) → length left ≡ 0
    → ((others : List (List ℕ × Tree)) → AreFilesFrom number left others → AreFilesFrom 0 files (entries ++ others))
    → AreFilesFrom 0 files entries
whole_at_end number [] files entries none all = subst (AreFilesFrom 0 files) (append-nil entries) (all [] refl)
whole_at_end number (bytes ∷ left) files entries none all = absurd (omega (arith, none))

-- one entry more, whose name is told
pub one_put : (name key : List ℕ) (tree : Tree) (held entries more : List (List ℕ × Tree)) → held ≡ entries
    → more ≡ held ++ (key, tree) ∷ [] → key ≡ name → more ≡ entries ++ (name, tree) ∷ []
one_put name key tree held entries more h put same =
    put ∙ ap (λ (k : List ℕ). held ++ (k, tree) ∷ []) same ∙ ap (λ (es : List (List ℕ × Tree)). es ++ (name, tree) ∷ []) h

file_opened : (bytes : List ℕ) → out-Tree (trees.File bytes) ≡ File bytes
unfolding out-Tree denote.Hole.Carrier.out roll-Tree denote.Hole.Carrier.roll
file_opened bytes = refl

folder_opened : (entries : Vec (List ℕ × Tree) Global) → out-Tree (trees.Folder entries) ≡ Folder entries
folder_opened entries = search (rules, the_lemmas)

pub file_is : (bytes held : List ℕ) → held ≡ bytes → IsFileOf bytes (trees.File held)
file_is bytes held same = ap bytes_within (file_opened held) ∙ ap (λ (b : List ℕ). Some b) same

pub folder_is : (list : List (List ℕ × Tree)) (entries : Vec (List ℕ × Tree) Global) → entries.items ≡ list
    → IsFolderWith list (trees.Folder entries)
folder_is list entries same = record {
  sort = ap sort_within (folder_opened entries);
  entries_are = ap entries_within (folder_opened entries) ∙ same;
}

-- ---- the names differ

no_names_below : (path : List (List ℕ)) → IsDistinct bytes_eq (names_of (tree_at None path))
unfolding IsDistinct
no_names_below path = tt

differ_within : (found : Option Tree) → IfSome found NamesDiffer → (path : List (List ℕ)) → IsDistinct bytes_eq (names_of (tree_at found path))
differ_within None h path = no_names_below path
differ_within (Some tree) h path = h path

-- below an entry
abbrev Differs : List ℕ × Tree → Type 0
Differs entry = NamesDiffer entry.1

-- in a tree where they do so at its top and in each tree there
differ_from_entries : (tree : Tree) → IsDistinct bytes_eq (keys_of (entries_of tree)) → All Differs (entries_of tree) → NamesDiffer tree
differ_from_entries tree here below [] = here
differ_from_entries tree here below (name ∷ path) = differ_within _ (All-lookup NamesDiffer (bytes_eq name) (entries_of tree) below) path

differ_with : (tree : Tree) (entries : List (List ℕ × Tree)) → entries_of tree ≡ entries → IsDistinct bytes_eq (keys_of entries)
    → All Differs entries → NamesDiffer tree
differ_with tree entries same here below =
    let own = subst (λ (es : List (List ℕ × Tree)). IsDistinct bytes_eq (keys_of es)) (sym same) here in
    differ_from_entries tree own (subst (All Differs) (sym same) below)

none_differ : IsDistinct bytes_eq []
unfolding IsDistinct
none_differ = tt

no_entry_differs : (tree : Tree) → entries_of tree ≡ [] → NamesDiffer tree
no_entry_differs tree none = differ_with tree [] none none_differ (All-nil Differs)

no_entries : (tree : Tree-F Tree) (bytes : List ℕ) → bytes_within tree ≡ Some bytes → entries_within tree ≡ []
no_entries (File held) bytes h = refl
no_entries (Folder entries) bytes h = absurd (cc)
no_entries (Symlink target) bytes h = refl
no_entries Other bytes h = refl

file_differs : (bytes : List ℕ) (tree : Tree) → IsFileOf bytes tree → NamesDiffer tree
file_differs bytes tree is = no_entry_differs tree (no_entries (out-Tree tree) bytes is)

-- the name of a file isn't among those of the files behind it
abbrev Apart : List ℕ → List (List ℕ × Tree) → Type 0
Apart name entries = AllByRecursion (λ other. bytes_eq name other ≡ false) (keys_of entries)

apart : (before number : ℕ) (files : List (List ℕ)) (entries : List (List ℕ × Tree)) → before < number → number + length files ≤ 1000000
    → AreFilesFrom number files entries → Apart (file_name before) entries
apart before number [] entries h few is = subst (Apart (file_name before)) (sym is) tt
apart before number (bytes ∷ files) [] h few is = absurd is
apart before number (bytes ∷ files) (entry ∷ entries) h few is =
    let below : number < 1000000 = omega (arith, few) in (
      ap (bytes_eq (file_name before)) is.0 ∙ names_differ before number h below,
      apart before (number + 1) files entries (omega (arith, h)) (omega (arith, few)) is.2,
    )

files_apart : (number : ℕ) (files : List (List ℕ)) (entries : List (List ℕ × Tree)) → number + length files ≤ 1000000
    → AreFilesFrom number files entries → IsDistinct bytes_eq (keys_of entries)
files_apart number [] entries few is = subst (λ (es : List (List ℕ × Tree)). IsDistinct bytes_eq (keys_of es)) (sym is) none_differ
files_apart number (bytes ∷ files) [] few is = absurd is
files_apart number (bytes ∷ files) (entry ∷ entries) few is =
    let fewer : number + 1 + length files ≤ 1000000 = omega (arith, few) in
    let first = apart number (number + 1) files entries (omega arith) fewer is.2 in
    IsDistinct-cons bytes_eq entry.0 (keys_of entries) (subst (λ (name : List ℕ). Apart name entries) (sym is.0) first)
    (files_apart (number + 1) files entries fewer is.2)

files_differ : (number : ℕ) (files : List (List ℕ)) (entries : List (List ℕ × Tree)) → AreFilesFrom number files entries → All Differs entries
files_differ number [] entries is = subst (All Differs) (sym is) (All-nil Differs)
files_differ number (bytes ∷ files) [] is = absurd is
files_differ number (bytes ∷ files) (entry ∷ entries) is =
    All-cons Differs entry entries (file_differs bytes entry.1 is.1) (files_differ (number + 1) files entries is.2)

four_differ : IsDistinct bytes_eq (codes "big" ∷ codes "many" ∷ codes "empty" ∷ codes "none" ∷ [])
unfolding IsDistinct
four_differ = ((refl, (refl, (refl, tt))), ((refl, (refl, tt)), ((refl, tt), (tt, tt))))

pub drawn_differ : (drawn : Drawn) (tree : Tree) → IsTreeOf drawn tree → length drawn.many ≤ 1000000 → IsFolderOfFiles tree
drawn_differ drawn tree is few =
    let names = files_apart 0 drawn.many is.files (omega (arith, few)) is.files_are in
    let many = differ_with is.many is.files is.many_is.entries_are names (files_differ 0 drawn.many is.files is.files_are) in
    let list = (codes "big", is.big) ∷ (codes "many", is.many) ∷ (codes "empty", is.empty) ∷ (codes "none", is.none) ∷ [] in
    let big = file_differs drawn.big is.big is.big_is in
    let empty = no_entry_differs is.empty is.empty_is.entries_are in
    let none = file_differs [] is.none is.none_is in
    let below : All Differs list = All-from_recursion Differs list (big, (many, (empty, (none, tt)))) in
    (is.is_folder.sort, differ_with tree list is.is_folder.entries_are four_differ below)
