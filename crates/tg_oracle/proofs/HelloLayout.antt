-- The worked example's DAG shows the folder, and is the layout that an import gives it.
use Rattle.std.proofs.Common.{◌≡◌, ◌+◌, ◌<◌, ◌≤◌, ◌↔◌, ℕ, zero, suc, List, [], ◌∷◌, Some, length, lit<, lit≤, refl, sym, subst, ap, arith}
use Rattle.std.proofs.lemmas.List.Elements.{All-cons, All-nil}
use Rattle.std.proofs.lemmas.Option.{slice_get_within}
use Rattle.std.specs.Map.{keys_of, lookup}
use Rattle.std.specs.Prelude.{All, Contains, bytes_eq, codes, slice_get}
use Rattle.tg_tree.specs.Tree.{child, names_of}
use Rattle.tg_tree.specs.declared.tree.Tree.{Tree}
use Rattle.tg_model.specs.Content.{entries}
use Rattle.tg_model.specs.Dag.{Dag}
use Rattle.tg_model.specs.ImportLayout.{AreFull, AreSorted, HasPlainCid, IsImportLayout, IsLaidAt, IsLaidFile, level_widths}
use Rattle.tg_model.specs.ShowsTree.{HasNamesOf, Shows}
use Rattle.tg_model.specs.Sound.{top}
use Rattle.tg_model.specs.declared.kinds.Entry.{Entry}
use Rattle.tg_model.specs.FullLaws.{full_none, full_one}
use Rattle.tg_oracle.proofs.HelloTexts.{Laws, d_written, f_written}
use Rattle.tg_oracle.specs.HelloWorld.{IsHelloFolder, all_sections, d, f, f_cid, file_of, l1, l2, l3, leaf, options_of_four, whole_dag}

-- the file over its leaves
abbrev whole_file : Dag
whole_file = file_of (leaf l1) (leaf l2) (leaf l3)

-- ---- what is shown

-- the folder's only name is that of the directory's entry
has_names : (tree file : Tree) → IsHelloFolder tree file → HasNamesOf (entries whole_dag) tree
has_names tree file is =
    let names : names_of (Some tree) ≡ codes "h" ∷ [] = ap (λ (es : List (List ℕ × Tree)). keys_of es) is.entries in
    record {
      folder = is.folder;
      names = λ name. subst (λ (all : List (List ℕ)). Contains (codes "h" ∷ []) name ↔ Contains all name) (sym names) ((λ h. h), (λ h. h));
    }

-- the DAG shows the folder
pub shows_folder : (tree file : Tree) → IsHelloFolder tree file → Shows whole_dag tree
shows_folder tree file is =
    let here : child tree (codes "h") ≡ Some file = ap (λ (es : List (List ℕ × Tree)). lookup (bytes_eq (codes "h")) es) is.entries in
    (has_names tree file is, ((file, here, is.bytes), tt))

-- ---- the file's layout

-- the chunks have 4 bytes, and the last one 3
chunk_full : (i n : ℕ) → i + 1 < 3 → slice_get (4 ∷ 4 ∷ 3 ∷ []) i ≡ Some n → n ≡ 4
chunk_full zero n before e = cc
chunk_full (suc zero) n before e = cc
chunk_full (suc (suc i)) n before e = absurd (omega arith)

chunk_last : (i n : ℕ) → i + 1 ≡ 3 → slice_get (4 ∷ 4 ∷ 3 ∷ []) i ≡ Some n → n ≤ 4
chunk_last zero n is e = absurd (omega arith)
chunk_last (suc zero) n is e = absurd (omega arith)
chunk_last (suc (suc zero)) n is e = let same : 3 ≡ n = cc in subst (λ (k : ℕ). k ≤ 4) same (lit≤ tt)
chunk_last (suc (suc (suc i))) n is e = absurd (omega arith)

-- the root has three links, and no node is below it
levels_full : (level : ℕ) → AreFull 1024 (level_widths whole_file level)
levels_full zero = full_one 1024 3 (lit≤ tt)
levels_full (suc level) = full_none 1024

-- and each node has a link
levels_linked : (level : ℕ) → All (λ (width : ℕ). 0 < width) (level_widths whole_file level)
levels_linked zero = All-cons (λ (width : ℕ). 0 < width) 3 [] (lit< tt) (All-nil (λ (width : ℕ). 0 < width))
levels_linked (suc level) = All-nil (λ (width : ℕ). 0 < width)

-- a leaf has a byte
abbrev HasByte : List ℕ → Type 0
HasByte bytes = 0 < length bytes

-- the file is laid out in chunks of 4 bytes
file_laid : IsLaidFile options_of_four whole_file
file_laid = record {
  chunks = record { full = chunk_full; last = chunk_last };
  not_empty =
      All-cons HasByte (codes "hell") (codes "o wo" ∷ codes "rld" ∷ []) (lit< tt)
      (All-cons HasByte (codes "o wo") (codes "rld" ∷ []) (lit< tt)
      (All-cons HasByte (codes "rld") [] (lit< tt) (All-nil HasByte)));
  small = λ h. absurd (omega arith);
  depth = 1;
  even = (refl, (refl, (refl, tt)));
  branches = λ deep. All-cons (λ (width : ℕ). 2 ≤ width) 3 [] (lit≤ tt) (All-nil (λ (width : ℕ). 2 ≤ width));
  levels = levels_full;
  linked = levels_linked;
}

-- ---- the directory's layout

-- one entry is sorted
one_sorted : (entry : Entry) → AreSorted (entry ∷ [])
one_sorted entry = λ i a b first second.
    let within : i + 1 < 1 = slice_get_within (entry ∷ []) (i + 1) b second in
    absurd (omega arith)

-- each CID is a CIDv1 of sha2-256
plain_cids : All HasPlainCid all_sections
plain_cids =
    All-cons HasPlainCid d (f ∷ l1 ∷ l2 ∷ l3 ∷ []) (refl, refl)
    (All-cons HasPlainCid f (l1 ∷ l2 ∷ l3 ∷ []) (refl, refl)
    (All-cons HasPlainCid l1 (l2 ∷ l3 ∷ []) (refl, refl)
    (All-cons HasPlainCid l2 (l3 ∷ []) (refl, refl)
    (All-cons HasPlainCid l3 [] (refl, refl) (All-nil HasPlainCid)))))

module _ (laws : Laws) where
  -- the file, and the directory, stand as they are laid out
  file_laid_at : IsLaidAt options_of_four top whole_file
  file_laid_at = (file_laid, f_written laws, (tt, (tt, (tt, tt))))

  folder_laid : IsLaidAt options_of_four top whole_dag
  folder_laid = (lit≤ tt, one_sorted (record { name = codes "h"; cid = f_cid }), d_written laws, (file_laid_at, tt))

  -- the DAG is the layout of the folder
  pub import_layout : (tree file : Tree) → IsHelloFolder tree file → IsImportLayout whole_dag tree options_of_four
  import_layout tree file is = record { shows = shows_folder tree file is; laid = folder_laid; plain = plain_cids }
