-- The bundle of a drawn folder's DAG and the listing of its folder `many` are the ones that are expected by what was drawn.
use Rattle.std.proofs.Common.{Contains, List, Option, Some, [], ap, append-nil, append_assoc, arith, inl, inr, length, refl, subst, suc, sym, true, zero, ℕ, ◌++◌, ◌<◌, ◌∙◌, ◌∷◌, ◌≡◌, ◌≤◌}
use Rattle.std.proofs.lemmas.List.Elements.{All-contains}
use Rattle.std.specs.List.{flat_map}
use Rattle.std.specs.Map.{keys_of, lookup}
use Rattle.std.specs.Prelude.{bytes_eq, codes, map, nat_lt}
use Rattle.tg_audit.proofs.DagEntries.{IsDirectoryOf, IsShownIn, directory_of, stands_at}
use Rattle.tg_audit.proofs.DirectoryTexts.{IsAtTop, directory_says, entries_at, entry_bundle, weight_is}
use Rattle.tg_audit.proofs.DrawnAnswers.{bundle_query, listing_query, nothing_in}
use Rattle.tg_audit.proofs.FileSizes.{IsAt}
use Rattle.tg_audit.proofs.FileTexts.{file_bundle}
use Rattle.tg_audit.proofs.ManyTexts.{as_many, many_bundle, many_listing, plain_or_sharded}
use Rattle.tg_audit.proofs.Members.{all_from, first_one, none_in, one_of, other_one}
use Rattle.tg_audit.proofs.NameSlots.{Ascend}
use Rattle.tg_audit.proofs.NumberLists.{AreAmong, ascend_once, one_ascending, one_sum}
use Rattle.tg_audit.proofs.NumberedNames.{AreNamed, SaysOf, hashes_once, named_ascend, named_count, named_has, named_hashes, named_inside, named_texts, names_short, numbered}
use Rattle.tg_audit.specs.Packing.{audit_options}
use Rattle.tg_audit_texts.specs.Expected.{IsBundle, IsOrder, bytes_at, file_record, files_bundled, named_from}
use Rattle.tg_bytes.specs.Ascii.{slash}
use Rattle.tg_draws.specs.Trees.{IsTreeOf}
use Rattle.tg_draws.specs.declared.drawing.Drawn.{Drawn}
use Rattle.tg_import.specs.Imported.{layout}
use Rattle.tg_model.specs.Answer.{all_text, answer, answer_at, bundle}
use Rattle.tg_model.specs.Content.{DirEntry, entries}
use Rattle.tg_model.specs.Dag.{Dag, bare, node, root_cid, unopened}
use Rattle.tg_model.specs.Lookup.{is_directory}
use Rattle.tg_model.specs.ShowsTree.{Shows}
use Rattle.tg_model.specs.Sound.{top}
use Rattle.tg_model.specs.Texts.{dir_line, is_before, joined, listing}
use Rattle.tg_model.specs.declared.kinds.Kind.TheVariants.{Basic, File, Raw, Shard, Symlink}
use Rattle.tg_model_laws.specs.FileSizes.{TotalIsLength}
use Rattle.tg_tree.specs.Tree.{child}
use Rattle.tg_tree.specs.declared.tree.Tree.{Tree}

-- ---- the four names of the root

abbrev root_name : ℕ → List ℕ
root_name zero = codes "big"
root_name (suc zero) = codes "empty"
root_name (suc (suc zero)) = codes "many"
root_name (suc (suc (suc n))) = codes "none"

root_order : (a b : ℕ) → a < 4 → b < 4 → is_before (root_name a) (root_name b) ≡ nat_lt a b
root_order zero zero h k = refl
root_order zero (suc zero) h k = refl
root_order zero (suc (suc zero)) h k = refl
root_order zero (suc (suc (suc zero))) h k = refl
root_order zero (suc (suc (suc (suc b)))) h k = absurd (omega (arith, k))
root_order (suc zero) zero h k = refl
root_order (suc zero) (suc zero) h k = refl
root_order (suc zero) (suc (suc zero)) h k = refl
root_order (suc zero) (suc (suc (suc zero))) h k = refl
root_order (suc zero) (suc (suc (suc (suc b)))) h k = absurd (omega (arith, k))
root_order (suc (suc zero)) zero h k = refl
root_order (suc (suc zero)) (suc zero) h k = refl
root_order (suc (suc zero)) (suc (suc zero)) h k = refl
root_order (suc (suc zero)) (suc (suc (suc zero))) h k = refl
root_order (suc (suc zero)) (suc (suc (suc (suc b)))) h k = absurd (omega (arith, k))
root_order (suc (suc (suc zero))) zero h k = refl
root_order (suc (suc (suc zero))) (suc zero) h k = refl
root_order (suc (suc (suc zero))) (suc (suc zero)) h k = refl
root_order (suc (suc (suc zero))) (suc (suc (suc zero))) h k = refl
root_order (suc (suc (suc zero))) (suc (suc (suc (suc b)))) h k = absurd (omega (arith, k))
root_order (suc (suc (suc (suc a)))) b h k = absurd (omega (arith, h))

abbrev four : List ℕ
four = 0 ∷ 1 ∷ 2 ∷ 3 ∷ []

in_four : (n : ℕ) → n < 4 → Contains four n
in_four zero h = first_one 0 (1 ∷ 2 ∷ 3 ∷ [])
in_four (suc zero) h = other_one 0 1 (1 ∷ 2 ∷ 3 ∷ []) (first_one 1 (2 ∷ 3 ∷ []))
in_four (suc (suc zero)) h = other_one 0 2 (1 ∷ 2 ∷ 3 ∷ []) (other_one 1 2 (2 ∷ 3 ∷ []) (first_one 2 (3 ∷ [])))
in_four (suc (suc (suc zero))) h = other_one 0 3 (1 ∷ 2 ∷ 3 ∷ []) (other_one 1 3 (2 ∷ 3 ∷ []) (other_one 2 3 (3 ∷ []) (first_one 3 [])))
in_four (suc (suc (suc (suc n)))) h = absurd (omega (arith, h))

four_inside : (n : ℕ) → Contains four n → n < 4
four_inside n c = elim (one_of 0 n (1 ∷ 2 ∷ 3 ∷ []) c) [
  | inl e ↦ omega (arith, e)
  | inr c1 ↦ elim (one_of 1 n (2 ∷ 3 ∷ []) c1) [
    | inl e ↦ omega (arith, e)
    | inr c2 ↦ elim (one_of 2 n (3 ∷ []) c2) [
      | inl e ↦ omega (arith, e)
      | inr c3 ↦ elim (one_of 3 n [] c3) [
        | inl e ↦ omega (arith, e)
        | inr c4 ↦ absurd (none_in n c4)
      ]
    ]
  ]
]

four_ascend : Ascend 0 four
four_ascend = (omega arith, (omega arith, (omega arith, (omega arith, tt))))

root_short : (n : ℕ) → n < 4 → length (root_name n) ≤ 7
root_short zero h = omega arith
root_short (suc zero) h = omega arith
root_short (suc (suc zero)) h = omega arith
root_short (suc (suc (suc n))) h = omega arith

all_bundle : (d : Dag) → is_directory d ≡ true → all_text d ≡ bundle (slash ∷ []) d
all_bundle (unopened cid) is = absurd (cc is)
all_bundle (bare section fault) is = absurd (cc is)
all_bundle (node section Raw children) is = absurd (cc is)
all_bundle (node section (File inline filesize parts) children) is = absurd (cc is)
all_bundle (node section (Basic es) children) is = refl
all_bundle (node section (Shard slots) children) is = refl
all_bundle (node section (Symlink target) children) is = absurd (cc is)

some_tree : (a b : Tree) → Some a ≡ Some b → a ≡ b
some_tree a b e = cc e

-- ---- the texts

module _ (sizes : TotalIsLength) (drawn : Drawn) (tree : Tree) (is : IsTreeOf drawn tree) (d : Dag) (shows : Shows d tree) (stands : IsAt top d)
    (few : length drawn.many ≤ 1000000) (short : (k : ℕ) → length (bytes_at drawn.many k) ≤ 1048576) where
  abbrev root_entries : List (List ℕ × Tree)
  root_entries = (codes "big", is.big) ∷ (codes "many", is.many) ∷ (codes "empty", is.empty) ∷ (codes "none", is.none) ∷ []

  child_is : (name : List ℕ) (below : Option Tree) → lookup (bytes_eq name) root_entries ≡ below → child tree name ≡ below
  child_is name below e = ap (lookup (bytes_eq name)) is.is_folder.entries_are ∙ e

  dir : IsDirectoryOf tree d
  dir = directory_of tree d is.is_folder.sort shows

  pub listing_is : answer (listing_query (root_cid d)) d ≡ Some (listing (named_from 0 drawn.many))
  listing_is =
      let x = stands_at (layout audit_options) tree d (codes "many") is.many is.is_folder.sort shows stands.laid (child_is (codes "many") (Some is.many) refl) in
      let at : IsAt top x.dag = subst (IsAt top) x.dag_is (All-contains IsAtTop (entries d) x.entry (entries_at top d stands) x.among) in
      ap (answer_at (listing_query (root_cid d))) (x.leads 0 [])
      ∙ ap Some (many_listing sizes drawn.many few short is.many is.files is.files_are is.many_is x.dag x.shows at)

  -- ---- the bundle

  is_root : (own : List ℕ) → Contains (map (λ entry. entry.name) (entries d)) own → (n : ℕ) × (n < 4) × (own ≡ root_name n)
  is_root own c =
      elim (one_of (codes "big") own (codes "many" ∷ codes "empty" ∷ codes "none" ∷ [])
      (subst (λ (l : List (List ℕ × Tree)). Contains (keys_of l) own) is.is_folder.entries_are ((dir.names.names own).0 c))) [
        | inl e ↦ (0, omega arith, sym e)
        | inr c1 ↦ elim (one_of (codes "many") own (codes "empty" ∷ codes "none" ∷ []) c1) [
          | inl e ↦ (2, omega arith, sym e)
          | inr c2 ↦ elim (one_of (codes "empty") own (codes "none" ∷ []) c2) [
            | inl e ↦ (1, omega arith, sym e)
            | inr c3 ↦ elim (one_of (codes "none") own [] c3) [
              | inl e ↦ (3, omega arith, sym e)
              | inr c4 ↦ absurd (none_in own c4)
            ]
          ]
        ]
      ]

  in_root : (n : ℕ) → n < 4 → Contains (keys_of root_entries) (root_name n)
  in_root zero h = first_one (codes "big") (codes "many" ∷ codes "empty" ∷ codes "none" ∷ [])
  in_root (suc zero) h =
      other_one (codes "big") (codes "empty") (codes "many" ∷ codes "empty" ∷ codes "none" ∷ [])
      (other_one (codes "many") (codes "empty") (codes "empty" ∷ codes "none" ∷ []) (first_one (codes "empty") (codes "none" ∷ [])))
  in_root (suc (suc zero)) h =
      other_one (codes "big") (codes "many") (codes "many" ∷ codes "empty" ∷ codes "none" ∷ []) (first_one (codes "many") (codes "empty" ∷ codes "none" ∷ []))
  in_root (suc (suc (suc n))) h =
      other_one (codes "big") (codes "none") (codes "many" ∷ codes "empty" ∷ codes "none" ∷ [])
      (other_one (codes "many") (codes "none") (codes "empty" ∷ codes "none" ∷ [])
      (other_one (codes "empty") (codes "none") (codes "none" ∷ []) (first_one (codes "none") [])))

  both : (ns : List ℕ) × AreNamed root_name 4 root_order (entries d) ns
  both = numbered root_name 4 root_order (entries d) is_root

  to : AreAmong both.0 four
  to n c = in_four n (named_inside root_name 4 root_order (entries d) both.0 both.1 n c)

  back : AreAmong four both.0
  back n c =
      let less = four_inside n c in
      named_has root_name 4 root_order (entries d) both.0 both.1 n less
      ((dir.names.names (root_name n)).1 (subst (λ (l : List (List ℕ × Tree)). Contains (keys_of l) (root_name n)) (sym is.is_folder.entries_are) (in_root n less)))

  -- the root stands in one block
  root_order_is : both.0 ≡ four
  root_order_is = elim (plain_or_sharded d dir.directory stands) [
    | inl p ↦ one_ascending 0 both.0 four (named_ascend root_name 4 root_order (entries d) both.0 both.1 p.ascend) four_ascend to back
    | inr s ↦
        let once = hashes_once root_name 4 root_order both.0 (named_hashes root_name 4 root_order (entries d) both.0 both.1 s.rise) in
        let number : length both.0 ≡ 4 = sym (as_many both.0) ∙ one_sum both.0 four once (ascend_once 0 four four_ascend) to back (λ n. 1) in
        let listed = named_count root_name 4 root_order (entries d) both.0 both.1 in
        let names = names_short root_name 4 root_order root_short (entries d) both.0 both.1 in
        let whole = weight_is (entries d) (entries_at top d stands) in
        let heavy = s.heavy in
        absurd (omega (arith, number, listed, names, whole, heavy))
  ]

  record LeadsTo (e : DirEntry) (below : Tree) : Type 0 where
    shown : Shows e.dag below
    at : IsAt top e.dag

  leads_to : (name : List ℕ) (below : Tree) → lookup (bytes_eq name) root_entries ≡ Some below → (e : DirEntry) → Contains (entries d) e → e.name ≡ name → LeadsTo e below
  leads_to name below found e c named =
      let (other, other_is, shown_other) = All-contains (IsShownIn tree) (entries d) e dir.shown c in
      record {
        shown = subst (Shows e.dag) (some_tree other below (sym other_is ∙ ap (child tree) named ∙ child_is name (Some below) found)) shown_other;
        at = All-contains IsAtTop (entries d) e (entries_at top d stands) c;
      }

  module _ (order : List ℕ) (order_is : IsOrder drawn.many order) where
    abbrev said : ℕ → List ℕ
    said zero = file_record (codes "/big") drawn.big
    said (suc zero) = dir_line (codes "/empty")
    said (suc (suc zero)) = dir_line (codes "/many") ++ files_bundled drawn.many order
    said (suc (suc (suc n))) = file_record (codes "/none") []

    says : (e : DirEntry) → Contains (entries d) e → (n : ℕ) → n < 4 → e.name ≡ root_name n → entry_bundle (slash ∷ []) e ≡ said n
    says e c zero less named =
        let x = leads_to (codes "big") is.big refl e c named in
        ap (λ (name : List ℕ). bundle (joined (slash ∷ []) name) e.dag) named ∙ file_bundle sizes (codes "/big") drawn.big is.big e.dag x.at is.big_is x.shown
    says e c (suc zero) less named =
        let x = leads_to (codes "empty") is.empty refl e c named in
        let empty = directory_of is.empty e.dag is.empty_is.sort x.shown in
        ap (λ (name : List ℕ). bundle (joined (slash ∷ []) name) e.dag) named
        ∙ directory_says (codes "/empty") e.dag empty.directory x.at
        ∙ ap (λ (l : List DirEntry). dir_line (codes "/empty") ++ flat_map (entry_bundle (codes "/empty")) l) (nothing_in is.empty e.dag is.empty_is x.shown)
        ∙ append-nil (dir_line (codes "/empty"))
    says e c (suc (suc zero)) less named =
        let x = leads_to (codes "many") is.many refl e c named in
        ap (λ (name : List ℕ). bundle (joined (slash ∷ []) name) e.dag) named
        ∙ many_bundle sizes drawn.many few short is.many is.files is.files_are is.many_is e.dag x.shown x.at order order_is
    says e c (suc (suc (suc n))) less named =
        let x = leads_to (codes "none") is.none refl e c named in
        ap (λ (name : List ℕ). bundle (joined (slash ∷ []) name) e.dag) named ∙ file_bundle sizes (codes "/none") [] is.none e.dag x.at is.none_is x.shown

    root_bundle : bundle (slash ∷ []) d ≡ dir_line (codes "/") ++ (file_record (codes "/big") drawn.big ++ (dir_line (codes "/empty")
        ++ (dir_line (codes "/many") ++ (files_bundled drawn.many order ++ file_record (codes "/none") []))))
    root_bundle =
        directory_says (slash ∷ []) d dir.directory stands
        ∙ ap (λ (l : List ℕ). dir_line (codes "/") ++ l)
        (named_texts root_name 4 root_order (entry_bundle (slash ∷ [])) said (entries d) both.0 both.1
        (all_from (SaysOf root_name 4 root_order (entry_bundle (slash ∷ [])) said) (entries d) says) ∙ ap (flat_map said) root_order_is)
        ∙ ap (λ (l : List ℕ). dir_line (codes "/") ++ (file_record (codes "/big") drawn.big ++ (dir_line (codes "/empty") ++ l)))
        (append_assoc (dir_line (codes "/many")) (files_bundled drawn.many order) (file_record (codes "/none") [] ++ [])
        ∙ ap (λ (l : List ℕ). dir_line (codes "/many") ++ (files_bundled drawn.many order ++ l)) (append-nil (file_record (codes "/none") [])))

  pub bundle_is : (text : List ℕ) → IsBundle drawn text → answer (bundle_query (root_cid d)) d ≡ Some text
  bundle_is text h = ap Some (all_bundle d dir.directory ∙ root_bundle h.order h.order_is ∙ sym h.text_is)
