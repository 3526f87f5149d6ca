-- What an audit tells is one text for each seed and number of files, or two names of `many` have one hash.
use Rattle.std.proofs.Common.{All, Bool, List, [], ap, ap₂, arith, false, inl, inr, length, refl, subst, sym, true, ℕ, ◌+◌, ◌<◌, ◌∙◌, ◌∷◌, ◌≡◌, ◌≤◌, ◌⊎◌}
use Rattle.std.proofs.lemmas.Bool.Decides.{nat_tests}
use Rattle.std.proofs.lemmas.List.Elements.{All-cons, All-contains, All-nil, All-weaker}
use Rattle.std.specs.Prelude.{codes, nat_lt, ◌%◌, ◌*◌, ◌++◌}
use Rattle.tg_audit.proofs.Alike.{shows_both}
use Rattle.tg_audit.proofs.Orders.{HaveOneKey, one_of_orders}
use Rattle.tg_audit.specs.Names.{TwoNamesCollide}
use Rattle.tg_audit.specs.OneText.{OneAuditText}
use Rattle.tg_audit.specs.Packing.{HoldsImported, audit_options}
use Rattle.tg_audit_texts.specs.Expected.{AreExpected, AreHashed, IsOrder, file_record, files_bundled, first_of, last_of, named_from, numbers_from, part}
use Rattle.tg_audit_texts.specs.Hashing.{IsHashOf}
use Rattle.tg_audit_texts.specs.Summary.{summary_text}
use Rattle.tg_audit_texts.specs.declared.hashing.Hashed.{Hashed}
use Rattle.tg_cid.specs.Cid.{CidParts}
use Rattle.tg_draws.specs.Draws.{BytesDrawn, Draws, FilesDrawn, IsDrawn, byte, draw_of, file, next_state, no_byte, no_file}
use Rattle.tg_draws.specs.Trees.{IsTreeOf, file_name}
use Rattle.tg_draws.specs.declared.drawing.Drawn.{Drawn}
use Rattle.tg_import.specs.Counting.{counts_of}
use Rattle.tg_import.specs.Imported.{layout}
use Rattle.tg_import.specs.declared.summary.Summary.{Summary}
use Rattle.tg_model.specs.Dag.{Dag, root_cid}
use Rattle.tg_model.specs.ImportLayout.{IsImportLayout, LayoutOptions}
use Rattle.tg_model.specs.Sound.{IsSound}
use Rattle.tg_model.specs.Texts.{dir_line, listing}
use Rattle.tg_murmur.specs.NameHash.{name_hash}
use Rattle.tg_tree.specs.declared.tree.Tree.{Tree}

-- ---- what is drawn is one

pub one_bytes : (state : ℕ) (a b : List ℕ) (x y : ℕ) → BytesDrawn state a x → BytesDrawn state b y → length a ≡ length b → (a ≡ b) × (x ≡ y)
one_bytes state _ _ _ _ (no_byte s) (no_byte t) e = (refl, refl)
one_bytes state _ _ _ _ (no_byte s) (byte t bytes y h) e = absurd (cc e)
one_bytes state _ _ _ _ (byte s bytes x h) (no_byte t) e = absurd (cc e)
one_bytes state _ _ _ _ (byte s bytes x h) (byte t other y k) e =
    let more : length bytes ≡ length other = cc e in
    let rest = one_bytes (next_state state) bytes other x y h k more in
    (ap (λ (l : List ℕ). draw_of state % 256 ∷ l) rest.0, rest.1)

one_draw : (state count : ℕ) (a b : List ℕ) (x y : ℕ) → Draws state count a x → Draws state count b y → (a ≡ b) × (x ≡ y)
one_draw state count a b x y h k = one_bytes state a b x y h.drawn k.drawn (h.count_is ∙ sym k.count_is)

one_files : (state : ℕ) (a b : List (List ℕ)) (x y : ℕ) → FilesDrawn state a x → FilesDrawn state b y → length a ≡ length b → a ≡ b
one_files state _ _ _ _ (no_file s) (no_file t) e = refl
one_files state _ _ _ _ (no_file s) (file t bytes between files y d h) e = absurd (cc e)
one_files state _ _ _ _ (file s bytes between files x d h) (no_file t) e = absurd (cc e)
one_files state _ _ _ _ (file s bytes between files x d h) (file t other middle more y f k) e =
    let first = one_draw (next_state state) (draw_of state % 65536) bytes other between middle d f in
    let fewer : length files ≡ length more = cc e in
    let same_state : FilesDrawn between more y = subst (λ (n : ℕ). FilesDrawn n more y) (sym first.1) k in
    ap₂ (λ (z : List ℕ) (l : List (List ℕ)). z ∷ l) first.0 (one_files between files more x y h same_state fewer)

pub one_drawn : (seed files : ℕ) (a b : Drawn) → IsDrawn seed files a → IsDrawn seed files b → a ≡ b
one_drawn seed files a b h k =
    let big = one_draw seed 10485760 a.big b.big h.between k.between h.big k.big in
    let many : a.many ≡ b.many = one_files h.between a.many b.many h.behind k.behind h.many.drawn
    (subst (λ (n : ℕ). FilesDrawn n b.many k.behind) (sym big.1) k.many.drawn) (h.many.count_is ∙ sym k.many.count_is) in
    λ i. record { big = big.0 i; many = many i }

-- ---- what is expected is one

one_hash : (text : List ℕ) (a b : Hashed) → IsHashOf text a → IsHashOf text b → a ≡ b
one_hash text a b h k = λ i. record { size = (h.size ∙ sym k.size) i; digest = (h.digest ∙ sym k.digest) i }

one_hashed : (texts : List (List ℕ)) (a b : List Hashed) → AreHashed texts a → AreHashed texts b → a ≡ b
one_hashed [] a b h k = h ∙ sym k
one_hashed (text ∷ texts) [] b h k = absurd h
one_hashed (text ∷ texts) (x ∷ a) [] h k = absurd k
one_hashed (text ∷ texts) (x ∷ a) (y ∷ b) h k = ap₂ (λ (z : Hashed) (l : List Hashed). z ∷ l) (one_hash text x y h.0 k.0) (one_hashed texts a b h.1 k.1)

numbers_below : (number : ℕ) (many : List (List ℕ)) → All (λ n. n < number + length many) (numbers_from number many)
numbers_below number [] = All-nil (λ n. n < number + 0)
numbers_below number (bytes ∷ files) =
    All-cons (λ n. n < number + length (bytes ∷ files)) number (numbers_from (number + 1) files) (omega arith)
    (All-weaker (λ n. n < number + 1 + length files) (λ n. n < number + length (bytes ∷ files)) (λ n less. omega (arith, less)) (numbers_from (number + 1) files) (numbers_below (number + 1) files))

one_order : (many : List (List ℕ)) (a b : List ℕ) → IsOrder many a → IsOrder many b → (a ≡ b) ⊎ TwoNamesCollide (length many)
one_order many a b h k = by (nat_lt 16384 (43 * length many)) refl
  where
    tied : HaveOneKey (λ n. name_hash (file_name n)) (numbers_from 0 many) → TwoNamesCollide (length many)
    tied two = record {
      one = two.one;
      other = two.other;
      is_one = let below = All-contains (λ n. n < 0 + length many) (numbers_from 0 many) two.one (numbers_below 0 many) two.is_one in omega (arith, below);
      is_other = let below = All-contains (λ n. n < 0 + length many) (numbers_from 0 many) two.other (numbers_below 0 many) two.is_other in omega (arith, below);
      differ = two.differ;
      same = two.same;
    }

    by : (t : Bool) → nat_lt 16384 (43 * length many) ≡ t → (a ≡ b) ⊎ TwoNamesCollide (length many)
    by false is =
        let few : 43 * length many ≤ 16384 = grind (arith, nat_tests, is) in
        inl (h.plain few ∙ sym (k.plain few))
    by true is =
        let more : 16384 < 43 * length many = grind (arith, nat_tests, is) in
        let oa = h.sharded more in
        let ob = k.sharded more in
        elim (one_of_orders (λ n. name_hash (file_name n)) (numbers_from 0 many) a b oa.permutation ob.permutation oa.ascends ob.ascends) [
          | inl same ↦ inl same
          | inr two ↦ inr (tied two)
        ]

-- the texts by the order of the files of `many`
abbrev bundle_in : Drawn → List ℕ → List ℕ
bundle_in drawn order =
    dir_line (codes "/") ++ (file_record (codes "/big") drawn.big ++ (dir_line (codes "/empty")
    ++ (dir_line (codes "/many") ++ (files_bundled drawn.many order ++ file_record (codes "/none") []))))

abbrev texts_with : Drawn → List ℕ → List (List ℕ)
texts_with drawn bundle =
    bundle ∷ part 1048575 2 drawn.big ∷ last_of 5 drawn.big ∷ [] ∷ listing (named_from 0 drawn.many) ∷ [] ∷ dir_line (codes "/") ∷ first_of drawn.many ∷ []

one_expected : (drawn : Drawn) (a b : List Hashed) → AreExpected drawn a → AreExpected drawn b → (a ≡ b) ⊎ TwoNamesCollide (length drawn.many)
one_expected drawn a b h k = elim (one_order drawn.many h.texts_are.bundle_is.order k.texts_are.bundle_is.order h.texts_are.bundle_is.order_is k.texts_are.bundle_is.order_is) [
  | inl same ↦ inl (
      let bundles : h.texts_are.bundle ≡ k.texts_are.bundle =
      h.texts_are.bundle_is.text_is ∙ (ap (bundle_in drawn) same ∙ sym k.texts_are.bundle_is.text_is) in
      let texts : h.texts ≡ k.texts = h.texts_are.are ∙ (ap (texts_with drawn) bundles ∙ sym k.texts_are.are) in
      one_hashed k.texts a b (subst (λ (l : List (List ℕ)). AreHashed l a) texts h.hashed_are) k.hashed_are
      )
  | inr two ↦ inr two
]

-- ---- the whole

module _ (one_layout : (options : LayoutOptions) (tree : Tree) (d e : Dag) → IsSound d → IsSound e → IsImportLayout d tree options → IsImportLayout e tree options → d ≡ e) where
  laid_out : (tree : Tree) (d : Dag) (content : List ℕ) → HoldsImported tree d content → IsImportLayout d tree (layout audit_options)
  laid_out tree d content h = record { shows = h.imported.shows; laid = h.imported.laid; plain = h.imported.plain }

  one_dag : (drawn : Drawn) (t u : Tree) (d e : Dag) (a b : List ℕ) → IsTreeOf drawn t → IsTreeOf drawn u → HoldsImported t d a → HoldsImported u e b → d ≡ e
  one_dag drawn t u d e a b ht hu hd he =
      let le = laid_out u e b he in
      one_layout (layout audit_options) t d e hd.imported.sound he.imported.sound (laid_out t d a hd)
      (record { shows = shows_both drawn e u t hu ht le.shows; laid = le.laid; plain = le.plain })

  pub one_text : OneAuditText
  one_text seed files text other h k =
      let drawn = h.drawn.drawn in
      let same_drawn : k.drawn.drawn ≡ drawn = one_drawn seed files k.drawn.drawn drawn k.drawn.drawn_is h.drawn.drawn_is in
      let tree_k : IsTreeOf drawn k.tree = subst (λ (x : Drawn). IsTreeOf x k.tree) same_drawn k.drawn.tree_is in
      let expected_k : AreExpected drawn k.expected = subst (λ (x : Drawn). AreExpected x k.expected) same_drawn k.drawn.expected_are in
      let dag : h.packed_is.d ≡ k.packed_is.d =
      one_dag drawn h.tree k.tree h.packed_is.d k.packed_is.d h.packed_is.content k.packed_is.content h.drawn.tree_is tree_k h.packed_is.holds k.packed_is.holds in
      let root : h.packed.root ≡ k.packed.root = h.packed_is.root ∙ (ap root_cid dag ∙ sym k.packed_is.root) in
      let counts : h.packed.summary ≡ k.packed.summary = h.packed_is.counts ∙ (ap counts_of dag ∙ sym k.packed_is.counts) in
      let count : length drawn.many ≡ files = h.drawn.drawn_is.many.count_is in
      elim (one_expected drawn h.expected k.expected h.drawn.expected_are expected_k) [
        | inl same ↦ inl (h.is_so.text_is
            ∙ (ap (λ (r : CidParts). summary_text r h.packed.summary h.expected) root
            ∙ (ap (λ (s : Summary). summary_text k.packed.root s h.expected) counts
            ∙ (ap (λ (l : List Hashed). summary_text k.packed.root k.packed.summary l) same ∙ sym k.is_so.text_is))))
        | inr two ↦ inr (subst TwoNamesCollide count two)
      ]
