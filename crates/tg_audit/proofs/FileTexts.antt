-- What is said of a drawn file: its record in a bundle, its CID, its name in a path, and the order of such names.
use Rattle.sha2.specs.Sha256.{sha256}
use Rattle.std.proofs.Common.{Bool, Contains, List, None, Some, [], ap, ap₂, append_assoc, arith, cond, false, inl, inr, length, refl, subst, suc, sym, true, zero, ℕ, ◌%◌, ◌*◌, ◌++◌, ◌+◌, ◌/◌, ◌<◌, ◌∙◌, ◌∷◌, ◌≡◌, ◌≤◌}
use Rattle.std.proofs.Math.Nat.{div-div-eq-div-mul}
use Rattle.std.proofs.lemmas.Bool.{cases_order, le-ltb, lt-ltb}
use Rattle.std.proofs.lemmas.List.Elements.{All-head}
use Rattle.std.proofs.lemmas.Slice.Eq.{bytes_eq-Decides}
use Rattle.std.specs.Map.{keys_of, lookup}
use Rattle.std.specs.Prelude.{bytes_eq, if◌then◌else◌, nat_lt}
use Rattle.tg_audit.proofs.DirectoryTexts.{digest_is}
use Rattle.tg_audit.proofs.FileNames.{none_above, same_with_digit}
use Rattle.tg_audit.proofs.FileSizes.{IsAt, not_folder, some_one}
use Rattle.tg_audit.proofs.Members.{first_one, other_one}
use Rattle.tg_audit_texts.specs.Expected.{bytes_at, file_record, raw_cid_of}
use Rattle.tg_bytes.specs.Ascii.{line_feed}
use Rattle.tg_cid.specs.Cid.{CidParts}
use Rattle.tg_cid.specs.declared.cid.Codec.{Codec}
use Rattle.tg_cid.specs.declared.cid.Codec.TheVariants as codecs
use Rattle.tg_draws.specs.Draws.{FilesDrawn, file, no_file}
use Rattle.tg_draws.specs.Trees.{AreFilesFrom, IsFileOf, digit_of, file_name}
use Rattle.tg_model.specs.Answer.{bundle}
use Rattle.tg_model.specs.Content.{content, content_of_children, part_positions}
use Rattle.tg_model.specs.Dag.{Dag, bare, blocks_of_children, node, root_cid, total_of, unopened}
use Rattle.tg_model.specs.ImportLayout.{HasPlainCid}
use Rattle.tg_model.specs.Reading.{ReadsUnder}
use Rattle.tg_model.specs.ShowsTree.{Shows}
use Rattle.tg_model.specs.Sound.{top}
use Rattle.tg_model.specs.Texts.{escaped, escaped_byte, file_line, is_before}
use Rattle.tg_model.specs.declared.kinds.Kind.TheVariants.{Basic, File, Raw, Shard, Symlink}
use Rattle.tg_model_laws.specs.FileSizes.{TotalIsLength}
use Rattle.tg_tree.specs.declared.tree.Tree.{Tree}

-- ---- its record

pub file_bundle : TotalIsLength → (path bytes : List ℕ) (tree : Tree) (d : Dag) → IsAt top d → IsFileOf bytes tree → Shows d tree → bundle path d ≡ file_record path bytes
file_bundle sizes path bytes tree (unopened cid) h is shown = absurd shown
file_bundle sizes path bytes tree (bare section fault) h is shown = absurd shown
file_bundle sizes path bytes tree (node section Raw children) h is shown = ap (file_record path) (some_one section.block bytes (sym shown ∙ is))
file_bundle sizes path bytes tree (node section (File inline filesize parts) children) h is shown =
    let d = node section (File inline filesize parts) children in
    let rest = content_of_children (part_positions top (File inline filesize parts)) children in
    let total : length (content d) ≡ total_of section (File inline filesize parts) = sizes d (record { whole = h.whole; checked = h.checked }) tt in
    ap (λ (n : ℕ). file_line n path ++ (inline ++ (rest ++ line_feed ∷ []))) (sym total)
    ∙ ap (λ (l : List ℕ). file_line (length (content d)) path ++ l) (sym (append_assoc inline rest (line_feed ∷ [])))
    ∙ ap (file_record path) (some_one (content d) bytes (sym shown ∙ is))
file_bundle sizes path bytes tree (node section (Basic es) children) h is shown = absurd (not_folder tree bytes is shown.0.folder)
file_bundle sizes path bytes tree (node section (Shard slots) children) h is shown = absurd (not_folder tree bytes is shown.0.folder)
file_bundle sizes path bytes tree (node section (Symlink target) children) h is shown = absurd h.laid

-- ---- its CID

same_cid : (a b : CidParts) → a.version ≡ b.version → a.codec ≡ b.codec → a.hash ≡ b.hash → a.digest ≡ b.digest → a ≡ b
same_cid a b v c h d = λ i. record { version = v i; codec = c i; hash = h i; digest = d i }

raw_codec : (codec : Codec) (block : List ℕ) → ReadsUnder codec block Raw → codec ≡ codecs.Raw
raw_codec codecs.Raw block r = refl
raw_codec codecs.DagPb block r = elim r.reads [
  | inl whole ↦ let e = whole.kind_is in absurd (cc)
  | inr (inl basic) ↦ let e = basic.kind_is in absurd (cc)
  | inr (inr (inl shard)) ↦ let e = shard.kind_is in absurd (cc)
  | inr (inr (inr link)) ↦ let e = link.kind_is in absurd (cc)
]

-- a file of at most one chunk is a raw block
pub leaf_cid : (bytes : List ℕ) (tree : Tree) (d : Dag) → IsAt top d → IsFileOf bytes tree → Shows d tree → length bytes ≤ 1048576 → root_cid d ≡ raw_cid_of (sha256 bytes)
leaf_cid bytes tree (unopened cid) h is shown few = absurd shown
leaf_cid bytes tree (bare section fault) h is shown few = absurd shown
leaf_cid bytes tree (node section Raw children) h is shown few =
    let plain = All-head HasPlainCid section (blocks_of_children children) h.plain in
    same_cid section.cid (raw_cid_of (sha256 bytes)) plain.0 (raw_codec section.cid.codec section.block h.checked.0.reads) plain.1
    (digest_is top section Raw children h ∙ ap sha256 (some_one section.block bytes (sym shown ∙ is)))
leaf_cid bytes tree (node section (File inline filesize parts) children) h is shown few =
    let same : length (content (node section (File inline filesize parts) children)) ≡ length bytes =
    ap length (some_one (content (node section (File inline filesize parts) children)) bytes (sym shown ∙ is)) in
    let leaf = h.laid.0.small (omega (arith, same, few)) in
    absurd (cc leaf.1)
leaf_cid bytes tree (node section (Basic es) children) h is shown few = absurd (not_folder tree bytes is shown.0.folder)
leaf_cid bytes tree (node section (Shard slots) children) h is shown few = absurd (not_folder tree bytes is shown.0.folder)
leaf_cid bytes tree (node section (Symlink target) children) h is shown few = absurd h.laid

-- ---- its name in a path

plain_digit : (d : ℕ) → d < 10 → escaped_byte (48 + d) ≡ (48 + d) ∷ []
plain_digit zero h = refl
plain_digit (suc zero) h = refl
plain_digit (suc (suc zero)) h = refl
plain_digit (suc (suc (suc zero))) h = refl
plain_digit (suc (suc (suc (suc zero)))) h = refl
plain_digit (suc (suc (suc (suc (suc zero))))) h = refl
plain_digit (suc (suc (suc (suc (suc (suc zero)))))) h = refl
plain_digit (suc (suc (suc (suc (suc (suc (suc zero))))))) h = refl
plain_digit (suc (suc (suc (suc (suc (suc (suc (suc zero)))))))) h = refl
plain_digit (suc (suc (suc (suc (suc (suc (suc (suc (suc zero))))))))) h = refl
plain_digit (suc (suc (suc (suc (suc (suc (suc (suc (suc (suc d)))))))))) h = absurd (omega (arith, h))

plain_more : (ones n : ℕ) (name : List ℕ) → escaped name ≡ name → escaped (digit_of ones n ∷ name) ≡ digit_of ones n ∷ name
plain_more ones n name rest = ap₂ (λ (a b : List ℕ). a ++ b) (plain_digit (n / ones % 10) (omega arith)) rest

pub plain_name : (n : ℕ) → escaped (file_name n) ≡ file_name n
plain_name n =
    ap (λ (l : List ℕ). 102 ∷ l)
    (plain_more 100000 n _ (plain_more 10000 n _ (plain_more 1000 n _ (plain_more 100 n _ (plain_more 10 n _ (plain_more 1 n [] refl))))))

-- ---- the order of names is that of numbers

less_tens : (a b : ℕ) → a / 10 ≡ b / 10 → 48 + a % 10 < 48 + b % 10 → a < b
less_tens a b tens less = omega (arith, tens, less)

-- where the digits above are the same: by this one, or else by those below it
digit_before : (ones a b : ℕ) (as_ bs : List ℕ) → ((x y : ℕ) → x / ones < y / ones → x < y) → a / (ones * 10) ≡ b / (ones * 10)
    → (a / ones ≡ b / ones → is_before as_ bs ≡ nat_lt a b) → is_before (digit_of ones a ∷ as_) (digit_of ones b ∷ bs) ≡ nat_lt a b
digit_before ones a b as_ bs up above below = elim (cases_order (digit_of ones a) (digit_of ones b)) [
  | inl same ↦
      ap₂ (λ (p q : Bool). if p then true else (if q then false else is_before as_ bs))
      (le-ltb (digit_of ones a) (digit_of ones b) (omega (arith, same))) (le-ltb (digit_of ones b) (digit_of ones a) (omega (arith, same)))
      ∙ below (same_with_digit ones a b above same)
  | inr (inl less) ↦
      ap (λ (p : Bool). if p then true else (if nat_lt (digit_of ones b) (digit_of ones a) then false else is_before as_ bs)) (lt-ltb (digit_of ones a) (digit_of ones b) less)
      ∙ sym (lt-ltb a b (up a b (less_tens (a / ones) (b / ones) tens less)))
  | inr (inr more) ↦
      ap₂ (λ (p q : Bool). if p then true else (if q then false else is_before as_ bs))
      (le-ltb (digit_of ones a) (digit_of ones b) (omega (arith, more))) (lt-ltb (digit_of ones b) (digit_of ones a) more)
      ∙ sym (le-ltb a b (let least = up b a (less_tens (b / ones) (a / ones) (sym tens) more) in omega (arith, least)))
]
  where
    tens : a / ones / 10 ≡ b / ones / 10
    tens = div-div-eq-div-mul a ones 10 ∙ above ∙ sym (div-div-eq-div-mul b ones 10)

-- the digits of a name from one on
abbrev ones_on : ℕ → List ℕ
ones_on n = digit_of 1 n ∷ []

abbrev tens_on : ℕ → List ℕ
tens_on n = digit_of 10 n ∷ ones_on n

abbrev hundreds_on : ℕ → List ℕ
hundreds_on n = digit_of 100 n ∷ tens_on n

abbrev thousands_on : ℕ → List ℕ
thousands_on n = digit_of 1000 n ∷ hundreds_on n

abbrev ten_thousands_on : ℕ → List ℕ
ten_thousands_on n = digit_of 10000 n ∷ thousands_on n

pub file_order : (a b : ℕ) → a < 1000000 → b < 1000000 → is_before (file_name a) (file_name b) ≡ nat_lt a b
file_order a b ha hb =
    digit_before 100000 a b (ten_thousands_on a) (ten_thousands_on b) (λ x y less. omega (arith, less)) (none_above a ha ∙ sym (none_above b hb)) (λ s5.
    digit_before 10000 a b (thousands_on a) (thousands_on b) (λ x y less. omega (arith, less)) s5 (λ s4.
    digit_before 1000 a b (hundreds_on a) (hundreds_on b) (λ x y less. omega (arith, less)) s4 (λ s3.
    digit_before 100 a b (tens_on a) (tens_on b) (λ x y less. omega (arith, less)) s3 (λ s2.
    digit_before 10 a b (ones_on a) (ones_on b) (λ x y less. omega (arith, less)) s2 (λ s1.
    digit_before 1 a b [] [] (λ x y less. omega (arith, less)) s1 (λ s0. sym (le-ltb a b (omega (arith, s0)))))))))

-- ---- which file has a name

pub short_at : (state : ℕ) (files : List (List ℕ)) (behind : ℕ) → FilesDrawn state files behind → (k : ℕ) → length (bytes_at files k) ≤ 1048576
short_at state _ _ (no_file s) k = omega arith
short_at state _ _ (file s bytes between files behind d h) zero = let many = d.count_is in omega (arith, many)
short_at state _ _ (file s bytes between files behind d h) (suc k) = short_at between files behind h k

-- what has a name is the file with a number
pub file_at : (number : ℕ) (files : List (List ℕ)) (entries : List (List ℕ × Tree)) → AreFilesFrom number files entries → (name : List ℕ) (b : Tree)
    → lookup (bytes_eq name) entries ≡ Some b → (k : ℕ) × (k < length files) × (name ≡ file_name (number + k)) × IsFileOf (bytes_at files k) b
file_at number [] entries h name b at = absurd (let no : None ≡ Some b = sym (ap (lookup (bytes_eq name)) h) ∙ at in cc no)
file_at number (bytes ∷ files) [] h name b at = absurd h
file_at number (bytes ∷ files) (e ∷ entries) h name b at = by (bytes_eq name e.0) refl at (λ at. file_at (number + 1) files entries h.2 name b at)
  where
    by : (t : Bool) → bytes_eq name e.0 ≡ t → cond t (Some e.1) (lookup (bytes_eq name) entries) ≡ Some b
        → (lookup (bytes_eq name) entries ≡ Some b → (k : ℕ) × (k < length files) × (name ≡ file_name ((number + 1) + k)) × IsFileOf (bytes_at files k) b)
        → (k : ℕ) × (k < length (bytes ∷ files)) × (name ≡ file_name (number + k)) × IsFileOf (bytes_at (bytes ∷ files) k) b
    by true is at on =
        let same : e.1 ≡ b = cc at in
        let none : number ≡ number + 0 = omega arith in
        (0, omega arith, (bytes_eq-Decides name e.0).0 is ∙ h.0 ∙ ap file_name none, subst (IsFileOf bytes) same h.1)
    by false is at on =
        let (k, less, named, is_file) = on at in
        let next : (number + 1) + k ≡ number + suc k = omega arith in
        (suc k, omega (arith, less), named ∙ ap file_name next, is_file)

-- and each number's name is one
pub file_in : (number : ℕ) (files : List (List ℕ)) (entries : List (List ℕ × Tree)) → AreFilesFrom number files entries → (k : ℕ) → k < length files
    → Contains (keys_of entries) (file_name (number + k))
file_in number [] entries h k less = absurd (omega (arith, less))
file_in number (bytes ∷ files) [] h k less = absurd h
file_in number (bytes ∷ files) (e ∷ entries) h zero less =
    let none : number ≡ number + 0 = omega arith in
    subst (Contains (e.0 ∷ keys_of entries)) (h.0 ∙ ap file_name none) (first_one e.0 (keys_of entries))
file_in number (bytes ∷ files) (e ∷ entries) h (suc k) less =
    let next : (number + 1) + k ≡ number + suc k = omega arith in
    other_one e.0 (file_name (number + suc k)) (keys_of entries)
    (subst (λ (n : ℕ). Contains (keys_of entries) (file_name n)) next (file_in (number + 1) files entries h.2 k (omega (arith, less))))
