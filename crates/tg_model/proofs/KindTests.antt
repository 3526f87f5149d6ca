-- The kind of a node by its links, their CIDs and its UnixFS data: what is computed is what the relations say.
use Rattle.std.proofs.Common.{◌≡◌, ℕ, ◌+◌, ◌≤◌, ◌⊎◌, inl, inr, Bool, false, Ok, List, [], ◌∷◌, length, map, refl, sym, ap, ◌∙◌, arith}
use Rattle.std.specs.List.{AllByRecursion}
use Rattle.std.specs.Prelude.{nat_lt, not, sum, ◌&&◌, ◌==◌, ◌^◌}
use Rattle.std.proofs.lemmas.Bool.{and_cases, and_from, and_left, and_parts, and_right, cases_eq, eq-eqb, eqb-false, eqb-true, le-ltb, lt-ltb, ltb-false, ltb-true, ne_eqb, not-false, not-true, not_from_false, not_from_true}
use Rattle.std.proofs.lemmas.List.Elements.{All-from_recursion, recursion_from_All}
use Rattle.tg_cid.specs.Cid.{CidParts}
use Rattle.tg_dagpb.specs.declared.Link.{Link}
use Rattle.tg_model.proofs.ComputedSteps.{after_ok, after_told, ok_same, one_value, unless_at_ok, unless_at_told, unless_ok, unless_told}
use Rattle.tg_model.proofs.NameTests.{good_decides, no_doubled, no_first, none_doubled, none_first}
use Rattle.tg_model.proofs.SlotLinks.{slots_count, slots_names, slots_ok, slots_told}
use Rattle.tg_model.specs.Computed.{basic_kind, file_kind, has_bad_suffix, is_good_name, is_wrong_count, kind_by, shard_kind, symlink_kind}
use Rattle.tg_model.specs.EntryNames.{IsGoodName}
use Rattle.tg_model.specs.Reading.{ReadsBasic, ReadsFile, ReadsShard, ReadsSymlink, entries_of, inline_of, name_of, parts_of, used_slots}
use Rattle.tg_model.specs.declared.kinds.Kind.{Kind}
use Rattle.tg_model.specs.declared.kinds.Kind.TheVariants.{Basic, File, Shard, Symlink}
use Rattle.tg_unixfs.specs.Unix.{IsKind}
use Rattle.tg_unixfs.specs.declared.Unix.{Unix}

-- a list with no element
no_element : {A : Type 0} (xs : List A) → length xs ≡ 0 → xs ≡ []
no_element [] e = refl
no_element (x ∷ xs) e = absurd (omega arith)

-- ---- files

-- a file has links only where it isn't raw
raw_told : (links : List Link) (cids : List CidParts) (type : ℕ) → length links ≡ length cids → (type == 0 && not (length cids == 0)) ≡ false → type ≡ 0 → links ≡ []
raw_told links cids type n e is = elim (and_cases (type == 0) (not (length cids == 0)) e) [
  | inl other ↦ absurd (eqb-false type 0 other is)
  | inr none ↦ no_element links (n ∙ eqb-true (length cids) 0 (not-false (length cids == 0) none))
]

-- and the converse
raw_ok : (links : List Link) (cids : List CidParts) (type : ℕ) → length links ≡ length cids → (type ≡ 0 → links ≡ []) → (type == 0 && not (length cids == 0)) ≡ false
raw_ok links cids type n raw = elim (cases_eq type 0) [
  | inl is ↦ (
      let none : length links ≡ 0 = ap (λ (ls : List Link). length ls) (raw is) in
      and_right (type == 0) (not (length cids == 0)) (not_from_true (length cids == 0) (eq-eqb (length cids) 0 (sym n ∙ none))))
  | inr other ↦ and_left (type == 0) (not (length cids == 0)) (ne_eqb type 0 other)
]

-- a file's size in bytes
abbrev content_size : Unix → ℕ
content_size unix = length (inline_of unix) + sum unix.sizes

-- a file that is computed is one by the relation
file_told : (links : List Link) (cids : List CidParts) (unix : Unix) (kind : Kind) → (unix.kind ≡ 0) ⊎ (unix.kind ≡ 2) → length links ≡ length cids
    → file_kind cids unix ≡ Ok kind → ReadsFile links cids unix kind
file_told links cids unix kind type n e =
    let (many, rest) = unless_told _ _ _ kind e in
    let (fits, more) = unless_told _ _ _ kind rest in
    let (shape, is) = unless_told _ _ _ kind more in
    record {
      type_is = type;
      raw = raw_told links cids unix.kind n shape;
      as_many = eqb-true (length unix.sizes) (length cids) (not-false (length unix.sizes == length cids) many) ∙ sym n;
      fits = ltb-true (content_size unix) (2 ^ 63) (not-false (nat_lt (content_size unix) (2 ^ 63)) fits);
      kind_is = sym (one_value (File (inline_of unix) unix.filesize (parts_of cids unix.sizes)) kind is);
    }

-- and the converse
file_ok : (links : List Link) (cids : List CidParts) (unix : Unix) (kind : Kind) → length links ≡ length cids → ReadsFile links cids unix kind
    → file_kind cids unix ≡ Ok kind
file_ok links cids unix kind n h =
    unless_ok _ _ _ kind (not_from_true (length unix.sizes == length cids) (eq-eqb (length unix.sizes) (length cids) (h.as_many ∙ n)))
    (unless_ok _ _ _ kind (not_from_true (nat_lt (content_size unix) (2 ^ 63)) (lt-ltb (content_size unix) (2 ^ 63) h.fits))
    (unless_ok _ _ _ kind (raw_ok links cids unix.kind n h.raw) (ok_same (File (inline_of unix) unix.filesize (parts_of cids unix.sizes)) kind (sym h.kind_is))))

-- ---- directories in one block

-- a name that is no good one
abbrev is_bad_name : List ℕ → Bool
is_bad_name name = not (is_good_name name)

-- names of which none is bad are good
good_names : (names : List (List ℕ)) → AllByRecursion (λ name. is_bad_name name ≡ false) names → AllByRecursion IsGoodName names
good_names [] all = tt
good_names (name ∷ names) all = ((good_decides name).0 (not-false (is_good_name name) all.0), good_names names all.1)

-- and the converse
no_bad_names : (names : List (List ℕ)) → AllByRecursion IsGoodName names → AllByRecursion (λ name. is_bad_name name ≡ false) names
no_bad_names [] all = tt
no_bad_names (name ∷ names) all = (not_from_true (is_good_name name) ((good_decides name).1 all.0), no_bad_names names all.1)

-- a directory that is computed is one by the relation
basic_told : (links : List Link) (cids : List CidParts) (unix : Unix) (kind : Kind) → unix.kind ≡ 1 → basic_kind links cids ≡ Ok kind → ReadsBasic links cids unix kind
basic_told links cids unix kind type e =
    let names = map name_of links in
    let (good, rest) = unless_at_told _ _ _ kind e in
    let (differ, is) = unless_at_told _ _ _ kind rest in
    record {
      type_is = type;
      good = All-from_recursion IsGoodName names (good_names names (none_first is_bad_name 0 names good));
      differ = none_doubled names differ;
      kind_is = sym (one_value (Basic (entries_of links cids)) kind is);
    }

-- and the converse
basic_ok : (links : List Link) (cids : List CidParts) (unix : Unix) (kind : Kind) → ReadsBasic links cids unix kind → basic_kind links cids ≡ Ok kind
basic_ok links cids unix kind h =
    let names = map name_of links in
    unless_at_ok _ _ _ kind (no_first is_bad_name 0 names (no_bad_names names (recursion_from_All IsGoodName names h.good)))
    (unless_at_ok _ _ _ kind (no_doubled names h.differ) (ok_same (Basic (entries_of links cids)) kind (sym h.kind_is)))

-- ---- shards

-- the count of links is right where the bits are few and as many are set
count_told : (bits : List ℕ) (links : List Link) → is_wrong_count bits links ≡ false → (length bits ≤ 32) × (length (used_slots bits) ≡ length links)
count_told bits links e =
    let right = not-false (not (nat_lt 32 (length bits)) && length (used_slots bits) == length links) e in
    let (few, many) = and_parts (not (nat_lt 32 (length bits))) (length (used_slots bits) == length links) right in
    (ltb-false 32 (length bits) (not-true (nat_lt 32 (length bits)) few), eqb-true (length (used_slots bits)) (length links) many)

-- and the converse
pub count_ok : (bits : List ℕ) (links : List Link) → length bits ≤ 32 → length (used_slots bits) ≡ length links → is_wrong_count bits links ≡ false
count_ok bits links few many =
    not_from_true (not (nat_lt 32 (length bits)) && length (used_slots bits) == length links)
    (and_from (not (nat_lt 32 (length bits))) (length (used_slots bits) == length links)
    (not_from_false (nat_lt 32 (length bits)) (le-ltb 32 (length bits) few)) (eq-eqb (length (used_slots bits)) (length links) many))

-- a shard that is computed is one by the relation
shard_told : (links : List Link) (cids : List CidParts) (unix : Unix) (kind : Kind) → unix.kind ≡ 5 → length links ≡ length cids
    → shard_kind links cids (inline_of unix) ≡ Ok kind → ReadsShard links cids unix kind
shard_told links cids unix kind type n e =
    let bits = inline_of unix in
    let (good, rest) = unless_at_told _ _ _ kind e in
    let (count, more) = unless_told _ _ _ kind rest in
    let (slots, found, is) = after_told _ _ kind more in
    let (few, many) = count_told bits links count in
    record {
      type_is = type;
      few = few;
      slots = slots;
      slots_are = slots_told 0 (used_slots bits) links cids slots many n (none_first has_bad_suffix 0 links good) found;
      kind_is = sym (one_value (Shard slots) kind is);
    }

-- and the converse
shard_ok : (links : List Link) (cids : List CidParts) (unix : Unix) (kind : Kind) → ReadsShard links cids unix kind → shard_kind links cids (inline_of unix) ≡ Ok kind
shard_ok links cids unix kind h =
    let bits = inline_of unix in
    unless_at_ok _ _ _ kind (no_first has_bad_suffix 0 links (slots_names (used_slots bits) links cids h.slots h.slots_are))
    (unless_ok _ _ _ kind (count_ok bits links h.few (slots_count (used_slots bits) links cids h.slots h.slots_are))
    (after_ok _ _ h.slots kind (slots_ok 0 (used_slots bits) links cids h.slots h.slots_are)
    (ok_same (Shard h.slots) kind (sym h.kind_is))))

-- ---- symbolic links

-- a symbolic link that is computed is one by the relation
symlink_told : (links : List Link) (unix : Unix) (kind : Kind) → unix.kind ≡ 4 → symlink_kind links unix ≡ Ok kind → ReadsSymlink links unix kind
symlink_told links unix kind type e =
    let (none, is) = unless_told _ _ _ kind e in
    record {
      type_is = type;
      no_links = no_element links (eqb-true (length links) 0 (not-false (length links == 0) none));
      kind_is = sym (one_value (Symlink (inline_of unix)) kind is);
    }

-- and the converse
symlink_ok : (links : List Link) (unix : Unix) (kind : Kind) → ReadsSymlink links unix kind → symlink_kind links unix ≡ Ok kind
symlink_ok links unix kind h =
    let none : length links ≡ 0 = ap (λ (ls : List Link). length ls) h.no_links in
    unless_ok _ _ _ kind (not_from_true (length links == 0) (eq-eqb (length links) 0 none)) (ok_same (Symlink (inline_of unix)) kind (sym h.kind_is))

-- ---- by the type of the data

-- the node with these links and this data is of this kind
abbrev pub ReadsKind : List Link → List CidParts → Unix → Kind → Type 0
ReadsKind links cids unix kind = ReadsFile links cids unix kind ⊎ (ReadsBasic links cids unix kind ⊎ (ReadsShard links cids unix kind ⊎ ReadsSymlink links unix kind))

-- the same data with its type known
typed : (links : List Link) (cids : List CidParts) (unix : Unix) (type : ℕ) → unix.kind ≡ type → kind_by unix.kind links cids unix ≡ kind_by type links cids unix
typed links cids unix type is = ap (λ (t : ℕ). kind_by t links cids unix) is

-- a kind that is computed is the one that the relations say
pub kind_told : (links : List Link) (cids : List CidParts) (unix : Unix) (kind : Kind) → IsKind unix.kind → length links ≡ length cids
    → kind_by unix.kind links cids unix ≡ Ok kind → ReadsKind links cids unix kind
kind_told links cids unix kind (inl raw) n e = inl (file_told links cids unix kind (inl raw) n (sym (typed links cids unix 0 raw) ∙ e))
kind_told links cids unix kind (inr (inl basic)) n e = inr (inl (basic_told links cids unix kind basic (sym (typed links cids unix 1 basic) ∙ e)))
kind_told links cids unix kind (inr (inr (inl file))) n e = inl (file_told links cids unix kind (inr file) n (sym (typed links cids unix 2 file) ∙ e))
kind_told links cids unix kind (inr (inr (inr (inl symlink)))) n e = inr (inr (inr (symlink_told links unix kind symlink (sym (typed links cids unix 4 symlink) ∙ e))))
kind_told links cids unix kind (inr (inr (inr (inr shard)))) n e = inr (inr (inl (shard_told links cids unix kind shard n (sym (typed links cids unix 5 shard) ∙ e))))

-- the types of files
file_typed : (links : List Link) (cids : List CidParts) (unix : Unix) → (unix.kind ≡ 0) ⊎ (unix.kind ≡ 2) → kind_by unix.kind links cids unix ≡ file_kind cids unix
file_typed links cids unix (inl raw) = typed links cids unix 0 raw
file_typed links cids unix (inr file) = typed links cids unix 2 file

-- and the converse
pub kind_ok : (links : List Link) (cids : List CidParts) (unix : Unix) (kind : Kind) → length links ≡ length cids → ReadsKind links cids unix kind
    → kind_by unix.kind links cids unix ≡ Ok kind
kind_ok links cids unix kind n (inl h) = file_typed links cids unix h.type_is ∙ file_ok links cids unix kind n h
kind_ok links cids unix kind n (inr (inl h)) = typed links cids unix 1 h.type_is ∙ basic_ok links cids unix kind h
kind_ok links cids unix kind n (inr (inr (inl h))) = typed links cids unix 5 h.type_is ∙ shard_ok links cids unix kind h
kind_ok links cids unix kind n (inr (inr (inr h))) = typed links cids unix 4 h.type_is ∙ symlink_ok links unix kind h
