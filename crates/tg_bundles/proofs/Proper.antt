-- The records of a sound DAG are proper: what its blocks read as has names that aren't empty, and sizes within their limits.
use Rattle.std.proofs.Common.{All, List, None, Option, Some, [], ap, arith, inl, inr, length, map, sum}
use Rattle.std.proofs.Common.{sym, ℕ, ◌+◌, ◌++◌, ◌-◌, ◌<◌, ◌==◌, ◌^◌, ◌∷◌, ◌≡◌, ◌≢◌, ◌≤◌}
use Rattle.std.proofs.lemmas.Bool.{cond_both}
use Rattle.std.proofs.lemmas.List.{length-drop, length-take}
use Rattle.std.proofs.lemmas.List.Elements.{All-append, All-cons, All-head, All-nil, All-same, All-tail}
use Rattle.std.proofs.lemmas.List.Sums.{sum_by-cons}
use Rattle.std.specs.Prelude.{drop, slice_range, unwrap_or, ⊤}
use Rattle.tg_bundles.specs.Reading.{AreNames, IsCounted, IsProper, RecordsAreProper, RecordsHaveNames, path_of}
use Rattle.tg_bundles.specs.Records.{Record, file, folder, link, records_inside, records_of, records_of_entries, records_of_slots, slot_records}
use Rattle.tg_cid.specs.Cid.{CidParts}
use Rattle.tg_cid.specs.declared.cid.Codec.{Codec}
use Rattle.tg_cid.specs.declared.cid.Codec.TheVariants as codecs
use Rattle.tg_dagpb.specs.declared.Link.{Link}
use Rattle.tg_model.specs.Content.{content}
use Rattle.tg_model.specs.Dag.{AreWhole, Children, Dag, IsWhole, Section, bare, blocks, blocks_of_children, no_child, node, unopened, with_child}
use Rattle.tg_model.specs.EntryNames.{IsGoodName}
use Rattle.tg_model.specs.Reading.{AreSlots, IsSlotName, Reads, ReadsNode, ReadsUnder, entries_of, inline_of, name_of, parts_of}
use Rattle.tg_model.specs.Sound.{AreCheckedAt, IsCheckedAt, Position, child, passed, position_by_name, slot_position, top}
use Rattle.tg_model.specs.declared.kinds.Entry.{Entry}
use Rattle.tg_model.specs.declared.kinds.Kind.TheVariants.{Basic, File, Raw, Shard, Symlink}
use Rattle.tg_model.specs.declared.kinds.Part.{Part}
use Rattle.tg_model.specs.declared.kinds.Slot.{Slot}
use Rattle.tg_model_laws.specs.FileSizes.{TotalIsLength}
use Rattle.tg_pbtable.specs.Values.{bytes_at, bytes_in, listed}
use Rattle.tg_pbtable.specs.declared.table.Field.{Field}
use Rattle.tg_pbtable.specs.declared.table.Value.{Value}
use Rattle.tg_pbtable.specs.declared.table.Value.TheVariants.{Number, Place}

-- ---- names that blocks have

good_some : (name : List ℕ) → IsGoodName name → name ≢ []
good_some name good e = omega (arith, good.not_empty, ap length e)

-- the names of a directory's entries
abbrev HaveNames : List Entry → Type 0
HaveNames es = All (λ (entry : Entry). entry.name ≢ []) es

listed_names : (links : List Link) (cids : List CidParts) → All IsGoodName (map name_of links) → HaveNames (entries_of links cids)
listed_names [] cids good = All-nil (λ (entry : Entry). entry.name ≢ [])
listed_names (l ∷ links) [] good = All-nil (λ (entry : Entry). entry.name ≢ [])
listed_names (l ∷ links) (cid ∷ cids) good =
    All-cons (λ (entry : Entry). entry.name ≢ []) (record { name = name_of l; cid = cid }) (entries_of links cids)
    (good_some (name_of l) (All-head IsGoodName (name_of l) (map name_of links) good))
    (listed_names links cids (All-tail IsGoodName (name_of l) (map name_of links) good))

node_names : (block : List ℕ) (es : List Entry) → ReadsNode block (Basic es) → HaveNames es
node_names block es h = elim h.reads [
  | inl f ↦ absurd (cc f.kind_is)
  | inr g ↦ elim g [
    | inl b ↦
        let same : es ≡ entries_of h.links h.cids = cc b.kind_is in
        All-same (λ (entry : Entry). entry.name ≢ []) es (entries_of h.links h.cids) same (listed_names h.links h.cids b.good)
    | inr s ↦ elim s [
      | inl a ↦ absurd (cc a.kind_is)
      | inr a ↦ absurd (cc a.kind_is)
    ]
  ]
]

entry_names : (codec : Codec) (block : List ℕ) (es : List Entry) → ReadsUnder codec block (Basic es) → HaveNames es
entry_names codecs.Raw block es h = absurd (cc h)
entry_names codecs.DagPb block es h = node_names block es h

-- and those of a shard's slots
abbrev IsNamed : Option (List ℕ) → Type 0
IsNamed None = ⊤
IsNamed (Some name) = name ≢ []

abbrev HaveSlotNames : List Slot → Type 0
HaveSlotNames slots = All (λ (slot : Slot). IsNamed slot.name) slots

slot_named : (suffix : List ℕ) (name : Option (List ℕ)) → IsSlotName suffix name → IsNamed name
slot_named suffix None h = tt
slot_named suffix (Some name) h = good_some name h.1

numbered_names : (numbers : List ℕ) (links : List Link) (cids : List CidParts) (slots : List Slot) → AreSlots numbers links cids slots → HaveSlotNames slots
numbered_names numbers links cids [] h = All-nil (λ (slot : Slot). IsNamed slot.name)
numbered_names [] [] [] (slot ∷ slots) h = absurd h
numbered_names [] [] (cid ∷ cids) (slot ∷ slots) h = absurd h
numbered_names [] (l ∷ links) cids (slot ∷ slots) h = absurd h
numbered_names (n ∷ numbers) [] cids (slot ∷ slots) h = absurd h
numbered_names (n ∷ numbers) (l ∷ links) [] (slot ∷ slots) h = absurd h
numbered_names (n ∷ numbers) (l ∷ links) (cid ∷ cids) (slot ∷ slots) h =
    All-cons (λ (slot : Slot). IsNamed slot.name) slot slots (slot_named h.0.suffix slot.name h.0.name_is) (numbered_names numbers links cids slots h.1)

node_slots : (block : List ℕ) (slots : List Slot) → ReadsNode block (Shard slots) → HaveSlotNames slots
node_slots block slots h = elim h.reads [
  | inl f ↦ absurd (cc f.kind_is)
  | inr g ↦ elim g [
    | inl b ↦ absurd (cc b.kind_is)
    | inr s ↦ elim s [
      | inl a ↦
          let same : slots ≡ a.slots = cc a.kind_is in
          All-same (λ (slot : Slot). IsNamed slot.name) slots a.slots same (numbered_names _ h.links h.cids a.slots a.slots_are)
      | inr a ↦ absurd (cc a.kind_is)
    ]
  ]
]

slot_names : (codec : Codec) (block : List ℕ) (slots : List Slot) → ReadsUnder codec block (Shard slots) → HaveSlotNames slots
slot_names codecs.Raw block slots h = absurd (cc h)
slot_names codecs.DagPb block slots h = node_slots block slots h

-- ---- sizes that blocks have

-- a file's is limited by what its block is read as
parts_below : (cids : List CidParts) (sizes : List ℕ) → sum (map (λ (part : Part). part.size) (parts_of cids sizes)) ≤ sum sizes
parts_below [] sizes = omega arith
parts_below (cid ∷ cids) [] = omega arith
parts_below (cid ∷ cids) (size ∷ sizes) =
    omega (
      arith,
      sum_by-cons (λ (n : ℕ). n) size (map (λ (part : Part). part.size) (parts_of cids sizes)),
      sum_by-cons (λ (n : ℕ). n) size sizes,
      parts_below cids sizes,
    )

node_total : (block inline : List ℕ) (filesize : Option ℕ) (parts : List Part) → ReadsNode block (File inline filesize parts)
    → length inline + sum (map (λ (part : Part). part.size) parts) < 2 ^ 63
node_total block inline filesize parts h = elim h.reads [
  | inl f ↦
      let own : inline ≡ inline_of h.unix = cc f.kind_is in
      let same : parts ≡ parts_of h.cids h.unix.sizes = cc f.kind_is in
      omega (arith, f.fits, ap length own, ap (λ (l : List Part). sum (map (λ (part : Part). part.size) l)) same, parts_below h.cids h.unix.sizes)
  | inr g ↦ elim g [
    | inl b ↦ absurd (cc b.kind_is)
    | inr s ↦ elim s [
      | inl a ↦ absurd (cc a.kind_is)
      | inr a ↦ absurd (cc a.kind_is)
    ]
  ]
]

file_total : (codec : Codec) (block inline : List ℕ) (filesize : Option ℕ) (parts : List Part) → ReadsUnder codec block (File inline filesize parts)
    → length inline + sum (map (λ (part : Part). part.size) parts) < 2 ^ 63
file_total codecs.Raw block inline filesize parts h = absurd (cc h)
file_total codecs.DagPb block inline filesize parts h = node_total block inline filesize parts h

-- a symbolic link's target lies in its block
slice_within : (text : List ℕ) (start end : ℕ) → length (slice_range text start end) ≤ length text
slice_within text start end = omega (arith, length-take (end - start) (drop start text), length-drop start text)

abbrev AreWithin : List ℕ → List (List ℕ) → Type 0
AreWithin text texts = All (λ (bytes : List ℕ). length bytes ≤ length text) texts

value_within : (text : List ℕ) (value : Value) → AreWithin text (bytes_in text value)
value_within text (Number n) = All-nil (λ (bytes : List ℕ). length bytes ≤ length text)
value_within text (Place start end) =
    All-cons (λ (bytes : List ℕ). length bytes ≤ length text) (slice_range text start end) [] (slice_within text start end)
    (All-nil (λ (bytes : List ℕ). length bytes ≤ length text))

fields_within : (text : List ℕ) (number : ℕ) (fields : List Field) → AreWithin text (bytes_at text number fields)
fields_within text number [] = All-nil (λ (bytes : List ℕ). length bytes ≤ length text)
fields_within text number (field ∷ fields) =
    cond_both (field.number == number) (bytes_in text field.value ++ bytes_at text number fields) (bytes_at text number fields)
    (AreWithin text)
    (λ own. All-append (λ (bytes : List ℕ). length bytes ≤ length text) (bytes_in text field.value) (bytes_at text number fields)
    (value_within text field.value) (fields_within text number fields))
    (λ other. fields_within text number fields)

listed_within : (text : List ℕ) (number : ℕ) (fields : List Field) (o : Option (List ℕ)) → bytes_at text number fields ≡ listed o
    → length (unwrap_or o []) ≤ length text
listed_within text number fields None e = omega arith
listed_within text number fields (Some bytes) e =
    All-head (λ (b : List ℕ). length b ≤ length text) bytes []
    (All-same (λ (b : List ℕ). length b ≤ length text) (bytes ∷ []) (bytes_at text number fields) (sym e) (fields_within text number fields))

node_target : (block target : List ℕ) → ReadsNode block (Symlink target) → length target ≤ length block
node_target block target h = elim h.reads [
  | inl f ↦ absurd (cc f.kind_is)
  | inr g ↦ elim g [
    | inl b ↦ absurd (cc b.kind_is)
    | inr s ↦ elim s [
      | inl a ↦ absurd (cc a.kind_is)
      | inr a ↦
          let same : target ≡ inline_of h.unix = cc a.kind_is in
          let outer = listed_within block 1 h.node.node.fields (Some h.node.payload) h.node.node.parts.payload in
          let inner = listed_within h.node.payload 2 h.node.unix_is.fields h.unix.inline h.node.unix_is.parts.inline in
          omega (arith, ap length same, outer, inner)
    ]
  ]
]

link_size : (codec : Codec) (block target : List ℕ) → ReadsUnder codec block (Symlink target) → length target ≤ length block
link_size codecs.Raw block target h = absurd (cc h)
link_size codecs.DagPb block target h = node_target block target h

-- ---- what holds of each record of a sound DAG

below_names : (path : List (List ℕ)) (name : List ℕ) → AreNames path → name ≢ [] → AreNames (path ++ name ∷ [])
below_names path name are some =
    All-append (λ (n : List ℕ). n ≢ []) path (name ∷ []) are (All-cons (λ (n : List ℕ). n ≢ []) name [] some (All-nil (λ (n : List ℕ). n ≢ [])))

-- where it holds of those of one block
record EachKind (P : Record → Type 0) (Q : Section → Type 0) : Type 0 where
  folders : (path : List (List ℕ)) → AreNames path → P (folder path)
  raws : (path : List (List ℕ)) (section : Section) → AreNames path → Q section → P (file path section.block)
  files : (path : List (List ℕ)) (section : Section) (inline : List ℕ) (filesize : Option ℕ) (parts : List Part) (children : Children) → AreNames path
      → IsWhole (node section (File inline filesize parts) children) → IsCheckedAt top (node section (File inline filesize parts) children)
      → P (file path (content (node section (File inline filesize parts) children)))
  links : (path : List (List ℕ)) (section : Section) (target : List ℕ) → AreNames path → Reads section.cid section.block (Symlink target) → Q section
      → P (link path target)

module _ (P : Record → Type 0) (Q : Section → Type 0) (each : EachKind P Q) where
  alone : (entry : Record) → P entry → All P (entry ∷ [])
  alone entry h = All-cons P entry [] h (All-nil P)

  slot_each : (path : List (List ℕ)) (d : Dag) (above : List ℕ) (name : Option (List ℕ)) → IsCheckedAt (position_by_name above name) d
      → AreNames path → IsNamed name
      → (IsCheckedAt top d → (own : List (List ℕ)) → AreNames own → All P (records_of own d))
      → (IsCheckedAt (child above) d → All P (records_inside path d))
      → All P (slot_records (λ n. records_of (path ++ n ∷ []) d) (records_inside path d) name)
  slot_each path d above (Some name) c are named entry inside = entry c (path ++ name ∷ []) (below_names path name are named)
  slot_each path d above None c are named entry inside = inside c

  first_blocks : (d : Dag) (children : Children) → All Q (blocks d ++ blocks_of_children children) → All Q (blocks d) × All Q (blocks_of_children children)
  first_blocks d children h = parts_of_all (blocks d) (blocks_of_children children) h
    where
      parts_of_all : (a b : List Section) → All Q (a ++ b) → All Q a × All Q b
      parts_of_all [] b h = (All-nil Q, h)
      parts_of_all (x ∷ a) b h =
          let (first, rest) = parts_of_all a b (All-tail Q x (a ++ b) h) in
          (All-cons Q x a (All-head Q x (a ++ b) h) first, rest)

  mutual
    each_record : (d : Dag) (path : List (List ℕ)) → IsWhole d → IsCheckedAt top d → All Q (blocks d) → AreNames path → All P (records_of path d)
    each_record (unopened cid) path w c q are = All-nil P
    each_record (bare section fault) path w c q are = All-nil P
    each_record (node section Raw children) path w c q are =
        alone (file path section.block) (each.raws path section are (All-head Q section (blocks_of_children children) q))
    each_record (node section (File inline filesize parts) children) path w c q are =
        alone (file path (content (node section (File inline filesize parts) children))) (each.files path section inline filesize parts children are w c)
    each_record (node section (Basic es) children) path w c q are =
        All-cons P (folder path) (records_of_entries path es children) (each.folders path are)
        (each_entry es children path w c.1 (All-tail Q section (blocks_of_children children) q) are
        (entry_names section.cid.codec section.block es c.0.reads))
    each_record (node section (Shard slots) children) path w c q are =
        All-cons P (folder path) (records_of_slots path slots children) (each.folders path are)
        (each_slot [] slots children path w c.1 (All-tail Q section (blocks_of_children children) q) are
        (slot_names section.cid.codec section.block slots c.0.reads))
    each_record (node section (Symlink target) children) path w c q are =
        alone (link path target) (each.links path section target are c.0.reads (All-head Q section (blocks_of_children children) q))

    each_entry : (es : List Entry) (children : Children) (path : List (List ℕ)) → AreWhole children → AreCheckedAt (map (λ entry. top) es) children
        → All Q (blocks_of_children children) → AreNames path → HaveNames es → All P (records_of_entries path es children)
    each_entry es no_child path w c q are named = All-nil P
    each_entry [] (with_child d children) path w c q are named = All-nil P
    each_entry (entry ∷ es) (with_child d children) path w c q are named =
        let (own, others) = first_blocks d children q in
        All-append P (records_of (path ++ entry.name ∷ []) d) (records_of_entries path es children)
        (each_record d (path ++ entry.name ∷ []) w.0 c.0 own
        (below_names path entry.name are (All-head (λ (e : Entry). e.name ≢ []) entry es named)))
        (each_entry es children path w.1 c.1 others are (All-tail (λ (e : Entry). e.name ≢ []) entry es named))

    each_slot : (above : List ℕ) (slots : List Slot) (children : Children) (path : List (List ℕ)) → AreWhole children
        → AreCheckedAt (map (slot_position above) slots) children → All Q (blocks_of_children children) → AreNames path → HaveSlotNames slots
        → All P (records_of_slots path slots children)
    each_slot above slots no_child path w c q are named = All-nil P
    each_slot above [] (with_child d children) path w c q are named = All-nil P
    each_slot above (slot ∷ slots) (with_child d children) path w c q are named =
        let (own, others) = first_blocks d children q in
        All-append P (slot_records (λ n. records_of (path ++ n ∷ []) d) (records_inside path d) slot.name) (records_of_slots path slots children)
        (slot_each path d (above ++ slot.slot ∷ []) slot.name c.0 are (All-head (λ (s : Slot). IsNamed s.name) slot slots named)
        (λ h p below. each_record d p w.0 h own below) (λ h. each_inside (child (above ++ slot.slot ∷ [])) d path w.0 h own are))
        (each_slot above slots children path w.1 c.1 others are (All-tail (λ (s : Slot). IsNamed s.name) slot slots named))

    each_inside : (position : Position) (d : Dag) (path : List (List ℕ)) → IsWhole d → IsCheckedAt position d → All Q (blocks d) → AreNames path
        → All P (records_inside path d)
    each_inside position (unopened cid) path w c q are = All-nil P
    each_inside position (bare section fault) path w c q are = All-nil P
    each_inside position (node section Raw children) path w c q are = All-nil P
    each_inside position (node section (File inline filesize parts) children) path w c q are = All-nil P
    each_inside position (node section (Basic es) children) path w c q are = All-nil P
    each_inside position (node section (Shard slots) children) path w c q are =
        each_slot (passed position) slots children path w c.1 (All-tail Q section (blocks_of_children children) q) are
        (slot_names section.cid.codec section.block slots c.0.reads)
    each_inside position (node section (Symlink target) children) path w c q are = All-nil P

-- ---- the laws

pub records_have_names : RecordsHaveNames
records_have_names d path sound are =
    each_record (λ entry. AreNames (path_of entry)) (λ section. ⊤)
    (record {
      folders = λ p own. own;
      raws = λ p section own q. own;
      files = λ p section inline filesize parts children own w c. own;
      links = λ p section target own reads q. own;
    }) d path sound.whole sound.checked (λ k e h. tt) are

pub records_are_proper : TotalIsLength → RecordsAreProper
records_are_proper sizes d path sound are counted =
    each_record IsProper IsCounted
    (record {
      folders = λ p own. record { names = own; size = omega arith };
      raws = λ p section own q. record { names = own; size = q };
      files = λ p section inline filesize parts children own w c.
          let d = node section (File inline filesize parts) children in
          let total = file_total section.cid.codec section.block inline filesize parts c.0.reads in
          record { names = own; size = omega (arith, sizes d (record { whole = w; checked = c }) tt, total) };
      links = λ p section target own reads q.
          record { names = own; size = omega (arith, link_size section.cid.codec section.block target reads, q) };
    }) d path sound.whole sound.checked counted are
