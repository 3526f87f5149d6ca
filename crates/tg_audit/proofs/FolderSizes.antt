-- What a directory of light files in the importer's layout takes at most.
use Rattle.std.proofs.Common.{All, List, None, Option, Some, [], ap, arith, false, inl, inr, is_some, length, length-append, refl, subst, suc, sym, true, zero, ℕ, ◌*◌, ◌++◌, ◌+◌, ◌∙◌, ◌∷◌, ◌≡◌, ◌≤◌}
use Rattle.std.proofs.Math.Nat.{add-mul, mul-add}
use Rattle.std.proofs.lemmas.Cmp.{nat_list_eq_equiv}
use Rattle.std.proofs.lemmas.List.Elements.{All-cons, All-contains, All-nil, All-tail}
use Rattle.std.proofs.lemmas.List.{length-map}
use Rattle.std.proofs.lemmas.Map.Made.{is_some-lookup, length-le_from_is_member}
use Rattle.std.proofs.lemmas.Map.Views.{Contains-from_any}
use Rattle.std.proofs.lemmas.Slice.Eq.{bytes_eq-Decides}
use Rattle.std.specs.List.{IsDistinct, list_any}
use Rattle.std.specs.Map.{keys_of}
use Rattle.std.specs.Prelude.{bytes_eq, map, unwrap_or}
use Rattle.tg_audit.proofs.BlockSizes.{BlockLaws, all_left, all_right, block_fits, few_bits, names_room, reads_node}
use Rattle.tg_audit.proofs.FileSizes.{IsAt, IsLight, all_of, file_most, not_folder}
use Rattle.tg_audit.proofs.NameSlots.{Ascend, behind_first, count, count_found, count_more, count_most, few_above, is_behind, none_misplaced, slot_step, stands_there, used_ascend}
use Rattle.tg_audit.specs.Packing.{audit_options}
use Rattle.tg_cid.specs.Cid.{CidParts}
use Rattle.tg_dagpb.specs.declared.Link.{Link}
use Rattle.tg_import.specs.Counting.{counts_inside, counts_of, counts_of_children, counts_of_slots, slot_counts}
use Rattle.tg_import.specs.Imported.{layout}
use Rattle.tg_model.specs.Content.{entries, entries_of_slots, slot_entries}
use Rattle.tg_model.specs.Dag.{AreWhole, Children, Dag, Section, bare, blocks, blocks_of_children, no_child, node, root_cids, unopened, with_child}
use Rattle.tg_model.specs.ImportLayout.{AreLaidAt, HasPlainCid, basic_unix, link_name, shard_unix, tsize_of, tsizes_of}
use Rattle.tg_model.specs.Reading.{AreCids, Reads, entries_of as read_entries, name_of}
use Rattle.tg_model.specs.ShowsTree.{EntriesShow, Shows, ShowsInside, SlotShows, SlotsShow}
use Rattle.tg_model.specs.Sound.{AreCheckedAt, Position, child as child_position, has_slots, is_name_elsewhere, misplaced_from, passed, position_by_name, slot_position, top}
use Rattle.tg_model.specs.declared.kinds.Entry.{Entry}
use Rattle.tg_model.specs.declared.kinds.Kind.TheVariants.{Basic, File, Raw, Shard, Symlink}
use Rattle.tg_model.specs.declared.kinds.Slot.{Slot}
use Rattle.tg_tree.specs.Tree.{child, entries_of, sort_of}
use Rattle.tg_tree.specs.declared.items.Sort.TheVariants as sorts
use Rattle.tg_tree.specs.declared.tree.Tree.{Tree}

-- children where they stand
pub record AreAt (places : List Position) (children : Children) : Type 0 where
  pub whole : AreWhole children
  pub checked : AreCheckedAt places children
  pub laid : AreLaidAt (layout audit_options) places children
  pub plain : All HasPlainCid (blocks_of_children children)

pub first_at : (place : Position) (places : List Position) (d : Dag) (children : Children) → AreAt (place ∷ places) (with_child d children) → IsAt place d
first_at place places d children h =
    let plain = all_left HasPlainCid (blocks d) (blocks_of_children children) h.plain in
    record { whole = h.whole.0; checked = h.checked.0; laid = h.laid.0; plain = plain }

pub rest_at : (place : Position) (places : List Position) (d : Dag) (children : Children) → AreAt (place ∷ places) (with_child d children)
    → AreAt places children
rest_at place places d children h =
    let plain = all_right HasPlainCid (blocks d) (blocks_of_children children) h.plain in
    record { whole = h.whole.1; checked = h.checked.1; laid = h.laid.1; plain = plain }

pub shard_children : (position : Position) (section : Section) (slots : List Slot) (children : Children) → IsAt position (node section (Shard slots) children)
    → AreAt (map (slot_position (passed position)) slots) children
shard_children position section slots children h =
    record { whole = h.whole; checked = h.checked.1; laid = h.laid.2; plain = All-tail HasPlainCid section (blocks_of_children children) h.plain }

-- ---- the names of a directory in one block

abbrev pub IsNamed : List (List ℕ) → List ℕ → Type 0
IsNamed names name = list_any (bytes_eq name) names ≡ true

read_names : (links : List Link) (cids : List CidParts) → AreCids links cids → map (λ e. e.name) (read_entries links cids) ≡ map name_of links
read_names [] [] h = refl
read_names [] (cid ∷ cids) h = absurd h
read_names (link ∷ links) [] h = absurd h
read_names (link ∷ links) (cid ∷ cids) h = ap (λ (l : List (List ℕ)). name_of link ∷ l) (read_names links cids h.1)

module _ (laws : BlockLaws) where
  pub entries_differ : (cid : CidParts) (block : List ℕ) (es : List Entry) → Reads cid block (Basic es) → IsDistinct bytes_eq (map (λ e. e.name) es)
  entries_differ cid block es reads =
      let r = reads_node cid block (Basic es) (λ e. cc e) reads in
      elim r.reads [
        | inl file ↦ let e = file.kind_is in absurd (cc)
        | inr (inl basic) ↦
            let e = basic.kind_is in
            let same : es ≡ read_entries r.links r.cids = cc in
            subst (IsDistinct bytes_eq) (sym (ap (λ (l : List Entry). map (λ x. x.name) l) same
            ∙ read_names r.links r.cids r.node.cids_are)) basic.differ
        | inr (inr (inl shard)) ↦ let e = shard.kind_is in absurd (cc)
        | inr (inr (inr link)) ↦ let e = link.kind_is in absurd (cc)
      ]

pub few_entries : (names : List (List ℕ)) (es : List Entry) → All (IsNamed names) (map (λ e. e.name) es) → IsDistinct bytes_eq (map (λ e. e.name) es) → length es ≤ length names
few_entries names es named differ =
    let few = length-le_from_is_member nat_list_eq_equiv (map (λ e. e.name) es) names differ
    (λ q found.
    All-contains (IsNamed names) (map (λ e. e.name) es) q named
    (Contains-from_any (λ x y is. (bytes_eq-Decides x y).0 is) q (map (λ e. e.name) es) found)) in
    let same = length-map es (λ (e : Entry). e.name) in
    omega (arith, few, same)

-- how much an entry takes at most where so many levels of shards may stand above it
abbrev cost : ℕ → ℕ
cost zero = file_most
cost (suc levels) = cost levels + 178

cost_least : (levels : ℕ) → file_most ≤ cost levels
cost_least zero = omega arith
cost_least (suc levels) = let rest = cost_least levels in omega (arith, rest)

-- what stands in a folder under a name has few bytes, and the name is short
abbrev pub HasLightEntries : Tree → Type 0
HasLightEntries tree = (name : List ℕ) (below : Tree) (d : Dag) → child tree name ≡ Some below → IsAt top d → Shows d below
    → (length name ≤ 7) × IsLight file_most d

module _ (laws : BlockLaws) (tree : Tree) (light : HasLightEntries tree) where
  abbrev names : List (List ℕ)
  names = keys_of (entries_of tree)

  -- ---- a sharded directory

  record IsBoundInside (slots : List ℕ) (d : Dag) (most : ℕ) : Type 0 where
    some : 1 ≤ length (entries d)
    few : length (entries d) ≤ count (λ k. has_slots k 0 slots) names
    tsize : tsize_of d ≤ length (entries d) * most
    counts : all_of (counts_inside d) ≤ length (entries d) * file_most

  record IsBoundSlot (slots : List ℕ) (name : Option (List ℕ)) (d : Dag) (most : ℕ) : Type 0 where
    few : length (slot_entries name d (entries d)) ≤ count (λ k. has_slots k 0 slots) names
    room : 73 + length (unwrap_or name []) ≤ length (slot_entries name d (entries d)) * 80
    tsize : tsize_of d ≤ length (slot_entries name d (entries d)) * most
    counts : all_of (slot_counts name (counts_of d) (counts_inside d)) ≤ length (slot_entries name d (entries d)) * file_most

  record AreBoundSlots (above : List ℕ) (low : ℕ) (slots : List Slot) (children : Children) (most : ℕ) : Type 0 where
    few : length (entries_of_slots slots children) ≤ count (is_behind above low) names
    room : names_room (map link_name slots) ≤ length (entries_of_slots slots children) * 80
    tsizes : tsizes_of children ≤ length (entries_of_slots slots children) * most
    counts : all_of (counts_of_slots slots children) ≤ length (entries_of_slots slots children) * file_most

  slot_bound : (levels : ℕ) (slots : List ℕ) (name : Option (List ℕ)) (d : Dag) → IsAt (position_by_name slots name) d
      → is_name_elsewhere slots name ≡ false
      → SlotShows (λ name. (below : Tree) × (child tree name ≡ Some below) × Shows d below) (ShowsInside d tree) name
      → (IsAt (child_position slots) d → ShowsInside d tree → IsBoundInside slots d (cost levels)) → IsBoundSlot slots name d (cost levels)
  slot_bound levels slots (Some name) d h placed (below, is, shown) inside =
      let two = light name below d is h shown in
      let short = two.0 in
      let tsize = two.1.tsize in
      let counts = two.1.counts in
      let least = cost_least levels in
      record {
        few = count_found (λ k. has_slots k 0 slots) (entries_of tree) name below is (stands_there name slots placed);
        room = omega (arith, short);
        tsize = omega (arith, tsize, least);
        counts = omega (arith, counts);
      }
  slot_bound levels slots None d h placed shown inside =
      let all = inside h shown in
      let some = all.some in
      record { few = all.few; room = omega (arith, some); tsize = all.tsize; counts = all.counts }

  slots_ascend : (position : Position) (section : Section) (slots : List Slot) (children : Children)
      → IsAt position (node section (Shard slots) children)
      → Ascend 0 (map (λ slot. slot.slot) slots)
  slots_ascend position section slots children h = subst (Ascend 0) h.laid.1.bits_are.used (used_ascend h.laid.1.bits)

  shard_fits : (position : Position) (section : Section) (slots : List Slot) (children : Children)
      → IsAt position (node section (Shard slots) children)
      → length section.block ≤ names_room (map link_name slots) + 98
  shard_fits position section slots children h =
      let written = h.laid.1.written in
      let bits = few_bits laws section.cid section.block slots (map link_name slots) children h.laid.1.bits h.checked.0.reads written in
      let block = block_fits laws section.block (map link_name slots) children (shard_unix h.laid.1.bits) written h.whole
      (All-tail HasPlainCid section (blocks_of_children children) h.plain) in
      omega (arith, bits, block)

  mutual
    slots_bound : (levels : ℕ) (children : Children) (slots : List Slot) (above : List ℕ) (low at : ℕ) → length above + suc levels ≡ 8
        → AreAt (map (slot_position above) slots) children → Ascend low (map (λ slot. slot.slot) slots) → misplaced_from at above slots ≡ None
        → root_cids children ≡ map (λ slot. slot.cid) slots → SlotsShow slots children tree → AreBoundSlots above low slots children (cost levels)
    slots_bound levels no_child [] above low at deep h ascend placed links shown =
        record { few = omega arith; room = omega arith; tsizes = omega arith; counts = omega arith }
    slots_bound levels no_child (slot ∷ slots) above low at deep h ascend placed links shown = absurd (cc links)
    slots_bound levels (with_child d children) [] above low at deep h ascend placed links shown = absurd h.checked
    slots_bound levels (with_child d children) (slot ∷ slots) above low at deep h ascend placed links shown =
        let own = none_misplaced at above slot slots placed in
        let behind : root_cids children ≡ map (λ slot. slot.cid) slots = cc links in
        let longer : length (above ++ slot.slot ∷ []) + levels ≡ 8 = let both = length-append above (slot.slot ∷ []) in omega (arith, both, deep) in
        let here = slot_bound levels (above ++ slot.slot ∷ []) slot.name d
        (first_at (slot_position above slot) (map (slot_position above) slots) d children h) own.0 shown.0
        (λ stands inside. inside_bound levels d (above ++ slot.slot ∷ []) longer stands inside) in
        let there = slots_bound levels children slots above (slot.slot + 1) (at + 1) deep
        (rest_at (slot_position above slot) (map (slot_position above) slots) d children h) ascend.1 own.1 behind shown.1 in
        let first = length (slot_entries slot.name d (entries d)) in
        let rest = length (entries_of_slots slots children) in
        let both : length (entries_of_slots (slot ∷ slots) (with_child d children)) ≡ first + rest =
        length-append (slot_entries slot.name d (entries d)) (entries_of_slots slots children) in
        let times : length (entries_of_slots (slot ∷ slots) (with_child d children)) * cost levels ≡ first * cost levels + rest * cost levels =
        ap (λ (n : ℕ). n * cost levels) both ∙ add-mul first rest (cost levels) in
        let step = slot_step above slot.slot low ascend.0 names in
        let few = here.few in
        let more = there.few in
        let room = here.room in
        let rooms = there.room in
        let tsize = here.tsize in
        let tsizes = there.tsizes in
        let counts = here.counts in
        let all = there.counts in
        record {
          few = omega (arith, both, step, few, more);
          room = omega (arith, both, room, rooms);
          tsizes = omega (arith, times, tsize, tsizes);
          counts = omega (arith, both, counts, all);
        }

    inside_bound : (levels : ℕ) (d : Dag) (above : List ℕ) → length above + levels ≡ 8 → IsAt (child_position above) d → ShowsInside d tree
        → IsBoundInside above d (cost levels)
    inside_bound levels (unopened cid) above deep h shown = absurd shown
    inside_bound levels (bare section fault) above deep h shown = absurd shown
    inside_bound levels (node section Raw children) above deep h shown = absurd shown
    inside_bound levels (node section (File inline filesize parts) children) above deep h shown = absurd shown
    inside_bound levels (node section (Basic es) children) above deep h shown = absurd shown
    inside_bound zero (node section (Shard slots) children) above deep h shown =
        let few = (few_above above slots h.checked.0.stands).0 in absurd (omega (arith, few, deep))
    inside_bound (suc levels) (node section (Shard slots) children) above deep h shown =
        let all = slots_bound levels children slots above 0 0 deep (shard_children (child_position above) section slots children h)
        (slots_ascend (child_position above) section slots children h)
        (few_above above slots h.checked.0.stands).1 h.checked.0.links shown in
        let two : 2 ≤ length (entries_of_slots slots children) = h.laid.0 in
        let block = shard_fits (child_position above) section slots children h in
        let number = length (entries_of_slots slots children) in
        let times = mul-add number (cost levels) 178 in
        let first = count_more (is_behind above 0) (λ k. has_slots k 0 above) (behind_first above 0) names in
        let few = all.few in
        let room = all.room in
        let tsizes = all.tsizes in
        record {
          some = omega (arith, two);
          few = omega (arith, few, first);
          tsize = omega (arith, two, block, times, room, tsizes);
          counts = all.counts;
        }
    inside_bound levels (node section (Symlink target) children) above deep h shown = absurd shown

  -- ---- a directory in one block

  record AreBoundEntries (es : List Entry) (children : Children) : Type 0 where
    room : names_room (map (λ e. e.name) es) ≤ length es * 80
    tsizes : tsizes_of children ≤ length es * file_most
    counts : all_of (counts_of_children children) ≤ length es * file_most
    named : All (IsNamed names) (map (λ e. e.name) es)

  entries_bound : (es : List Entry) (children : Children) → AreAt (map (λ e. top) es) children → root_cids children ≡ map (λ e. e.cid) es
      → EntriesShow es children tree
      → AreBoundEntries es children
  entries_bound [] no_child h links shown = record { room = omega arith; tsizes = omega arith; counts = omega arith; named = All-nil (IsNamed names) }
  entries_bound [] (with_child d children) h links shown = absurd h.checked
  entries_bound (e ∷ es) no_child h links shown = absurd (cc links)
  entries_bound (e ∷ es) (with_child d children) h links ((below, is, here), shown) =
      let two = light e.name below d is (first_at top (map (λ e. top) es) d children h) here in
      let behind : root_cids children ≡ map (λ e. e.cid) es = cc links in
      let rest = entries_bound es children (rest_at top (map (λ e. top) es) d children h) behind shown in
      let short = two.0 in
      let tsize = two.1.tsize in
      let counts = two.1.counts in
      let room = rest.room in
      let tsizes = rest.tsizes in
      let all = rest.counts in
      record {
        room = omega (arith, short, room);
        tsizes = omega (arith, tsize, tsizes);
        counts = omega (arith, counts, all);
        named = All-cons (IsNamed names) e.name (map (λ e. e.name) es) (sym (is_some-lookup (bytes_eq e.name) (entries_of tree)) ∙ ap is_some is) rest.named;
      }

  -- ---- both

  pub light_folder : (d : Dag) → sort_of tree ≡ sorts.Folder → IsAt top d → Shows d tree → IsLight (length names * 16779000 + 200) d
  light_folder (unopened cid) folder h shown = absurd shown
  light_folder (bare section fault) folder h shown = absurd shown
  light_folder (node section Raw children) folder h shown = absurd (not_folder tree section.block shown folder)
  light_folder (node section (File inline filesize parts) children) folder h shown = absurd (not_folder tree _ shown folder)
  light_folder (node section (Basic es) children) folder h shown =
      let plain = All-tail HasPlainCid section (blocks_of_children children) h.plain in
      let all = entries_bound es children
      (record { whole = h.whole; checked = h.checked.1; laid = h.laid.3; plain = plain }) h.checked.0.links shown.1 in
      let few = few_entries names es all.named (entries_differ laws section.cid section.block es h.checked.0.reads) in
      let block = block_fits laws section.block (map (λ e. e.name) es) children basic_unix h.laid.2 h.whole plain in
      let room = all.room in
      let tsizes = all.tsizes in
      let counts = all.counts in
      record { tsize = omega (arith, few, block, room, tsizes); counts = omega (arith, few, counts) }
  light_folder (node section (Shard slots) children) folder h shown =
      let none = few_above [] slots h.checked.0.stands in
      let all = slots_bound 7 children slots [] 0 0 (omega arith) (shard_children top section slots children h)
      (slots_ascend top section slots children h) none.1 h.checked.0.links shown.1 in
      let block = shard_fits top section slots children h in
      let few = all.few in
      let most = count_most (is_behind [] 0) names in
      let is : cost 7 ≡ 16778462 = refl in
      let tsizes = subst (λ (n : ℕ). tsizes_of children ≤ length (entries_of_slots slots children) * n) is all.tsizes in
      let room = all.room in
      let counts = all.counts in
      record { tsize = omega (arith, few, most, block, room, tsizes); counts = omega (arith, few, most, counts) }
  light_folder (node section (Symlink target) children) folder h shown = absurd h.laid
