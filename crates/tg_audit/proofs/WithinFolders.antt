-- What is bounded of a directory in the importer's layout, by what is bounded of its entries.
use Rattle.std.proofs.Common.{All, List, None, Option, Some, [], ap, arith, false, is_some, length, length-append, refl, subst, suc, sym, zero, ℕ, ◌*◌, ◌++◌, ◌+◌, ◌∙◌, ◌∷◌, ◌≡◌, ◌≤◌}
use Rattle.std.proofs.Math.Nat.{add-mul, mul-add}
use Rattle.std.proofs.lemmas.List.Elements.{All-append, All-cons, All-nil, All-tail}
use Rattle.std.proofs.lemmas.List.{length-map}
use Rattle.std.proofs.lemmas.Map.Made.{is_some-lookup}
use Rattle.std.proofs.lemmas.Nat.{mul-le}
use Rattle.std.specs.Map.{keys_of}
use Rattle.std.specs.Prelude.{bytes_eq, map, unwrap_or}
use Rattle.tg_audit.proofs.BlockSizes.{BlockLaws, block_fits, few_bits, names_room}
use Rattle.tg_audit.proofs.FileSizes.{IsAt, not_folder}
use Rattle.tg_audit.proofs.FolderSizes.{AreAt, IsNamed, entries_differ, few_entries, first_at, rest_at}
use Rattle.tg_audit.proofs.NameSlots.{Ascend, behind_first, count, count_found, count_more, count_most, few_above, is_behind, none_misplaced, slot_step, stands_there, used_ascend}
use Rattle.tg_audit.proofs.WithinNodes.{AreLow, IsBound, IsLow, IsSmallBlock, few_used, joined_few, no_link, no_room, one_more, plain_root, weighed, weighed_both, weighed_is, weighed_least}
use Rattle.tg_audit.proofs.WithinReplies.{IsPlainDigest, few_v1, room_of}
use Rattle.tg_audit.proofs.WithinWeights.{entries_weight, named_weight, slots_weight, weight, weights}
use Rattle.tg_audit.specs.Shards.{if_unnamed, inner, inner_slots, one_each}
use Rattle.tg_bytes.specs.Ascii.{line_feed}
use Rattle.tg_cid.specs.Cid.{CidParts}
use Rattle.tg_model.specs.Answer.{bundle, bundle_inside, bundle_of_entries, bundle_of_slots, slot_bundle}
use Rattle.tg_model.specs.Content.{entries, entries_of_slots, named_children, slot_entries}
use Rattle.tg_model.specs.Dag.{Children, Dag, Section, bare, blocks, blocks_of_children, no_child, node, root_cid, root_cids, unopened, with_child}
use Rattle.tg_model.specs.ImportLayout.{HasPlainCid, basic_unix, link_name, shard_unix, weight_of}
use Rattle.tg_model.specs.ShowsTree.{EntriesShow, Shows, ShowsInside, SlotShows, SlotsShow}
use Rattle.tg_model.specs.Sound.{Position, child as child_position, has_slots, is_name_elsewhere, misplaced_from, passed, position_by_name, slot_position, top}
use Rattle.tg_model.specs.Texts.{joined}
use Rattle.tg_model.specs.declared.kinds.Entry.{Entry}
use Rattle.tg_model.specs.declared.kinds.Kind.TheVariants.{Basic, File, Raw, Shard, Symlink}
use Rattle.tg_model.specs.declared.kinds.Slot.{Slot}
use Rattle.tg_tree.specs.Tree.{child, entries_of, sort_of}
use Rattle.tg_tree.specs.declared.items.Sort.TheVariants as sorts
use Rattle.tg_tree.specs.declared.tree.Tree.{Tree}

-- what is bounded of each entry of a folder, whose name is short
abbrev pub HasBoundEntries : (List ℕ → CidParts → ℕ) → Tree → ℕ → ℕ → ℕ → ℕ → ℕ → Type 0
HasBoundEntries v tree levels room links near lines =
    (name : List ℕ) (below : Tree) (d : Dag) → child tree name ≡ Some below → IsAt top d → Shows d below
    → (length name ≤ 7) × IsBound v levels room links near lines d

-- a short name of a plain CID weighs at most so much
abbrev pub IsHeavy : (List ℕ → CidParts → ℕ) → ℕ → Type 0
IsHeavy v heavy = (name : List ℕ) (cid : CidParts) → length name ≤ 7 → IsPlainDigest cid → v name cid ≤ heavy

-- how many levels there are where so many levels of shards may stand above an entry, and how much an entry takes there
abbrev pub height : ℕ → ℕ → ℕ
height levels zero = levels
height levels (suc above) = suc (height levels above)

abbrev pub cost : ℕ → ℕ → ℕ
cost room zero = room
cost room (suc above) = cost room above + 238

pub raised : (levels above : ℕ) (d : Dag) → IsLow levels d → IsLow (height levels above) d
raised levels zero d h = h
raised levels (suc above) d h = one_more (height levels above) d (raised levels above d h)

cost_least : (room above : ℕ) → room ≤ cost room above
cost_least room zero = omega arith
cost_least room (suc above) = let rest = cost_least room above in omega (arith, rest)

module _ (laws : BlockLaws) (v : List ℕ → CidParts → ℕ) (heavy : ℕ) (is_heavy : IsHeavy v heavy) (tree : Tree) (levels room links near reach lines : ℕ)
    (nearer : near + 22 ≤ reach) (each : HasBoundEntries v tree levels room links reach lines) where
  abbrev names : List (List ℕ)
  names = keys_of (entries_of tree)

  -- ---- a sharded directory

  record IsBoundInside (slots : List ℕ) (d : Dag) (above : ℕ) : Type 0 where
    some : 1 ≤ length (entries d)
    few : length (entries d) ≤ count (λ k. has_slots k 0 slots) names
    low : IsLow (height levels above) d
    small : All IsSmallBlock (blocks d)
    rooms : weight room_of no_link d ≤ length (entries d) * cost room above
    met : weight no_room v d ≤ length (entries d) * (heavy + links)
    text : (path : List ℕ) → length path ≤ near → length (bundle_inside path d) ≤ length (entries d) * lines
    weighs : weighed (entries d) ≤ length (entries d) * 51
    own : inner room_of d + 73 ≤ 80 * length (entries d) + 238 * inner one_each d

  record IsBoundSlot (slots : List ℕ) (name : Option (List ℕ)) (cid : CidParts) (d : Dag) (above : ℕ) : Type 0 where
    few : length (slot_entries name d (entries d)) ≤ count (λ k. has_slots k 0 slots) names
    room_is : 73 + length (unwrap_or name []) ≤ length (slot_entries name d (entries d)) * 80
    wide : length (unwrap_or name []) ≤ 7
    low : IsLow (height levels above) d
    small : All IsSmallBlock (blocks d)
    rooms : weight room_of no_link d ≤ length (slot_entries name d (entries d)) * cost room above
    met : named_weight no_room v name cid + weight no_room v d ≤ length (slot_entries name d (entries d)) * (heavy + links)
    text : (path : List ℕ) → length path ≤ near
        → length (slot_bundle (λ name. bundle (joined path name) d) (bundle_inside path d) name) ≤ length (slot_entries name d (entries d)) * lines
    weighs : weighed (slot_entries name d (entries d)) ≤ length (slot_entries name d (entries d)) * 51
    own : 73 + length (unwrap_or name []) + if_unnamed name (inner room_of d) ≤ 80 * length (slot_entries name d (entries d)) + 238 * if_unnamed name (inner one_each d)

  record AreBoundSlots (position : List ℕ) (first : ℕ) (slots : List Slot) (children : Children) (above : ℕ) : Type 0 where
    few : length (entries_of_slots slots children) ≤ count (is_behind position first) names
    room_is : names_room (map link_name slots) ≤ length (entries_of_slots slots children) * 80
    wide : names_room (map link_name slots) ≤ length slots * 80
    low : AreLow (height levels above) children
    small : All IsSmallBlock (blocks_of_children children)
    rooms : weights room_of no_link children ≤ length (entries_of_slots slots children) * cost room above
    plain : slots_weight no_room no_link slots ≤ 0
    met : slots_weight no_room v slots + weights no_room v children ≤ length (entries_of_slots slots children) * (heavy + links)
    text : (path : List ℕ) → length path ≤ near → length (bundle_of_slots path slots children) ≤ length (entries_of_slots slots children) * lines
    weighs : weighed (entries_of_slots slots children) ≤ length (entries_of_slots slots children) * 51
    own : names_room (map link_name slots) + inner_slots room_of slots children ≤ 80 * length (entries_of_slots slots children) + 238 * inner_slots one_each slots children

  slot_bound : (above : ℕ) (slots : List ℕ) (name : Option (List ℕ)) (cid : CidParts) (d : Dag) → IsAt (position_by_name slots name) d → root_cid d ≡ cid
      → is_name_elsewhere slots name ≡ false
      → SlotShows (λ name. (below : Tree) × (child tree name ≡ Some below) × Shows d below) (ShowsInside d tree) name
      → (IsAt (child_position slots) d → ShowsInside d tree → IsBoundInside slots d above) → IsBoundSlot slots name cid d above
  slot_bound above slots (Some name) cid d h leads placed (below, is, shown) inside =
      let two = each name below d is h shown in
      let short = two.0 in
      let own = two.1 in
      let rooms = own.rooms in
      let met = own.met in
      let least = cost_least room above in
      let digest = plain_root top d h in
      let few = few_v1 (root_cid d) digest in
      let weighs = is_heavy name cid short (subst IsPlainDigest leads digest) in
      record {
        few = count_found (λ k. has_slots k 0 slots) (entries_of tree) name below is (stands_there name slots placed);
        room_is = omega (arith, short);
        wide = short;
        low = raised levels above d own.low;
        small = own.small;
        rooms = omega (arith, rooms, least);
        met = omega (arith, met, weighs);
        text = λ path less. let further = joined_few path name short in let text = own.text (joined path name) (omega (arith, further, less, nearer)) in omega (arith, text);
        weighs = omega (arith, short, few);
        own = omega (arith, short);
      }
  slot_bound above slots None cid d h leads placed shown inside =
      let all = inside h shown in
      let some = all.some in
      let met = all.met in
      record {
        few = all.few;
        room_is = omega (arith, some);
        wide = omega arith;
        low = all.low;
        small = all.small;
        rooms = all.rooms;
        met = omega (arith, met);
        text = all.text;
        weighs = all.weighs;
        own = let own = all.own in omega (arith, own);
      }

  children_at : (position : Position) (section : Section) (slots : List Slot) (children : Children)
      → IsAt position (node section (Shard slots) children)
      → AreAt (map (slot_position (passed position)) slots) children
  children_at position section slots children h =
      record { whole = h.whole; checked = h.checked.1; laid = h.laid.2; plain = All-tail HasPlainCid section (blocks_of_children children) h.plain }

  slots_ascend : (position : Position) (section : Section) (slots : List Slot) (children : Children)
      → IsAt position (node section (Shard slots) children)
      → Ascend 0 (map (λ slot. slot.slot) slots)
  slots_ascend position section slots children h = subst (Ascend 0) h.laid.1.bits_are.used (used_ascend h.laid.1.bits)

  -- the block of a shard
  record IsShardBlock (section : Section) (slots : List Slot) : Type 0 where
    fits : length section.block ≤ names_room (map link_name slots) + 98
    slots_few : length slots ≤ 256

  shard_block : (position : Position) (section : Section) (slots : List Slot) (children : Children)
      → IsAt position (node section (Shard slots) children) → IsShardBlock section slots
  shard_block position section slots children h =
      let written = h.laid.1.written in
      let bits = few_bits laws section.cid section.block slots (map link_name slots) children h.laid.1.bits h.checked.0.reads written in
      let block = block_fits laws section.block (map link_name slots) children (shard_unix h.laid.1.bits) written h.whole
      (All-tail HasPlainCid section (blocks_of_children children) h.plain) in
      let used = few_used h.laid.1.bits in
      let same = ap length h.laid.1.bits_are.used ∙ length-map slots (λ slot. slot.slot) in
      record { fits = omega (arith, bits, block); slots_few = omega (arith, bits, used, same) }

  mutual
    slots_bound : (above : ℕ) (children : Children) (slots : List Slot) (position : List ℕ) (first at : ℕ) → length position + suc above ≡ 8
        → AreAt (map (slot_position position) slots) children → Ascend first (map (λ slot. slot.slot) slots) → misplaced_from at position slots ≡ None
        → root_cids children ≡ map (λ slot. slot.cid) slots → SlotsShow slots children tree → AreBoundSlots position first slots children above
    slots_bound above no_child [] position first at deep h ascend placed leads shown = record {
      few = omega arith;
      room_is = omega arith;
      wide = omega arith;
      low = tt;
      small = All-nil IsSmallBlock;
      rooms = omega arith;
      plain = omega arith;
      met = omega arith;
      text = λ path less. omega arith;
      weighs = omega arith;
      own = omega arith;
    }
    slots_bound above no_child (slot ∷ slots) position first at deep h ascend placed leads shown = absurd (cc leads)
    slots_bound above (with_child d children) [] position first at deep h ascend placed leads shown = absurd h.checked
    slots_bound above (with_child d children) (slot ∷ slots) position first at deep h ascend placed leads shown =
        let own = none_misplaced at position slot slots placed in
        let here_cid : root_cid d ≡ slot.cid = cc leads in
        let behind : root_cids children ≡ map (λ slot. slot.cid) slots = cc leads in
        let longer : length (position ++ slot.slot ∷ []) + above ≡ 8 = let both = length-append position (slot.slot ∷ []) in omega (arith, both, deep) in
        let here = slot_bound above (position ++ slot.slot ∷ []) slot.name slot.cid d
        (first_at (slot_position position slot) (map (slot_position position) slots) d children h) here_cid own.0 shown.0
        (λ stands inside. inside_bound above d (position ++ slot.slot ∷ []) longer stands inside) in
        let there = slots_bound above children slots position (slot.slot + 1) (at + 1) deep
        (rest_at (slot_position position slot) (map (slot_position position) slots) d children h) ascend.1 own.1 behind shown.1 in
        let one = slot_entries slot.name d (entries d) in
        let more = entries_of_slots slots children in
        let both : length (one ++ more) ≡ length one + length more = length-append one more in
        let times : (n : ℕ) → length (one ++ more) * n ≡ length one * n + length more * n =
        (λ n. ap (λ (m : ℕ). m * n) both ∙ add-mul (length one) (length more) n) in
        let step = slot_step position slot.slot first ascend.0 names in
        let few = here.few in
        let few_more = there.few in
        let room_here = here.room_is in
        let room_there = there.room_is in
        let wide_here = here.wide in
        let wide_there = there.wide in
        let rooms_here = here.rooms in
        let rooms_there = there.rooms in
        let rooms_times = times (cost room above) in
        let plain = there.plain in
        let plain_here = plain_slot slot.name slot.cid in
        let met_here = here.met in
        let met_there = there.met in
        let met_times = times (heavy + links) in
        let lines_times = times lines in
        let weighs_here = here.weighs in
        let weighs_there = there.weighs in
        let weighs_both = weighed_both one more in
        let own_here = here.own in
        let own_there = there.own in
        record {
          few = omega (arith, both, step, few, few_more);
          room_is = omega (arith, both, room_here, room_there);
          wide = omega (arith, wide_here, wide_there);
          low = (here.low, there.low);
          small = All-append IsSmallBlock (blocks d) (blocks_of_children children) here.small there.small;
          rooms = omega (arith, rooms_times, rooms_here, rooms_there);
          plain = omega (arith, plain, plain_here);
          met = omega (arith, met_times, met_here, met_there);
          text = λ path less.
              let text_here = here.text path less in
              let text_there = there.text path less in
              let text_both = length-append (slot_bundle (λ name. bundle (joined path name) d) (bundle_inside path d) slot.name) (bundle_of_slots path slots children) in
              omega (arith, lines_times, text_here, text_there, text_both);
          weighs = omega (arith, both, weighs_here, weighs_there, weighs_both);
          own = omega (arith, both, own_here, own_there);
        }
      where
        plain_slot : (name : Option (List ℕ)) (cid : CidParts) → named_weight no_room no_link name cid ≤ 0
        plain_slot (Some name) cid = omega arith
        plain_slot None cid = omega arith

    inside_bound : (above : ℕ) (d : Dag) (position : List ℕ) → length position + above ≡ 8 → IsAt (child_position position) d → ShowsInside d tree
        → IsBoundInside position d above
    inside_bound above (unopened cid) position deep h shown = absurd shown
    inside_bound above (bare section fault) position deep h shown = absurd shown
    inside_bound above (node section Raw children) position deep h shown = absurd shown
    inside_bound above (node section (File inline filesize parts) children) position deep h shown = absurd shown
    inside_bound above (node section (Basic es) children) position deep h shown = absurd shown
    inside_bound zero (node section (Shard slots) children) position deep h shown =
        let few = (few_above position slots h.checked.0.stands).0 in absurd (omega (arith, few, deep))
    inside_bound (suc above) (node section (Shard slots) children) position deep h shown =
        let all = slots_bound above children slots position 0 0 deep (children_at (child_position position) section slots children h)
        (slots_ascend (child_position position) section slots children h)
        (few_above position slots h.checked.0.stands).1 h.checked.0.links shown in
        let two : 2 ≤ length (entries_of_slots slots children) = h.laid.0 in
        let block = shard_block (child_position position) section slots children h in
        let fits = block.fits in
        let slots_few = block.slots_few in
        let number = length (entries_of_slots slots children) in
        let times = mul-add number (cost room above) 238 in
        let own = all.own in
        let first = count_more (is_behind position 0) (λ k. has_slots k 0 position) (behind_first position 0) names in
        let few = all.few in
        let room_is = all.room_is in
        let wide = all.wide in
        let rooms = all.rooms in
        let plain = all.plain in
        let met = all.met in
        record {
          some = omega (arith, two);
          few = omega (arith, few, first);
          low = all.low;
          small = All-cons IsSmallBlock section (blocks_of_children children) (omega (arith, fits, wide, slots_few)) all.small;
          rooms = omega (arith, two, fits, times, room_is, rooms, plain);
          met = omega (arith, met);
          text = all.text;
          weighs = all.weighs;
          own = omega (arith, fits, own);
        }
    inside_bound above (node section (Symlink target) children) position deep h shown = absurd shown

  -- ---- a directory in one block

  record AreBoundEntries (es : List Entry) (children : Children) : Type 0 where
    many : length (named_children es children) ≡ length es
    room_is : names_room (map (λ e. e.name) es) ≤ length es * 80
    low : AreLow levels children
    small : All IsSmallBlock (blocks_of_children children)
    rooms : weights room_of no_link children ≤ length es * room
    plain : entries_weight no_room no_link es ≤ 0
    met : entries_weight no_room v es + weights no_room v children ≤ length es * (heavy + links)
    text : (path : List ℕ) → length path ≤ near → length (bundle_of_entries path es children) ≤ length es * lines
    weighs : weighed (named_children es children) ≤ length es * 51
    named : All (IsNamed names) (map (λ e. e.name) es)

  entries_bound : (es : List Entry) (children : Children) → AreAt (map (λ e. top) es) children → root_cids children ≡ map (λ e. e.cid) es
      → EntriesShow es children tree
      → AreBoundEntries es children
  entries_bound [] no_child h leads shown = record {
    many = refl;
    room_is = omega arith;
    low = tt;
    small = All-nil IsSmallBlock;
    rooms = omega arith;
    plain = omega arith;
    met = omega arith;
    text = λ path less. omega arith;
    weighs = omega arith;
    named = All-nil (IsNamed names);
  }
  entries_bound [] (with_child d children) h leads shown = absurd h.checked
  entries_bound (e ∷ es) no_child h leads shown = absurd (cc leads)
  entries_bound (e ∷ es) (with_child d children) h leads ((below, is, here), shown) =
      let stands = first_at top (map (λ e. top) es) d children h in
      let two = each e.name below d is stands here in
      let here_cid : root_cid d ≡ e.cid = cc leads in
      let behind : root_cids children ≡ map (λ e. e.cid) es = cc leads in
      let rest = entries_bound es children (rest_at top (map (λ e. top) es) d children h) behind shown in
      let short = two.0 in
      let own = two.1 in
      let digest = plain_root top d stands in
      let few = few_v1 (root_cid d) digest in
      let heavy_here = is_heavy e.name e.cid short (subst IsPlainDigest here_cid digest) in
      let many = rest.many in
      let room_is = rest.room_is in
      let rooms_here = own.rooms in
      let rooms_there = rest.rooms in
      let plain = rest.plain in
      let met_here = own.met in
      let met_there = rest.met in
      let weighs = rest.weighs in
      record {
        many = omega (arith, many);
        room_is = omega (arith, short, room_is);
        low = (own.low, rest.low);
        small = All-append IsSmallBlock (blocks d) (blocks_of_children children) own.small rest.small;
        rooms = omega (arith, rooms_here, rooms_there);
        plain = omega (arith, plain);
        met = omega (arith, heavy_here, met_here, met_there);
        text = λ path less.
            let further = joined_few path e.name short in
            let text_here = own.text (joined path e.name) (omega (arith, further, less, nearer)) in
            let text_there = rest.text path less in
            let text_both = length-append (bundle (joined path e.name) d) (bundle_of_entries path es children) in
            omega (arith, text_here, text_there, text_both);
        weighs = omega (arith, short, few, weighs);
        named = All-cons (IsNamed names) e.name (map (λ e. e.name) es) (sym (is_some-lookup (bytes_eq e.name) (entries_of tree)) ∙ ap is_some is) rest.named;
      }

  -- ---- both

  pub record IsBoundFolder (d : Dag) : Type 0 where
    pub few : length (entries d) ≤ length names
    pub low : IsLow (height levels 8) d
    pub small : All IsSmallBlock (blocks d)
    pub rooms : weight room_of no_link d ≤ length (entries d) * (cost room 7 + 80) + 158
    pub met : weight no_room v d ≤ length (entries d) * (heavy + links)
    pub text : (path : List ℕ) → length path ≤ near → length (bundle path d) ≤ length (entries d) * lines + (near + 5)
    pub weighs : weight_of (entries d) ≤ length (entries d) * 51
    pub own : inner room_of d ≤ 80 * length (entries d) + 238 * inner one_each d

  line_few : (path : List ℕ) → length path ≤ near → length (path ++ line_feed ∷ []) ≤ near + 1
  line_few path less = let both = length-append path (line_feed ∷ []) in omega (arith, both, less)

  pub folder_bound : (d : Dag) → sort_of tree ≡ sorts.Folder → IsAt top d → Shows d tree → IsBoundFolder d
  folder_bound (unopened cid) folder h shown = absurd shown
  folder_bound (bare section fault) folder h shown = absurd shown
  folder_bound (node section Raw children) folder h shown = absurd (not_folder tree section.block shown folder)
  folder_bound (node section (File inline filesize parts) children) folder h shown = absurd (not_folder tree _ shown folder)
  folder_bound (node section (Basic es) children) folder h shown =
      let plain_cids = All-tail HasPlainCid section (blocks_of_children children) h.plain in
      let all = entries_bound es children
      (record { whole = h.whole; checked = h.checked.1; laid = h.laid.3; plain = plain_cids }) h.checked.0.links shown.1 in
      let few = few_entries names es all.named (entries_differ laws section.cid section.block es h.checked.0.reads) in
      let block = block_fits laws section.block (map (λ e. e.name) es) children basic_unix h.laid.2 h.whole plain_cids in
      let many : length (named_children es children) ≡ length es = all.many in
      let light : weight_of (named_children es children) ≤ 16384 = h.laid.0 in
      let is = weighed_is (named_children es children) in
      let least = weighed_least (named_children es children) in
      let room_is = all.room_is in
      let rooms = all.rooms in
      let plain = all.plain in
      let met = all.met in
      let weighs = all.weighs in
      let costs = cost_least room 7 in
      let number = length (named_children es children) in
      let times = mul-le number room number (cost room 7) (omega arith) costs in
      let split = mul-add number (cost room 7) 80 in
      let rooms_are : weights room_of no_link children ≤ number * room = subst (λ (n : ℕ). weights room_of no_link children ≤ n * room) (sym many) rooms in
      record {
        few = omega (arith, many, few);
        low = raised_each 7 children all.low;
        small = All-cons IsSmallBlock section (blocks_of_children children) (omega (arith, block, room_is, many, light, is, least)) all.small;
        rooms = omega (arith, block, room_is, many, rooms_are, plain, times, split);
        met = let met_are = subst (λ (n : ℕ). entries_weight no_room v es + weights no_room v children ≤ n * (heavy + links)) (sym many) met in omega (arith, met_are);
        text = λ path less.
            let text = subst (λ (n : ℕ). length (bundle_of_entries path es children) ≤ n * lines) (sym many) (all.text path less) in
            let line = line_few path less in
            let both = length-append (path ++ line_feed ∷ []) (bundle_of_entries path es children) in
            omega (arith, text, line, both);
        weighs = omega (arith, weighs, is, many);
        own = omega (arith, block, room_is, many);
      }
    where
      raised_each : (above : ℕ) (children : Children) → AreLow levels children → AreLow (height levels above) children
      raised_each above no_child low = tt
      raised_each above (with_child d children) low = (raised levels above d low.0, raised_each above children low.1)
  folder_bound (node section (Shard slots) children) folder h shown =
      let none = few_above [] slots h.checked.0.stands in
      let all = slots_bound 7 children slots [] 0 0 (omega arith) (children_at top section slots children h)
      (slots_ascend top section slots children h) none.1 h.checked.0.links shown.1 in
      let block = shard_block top section slots children h in
      let fits = block.fits in
      let slots_few = block.slots_few in
      let few = all.few in
      let most = count_most (is_behind [] 0) names in
      let number = length (entries_of_slots slots children) in
      let split = mul-add number (cost room 7) 80 in
      let room_is = all.room_is in
      let wide = all.wide in
      let rooms = all.rooms in
      let plain = all.plain in
      let met = all.met in
      let weighs = all.weighs in
      let is = weighed_is (entries_of_slots slots children) in
      record {
        few = omega (arith, few, most);
        low = all.low;
        small = All-cons IsSmallBlock section (blocks_of_children children) (omega (arith, fits, wide, slots_few)) all.small;
        rooms = omega (arith, fits, split, room_is, rooms, plain);
        met = omega (arith, met);
        text = λ path less.
            let text = all.text path less in
            let line = line_few path less in
            let both = length-append (path ++ line_feed ∷ []) (bundle_of_slots path slots children) in
            omega (arith, text, line, both);
        weighs = omega (arith, weighs, is);
        own = let own = all.own in omega (arith, fits, own);
      }
  folder_bound (node section (Symlink target) children) folder h shown = absurd h.laid
