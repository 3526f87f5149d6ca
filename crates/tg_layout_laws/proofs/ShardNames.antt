-- The names in a shard: they stand behind their slots, and differ.
use Rattle.std.proofs.Common.{◌≡◌, ◌+◌, ◌<◌, ◌≤◌, ◌*◌, ℕ, zero, suc, Bool, List, Option, None, Some, [], ◌∷◌, ◌++◌, length, map, inl, inr, refl, sym, subst, arith}
use Rattle.std.proofs.lemmas.List.{map-append}
use Rattle.std.proofs.lemmas.List.Elements.{All-head, All-tail}
use Rattle.std.specs.Prelude.{All, filter, slice_get, ⊤}
use Rattle.tg_model.specs.Content.{DirEntry, entries, entries_of_slots, slot_entries}
use Rattle.tg_model.specs.Dag.{Children, Dag, Section, bare, blocks, blocks_of_children, no_child, node, root_cids, unopened, with_child}
use Rattle.tg_model.specs.ImportLayout.{AreLaidAt, HasPlainCid, IsLaidAt, LayoutOptions}
use Rattle.tg_model.specs.Reading.{below, used_slots}
use Rattle.tg_model.specs.Sound.{AreCheckedAt, IsCheckedAt, Position, child, part, passed, position_by_name, position_fault, shard_fault, slot_position, top}
use Rattle.tg_model.specs.declared.kinds.Kind.TheVariants.{Basic, File, Raw, Shard, Symlink}
use Rattle.tg_model.specs.declared.kinds.Slot.{Slot}
use Rattle.tg_model_laws.specs.Places.{IsFaultlessShard, StandsBehind}
use Rattle.tg_murmur.specs.NameHash.{slot_of}
use Rattle.std.proofs.lemmas.Bool.{cond_both}
use Rattle.tg_layout_laws.proofs.Rows.{all_left, all_right}
use Rattle.tg_layout_laws.proofs.Sets.{Among, Distinct, among_cases, distinct_both}

-- ---- names

abbrev pub names_in : List DirEntry → List (List ℕ)
names_in listed = map (λ entry. entry.name) listed

-- ---- ascending numbers

-- the numbers ascend from `low` on
abbrev pub Ascend : ℕ → List ℕ → Type 0
Ascend low [] = ⊤
Ascend low (n ∷ ns) = (low ≤ n) × Ascend (n + 1) ns

wider : (ns : List ℕ) (low more : ℕ) → low ≤ more → Ascend more ns → Ascend low ns
wider [] low more le h = tt
wider (n ∷ ns) low more le h = ((let k = h.0 in omega (arith, le, k)), h.1)

pub ascend_filter : (p : ℕ → Bool) (ns : List ℕ) (low : ℕ) → Ascend low ns → Ascend low (filter p ns)
ascend_filter p [] low h = tt
ascend_filter p (n ∷ ns) low h =
    let rest : Ascend (n + 1) (filter p ns) = ascend_filter p ns (n + 1) h.1 in
    cond_both (p n) (n ∷ filter p ns) (filter p ns) (λ xs. Ascend low xs) (λ _. (h.0, rest))
    (λ _. wider (filter p ns) low (n + 1) (let k = h.0 in omega (arith, k)) rest)

-- all are below `high`
abbrev AllBelow : ℕ → List ℕ → Type 0
AllBelow high [] = ⊤
AllBelow high (n ∷ ns) = (n < high) × AllBelow high ns

raised : (high more : ℕ) (ns : List ℕ) → high ≤ more → AllBelow high ns → AllBelow more ns
raised high more [] le h = tt
raised high more (n ∷ ns) le h = ((let k = h.0 in omega (arith, le, k)), raised high more ns le h.1)

push_below : (ns : List ℕ) (low n : ℕ) → low ≤ n → Ascend low ns → AllBelow n ns → Ascend low (ns ++ n ∷ [])
push_below [] low n le h all = (le, tt)
push_below (m ∷ ns) low n le h all = (h.0, push_below ns (m + 1) n (let k = all.0 in omega (arith, k)) h.1 all.1)

below_push : (ns : List ℕ) (n : ℕ) → AllBelow n ns → AllBelow (suc n) (ns ++ n ∷ [])
below_push [] n h = (omega arith, tt)
below_push (m ∷ ns) n h = ((let k = h.0 in omega (arith, k)), below_push ns n h.1)

below_all : (n : ℕ) → AllBelow n (below n)
below_all zero = tt
below_all (suc n) = below_push (below n) n (below_all n)

below_ascend : (n : ℕ) → Ascend 0 (below n)
below_ascend zero = tt
below_ascend (suc n) = push_below (below n) 0 n (omega arith) (below_ascend n) (below_all n)

-- the numbers of a shard's slots
abbrev pub numbers_of : List Slot → List ℕ
numbers_of slots = map (λ slot. slot.slot) slots

pub used_ascend : (bits : List ℕ) → Ascend 0 (used_slots bits)
used_ascend bits = ascend_filter _ (below (8 * length bits)) 0 (below_ascend (8 * length bits))

-- ---- shards

-- the slots of a shard behind the slots `above`, or its last ones, with their children
pub record AreSlotsAt (options : LayoutOptions) (above : List ℕ) (low : ℕ) (slots : List Slot)
    (children : Children) : Type 0 where
  pub ascend : Ascend low (numbers_of slots)
  pub placed : All (λ slot. StandsBehind (above ++ slot.slot ∷ []) slot.name) slots
  pub checked : AreCheckedAt (map (slot_position above) slots) children
  pub laid : AreLaidAt options (map (slot_position above) slots) children
  pub plain : All HasPlainCid (blocks_of_children children)
  pub linked : root_cids children ≡ map (λ slot. slot.cid) slots

abbrev IsPlaced : List ℕ → Slot → Type 0
IsPlaced above slot = StandsBehind (above ++ slot.slot ∷ []) slot.name

pub rest_at : (options : LayoutOptions) (above : List ℕ) (low : ℕ) (slot : Slot) (slots : List Slot) (d : Dag)
    (children : Children)
    → AreSlotsAt options above low (slot ∷ slots) (with_child d children)
    → AreSlotsAt options above (slot.slot + 1) slots children
rest_at options above low slot slots d children h =
    let links = h.linked in
    record {
      ascend = h.ascend.1;
      placed = All-tail (IsPlaced above) slot slots h.placed;
      checked = h.checked.1;
      laid = h.laid.1;
      plain = all_right HasPlainCid (blocks d) (blocks_of_children children) h.plain;
      linked = cc;
    }

-- a directory or a part of one where it stands
pub record IsAt (options : LayoutOptions) (position : Position) (d : Dag) : Type 0 where
  pub checked : IsCheckedAt position d
  pub laid : IsLaidAt options position d
  pub plain : All HasPlainCid (blocks d)

pub first_at : (options : LayoutOptions) (above : List ℕ) (low : ℕ) (slot : Slot) (slots : List Slot) (d : Dag)
    (children : Children)
    → AreSlotsAt options above low (slot ∷ slots) (with_child d children) → IsAt options (slot_position above slot) d
first_at options above low slot slots d children h = record {
  checked = h.checked.0;
  laid = h.laid.0;
  plain = all_left HasPlainCid (blocks d) (blocks_of_children children) h.plain;
}

-- a shard has such slots
stands_at : (position : Position) (slots : List Slot) → position_fault position (Shard slots) ≡ None
    → shard_fault (passed position) slots ≡ None
stands_at top slots h = h
stands_at (part size) slots h = absurd (cc)
stands_at (child above) slots h = h

pub shard_at : IsFaultlessShard → (options : LayoutOptions) (position : Position) (section : Section)
    (slots : List Slot) (children : Children) → IsAt options position (node section (Shard slots) children)
    → AreSlotsAt options (passed position) 0 slots children
shard_at faultless options position section slots children h = record {
  ascend = subst (Ascend 0) h.laid.1.bits_are.used (used_ascend h.laid.1.bits);
  placed = ((faultless (passed position) slots).0 (stands_at position slots h.checked.0.stands)).entries;
  checked = h.checked.1;
  laid = h.laid.2;
  plain = All-tail HasPlainCid section (blocks_of_children children) h.plain;
  linked = h.checked.0.links;
}

-- ---- where names stand

still_there : (above : List ℕ) (slot level found : ℕ) → slice_get above level ≡ Some found
    → slice_get (above ++ slot ∷ []) level ≡ Some found
still_there [] slot level found h = absurd (cc)
still_there (s ∷ above) slot zero found h = h
still_there (s ∷ above) slot (suc level) found h = still_there above slot level found h

last_there : (above : List ℕ) (slot : ℕ) → slice_get (above ++ slot ∷ []) (length above) ≡ Some slot
last_there [] slot = refl
last_there (s ∷ above) slot = last_there above slot

-- each name stands behind these slots
abbrev pub Stand : List ℕ → List (List ℕ) → Type 0
Stand above names = (name : List ℕ) (level slot : ℕ) → Among name names → slice_get above level ≡ Some slot → slot_of
    name level ≡ slot

-- the names of one slot's entries
abbrev pub slot_names : Option (List ℕ) → Dag → List (List ℕ)
slot_names name d = names_in (slot_entries name d (entries d))

pub names_split : (slot : Slot) (slots : List Slot) (d : Dag) (children : Children)
    → names_in (entries_of_slots (slot ∷ slots) (with_child d children)) ≡ slot_names slot.name d ++ names_in
    (entries_of_slots slots children)
names_split slot slots d children = map-append (λ entry. entry.name) (slot_entries slot.name d (entries d))
    (entries_of_slots slots children)

slot_stand : (name : Option (List ℕ)) (slots : List ℕ) (d : Dag) → StandsBehind slots name
    → (name ≡ None → Stand slots (names_in (entries d))) → Stand slots (slot_names name d)
slot_stand (Some own) slots d placed inner = λ name level slot m here. elim m [
  | inl e ↦ subst (λ n. slot_of n level ≡ slot) e (placed level slot here)
  | inr never ↦ absurd never
]
slot_stand None slots d placed inner = inner refl

pub child_is : (options : LayoutOptions) (slots : List ℕ) (name : Option (List ℕ)) (d : Dag) → name ≡ None
    → IsAt options (position_by_name slots name) d → IsAt options (child slots) d
child_is options slots name d e h = subst (λ n. IsAt options (position_by_name slots n) d) e h

mutual
  pub child_stand : IsFaultlessShard → (options : LayoutOptions) (d : Dag) (above : List ℕ)
      → IsAt options (child above) d → Stand above (names_in (entries d))
  child_stand faultless options (unopened cid) above h = absurd h.laid
  child_stand faultless options (bare section fault) above h = absurd h.laid
  child_stand faultless options (node section Raw children) above h = absurd h.laid
  child_stand faultless options (node section (File inline filesize parts) children) above h = absurd h.laid.0
  child_stand faultless options (node section (Basic es) children) above h = let e = h.checked.0.stands in absurd (cc)
  child_stand faultless options (node section (Shard slots) children) above h =
      slots_stand faultless options children slots above 0
      (shard_at faultless options (child above) section slots children h)
  child_stand faultless options (node section (Symlink target) children) above h = absurd h.laid

  pub slots_stand : IsFaultlessShard
      → (options : LayoutOptions) (children : Children) (slots : List Slot) (above : List ℕ) (low : ℕ)
      → AreSlotsAt options above low slots children
      → Stand above (names_in (entries_of_slots slots children))
  slots_stand faultless options no_child slots above low h = λ name level slot m here. absurd m
  slots_stand faultless options (with_child d children) [] above low h = λ name level slot m here. absurd m
  slots_stand faultless options (with_child d children) (slot ∷ slots) above low h =
      let first = first_at options above low slot slots d children h in
      let own = slot_stand slot.name (above ++ slot.slot ∷ []) d (All-head (IsPlaced above) slot slots h.placed)
      (λ none. child_stand faultless options d (above ++ slot.slot ∷ [])
      (child_is options (above ++ slot.slot ∷ []) slot.name d none first)) in
      let rest = slots_stand faultless options children slots above (slot.slot + 1)
      (rest_at options above low slot slots d children h) in
      λ name level found m here. elim (among_cases name (slot_names slot.name d)
      (names_in (entries_of_slots slots children)) (subst (Among name) (names_split slot slots d children) m)) [
        | inl left ↦ own name level found left (still_there above slot.slot level found here)
        | inr right ↦ rest name level found right here
      ]

-- the names of the first slot stand in it
pub first_stand : IsFaultlessShard
    → (options : LayoutOptions) (d : Dag) (children : Children) (slot : Slot) (slots : List Slot) (above : List ℕ)
    (low : ℕ) → AreSlotsAt options above low (slot ∷ slots) (with_child d children)
    → (name : List ℕ) → Among name (slot_names slot.name d) → slot_of name (length above) ≡ slot.slot
first_stand faultless options d children slot slots above low h name m =
    let first = first_at options above low slot slots d children h in
    slot_stand slot.name (above ++ slot.slot ∷ []) d (All-head (IsPlaced above) slot slots h.placed)
    (λ none. child_stand faultless options d (above ++ slot.slot ∷ [])
    (child_is options (above ++ slot.slot ∷ []) slot.name d none first))
    name (length above) slot.slot m (last_there above slot.slot)

-- and those of all slots in theirs, whose numbers aren't below `low`
pub rest_stand : IsFaultlessShard → (options : LayoutOptions) (children : Children) (slots : List Slot)
    (above : List ℕ) (low : ℕ) → AreSlotsAt options above low slots children
    → (name : List ℕ) → Among name (names_in (entries_of_slots slots children)) → low ≤ slot_of name (length above)
rest_stand faultless options no_child slots above low h name m = absurd m
rest_stand faultless options (with_child d children) [] above low h name m = absurd m
rest_stand faultless options (with_child d children) (slot ∷ slots) above low h name m =
    elim (among_cases name (slot_names slot.name d) (names_in (entries_of_slots slots children))
    (subst (Among name) (names_split slot slots d children) m)) [
      | inl left ↦ let e = first_stand faultless options d children slot slots above low h name left in let le =
          h.ascend.0 in omega (arith, e, le)
      | inr right ↦
          let le = h.ascend.0 in
          let more = rest_stand faultless options children slots above (slot.slot + 1)
          (rest_at options above low slot slots d children h) name right in
          omega (arith, le, more)
    ]

-- ---- no name stands twice

slot_distinct : (name : Option (List ℕ)) (d : Dag) → (name ≡ None → Distinct (names_in (entries d)))
    → Distinct (slot_names name d)
slot_distinct (Some own) d inner = ((λ never. never), tt)
slot_distinct None d inner = inner refl

mutual
  pub child_distinct : IsFaultlessShard → (options : LayoutOptions) (d : Dag) (above : List ℕ)
      → IsAt options (child above) d → Distinct (names_in (entries d))
  child_distinct faultless options (unopened cid) above h = tt
  child_distinct faultless options (bare section fault) above h = tt
  child_distinct faultless options (node section Raw children) above h = tt
  child_distinct faultless options (node section (File inline filesize parts) children) above h = tt
  child_distinct faultless options (node section (Basic es) children) above h = let e = h.checked.0.stands in absurd
      (cc)
  child_distinct faultless options (node section (Shard slots) children) above h =
      slots_distinct faultless options children slots above 0
      (shard_at faultless options (child above) section slots children h)
  child_distinct faultless options (node section (Symlink target) children) above h = tt

  pub slots_distinct : IsFaultlessShard
      → (options : LayoutOptions) (children : Children) (slots : List Slot) (above : List ℕ) (low : ℕ)
      → AreSlotsAt options above low slots children
      → Distinct (names_in (entries_of_slots slots children))
  slots_distinct faultless options no_child slots above low h = tt
  slots_distinct faultless options (with_child d children) [] above low h = tt
  slots_distinct faultless options (with_child d children) (slot ∷ slots) above low h =
      let first = first_at options above low slot slots d children h in
      let behind = rest_at options above low slot slots d children h in
      let own = slot_distinct slot.name d (λ none. child_distinct faultless options d (above ++ slot.slot ∷ [])
      (child_is options (above ++ slot.slot ∷ []) slot.name d none first)) in
      let rest = slots_distinct faultless options children slots above (slot.slot + 1) behind in
      subst Distinct (sym (names_split slot slots d children))
      (distinct_both (slot_names slot.name d) (names_in (entries_of_slots slots children)) own rest
      (λ name left right.
      let here = first_stand faultless options d children slot slots above low h name left in
      let there = rest_stand faultless options children slots above (slot.slot + 1) behind name right in
      omega (arith, here, there)))
