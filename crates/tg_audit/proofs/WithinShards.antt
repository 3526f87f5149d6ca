-- How many shards a directory has at most, by the number of its entries: at most 256 and 65,536 on the second and third level, and
-- on each of the five below these no more than half as many as there are entries.
use Rattle.std.proofs.Common.{List, None, Option, Some, [], ap, arith, length, length-append, suc, zero, ℕ, ◌*◌, ◌++◌, ◌+◌, ◌∙◌, ◌∷◌, ◌≡◌, ◌≤◌}
use Rattle.std.proofs.Math.Nat.{add-mul, mul-suc, suc-mul}
use Rattle.std.proofs.lemmas.List.Elements.{All-tail}
use Rattle.std.proofs.lemmas.List.{length-map}
use Rattle.std.specs.Prelude.{map}
use Rattle.tg_audit.proofs.BlockSizes.{BlockLaws, few_bits}
use Rattle.tg_audit.proofs.FileSizes.{IsAt}
use Rattle.tg_audit.proofs.FolderSizes.{AreAt, first_at, rest_at}
use Rattle.tg_audit.proofs.NameSlots.{few_above}
use Rattle.tg_audit.proofs.WithinNodes.{few_used}
use Rattle.tg_audit.specs.Shards.{if_unnamed, inner_slots, one_each, shards}
use Rattle.tg_model.specs.Content.{entries, entries_of_slots, slot_entries}
use Rattle.tg_model.specs.Dag.{Children, Dag, Section, bare, blocks_of_children, no_child, node, unopened, with_child}
use Rattle.tg_model.specs.ImportLayout.{HasPlainCid, link_name}
use Rattle.tg_model.specs.Sound.{Position, child as child_position, passed, position_by_name, slot_position, top}
use Rattle.tg_model.specs.declared.kinds.Kind.TheVariants.{Basic, File, Raw, Shard, Symlink}
use Rattle.tg_model.specs.declared.kinds.Slot.{Slot}

module _ (laws : BlockLaws) where
  few_slots : (position : Position) (section : Section) (slots : List Slot) (children : Children) → IsAt position (node section (Shard slots) children) → length slots ≤ 256
  few_slots position section slots children h =
      let bits = few_bits laws section.cid section.block slots (map link_name slots) children h.laid.1.bits h.checked.0.reads h.laid.1.written in
      let used = few_used h.laid.1.bits in
      let same = ap length h.laid.1.bits_are.used ∙ length-map slots (λ slot. slot.slot) in
      omega (arith, bits, used, same)

  children_at : (position : Position) (section : Section) (slots : List Slot) (children : Children) → IsAt position (node section (Shard slots) children)
      → AreAt (map (slot_position (passed position)) slots) children
  children_at position section slots children h =
      record { whole = h.whole; checked = h.checked.1; laid = h.laid.2; plain = All-tail HasPlainCid section (blocks_of_children children) h.plain }

  -- twice as many as there are of a child are at most a number for each, and a number for each entry
  module _ (each more : ℕ) (position : List ℕ)
      (below : (slot : ℕ) (d : Dag) → IsAt (child_position (position ++ slot ∷ [])) d → 2 * shards d ≤ each + length (entries d) * more) where
    slot_sum : (slot : ℕ) (name : Option (List ℕ)) (d : Dag) → IsAt (position_by_name (position ++ slot ∷ []) name) d
        → 2 * if_unnamed name (shards d) ≤ each + length (slot_entries name d (entries d)) * more
    slot_sum slot (Some name) d h = omega arith
    slot_sum slot None d h = below slot d h

    slots_sum : (slots : List Slot) (children : Children) → AreAt (map (slot_position position) slots) children
        → 2 * inner_slots one_each slots children ≤ length slots * each + length (entries_of_slots slots children) * more
    slots_sum slots no_child h = omega arith
    slots_sum [] (with_child d children) h = absurd h.checked
    slots_sum (slot ∷ slots) (with_child d children) h =
        let here = slot_sum slot.slot slot.name d (first_at (slot_position position slot) (map (slot_position position) slots) d children h) in
        let there = slots_sum slots children (rest_at (slot_position position slot) (map (slot_position position) slots) d children h) in
        let one = slot_entries slot.name d (entries d) in
        let rest = entries_of_slots slots children in
        let both : length (one ++ rest) * more ≡ length one * more + length rest * more =
        ap (λ (m : ℕ). m * more) (length-append one rest) ∙ add-mul (length one) (length rest) more in
        let times = suc-mul (length slots) each in
        omega (arith, here, there, both, times)

  -- on any level
  deep : (above : ℕ) (position : List ℕ) (d : Dag) → length position + above ≡ 8 → IsAt (child_position position) d → 2 * shards d ≤ length (entries d) * above
  deep above position (unopened cid) level h = absurd h.whole
  deep above position (bare section fault) level h = absurd h.whole
  deep above position (node section Raw children) level h = absurd h.laid
  deep above position (node section (File inline filesize parts) children) level h = absurd h.laid.0
  deep above position (node section (Basic es) children) level h = absurd (cc h.checked.0.stands)
  deep zero position (node section (Shard slots) children) level h =
      let few = (few_above position slots h.checked.0.stands).0 in absurd (omega (arith, few, level))
  deep (suc above) position (node section (Shard slots) children) level h =
      let two : 2 ≤ length (entries_of_slots slots children) = h.laid.0 in
      let all = slots_sum 0 above position
      (λ slot d stands. let rest = deep above (position ++ slot ∷ []) d (let both = length-append position (slot ∷ []) in omega (arith, both, level)) stands in omega (arith, rest))
      slots children (children_at (child_position position) section slots children h) in
      let times = mul-suc (length (entries_of_slots slots children)) above in
      omega (arith, two, all, times)
  deep above position (node section (Symlink target) children) level h = absurd h.laid

  -- on the third level
  third : (position : List ℕ) (d : Dag) → length position ≡ 2 → IsAt (child_position position) d → 2 * shards d ≤ 2 + length (entries d) * 5
  third position (unopened cid) level h = absurd h.whole
  third position (bare section fault) level h = absurd h.whole
  third position (node section Raw children) level h = absurd h.laid
  third position (node section (File inline filesize parts) children) level h = absurd h.laid.0
  third position (node section (Basic es) children) level h = absurd (cc h.checked.0.stands)
  third position (node section (Shard slots) children) level h =
      let all = slots_sum 0 5 position
      (λ slot d stands. let rest = deep 5 (position ++ slot ∷ []) d (let both = length-append position (slot ∷ []) in omega (arith, both, level)) stands in omega (arith, rest))
      slots children (children_at (child_position position) section slots children h) in
      omega (arith, all)
  third position (node section (Symlink target) children) level h = absurd h.laid

  second : (position : List ℕ) (d : Dag) → length position ≡ 1 → IsAt (child_position position) d → 2 * shards d ≤ 514 + length (entries d) * 5
  second position (unopened cid) level h = absurd h.whole
  second position (bare section fault) level h = absurd h.whole
  second position (node section Raw children) level h = absurd h.laid
  second position (node section (File inline filesize parts) children) level h = absurd h.laid.0
  second position (node section (Basic es) children) level h = absurd (cc h.checked.0.stands)
  second position (node section (Shard slots) children) level h =
      let all = slots_sum 2 5 position
      (λ slot d stands. third (position ++ slot ∷ []) d (let both = length-append position (slot ∷ []) in omega (arith, both, level)) stands)
      slots children (children_at (child_position position) section slots children h) in
      let few = few_slots (child_position position) section slots children h in
      omega (arith, all, few)
  second position (node section (Symlink target) children) level h = absurd h.laid

  -- of a directory
  pub few_shards : (d : Dag) → IsAt top d → 2 * shards d ≤ 131586 + length (entries d) * 5
  few_shards (unopened cid) h = absurd h.whole
  few_shards (bare section fault) h = absurd h.whole
  few_shards (node section Raw children) h = omega arith
  few_shards (node section (File inline filesize parts) children) h = omega arith
  few_shards (node section (Basic es) children) h = omega arith
  few_shards (node section (Shard slots) children) h =
      let all = slots_sum 514 5 [] (λ slot d stands. second (slot ∷ []) d (omega arith) stands) slots children (children_at top section slots children h) in
      let few = few_slots top section slots children h in
      omega (arith, all, few)
  few_shards (node section (Symlink target) children) h = absurd h.laid
