-- A shard without an entry says the same wherever a shard may stand.
use Rattle.std.proofs.Common.{Bool, List, None, Ok, Option, Some, [], arith, cond, false, length, length-append, map, nat_lt, refl, suc, true, zero, ℕ, ◌+◌, ◌++◌, ◌∙◌, ◌∷◌, ◌≡◌, ◌≤◌}
use Rattle.std.proofs.lemmas.Bool.{le-ltb}
use Rattle.std.specs.Prelude.{⊤}
use Rattle.tg_cid.specs.Cid.{CidParts}
use Rattle.tg_model.specs.Computed.{read}
use Rattle.tg_model.specs.Dag.{Section, links_of}
use Rattle.tg_model.specs.PathWalk.{child_below}
use Rattle.tg_model.specs.Queries.{QueryParts}
use Rattle.tg_model.specs.Sound.{Position, child, is_misplaced, is_name_elsewhere, misplaced_from, part, passed, position_fault, shard_fault, top}
use Rattle.tg_model.specs.StoreView.{block_at}
use Rattle.tg_model.specs.Stores.{Store}
use Rattle.tg_model.specs.Traversal.{Reach, bundled, entire, is_sent_behind, listed, ranged, slot_visit, text_behind, visit_by_name}
use Rattle.tg_model.specs.declared.fault.BlockFault.{BlockFault}
use Rattle.tg_model.specs.declared.fault.BlockFault.TheVariants as faults
use Rattle.tg_model.specs.declared.kinds.Kind.{Kind}
use Rattle.tg_model.specs.declared.kinds.Kind.TheVariants.{Basic, File, Raw, Shard, Symlink}
use Rattle.tg_model.specs.declared.kinds.Slot.{Slot}
use Rattle.tg_model_laws.specs.StoreWalks.{section_of}
use Rattle.tg_model_laws.specs.Tasks.{Task, Want, child_then, children_tasks, entries_then, fault_at, node_tasks, node_want, segment_want, tasks_of, terminal_want, text_last}
use Rattle.tg_traversal.specs.Places.{role_at}
use Rattle.tg_walk.proofs.TaskShapes.{child_front, each_alone, each_both, each_text, fits_alone}
use Rattle.tg_walk.specs.Known.{EachAt, EachChild, EachSlot, IsChild, IsEntryless, IsMoreGiven, IsWhole, want_alone}

each_slot : (P Q : CidParts → Type 0) → ((cid : CidParts) → P cid → Q cid) → (slots : List Slot) → EachSlot P slots → EachSlot Q slots
each_slot P Q f [] h = tt
each_slot P Q f (slot ∷ slots) h = (h.0, f slot.cid h.1, each_slot P Q f slots h.2)

-- it stays one
pub entryless_more : (q : QueryParts) (store : Store) (sections more : List Section) → IsMoreGiven q sections more → (levels most : ℕ) (cid : CidParts) → levels ≤ most → IsEntryless q store sections levels cid
    → IsEntryless q store more most cid
entryless_more q store sections more g zero most cid h is = absurd is
entryless_more q store sections more g (suc levels) zero cid h is = absurd (omega (arith, h))
entryless_more q store sections more g (suc levels) (suc most) cid h is = record {
  block = is.block;
  slots = is.slots;
  stored = is.stored;
  reads = is.reads;
  given = g cid is.given;
  below = each_slot (IsEntryless q store sections levels) (IsEntryless q store more most) (λ cid. entryless_more q store sections more g levels most cid (omega (arith, h))) is.slots is.below;
}

-- ---- wherever it may stand all is known of it

-- where a shard is gone over, and where one may stand
abbrev pub IsDirectoryReach : Reach → Type 0
IsDirectoryReach (bundled path) = ⊤
IsDirectoryReach entire = ⊥
IsDirectoryReach (ranged low high) = ⊥
IsDirectoryReach listed = ⊤

abbrev pub IsShardPosition : Position → Type 0
IsShardPosition top = ⊤
IsShardPosition (part size) = ⊥
IsShardPosition (child above) = ⊤

none_first : (test : Bool) (fault : BlockFault) (later : Option BlockFault) → test ≡ false → later ≡ None → cond test (Some fault) later ≡ None
none_first true fault later h g = cc
none_first false fault later h g = g

not_elsewhere : (slots : List ℕ) (name : Option (List ℕ)) → name ≡ None → is_name_elsewhere slots name ≡ false
not_elsewhere slots None e = refl
not_elsewhere slots (Some name) e = cc

none_misplaced : (P : CidParts → Type 0) (at : ℕ) (above : List ℕ) (slots : List Slot) → EachSlot P slots → misplaced_from at above slots ≡ None
none_misplaced P at above [] h = refl
none_misplaced P at above (slot ∷ slots) h =
    none_first (is_misplaced above slot) (faults.Misplaced at) (misplaced_from (at + 1) above slots) (not_elsewhere (above ++ slot.slot ∷ []) slot.name h.0) (none_misplaced P (at + 1) above slots h.2)

no_shard_fault : (P : CidParts → Type 0) (above : List ℕ) (slots : List Slot) → length above ≤ 7 → EachSlot P slots → shard_fault above slots ≡ None
no_shard_fault P above slots few h = none_first (nat_lt 7 (length above)) faults.BelowEight (misplaced_from 0 above slots) (le-ltb 7 (length above) few) (none_misplaced P 0 above slots h)

may_stand : (P : CidParts → Type 0) (position : Position) (slots : List Slot) → IsShardPosition position → length (passed position) ≤ 7 → EachSlot P slots → position_fault position (Shard slots) ≡ None
may_stand P top slots s few h = no_shard_fault P [] slots few h
may_stand P (part size) slots s few h = absurd s
may_stand P (child above) slots s few h = no_shard_fault P above slots few h

no_text : (reach : Reach) (slots : List Slot) → IsDirectoryReach reach → text_behind reach (Shard slots) ≡ []
no_text (bundled path) slots d = refl
no_text entire slots d = absurd d
no_text (ranged low high) slots d = absurd d
no_text listed slots d = refl

module _ (P : CidParts → Type 0) (Q : Want → CidParts → Type 0) where
  slot_at : (reach : Reach) (position : Position) (depth number : ℕ) (cid : CidParts) (name : Option (List ℕ)) (tasks : List (Task CidParts)) → IsDirectoryReach reach → name ≡ None
      → Q (node_want reach (child_below position number) depth) cid → EachAt Q tasks
      → EachAt Q (entries_then (visit_by_name reach position number cid name).met (child_then (visit_by_name reach position number cid name).into depth cid tasks))
  slot_at reach position depth number cid (Some name) tasks d e one h = cc
  slot_at (bundled path) position depth number cid None tasks d e one h = (one, h)
  slot_at entire position depth number cid None tasks d e one h = absurd d
  slot_at (ranged low high) position depth number cid None tasks d e one h = absurd d
  slot_at listed position depth number cid None tasks d e one h = (one, h)

  slots_at : (reach : Reach) (position : Position) (depth : ℕ) (slots : List Slot) → IsDirectoryReach reach → ((number : ℕ) (cid : CidParts) → P cid → Q (node_want reach (child_below position number) depth) cid)
      → EachSlot P slots → EachAt Q (children_tasks (map (slot_visit reach position) slots) depth (map (λ slot. slot.cid) slots))
  slots_at reach position depth [] d f h = tt
  slots_at reach position depth (slot ∷ slots) d f h =
      slot_at reach position depth slot.slot slot.cid slot.name (children_tasks (map (slot_visit reach position) slots) depth (map (λ slot. slot.cid) slots)) d h.0 (f slot.slot slot.cid h.1)
      (slots_at reach position depth slots d f h.2)

abbrev StandsAnywhere : QueryParts → Store → List Section → ℕ → Type 0
StandsAnywhere q store sections levels = (reach : Reach) (position : Position) (depth : ℕ) (cid : CidParts) → IsDirectoryReach reach → IsShardPosition position → length (passed position) + levels ≤ 8
    → IsEntryless q store sections levels cid → IsWhole q store sections levels (want_alone (node_want reach position depth)) cid

one_anywhere : (q : QueryParts) (store : Store) (sections : List Section) (levels : ℕ) → StandsAnywhere q store sections levels → StandsAnywhere q store sections (suc levels)
one_anywhere q store sections levels inner reach position depth cid d s bound is =
    let w = node_want reach position depth in
    let xs = links_of (Shard is.slots) in
    let children = slots_at (IsEntryless q store sections levels) (λ w cid. IsWhole q store sections levels (want_alone w) cid) reach position (depth + 1) is.slots d
    (λ number cid h.
    let more = length-append (passed position) (number ∷ []) in
    inner reach (child_below position number) (depth + 1) cid d tt (omega (arith, more, bound)) h) is.below in
    record {
      block = is.block;
      kind = Shard is.slots;
      stored = is.stored;
      reads = is.reads;
      fits = fits_alone q w (Shard is.slots) ∙ may_stand (IsEntryless q store sections levels) position is.slots s (omega (arith, bound)) is.below;
      given = is.given;
      below = each_alone (λ w cid. IsWhole q store sections levels w cid) q w (section_of cid is.block) (Shard is.slots) xs
          (each_both (λ w cid. IsWhole q store sections levels (want_alone w) cid) (children_tasks (map (slot_visit reach position) is.slots) (depth + 1) xs) (text_last (text_behind reach (Shard is.slots)))
          children (each_text (λ w cid. IsWhole q store sections levels (want_alone w) cid) (text_behind reach (Shard is.slots))));
    }

pub anywhere : (q : QueryParts) (store : Store) (sections : List Section) (levels : ℕ) → StandsAnywhere q store sections levels
anywhere q store sections zero reach position depth cid d s bound is = absurd is
anywhere q store sections (suc levels) reach position depth cid d s bound is = one_anywhere q store sections levels (anywhere q store sections levels) reach position depth cid d s bound is

-- ---- a child of a shard of which no task meets an entry is one

module _ (P : CidParts → Type 0) where
  -- what is told of a slot by its task
  record IsSlot (name : Option (List ℕ)) (cid : CidParts) (tasks : List (Task CidParts)) : Type 0 where
    pub unnamed : name ≡ None
    pub one : P cid
    pub rest : EachChild P tasks

  slot_of_task : (reach : Reach) (position : Position) (depth number : ℕ) (cid : CidParts) (name : Option (List ℕ)) (tasks : List (Task CidParts)) → IsDirectoryReach reach
      → EachChild P (entries_then (visit_by_name reach position number cid name).met (child_then (visit_by_name reach position number cid name).into depth cid tasks)) → IsSlot name cid tasks
  slot_of_task (bundled path) position depth number cid (Some name) tasks d h = let none = h.0 in absurd (cc none)
  slot_of_task (bundled path) position depth number cid None tasks d h = record { unnamed = refl; one = h.0; rest = h.1 }
  slot_of_task entire position depth number cid name tasks d h = absurd d
  slot_of_task (ranged low high) position depth number cid name tasks d h = absurd d
  slot_of_task listed position depth number cid (Some name) tasks d h = let none = h.0 in absurd (cc none)
  slot_of_task listed position depth number cid None tasks d h = record { unnamed = refl; one = h.0; rest = h.1 }

  slots_of_tasks : (reach : Reach) (position : Position) (depth : ℕ) (slots : List Slot) → IsDirectoryReach reach
      → EachChild P (children_tasks (map (slot_visit reach position) slots) depth (map (λ slot. slot.cid) slots)) → EachSlot P slots
  slots_of_tasks reach position depth [] d h = tt
  slots_of_tasks reach position depth (slot ∷ slots) d h =
      let first = slot_of_task reach position depth slot.slot slot.cid slot.name (children_tasks (map (slot_visit reach position) slots) depth (map (λ slot. slot.cid) slots)) d h in
      (first.unnamed, first.one, slots_of_tasks reach position depth slots d first.rest)

module _ (q : QueryParts) (store : Store) (sections : List Section) (levels : ℕ) (cid : CidParts) (block : List ℕ) where
  child_here : (reach : Reach) (above : List ℕ) (depth : ℕ) (kind : Kind) → IsDirectoryReach reach → block_at store cid ≡ Some block → read cid block ≡ Ok kind → position_fault (child above) kind ≡ None
      → is_sent_behind q sections cid ≡ false → EachChild (IsEntryless q store sections levels) (node_tasks reach (child above) depth kind (links_of kind)) → IsEntryless q store sections (suc levels) cid
  child_here reach above depth Raw d stored reads fits given each = cc
  child_here reach above depth (File inline filesize parts) d stored reads fits given each = cc
  child_here reach above depth (Basic entries) d stored reads fits given each = cc
  child_here reach above depth (Shard slots) d stored reads fits given each = record {
    block = block;
    slots = slots;
    stored = stored;
    reads = reads;
    given = given;
    below = slots_of_tasks (IsEntryless q store sections levels) reach (child above) (depth + 1) slots d
        (child_front (IsEntryless q store sections levels) (children_tasks (map (slot_visit reach (child above)) slots) (depth + 1) (map (λ slot. slot.cid) slots)) (text_last (text_behind reach (Shard slots))) each);
  }
  child_here reach above depth (Symlink target) d stored reads fits given each = cc

  pub entryless_here : (w : Want) (kind : Kind) → IsChild (role_at w) → block_at store cid ≡ Some block → read cid block ≡ Ok kind → fault_at q w kind ≡ None → is_sent_behind q sections cid ≡ false
      → EachChild (IsEntryless q store sections levels) (tasks_of q w (section_of cid block) kind (links_of kind)) → IsEntryless q store sections (suc levels) cid
  entryless_here (segment_want i position name path depth) kind c stored reads fits given each = absurd c
  entryless_here (terminal_want depth) kind c stored reads fits given each = absurd c
  entryless_here (node_want (bundled path) top depth) kind c stored reads fits given each = absurd c
  entryless_here (node_want (bundled path) (part size) depth) kind c stored reads fits given each = absurd c
  entryless_here (node_want (bundled path) (child above) depth) kind c stored reads fits given each = child_here (bundled path) above depth kind tt stored reads fits given each
  entryless_here (node_want entire top depth) kind c stored reads fits given each = absurd c
  entryless_here (node_want entire (part size) depth) kind c stored reads fits given each = absurd c
  entryless_here (node_want entire (child above) depth) kind c stored reads fits given each = absurd c
  entryless_here (node_want (ranged low high) position depth) kind c stored reads fits given each = absurd c
  entryless_here (node_want listed top depth) kind c stored reads fits given each = absurd c
  entryless_here (node_want listed (part size) depth) kind c stored reads fits given each = absurd c
  entryless_here (node_want listed (child above) depth) kind c stored reads fits given each = child_here listed above depth kind tt stored reads fits given each
