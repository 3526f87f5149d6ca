-- When a range meets a part, and when a shard may stand behind the slots that were passed.
use Rattle.std.specs.Prelude.{All, List, None, Option, Some, [], length, slice_get, true, ℕ, ⊤, ◌++◌, ◌+◌, ◌<◌, ◌∷◌}
use Rattle.std.specs.Prelude.{◌≡◌, ◌≤◌, ◌↔◌}
use Rattle.tg_model.specs.Sound.{shard_fault}
use Rattle.tg_model.specs.Traversal.{is_met}
use Rattle.tg_model.specs.declared.kinds.Slot.{Slot}
use Rattle.tg_murmur.specs.NameHash.{slot_of}

-- some byte lies in the range and in the part of this size that begins at `from`
pub record LiesInBoth (low high from size : ℕ) : Type 0 where
  pub byte : ℕ
  pub range_begins : low ≤ byte
  pub range_ends : byte < high
  pub part_begins : from ≤ byte
  pub part_ends : byte < from + size

-- a part is met exactly where some byte lies in both
abbrev pub IsMetByBytes : Type 0
IsMetByBytes = (low high from size : ℕ) → (is_met low high from size ≡ true) ↔ LiesInBoth low high from size

-- an entry stands behind the slots of its name; a child shard has none
abbrev pub StandsBehind : List ℕ → Option (List ℕ) → Type 0
StandsBehind slots (Some name) = (level slot : ℕ) → slice_get slots level ≡ Some slot → slot_of name level ≡ slot
StandsBehind slots None = ⊤

-- a shard may stand behind these slots: at most seven were passed, and each entry stands behind its own
pub record MayStand (above : List ℕ) (slots : List Slot) : Type 0 where
  pub few : length above ≤ 7
  pub entries : All (λ slot. StandsBehind (above ++ slot.slot ∷ []) slot.name) slots

abbrev pub IsFaultlessShard : Type 0
IsFaultlessShard = (above : List ℕ) (slots : List Slot) → (shard_fault above slots ≡ None) ↔ MayStand above slots
