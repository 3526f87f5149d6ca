-- What is read from a pack.
use Rattle.std.specs.Prelude.{◌≡◌, ◌≤◌, ◌<◌, ◌+◌, ⊤, ℕ, List, length, take, Option, Some, None}
use Rattle.tg_bytes.specs.Told.{after_front, IsNothing}
use Rattle.tg_files.specs.Packs.{PackQuiet, PackRose, PackStep, rest_at}
use Rattle.tg_model.specs.declared.stores.BlocksFault.{BlocksFault}
use Rattle.tg_model.specs.declared.stores.BlocksFault.TheVariants as faults
use Rattle.tg_store.specs.declared.place.Place.{Place}
use Rattle.tg_store.specs.Packs.{block_at}

-- n bytes from the offset on stand in the front of the buffer: as many as it has room for, or up to the pack's end
pub record ReadsUpTo (held : Option (List ℕ)) (offset n : ℕ) (buf : List ℕ) : Type 0 where
  pub within : n ≤ length buf
  pub bytes : rest_at held offset ≡ after_front (take n buf) (rest_at held (offset + n))
  pub end : n < length buf → IsNothing (rest_at held (offset + n))

-- these are the bytes at the place, as far as they are told; they are no more than its size
abbrev pub IsBlockOf : Option (List ℕ) → Place → List ℕ → Type 0
IsBlockOf None place block = ⊤
IsBlockOf (Some content) place block = block ≡ block_at content place

pub record HasBlockAt (held : Option (List ℕ)) (place : Place) (block : List ℕ) : Type 0 where
  pub bytes : IsBlockOf held place block
  pub few : length block ≤ place.size

-- why a block isn't read
abbrev pub HasReadCause : PackStep → BlocksFault → Type 0
HasReadCause step (faults.Changed want got) = ⊥
HasReadCause step faults.Failed = PackRose step
HasReadCause step faults.OutOfMemory = PackQuiet step
