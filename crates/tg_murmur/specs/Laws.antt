-- What holds of the hashes of names and of their slots.
use Rattle.std.specs.Prelude.{◌≡◌, ℕ, ◌<◌, List}
use Rattle.tg_murmur.specs.NameHash.{name_hash, slot_of}

-- the slots of a name at the levels from 0 to 7 tell its hash
abbrev pub SameSlots : Type 0
SameSlots = (a b : List ℕ) → ((level : ℕ) → level < 8 → slot_of a level ≡ slot_of b level) → name_hash a ≡ name_hash b
