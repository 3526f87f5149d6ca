-- The entries of a sharded directory in the order of their names' hashes (UnixFS specification, HAMTDirectory).
use Rattle.std.specs.Int.{to_be_bytes, w64}
use Rattle.std.specs.List.Sorted.{IsNonDecreasingBy, IsPermutation}
use Rattle.std.specs.List.{sum_by}
use Rattle.std.specs.Prelude.{All, List, [], length, slice_index, slice_index_or, take, ℕ, ◌+◌, ◌<◌, ◌∷◌, ◌≡◌, ◌≢◌, ◌≤◌}
use Rattle.tg_cid.specs.declared.cid.Codec.TheVariants.{Raw}
use Rattle.tg_cid.specs.declared.cid.HashKind.TheVariants.{Sha256}
use Rattle.tg_hamt.specs.declared.order.Hashed.{Hashed}
use Rattle.tg_model.specs.EntryNames.{IsGoodName}
use Rattle.tg_model.specs.declared.kinds.NewEntry.{NewEntry}
use Rattle.tg_murmur.specs.NameHash.{name_hash}

-- an entry may stand in a directory: its name is good and has at most 255 bytes, and its CID is of sha2-256
pub record IsGoodEntry (entry : NewEntry) : Type 0 where
  pub name : IsGoodName entry.name
  pub short : length entry.name ≤ 255
  pub plain : entry.cid.hash ≡ Sha256

-- the entry with this index
abbrev pub no_entry : NewEntry
no_entry = record { name = []; cid = record { version = 0; codec = Raw; hash = Sha256; digest = [] }; tsize = 0 }

abbrev pub entry_at : List NewEntry → ℕ → NewEntry
entry_at entries i = slice_index_or entries i no_entry

-- the hash of each entry's name, with its index
abbrev pub hashed_from : ℕ → List NewEntry → List Hashed
hashed_from i [] = []
hashed_from i (entry ∷ entries) = record { hash = name_hash entry.name; index = i } ∷ hashed_from (i + 1) entries

-- a hash with its index is an entry's
pub record IsHashed (entries : List NewEntry) (item : Hashed) : Type 0 where
  pub inside : item.index < length entries
  pub hash_is : item.hash ≡ name_hash (entry_at entries item.index).name

abbrev pub hash_of : Hashed → ℕ
hash_of item = item.hash

-- all entries, in the order of their hashes
pub record IsSortedOrder (entries : List NewEntry) (order : List Hashed) : Type 0 where
  pub all : IsPermutation (hashed_from 0 entries) order
  pub sorted : IsNonDecreasingBy hash_of order

-- the hashes rise
abbrev pub Rises : List Hashed → Type 0
Rises order = (i j : ℕ) (d : Hashed) → i < j → j < length order → (slice_index_or order i d).hash < (slice_index_or order j d).hash

-- two neighbours have one hash
pub record IsSamePair (order : List Hashed) (i : ℕ) : Type 0 where
  pub inside : i + 1 < length order
  pub same : (d : Hashed) → (slice_index_or order i d).hash ≡ (slice_index_or order (i + 1) d).hash

-- some entries, in the order of their hashes, which differ
pub record IsOrder (entries : List NewEntry) (order : List Hashed) : Type 0 where
  pub rises : Rises order
  pub each : All (IsHashed entries) order

-- the slots that a hash chooses at the levels from 0 to 7, and the one at a level
abbrev pub slots_of : Hashed → List ℕ
slots_of item = to_be_bytes w64 item.hash

abbrev pub slot_in : Hashed → ℕ → ℕ
slot_in item level = slice_index (slots_of item) level

-- the entries stand behind these slots
abbrev pub IsPassed : List ℕ → List Hashed → Type 0
IsPassed above order = All (λ item. take (length above) (slots_of item) ≡ above) order

-- the entries from `start` on with its slot, up to the first with another
pub record IsRun (order : List Hashed) (start end level : ℕ) : Type 0 where
  pub begins : start < end
  pub ends : end ≤ length order
  pub same : (i : ℕ) (d : Hashed) → start ≤ i → i < end
      → slot_in (slice_index_or order i d) level ≡ slot_in (slice_index_or order start d) level
  pub next : (d : Hashed) → end < length order
      → slot_in (slice_index_or order end d) level ≢ slot_in (slice_index_or order start d) level

-- the Tsizes of these entries together
abbrev pub tsizes_in : List NewEntry → List Hashed → ℕ
tsizes_in entries order = sum_by (λ item. (entry_at entries item.index).tsize) order
