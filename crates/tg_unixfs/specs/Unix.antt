-- UnixFS data as a message under its table (UnixFS specification, Data Format: message Data; the ascending order and
-- the unpacked blocksizes are this project's own profile).
use Rattle.std.specs.Prelude.{◌≡◌, ℕ, ◌<◌, ◌⊎◌, List, [], ◌∷◌, length, All, Some, IsSome}
use Rattle.tg_pbtable.specs.declared.table.Field.{Field}
use Rattle.tg_pbtable.specs.declared.table.Order.TheVariants.{Ascending}
use Rattle.tg_pbtable.specs.Message.{Message}
use Rattle.tg_pbtable.specs.Values.{numbers_at, bytes_at, listed}
use Rattle.tg_unixfs.specs.declared.TheConstants.{DATA, TIME}
use Rattle.tg_unixfs.specs.declared.Unix.{Unix}

-- the types of a node: 0 Raw, 1 Directory, 2 File, 4 Symlink, 5 HAMTShard
abbrev pub IsKind : ℕ → Type 0
IsKind kind = (kind ≡ 0) ⊎ ((kind ≡ 1) ⊎ ((kind ≡ 2) ⊎ ((kind ≡ 4) ⊎ (kind ≡ 5))))

-- a shard has the hash murmur3-x64-64 and the fanout 256
pub record IsShardOf (unix : Unix) : Type 0 where
  pub hash : unix.hash ≡ Some 0x22
  pub fanout : unix.fanout ≡ Some 256

-- the fields of a text are the parts of the data
pub record HasParts (text : List ℕ) (fields : List Field) (unix : Unix) : Type 0 where
  pub kind : numbers_at 1 fields ≡ unix.kind ∷ []
  pub inline : bytes_at text 2 fields ≡ listed unix.inline
  pub filesize : numbers_at 3 fields ≡ listed unix.filesize
  pub sizes : numbers_at 4 fields ≡ unix.sizes
  pub hash : numbers_at 5 fields ≡ listed unix.hash
  pub fanout : numbers_at 6 fields ≡ listed unix.fanout

-- the data may stand: its type is known, and a shard is one
pub record IsUnix (unix : Unix) : Type 0 where
  pub known : IsKind unix.kind
  pub shard : unix.kind ≡ 5 → IsShardOf unix

-- the data has inline bytes or blocksizes
abbrev pub HasContent : Unix → Type 0
HasContent unix = IsSome unix.inline ⊎ (0 < length unix.sizes)

-- the bytes are a message of a time, whatever its numbers (UnixFS specification, Metadata: message UnixTime)
abbrev pub IsTime : List ℕ → Type 0
IsTime bytes = (fields : List Field) × Message TIME.now Ascending bytes fields

-- where a modification time stands, it is one
abbrev pub HasTime : List ℕ → List Field → Type 0
HasTime text fields = All IsTime (bytes_at text 8 fields)

-- the text is the data's; its mode and its modification time are no part of the data
pub record UnixText (unix : Unix) (text : List ℕ) : Type 0 where
  pub fields : List Field
  pub message : Message DATA.now Ascending text fields
  pub parts : HasParts text fields unix
  pub time : HasTime text fields
  pub is_unix : IsUnix unix

-- the canonical text of data, the one that a writer writes: it has neither mode nor modification time
pub record CanonicalText (unix : Unix) (text : List ℕ) : Type 0 where
  pub is_text : UnixText unix text
  pub bare : All (λ field. field.number < 7) is_text.fields
