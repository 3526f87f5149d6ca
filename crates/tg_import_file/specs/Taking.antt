-- How far a file was taken: cut into chunks and linked.
use Rattle.std.specs.Prelude.{All, IfSome, List, Option, Some, [], length, ℕ, ◌++◌, ◌+◌, ◌<◌, ◌≡◌, ◌≤◌}
use Rattle.tg_bytes.specs.Lists.{joined}
use Rattle.tg_filedag.specs.Chunks.{AreChunks, ChunkerState}
use Rattle.tg_filedag.specs.State.{BalancedState, StandsFor}
use Rattle.tg_filedag.specs.Trees.{AreOfFileParts, bottom_up}
use Rattle.tg_import_file.specs.Files.{IsFileOf, max_file_len}
use Rattle.tg_model.specs.Dag.{Dag, Section}
use Rattle.tg_model.specs.Stores.{Keeping}
use Rattle.tg_model.specs.declared.kinds.Made.{Made}
use Rattle.tg_model.specs.declared.stores.KeepFault.{KeepFault}
use Rattle.tg_node_writing.specs.BlockOrder.{AreBehindLinks}
use Rattle.tg_node_writing.specs.Keeping.{Keeps, StopsAfter}

-- these bytes of a file were taken, and these sections kept: the chunks that were linked are full, and the one at hand
-- isn't
pub record HasTaken (chunker : ChunkerState) (balanced : BalancedState) (bytes : List ℕ) (kept : List Section) : Type 0 where
  pub chunks : List (List ℕ)
  pub stands : StandsFor balanced chunks kept
  pub full : All (λ chunk. length chunk ≡ chunker.size) chunks
  pub room : length chunker.bytes < chunker.size
  pub bytes_are : joined chunks ++ chunker.bytes ≡ bytes

-- so many more bytes may be taken
pub record MayTake (chunker : ChunkerState) (balanced : BalancedState) (more : ℕ) : Type 0 where
  pub bytes : List ℕ
  pub kept : List Section
  pub taken : HasTaken chunker balanced bytes kept
  pub few : length bytes + more ≤ max_file_len

-- a piece was taken behind the bytes of before, and further sections were kept
abbrev pub TakesPiece : ChunkerState → BalancedState → ChunkerState → BalancedState → List ℕ → Keeping → Type 0
TakesPiece chunker balanced chunker_new balanced_new piece keeping =
    (bytes : List ℕ) (kept : List Section) → HasTaken chunker balanced bytes kept
    → (sections : List Section) × Keeps sections keeping × HasTaken chunker_new balanced_new (bytes ++ piece) (kept ++ sections)

-- the bytes of a file, as far as they are told, were taken, and sections were kept
pub record TakesFile (file : Option (List ℕ)) (chunker : ChunkerState) (balanced : BalancedState) (keeping : Keeping) : Type 0 where
  pub bytes : List ℕ
  pub sections : List Section
  pub taken : HasTaken chunker balanced bytes sections
  pub keeps : Keeps sections keeping
  pub few : length bytes ≤ max_file_len
  pub told : IfSome file (λ content. content ≡ bytes)

-- the bytes of a file were linked as its chunks
pub record HasLinked (size : ℕ) (balanced : BalancedState) (bytes : List ℕ) (kept : List Section) : Type 0 where
  pub chunks : List (List ℕ)
  pub stands : StandsFor balanced chunks kept
  pub are : AreChunks size chunks
  pub bytes_are : joined chunks ≡ bytes

-- what was taken was linked, and further sections were kept
abbrev pub LinksLast : ChunkerState → BalancedState → BalancedState → Keeping → Type 0
LinksLast chunker balanced balanced_new keeping =
    (bytes : List ℕ) (kept : List Section) → HasTaken chunker balanced bytes kept
    → (sections : List Section) × Keeps sections keeping × HasLinked chunker.size balanced_new bytes (kept ++ sections)

-- what was taken was linked into one file, and further sections were kept
abbrev pub MakesFile : ChunkerState → BalancedState → Made → Keeping → Type 0
MakesFile chunker balanced made keeping = (bytes : List ℕ) (kept : List Section) → HasTaken chunker balanced bytes kept
    → (sections : List Section) × (d : Dag) × Keeps sections keeping × IsFileOf chunker.size balanced.width (Some bytes) made d × (kept ++ sections ≡ bottom_up d)
    × AreBehindLinks [] (kept ++ sections)

-- before this fault further sections were kept: with those of before they are blocks of parts of the file
abbrev pub Stops : ChunkerState → BalancedState → KeepFault → Keeping → Type 0
Stops chunker balanced fault keeping = (bytes : List ℕ) (kept : List Section) → HasTaken chunker balanced bytes kept
    → (sections : List Section) × StopsAfter sections fault keeping × AreOfFileParts (kept ++ sections)
