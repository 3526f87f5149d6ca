-- How the bytes of a file are cut into chunks (this project's own profile of UnixFS).
use Rattle.std.specs.Prelude.{All, List, [], length, map, take, ℕ, ◌++◌, ◌-◌, ◌<◌, ◌≤◌, ◌∷◌, ◌≡◌}
use Rattle.tg_bytes.specs.Lists.{joined}
use Rattle.tg_model.specs.ImportLayout.{AreFull, HasBytes}

-- all chunks but the last have this size and the last has at most it, and a chunk that isn't alone has a byte
pub record AreChunks (size : ℕ) (chunks : List (List ℕ)) : Type 0 where
  pub full : AreFull size (map length chunks)
  pub not_empty : HasBytes chunks

-- all chunks have this size
abbrev pub AllFull : ℕ → List (List ℕ) → Type 0
AllFull size chunks = All (λ (chunk : List ℕ). length chunk ≡ size) chunks

-- they are chunks of the size, also with a last one behind them that has a byte and at most this size
abbrev pub FullAreChunks : Type 0
FullAreChunks = (size : ℕ) (chunks : List (List ℕ)) → 1 ≤ size → AllFull size chunks → AreChunks size chunks

abbrev pub LastIsChunk : Type 0
LastIsChunk = (size : ℕ) (chunks : List (List ℕ)) (last : List ℕ) → 1 ≤ size → AllFull size chunks → length last ≤ size → 0 < length last
    → AreChunks size (chunks ++ last ∷ [])

-- what a contract sees of a chunker: how many bytes a chunk has, and the bytes of the chunk at hand
pub record ChunkerState : Type 0 where
  pub size : ℕ
  pub bytes : List ℕ

-- the bytes of a piece that there is room for, and what a chunker is with them
abbrev pub taken_of : ChunkerState → List ℕ → List ℕ
taken_of state piece = take (state.size - length state.bytes) piece

abbrev pub fed_with : ChunkerState → List ℕ → ChunkerState
fed_with state piece = record { size = state.size; bytes = state.bytes ++ taken_of state piece }

abbrev pub cleared : ChunkerState → ChunkerState
cleared state = record { size = state.size; bytes = [] }

-- a call that changes a chunker
pub data ChunkerCall : Type 0 where
  feeds : List ℕ → ChunkerCall
  clears : ChunkerCall

-- what a chunker is after calls, the chunks that it was cleared of, and the bytes that it took
abbrev pub state_after : ChunkerState → List ChunkerCall → ChunkerState
state_after state [] = state
state_after state (feeds piece ∷ calls) = state_after (fed_with state piece) calls
state_after state (clears ∷ calls) = state_after (cleared state) calls

abbrev pub chunks_after : ChunkerState → List ChunkerCall → List (List ℕ)
chunks_after state [] = []
chunks_after state (feeds piece ∷ calls) = chunks_after (fed_with state piece) calls
chunks_after state (clears ∷ calls) = state.bytes ∷ chunks_after (cleared state) calls

abbrev pub bytes_taken : ChunkerState → List ChunkerCall → List ℕ
bytes_taken state [] = []
bytes_taken state (feeds piece ∷ calls) = taken_of state piece ++ bytes_taken (fed_with state piece) calls
bytes_taken state (clears ∷ calls) = bytes_taken (cleared state) calls

-- the chunks that a chunker is cleared of, with the one at hand behind them, are the bytes that it took
abbrev pub KeepsBytes : Type 0
KeepsBytes = (state : ChunkerState) (calls : List ChunkerCall)
    → joined (chunks_after state calls) ++ (state_after state calls).bytes ≡ state.bytes ++ bytes_taken state calls
