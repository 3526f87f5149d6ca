-- The bytes that a chunker takes are those of its chunks.
use Rattle.std.proofs.Common.{◌≡◌, ℕ, List, [], ◌∷◌, ◌++◌, sym, ap, ◌∙◌, append_assoc}
use Rattle.std.proofs.lemmas.List.{append-nil}
use Rattle.tg_bytes.specs.Lists.{joined}
use Rattle.tg_filedag.specs.Chunks.{ChunkerCall, ChunkerState, bytes_taken, chunks_after, cleared, clears, fed_with, feeds, state_after, taken_of}

pub keeps_bytes : (state : ChunkerState) (calls : List ChunkerCall)
    → joined (chunks_after state calls) ++ (state_after state calls).bytes ≡ state.bytes ++ bytes_taken state calls
keeps_bytes state [] = sym (append-nil state.bytes)
keeps_bytes state (feeds piece ∷ calls) =
    keeps_bytes (fed_with state piece) calls ∙ append_assoc state.bytes (taken_of state piece) (bytes_taken (fed_with state piece) calls)
keeps_bytes state (clears ∷ calls) =
    append_assoc state.bytes (joined (chunks_after (cleared state) calls)) (state_after (cleared state) calls).bytes
    ∙ ap (λ (t : List ℕ). state.bytes ++ t) (keeps_bytes (cleared state) calls)
