-- What a contract sees of the memory forms of sources and sinks.
use Rattle.std.specs.Prelude.{◌≡◌, ℕ, List, [], ◌++◌, Some, refl}
use Rattle.std.proofs.Common.{◌∙◌, ap, sym, append_assoc, append-nil}
use Rattle.tg_streams.specs.Streams.{SourceMeaning, SinkMeaning}

-- a source over bytes in memory
pub record SourceState : Type 0 where
  pub rest : List ℕ  -- what is left
  pub piece : ℕ  -- the most that one take moves
  pub fails : List ℕ  -- the numbers of the calls that fail, counted from 0
  pub calls : ℕ  -- how many calls were made
  pub faults : ℕ  -- how many of them failed

-- a sink that holds what was put into it in memory
pub record SinkState : Type 0 where
  pub content : List ℕ
  pub piece : ℕ  -- the most that one put moves
  pub fails : List ℕ  -- the numbers of the calls that fail, counted from 0
  pub calls : ℕ  -- how many calls were made
  pub faults : ℕ  -- how many of them failed

-- the bytes go from one state of a source to another, whose settings stay
pub record SourceMoves (old new : SourceState) (bytes : List ℕ) : Type 0 where
  pub rest : old.rest ≡ bytes ++ new.rest
  pub piece : new.piece ≡ old.piece
  pub fails : new.fails ≡ old.fails

-- the bytes go into a sink, whose settings stay
pub record SinkMoves (old new : SinkState) (bytes : List ℕ) : Type 0 where
  pub content : new.content ≡ old.content ++ bytes
  pub piece : new.piece ≡ old.piece
  pub fails : new.fails ≡ old.fails

-- what a source and a sink in memory mean: they tell their bytes and their calls
abbrev pub mem_source : SourceMeaning SourceState
mem_source = record {
  left = λ s. Some s.rest;
  at_end = λ s. s.rest ≡ [];
  faults = λ s. s.faults;
  calls = λ s. Some s.calls;
  took = SourceMoves;
}

abbrev pub mem_sink : SinkMeaning SinkState
mem_sink = record {
  held = λ s. Some s.content;
  faults = λ s. s.faults;
  calls = λ s. Some s.calls;
  wrote = SinkMoves;
}

-- nothing that moves leaves a state as it is, and one move after another is a move
pub source_rests : (s : SourceState) → SourceMoves s s []
source_rests s = record { rest = refl; piece = refl; fails = refl }

pub source_joins : (a b c : SourceState) (u v : List ℕ) → SourceMoves a b u → SourceMoves b c v
    → SourceMoves a c (u ++ v)
source_joins a b c u v p q = record {
  rest = p.rest ∙ ap (λ xs. u ++ xs) q.rest ∙ sym (append_assoc u v c.rest);
  piece = q.piece ∙ p.piece;
  fails = q.fails ∙ p.fails;
}

pub sink_rests : (s : SinkState) → SinkMoves s s []
sink_rests s = record { content = sym (append-nil s.content); piece = refl; fails = refl }

pub sink_joins : (a b c : SinkState) (u v : List ℕ) → SinkMoves a b u → SinkMoves b c v → SinkMoves a c (u ++ v)
sink_joins a b c u v p q = record {
  content = q.content ∙ ap (λ xs. xs ++ v) p.content ∙ append_assoc a.content u v;
  piece = q.piece ∙ p.piece;
  fails = q.fails ∙ p.fails;
}
