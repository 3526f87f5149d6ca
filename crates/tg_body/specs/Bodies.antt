-- The bodies of the framings (RFC 9112, sections 6.3 and 7.1), and bytes with which a body goes on.
use Rattle.std.specs.Prelude.{◌≡◌, ◌≢◌, ℕ, ◌^◌, ◌<◌, ◌≤◌, ◌⊎◌, List, [], ◌∷◌, ◌++◌, length, All}
use Rattle.httparse.specs.Ascii.{crlf_bytes}
use Rattle.httparse.specs.Grammar.{LineEnd, print_end, Field, ReadsSection, ChunkLine, ReadsChunkLine, chunk_size}
use Rattle.tg_bytes.specs.Lists.{joined}
use Rattle.tg_http.specs.declared.framing.Framing.{Framing}
use Rattle.tg_http.specs.declared.framing.Framing.TheVariants as framings
use Rattle.tg_http.specs.HeadText.{IsFullLine}

-- a chunk line of the grammar of at most 16,384 bytes, which states this size
pub record SizeLine (size : ℕ) (line : List ℕ) : Type 0 where
  pub tree : ChunkLine
  pub reads : ReadsChunkLine line tree []
  pub size_is : size ≡ chunk_size tree
  pub small : size < 2 ^ 63
  pub fits : length line ≤ 16384

-- a chunk that isn't the last: its line, its bytes, CR LF
pub record ChunkText (chunk bytes : List ℕ) : Type 0 where
  pub line : List ℕ
  pub line_is : SizeLine (length chunk) line
  pub some : 0 < length chunk
  pub whole : bytes ≡ line ++ (chunk ++ crlf_bytes)

-- chunks, one after another
abbrev pub ChunksText : List (List ℕ) → List ℕ → Type 0
ChunksText [] bytes = bytes ≡ []
ChunksText (chunk ∷ chunks) bytes =
    (front : List ℕ) × (rest : List ℕ) × (bytes ≡ front ++ rest) × ChunkText chunk front × ChunksText chunks rest

-- The trailer goes up to and with the first empty line. It is a header block of the grammar, of at most 16,384 bytes
-- and 64 fields, and it is dropped.
pub record TrailerText (bytes : List ℕ) : Type 0 where
  pub lines : List (List ℕ)
  pub empty : LineEnd
  pub lines_are : All IsFullLine lines
  pub up_to_empty : bytes ≡ joined lines ++ print_end empty
  pub fields : List Field
  pub last : LineEnd
  pub reads : ReadsSection bytes fields last []
  pub few : length fields ≤ 64
  pub fits : length bytes ≤ 16384

-- chunks, the line of size 0 and the trailer, with this body
pub record ChunkedText (body bytes : List ℕ) : Type 0 where
  pub chunks : List (List ℕ)
  pub front : List ℕ
  pub line : List ℕ
  pub trailer : List ℕ
  pub chunks_are : ChunksText chunks front
  pub line_is : SizeLine 0 line
  pub trailer_is : TrailerText trailer
  pub whole : bytes ≡ front ++ (line ++ trailer)
  pub body_is : body ≡ joined chunks

-- the bytes are this body, whole in its framing
abbrev pub BodyText : Framing → List ℕ → List ℕ → Type 0
BodyText (framings.Length number) body bytes = (body ≡ bytes) × (length bytes ≡ number)
BodyText framings.Chunked body bytes = ChunkedText body bytes
BodyText framings.UntilClose body bytes = body ≡ bytes
BodyText framings.Broken body bytes = ⊥

-- bytes without a line feed, too few to say that no line of the limit comes
pub record IsOpenLine (bytes : List ℕ) : Type 0 where
  pub no_feed : All (λ b. b ≢ 10) bytes
  pub few : length bytes < 16384

-- lines that aren't empty and bytes of a line, too few to say that no block of the limit comes
pub record IsOpenBlock (bytes : List ℕ) : Type 0 where
  pub lines : List (List ℕ)
  pub rest : List ℕ
  pub lines_are : All IsFullLine lines
  pub no_feed : All (λ b. b ≢ 10) rest
  pub whole : bytes ≡ joined lines ++ rest
  pub few : length bytes < 16384

-- bytes of the chunk at hand: its line, and a front of its bytes
pub record InData (part bytes : List ℕ) : Type 0 where
  pub size : ℕ
  pub line : List ℕ
  pub line_is : SizeLine size line
  pub inside : length part < size
  pub whole : bytes ≡ line ++ part

-- the chunk at hand is whole but for the CR LF behind it, of which no byte came or the CR
pub record InDataEnd (chunk bytes : List ℕ) : Type 0 where
  pub line : List ℕ
  pub line_is : SizeLine (length chunk) line
  pub some : 0 < length chunk
  pub whole : (bytes ≡ line ++ chunk) ⊎ (bytes ≡ line ++ (chunk ++ 13 ∷ []))

-- the line of size 0, and a front of the trailer
pub record InTrailer (bytes : List ℕ) : Type 0 where
  pub line : List ℕ
  pub block : List ℕ
  pub line_is : SizeLine 0 line
  pub block_is : IsOpenBlock block
  pub whole : bytes ≡ line ++ block

-- what came last, behind whole chunks, and the bytes of a chunk that are in it
abbrev pub InChunk : List ℕ → List ℕ → Type 0
InChunk part bytes =
    ((part ≡ []) × IsOpenLine bytes) ⊎ (InData part bytes ⊎ (InDataEnd part bytes ⊎ ((part ≡ []) × InTrailer bytes)))

-- chunks, and a front of what goes on; this body came in them
pub record ChunkedFront (body bytes : List ℕ) : Type 0 where
  pub chunks : List (List ℕ)
  pub front : List ℕ
  pub part : List ℕ
  pub rest : List ℕ
  pub chunks_are : ChunksText chunks front
  pub inside : InChunk part rest
  pub whole : bytes ≡ front ++ rest
  pub body_is : body ≡ joined chunks ++ part

-- A body goes on with these bytes, and this of it came in them. Chunk lines and trailers are judged once they are
-- whole.
abbrev pub BodyFront : Framing → List ℕ → List ℕ → Type 0
BodyFront (framings.Length number) body bytes = (body ≡ bytes) × (length bytes ≤ number)
BodyFront framings.Chunked body bytes = ChunkedFront body bytes
BodyFront framings.UntilClose body bytes = body ≡ bytes
BodyFront framings.Broken body bytes = (body ≡ []) × (bytes ≡ [])
