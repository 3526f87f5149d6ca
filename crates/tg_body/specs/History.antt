-- What a reader of a body stands for: what it was fed and what it gave.
use Rattle.std.specs.Prelude.{◌≡◌, ◌≢◌, ℕ, ◌<◌, ◌≤◌, ◌⊎◌, ⊤, Bool, true, false, Option, Some, None, List, [], ◌∷◌, ◌++◌}
use Rattle.std.specs.Prelude.{length, take, slice_range, All, Result, Ok, Err}
use Rattle.tg_bytes.specs.Lists.{joined}
use Rattle.tg_http.specs.declared.fault.HttpFault.{HttpFault}
use Rattle.tg_http.specs.declared.fault.HttpFault.TheVariants as faults
use Rattle.tg_http.specs.declared.framing.Framing.{Framing}
use Rattle.tg_http.specs.declared.framing.Framing.TheVariants as framings
use Rattle.tg_body.specs.declared.body.Body.{Body}
use Rattle.tg_body.specs.declared.body.Body.TheVariants as events
use Rattle.tg_http.specs.HeadText.{IsLine, IsEmptyLine, IsFullLine}
use Rattle.tg_body.specs.Bodies.{SizeLine, ChunksText, TrailerText, IsOpenLine, InTrailer, ChunkedFront, BodyText}
use Rattle.tg_body.specs.Bodies.{BodyFront}

-- how a reader stopped: `feed` refused this piece, or `end` refused
pub data Stop : Type 0 where
  at_piece : List ℕ → HttpFault → Stop
  at_end : HttpFault → Stop

-- what a reader took and gave, in the order of its calls
pub record History : Type 0 where
  pub fed : List ℕ  -- the bytes that it took
  pub given : List ℕ  -- the parts of the body that it gave, joined
  pub ended : Bool  -- whether it gave the end
  pub stop : Option Stop  -- its refusal

-- nothing yet
abbrev pub nothing : History
nothing = record { fed = []; given = []; ended = false; stop = None }

-- the history with what was taken of a piece and given for it
abbrev pub with_body : History → List ℕ → ℕ → Body → History
with_body h piece taken events.Need = record h { fed = h.fed ++ take taken piece }
with_body h piece taken (events.Part start end) =
    record h { fed = h.fed ++ take taken piece; given = h.given ++ slice_range piece start end }
with_body h piece taken events.End = record h { fed = h.fed ++ take taken piece; ended = true }

-- the history with a refusal; the calls after the first one add nothing
abbrev pub stopped : History → Stop → Option Stop → History
stopped h stop None = record h { stop = Some stop }
stopped h stop (Some before) = h

-- the history with one call of `feed` added
abbrev pub with_feed : History → List ℕ → Result (ℕ × Body) HttpFault → History
with_feed h piece (Ok told) = with_body h piece told.0 told.1
with_feed h piece (Err fault) = stopped h (at_piece piece fault) h.stop

-- the history with one call of `end` added
abbrev pub with_end : {A : Type 0} → History → Result A HttpFault → History
with_end h (Ok done) = h
with_end h (Err fault) = stopped h (at_end fault) h.stop

-- a whole line that states no size, or 16,384 bytes without a line feed
abbrev pub BreaksLine : List ℕ → Type 0
BreaksLine bytes =
    (IsLine bytes × (length bytes ≤ 16384) × ((size : ℕ) → SizeLine size bytes → ⊥)) ⊎ (All (λ b. b ≢ 10) bytes × (length bytes ≡ 16384))

-- behind a chunk's bytes: no CR, or no LF behind the CR
pub record BreaksDataEnd (bytes : List ℕ) : Type 0 where
  pub line : List ℕ
  pub chunk : List ℕ
  pub last : ℕ
  pub line_is : SizeLine (length chunk) line
  pub some : 0 < length chunk
  pub breaks : ((bytes ≡ line ++ (chunk ++ last ∷ [])) × (last ≢ 13)) ⊎ ((bytes ≡ line ++ (chunk ++ 13 ∷ last ∷ [])) × (last ≢ 10))

-- behind these lines: an empty line with which they are no trailer, or bytes without an empty line up to the 16,384th
abbrev pub BreaksBlock : List (List ℕ) → List ℕ → Type 0
BreaksBlock lines rest =
    (IsEmptyLine rest × (length (joined lines ++ rest) ≤ 16384) × (TrailerText (joined lines ++ rest) → ⊥))
    ⊎ ((All (λ b. b ≢ 10) rest ⊎ IsFullLine rest) × (length (joined lines ++ rest) ≡ 16384))

-- behind the line of size 0: a block with its empty line that is no trailer, or 16,384 bytes without an empty line
pub record BreaksTrailer (bytes : List ℕ) : Type 0 where
  pub line : List ℕ
  pub lines : List (List ℕ)
  pub rest : List ℕ
  pub line_is : SizeLine 0 line
  pub lines_are : All IsFullLine lines
  pub whole : bytes ≡ line ++ (joined lines ++ rest)
  pub breaks : BreaksBlock lines rest

-- behind whole chunks, the last of these bytes is the first with which no body goes on
pub record BreaksChunked (bytes : List ℕ) : Type 0 where
  pub chunks : List (List ℕ)
  pub front : List ℕ
  pub rest : List ℕ
  pub chunks_are : ChunksText chunks front
  pub whole : bytes ≡ front ++ rest
  pub breaks : BreaksLine rest ⊎ (BreaksDataEnd rest ⊎ BreaksTrailer rest)

-- a byte of the piece is the first with which no body goes on, and what was given is what the bytes before it give
pub record StopsAtByte (fed given piece : List ℕ) : Type 0 where
  pub front : List ℕ
  pub last : ℕ
  pub more : List ℕ
  pub whole : piece ≡ front ++ last ∷ more
  pub went_on : ChunkedFront given (fed ++ front)
  pub breaks : BreaksChunked ((fed ++ front) ++ last ∷ [])

-- whole chunks with this body came, and a front of a chunk line or of a trailer, which is kept
pub record IsInText (body bytes : List ℕ) : Type 0 where
  pub chunks : List (List ℕ)
  pub front : List ℕ
  pub rest : List ℕ
  pub chunks_are : ChunksText chunks front
  pub text : IsOpenLine rest ⊎ InTrailer rest
  pub whole : bytes ≡ front ++ rest
  pub body_is : body ≡ joined chunks

-- memory is wanted for bytes of the piece, which are of a chunk line or of a trailer
pub record WantsMemory (fed given piece : List ℕ) : Type 0 where
  pub front : List ℕ
  pub more : List ℕ
  pub whole : piece ≡ front ++ more
  pub some : 0 < length more
  pub went_on : IsInText given (fed ++ front)

-- the cause of each refusal of `feed`
abbrev pub HasFeedCause : Framing → List ℕ → List ℕ → List ℕ → HttpFault → Type 0
HasFeedCause framing fed given piece faults.BadFraming =
    (framing ≡ framings.Broken) ⊎ ((framing ≡ framings.Chunked) × StopsAtByte fed given piece)
HasFeedCause framing fed given piece faults.OutOfMemory = (framing ≡ framings.Chunked) × WantsMemory fed given piece
HasFeedCause framing fed given piece faults.BadHead = ⊥
HasFeedCause framing fed given piece faults.HeadLimit = ⊥

-- the bytes end inside a body of stated length or in chunks
abbrev pub EndsInside : Framing → List ℕ → List ℕ → Type 0
EndsInside (framings.Length number) body bytes = (body ≡ bytes) × (length bytes < number)
EndsInside framings.Chunked body bytes = ChunkedFront body bytes
EndsInside framings.UntilClose body bytes = ⊥
EndsInside framings.Broken body bytes = (body ≡ []) × (bytes ≡ [])

-- the cause of each refusal of `end`
abbrev pub HasEndCause : Framing → List ℕ → List ℕ → HttpFault → Type 0
HasEndCause framing fed given faults.BadFraming = EndsInside framing given fed
HasEndCause framing fed given faults.OutOfMemory = ⊥
HasEndCause framing fed given faults.BadHead = ⊥
HasEndCause framing fed given faults.HeadLimit = ⊥

-- the body is whole where the end was given, and else goes on; it never ends by its bytes where it goes on until the
-- link closes
abbrev pub IsSoFar : Framing → Bool → List ℕ → List ℕ → Type 0
IsSoFar framing true body bytes = BodyText framing body bytes × (framing ≢ framings.UntilClose)
IsSoFar framing false body bytes = BodyFront framing body bytes

-- why a reader stopped
abbrev pub HasStopped : Framing → History → Option Stop → Type 0
HasStopped framing h None = ⊤
HasStopped framing h (Some (at_piece piece fault)) = (h.ended ≡ false) × HasFeedCause framing h.fed h.given piece fault
HasStopped framing h (Some (at_end fault)) = (h.ended ≡ false) × HasEndCause framing h.fed h.given fault

-- the history is exact in this framing: what was given is what the bytes give, and a refusal has its cause
pub record IsExact (framing : Framing) (h : History) : Type 0 where
  pub so_far : IsSoFar framing h.ended h.given h.fed
  pub stopped : HasStopped framing h h.stop
