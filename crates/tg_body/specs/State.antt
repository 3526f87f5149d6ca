-- What a reader of a body holds, and the histories that it stands for.
use Rattle.std.specs.Prelude.{◌≡◌, ◌≢◌, ℕ, ◌+◌, ◌<◌, ⊤, Bool, true, false, None, List, [], ◌∷◌, ◌++◌, length, All}
use Rattle.std.specs.Prelude.{option_map}
use Rattle.tg_bytes.specs.Lists.{joined}
use Rattle.tg_http.specs.declared.fault.HttpFault.{HttpFault}
use Rattle.tg_http.specs.declared.framing.Framing.{Framing}
use Rattle.tg_http.specs.declared.framing.Framing.TheVariants as framings
use Rattle.tg_body.specs.declared.stage.Stage.{Stage}
use Rattle.tg_body.specs.declared.stage.Stage.TheVariants as stages
use Rattle.tg_body.specs.declared.reader.BodyReader.{BodyReader}
use Rattle.tg_http.specs.HeadText.{IsFullLine}
use Rattle.tg_body.specs.Bodies.{SizeLine, ChunksText, IsOpenLine, BodyText}
use Rattle.tg_body.specs.History.{Stop, at_piece, at_end, History, IsExact}

-- chunks, and what came behind them, with this body in the chunks
pub record BehindChunks (body bytes : List ℕ) (part rest : List ℕ) : Type 0 where
  pub chunks : List (List ℕ)
  pub front : List ℕ
  pub chunks_are : ChunksText chunks front
  pub whole : bytes ≡ front ++ rest
  pub body_is : body ≡ joined chunks ++ part

-- where the reader is in a body of this framing, of which these bytes came and this was given; `came` is the front of a
-- line or of a trailer
abbrev pub Holds : Framing → Stage → List ℕ → List ℕ → List ℕ → Type 0
Holds framing (stages.Length left) came body bytes =
    (came ≡ []) × (body ≡ bytes) × (framing ≡ framings.Length (length bytes + left))
Holds framing stages.UntilClose came body bytes = (came ≡ []) × (body ≡ bytes) × (framing ≡ framings.UntilClose)
Holds framing stages.Line came body bytes =
    (framing ≡ framings.Chunked) × BehindChunks body bytes [] came × IsOpenLine came
Holds framing (stages.Data left) came body bytes =
    (framing ≡ framings.Chunked) × (came ≡ [])
    × (line : List ℕ) × (part : List ℕ) × BehindChunks body bytes part (line ++ part) × SizeLine (length part + left) line
    × (0 < length part + left)
Holds framing stages.Feed came body bytes =
    (framing ≡ framings.Chunked) × (came ≡ [])
    × (line : List ℕ) × (chunk : List ℕ) × BehindChunks body bytes chunk (line ++ (chunk ++ 13 ∷ [])) × SizeLine (length chunk) line × (0 < length chunk)
Holds framing (stages.Trailer begun) came body bytes =
    (framing ≡ framings.Chunked)
    × (line : List ℕ) × BehindChunks body bytes [] (line ++ came) × SizeLine 0 line
    × (lines : List (List ℕ)) × (rest : List ℕ) × (came ≡ joined lines ++ rest) × All IsFullLine lines × All (λ b. b ≢ 10) rest
    × (begun ≡ length (joined lines)) × (length came < 16384)
Holds framing stages.Done came body bytes = BodyText framing body bytes × (framing ≢ framings.UntilClose)
Holds framing stages.Broken came body bytes = (framing ≡ framings.Broken) × (body ≡ []) × (bytes ≡ [])

abbrev pub is_done : Stage → Bool
is_done (stages.Length left) = false
is_done stages.UntilClose = false
is_done stages.Line = false
is_done (stages.Data left) = false
is_done stages.Feed = false
is_done (stages.Trailer begun) = false
is_done stages.Done = true
is_done stages.Broken = false

-- the stages in which nothing is to come
abbrev pub HasNothingLeft : Stage → Type 0
HasNothingLeft (stages.Length left) = left ≡ 0
HasNothingLeft stages.UntilClose = ⊥
HasNothingLeft stages.Line = ⊥
HasNothingLeft (stages.Data left) = ⊥
HasNothingLeft stages.Feed = ⊥
HasNothingLeft (stages.Trailer begun) = ⊥
HasNothingLeft stages.Done = ⊤
HasNothingLeft stages.Broken = ⊥

abbrev pub fault_of : Stop → HttpFault
fault_of (at_piece piece fault) = fault
fault_of (at_end fault) = fault

-- The reader has this value after this history. What it gave and refused is then what the bytes that it took are:
-- `exact`.
pub record StandsFor (reader : BodyReader) (h : History) : Type 0 where
  pub exact : IsExact reader.framing h
  pub refused : reader.refused ≡ option_map fault_of h.stop
  pub ended : h.stop ≡ None → is_done reader.stage ≡ h.ended
  pub holds : h.stop ≡ None → Holds reader.framing reader.stage reader.came h.given h.fed
