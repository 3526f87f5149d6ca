-- What one step of a reader of a body takes, gives and refuses.
use Rattle.std.specs.Prelude.{◌≡◌, ◌≢◌, ℕ, ◌+◌, ◌-◌, ◌<◌, ◌≤◌, ◌⊎◌, ⊤, Bool, true, false, List, [], ◌++◌, length, take}
use Rattle.std.specs.Prelude.{slice_range, All}
use Rattle.tg_http.specs.declared.fault.HttpFault.{HttpFault}
use Rattle.tg_body.specs.declared.stage.Step.{Step}
use Rattle.tg_body.specs.declared.stage.Step.TheVariants as steps
use Rattle.tg_body.specs.declared.reader.BodyReader.{BodyReader}
use Rattle.tg_body.specs.declared.body.Body.{Body}
use Rattle.tg_body.specs.declared.body.Body.TheVariants as bodies
use Rattle.tg_http.specs.HeadText.{IsLine}
use Rattle.tg_body.specs.History.{HasFeedCause}
use Rattle.tg_body.specs.State.{Holds, is_done, HasNothingLeft}

-- what one step takes and gives
abbrev pub Given : Step → List ℕ → List ℕ
Given steps.Part taken = taken
Given steps.Need taken = []
Given steps.Next taken = []
Given steps.End taken = []

abbrev pub TookAll : Step → ℕ → List ℕ → Type 0
TookAll steps.Need taken piece = taken ≡ length piece
TookAll steps.Next taken piece = 0 < taken
TookAll steps.Part taken piece = 0 < taken
TookAll steps.End taken piece = ⊤

abbrev pub ends : Step → Bool
ends steps.Need = false
ends steps.Next = false
ends steps.Part = false
ends steps.End = true

-- so many bytes of the piece were taken in one step
pub record Steps (old new : BodyReader) (piece : List ℕ) (taken : ℕ) (step : Step) : Type 0 where
  pub within : taken ≤ length piece
  pub took : TookAll step taken piece
  pub framing : new.framing ≡ old.framing
  pub refused : new.refused ≡ old.refused
  pub done : is_done new.stage ≡ ends step
  pub goes_on : ends step ≡ false → is_done old.stage ≡ false
  pub whole : HasNothingLeft old.stage → (taken ≡ 0) × (step ≡ steps.End)
  pub holds : (body bytes : List ℕ) → Holds old.framing old.stage old.came body bytes
      → Holds new.framing new.stage new.came (body ++ Given step (take taken piece)) (bytes ++ take taken piece)

-- the piece is refused with this fault
pub record Stops (old new : BodyReader) (piece : List ℕ) (fault : HttpFault) : Type 0 where
  pub framing : new.framing ≡ old.framing
  pub refused : new.refused ≡ old.refused
  pub goes_on : is_done old.stage ≡ false
  pub left : HasNothingLeft old.stage → ⊥
  pub cause : (body bytes : List ℕ) → Holds old.framing old.stage old.came body bytes
      → HasFeedCause old.framing bytes body piece fault

abbrev pub body_ends : Body → Bool
body_ends bodies.Need = false
body_ends (bodies.Part start end) = false
body_ends bodies.End = true

-- the bytes of the piece that a part of the body is
abbrev pub part_of : Body → List ℕ → List ℕ
part_of bodies.Need piece = []
part_of (bodies.Part start end) piece = slice_range piece start end
part_of bodies.End piece = []

abbrev pub IsPartOf : ℕ → Body → Type 0
IsPartOf taken bodies.Need = ⊤
IsPartOf taken (bodies.Part start end) = (start < end) × (end ≡ taken)
IsPartOf taken bodies.End = ⊤

-- so many bytes of the piece were taken, and they gave this
pub record Advances (old new : BodyReader) (piece : List ℕ) (taken : ℕ) (told : Body) : Type 0 where
  pub within : taken ≤ length piece
  pub moves : 0 < length piece → (0 < taken) ⊎ (told ≡ bodies.End)
  pub need : told ≡ bodies.Need → taken ≡ length piece
  pub part : IsPartOf taken told
  pub framing : new.framing ≡ old.framing
  pub refused : new.refused ≡ old.refused
  pub done : is_done new.stage ≡ body_ends told
  pub goes_on : body_ends told ≡ false → is_done old.stage ≡ false
  pub whole : HasNothingLeft old.stage → (taken ≡ 0) × (told ≡ bodies.End)
  pub holds : (body bytes : List ℕ) → Holds old.framing old.stage old.came body bytes
      → Holds new.framing new.stage new.came (body ++ part_of told piece) (bytes ++ take taken piece)

-- bytes of a line: the line is whole after so many bytes of the piece, or the whole piece is in it, or it is too long
pub record EndsLine (came piece : List ℕ) (size : ℕ) (kept : List ℕ) : Type 0 where
  pub within : size ≤ length piece
  pub some : 0 < size
  pub line_is : IsLine (take size piece)
  pub fits : length came + size ≤ 16384
  pub kept_is : kept ≡ came ++ take size piece

pub record InsideLine (came piece kept : List ℕ) : Type 0 where
  pub no_feed : All (λ b. b ≢ 10) piece
  pub fits : length came + length piece < 16384
  pub kept_is : kept ≡ came ++ piece

pub record IsTooLong (came piece : List ℕ) : Type 0 where
  pub no_feed : All (λ b. b ≢ 10) (take (16384 - length came) piece)
  pub long : 16384 ≤ length came + length piece
