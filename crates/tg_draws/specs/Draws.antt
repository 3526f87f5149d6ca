-- What an audit draws from a seed (this project's own): a linear congruential generator modulo 2 ^ 64, of whose states the
-- upper 31 bits are the numbers that are drawn.
use Rattle.std.specs.Prelude.{List, [], length, ℕ, ◌%◌, ◌*◌, ◌+◌, ◌/◌, ◌^◌, ◌∷◌, ◌≡◌}
use Rattle.tg_draws.specs.declared.drawing.Drawn.{Drawn}

-- the state behind one
abbrev pub next_state : ℕ → ℕ
next_state state = (state * 6364136223846793005 + 1442695040888963407) % 2 ^ 64

-- the number that is drawn in a state
abbrev pub draw_of : ℕ → ℕ
draw_of state = next_state state / 2 ^ 33

-- these bytes are drawn from one state on, each a number modulo 256, and leave another
pub data BytesDrawn : ℕ → List ℕ → ℕ → Type 0 where
  no_byte : (state : ℕ) → BytesDrawn state [] state
  byte : (state : ℕ) (bytes : List ℕ) (behind : ℕ) → BytesDrawn (next_state state) bytes behind
      → BytesDrawn state (draw_of state % 256 ∷ bytes) behind

-- so many
pub record Draws (state count : ℕ) (bytes : List ℕ) (behind : ℕ) : Type 0 where
  pub count_is : length bytes ≡ count
  pub drawn : BytesDrawn state bytes behind

-- these files are drawn from one state on, of each its length, modulo 65,536, and then its bytes, and leave another
pub data FilesDrawn : ℕ → List (List ℕ) → ℕ → Type 0 where
  no_file : (state : ℕ) → FilesDrawn state [] state
  file : (state : ℕ) (bytes : List ℕ) (between : ℕ) (files : List (List ℕ)) (behind : ℕ)
      → Draws (next_state state) (draw_of state % 65536) bytes between → FilesDrawn between files behind
      → FilesDrawn state (bytes ∷ files) behind

-- so many
pub record AreFilesDrawn (state count : ℕ) (files : List (List ℕ)) (behind : ℕ) : Type 0 where
  pub count_is : length files ≡ count
  pub drawn : FilesDrawn state files behind

-- these are the files of a seed, so many of them in the folder `many`
pub record IsDrawn (seed count : ℕ) (drawn : Drawn) : Type 0 where
  pub between : ℕ
  pub big : Draws seed 10485760 drawn.big between
  pub behind : ℕ
  pub many : AreFilesDrawn between count drawn.many behind
