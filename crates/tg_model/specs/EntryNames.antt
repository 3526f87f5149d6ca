-- Names of entries, which are also the segments of paths (UnixFS specification, Directory; Path Gateway specification,
-- Path Resolution): not empty, without `/` and the zero byte, and neither `.` nor `..`.
use Rattle.std.specs.Prelude.{All, List, [], length, ℕ, ◌<◌, ◌∷◌, ◌≢◌}
use Rattle.tg_bytes.specs.Ascii.{slash}

pub record IsGoodName (name : List ℕ) : Type 0 where
  pub not_empty : 0 < length name
  pub no_slash : All (λ b. b ≢ slash) name
  pub no_zero : All (λ b. b ≢ 0) name
  pub not_here : name ≢ 46 ∷ []
  pub not_above : name ≢ 46 ∷ 46 ∷ []
