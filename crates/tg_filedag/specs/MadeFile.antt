-- The file that is made of chunks (this project's own profile of UnixFS).
use Rattle.std.specs.Prelude.{All, List, [], ℕ, ◌∷◌, ◌≡◌, ◌≤◌}
use Rattle.tg_bytes.specs.Lists.{joined}
use Rattle.tg_filedag.specs.Chunks.{AreChunks}
use Rattle.tg_filedag.specs.Trees.{IsMadeOf}
use Rattle.tg_model.specs.Content.{content}
use Rattle.tg_model.specs.Dag.{Dag, blocks}
use Rattle.tg_model.specs.ImportLayout.{HasPlainCid, IsLaidAt, LayoutOptions, leaves}
use Rattle.tg_model.specs.Sound.{IsSound, top}
use Rattle.tg_model.specs.declared.kinds.Made.{Made}

-- a file without a chunk has one leaf of no bytes
abbrev pub leaves_for : List (List ℕ) → List (List ℕ)
leaves_for [] = [] ∷ []
leaves_for (chunk ∷ chunks) = chunk ∷ chunks

-- a sound file whose content are the chunks, of which this is told; in the importer's layout where the chunks are those
-- of a file
pub record IsMadeFile (width : ℕ) (chunks : List (List ℕ)) (d : Dag) (made : Made) : Type 0 where
  pub sound : IsSound d
  pub content_is : content d ≡ joined chunks
  pub leaves_are : leaves d ≡ leaves_for chunks
  pub made_of : IsMadeOf made d
  pub plain : All HasPlainCid (blocks d)
  pub laid : (options : LayoutOptions) → options.width ≡ width → 1 ≤ options.chunk → AreChunks options.chunk chunks
      → IsLaidAt options top d
