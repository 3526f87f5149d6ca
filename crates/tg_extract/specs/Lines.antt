-- The first lines of a bundle's records, as values.
use Rattle.std.specs.Prelude.{All, List, ℕ, ◌<◌, ◌^◌, ◌≤◌, length}
use Rattle.tg_bundles.specs.Records.{path_text}
use Rattle.tg_extract.specs.declared.lines.Line.{Line}
use Rattle.tg_extract.specs.declared.lines.Line.TheVariants.{File, Folder, Link}
use Rattle.tg_model.specs.EntryNames.{IsGoodName}
use Rattle.tg_model.specs.Texts.{dir_line, file_line, link_line}

-- the line, with its end
abbrev pub line_text : Line → List ℕ
line_text (Folder path) = dir_line (path_text path)
line_text (File size path) = file_line size (path_text path)
line_text (Link size path) = link_line size (path_text path)

-- names of entries, which are bytes, at most 128 of them
pub record IsGoodPath (path : List (List ℕ)) : Type 0 where
  pub good : All IsGoodName path
  pub are_bytes : All (All (λ b. b < 256)) path
  pub few : length path ≤ 128

-- a size of at most 19 digits
abbrev pub IsGoodLine : Line → Type 0
IsGoodLine (Folder path) = IsGoodPath path
IsGoodLine (File size path) = IsGoodPath path × (size < 10 ^ 19)
IsGoodLine (Link size path) = IsGoodPath path × (size < 10 ^ 19)
