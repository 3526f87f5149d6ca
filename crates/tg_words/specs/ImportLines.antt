-- The line `import FOLDER PACK [--chunk N] [--width N] [--shard N]`.
use Rattle.std.specs.Prelude.{◌≡◌, ◌≢◌, ℕ, ◌≤◌, List, [], ◌∷◌, Option, length, codes}
use Rattle.std.specs.Option.{unwrap_or}
use Rattle.std.specs.Str.Parse.{IsNumeral, digits_value}
use Rattle.tg_cid.specs.Limits.{max_block_len}
use Rattle.tg_words.specs.Words.{Names, Given, Line, OptionGives}

-- what is asked of an import: the paths of the folder and of the pack, and the numbers of the layout
pub record ImportParts : Type 0 where
  pub folder : List ℕ
  pub pack : List ℕ
  pub chunk : ℕ
  pub width : ℕ
  pub shard : ℕ

abbrev pub import_names : Names
import_names = record { valued = codes "chunk" ∷ codes "width" ∷ codes "shard" ∷ []; flags = [] }

-- 1 to 20 decimal digits, of which the first may be zeros, and their value
pub record NumberText (text : List ℕ) (number : ℕ) : Type 0 where
  pub digits : IsNumeral 10 text
  pub few : length text ≤ 20
  pub number_is : number ≡ digits_value 10 text

-- the number of the option of this name, or the default where none stands; it is from `low` to `high`
pub record NumberAsked (options : List Given) (name : List ℕ) (low high default number : ℕ) : Type 0 where
  pub asked : Option ℕ
  pub asked_is : OptionGives NumberText options name asked
  pub number_is : number ≡ unwrap_or asked default
  pub least : low ≤ number
  pub most : number ≤ high

pub record ImportLine (words : List (List ℕ)) (parts : ImportParts) : Type 0 where
  pub options : List Given
  pub line : Line (codes "import") import_names words (parts.folder ∷ parts.pack ∷ []) options
  pub folder_named : parts.folder ≢ []
  pub pack_named : parts.pack ≢ []
  pub chunk : NumberAsked options (codes "chunk") 1 max_block_len 1048576 parts.chunk
  pub width : NumberAsked options (codes "width") 2 4096 1024 parts.width
  pub shard : NumberAsked options (codes "shard") 0 1048576 262144 parts.shard
