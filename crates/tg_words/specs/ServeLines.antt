-- The line `serve PACK --port N --count N [--lanes N]`.
use Rattle.std.specs.Prelude.{◌≢◌, ℕ, ◌≤◌, List, [], ◌∷◌, Some, codes}
use Rattle.tg_words.specs.ImportLines.{NumberAsked, NumberText}
use Rattle.tg_words.specs.Words.{Names, Given, Line, OptionGives}

-- what is asked of a gateway: the path of the pack, the port, where 0 asks for one that is free, how many links are
-- served, and how many connections are served side by side, 1 to 64, one where the option is absent
pub record ServeParts : Type 0 where
  pub pack : List ℕ
  pub port : ℕ
  pub count : ℕ
  pub lanes : ℕ

abbrev pub serve_names : Names
serve_names = record { valued = codes "port" ∷ codes "count" ∷ codes "lanes" ∷ []; flags = [] }

-- the number of the option of this name, which must stand; it is from `low` to `high`
pub record NumberRequired (options : List Given) (name : List ℕ) (low high number : ℕ) : Type 0 where
  pub asked : OptionGives NumberText options name (Some number)
  pub least : low ≤ number
  pub most : number ≤ high

pub record ServeLine (words : List (List ℕ)) (parts : ServeParts) : Type 0 where
  pub options : List Given
  pub line : Line (codes "serve") serve_names words (parts.pack ∷ []) options
  pub named : parts.pack ≢ []
  pub port : NumberRequired options (codes "port") 0 65535 parts.port
  pub count : NumberRequired options (codes "count") 1 1000000 parts.count
  pub lanes : NumberAsked options (codes "lanes") 1 64 1 parts.lanes
