-- The line `verify ROOT/PATH [--scope S] [--bytes R] [--dups D]`.
use Rattle.std.specs.Prelude.{◌≢◌, ℕ, List, [], ◌∷◌, Contains, codes}
use Rattle.tg_model.specs.Queries.{QueryParts}
use Rattle.tg_words.specs.QueryWords.{QueryAsked}
use Rattle.tg_words.specs.Words.{Given, Line, Names}

abbrev pub verify_names : Names
verify_names = record { valued = codes "scope" ∷ codes "bytes" ∷ codes "dups" ∷ codes "into" ∷ []; flags = [] }

-- `--into` doesn't stand
pub record VerifyLine (words : List (List ℕ)) (query : QueryParts) : Type 0 where
  pub target : List ℕ
  pub options : List Given
  pub line : Line (codes "verify") verify_names words (target ∷ []) options
  pub no_folder : (option : Given) → Contains options option → option.0 ≢ codes "into"
  pub asked : QueryAsked target options query
