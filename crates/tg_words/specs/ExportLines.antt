-- The line `export PACK ROOT/PATH [--scope S] [--bytes R] [--dups D]`.
use Rattle.std.specs.Prelude.{◌≢◌, ℕ, List, [], ◌∷◌, codes}
use Rattle.tg_model.specs.Queries.{QueryParts}
use Rattle.tg_words.specs.QueryWords.{QueryAsked, query_names}
use Rattle.tg_words.specs.Words.{Given, Line}

-- what is asked of an export: the path of the pack, and the query
pub record ExportParts : Type 0 where
  pub pack : List ℕ
  pub query : QueryParts

pub record ExportLine (words : List (List ℕ)) (parts : ExportParts) : Type 0 where
  pub target : List ℕ
  pub options : List Given
  pub line : Line (codes "export") query_names words (parts.pack ∷ target ∷ []) options
  pub named : parts.pack ≢ []
  pub asked : QueryAsked target options parts.query
