-- The lines `fetch ADDR ROOT/PATH --into FOLDER [--dups D]` and `verify ROOT/PATH --into FOLDER [--dups D]`.
use Rattle.std.specs.Prelude.{◌≡◌, ◌≢◌, ◌⊎◌, ℕ, Bool, List, [], ◌∷◌, Contains, None, Option, Some, codes}
use Rattle.tg_model.specs.Queries.{QueryParts}
use Rattle.tg_model.specs.declared.queries.Form.TheVariants.{Car}
use Rattle.tg_model.specs.declared.queries.Scope.TheVariants as scopes
use Rattle.tg_query.specs.Requests.{IsAddr}
use Rattle.tg_query.specs.WordTexts.{WordText}
use Rattle.tg_words.specs.FetchLines.{fetch_names}
use Rattle.tg_words.specs.QueryWords.{DupsText, dups_for}
use Rattle.tg_words.specs.VerifyLines.{verify_names}
use Rattle.tg_words.specs.Words.{Given, Line, OptionGives}

-- what is made into a folder: the query, and the folder's path; and for a client the address of a gateway, too
pub record VerifyIntoParts : Type 0 where
  pub query : QueryParts
  pub folder : List ℕ

pub record FetchIntoParts : Type 0 where
  pub addr : List ℕ
  pub query : QueryParts
  pub folder : List ℕ

-- `--into` names a folder, and no other option stands but `--dups`: all below the path is asked for
pub record IntoAsked (target : List ℕ) (options : List Given) (folder : List ℕ) (query : QueryParts) : Type 0 where
  pub into : Contains options (codes "into", Some folder)
  pub named : folder ≢ []
  pub others : (option : Given) → Contains options option → (option.0 ≡ codes "into") ⊎ (option.0 ≡ codes "dups")
  pub word : WordText target query.root query.path
  pub form : query.form ≡ Car
  pub scope_is : query.scope ≡ scopes.All
  pub span_is : query.span ≡ None
  pub repeats : Option Bool
  pub repeats_are : OptionGives DupsText options (codes "dups") repeats
  pub dups : query.dups ≡ dups_for repeats

pub record FetchIntoLine (words : List (List ℕ)) (parts : FetchIntoParts) : Type 0 where
  pub target : List ℕ
  pub options : List Given
  pub line : Line (codes "fetch") fetch_names words (parts.addr ∷ target ∷ []) options
  pub addr : IsAddr parts.addr
  pub asked : IntoAsked target options parts.folder parts.query

pub record VerifyIntoLine (words : List (List ℕ)) (parts : VerifyIntoParts) : Type 0 where
  pub target : List ℕ
  pub options : List Given
  pub line : Line (codes "verify") verify_names words (target ∷ []) options
  pub asked : IntoAsked target options parts.folder parts.query
