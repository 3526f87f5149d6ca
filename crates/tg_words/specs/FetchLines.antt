-- The line `fetch ADDR ROOT/PATH [--scope S] [--bytes R] [--dups D]`, or with `--raw` in place of these options.
use Rattle.std.specs.Prelude.{◌≡◌, ◌≢◌, ◌⊎◌, ℕ, List, [], ◌∷◌, Contains, None, codes, true}
use Rattle.tg_model.specs.Queries.{QueryParts}
use Rattle.tg_model.specs.declared.queries.Form.TheVariants as forms
use Rattle.tg_model.specs.declared.queries.Scope.TheVariants as scopes
use Rattle.tg_query.specs.WordTexts.{WordText}
use Rattle.tg_query.specs.Requests.{IsAddr}
use Rattle.tg_words.specs.QueryWords.{QueryAsked}
use Rattle.tg_words.specs.Words.{Given, Line, Names}

-- what is asked of a client: the address of a gateway, and the query
pub record FetchParts : Type 0 where
  pub addr : List ℕ
  pub query : QueryParts

abbrev pub fetch_names : Names
fetch_names = record { valued = codes "scope" ∷ codes "bytes" ∷ codes "dups" ∷ codes "into" ∷ []; flags = codes "raw" ∷ [] }

-- `--raw` stands, and no other option: the root's block is asked for, as it is
pub record RawAsked (target : List ℕ) (options : List Given) (query : QueryParts) : Type 0 where
  pub alone : options ≡ (codes "raw", None) ∷ []
  pub word : WordText target query.root []
  pub query_is : query ≡ record { root = query.root; path = []; form = forms.Raw; scope = scopes.Block; span = None; dups = true }

-- neither it nor `--into` stands: a CAR is asked for
pub record CarAsked (target : List ℕ) (options : List Given) (query : QueryParts) : Type 0 where
  pub none : (option : Given) → Contains options option → option.0 ≢ codes "raw"
  pub no_folder : (option : Given) → Contains options option → option.0 ≢ codes "into"
  pub asked : QueryAsked target options query

abbrev pub FetchAsked : List ℕ → List Given → QueryParts → Type 0
FetchAsked target options query = RawAsked target options query ⊎ CarAsked target options query

pub record FetchLine (words : List (List ℕ)) (parts : FetchParts) : Type 0 where
  pub target : List ℕ
  pub options : List Given
  pub line : Line (codes "fetch") fetch_names words (parts.addr ∷ target ∷ []) options
  pub addr : IsAddr parts.addr
  pub asked : FetchAsked target options parts.query
