-- Targets of requests: `/ipfs/`, a CID's text, nothing or a slash and a path, and nothing or `?` and a query (Path
-- Gateway and Trustless Gateway specifications).
use Rattle.percent_encoding.specs.Percent.{percent_decode}
use Rattle.std.specs.List.{filter_map}
use Rattle.std.specs.Prelude.{All, Bool, Err, IfSome, List, None, Ok, Option, Result, Some, [], bytes_eq, codes, false}
use Rattle.std.specs.Prelude.{if◌then◌else◌, length, true, ℕ, ◌++◌, ◌∷◌, ◌≡◌, ◌≢◌, ◌≤◌}
use Rattle.tg_model.specs.EntryNames.{IsGoodName}
use Rattle.tg_model.specs.Queries.{IsSpan}
use Rattle.tg_model.specs.declared.queries.Form.{Form}
use Rattle.tg_model.specs.declared.queries.Form.TheVariants as forms
use Rattle.tg_model.specs.declared.queries.Scope.{Scope}
use Rattle.tg_model.specs.declared.queries.Scope.TheVariants as scopes
use Rattle.tg_query.specs.Answers.{unless, ◌>>=◌}
use Rattle.tg_query.specs.Cuts.{behind, behind_front, cut_at, cut_first}
use Rattle.tg_query.specs.Spans.{SpanText, span_of}
use Rattle.tg_query.specs.WordTexts.{Rooted, RootedText, ipfs, rooted_of}
use Rattle.tg_query.specs.declared.fault.QueryFault.{QueryFault}
use Rattle.tg_query.specs.declared.fault.QueryFault.TheVariants.{BadFormat, BadPath, BadScope, Doubled}
use Rattle.tg_query.specs.declared.targets.Asked.{Asked}
use Rattle.tg_query.specs.declared.targets.Target.{Target}

-- ---- the query as a relation

-- a piece of a query: a key and a value, both decoded; without `=` the value is empty
abbrev pub or_empty : Option (List ℕ) → List ℕ
or_empty None = []
or_empty (Some text) = text

abbrev pub decoded_pair : List ℕ × Option (List ℕ) → List ℕ × List ℕ
decoded_pair parts = (percent_decode parts.0, percent_decode (or_empty parts.1))

abbrev pub pair_of : List ℕ → List ℕ × List ℕ
pair_of piece = decoded_pair (cut_first 61 piece)

abbrev pub pieces_of : Option (List ℕ) → List (List ℕ)
pieces_of None = []
pieces_of (Some query) = cut_at 38 query

-- the values of a key
abbrev pub value_with : List ℕ → List ℕ × List ℕ → Option (List ℕ)
value_with key pair = if bytes_eq pair.0 key then Some pair.1 else None

abbrev pub values_under : List ℕ → List (List ℕ) → List (List ℕ)
values_under key pieces = filter_map (λ piece. value_with key (pair_of piece)) pieces

-- a key stands at most once, and where it stands its value writes what is asked
abbrev pub Param : {A : Type 0} → (List ℕ → A → Type 0) → List (List ℕ) → Option A → Type 0
Param Writes values None = values ≡ []
Param Writes values (Some asked) = (value : List ℕ) × (values ≡ value ∷ []) × Writes value asked

-- the words of formats and scopes
abbrev pub form_word : Form → List ℕ
form_word forms.Raw = codes "raw"
form_word forms.Car = codes "car"

abbrev pub scope_word : Scope → List ℕ
scope_word scopes.Block = codes "block"
scope_word scopes.Entity = codes "entity"
scope_word scopes.All = codes "all"

-- what a query asks; other keys are passed over
pub record AsksFor (query : Option (List ℕ)) (asked : Asked) : Type 0 where
  pub format : Param (λ value form. value ≡ form_word form) (values_under (codes "format") (pieces_of query)) asked.format
  pub scope : Param (λ value scope. value ≡ scope_word scope) (values_under (codes "dag-scope") (pieces_of query)) asked.scope
  pub span : Param SpanText (values_under (codes "entity-bytes") (pieces_of query)) asked.span

pub record TargetText (text : List ℕ) (target : Target) : Type 0 where
  pub rooted_text : List ℕ
  pub query : Option (List ℕ)
  pub whole : text ≡ ipfs ++ (rooted_text ++ behind 63 query)
  pub no_query : All (λ b. b ≢ 63) rooted_text
  pub rooted : RootedText rooted_text target.root target.path
  pub asks : AsksFor query (record { format = target.format; scope = target.scope; span = target.span })

-- a target's path and range are good
pub record IsTarget (target : Target) : Type 0 where
  pub few : length target.path ≤ 128
  pub good : All IsGoodName target.path
  pub span : IfSome target.span IsSpan

-- ---- the same as functions: the value, or the first fault

abbrev pub is_given : {A : Type 0} → Option A → Bool
is_given None = false
is_given (Some value) = true

abbrev pub form_of : List ℕ → Result Form QueryFault
form_of word = if bytes_eq word (codes "raw") then Ok forms.Raw else (if bytes_eq word (codes "car") then Ok forms.Car else Err BadFormat)

abbrev pub scope_of : List ℕ → Result Scope QueryFault
scope_of word =
    if bytes_eq word (codes "block") then Ok scopes.Block
    else (if bytes_eq word (codes "entity") then Ok scopes.Entity
    else (if bytes_eq word (codes "all") then Ok scopes.All else Err BadScope))

-- a key that stands twice is refused before its value
abbrev pub with_format : Asked → List ℕ → Result Asked QueryFault
with_format asked word =
    unless (is_given asked.format) Doubled (form_of word >>= λ form. Ok (record asked { format = Some form }))

abbrev pub with_scope : Asked → List ℕ → Result Asked QueryFault
with_scope asked word =
    unless (is_given asked.scope) Doubled (scope_of word >>= λ scope. Ok (record asked { scope = Some scope }))

abbrev pub with_span : Asked → List ℕ → Result Asked QueryFault
with_span asked text =
    unless (is_given asked.span) Doubled (span_of text >>= λ span. Ok (record asked { span = Some span }))

abbrev pub with_param : Asked → List ℕ → List ℕ → Result Asked QueryFault
with_param asked key value =
    if bytes_eq key (codes "format") then with_format asked value
    else (if bytes_eq key (codes "dag-scope") then with_scope asked value
    else (if bytes_eq key (codes "entity-bytes") then with_span asked value else Ok asked))

abbrev pub with_piece : Asked → List ℕ → Result Asked QueryFault
with_piece asked piece = with_param asked (pair_of piece).0 (pair_of piece).1

-- the pieces from the left to the right
abbrev pub with_pieces : Asked → List (List ℕ) → Result Asked QueryFault
with_pieces asked [] = Ok asked
with_pieces asked (piece ∷ pieces) = with_piece asked piece >>= λ more. with_pieces more pieces

abbrev pub nothing : Asked
nothing = record { format = None; scope = None; span = None }

abbrev pub asked_of : Option (List ℕ) → Result Asked QueryFault
asked_of query = with_pieces nothing (pieces_of query)

abbrev pub target_with : Rooted → Asked → Target
target_with rooted asked =
    record { root = rooted.0; path = rooted.1; format = asked.format; scope = asked.scope; span = asked.span }

abbrev pub target_by : List ℕ × Option (List ℕ) → Result Target QueryFault
target_by parts = rooted_of parts.0 >>= λ rooted. asked_of parts.1 >>= λ asked. Ok (target_with rooted asked)

abbrev pub behind_ipfs : Option (List ℕ) → Result Target QueryFault
behind_ipfs None = Err BadPath
behind_ipfs (Some rest) = target_by (cut_first 63 rest)

abbrev pub target_of : List ℕ → Result Target QueryFault
target_of text = behind_ipfs (behind_front ipfs text)
