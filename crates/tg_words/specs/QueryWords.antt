-- What a word ROOT/PATH and the options `--scope`, `--bytes` and `--dups` ask, in the lines of the commands that have
-- them.
use Rattle.std.specs.Prelude.{◌≡◌, ℕ, List, [], ◌∷◌, Bool, Option, Some, None, false, true, codes}
use Rattle.tg_model.specs.Queries.{QueryParts, SpanParts}
use Rattle.tg_model.specs.declared.queries.Form.TheVariants.{Car}
use Rattle.tg_model.specs.declared.queries.Scope.{Scope}
use Rattle.tg_model.specs.declared.queries.Scope.TheVariants as scopes
use Rattle.tg_query.specs.Spans.{SpanText}
use Rattle.tg_query.specs.WordTexts.{WordText}
use Rattle.tg_words.specs.Words.{Names, Given, OptionGives}

abbrev pub query_names : Names
query_names = record { valued = codes "scope" ∷ codes "bytes" ∷ codes "dups" ∷ []; flags = [] }

-- the word of a scope (Trustless Gateway specification, dag-scope)
abbrev pub ScopeText : List ℕ → Scope → Type 0
ScopeText text scopes.Block = text ≡ codes "block"
ScopeText text scopes.Entity = text ≡ codes "entity"
ScopeText text scopes.All = text ≡ codes "all"

-- the scope of the query: entity where a range is given, whatever scope is asked beside it, and entity where nothing is
-- asked
abbrev pub scope_for : Option Scope → Option SpanParts → Scope
scope_for asked (Some span) = scopes.Entity
scope_for (Some scope) None = scope
scope_for None None = scopes.Entity

-- the word that tells whether repeats are sent (Trustless Gateway specification, dups)
abbrev pub DupsText : List ℕ → Bool → Type 0
DupsText text true = text ≡ codes "y"
DupsText text false = text ≡ codes "n"

-- repeats are sent where nothing is asked
abbrev pub dups_for : Option Bool → Bool
dups_for None = true
dups_for (Some dups) = dups

-- the word and the options ask this query
pub record QueryAsked (target : List ℕ) (options : List Given) (query : QueryParts) : Type 0 where
  pub word : WordText target query.root query.path
  pub asked : Option Scope
  pub asked_is : OptionGives ScopeText options (codes "scope") asked
  pub span_is : OptionGives SpanText options (codes "bytes") query.span
  pub scope_is : query.scope ≡ scope_for asked query.span
  pub form : query.form ≡ Car
  pub repeats : Option Bool
  pub repeats_are : OptionGives DupsText options (codes "dups") repeats
  pub dups : query.dups ≡ dups_for repeats
