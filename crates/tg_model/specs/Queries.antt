-- Queries and ranges as contracts see them, and when they are well formed.
use Rattle.tg_model.specs.declared.queries.Form.TheVariants as forms
use Rattle.tg_model.specs.declared.queries.SpanFrom.TheVariants as froms
use Rattle.tg_model.specs.declared.queries.Scope.TheVariants as scopes
use Rattle.std.specs.Prelude.{All, Bool, IfSome, List, None, Option, [], length, true, ℕ, ◌<◌, ◌^◌, ◌≡◌, ◌≤◌}
use Rattle.tg_cid.specs.Cid.{CidParts}
use Rattle.tg_model.specs.EntryNames.{IsGoodName}
use Rattle.tg_model.specs.declared.queries.Form.{Form}
use Rattle.tg_model.specs.declared.queries.Scope.{Scope}
use Rattle.tg_model.specs.declared.queries.SpanFrom.{SpanFrom}

pub record SpanParts : Type 0 where
  pub from : SpanFrom
  pub to : Option ℕ

-- where a range begins is told by a number below 2 ^ 63
abbrev pub IsFrom : SpanFrom → Type 0
IsFrom (froms.Start start) = start < 2 ^ 63
IsFrom (froms.Last count) = count < 2 ^ 63

-- a range from an offset doesn't begin behind its end
abbrev pub IsUpTo : SpanFrom → ℕ → Type 0
IsUpTo (froms.Start start) to = (to < 2 ^ 63) × (start ≤ to)
IsUpTo (froms.Last count) to = to < 2 ^ 63

pub record IsSpan (span : SpanParts) : Type 0 where
  pub from : IsFrom span.from
  pub to : IfSome span.to (λ to. IsUpTo span.from to)

pub record QueryParts : Type 0 where
  pub root : CidParts
  pub path : List (List ℕ)
  pub form : Form
  pub scope : Scope
  pub span : Option SpanParts
  pub dups : Bool

-- a raw query asks for the root's block alone
pub record IsRawQuery (q : QueryParts) : Type 0 where
  pub path : q.path ≡ []
  pub scope : q.scope ≡ scopes.Block
  pub span : q.span ≡ None
  pub dups : q.dups ≡ true

pub record WellFormed (q : QueryParts) : Type 0 where
  pub few : length q.path ≤ 128
  pub good : All IsGoodName q.path
  pub raw : q.form ≡ forms.Raw → IsRawQuery q
  pub span : IfSome q.span (λ span. (q.scope ≡ scopes.Entity) × IsSpan span)
