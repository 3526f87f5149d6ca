-- The queries of an audit (this project's own).
use Rattle.std.specs.Prelude.{Bool, List, None, Option, Some, [], codes, false, true, ℕ, ◌∷◌}
use Rattle.tg_cid.specs.Cid.{CidParts}
use Rattle.tg_model.specs.Queries.{QueryParts, SpanParts}
use Rattle.tg_model.specs.declared.queries.Form.TheVariants as forms
use Rattle.tg_model.specs.declared.queries.Scope.{Scope}
use Rattle.tg_model.specs.declared.queries.Scope.TheVariants as scopes
use Rattle.tg_model.specs.declared.queries.SpanFrom.TheVariants as froms

abbrev pub car_query : CidParts → List (List ℕ) → Scope → Option SpanParts → Bool → QueryParts
car_query root path scope span dups =
    record { root = root; path = path; form = forms.Car; scope = scope; span = span; dups = dups }

-- the eight with an answer
abbrev pub answer_queries : CidParts → List QueryParts
answer_queries root =
    car_query root [] scopes.All None true
    ∷ car_query root (codes "big" ∷ []) scopes.Entity (Some (record { from = froms.Start 1048575; to = Some 1048576 })) true
    ∷ car_query root (codes "big" ∷ []) scopes.Entity (Some (record { from = froms.Last 5; to = None })) true
    ∷ car_query root (codes "big" ∷ []) scopes.Entity (Some (record { from = froms.Start 20000000; to = None })) true
    ∷ car_query root (codes "many" ∷ []) scopes.Entity None false
    ∷ car_query root (codes "none" ∷ []) scopes.Entity None true
    ∷ car_query root (codes "empty" ∷ []) scopes.All None true
    ∷ car_query root (codes "many" ∷ codes "f000000" ∷ []) scopes.Entity None false
    ∷ []

-- and the one of a name that isn't there
abbrev pub absent_query : CidParts → QueryParts
absent_query root = car_query root (codes "missing" ∷ []) scopes.Entity None true
