-- The parts of a file that are asked of peers one by one, each by its range (Trustless Gateway specification, entity-bytes).
use Rattle.std.specs.Prelude.{List, None, Some, [], min, suc, true, zero, ℕ, ◌*◌, ◌++◌, ◌+◌, ◌-◌, ◌/◌}
use Rattle.tg_cid.specs.Cid.{CidParts}
use Rattle.tg_model.specs.Queries.{QueryParts, SpanParts}
use Rattle.tg_model.specs.declared.queries.Form.TheVariants as forms
use Rattle.tg_model.specs.declared.queries.Scope.TheVariants as scopes
use Rattle.tg_model.specs.declared.queries.SpanFrom.TheVariants as froms

-- how many parts of at most `size` bytes there are in so many
abbrev pub part_count : ℕ → ℕ → ℕ
part_count size total = (total + (size - 1)) / size

-- the range of a part: up to its last byte, or the file's
abbrev pub part_span : ℕ → ℕ → ℕ → SpanParts
part_span size total k = record { from = froms.Start (k * size); to = Some (min ((k + 1) * size) total - 1) }

-- the query that asks for it
abbrev pub part_query : CidParts → ℕ → ℕ → ℕ → QueryParts
part_query root size total k = record {
  root = root;
  path = [];
  form = forms.Car;
  scope = scopes.Entity;
  span = Some (part_span size total k);
  dups = true;
}

-- the query for the root's block
abbrev pub root_query : CidParts → QueryParts
root_query root = record { root = root; path = []; form = forms.Raw; scope = scopes.Block; span = None; dups = true }

-- the first of these, one behind another
abbrev pub joined_to : (ℕ → List ℕ) → ℕ → List ℕ
joined_to part zero = []
joined_to part (suc n) = joined_to part n ++ part n
