-- Why a kind can't stand at the wanted place.
use Rattle.tg_model.specs.declared.queries.Scope.TheVariants as scopes
use Rattle.std.specs.Prelude.{not, refl, true, ◌≡◌}
use Rattle.tg_model.specs.Fits.{is_block}
use Rattle.tg_model.specs.Queries.{QueryParts}
use Rattle.tg_model.specs.Sound.{position_fault, top}
use Rattle.tg_model.specs.declared.kinds.Kind.{Kind}
use Rattle.tg_model.specs.declared.queries.Scope.{Scope}
use Rattle.tg_model_laws.specs.Tasks.{Want, fault_at, is_read_at, node_want, position_of, segment_want}
use Rattle.tg_model_laws.specs.Tasks.{terminal_fault, terminal_want}

terminal_same : (scope : Scope) (kind : Kind) → not (is_block scope) ≡ true
    → terminal_fault scope kind ≡ position_fault top kind
terminal_same scopes.Block kind e = absurd (cc e)
terminal_same scopes.Entity kind e = refl
terminal_same scopes.All kind e = refl

-- where a block is read, by its position
pub fault_same : (q : QueryParts) (w : Want) (kind : Kind) → is_read_at q w ≡ true
    → fault_at q w kind ≡ position_fault (position_of w) kind
fault_same q (segment_want i position name path depth) kind e = refl
fault_same q (terminal_want depth) kind e = terminal_same q.scope kind e
fault_same q (node_want reach position depth) kind e = refl
