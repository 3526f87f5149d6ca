use Rattle.std.proofs.Common.{◌≡◌, ◌≤◌, ◌*◌, take}
use Rattle.std.specs.List.{sum_by}
use Rattle.tg_store_rows.proofs.checked.are_light.Given as goal

abbrev pub invariant-loop-entry : goal.invariant-loop-entry
invariant-loop-entry l = (l.sum ≡ sum_by (λ e. e.tsize) (take l.entry-index l.entries)) × (l.sum ≤ 1099511627776 * l.entry-index)
