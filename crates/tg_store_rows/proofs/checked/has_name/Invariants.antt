use Rattle.std.proofs.Common.{◌≡◌, ◌<◌, ℕ, false, get_or}
use Rattle.std.specs.Prelude.{bytes_eq}
use Rattle.tg_store_rows.proofs.checked.has_name.Given as goal
use Rattle.tg_model.specs.declared.kinds.NewEntry.{NewEntry}

abbrev pub invariant-loop-entry : goal.invariant-loop-entry
invariant-loop-entry l = (k : ℕ) (d : NewEntry) → k < l.entry-index → bytes_eq (get_or l.entries k d).name l.name ≡ false
