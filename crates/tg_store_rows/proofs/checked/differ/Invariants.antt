use Rattle.std.proofs.Common.{◌≡◌, ◌<◌, ℕ, false, get_or}
use Rattle.std.specs.Prelude.{bytes_eq}
use Rattle.tg_store_rows.proofs.checked.differ.Given as goal
use Rattle.tg_model.specs.declared.kinds.NewEntry.{NewEntry}

abbrev pub invariant-loop-i : goal.invariant-loop-i
invariant-loop-i l = (j k : ℕ) (d : NewEntry) → j < k → k < l.i → bytes_eq (get_or l.entries j d).name (get_or l.entries k d).name ≡ false
