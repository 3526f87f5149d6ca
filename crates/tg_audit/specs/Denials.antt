-- Why an audit is denied.
use Rattle.std.specs.Prelude.{ℕ, ◌<◌, ◌≤◌}
use Rattle.tg_audit.specs.Audits.{IsUnaudited}
use Rattle.tg_audit.specs.Complete.{HasCauseIfDenied}
use Rattle.tg_audit.specs.declared.fault.AuditFault.{AuditFault}

-- where it ends without its text, a query that is refused, or has another answer, has a cause in the folder's DAG
abbrev pub DenialsHaveCauses : Type 0
DenialsHaveCauses = (seed files : ℕ) (fault : AuditFault) → 0 < files → files ≤ 1000000 → IsUnaudited seed files fault → HasCauseIfDenied seed files fault
