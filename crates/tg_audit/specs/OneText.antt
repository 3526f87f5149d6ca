-- What an audit tells is one text for each seed and number of files.
use Rattle.std.specs.Prelude.{List, ℕ, ◌≡◌, ◌⊎◌}
use Rattle.tg_audit.specs.Audits.{IsAudited}
use Rattle.tg_audit.specs.Names.{TwoNamesCollide}

-- two audits of one seed and number that end well tell the same
abbrev pub OneAuditText : Type 0
OneAuditText = (seed files : ℕ) (text other : List ℕ) → IsAudited seed files text → IsAudited seed files other → (text ≡ other) ⊎ TwoNamesCollide files
