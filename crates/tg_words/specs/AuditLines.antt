-- The line `audit --seed N --files N`.
use Rattle.std.specs.Prelude.{List, [], codes, ℕ, ◌∷◌}
use Rattle.tg_words.specs.ServeLines.{NumberRequired}
use Rattle.tg_words.specs.Words.{Given, Line, Names}

-- what is audited: the seed from which a folder is drawn, and how many files its folder `many` has
pub record AuditParts : Type 0 where
  pub seed : ℕ
  pub files : ℕ

abbrev pub audit_names : Names
audit_names = record { valued = codes "seed" ∷ codes "files" ∷ []; flags = [] }

pub record AuditLine (words : List (List ℕ)) (parts : AuditParts) : Type 0 where
  pub options : List Given
  pub line : Line (codes "audit") audit_names words [] options
  pub seed : NumberRequired options (codes "seed") 0 18446744073709551615 parts.seed
  pub files : NumberRequired options (codes "files") 1 20000 parts.files
