-- The answers to the lines of `audit`.
use Rattle.std.proofs.Common.{◌≡◌, ℕ, List, [], ◌∷◌, codes, refl, subst}
use Rattle.std.specs.Prelude.{⊤}
use Rattle.tg_words.specs.Words.{Given, WordsSpelling}
use Rattle.tg_words.specs.AuditLines.{AuditParts, audit_names}
use Rattle.tg_words.specs.CommandLine.{OperandLine}
use Rattle.tg_words.specs.Operands.{AuditGiven, value_at}
use Rattle.tg_words.specs.declared.Command.TheVariants.{Audit}
use Rattle.tg_words.proofs.Options.{have_values}
use Rattle.tg_words.proofs.Positional.{Form, IsOf, no_words, the_line}
use Rattle.tg_words.proofs.ServeAnswers.{needed_by, one_value, required_by}

abbrev pub audit_form : Form ⊤ AuditParts
audit_form = record { name = codes "audit"; names = audit_names; writing = no_words; make = Audit; asks = λ none. AuditGiven }

same_audit : (a b : AuditParts) → a.seed ≡ b.seed → a.files ≡ b.files → a ≡ b
same_audit a b seed files =
    let s = subst (λ n. a ≡ record a { seed = n }) seed refl in
    subst (λ n. a ≡ record { seed = b.seed; files = n }) files s

-- what options ask is one audit
pub one_audit : (none : ⊤) (options : List Given) (a b : AuditParts) → AuditGiven options a → AuditGiven options b → a ≡ b
one_audit none options a b p q =
    same_audit a b (one_value (value_at options (codes "seed")) 0 18446744073709551615 a.seed b.seed p.seed q.seed)
    (one_value (value_at options (codes "files")) 1 20000 a.files b.files p.files q.files)

-- a line by its operands, and the operands of a line
pub audit_by : (rest : List (List ℕ)) (none : ⊤) (options : List Given) (parts : AuditParts) → WordsSpelling audit_names rest [] options → AuditGiven options parts
    → OperandLine (codes "audit" ∷ rest) (Audit parts)
audit_by rest none options parts operands is =
    let have = have_values audit_names.valued rest [] options operands in
    record {
      options = options;
      line = record { rest = rest; begins = refl; operands = operands };
      seed = required_by options (codes "seed") 0 18446744073709551615 parts.seed have is.seed;
      files = required_by options (codes "files") 1 20000 parts.files have is.files;
    }

pub audit_line : (rest : List (List ℕ)) (parts : AuditParts) → OperandLine (codes "audit" ∷ rest) (Audit parts) → IsOf audit_form rest (Audit parts)
audit_line rest parts line =
    let operands = the_line (codes "audit") audit_names rest [] line.options line.line in
    record {
      parts = parts;
      words = tt;
      options = line.options;
      is = refl;
      operands = operands;
      asked = record {
        seed = needed_by line.options (codes "seed") 0 18446744073709551615 parts.seed operands.once line.seed;
        files = needed_by line.options (codes "files") 1 20000 parts.files operands.once line.files;
      };
    }
