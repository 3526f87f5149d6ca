-- The answers to the lines of `verify`.
use Rattle.std.proofs.Common.{◌≡◌, ℕ, List, [], ◌∷◌, codes, Option, Some, None, refl, sym, subst}
use Rattle.std.specs.Prelude.{Result}
use Rattle.tg_model.specs.Queries.{QueryParts}
use Rattle.tg_words.specs.Words.{Given, WordsSpelling}
use Rattle.tg_words.specs.CommandLine.{OperandLine}
use Rattle.tg_words.specs.IntoLines.{IntoAsked, VerifyIntoParts}
use Rattle.tg_words.specs.Operands.{Exact, QueryBy, VerifyAsks, VerifyAsksBy, VerifyIntoGiven, value_at}
use Rattle.tg_words.specs.VerifyLines.{verify_names}
use Rattle.tg_words.specs.declared.Command.{Command}
use Rattle.tg_words.specs.declared.Command.TheVariants.{Verify, VerifyInto}
use Rattle.tg_words.specs.declared.WordsFault.{WordsFault}
use Rattle.tg_words.proofs.IntoAnswers.{OneInto, folder_at, into_asked, into_given, one_made, one_verify_into}
use Rattle.tg_words.proofs.Options.{have_values, none_stands, value_absent}
use Rattle.tg_words.proofs.Positional.{Form, IsOf, one_word, the_line}
use Rattle.tg_words.proofs.QueryAnswers.{asked_by, given_by}

abbrev pub verify_form : Form (List ℕ) Command
verify_form = record { name = codes "verify"; names = verify_names; writing = one_word; make = λ command. command; asks = VerifyAsks }

pub verify_where : (target : List ℕ) (options : List Given) (folder : Option (List ℕ)) (answer : Result Command WordsFault) → folder ≡ value_at options (codes "into")
    → Exact (VerifyAsksBy folder target options) answer → Exact (VerifyAsks target options) answer
verify_where target options folder answer is exact = subst (λ f. Exact (VerifyAsksBy f target options) answer) is exact

-- what words and options ask is one command
pub one_verify : ((target : List ℕ) (options : List Given) (a b : QueryParts) → QueryBy target options a → QueryBy target options b → a ≡ b)
    → OneInto → (target : List ℕ) (options : List Given) (a b : Command) → VerifyAsks target options a → VerifyAsks target options b → a ≡ b
one_verify query into target options a b p q = go (value_at options (codes "into")) p q
  where
    go : (folder : Option (List ℕ)) → VerifyAsksBy folder target options a → VerifyAsksBy folder target options b → a ≡ b
    go None p q = one_made Verify (QueryBy target options) a b (query target options) p q
    go (Some folder) p q = one_made VerifyInto (VerifyIntoGiven target folder options) a b (one_verify_into into target folder options) p q

-- a line by its operands, and the operands of a line
verify_query : (rest : List (List ℕ)) (target : List ℕ) (options : List Given) (query : QueryParts) → WordsSpelling verify_names rest (target ∷ []) options
    → value_at options (codes "into") ≡ None → QueryBy target options query → OperandLine (codes "verify" ∷ rest) (Verify query)
verify_query rest target options query operands none is =
    let have = have_values verify_names.valued rest (target ∷ []) options operands in
    record {
      target = target;
      options = options;
      line = record { rest = rest; begins = refl; operands = operands };
      no_folder = none_stands options (codes "into") have none;
      asked = asked_by target options query have is;
    }

verify_folder : (rest : List (List ℕ)) (target folder : List ℕ) (options : List Given) (parts : VerifyIntoParts) → WordsSpelling verify_names rest (target ∷ []) options
    → value_at options (codes "into") ≡ Some folder → VerifyIntoGiven target folder options parts → OperandLine (codes "verify" ∷ rest) (VerifyInto parts)
verify_folder rest target folder options parts operands stands is =
    let have = have_values verify_names.valued rest (target ∷ []) options operands in
    let asked = into_asked target folder options parts.query have stands is.named is.query in
    record {
      target = target;
      options = options;
      line = record { rest = rest; begins = refl; operands = operands };
      asked = subst (λ f. IntoAsked target options f parts.query) (sym is.folder_is) asked;
    }

pub verify_by : (rest : List (List ℕ)) (target : List ℕ) (options : List Given) (command : Command) → WordsSpelling verify_names rest (target ∷ []) options
    → VerifyAsks target options command → OperandLine (codes "verify" ∷ rest) command
verify_by rest target options command operands is = go (value_at options (codes "into")) refl is
  where
    go : (folder : Option (List ℕ)) → value_at options (codes "into") ≡ folder → VerifyAsksBy folder target options command → OperandLine (codes "verify" ∷ rest) command
    go None none by = subst (OperandLine (codes "verify" ∷ rest)) (sym by.1) (verify_query rest target options by.0 operands none by.2)
    go (Some folder) stands by = subst (OperandLine (codes "verify" ∷ rest)) (sym by.1) (verify_folder rest target folder options by.0 operands stands by.2)

pub verify_line : (rest : List (List ℕ)) (query : QueryParts) → OperandLine (codes "verify" ∷ rest) (Verify query) → IsOf verify_form rest (Verify query)
verify_line rest query line =
    let operands = the_line (codes "verify") verify_names rest (line.target ∷ []) line.options line.line in
    record {
      parts = Verify query;
      words = line.target;
      options = line.options;
      is = refl;
      operands = operands;
      asked = subst (λ f. VerifyAsksBy f line.target line.options (Verify query)) (sym (value_absent line.options (codes "into") line.no_folder))
          (query, refl, given_by line.target line.options query operands.once line.asked);
    }

pub verify_into_line : (rest : List (List ℕ)) (parts : VerifyIntoParts) → OperandLine (codes "verify" ∷ rest) (VerifyInto parts) → IsOf verify_form rest (VerifyInto parts)
verify_into_line rest parts line =
    let operands = the_line (codes "verify") verify_names rest (line.target ∷ []) line.options line.line in
    let given : VerifyIntoGiven line.target parts.folder line.options parts =
    record { folder_is = refl; named = line.asked.named; query = into_given line.target parts.folder line.options parts.query operands.once line.asked } in
    record {
      parts = VerifyInto parts;
      words = line.target;
      options = line.options;
      is = refl;
      operands = operands;
      asked = subst (λ f. VerifyAsksBy f line.target line.options (VerifyInto parts)) (sym (folder_at line.target parts.folder line.options parts.query operands.once line.asked))
          (parts, refl, given);
    }
