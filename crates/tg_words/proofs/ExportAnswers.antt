-- The answers to the lines of `export`.
use Rattle.std.proofs.Common.{◌≡◌, ℕ, List, [], ◌∷◌, codes, Ok, refl, sym, ◌∙◌, subst}
use Rattle.tg_model.specs.Queries.{QueryParts}
use Rattle.tg_words.specs.Words.{Given, WordsSpelling}
use Rattle.tg_words.specs.CommandLine.{OperandLine}
use Rattle.tg_words.specs.ExportLines.{ExportParts}
use Rattle.tg_words.specs.Operands.{Exact, ExportGiven, QueryBy}
use Rattle.tg_words.specs.QueryWords.{query_names}
use Rattle.tg_words.specs.declared.Command.TheVariants.{Export}
use Rattle.tg_words.proofs.Options.{have_values}
use Rattle.tg_words.proofs.Positional.{Form, IsOf, the_line, two_words}
use Rattle.tg_words.proofs.QueryAnswers.{asked_by, given_by}

abbrev pub export_form : Form (List ℕ × List ℕ) ExportParts
export_form = record { name = codes "export"; names = query_names; writing = two_words; make = Export; asks = λ pair. ExportGiven pair.0 pair.1 }

same_export : (a b : ExportParts) → a.pack ≡ b.pack → a.query ≡ b.query → a ≡ b
same_export a b pack query =
    let s = subst (λ p. a ≡ record a { pack = p }) pack refl in
    subst (λ q. a ≡ record { pack = b.pack; query = q }) query s

pub export_found : (pack target : List ℕ) (options : List Given) (parts : ExportParts) → parts.pack ≡ pack → (pack ≡ [] → ⊥)
    → Exact (QueryBy target options) (Ok parts.query) → Exact (ExportGiven pack target options) (Ok parts)
export_found pack target options parts pack_is named exact = record {
  found = record { pack_is = pack_is; named = named; query = exact.found };
  only = λ other is. same_export parts other (pack_is ∙ sym is.pack_is) (exact.only other.query is.query);
}

-- what words and options ask is one export
pub one_export : ((target : List ℕ) (options : List Given) (a b : QueryParts) → QueryBy target options a → QueryBy target options b → a ≡ b)
    → (pair : List ℕ × List ℕ) (options : List Given) (a b : ExportParts) → ExportGiven pair.0 pair.1 options a → ExportGiven pair.0 pair.1 options b → a ≡ b
one_export one pair options a b p q = same_export a b (p.pack_is ∙ sym q.pack_is) (one pair.1 options a.query b.query p.query q.query)

-- a line by its operands, and the operands of a line
pub export_by : (rest : List (List ℕ)) (pair : List ℕ × List ℕ) (options : List Given) (parts : ExportParts) → WordsSpelling query_names rest (two_words.texts pair) options
    → ExportGiven pair.0 pair.1 options parts → OperandLine (codes "export" ∷ rest) (Export parts)
export_by rest pair options parts operands is = record {
  target = pair.1;
  options = options;
  line = record {
    rest = rest;
    begins = refl;
    operands = subst (λ p. WordsSpelling query_names rest (p ∷ pair.1 ∷ []) options) (sym is.pack_is) operands;
  };
  named = λ none. is.named (sym is.pack_is ∙ none);
  asked = asked_by pair.1 options parts.query (have_values query_names.valued rest (two_words.texts pair) options operands) is.query;
}

pub export_line : (rest : List (List ℕ)) (parts : ExportParts) → OperandLine (codes "export" ∷ rest) (Export parts) → IsOf export_form rest (Export parts)
export_line rest parts line =
    let operands = the_line (codes "export") query_names rest (parts.pack ∷ line.target ∷ []) line.options line.line in
    record {
      parts = parts;
      words = (parts.pack, line.target);
      options = line.options;
      is = refl;
      operands = operands;
      asked = record { pack_is = refl; named = line.named; query = given_by line.target line.options parts.query operands.once line.asked };
    }
