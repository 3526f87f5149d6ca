-- The answers to the lines of `serve`.
use Rattle.std.proofs.Common.{◌≡◌, ℕ, List, [], ◌∷◌, codes, Option, Some, None, refl, sym, ◌∙◌, subst}
use Rattle.tg_words.specs.Words.{Given, StandOnce, WordsSpelling}
use Rattle.tg_words.specs.CommandLine.{OperandLine}
use Rattle.tg_words.specs.ImportLines.{NumberText}
use Rattle.tg_words.specs.Operands.{NumberNeeded, ServeGiven, value_at}
use Rattle.tg_words.specs.ServeLines.{NumberRequired, ServeParts, serve_names}
use Rattle.tg_words.specs.declared.Command.TheVariants.{Serve}
use Rattle.tg_words.proofs.ImportAnswers.{asked_by, given_by, one_number}
use Rattle.tg_words.proofs.Options.{HaveValues, gives_value, value_gives, have_values}
use Rattle.tg_words.proofs.Positional.{Form, IsOf, one_word, the_line}

abbrev pub serve_form : Form (List ℕ) ServeParts
serve_form = record { name = codes "serve"; names = serve_names; writing = one_word; make = Serve; asks = ServeGiven }

pub one_value : (value : Option (List ℕ)) (low high a b : ℕ) → NumberNeeded value low high a → NumberNeeded value low high b → a ≡ b
one_value None low high a b p q = let no : Some a ≡ None = p.asked in absurd (cc)
one_value (Some text) low high a b p q = p.asked.number_is ∙ sym q.asked.number_is

same_serve : (a b : ServeParts) → a.pack ≡ b.pack → a.port ≡ b.port → a.count ≡ b.count → a.lanes ≡ b.lanes → a ≡ b
same_serve a b pack port count lanes =
    let s = subst (λ p. a ≡ record a { pack = p }) pack refl in
    let t = subst (λ p. a ≡ record a { pack = b.pack; port = p }) port s in
    let u = subst (λ n. a ≡ record a { pack = b.pack; port = b.port; count = n }) count t in
    subst (λ n. a ≡ record { pack = b.pack; port = b.port; count = b.count; lanes = n }) lanes u

-- what words and options ask is one gateway
pub one_serve : (pack : List ℕ) (options : List Given) (a b : ServeParts) → ServeGiven pack options a → ServeGiven pack options b → a ≡ b
one_serve pack options a b p q =
    same_serve a b (p.pack_is ∙ sym q.pack_is)
    (one_value (value_at options (codes "port")) 0 65535 a.port b.port p.port q.port)
    (one_value (value_at options (codes "count")) 1 1000000 a.count b.count p.count q.count)
    (one_number (value_at options (codes "lanes")) 1 64 1 a.lanes b.lanes p.lanes q.lanes)

pub required_by : (options : List Given) (name : List ℕ) (low high number : ℕ) → HaveValues options → NumberNeeded (value_at options name) low high number
    → NumberRequired options name low high number
required_by options name low high number have is = record {
  asked = value_gives NumberText options name (Some number) have is.asked;
  least = is.least;
  most = is.most;
}

pub needed_by : (options : List Given) (name : List ℕ) (low high number : ℕ) → StandOnce options → NumberRequired options name low high number
    → NumberNeeded (value_at options name) low high number
needed_by options name low high number once is = record {
  asked = gives_value NumberText options name (Some number) once is.asked;
  least = is.least;
  most = is.most;
}

-- a line by its operands, and the operands of a line
pub serve_by : (rest : List (List ℕ)) (pack : List ℕ) (options : List Given) (parts : ServeParts) → WordsSpelling serve_names rest (pack ∷ []) options
    → ServeGiven pack options parts → OperandLine (codes "serve" ∷ rest) (Serve parts)
serve_by rest pack options parts operands is =
    let have = have_values serve_names.valued rest (pack ∷ []) options operands in
    record {
      options = options;
      line = record {
        rest = rest;
        begins = refl;
        operands = subst (λ p. WordsSpelling serve_names rest (p ∷ []) options) (sym is.pack_is) operands;
      };
      named = λ none. is.named (sym is.pack_is ∙ none);
      port = required_by options (codes "port") 0 65535 parts.port have is.port;
      count = required_by options (codes "count") 1 1000000 parts.count have is.count;
      lanes = asked_by options (codes "lanes") 1 64 1 parts.lanes have is.lanes;
    }

pub serve_line : (rest : List (List ℕ)) (parts : ServeParts) → OperandLine (codes "serve" ∷ rest) (Serve parts) → IsOf serve_form rest (Serve parts)
serve_line rest parts line =
    let operands = the_line (codes "serve") serve_names rest (parts.pack ∷ []) line.options line.line in
    record {
      parts = parts;
      words = parts.pack;
      options = line.options;
      is = refl;
      operands = operands;
      asked = record {
        pack_is = refl;
        named = line.named;
        port = needed_by line.options (codes "port") 0 65535 parts.port operands.once line.port;
        count = needed_by line.options (codes "count") 1 1000000 parts.count operands.once line.count;
        lanes = given_by line.options (codes "lanes") 1 64 1 parts.lanes operands.once line.lanes;
      };
    }
