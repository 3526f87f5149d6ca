-- The answers to the lines of `import`.
use Rattle.std.proofs.Common.{◌≡◌, ◌≢◌, ℕ, List, [], ◌∷◌, codes, Ok, Option, refl, sym, ap, ◌∙◌, subst}
use Rattle.std.specs.Prelude.{Result}
use Rattle.std.specs.Option.{unwrap_or}
use Rattle.tg_cid.specs.Limits.{max_block_len}
use Rattle.tg_words.specs.Words.{Given, StandOnce, WordsSpelling}
use Rattle.tg_words.specs.CommandLine.{OperandLine}
use Rattle.tg_words.specs.ImportLines.{ImportParts, NumberAsked, NumberText, import_names}
use Rattle.tg_words.specs.Operands.{Exact, ImportGiven, NumberGiven, value_at}
use Rattle.tg_words.specs.declared.WordsFault.{WordsFault}
use Rattle.tg_words.specs.declared.Command.TheVariants.{Import}
use Rattle.tg_words.proofs.Options.{HaveValues, gives_value, value_gives, one_given, have_values}
use Rattle.tg_words.proofs.Positional.{Form, IsOf, the_line, two_words}

abbrev pub import_form : Form (List ℕ × List ℕ) ImportParts
import_form = record { name = codes "import"; names = import_names; writing = two_words; make = Import; asks = λ pair. ImportGiven pair.0 pair.1 }

pub one_number : (value : Option (List ℕ)) (low high default a b : ℕ) → NumberGiven value low high default a → NumberGiven value low high default b → a ≡ b
one_number value low high default a b p q =
    p.number_is ∙ ap (λ asked. unwrap_or asked default) (one_given NumberText (λ text x y s t. s.number_is ∙ sym t.number_is) value p.asked q.asked p.asked_is q.asked_is) ∙ sym q.number_is

-- the same of the value of an option
pub number_at : (value other : Option (List ℕ)) (low high default : ℕ) (answer : Result ℕ WordsFault) → value ≡ other
    → Exact (NumberGiven value low high default) answer → Exact (NumberGiven other low high default) answer
number_at value other low high default answer is exact = subst (λ v. Exact (NumberGiven v low high default) answer) is exact

-- the numbers of the layout that options give
abbrev pub NumbersGiven : List Given → ℕ × ℕ × ℕ → Type 0
NumbersGiven options numbers =
    NumberGiven (value_at options (codes "chunk")) 1 max_block_len 1048576 numbers.0
    × NumberGiven (value_at options (codes "width")) 2 4096 1024 numbers.1
    × NumberGiven (value_at options (codes "shard")) 0 1048576 262144 numbers.2

same_numbers : (a b c : ℕ) (others : ℕ × ℕ × ℕ) → a ≡ others.0 → b ≡ others.1 → c ≡ others.2 → (a, b, c) ≡ others
same_numbers a b c (x, y, z) is also last = cc

pub three_numbers : (options : List Given) (chunk width shard : ℕ) → Exact (NumberGiven (value_at options (codes "chunk")) 1 max_block_len 1048576) (Ok chunk)
    → Exact (NumberGiven (value_at options (codes "width")) 2 4096 1024) (Ok width) → Exact (NumberGiven (value_at options (codes "shard")) 0 1048576 262144) (Ok shard)
    → Exact (NumbersGiven options) (Ok (chunk, width, shard))
three_numbers options chunk width shard first second third = record {
  found = (first.found, second.found, third.found);
  only = λ numbers is. same_numbers chunk width shard numbers (first.only numbers.0 is.0) (second.only numbers.1 is.1) (third.only numbers.2 is.2);
}

same_import : (a b : ImportParts) → a.folder ≡ b.folder → a.pack ≡ b.pack → a.chunk ≡ b.chunk → a.width ≡ b.width → a.shard ≡ b.shard → a ≡ b
same_import a b folder pack chunk width shard =
    let s = subst (λ f. a ≡ record a { folder = f }) folder refl in
    let t = subst (λ p. a ≡ record a { folder = b.folder; pack = p }) pack s in
    let u = subst (λ c. a ≡ record a { folder = b.folder; pack = b.pack; chunk = c }) chunk t in
    let v = subst (λ w. a ≡ record a { folder = b.folder; pack = b.pack; chunk = b.chunk; width = w }) width u in
    subst (λ n. a ≡ record { folder = b.folder; pack = b.pack; chunk = b.chunk; width = b.width; shard = n }) shard v

-- the import of the named folder into the named pack with the numbers given
pub import_found : (folder pack : List ℕ) (options : List Given) (parts : ImportParts) (shard : ℕ) → parts.folder ≡ folder → folder ≢ [] → parts.pack ≡ pack → pack ≢ []
    → parts.shard ≡ shard → Exact (NumbersGiven options) (Ok (parts.chunk, parts.width, shard)) → Exact (ImportGiven folder pack options) (Ok parts)
import_found folder pack options parts shard folder_is folder_named pack_is pack_named shard_is exact = record {
  found = record {
    folder_is = folder_is;
    folder_named = folder_named;
    pack_is = pack_is;
    pack_named = pack_named;
    chunk = exact.found.0;
    width = exact.found.1;
    shard = subst (λ number. NumberGiven (value_at options (codes "shard")) 0 1048576 262144 number) (sym shard_is) exact.found.2;
  };
  only = λ others is.
      let same = exact.only (others.chunk, others.width, others.shard) (is.chunk, is.width, is.shard) in
      same_import parts others (folder_is ∙ sym is.folder_is) (pack_is ∙ sym is.pack_is) (ap (λ numbers. numbers.0) same) (ap (λ numbers. numbers.1) same)
      (shard_is ∙ ap (λ numbers. numbers.2) same);
}

-- what words and options ask is one import
pub one_import : (pair : List ℕ × List ℕ) (options : List Given) (a b : ImportParts) → ImportGiven pair.0 pair.1 options a → ImportGiven pair.0 pair.1 options b → a ≡ b
one_import pair options a b p q =
    same_import a b (p.folder_is ∙ sym q.folder_is) (p.pack_is ∙ sym q.pack_is)
    (one_number (value_at options (codes "chunk")) 1 max_block_len 1048576 a.chunk b.chunk p.chunk q.chunk)
    (one_number (value_at options (codes "width")) 2 4096 1024 a.width b.width p.width q.width)
    (one_number (value_at options (codes "shard")) 0 1048576 262144 a.shard b.shard p.shard q.shard)

pub asked_by : (options : List Given) (name : List ℕ) (low high default number : ℕ) → HaveValues options → NumberGiven (value_at options name) low high default number
    → NumberAsked options name low high default number
asked_by options name low high default number have is = record {
  asked = is.asked;
  asked_is = value_gives NumberText options name is.asked have is.asked_is;
  number_is = is.number_is;
  least = is.least;
  most = is.most;
}

pub given_by : (options : List Given) (name : List ℕ) (low high default number : ℕ) → StandOnce options → NumberAsked options name low high default number
    → NumberGiven (value_at options name) low high default number
given_by options name low high default number once is = record {
  asked = is.asked;
  asked_is = gives_value NumberText options name is.asked once is.asked_is;
  number_is = is.number_is;
  least = is.least;
  most = is.most;
}

-- a line by its operands, and the operands of a line
pub import_by : (rest : List (List ℕ)) (pair : List ℕ × List ℕ) (options : List Given) (parts : ImportParts) → WordsSpelling import_names rest (two_words.texts pair) options
    → ImportGiven pair.0 pair.1 options parts → OperandLine (codes "import" ∷ rest) (Import parts)
import_by rest pair options parts operands is =
    let have = have_values import_names.valued rest (two_words.texts pair) options operands in
    record {
      options = options;
      line = record {
        rest = rest;
        begins = refl;
        operands = subst (λ p. WordsSpelling import_names rest (parts.folder ∷ p ∷ []) options) (sym is.pack_is)
            (subst (λ f. WordsSpelling import_names rest (f ∷ pair.1 ∷ []) options) (sym is.folder_is) operands);
      };
      folder_named = λ none. is.folder_named (sym is.folder_is ∙ none);
      pack_named = λ none. is.pack_named (sym is.pack_is ∙ none);
      chunk = asked_by options (codes "chunk") 1 max_block_len 1048576 parts.chunk have is.chunk;
      width = asked_by options (codes "width") 2 4096 1024 parts.width have is.width;
      shard = asked_by options (codes "shard") 0 1048576 262144 parts.shard have is.shard;
    }

pub import_line : (rest : List (List ℕ)) (parts : ImportParts) → OperandLine (codes "import" ∷ rest) (Import parts) → IsOf import_form rest (Import parts)
import_line rest parts line =
    let operands = the_line (codes "import") import_names rest (parts.folder ∷ parts.pack ∷ []) line.options line.line in
    record {
      parts = parts;
      words = (parts.folder, parts.pack);
      options = line.options;
      is = refl;
      operands = operands;
      asked = record {
        folder_is = refl;
        folder_named = line.folder_named;
        pack_is = refl;
        pack_named = line.pack_named;
        chunk = given_by line.options (codes "chunk") 1 max_block_len 1048576 parts.chunk operands.once line.chunk;
        width = given_by line.options (codes "width") 2 4096 1024 parts.width operands.once line.width;
        shard = given_by line.options (codes "shard") 0 1048576 262144 parts.shard operands.once line.shard;
      };
    }
