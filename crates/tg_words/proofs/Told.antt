-- What asks for help or for the version, that words ask for one thing, and the answer to them.
use Rattle.std.proofs.Common.{◌≡◌, ◌≢◌, ℕ, ◌≤◌, ◌⊎◌, inl, inr, List, [], ◌∷◌, length, codes, Option, Some, None, Ok, Err, refl, sym, ap, ◌∙◌, arith, Bool, true, cond}
use Rattle.std.specs.Prelude.{◌==◌, Result, IfOk, IfSome, IsErrOf, MatchResult}
use Rattle.std.proofs.lemmas.Bool.Decides.{nat_tests}
use Rattle.std.specs.Str.{bytes_eq}
use Rattle.tg_words.specs.CommandLine.{AskNoText, BeginsCommand, CommandLine, HelpLine, IsHelpOption, IsTold, OperandLine, VersionLine, alone, behind, help, help_of}
use Rattle.tg_words.specs.Names.{name_text}
use Rattle.tg_words.specs.Operands.{Answers}
use Rattle.tg_words.specs.declared.Command.{Command}
use Rattle.tg_words.specs.declared.Command.TheVariants.{Check, Node, CidToHex, CidToText, Export, Import, Verify, VerifyInto, Serve, Fetch, FetchInto, Mirror, Swarm, Audit, Help, Version}
use Rattle.tg_words.specs.declared.WordsFault.{WordsFault}
use Rattle.tg_words.specs.declared.WordsFault.TheVariants.{Usage, OutOfMemory}
use Rattle.tg_words.specs.declared.names.CommandName.{CommandName}
use Rattle.tg_words.specs.declared.names.CommandName.TheVariants as names

-- ---- one topic

-- the command of a name
abbrev pub named : List ℕ → Option CommandName
named word =
    cond (bytes_eq word (codes "check")) (Some names.Check)
    (cond (bytes_eq word (codes "node")) (Some names.Node)
    (cond (bytes_eq word (codes "cid")) (Some names.Cid)
    (cond (bytes_eq word (codes "export")) (Some names.Export)
    (cond (bytes_eq word (codes "import")) (Some names.Import)
    (cond (bytes_eq word (codes "verify")) (Some names.Verify)
    (cond (bytes_eq word (codes "serve")) (Some names.Serve)
    (cond (bytes_eq word (codes "fetch")) (Some names.Fetch)
    (cond (bytes_eq word (codes "mirror")) (Some names.Mirror)
    (cond (bytes_eq word (codes "swarm")) (Some names.Swarm)
    (cond (bytes_eq word (codes "audit")) (Some names.Audit)
    (cond (bytes_eq word (codes "help")) (Some names.Help)
    (cond (bytes_eq word (codes "version")) (Some names.Version) None))))))))))))

is_named : (name : CommandName) → named (name_text name) ≡ Some name
is_named names.Check = refl
is_named names.Node = refl
is_named names.Cid = refl
is_named names.Export = refl
is_named names.Import = refl
is_named names.Verify = refl
is_named names.Serve = refl
is_named names.Fetch = refl
is_named names.Mirror = refl
is_named names.Swarm = refl
is_named names.Audit = refl
is_named names.Help = refl
is_named names.Version = refl

-- the command of which words ask for help
abbrev pub is_option : List ℕ → Bool
is_option word = cond (bytes_eq word (codes "--help")) true (bytes_eq word (codes "-h"))

abbrev pub topic_in : List (List ℕ) → Option CommandName
topic_in (first ∷ second ∷ []) = cond (is_option second) (named first) (named second)
topic_in other = None

of_help : (name : CommandName) → topic_in (codes "help" ∷ name_text name ∷ []) ≡ Some name
of_help names.Check = refl
of_help names.Node = refl
of_help names.Cid = refl
of_help names.Export = refl
of_help names.Import = refl
of_help names.Verify = refl
of_help names.Serve = refl
of_help names.Fetch = refl
of_help names.Mirror = refl
of_help names.Swarm = refl
of_help names.Audit = refl
of_help names.Help = refl
of_help names.Version = refl

of_option : (name : CommandName) (word : List ℕ) → IsHelpOption word → topic_in (name_text name ∷ word ∷ []) ≡ Some name
of_option name word (inl is) = ap (λ w. topic_in (name_text name ∷ w ∷ [])) is ∙ is_named name
of_option name word (inr is) = ap (λ w. topic_in (name_text name ∷ w ∷ [])) is ∙ is_named name

topic_is : (words : List (List ℕ)) (topic : Option CommandName) → HelpLine words topic → topic ≡ topic_in words
topic_is words topic (help is none) = none ∙ sym (ap topic_in is)
topic_is words topic (alone word is option none) = none ∙ sym (ap topic_in is)
topic_is words topic (help_of name is some) = some ∙ sym (ap topic_in is ∙ of_help name)
topic_is words topic (behind name word is option some) = some ∙ sym (ap topic_in is ∙ of_option name word option)

-- ---- help or the version

-- how long a word is that stands alone
abbrev pub size_of : List (List ℕ) → ℕ
size_of (word ∷ []) = length word
size_of other = 0

option_size : (word : List ℕ) → IsHelpOption word → length word ≤ 6
option_size word (inl is) = let e : length word ≡ 6 = ap length is in omega arith
option_size word (inr is) = let e : length word ≡ 2 = ap length is in omega arith

help_size : (words : List (List ℕ)) (topic : Option CommandName) → HelpLine words topic → size_of words ≤ 6
help_size words topic (help is none) = let e : size_of words ≡ 4 = ap size_of is in omega arith
help_size words topic (alone word is option none) = let e : size_of words ≡ length word = ap size_of is in omega (arith, option_size word option)
help_size words topic (help_of name is some) = let e : size_of words ≡ 0 = ap size_of is in omega arith
help_size words topic (behind name word is option some) = let e : size_of words ≡ 0 = ap size_of is in omega arith

version_size : (words : List (List ℕ)) → VersionLine words → 7 ≤ size_of words
version_size words (inl is) = let e : size_of words ≡ 7 = ap size_of is in omega arith
version_size words (inr is) = let e : size_of words ≡ 9 = ap size_of is in omega arith

no_both : (words : List (List ℕ)) (topic : Option CommandName) → HelpLine words topic → VersionLine words → ⊥
no_both words topic line version = absurd (omega (arith, help_size words topic line, version_size words version))

help_only : (words : List (List ℕ)) (topic : Option CommandName) (other : Command) → HelpLine words topic → IsTold words other → Help topic ≡ other
help_only words topic (Help more) line told = ap Help (topic_is words topic line ∙ sym (topic_is words more told))
help_only words topic Version line told = absurd (no_both words topic line told)
help_only words topic other line told = absurd told

version_only : (words : List (List ℕ)) (other : Command) → VersionLine words → IsTold words other → Version ≡ other
version_only words (Help topic) line told = absurd (no_both words topic told line)
version_only words Version line told = refl
version_only words other line told = absurd told

one_told : (words : List (List ℕ)) (command other : Command) → IsTold words command → IsTold words other → command ≡ other
one_told words (Help topic) other told also = help_only words topic other told also
one_told words Version other told also = version_only words other told also
one_told words command other told also = absurd told

-- ---- and the other commands

told_not : (words : List (List ℕ)) (command : Command) → IsTold words command → AskNoText words → ⊥
told_not words (Help topic) told neither = neither.no_help topic told
told_not words Version told neither = neither.no_version told
told_not words command told neither = absurd told

pub told_line : (words : List (List ℕ)) (command : Command) → IsTold words command → CommandLine words command
told_line words (Help topic) told = told
told_line words Version told = told
told_line words command told = absurd told

operand_line : (words : List (List ℕ)) (command : Command) → AskNoText words → OperandLine words command → CommandLine words command
operand_line words (Help topic) neither line = absurd line
operand_line words Version neither line = absurd line
operand_line words command neither line = (neither, line)

either : (words : List (List ℕ)) (command : Command) → CommandLine words command → IsTold words command ⊎ (AskNoText words × OperandLine words command)
either words (Help topic) line = inl line
either words Version line = inl line
either words command line = inr line

-- words that ask for help or for the version ask for nothing else
pub only_told : (words : List (List ℕ)) (told command : Command) → IsTold words told → CommandLine words command → told ≡ command
only_told words told command asked line = elim (either words command line) [
  | inl also ↦ one_told words told command asked also
  | inr operands ↦ absurd (told_not words told asked operands.0)
]

-- words spell one command
pub one_of_both : ((words : List (List ℕ)) (a b : Command) → OperandLine words a → OperandLine words b → a ≡ b)
    → (words : List (List ℕ)) (a b : Command) → CommandLine words a → CommandLine words b → a ≡ b
one_of_both one words a b line other = elim (either words a line) [
  | inl told ↦ only_told words a b told other
  | inr operands ↦ elim (either words b other) [
    | inl told ↦ absurd (told_not words b told operands.0)
    | inr more ↦ one words a b operands.1 more.1
  ]
]

-- ---- answers

-- the first word of operands is a command's name
begins_by : (words : List (List ℕ)) (command : Command) → OperandLine words command → BeginsCommand words
begins_by words (Check cid) line = record { name = names.Check; rest = line.line.rest; begins = line.line.begins }
begins_by words (Node cid) line = record { name = names.Node; rest = line.line.rest; begins = line.line.begins }
begins_by words (CidToHex cid) line = record { name = names.Cid; rest = line.line.rest; begins = line.line.begins }
begins_by words (CidToText cid) line = record { name = names.Cid; rest = line.line.rest; begins = line.line.begins }
begins_by words (Export parts) line = record { name = names.Export; rest = line.line.rest; begins = line.line.begins }
begins_by words (Import parts) line = record { name = names.Import; rest = line.line.rest; begins = line.line.begins }
begins_by words (Verify query) line = record { name = names.Verify; rest = line.line.rest; begins = line.line.begins }
begins_by words (VerifyInto parts) line = record { name = names.Verify; rest = line.line.rest; begins = line.line.begins }
begins_by words (Serve parts) line = record { name = names.Serve; rest = line.line.rest; begins = line.line.begins }
begins_by words (Fetch parts) line = record { name = names.Fetch; rest = line.line.rest; begins = line.line.begins }
begins_by words (FetchInto parts) line = record { name = names.Fetch; rest = line.line.rest; begins = line.line.begins }
begins_by words (Mirror parts) line = record { name = names.Mirror; rest = line.line.rest; begins = line.line.begins }
begins_by words (Swarm parts) line = record { name = names.Swarm; rest = line.line.rest; begins = line.line.begins }
begins_by words (Audit parts) line = record { name = names.Audit; rest = line.line.rest; begins = line.line.begins }
begins_by words (Help topic) line = absurd line
begins_by words Version line = absurd line

-- words that begin by no command's name are no command
pub none_begun : (words : List (List ℕ)) (command : Command) → AskNoText words → (BeginsCommand words → ⊥) → CommandLine words command → ⊥
none_begun words command neither none line = elim (either words command line) [
  | inl told ↦ told_not words command told neither
  | inr operands ↦ none (begins_by words command operands.1)
]

-- the answer to words is that to their operands
pub found_of : (words : List (List ℕ)) (answer : Result Command WordsFault) → AskNoText words → Answers words answer → IfOk answer (λ command. CommandLine words command)
found_of words (Ok command) neither answers = operand_line words command neither answers.found
found_of words (Err fault) neither answers = tt

pub only_of : (words : List (List ℕ)) (answer : Result Command WordsFault) → AskNoText words → Answers words answer → (command : Command) → CommandLine words command
    → MatchResult answer (λ found. found ≡ command) (λ e. e ≡ OutOfMemory)
only_of words answer neither answers command line = elim (either words command line) [
  | inl told ↦ absurd (told_not words command told neither)
  | inr operands ↦ answers.only command operands.1
]

-- what is no command is refused
pub refused : (words : List (List ℕ)) (answer : Result Command WordsFault) → IfOk answer (λ command. CommandLine words command)
    → ((command : Command) → CommandLine words command → ⊥) → (answer ≡ Err Usage) ⊎ (answer ≡ Err OutOfMemory)
refused words (Ok command) found none = absurd (none command found)
refused words (Err Usage) found none = inl refl
refused words (Err OutOfMemory) found none = inr refl

-- what is refused is no command
pub cause_of : (words : List (List ℕ)) (answer : Result Command WordsFault)
    → ((command : Command) → CommandLine words command → MatchResult answer (λ found. found ≡ command) (λ e. e ≡ OutOfMemory))
    → IsErrOf answer Usage → (command : Command) → CommandLine words command → ⊥
cause_of words (Ok found) only is command line = cc
cause_of words (Err Usage) only is command line = let e = only command line in cc
cause_of words (Err OutOfMemory) only is command line = cc

-- ---- what was found

pub option_alone : (word : List ℕ) → IsHelpOption word → HelpLine (word ∷ []) None
option_alone word option = alone word refl option refl

pub help_alone : (word : List ℕ) → word ≡ codes "help" → HelpLine (word ∷ []) None
help_alone word is = help (ap (λ w. w ∷ []) is) refl

pub found_behind : (first second : List ℕ) (found : Option CommandName) → IsHelpOption second → IfSome found (λ name. name_text name ≡ first)
    → IfSome found (λ name. HelpLine (first ∷ second ∷ []) (Some name))
found_behind first second None option is = tt
found_behind first second (Some name) option is = behind name second (ap (λ w. w ∷ second ∷ []) (sym is)) option refl

pub found_of_help : (first second : List ℕ) (found : Option CommandName) → first ≡ codes "help" → IfSome found (λ name. name_text name ≡ second)
    → IfSome found (λ name. HelpLine (first ∷ second ∷ []) (Some name))
found_of_help first second None begins is = tt
found_of_help first second (Some name) begins is = help_of name (ap (λ w. w ∷ second ∷ []) begins ∙ ap (λ w. codes "help" ∷ w ∷ []) (sym is)) refl

-- words that begin by no command's name
pub not_begun : (words rest : List (List ℕ)) (word : List ℕ) → words ≡ word ∷ rest → ((name : CommandName) → name_text name ≢ word) → BeginsCommand words → ⊥
not_begun words rest word is none begun =
    let both : word ∷ rest ≡ name_text begun.name ∷ begun.rest = sym is ∙ begun.begins in
    let same : name_text begun.name ≡ word = cc in
    none begun.name same

-- what has no elements
pub no_more : {X : Type 0} (xs : List X) (test : Bool) → test ≡ (length xs == 0) → test ≡ true → xs ≡ []
no_more [] test is holds = refl
no_more (x ∷ xs) test is holds = absurd (grind (arith, nat_tests))
