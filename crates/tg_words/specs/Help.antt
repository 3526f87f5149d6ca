-- What help says: the texts are those of the table.
use Rattle.std.specs.Prelude.{ℕ, List, [], ◌∷◌, ◌++◌, Option, None, Some, codes, decimal, map}
use Rattle.std.specs.Borrow.{Bor}
use Rattle.std.specs.List.{flat_map}
use Rattle.tg_bytes.specs.Ascii.{line_feed}
use Rattle.tg_words.specs.declared.help.CommandHelp.{CommandHelp}
use Rattle.tg_words.specs.declared.help.OptionHelp.{OptionHelp}
use Rattle.tg_words.specs.declared.help.OptionValue.{OptionValue}
use Rattle.tg_words.specs.declared.help.OptionValue.TheVariants.{Nothing, Number, Word}
use Rattle.tg_words.specs.declared.help.TheConstants as table
use Rattle.tg_words.specs.declared.names.CommandName.{CommandName}
use Rattle.tg_words.specs.declared.names.TheConstants.CommandName.{ALL}
use Rattle.tg_words.specs.declared.names.CommandName.TheVariants.{Check, Node, Cid, Export, Import, Verify, Serve, Fetch, Mirror, Swarm, Audit, Help, Version}

-- ---- the rows as texts

abbrev pub Value : Type 0
Value = OptionValue (List ℕ)

abbrev pub OptionTexts : Type 0
OptionTexts = OptionHelp (List ℕ)

abbrev pub CommandTexts : Type 0
CommandTexts = CommandHelp (List ℕ) (List (List ℕ)) (List OptionTexts)

abbrev pub value_by : {T : Type 0} → (T → List ℕ) → OptionValue T → Value
value_by text Nothing = Nothing
value_by text (Word form) = Word (text form)
value_by text (Number low high default) = Number low high default

abbrev pub option_by : {T : Type 0} → (T → List ℕ) → OptionHelp T → OptionTexts
option_by text option = record { name = text option.name; value = value_by text option.value; about = text option.about }

-- those of a value
abbrev pub value_of : OptionValue (Bor (List ℕ)) → Value
value_of = value_by (λ text. text.now)

abbrev pub option_of : OptionHelp (Bor (List ℕ)) → OptionTexts
option_of = option_by (λ text. text.now)

abbrev pub texts_of : CommandHelp (Bor (List ℕ)) (Bor (List (Bor (List ℕ)))) (Bor (List (OptionHelp (Bor (List ℕ))))) → CommandTexts
texts_of row = record {
  name = row.name.now;
  about = row.about.now;
  forms = map (λ form. form.now) row.forms.now;
  options = map option_of row.options.now;
  example = row.example.now;
}

-- those of a constant, whose references are known by what stands behind them alone
abbrev pub Known : Type 0 → Type 0
Known A = record { now : A }

abbrev pub constant_texts : CommandHelp (Known (List ℕ)) (Known (List (Known (List ℕ)))) (Known (List (OptionHelp (Known (List ℕ))))) → CommandTexts
constant_texts row = record {
  name = row.name.now;
  about = row.about.now;
  forms = map (λ form. form.now) row.forms.now;
  options = map (option_by (λ text. text.now)) row.options.now;
  example = row.example.now;
}

-- ---- what help says

-- the row of each command
abbrev pub help_of : CommandName → CommandTexts
help_of Check = constant_texts table.CHECK
help_of Node = constant_texts table.NODE
help_of Cid = constant_texts table.CID
help_of Export = constant_texts table.EXPORT
help_of Import = constant_texts table.IMPORT
help_of Verify = constant_texts table.VERIFY
help_of Serve = constant_texts table.SERVE
help_of Fetch = constant_texts table.FETCH
help_of Mirror = constant_texts table.MIRROR
help_of Swarm = constant_texts table.SWARM
help_of Audit = constant_texts table.AUDIT
help_of Help = constant_texts table.HELP
help_of Version = constant_texts table.THIS_VERSION

-- what stands behind an option's name
abbrev pub value_text : Value → List ℕ
value_text Nothing = []
value_text (Word form) = codes " " ++ form
value_text (Number low high default) = codes " N"

-- the numbers that an option takes, and the one that stands without it
abbrev pub default_text : Option ℕ → List ℕ
default_text None = []
default_text (Some number) = codes ", " ++ (decimal number ++ codes " where absent")

abbrev pub range_text : Value → List ℕ
range_text (Number low high default) = codes ": " ++ (decimal low ++ (codes " to " ++ (decimal high ++ default_text default)))
range_text other = []

-- a text on a line of its own behind a label
abbrev pub line_of : List ℕ → List ℕ → List ℕ
line_of label text = label ++ (text ++ line_feed ∷ [])

-- the line of a form of a command's words, that of an option, and that of an example behind an empty one
abbrev pub form_line : List ℕ → List ℕ
form_line form = line_of (codes "  tgate ") form

abbrev pub option_line : OptionTexts → List ℕ
option_line option =
    codes "  --" ++ (option.name ++ (value_text option.value ++ (codes "  " ++ (option.about ++ (range_text option.value ++ line_feed ∷ [])))))

abbrev pub example_lines : List ℕ → List ℕ
example_lines example = line_of (codes "\nexample: tgate ") example

-- the line of what a command does, behind a label
abbrev pub about_line : List ℕ → CommandTexts → List ℕ
about_line label help = label ++ (help.name ++ (codes ": " ++ (help.about ++ line_feed ∷ [])))

-- the help of a command: what it does, the forms of its words, its options, and an example
abbrev pub command_help : CommandTexts → List ℕ
command_help help =
    about_line (codes "tgate ") help
    ++ (codes "\n" ++ (flat_map form_line help.forms ++ (flat_map option_line help.options ++ example_lines help.example)))

-- the help of the program: a line for each command
abbrev pub summary_line : CommandName → List ℕ
summary_line name = about_line (codes "  ") (help_of name)

abbrev pub program_help : List ℕ
program_help = table.FRONT.now ++ (flat_map summary_line ALL.now ++ table.BACK.now)

abbrev pub help_text : Option CommandName → List ℕ
help_text None = program_help
help_text (Some name) = command_help (help_of name)

-- the program's version, and the kit by which it is proved
abbrev pub version_text : List ℕ
version_text = table.VERSION.now
