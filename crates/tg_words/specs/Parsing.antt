-- The command of `clap` that reads a command's operands, and what its matches say.
use Rattle.std.specs.Prelude.{ℕ, List, [], ◌∷◌, ◌++◌, map, true, Option, Some, None, find, filter_map, if◌then◌else◌}
use Rattle.std.specs.Prelude.{option_and_then, slice_get}
use Rattle.std.specs.List.{list_any}
use Rattle.std.specs.Str.{bytes_eq}
use Rattle.clap.specs.Walk.{Row, Rule}
use Rattle.clap.specs.Simple.{App, Shape, new_rule, new_shape, on_top}
use Rattle.clap.specs.declared.builder.action.ArgAction.{ArgAction}
use Rattle.clap.specs.declared.builder.action.ArgAction.TheVariants.{Set, Append, SetTrue}
use Rattle.clap.specs.declared.parser.matches.ValueSource.{ValueSource}
use Rattle.clap.specs.declared.parser.matches.ValueSource.TheVariants.{CommandLine, DefaultValue}
use Rattle.clap.specs.declared.error.kind.ErrorKind.{ErrorKind}
use Rattle.clap.specs.declared.error.kind.ErrorKind.TheVariants as kind
use Rattle.tg_words.specs.Words.{Names, Given}
use Rattle.tg_words.specs.declared.WordsFault.{WordsFault}
use Rattle.tg_words.specs.declared.WordsFault.TheVariants.{Usage, OutOfMemory}

-- the argument of the positional words, and that of an option
abbrev pub positional_rule : Rule
positional_rule = record (new_rule []) { action = Some Append }

abbrev pub option_rule : ArgAction → List ℕ → Rule
option_rule action name = record (new_rule name) { long = Some name; action = Some action }

abbrev pub rules_for : Names → List Rule
rules_for names = positional_rule ∷ (map (option_rule Set) names.valued ++ map (option_rule SetTrue) names.flags)

abbrev pub with_rules : App → List Rule → App
with_rules app rules = on_top (λ (s : Shape). record s { rules = s.rules ++ rules }) app

-- the command of these options, with neither a program's name nor help nor a version
abbrev pub app_for : Names → App
app_for names = record {
  top = record (new_shape []) {
    no_binary_name = true;
    disable_help_flag = true;
    disable_version_flag = true;
    rules = rules_for names;
  };
  subs = [];
}

-- want of memory stays so, and every other error is one of usage
abbrev pub fault_of_kind : ErrorKind → WordsFault
fault_of_kind kind.OutOfMemory = OutOfMemory
fault_of_kind _ = Usage

abbrev pub row_at : List Row → List ℕ → Option Row
row_at rows id = find (λ (r : Row). bytes_eq r.id id) rows

-- the values of the positional words
abbrev pub values_of : Option Row → List (List ℕ)
values_of (Some row) = row.values
values_of None = []

abbrev pub positional_in : List Row → List (List ℕ)
positional_in rows = values_of (row_at rows [])

-- the option of a row that comes from the words: a flag has no value
abbrev pub value_in : List (List ℕ) → Row → Option (List ℕ)
value_in flags row = if list_any (λ flag. bytes_eq flag row.id) flags then None else slice_get row.values 0

abbrev pub given_from : Option ValueSource → Given → Option Given
given_from (Some CommandLine) given = Some given
given_from (Some DefaultValue) given = None
given_from None given = None

abbrev pub option_of : List (List ℕ) → Row → Option Given
option_of flags row = if bytes_eq row.id [] then None else given_from row.source (row.id, value_in flags row)

-- the option of this name, and all options in the order in which they were found
abbrev pub option_at : List (List ℕ) → List Row → List ℕ → Option Given
option_at flags rows name = option_and_then (option_of flags) (row_at rows name)

abbrev pub options_in : List (List ℕ) → List Row → List Given
options_in flags rows = filter_map (λ (r : Row). option_at flags rows r.id) rows
