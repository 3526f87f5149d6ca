-- What `Accept` fields accept (RFC 9110, section 12.5.1; Trustless Gateway specification, response types). Fields are
-- cut at commas and semicolons, whatever stands in quotes.
use Rattle.httparse.specs.Grammar.{trim_ows}
use Rattle.std.specs.List.{filter_map, flat_map}
use Rattle.std.specs.Option.{unwrap_or}
use Rattle.std.specs.Prelude.{Bool, List, None, Option, Some, [], codes, false, find, if◌then◌else◌, option_map, true}
use Rattle.std.specs.Prelude.{ℕ}
use Rattle.std.specs.Str.{str_eq_ignore_ascii_case}
use Rattle.tg_http.specs.Fields.{first as first_of}
use Rattle.tg_model.specs.declared.queries.Form.{Form}
use Rattle.tg_model.specs.declared.queries.Form.TheVariants.{Car, Raw}
use Rattle.tg_query.specs.Cuts.{cut_at, cut_first}
use Rattle.tg_query.specs.Targets.{or_empty}
use Rattle.tg_query.specs.declared.accepts.Accepted.{Accepted}
use Rattle.tg_query.specs.declared.accepts.CarChoice.{CarChoice}

-- the known types, which are compared without regard to case
abbrev pub raw_type : List ℕ
raw_type = codes "application/vnd.ipld.raw"

abbrev pub car_type : List ℕ
car_type = codes "application/vnd.ipld.car"

-- the media ranges of all fields, in order
abbrev pub ranges_of : List (List ℕ) → List (List ℕ)
ranges_of values = flat_map (cut_at 44) values

-- a range is a type, and behind a semicolon its parameters, with semicolons between them; spaces and tabs around each
-- are dropped
abbrev pub params_in : Option (List ℕ) → List (List ℕ)
params_in None = []
params_in (Some params) = cut_at 59 params

-- the format of a known type
abbrev pub form_of_type : List ℕ → Option Form
form_of_type type =
    if str_eq_ignore_ascii_case type raw_type then Some Raw
    else (if str_eq_ignore_ascii_case type car_type then Some Car else None)

unfoldable pub form_of_range : List ℕ → Option Form
form_of_range range = form_of_type (trim_ows (cut_first 59 range).0)

abbrev pub is_car_form : Option Form → Bool
is_car_form None = false
is_car_form (Some Raw) = false
is_car_form (Some Car) = true

-- the value of a parameter of this name, where it is one; without `=` the value is empty
abbrev pub param_value : List ℕ → List ℕ × Option (List ℕ) → Option (List ℕ)
param_value name parts = if str_eq_ignore_ascii_case parts.0 name then Some (or_empty parts.1) else None

abbrev pub param_in : List ℕ → List ℕ → Option (List ℕ)
param_in name param = param_value name (cut_first 61 (trim_ows param))

-- the value of the first parameter of this name
abbrev pub first_param : List ℕ → List (List ℕ) → Option (List ℕ)
first_param name params = first_of (filter_map (param_in name) params)

-- the same, or the default
unfoldable pub param_of : List ℕ → List ℕ → List ℕ → List ℕ
param_of range name default = unwrap_or (first_param name (params_in (cut_first 59 range).1)) default

-- the parameters of a CAR type
abbrev pub choice_of : List ℕ → CarChoice
choice_of range = record {
  version = param_of range (codes "version") (codes "1");
  order = param_of range (codes "order") (codes "dfs");
  dups = param_of range (codes "dups") (codes "y");
}

-- the first known type, and the parameters of the first CAR type
abbrev pub first_form : List (List ℕ) → Option Form
first_form ranges = first_of (filter_map form_of_range ranges)

abbrev pub first_car : List (List ℕ) → Option (List ℕ)
first_car ranges = find (λ range. is_car_form (form_of_range range)) ranges

abbrev pub accepted_of : List (List ℕ) → Accepted
accepted_of values =
    record { first = first_form (ranges_of values); car = option_map choice_of (first_car (ranges_of values)) }
