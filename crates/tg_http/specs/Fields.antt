-- The fields of a head by their names, which are compared without regard to case (RFC 9110, section 5.1).
use Rattle.std.specs.Prelude.{◌≡◌, ℕ, ◌<◌, ◌==◌, List, [], ◌∷◌, Bool, not, Option, Some, None, length, find, codes}
use Rattle.std.specs.Prelude.{if◌then◌else◌}
use Rattle.std.specs.List.{filter_map, list_any, slice_split}
use Rattle.std.specs.Option.{option_or}
use Rattle.std.specs.Str.{str_eq_ignore_ascii_case}
use Rattle.httparse.specs.Grammar.{trim_ows}
use Rattle.tg_http.specs.declared.fields.FieldValue.{FieldValue}
use Rattle.tg_http.specs.declared.fields.FieldValue.TheVariants.{Absent, Single, Repeated}

-- the value of a field, of which the name and the value are given, where it has this name
abbrev pub value_under : List ℕ → List ℕ × List ℕ → Option (List ℕ)
value_under name field = if str_eq_ignore_ascii_case field.0 name then Some field.1 else None

-- the values of the fields of this name, in order
abbrev pub values : List ℕ → List (List ℕ × List ℕ) → List (List ℕ)
values name fields = filter_map (value_under name) fields

-- the value is a list of elements with commas between them, and one of them is this token (RFC 9110, section 5.6.1)
abbrev pub lists_token : List ℕ → List ℕ → Bool
lists_token token value =
    list_any (λ part. str_eq_ignore_ascii_case (trim_ows part) token) (slice_split (λ b. b == 44) value)

-- some `Connection` field has the token `close` (RFC 9112, section 9.6)
abbrev pub closes : List (List ℕ × List ℕ) → Bool
closes fields = list_any (lists_token (codes "close")) (values (codes "connection") fields)

abbrev pub first : {A : Type 0} → List A → Option A
first [] = None
first (value ∷ more) = Some value

abbrev pub is_identity : List ℕ → Bool
is_identity value = str_eq_ignore_ascii_case value (codes "identity")

-- the first of the values that isn't `identity`, else the first (RFC 9110, section 8.4)
abbrev pub coding_of : List (List ℕ) → Option (List ℕ)
coding_of codings = option_or (find (λ value. not (is_identity value)) codings) (first codings)

-- what the values of one name are
abbrev pub AreValues : List (List ℕ) → FieldValue → Type 0
AreValues found Absent = found ≡ []
AreValues found (Single value) = found ≡ value.now ∷ []
AreValues found Repeated = 1 < length found
