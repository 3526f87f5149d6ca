-- Ranges FROM:TO of a file's bytes (Trustless Gateway specification, entity-bytes; the limits of digits are this
-- project's own).
use Rattle.std.specs.Char.{is_digit}
use Rattle.std.specs.List.{list_all}
use Rattle.std.specs.Prelude.{Bool, Err, List, None, Ok, Option, Result, Some, [], bytes_eq, if◌then◌else◌, length}
use Rattle.std.specs.Prelude.{nat_le, nat_lt, option_map, true, ℕ, ◌&&◌, ◌++◌, ◌<◌, ◌^◌, ◌∷◌, ◌≡◌}
use Rattle.std.specs.Str.Parse.{digits_value}
use Rattle.tg_bytes.specs.Digits.{IsDigits}
use Rattle.tg_model.specs.Queries.{IsSpan, SpanParts}
use Rattle.tg_model.specs.declared.queries.SpanFrom.{SpanFrom}
use Rattle.tg_model.specs.declared.queries.SpanFrom.TheVariants.{Last, Start}
use Rattle.tg_query.specs.Cuts.{behind_front, cut_first}
use Rattle.tg_query.specs.declared.fault.QueryFault.{QueryFault}
use Rattle.tg_query.specs.declared.fault.QueryFault.TheVariants.{BadRange}

-- 1 to 19 digits that write a number below 2 ^ 63
pub record NumberText (text : List ℕ) (number : ℕ) : Type 0 where
  pub written : IsDigits text number
  pub small : number < 2 ^ 63

-- digits, or `-` and digits
abbrev pub FromText : List ℕ → SpanFrom → Type 0
FromText text (Start start) = NumberText text start
FromText text (Last count) = (digits : List ℕ) × (text ≡ 45 ∷ digits) × NumberText digits count

-- `*`, or digits
abbrev pub ToText : List ℕ → Option ℕ → Type 0
ToText text None = text ≡ 42 ∷ []
ToText text (Some to) = NumberText text to

pub record SpanText (text : List ℕ) (span : SpanParts) : Type 0 where
  pub from_text : List ℕ
  pub to_text : List ℕ
  pub whole : text ≡ from_text ++ 58 ∷ to_text
  pub from_is : FromText from_text span.from
  pub to_is : ToText to_text span.to
  pub well_formed : IsSpan span

-- the same as functions
abbrev pub is_number : List ℕ → Bool
is_number text =
    nat_lt 0 (length text) && (nat_le (length text) 19 && (list_all (λ b. is_digit b 10) text && nat_lt (digits_value 10 text) (2 ^ 63)))

unfoldable pub number_of : List ℕ → Option ℕ
number_of text = if is_number text then Some (digits_value 10 text) else None

abbrev pub from_by : List ℕ → Option (List ℕ) → Option SpanFrom
from_by text None = option_map Start (number_of text)
from_by text (Some digits) = option_map Last (number_of digits)

abbrev pub from_of : List ℕ → Option SpanFrom
from_of text = from_by text (behind_front (45 ∷ []) text)

abbrev pub to_of : List ℕ → Option (Option ℕ)
to_of text = if bytes_eq text (42 ∷ []) then Some None else option_map Some (number_of text)

abbrev pub is_up_to : SpanFrom → Option ℕ → Bool
is_up_to (Start start) (Some to) = nat_le start to
is_up_to (Start start) None = true
is_up_to (Last count) to = true

abbrev pub span_with : Option SpanFrom → Option (Option ℕ) → Result SpanParts QueryFault
span_with (Some from) (Some to) = if is_up_to from to then Ok (record { from = from; to = to }) else Err BadRange
span_with (Some from) None = Err BadRange
span_with None to = Err BadRange

abbrev pub span_by : List ℕ → Option (List ℕ) → Result SpanParts QueryFault
span_by from None = Err BadRange
span_by from (Some to) = span_with (from_of from) (to_of to)

unfoldable pub span_of : List ℕ → Result SpanParts QueryFault
span_of text = span_by (cut_first 58 text).0 (cut_first 58 text).1
