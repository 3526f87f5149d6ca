-- Decimal numbers in texts of ASCII (RFC 20), `1*DIGIT` in the grammar of RFC 5234, with a limit of 19 digits.
use Rattle.std.specs.Prelude.{◌≡◌, ℕ, ◌≤◌, List, length}
use Rattle.std.specs.Str.Parse.{IsNumeral, digits_value}

-- 1 to 19 digits, which write this number
pub record IsDigits (text : List ℕ) (number : ℕ) : Type 0 where
  pub digits : IsNumeral 10 text
  pub few : length text ≤ 19
  pub number_is : number ≡ digits_value 10 text
