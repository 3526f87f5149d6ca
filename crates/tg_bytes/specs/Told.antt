-- Bytes that an object tells or doesn't. An object that doesn't tell its bytes has `None` for them.
use Rattle.std.specs.Prelude.{◌≡◌, ℕ, List, [], ◌++◌, ⊤}
use Rattle.std.specs.Prelude.{Option, Some, None}

-- what was left before these bytes were taken, by what is left after them
abbrev pub after_front : List ℕ → Option (List ℕ) → Option (List ℕ)
after_front front (Some rest) = Some (front ++ rest)
after_front front None = None

-- what is held once these bytes were put, by what was held before them
abbrev pub grown : Option (List ℕ) → List ℕ → Option (List ℕ)
grown (Some held) more = Some (held ++ more)
grown None more = None

-- nothing is left, as far as it is told
abbrev pub IsNothing : Option (List ℕ) → Type 0
IsNothing (Some rest) = rest ≡ []
IsNothing None = ⊤
