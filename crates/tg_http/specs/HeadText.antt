-- The text of a head, which is found before it is read (RFC 9112, section 2.1: a start line, field lines and an empty
-- line).
use Rattle.std.specs.Prelude.{◌≡◌, ◌≢◌, ℕ, ◌≤◌, List, [], ◌∷◌, ◌++◌, length, All}
use Rattle.httparse.specs.Grammar.{LineEnd, print_end, print_blank}
use Rattle.tg_bytes.specs.Lists.{joined}

-- no line feed is among them
abbrev pub HasNoFeed : List ℕ → Type 0
HasNoFeed bytes = All (λ b. b ≢ 10) bytes

-- a line goes up to and with its line feed
pub record IsLine (line : List ℕ) : Type 0 where
  pub front : List ℕ
  pub inside : HasNoFeed front
  pub whole : line ≡ front ++ 10 ∷ []

-- an empty line is a line feed alone, or CR and a line feed
abbrev pub IsEmptyLine : List ℕ → Type 0
IsEmptyLine line = (end : LineEnd) × (line ≡ print_end end)

-- a line that isn't empty
pub record IsFullLine (line : List ℕ) : Type 0 where
  pub line_is : IsLine line
  pub not_empty : IsEmptyLine line → ⊥

-- Empty lines, a line that isn't empty, lines that count as one field each, and the first empty line behind them.
pub record HeadText (text : List ℕ) (count : ℕ) : Type 0 where
  pub blank : List LineEnd
  pub start : List ℕ
  pub fields : List (List ℕ)
  pub last : LineEnd
  pub start_is : IsFullLine start
  pub fields_are : All IsFullLine fields
  pub count_is : count ≡ length fields
  pub whole : text ≡ print_blank blank ++ (start ++ (joined fields ++ print_end last))

-- the bytes begin with this head text, which has at most 16,384 bytes
pub record BeginsHead (bytes text : List ℕ) (count : ℕ) : Type 0 where
  pub text_is : HeadText text count
  pub rest : List ℕ
  pub whole : bytes ≡ text ++ rest
  pub fits : length text ≤ 16384

-- none of the first 16,384 bytes ends a head text
abbrev pub HasNoHead : List ℕ → Type 0
HasNoHead bytes = (text : List ℕ) (count : ℕ) → BeginsHead bytes text count → ⊥
