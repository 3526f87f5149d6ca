-- What holds of lines at the front of bytes (RFC 9112, section 2.2).
use Rattle.std.specs.Prelude.{◌≡◌, ℕ, List, ◌++◌}
use Rattle.httparse.specs.Grammar.{LineEnd, print_end}
use Rattle.tg_http.specs.HeadText.{HasNoFeed, IsLine}

pub record LineLaws : Type 0 where
  -- a line at the front is the first
  pub one_line : (a b r q : List ℕ) → IsLine a → IsLine b → a ++ r ≡ b ++ q → (a ≡ b) × (r ≡ q)
  -- an empty line is a line
  pub end_line : (end : LineEnd) → IsLine (print_end end)
  -- where a line ends there is a line feed
  pub feed_in_line : (a r : List ℕ) → IsLine a → HasNoFeed (a ++ r) → ⊥
