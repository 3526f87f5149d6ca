-- How far the end of a head text was sought in bytes that come piece by piece (RFC 9112, section 2.2).
use Rattle.std.specs.Prelude.{◌≡◌, ℕ, ◌≤◌, List, ◌++◌, length, take, drop, All}
use Rattle.httparse.specs.Grammar.{LineEnd, print_blank}
use Rattle.tg_bytes.specs.Lists.{joined}
use Rattle.tg_http.specs.HeadText.{HasNoFeed, IsFullLine}
use Rattle.tg_http.specs.declared.cursor.HeadCursor.{HeadCursor}

-- empty lines, and then so many lines that aren't empty: no head text ends in them
pub record AreFirstLines (front : List ℕ) (count : ℕ) : Type 0 where
  pub blank : List LineEnd
  pub lines : List (List ℕ)
  pub lines_are : All IsFullLine lines
  pub count_is : count ≡ length lines
  pub whole : front ≡ print_blank blank ++ joined lines

-- A front of the bytes, of at most 16,384, was sought, and the cursor stands behind it: before the line that isn't
-- whole are first lines of a head, with so many counted, and the bytes of that line that were looked at have no line
-- feed.
pub record IsSought (cursor : HeadCursor) (bytes : List ℕ) : Type 0 where
  pub lines_are : AreFirstLines (take cursor.line bytes) cursor.lines
  pub no_feed : HasNoFeed (drop cursor.line (take cursor.seen bytes))
  pub in_order : cursor.line ≤ cursor.seen
  pub within : cursor.seen ≤ length bytes
  pub limit : cursor.seen ≤ 16384

-- what was sought of bytes stays sought whatever comes behind them
abbrev pub SoughtStays : Type 0
SoughtStays = (cursor : HeadCursor) (bytes more : List ℕ) → IsSought cursor bytes → IsSought cursor (bytes ++ more)
