-- Texts of answers: escaped names, listings and the lines of bundles (this project's own).
use Rattle.std.specs.Fmt.{digit_glyph}
use Rattle.tg_bytes.specs.Ascii.{line_feed, slash, space}
use Rattle.std.specs.List.{flat_map}
use Rattle.std.specs.Prelude.{Bool, List, [], bytes_eq, codes, decimal, false, if◌then◌else◌, nat_le, nat_lt, true, ℕ}
use Rattle.std.specs.Prelude.{◌%◌, ◌&&◌, ◌++◌, ◌/◌, ◌==◌, ◌||◌, ◌∷◌}
use Rattle.tg_cid.specs.Cid.{CidParts}
use Rattle.tg_cid.specs.Computed.{cid_text}

-- ASCII letters, ASCII digits, `-`, `.`, `_` and `~` stand for themselves, and each other byte is `%` and two
-- upper-case hexadecimal digits (RFC 3986, section 2.3)
abbrev pub is_unreserved : ℕ → Bool
is_unreserved b = (nat_le 65 b && nat_le b 90) || (nat_le 97 b && nat_le b 122) || (nat_le 48 b && nat_le b 57) || b == 45 || b == 46 || b == 95 || b == 126

abbrev pub escaped_byte : ℕ → List ℕ
escaped_byte b = if is_unreserved b then b ∷ [] else 37 ∷ digit_glyph true (b / 16) ∷ digit_glyph true (b % 16) ∷ []

abbrev pub escaped : List ℕ → List ℕ
escaped name = flat_map escaped_byte name

-- one list of bytes stands before another
abbrev pub is_before : List ℕ → List ℕ → Bool
is_before [] [] = false
is_before [] (b ∷ bytes) = true
is_before (a ∷ as_) [] = false
is_before (a ∷ as_) (b ∷ bs) = if nat_lt a b then true else (if nat_lt b a then false else is_before as_ bs)

-- a named link of a directory
pub record Named : Type 0 where
  pub name : List ℕ
  pub cid : CidParts

-- the links sorted by the names' bytes
abbrev pub inserted : Named → List Named → List Named
inserted x [] = x ∷ []
inserted x (y ∷ ys) = if is_before y.name x.name then y ∷ inserted x ys else x ∷ y ∷ ys

abbrev pub sorted : List Named → List Named
sorted [] = []
sorted (x ∷ xs) = inserted x (sorted xs)

-- a line of a listing: the CID's text, a space, the escaped name
abbrev pub listing_line : Named → List ℕ
listing_line entry = cid_text entry.cid ++ space ∷ (escaped entry.name ++ line_feed ∷ [])

abbrev pub listing : List Named → List ℕ
listing entries = flat_map listing_line (sorted entries)

-- the path of an entry: its directory's, joined with the escaped name by one `/`
abbrev pub joined : List ℕ → List ℕ → List ℕ
joined path name = (if bytes_eq path (slash ∷ []) then path else path ++ slash ∷ []) ++ escaped name

-- the first lines of records
abbrev pub dir_line : List ℕ → List ℕ
dir_line path = codes "dir " ++ (path ++ line_feed ∷ [])

abbrev pub file_line : ℕ → List ℕ → List ℕ
file_line size path = codes "file " ++ (decimal size ++ space ∷ (path ++ line_feed ∷ []))

abbrev pub link_line : ℕ → List ℕ → List ℕ
link_line size path = codes "link " ++ (decimal size ++ space ∷ (path ++ line_feed ∷ []))
