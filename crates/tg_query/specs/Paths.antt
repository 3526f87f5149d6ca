-- Paths in targets and words: segments between slashes, in percent-encoding (Path Gateway specification; RFC 3986,
-- section 3.3).
use Rattle.percent_encoding.specs.Percent.{percent_decode}
use Rattle.std.specs.List.{list_all}
use Rattle.std.specs.Prelude.{All, Bool, Err, List, None, Ok, Option, Result, Some, [], if◌then◌else◌, length, map}
use Rattle.std.specs.Prelude.{nat_le, ℕ, ◌&&◌, ◌≡◌, ◌≤◌}
use Rattle.tg_bytes.specs.Ascii.{slash}
use Rattle.tg_model.specs.Computed.{is_good_name}
use Rattle.tg_model.specs.EntryNames.{IsGoodName}
use Rattle.tg_query.specs.Cuts.{parts_at}
use Rattle.tg_query.specs.declared.fault.QueryFault.{QueryFault}
use Rattle.tg_query.specs.declared.fault.QueryFault.TheVariants.{BadPath}

-- the names of a path: what its segments between slashes decode to, the empty ones left out
unfoldable pub names_of : List ℕ → List (List ℕ)
names_of text = map percent_decode (parts_at slash text)

-- a segment as a name
abbrev pub name_or_fault : List ℕ → Result (List ℕ) QueryFault
name_or_fault name = if is_good_name name then Ok name else Err BadPath

abbrev pub name_of : List ℕ → Result (List ℕ) QueryFault
name_of segment = name_or_fault (percent_decode segment)

-- each is the name of an entry, and there are at most 128
pub record PathText (text : List ℕ) (path : List (List ℕ)) : Type 0 where
  pub names : path ≡ names_of text
  pub few : length path ≤ 128
  pub good : All IsGoodName path

abbrev pub are_names : List (List ℕ) → Bool
are_names names = list_all is_good_name names && nat_le (length names) 128

abbrev pub path_with : List (List ℕ) → Result (List (List ℕ)) QueryFault
path_with names = if are_names names then Ok names else Err BadPath

-- the path of a text, as a function
abbrev pub path_of : List ℕ → Result (List (List ℕ)) QueryFault
path_of text = path_with (names_of text)

-- the path behind a CID: none, or a slash and the text of a path
abbrev pub PathBehind : Option (List ℕ) → List (List ℕ) → Type 0
PathBehind None path = path ≡ []
PathBehind (Some text) path = PathText text path

abbrev pub path_behind : Option (List ℕ) → Result (List (List ℕ)) QueryFault
path_behind None = Ok []
path_behind (Some text) = path_of text
