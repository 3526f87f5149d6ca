-- Bundles that are read back: their text says which records they have, and a front of it the first of these (this project's own).
use Rattle.std.specs.Prelude.{All, List, [], length, ℕ, ◌++◌, ◌+◌, ◌<◌, ◌^◌, ◌∷◌, ◌≡◌, ◌≢◌}
use Rattle.tg_bundles.specs.Records.{Record, bundle_text, file, folder, link, path_text, records_of}
use Rattle.tg_bytes.specs.Ascii.{line_feed, slash}
use Rattle.tg_model.specs.Dag.{Dag, Section, blocks}
use Rattle.tg_model.specs.Sound.{IsSound}
use Rattle.tg_model.specs.Texts.{escaped, file_line, link_line}

-- ---- escaped names

-- different names are escaped as different texts, which have neither `/` nor a line feed
abbrev pub EscapedDiffer : Type 0
EscapedDiffer = (a b : List ℕ) → escaped a ≡ escaped b → a ≡ b

pub record IsPlain (text : List ℕ) : Type 0 where
  pub no_slash : All (λ b. b ≢ slash) text
  pub no_line_feed : All (λ b. b ≢ line_feed) text

abbrev pub EscapedIsPlain : Type 0
EscapedIsPlain = (name : List ℕ) → IsPlain (escaped name)

-- ---- records that a text can tell apart

-- each name of a path isn't empty
abbrev pub AreNames : List (List ℕ) → Type 0
AreNames path = All (λ name. name ≢ []) path

abbrev pub path_of : Record → List (List ℕ)
path_of (folder path) = path
path_of (file path bytes) = path
path_of (link path target) = path

-- the size that a record's first line says; a folder's says none
abbrev pub size_of : Record → ℕ
size_of (folder path) = 0
size_of (file path bytes) = length bytes
size_of (link path target) = length target

-- no name is empty, and the size has at most 64 digits: of a larger number `decimal` writes only the last 64, so 10 ^ 64 + 10 ^ 63 as
-- 10 ^ 63, and a bundle with such a file may be that of other records
pub record IsProper (entry : Record) : Type 0 where
  pub names : AreNames (path_of entry)
  pub size : size_of entry < 10 ^ 64

-- ---- what texts say

-- different paths are written as different texts
abbrev pub PathsDiffer : Type 0
PathsDiffer = (a b : List (List ℕ)) → AreNames a → AreNames b → path_text a ≡ path_text b → a ≡ b

-- a bundle that begins with the text of records begins with just these, whatever comes behind them, and this is the text of the others:
-- so a front of a bundle that ends within a first line, or at a record's end, has the first records
abbrev pub FrontsAreRecords : Type 0
FrontsAreRecords = (front records : List Record) (rest : List ℕ) → All IsProper front → All IsProper records → bundle_text front ++ rest ≡ bundle_text records
    → (more : List Record) × (records ≡ front ++ more) × (rest ≡ bundle_text more)

-- one that ends within a file's bytes, of which as many are left as the first line says more than came, has the first records and a
-- front of the next, which is this file: behind it are the last of its bytes, a line feed, and the text of the others
abbrev pub FrontsAreFiles : Type 0
FrontsAreFiles = (front records : List Record) (path : List (List ℕ)) (bytes rest : List ℕ) (left : ℕ) → All IsProper front → All IsProper records
    → AreNames path → length bytes + left < 10 ^ 64
    → bundle_text front ++ (file_line (length bytes + left) (path_text path) ++ (bytes ++ rest)) ≡ bundle_text records
    → (last : List ℕ) × (more : List Record) × (records ≡ front ++ file path (bytes ++ last) ∷ more) × (length last ≡ left)
    × (rest ≡ last ++ line_feed ∷ bundle_text more)

-- one that ends with a symbolic link's first line has the first records, and behind them is a link at this path, whose target has so many
-- bytes
abbrev pub FrontsAreLinks : Type 0
FrontsAreLinks = (front records : List Record) (path : List (List ℕ)) (rest : List ℕ) (size : ℕ) → All IsProper front → All IsProper records
    → AreNames path → size < 10 ^ 64 → bundle_text front ++ (link_line size (path_text path) ++ rest) ≡ bundle_text records
    → (target : List ℕ) × (more : List Record) × (records ≡ front ++ link path target ∷ more) × (length target ≡ size)
    × (rest ≡ target ++ line_feed ∷ bundle_text more)

-- different records are a bundle of different text
abbrev pub BundlesDiffer : Type 0
BundlesDiffer = (a b : List Record) → All IsProper a → All IsProper b → bundle_text a ≡ bundle_text b → a ≡ b

-- ---- the records of sound DAGs

-- no name in the records of a sound DAG is empty
abbrev pub RecordsHaveNames : Type 0
RecordsHaveNames = (d : Dag) (path : List (List ℕ)) → IsSound d → AreNames path → All (λ entry. AreNames (path_of entry)) (records_of path d)

-- the length of a block has at most 64 digits; soundness limits that of no raw block
abbrev pub IsCounted : Section → Type 0
IsCounted section = length section.block < 10 ^ 64

abbrev pub RecordsAreProper : Type 0
RecordsAreProper = (d : Dag) (path : List (List ℕ)) → IsSound d → AreNames path → All IsCounted (blocks d) → All IsProper (records_of path d)
