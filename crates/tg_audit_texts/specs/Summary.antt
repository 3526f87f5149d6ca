-- The text that an audit tells (this project's own).
use Rattle.std.specs.Prelude.{List, [], codes, decimal, ℕ, ◌+◌, ◌++◌, ◌∷◌}
use Rattle.tg_audit_texts.specs.Expected.{raw_cid_of}
use Rattle.tg_audit_texts.specs.declared.hashing.Hashed.{Hashed}
use Rattle.tg_bytes.specs.Ascii.{line_feed, space}
use Rattle.tg_cid.specs.Cid.{CidParts}
use Rattle.tg_cid.specs.Computed.{cid_text}
use Rattle.tg_import.specs.declared.summary.Summary.{Summary}

-- the line of an answer: its number, its length and the raw CID of its bytes
abbrev pub hashed_line : ℕ → Hashed → List ℕ
hashed_line number hashed =
    codes "query " ++ (decimal number ++ space ∷ (decimal hashed.size ++ space ∷ (cid_text (raw_cid_of hashed.digest) ++ line_feed ∷ [])))

abbrev pub hashed_lines : ℕ → List Hashed → List ℕ
hashed_lines number [] = []
hashed_lines number (hashed ∷ more) = hashed_line number hashed ++ hashed_lines (number + 1) more

abbrev pub root_line : CidParts → List ℕ
root_line root = codes "root " ++ (cid_text root ++ line_feed ∷ [])

abbrev pub files_line : Summary → List ℕ
files_line summary = codes "files " ++ (decimal summary.files ++ (codes " bytes " ++ (decimal summary.bytes ++ line_feed ∷ [])))

abbrev pub last_lines : List ℕ
last_lines = codes "query 9 absent" ++ line_feed ∷ (codes "audit ok" ++ line_feed ∷ [])

abbrev pub summary_text : CidParts → Summary → List Hashed → List ℕ
summary_text root summary hashed = root_line root ++ (files_line summary ++ (hashed_lines 1 hashed ++ last_lines))
