-- The answers that are expected of an audit, by what was drawn alone (UnixFS specification, HAMTDirectory; the texts are this
-- project's own).
use Rattle.sha2.specs.Sha256.{sha256}
use Rattle.std.specs.List.{AllAdjacentBelow, flat_map}
use Rattle.std.specs.List.Sorted.{IsPermutation}
use Rattle.std.specs.Prelude.{List, [], codes, drop, length, suc, take, zero, ℕ, ◌*◌, ◌+◌, ◌++◌, ◌-◌, ◌<◌, ◌∷◌, ◌≡◌, ◌≤◌}
use Rattle.tg_audit_texts.specs.Hashing.{IsHashOf}
use Rattle.tg_audit_texts.specs.declared.expected.HashedName.{HashedName}
use Rattle.tg_audit_texts.specs.declared.hashing.Hashed.{Hashed}
use Rattle.tg_bytes.specs.Ascii.{line_feed}
use Rattle.tg_cid.specs.Cid.{CidParts}
use Rattle.tg_cid.specs.declared.cid.Codec.TheVariants as codecs
use Rattle.tg_cid.specs.declared.cid.HashKind.TheVariants as hashes
use Rattle.tg_draws.specs.Trees.{file_name}
use Rattle.tg_draws.specs.declared.drawing.Drawn.{Drawn}
use Rattle.tg_model.specs.Texts.{Named, dir_line, file_line, listing}
use Rattle.tg_murmur.specs.NameHash.{name_hash}

-- the raw CIDv1 with sha2-256 of bytes
abbrev pub raw_cid_of : List ℕ → CidParts
raw_cid_of digest = record { version = 1; codec = codecs.Raw; hash = hashes.Sha256; digest = digest }

-- the record of a file
abbrev pub file_record : List ℕ → List ℕ → List ℕ
file_record path bytes = file_line (length bytes) path ++ (bytes ++ line_feed ∷ [])

-- the bytes of the file with a number
abbrev pub bytes_at : List (List ℕ) → ℕ → List ℕ
bytes_at [] number = []
bytes_at (bytes ∷ files) zero = bytes
bytes_at (bytes ∷ files) (suc number) = bytes_at files number

-- the records of the files of `many`, in the order of these numbers
abbrev pub files_bundled : List (List ℕ) → List ℕ → List ℕ
files_bundled many order = flat_map (λ number. file_record (codes "/many/" ++ file_name number) (bytes_at many number)) order

-- the numbers from 0 on
abbrev pub numbers_from : ℕ → List (List ℕ) → List ℕ
numbers_from number [] = []
numbers_from number (bytes ∷ files) = number ∷ numbers_from (number + 1) files

-- a file with its name's hash
abbrev pub hashed_name : ℕ → HashedName
hashed_name number = record { hash = name_hash (file_name number); number = number }

-- in which order the entries of `many` stand: that of their names, which is that of their numbers; and where their names, of 7
-- bytes, and CIDs, of 36, weigh more than 16,384, that of their names' hashes
pub record IsHashOrder (numbers order : List ℕ) : Type 0 where
  pub permutation : IsPermutation numbers order
  pub ascends : AllAdjacentBelow (λ before next. name_hash (file_name before) ≤ name_hash (file_name next)) order (length order)

pub record IsOrder (many : List (List ℕ)) (order : List ℕ) : Type 0 where
  pub plain : 43 * length many ≤ 16384 → order ≡ numbers_from 0 many
  pub sharded : 16384 < 43 * length many → IsHashOrder (numbers_from 0 many) order

-- the bundle of all
pub record IsBundle (drawn : Drawn) (text : List ℕ) : Type 0 where
  pub order : List ℕ
  pub order_is : IsOrder drawn.many order
  pub text_is : text ≡ dir_line (codes "/") ++ (file_record (codes "/big") drawn.big ++ (dir_line (codes "/empty")
      ++ (dir_line (codes "/many") ++ (files_bundled drawn.many order ++ file_record (codes "/none") []))))

-- the entries of `many`, each a raw block of its bytes
abbrev pub named_from : ℕ → List (List ℕ) → List Named
named_from number [] = []
named_from number (bytes ∷ files) =
    record { name = file_name number; cid = raw_cid_of (sha256 bytes) } ∷ named_from (number + 1) files

-- so many bytes from a place on, and the last ones (both stay folded, since a place can be a large number)
unfoldable pub part : ℕ → ℕ → List ℕ → List ℕ
part from count bytes = take count (drop from bytes)

unfoldable pub last_of : ℕ → List ℕ → List ℕ
last_of count bytes = drop (length bytes - count) bytes

-- the texts of the eight answers
abbrev pub first_of : List (List ℕ) → List ℕ
first_of [] = []
first_of (bytes ∷ files) = bytes

pub record AreTexts (drawn : Drawn) (texts : List (List ℕ)) : Type 0 where
  pub bundle : List ℕ
  pub bundle_is : IsBundle drawn bundle
  pub are : texts ≡ bundle ∷ part 1048575 2 drawn.big ∷ last_of 5 drawn.big ∷ [] ∷ listing (named_from 0 drawn.many)
      ∷ [] ∷ dir_line (codes "/") ∷ first_of drawn.many ∷ []

-- each hashed
abbrev pub AreHashed : List (List ℕ) → List Hashed → Type 0
AreHashed [] hashed = hashed ≡ []
AreHashed (text ∷ texts) [] = ⊥
AreHashed (text ∷ texts) (one ∷ hashed) = IsHashOf text one × AreHashed texts hashed

pub record AreExpected (drawn : Drawn) (hashed : List Hashed) : Type 0 where
  pub texts : List (List ℕ)
  pub texts_are : AreTexts drawn texts
  pub hashed_are : AreHashed texts hashed
