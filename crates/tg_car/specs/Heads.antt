-- The length and the CID at the front of a section.
use Rattle.std.specs.Prelude.{◌≡◌, ℕ, ◌+◌, ◌<◌, List, ◌++◌, length}
use Rattle.tg_varint.specs.Varint.{VarintSpelling}
use Rattle.tg_cid.specs.Cid.{CidParts}
use Rattle.tg_cid.specs.Spelling.{CidBytes}

-- the length and the CID of a section whose block has this many bytes
pub record HeadText (cid : CidParts) (number : ℕ) (bytes : List ℕ) : Type 0 where
  pub size : List ℕ
  pub name : List ℕ
  pub whole : bytes ≡ size ++ name
  pub size_is : VarintSpelling (length name + number) size
  pub name_is : CidBytes cid name

-- a section's length and CID begin with these bytes, and more of them are to come
pub record IsInHead (bytes : List ℕ) : Type 0 where
  pub cid : CidParts
  pub number : ℕ
  pub more : List ℕ
  pub not_whole : 0 < length more
  pub text : HeadText cid number (bytes ++ more)

-- no section's length and CID begin with these bytes
pub record IsNoHead (bytes : List ℕ) : Type 0 where
  pub none : (cid : CidParts) (number : ℕ) (more : List ℕ) → HeadText cid number (bytes ++ more) → ⊥
