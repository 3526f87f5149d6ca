-- Which blocks a CID names (CID specification; multihash; FIPS 180-4).
use Rattle.std.specs.Prelude.{◌≡◌, ℕ, List}
use Rattle.sha2.specs.Sha256.{sha256}
use Rattle.tg_cid.specs.Cid.{CidParts}
use Rattle.tg_cid.specs.declared.cid.HashKind.{HashKind}
use Rattle.tg_cid.specs.declared.cid.HashKind.TheVariants.{Sha256, Identity}

-- the digest is the one that the hash gives for the block, which for identity is the block itself
abbrev pub IsDigestOf : HashKind → List ℕ → List ℕ → Type 0
IsDigestOf Sha256 digest block = digest ≡ sha256 block
IsDigestOf Identity digest block = digest ≡ block

-- the CID names the block
abbrev pub Names : CidParts → List ℕ → Type 0
Names cid block = IsDigestOf cid.hash cid.digest block
