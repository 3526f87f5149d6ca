-- The line `mirror ADDR ROOT PACK`.
use Rattle.std.specs.Prelude.{◌≡◌, ◌≢◌, ℕ, List, [], ◌∷◌, codes, replicate}
use Rattle.tg_cid.specs.Cid.{CidParts}
use Rattle.tg_cid.specs.Spelling.{CidText}
use Rattle.tg_cid.specs.declared.cid.Codec.TheVariants.{Raw}
use Rattle.tg_cid.specs.declared.cid.HashKind.TheVariants.{Sha256}
use Rattle.tg_query.specs.Requests.{IsAddr}
use Rattle.tg_words.specs.Words.{Line, Names}

-- what is asked of a mirror: the address of a gateway, the root of the DAG, and the path of the pack
pub record MirrorParts : Type 0 where
  pub addr : List ℕ
  pub root : CidParts
  pub pack : List ℕ

abbrev pub mirror_names : Names
mirror_names = record { valued = []; flags = [] }

-- the root of a pack that isn't finished: the raw CID with 32 zero bytes of digest
abbrev pub zero_root : CidParts
zero_root = record { version = 1; codec = Raw; hash = Sha256; digest = replicate 32 0 }

-- a root whose DAG a pack may have: a CIDv1 with sha2-256 other than that one
pub record MayRootPack (root : CidParts) : Type 0 where
  pub version : root.version ≡ 1
  pub hash : root.hash ≡ Sha256
  pub other : root ≢ zero_root

pub record MirrorLine (words : List (List ℕ)) (parts : MirrorParts) : Type 0 where
  pub text : List ℕ
  pub line : Line (codes "mirror") mirror_names words (parts.addr ∷ text ∷ parts.pack ∷ []) []
  pub addr : IsAddr parts.addr
  pub root : CidText parts.root text
  pub may : MayRootPack parts.root
  pub pack_named : parts.pack ≢ []
