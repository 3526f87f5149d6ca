-- Worked values: the CID of the raw block of no bytes, that of the empty UnixFS directory, and identity CIDs, as bytes
-- and as text.
use Rattle.std.proofs.Common.{◌≡◌, ℕ, List, [], ◌∷◌, Some, None, codes, replicate, refl}
use Rattle.tg_base32.specs.Base32.{bits}
use Rattle.tg_base32.specs.Computed.{base32}
use Rattle.tg_cid.specs.Cid.{CidParts}
use Rattle.tg_cid.specs.Computed.{cid_of, cid_text}
use Rattle.tg_cid.specs.declared.cid.Codec.TheVariants.{Raw, DagPb}
use Rattle.tg_cid.specs.declared.cid.HashKind.TheVariants.{Sha256, Identity}

abbrev empty_block : List ℕ
empty_block = 0xe3 ∷ 0xb0 ∷ 0xc4 ∷ 0x42 ∷ 0x98 ∷ 0xfc ∷ 0x1c ∷ 0x14 ∷ 0x9a ∷ 0xfb ∷ 0xf4 ∷ 0xc8 ∷ 0x99 ∷ 0x6f ∷ 0xb9 ∷ 0x24 ∷ 0x27 ∷ 0xae ∷ 0x41 ∷ 0xe4 ∷ 0x64 ∷ 0x9b ∷ 0x93 ∷ 0x4c ∷ 0xa4 ∷ 0x95 ∷ 0x99 ∷ 0x1b ∷ 0x78 ∷ 0x52 ∷ 0xb8 ∷ 0x55 ∷ []

abbrev empty_directory : List ℕ
empty_directory = 0x59 ∷ 0x94 ∷ 0x84 ∷ 0x39 ∷ 0x06 ∷ 0x5f ∷ 0x29 ∷ 0x61 ∷ 0x9e ∷ 0xf4 ∷ 0x12 ∷ 0x80 ∷ 0xcb ∷ 0xb9 ∷ 0x32 ∷ 0xbe ∷ 0x52 ∷ 0xc5 ∷ 0x6d ∷ 0x99 ∷ 0xc5 ∷ 0x96 ∷ 0x6b ∷ 0x65 ∷ 0xe0 ∷ 0x11 ∷ 0x12 ∷ 0x39 ∷ 0xf0 ∷ 0x98 ∷ 0xbb ∷ 0xef ∷ []

abbrev block_cid : CidParts
block_cid = record { version = 1; codec = Raw; hash = Sha256; digest = empty_block }

abbrev directory_cid : CidParts
directory_cid = record { version = 0; codec = DagPb; hash = Sha256; digest = empty_directory }

pub cid_of_block : cid_of (0x01 ∷ 0x55 ∷ 0x12 ∷ 0x20 ∷ empty_block) ≡ Some block_cid
unfolding cid_of
cid_of_block = refl

pub cid_of_directory : cid_of (0x12 ∷ 0x20 ∷ empty_directory) ≡ Some directory_cid
unfolding cid_of
cid_of_directory = refl

-- another version, codec, hash or length, or a byte too many
pub cid_of_none : cid_of (0x01 ∷ 0x71 ∷ 0x12 ∷ 0x20 ∷ empty_block) ≡ None
unfolding cid_of
cid_of_none = refl

pub cid_of_more : cid_of (0x12 ∷ 0x20 ∷ 0x00 ∷ empty_directory) ≡ None
unfolding cid_of
cid_of_more = refl

pub text_of_block : cid_text block_cid ≡ codes "bafkreihdwdcefgh4dqkjv67uzcmw7ojee6xedzdetojuzjevtenxquvyku"
unfolding bits base32 cid_text
text_of_block = refl

pub text_of_directory : cid_text directory_cid ≡ codes "bafybeiczsscdsbs7ffqz55asqdf3smv6klcw3gofszvwlyarci47bgf354"
unfolding bits base32 cid_text
text_of_directory = refl

-- an identity CID, whose digest is its block: of no bytes, of eight, and of the most
abbrev identity_cid : List ℕ → CidParts
identity_cid digest = record { version = 1; codec = Raw; hash = Identity; digest = digest }

abbrev o_wo : List ℕ
o_wo = codes "o wo"

pub cid_of_nothing : cid_of (0x01 ∷ 0x55 ∷ 0x00 ∷ 0x00 ∷ []) ≡ Some (identity_cid [])
unfolding cid_of
cid_of_nothing = refl

pub cid_of_o_wo : cid_of (0x01 ∷ 0x55 ∷ 0x00 ∷ 0x04 ∷ o_wo) ≡ Some (identity_cid o_wo)
unfolding cid_of
cid_of_o_wo = refl

pub cid_of_longest : cid_of (0x01 ∷ 0x55 ∷ 0x00 ∷ 0x80 ∷ 0x01 ∷ replicate 128 7) ≡ Some (identity_cid (replicate 128 7))
unfolding cid_of
cid_of_longest = refl

pub cid_of_longer : cid_of (0x01 ∷ 0x55 ∷ 0x00 ∷ 0x81 ∷ 0x01 ∷ replicate 129 7) ≡ None
unfolding cid_of
cid_of_longer = refl

pub text_of_nothing : cid_text (identity_cid []) ≡ codes "bafkqaaa"
unfolding bits base32 cid_text
text_of_nothing = refl
