-- The keys under which blocks are found: what a CID and its version 1 form have in common.
use Rattle.std.specs.Prelude.{Bool, ◌&&◌, List, ℕ, Option, Some, None, bytes_eq, false, if◌then◌else◌, length, nat_le}
use Rattle.tg_cid.specs.Cid.{CidParts}
use Rattle.tg_cid.specs.declared.cid.HashKind.{HashKind}
use Rattle.tg_cid.specs.declared.cid.HashKind.TheVariants.{Sha256, Identity}
use Rattle.tg_cid.specs.CodeLaws.{same_codec}
use Rattle.tg_cid.specs.Limits.{max_digest_len}
use Rattle.tg_store.specs.declared.key.Key.{Key}

-- the keys are equal
abbrev pub same_key : Key → Key → Bool
same_key a b = same_codec a.codec b.codec && bytes_eq a.digest b.digest

abbrev pub key_of : CidParts → Key
key_of cid = record { codec = cid.codec; digest = cid.digest }

-- what is found under the key of a CID; an identity CID has none
abbrev pub of_hash : {A : Type 0} → HashKind → Option A → Option A
of_hash Sha256 found = found
of_hash Identity found = None

-- the block that a CID leads to: of an identity CID its digest, and else what is found under its key
abbrev pub own_digest : List ℕ → Option (List ℕ)
own_digest digest = if nat_le (length digest) max_digest_len then Some digest else None

abbrev pub found_by : HashKind → List ℕ → Option (List ℕ) → Option (List ℕ)
found_by Sha256 digest found = found
found_by Identity digest found = own_digest digest

-- whether a CID has the key
abbrev pub has_key : HashKind → Bool → Bool
has_key Sha256 test = test
has_key Identity test = false

abbrev pub is_under : Key → CidParts → Bool
is_under key cid = has_key cid.hash (same_key key (key_of cid))
