-- How many bytes the digest of a CID with sha2-256 has.
use Rattle.std.proofs.Common.{◌≡◌, ℕ, List, length, sym, subst, inl, inr}
use Rattle.tg_cid.specs.Cid.{CidParts}
use Rattle.tg_cid.specs.Spelling.{CidBytes, IsDigestSize}
use Rattle.tg_cid.specs.declared.cid.HashKind.{HashKind}
use Rattle.tg_cid.specs.declared.cid.HashKind.TheVariants.{Identity, Sha256}

pub digest_is : (hash : HashKind) (size : ℕ) → hash ≡ Sha256 → IsDigestSize hash size → size ≡ 32
digest_is Sha256 size sha e = e
digest_is Identity size sha e = absurd (cc sha)

-- where the CID is spelled, the digest has the size of its hash
pub cid_size : (cid : CidParts) (bytes : List ℕ) → CidBytes cid bytes → IsDigestSize cid.hash (length cid.digest)
cid_size cid bytes (inl zero) = subst (λ (k : HashKind). IsDigestSize k (length cid.digest)) (sym zero.hash) zero.size
cid_size cid bytes (inr one) = one.size
