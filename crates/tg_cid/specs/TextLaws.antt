-- The text of a CID's version 1.
use Rattle.std.proofs.Common.{◌≡◌, List, ℕ, inr}
use Rattle.tg_cid.specs.Cid.{CidParts}
use Rattle.tg_cid.specs.Computed.{cid_text}
use Rattle.tg_cid.specs.Spelling.{CidBytes, CidText}

-- it is the one that is computed, which doesn't tell the version
pub text_is : ((a : CidParts) (s t : List ℕ) → CidText a s → CidText a t → s ≡ t)
    → ((cid : CidParts) (bytes : List ℕ) → CidBytes cid bytes → CidText (record cid { version = 1 }) (cid_text cid))
    → (cid : CidParts) (text : List ℕ) → CidText (record cid { version = 1 }) text → text ≡ cid_text cid
unfolding cid_text
text_is one computes cid text is =
    let first : CidParts = record cid { version = 1 } in
    one first text (cid_text cid) is (computes first is.bytes (inr is.in_bytes))
