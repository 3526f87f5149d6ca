-- What holds of the bytes and the texts of CIDs.
use Rattle.std.specs.Prelude.{◌≡◌, ℕ, ◌<◌, ◌≤◌, List, ◌++◌, length, All}
use Rattle.tg_cid.specs.Cid.{CidParts}
use Rattle.tg_cid.specs.Limits.{max_cid_len}
use Rattle.tg_cid.specs.Spelling.{CidBytes, CidText}

pub record OneSpelling : Type 0 where
  -- no CID's bytes begin another's, and a CID is spelled by one list of bytes
  pub no_front : (a b : CidParts) (u v x y : List ℕ) → CidBytes a u → CidBytes b v → u ++ x ≡ v ++ y → (u ≡ v) × (a ≡ b)
  pub one_bytes : (a : CidParts) (u v : List ℕ) → CidBytes a u → CidBytes a v → u ≡ v
  -- a CIDv1 has one text, which is that of no other
  pub one_text : (a : CidParts) (s t : List ℕ) → CidText a s → CidText a t → s ≡ t
  pub one_cid : (a b : CidParts) (t : List ℕ) → CidText a t → CidText b t → a ≡ b

pub record LengthLaws : Type 0 where
  -- the bytes of a CID are bytes, and there are 1 to 133 of them
  pub are_bytes : (cid : CidParts) (bytes : List ℕ) → CidBytes cid bytes → All (λ b. b < 256) bytes
  pub some : (cid : CidParts) (bytes : List ℕ) → CidBytes cid bytes → 0 < length bytes
  pub most : (cid : CidParts) (bytes : List ℕ) → CidBytes cid bytes → length bytes ≤ max_cid_len
  -- there is a CID
  pub one : (cid : CidParts) × (bytes : List ℕ) × CidBytes cid bytes
