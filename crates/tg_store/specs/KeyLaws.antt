-- What holds of keys.
use Rattle.std.specs.Prelude.{◌≡◌, Bool, true, false, refl, IsTrue}
use Rattle.std.specs.Cmp.{IsEquivalence}
use Rattle.std.specs.Hash as fed
use Rattle.std.proofs.Common.{ap, sym, subst}
use Rattle.std.proofs.lemmas.Bool.{and_parts, and_from}
use Rattle.std.proofs.lemmas.Slice.Eq.{bytes_eq-Decides}
use Rattle.tg_cid.specs.Cid.{CidParts}
use Rattle.tg_cid.specs.CodeLaws.{same_codec_is, same_codec_self}
use Rattle.tg_cid.specs.declared.cid.HashKind.{HashKind}
use Rattle.tg_cid.specs.declared.cid.HashKind.TheVariants.{Sha256, Identity}
use Rattle.tg_store.specs.declared.key.Key.{Key}
use Rattle.tg_store.specs.Keys.{has_key, is_under, key_of, same_key}

-- keys that pass the test are equal
pub same_key_is : (a b : Key) → same_key a b ≡ true → a ≡ b
same_key_is a b h =
    let parts = and_parts _ _ h in
    let c : a.codec ≡ b.codec = same_codec_is a.codec b.codec parts.0 in
    let d : a.digest ≡ b.digest = (bytes_eq-Decides a.digest b.digest).0 parts.1 in
    λ i. record { codec = c i; digest = d i }

-- a key passes the test with itself
pub same_key_self : (a : Key) → same_key a a ≡ true
same_key_self a = and_from _ _ (same_codec_self a.codec) ((bytes_eq-Decides a.digest a.digest).1 refl)

pub is_same_key : (a b : Key) → a ≡ b → same_key a b ≡ true
is_same_key a b e = subst (λ (k : Key). same_key a k ≡ true) e (same_key_self a)

-- two tests that mean the same
alike : (p q : Bool) → (p ≡ true → q ≡ true) → (q ≡ true → p ≡ true) → p ≡ q
alike true true f g = refl
alike true false f g = sym (f refl)
alike false true f g = g refl
alike false false f g = refl

pub same_key_equiv : IsEquivalence same_key
same_key_equiv = record {
  refl = same_key_self;
  symm = λ x y. alike (same_key x y) (same_key y x) (λ h. is_same_key y x (sym (same_key_is x y h))) (λ h. is_same_key x y (sym (same_key_is y x h)));
  congr = λ x y z h. ap (λ (k : Key). same_key k z) (same_key_is x y h);
}

-- a CID that has the key has sha2-256
pub under_is : (key : Key) (cid : CidParts) → is_under key cid ≡ true → (cid.hash ≡ Sha256) × (key ≡ key_of cid)
under_is key cid h = by cid.hash h
  where
    by : (hash : HashKind) → has_key hash (same_key key (key_of cid)) ≡ true → (hash ≡ Sha256) × (key ≡ key_of cid)
    by Sha256 h = (refl, same_key_is key (key_of cid) h)
    by Identity h = cc

-- and one with sha2-256 has the key that is its own
pub under_sha256 : (key : Key) (cid : CidParts) → cid.hash ≡ Sha256 → is_under key cid ≡ same_key key (key_of cid)
under_sha256 key cid sha = ap (λ (hash : HashKind). has_key hash (same_key key (key_of cid))) sha

-- but no other
pub not_under : (key : Key) (cid : CidParts) → same_key key (key_of cid) ≡ false → is_under key cid ≡ false
not_under key cid h = by cid.hash
  where
    by : (hash : HashKind) → has_key hash (same_key key (key_of cid)) ≡ false
    by Sha256 = h
    by Identity = refl

-- equal keys feed a hasher the same bytes
pub hashed_alike : (a b : Key) → IsTrue (same_key a b) → fed.slice fed.u8 a.digest ≡ fed.slice fed.u8 b.digest
hashed_alike a b h = ap (λ (k : Key). fed.slice fed.u8 k.digest) (same_key_is a b h)
