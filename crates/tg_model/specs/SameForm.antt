-- Whether two CIDs have one version 1 form, and what holds of those that do.
use Rattle.std.proofs.Common.{◌≡◌, ◌≢◌, ◌⊎◌, Bool, true, false, List, ℕ, inl, inr, refl, sym, ap, ◌∙◌, subst}
use Rattle.std.proofs.Common.{true≢false}
use Rattle.std.specs.Prelude.{◌&&◌, bytes_eq}
use Rattle.std.proofs.lemmas.Bool.{and_from, and_parts}
use Rattle.std.proofs.lemmas.Slice.Eq.{bytes_eq-Decides}
use Rattle.tg_cid.specs.Cid.{CidParts}
use Rattle.tg_cid.specs.CodeLaws.{same_codec, same_codec_is, same_codec_self, same_hash, same_hash_is, same_hash_self}
use Rattle.tg_cid.specs.Names.{Names}
use Rattle.tg_model.specs.Stores.{as_v1}

-- the CIDs have one version 1 form
abbrev pub same_v1 : CidParts → CidParts → Bool
same_v1 a b = same_codec a.codec b.codec && (same_hash a.hash b.hash && bytes_eq a.digest b.digest)

-- CIDs that pass the test have one version 1 form
pub same_v1_is : (a b : CidParts) → same_v1 a b ≡ true → as_v1 a ≡ as_v1 b
same_v1_is a b h =
    let codecs = and_parts _ _ h in
    let rest = and_parts _ _ codecs.1 in
    let c : a.codec ≡ b.codec = same_codec_is a.codec b.codec codecs.0 in
    let k : a.hash ≡ b.hash = same_hash_is a.hash b.hash rest.0 in
    let d : a.digest ≡ b.digest = (bytes_eq-Decides a.digest b.digest).0 rest.1 in
    λ i. record { version = 1; codec = c i; hash = k i; digest = d i }

-- a CID passes the test with itself
same_v1_self : (a : CidParts) → same_v1 a a ≡ true
same_v1_self a = and_from _ _ (same_codec_self a.codec) (and_from _ _ (same_hash_self a.hash) ((bytes_eq-Decides a.digest a.digest).1 refl))

-- CIDs of one version 1 form pass the test with the same
pub same_v1_alike : (a b c : CidParts) → as_v1 a ≡ as_v1 b → same_v1 a c ≡ same_v1 b c
same_v1_alike a b c e = ap (λ (cid : CidParts). same_v1 cid c) e

-- CIDs with one version 1 form pass the test
pub is_same_v1 : (a b : CidParts) → as_v1 a ≡ as_v1 b → same_v1 a b ≡ true
is_same_v1 a b e = same_v1_alike a b b e ∙ same_v1_self b

-- they have it or not
pub v1_or_not : (a b : CidParts) → (as_v1 a ≡ as_v1 b) ⊎ (as_v1 a ≢ as_v1 b)
v1_or_not a b = by_test (same_v1 a b) refl
  where
    by_test : (test : Bool) → same_v1 a b ≡ test → (as_v1 a ≡ as_v1 b) ⊎ (as_v1 a ≢ as_v1 b)
    by_test true e = inl (same_v1_is a b e)
    by_test false e = inr (λ same. true≢false (sym (is_same_v1 a b same) ∙ e))

-- a CID names what another of its form names
pub named_too : (a b : CidParts) (block : List ℕ) → as_v1 a ≡ as_v1 b → Names b block → Names a block
named_too a b block e n = subst (λ (cid : CidParts). Names cid block) (sym e) n
