-- A CIDv0 has the multihash of sha2-256 alone, and other bytes are those of a CIDv1.
use Rattle.std.proofs.Common.{◌≡◌, ℕ, ◌<◌, ◌≤◌, List, ◌∷◌, All, length, ap, sym, ◌∙◌, subst, inl, inr, arith}
use Rattle.tg_cid.specs.Cid.{CidParts}
use Rattle.tg_cid.specs.Spelling.{IsDigestSize}
use Rattle.tg_cid.specs.declared.cid.HashKind.{HashKind}
use Rattle.tg_cid.specs.declared.cid.HashKind.TheVariants.{Sha256}
use Rattle.tg_cid.proofs.Written.{same_version}
use Rattle.tg_cid.proofs.cid.Cid.spelling.Goals as goal

pub returns-then-self-eq0-clause-spelled : goal.returns-then-self-eq0-clause-spelled
returns-then-self-eq0-clause-spelled c =
    let zero = c.self.invariant.5 c.if-self-eq0.true in
    let view = c.self.view_is in
    let digest = c.digest.ensures in
    let hash : c.args.self.now.hash ≡ Sha256 = ap (λ (p : CidParts). p.hash) (sym view) ∙ zero.1 in
    let size : length c.digest.result.now ≡ 32 = subst (λ (k : HashKind). IsDigestSize k (length c.digest.result.now)) hash digest.size in
    inl (record {
      version = ap (λ (p : CidParts). p.version) (sym view) ∙ c.if-self-eq0.true;
      codec = ap (λ (p : CidParts). p.codec) (sym view) ∙ zero.0;
      hash = hash;
      size = ap length (sym digest.digest) ∙ size;
      are_bytes = subst (λ (l : List ℕ). All (λ b. b < 256) l) digest.digest c.in_longest.ensures.are_bytes;
      whole = c.in_longest.ensures.front ∙ ap (λ (l : List ℕ). 0x12 ∷ 0x20 ∷ l) digest.digest;
    })

pub returns-clause-spelled : goal.returns-clause-spelled
returns-clause-spelled c =
    let one : c.self.inside.version ≡ 1 = let low : c.self.inside.version ≤ 1 = c.self.invariant.0 in omega arith in
    let version : c.args.self.now.version ≡ 1 = ap (λ (p : CidParts). p.version) (sym c.self.view_is) ∙ one in
    inr (same_version c.args.self.now _ version c.version_one_spelling.ensures.spelled)
