-- Each exit follows the numbers that were read before it.
use Rattle.std.proofs.Common.{◌≡◌, ℕ, List, Err, ap, ◌∙◌, subst, inl, inr}
use Rattle.std.proofs.lemmas.Result.{err_from_is_err_and}
use Rattle.tg_cid.specs.Reading.{Answer, NumberAt, DigestThen, SizeThen, HashThen, ReadsAsOne}
use Rattle.tg_cid.specs.Spelling.{IsDigestSize, codec_code, hash_code}
use Rattle.tg_cid.specs.declared.cid.Codec.{Codec}
use Rattle.tg_cid.specs.declared.cid.HashKind.{HashKind}
use Rattle.tg_cid.proofs.cid.version_one.Goals as goal

-- behind a good version and codec, and behind a good hash too
behind_codec : {bytes : List ℕ} {version at code next : ℕ} {r : Answer} (codec : Codec) → NumberAt bytes 0 version at → version ≡ 1
    → NumberAt bytes at code next → code ≡ codec_code codec → HashThen codec bytes next r → ReadsAsOne bytes r
behind_codec {bytes} {version} {at} {code} {next} codec v one k is h = inr (version, at, v, inr (one, inr (code, next, k, inr (codec, is, h))))

behind_hash : {bytes : List ℕ} {at code next : ℕ} {r : Answer} (codec : Codec) (hash : HashKind) → NumberAt bytes at code next
    → code ≡ hash_code hash → SizeThen codec hash bytes next r → HashThen codec bytes at r
behind_hash {bytes} {at} {code} {next} codec hash k is h = inr (code, next, k, inr (hash, is, h))

pub returns-in_err-codec : goal.returns-in_err-codec
returns-in_err-codec c =
    let v = c.in_ok-version in
    let k = c.in_ok-code in
    let p = err_from_is_err_and c.from_residual-in_err-codec.result c.from_residual-in_err-codec.ensures.1 in
    let refused = inl (c.in_err-codec.ensures.1, p.1 ∙ ap Err (p.2 ∙ c.in_err-codec.ensures.0)) in
    inr (v.version, v.at, v.ensures, inr (c.if-version-ne1.false, inr (k.code, k.at, k.ensures, refused)))

pub returns-in_err-code-2 : goal.returns-in_err-code-2
returns-in_err-code-2 c =
    let p = err_from_is_err_and c.from_residual-in_err-code-2.result c.from_residual-in_err-code-2.ensures.1 in
    behind_codec c.in_ok-codec.codec c.in_ok-version.ensures c.if-version-ne1.false c.in_ok-code.ensures c.in_ok-codec.ensures
    (inl (c.in_err-code-2.field-0.0, p.1 ∙ ap Err p.2, c.in_err-code-2.ensures))

pub returns-in_err-hash : goal.returns-in_err-hash
returns-in_err-hash c =
    let p = err_from_is_err_and c.from_residual-in_err-hash.result c.from_residual-in_err-hash.ensures.1 in
    let k = c.in_ok-code-2 in
    behind_codec c.in_ok-codec.codec c.in_ok-version.ensures c.if-version-ne1.false c.in_ok-code.ensures c.in_ok-codec.ensures
    (inr (k.code, k.at, k.ensures, inl (c.in_err-hash.ensures.1, p.1 ∙ ap Err (p.2 ∙ c.in_err-hash.ensures.0))))

pub returns-in_err-length : goal.returns-in_err-length
returns-in_err-length c =
    let p = err_from_is_err_and c.from_residual-in_err-length.result c.from_residual-in_err-length.ensures.1 in
    behind_codec c.in_ok-codec.codec c.in_ok-version.ensures c.if-version-ne1.false c.in_ok-code.ensures c.in_ok-codec.ensures
    (behind_hash c.in_ok-codec.codec c.in_ok-hash.hash c.in_ok-code-2.ensures c.in_ok-hash.ensures
    (inl (c.in_err-length.field-0.0, p.1 ∙ ap Err p.2, c.in_err-length.ensures)))

pub returns-in_err-size : goal.returns-in_err-size
returns-in_err-size c =
    let p = err_from_is_err_and c.from_residual-in_err-size.result c.from_residual-in_err-size.ensures.1 in
    let l = c.in_ok-length in
    behind_codec c.in_ok-codec.codec c.in_ok-version.ensures c.if-version-ne1.false c.in_ok-code.ensures c.in_ok-codec.ensures
    (behind_hash c.in_ok-codec.codec c.in_ok-hash.hash c.in_ok-code-2.ensures c.in_ok-hash.ensures
    (inr (l.length, l.at, l.ensures, inl (c.in_err-size.ensures.1, p.1 ∙ ap Err (p.2 ∙ c.in_err-size.ensures.0)))))

pub returns : goal.returns
returns c =
    let l = c.in_ok-length in
    let codec = c.in_ok-codec.codec in
    let hash = c.in_ok-hash.hash in
    let same : c.in_ok-size.size ≡ l.length = c.in_ok-size.ensures.0 in
    behind_codec codec c.in_ok-version.ensures c.if-version-ne1.false c.in_ok-code.ensures c.in_ok-codec.ensures
    (behind_hash codec hash c.in_ok-code-2.ensures c.in_ok-hash.ensures
    (inr (
      l.length,
      l.at,
      l.ensures,
      inr (
        subst (λ (n : ℕ). IsDigestSize hash n) same c.in_ok-size.ensures.1,
        subst (λ (n : ℕ). DigestThen 1 codec hash n c.args.bytes.now l.at c.with_digest.result) same c.with_digest.ensures,
      ),
    )))
