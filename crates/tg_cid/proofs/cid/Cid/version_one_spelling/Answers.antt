-- The three codes are their own varints, and the length's is written.
use Rattle.std.proofs.Common.{ℕ, ◌<◌, ◌≤◌, List, ◌∷◌, ◌++◌, All, length, take, ap, ◌∙◌, subst, arith}
use Rattle.tg_varint.specs.Varint.{VarintSpelling}
use Rattle.tg_cid.specs.Cid.{CidParts}
use Rattle.tg_cid.specs.Spelling.{IsDigestSize, codec_code, hash_code}
use Rattle.tg_cid.proofs.Written.{one_written}
use Rattle.tg_cid.proofs.cid.Cid.version_one_spelling.Goals as goal

pub returns-clause-spelled : goal.returns-clause-spelled
returns-clause-spelled c =
    let digest = c.digest-digest.ensures in
    let spelling = take c.write-size.result.1 c.write-size.result.0 in
    one_written c.spelling_laws.ensures c.args.self.now spelling _
    (subst (λ (l : List ℕ). IsDigestSize c.args.self.now.hash (length l)) digest.digest digest.size)
    (subst (λ (l : List ℕ). All (λ b. b < 256) l) digest.digest c.in_longest.ensures.are_bytes)
    (subst (λ (l : List ℕ). VarintSpelling (length l) spelling) digest.digest c.write-size.ensures.spelling)
    (c.in_longest.ensures.front ∙ (λ i. 1 ∷ c.code_of_codec.ensures i ∷ c.code_of_hash.ensures i ∷ (spelling ++ digest.digest i))
    ∙ ap (λ (p : CidParts). 1 ∷ codec_code p.codec ∷ hash_code p.hash ∷ (spelling ++ c.args.self.now.digest)) c.self.view_is)

-- a length of at most 128 has at most two bytes
pub in_longest-requires : goal.in_longest-requires
in_longest-requires c =
    let spelling = take c.write-size.result.1 c.write-size.result.0 in
    let most = c.digest-digest.ensures.most in
    let two : length spelling ≤ 2 =
    c.spelling_laws.ensures.at_most (length c.digest-digest.result.now) 2 spelling (omega arith) (omega (arith, most)) c.write-size.ensures.spelling in
    omega (arith, most, two)
