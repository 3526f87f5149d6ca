use Rattle.std.proofs.Common.{ap, rules}
use Rattle.std.proofs.lemmas.Bool.{and_parts, and_from, eqb-true, eq-eqb}
use Rattle.std.proofs.lemmas.Slice.Eq.{bytes_eq-Decides}
use denote.Enum.Bare.{same_true, true_same}
use Rattle.tg_cid.specs.Cid.{CidParts}
use Rattle.tg_cid.specs.contracts.cid.Codec as codecs
use Rattle.tg_cid.specs.contracts.cid.HashKind as hashes
use Rattle.tg_cid.proofs.Causes.{equal_parts}
use Rattle.tg_cid.proofs.laws.equality.Goals as goal

pub returns : goal.returns
returns c = λ a b. (
  λ h.
      let versions = and_parts _ _ h in
      let codecs_are = and_parts _ _ versions.1 in
      let hashes_are = and_parts _ _ codecs_are.1 in
      equal_parts a b (eqb-true _ _ versions.0) (same_true codecs.the_type (search rules) _ _ codecs_are.0) (same_true hashes.the_type (search rules) _ _ hashes_are.0)
      ((bytes_eq-Decides _ _).0 hashes_are.1),
  λ e.
      and_from _ _ (eq-eqb _ _ (ap (λ (p : CidParts). p.version) e))
      (and_from _ _ (true_same codecs.the_type _ _ (ap (λ (p : CidParts). p.codec) e))
      (and_from _ _ (true_same hashes.the_type _ _ (ap (λ (p : CidParts). p.hash) e))
      ((bytes_eq-Decides _ _).1 (ap (λ (p : CidParts). p.digest) e)))),
)
