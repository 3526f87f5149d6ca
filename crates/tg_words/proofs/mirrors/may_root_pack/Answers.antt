use Rattle.std.proofs.Common.{◌≡◌, length, eqb-true, rules, tests, sym, ap, subst, ◌∙◌}
use Rattle.std.specs.List.{list_any}
use Rattle.std.proofs.lemmas.Iterator.{YieldsList-from_slice}
use Rattle.std.proofs.lemmas.Iterator.Search.{any_from_yields_List}
use Rattle.tg_cid.specs.Spelling.{IsDigestSize}
use Rattle.tg_cid.specs.declared.cid.HashKind.TheVariants.{Sha256}
use Rattle.tg_words.proofs.MirrorAnswers.{may_by, not_zero}
use Rattle.tg_words.proofs.mirrors.may_root_pack.Goals as goal
use Rattle.tg_words.proofs.mirrors.may_root_pack.Goals.{then-version-eq1, else-version-eq1}

pub returns-else-ne : goal.returns-else-ne
returns-else-ne c =
    let any : c.any.result ≡ list_any not_zero c.digest.result.now =
    any_from_yields_List not_zero _ _ c.any.result c.any.ensures.ran (YieldsList-from_slice c.digest.result.now cc) (λ x b q k. search (rules, tests)) in
    elim c.if-version-eq1.branch [
      | then-version-eq1 w ↦
          let hash : c.args.root.now.hash ≡ Sha256 = search (rules, tests) in
          let size : length c.args.root.now.digest ≡ 32 =
          subst (λ h. IsDigestSize h (length c.args.root.now.digest)) hash (subst (λ d. IsDigestSize c.args.root.now.hash (length d)) c.digest.ensures.digest c.digest.ensures.size) in
          may_by c.args.root.now c.any.result (sym c.version.ensures ∙ w.if-version-eq1.true) hash size (search (rules, tests)) (any ∙ ap (list_any not_zero) c.digest.ensures.digest)
      | else-version-eq1 w ↦ absurd (w.if-version-eq1.false (eqb-true c.version.result 1 (sym w.value-is ∙ c.if-eq.true)))
    ]
