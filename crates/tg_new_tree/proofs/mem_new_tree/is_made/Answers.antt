use Rattle.std.proofs.Common.{◌≡◌, ◌∙◌, Contains, List, refl, subst, sym, true}
use Rattle.std.proofs.lemmas.List.{take_all}
use Rattle.std.proofs.lemmas.Slice.Eq.{bytes_eq-Decides, slice_eq-Decides}
use Rattle.tg_new_tree.proofs.MadeLists.{made_at, none_made_more}
use Rattle.tg_new_tree.specs.NewTrees.{paths_made}
use Rattle.tg_new_tree.specs.declared.made.Made.{Made}
use Rattle.tg_new_tree.proofs.mem_new_tree.is_made.Goals as goal

pub returns-then-eq : goal.returns-then-eq
returns-then-eq c =
    let same : c.path.result.now ≡ c.args.path.now = (slice_eq-Decides bytes_eq-Decides _ _ _ c.eq.ensures).0 c.if-eq.true in
    (λ _. made_at c.args.made.now c.loop-one.one-index c.one-item.result c.args.path.now c.loop-one-test.true c.one-item.is (sym c.path.ensures ∙ same), λ _. refl)

pub loop-one-preserved : goal.loop-one-preserved
loop-one-preserved c =
    none_made_more c.args.made.now c.loop-one.one-index c.one-item.result c.args.path.now c.loop-one-test.true c.one-item.is c.loop-one.invariant
    (λ same. let equal : c.eq.result ≡ true = (slice_eq-Decides bytes_eq-Decides _ _ _ c.eq.ensures).1 (c.path.ensures ∙ same) in absurd (cc))

pub returns : goal.returns
returns c = (λ h. absurd (cc), λ found. absurd (c.loop-one.invariant (subst (λ (made : List Made). Contains (paths_made made) c.args.path.now) (sym (take_all c.loop-one.one-index c.args.made.now c.loop-one-test.false)) found)))
