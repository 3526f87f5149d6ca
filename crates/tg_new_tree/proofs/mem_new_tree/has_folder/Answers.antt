use Rattle.std.proofs.Common.{◌≡◌, Contains, List, refl, subst, sym, true}
use Rattle.std.proofs.lemmas.List.{take_all}
use Rattle.tg_new_tree.proofs.MadeLists.{found_at, none_more}
use Rattle.tg_new_tree.specs.declared.made.Made.{Made}
use Rattle.tg_new_tree.specs.declared.made.Made.TheVariants.{Folder as a_folder}
use Rattle.tg_new_tree.proofs.mem_new_tree.has_folder.Goals as goal

pub returns-then-is_folder_at : goal.returns-then-is_folder_at
returns-then-is_folder_at c =
    let same : c.one-item.result ≡ a_folder c.args.path.now = c.is_folder_at.ensures.0 c.if-is_folder_at.true in
    (λ _. subst (Contains c.args.made.now) same (found_at c.args.made.now c.loop-one.one-index c.one-item.result c.loop-one-test.true c.one-item.is), λ _. refl)

pub loop-one-preserved : goal.loop-one-preserved
loop-one-preserved c =
    none_more c.args.made.now c.loop-one.one-index c.one-item.result (a_folder c.args.path.now) c.loop-one-test.true c.one-item.is c.loop-one.invariant
    (λ same. let is : c.is_folder_at.result ≡ true = c.is_folder_at.ensures.1 same in absurd (cc))

pub returns : goal.returns
returns c = (λ h. absurd (cc), λ found. absurd (c.loop-one.invariant (subst (λ (made : List Made). Contains made (a_folder c.args.path.now)) (sym (take_all c.loop-one.one-index c.args.made.now c.loop-one-test.false)) found)))
