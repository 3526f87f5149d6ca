use Rattle.std.proofs.Common.{below_more, sym, ap, ◌∙◌}
use Rattle.tg_filedag.proofs.Steps.{height_at}
use Rattle.tg_filedag.proofs.linking.first_of_height.Goals as goal
use Rattle.tg_filedag.specs.declared.subtree.Subtree.{Subtree}

pub loop-i-preserved : goal.loop-i-preserved
loop-i-preserved c =
    let s = c.index-subtrees-i.result in
    below_more _ _ c.loop-i.invariant
    (λ e. c.if-subtree-height.false (ap (λ (x : Subtree). x.height) c.index-subtrees-i.is ∙ sym (height_at c.args.subtrees.now c.loop-i.i s c.loop-i-test.true) ∙ e))
