use Rattle.std.proofs.Common.{ℕ, List, subst, arith}
use Rattle.std.proofs.lemmas.List.{take_all}
use Rattle.tg_unixfs.specs.Writing.{numbered, as_numbers}
use Rattle.tg_unixfs.proofs.Encoding.{PutsFields, size_put}
use Rattle.tg_unixfs.proofs.put_sizes.Goals as goal

pub loop-size-preserved : goal.loop-size-preserved
loop-size-preserved c = λ source.
    size_put c.table_laws.ensures source c.args.sizes.now c.loop-size.size-index _ _ _ _ (omega arith) (c.loop-size.invariant source) c.in_ok-put_number.ensures

pub returns : goal.returns
returns c = λ source.
    subst (λ (sizes : List ℕ). PutsFields source (numbered 4 (as_numbers sizes)) c.args.text.now.items c.loop-size.text.items)
    (take_all c.loop-size.size-index c.args.sizes.now c.loop-size-test.false) (c.loop-size.invariant source)
