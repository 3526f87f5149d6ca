use Rattle.std.proofs.Common.{ap, arith, subst, sym}
use Rattle.std.specs.List.{sum_by}
use Rattle.std.specs.Prelude.{All, List}
use Rattle.std.proofs.lemmas.List.Sorted.{All-permutation, sum_by-IsPermutation}
use Rattle.tg_dir.proofs.Weighing.{all_plain}
use Rattle.tg_dir.proofs.basic.keep_basic.Goals as goal
use Rattle.tg_dir.specs.Weights.{weight_for, weight_in}
use Rattle.tg_model.specs.declared.kinds.NewEntry.{NewEntry}
use Rattle.tg_node_writing.specs.Nodes.{IsOfSha256}

pub keep_sorted-requires-clause-plain : goal.keep_sorted-requires-clause-plain
keep_sorted-requires-clause-plain g c =
    subst (All IsOfSha256) (sym c.as_slice.ensures.value)
    (All-permutation IsOfSha256 c.args.entries.now c.in_ok-sorted.sorted.items c.in_ok-sorted.ensures.permutation (all_plain c.args.entries.now c.requires.entries.each))

pub keep_sorted-requires-clause-light : goal.keep_sorted-requires-clause-light
keep_sorted-requires-clause-light g c =
    let same = ap weight_for c.as_slice.ensures.value in
    let sums = sum_by-IsPermutation weight_in c.args.entries.now c.in_ok-sorted.sorted.items c.in_ok-sorted.ensures.permutation in
    omega (arith, same, sums, c.requires.light)

pub keep_sorted-requires-clause-tsizes : goal.keep_sorted-requires-clause-tsizes
keep_sorted-requires-clause-tsizes g c =
    let same = ap (λ (l : List NewEntry). sum_by (λ (e : NewEntry). e.tsize) l) c.as_slice.ensures.value in
    let sums = sum_by-IsPermutation (λ (e : NewEntry). e.tsize) c.args.entries.now c.in_ok-sorted.sorted.items c.in_ok-sorted.ensures.permutation in
    omega (arith, same, sums, c.requires.entries.tsizes)
