use Rattle.std.proofs.Common.{ap, arith, rules, ◌∙◌}
use Rattle.std.proofs.lemmas.List.{take_all}
use Rattle.std.proofs.lemmas.List.Sorted.{IsNonDecreasingBy-from_sort_by_key}
use Rattle.std.specs.Prelude.{map}
use Rattle.tg_audit_texts.proofs.ExpectedTexts.{hash_of, hash_order, number_of, numbers_on}
use Rattle.tg_audit_texts.proofs.expected.by_hash.Goals as goal

pub loop-file-preserved : goal.loop-file-preserved
loop-file-preserved c =
    c.in_ok-push.ensures.items ∙ numbers_on c.as_slice-files.result.now c.loop-file.file-index _ c.loop-file.order.items (omega arith) c.loop-file.invariant

pub returns : goal.returns
returns c =
    let files = c.sort_unstable_by_key.new.self.items in
    hash_order c.args.numbers.now c.loop-file.order.items _ files c.in_ok-hashed.ensures c.sort_unstable_by_key.ensures.permutation
    (IsNonDecreasingBy-from_sort_by_key hash_of _ c.sort_unstable_by_key.ensures.sorted (λ a r q k. search rules))
    (c.loop-file.invariant ∙ ap (map number_of) (take_all c.loop-file.file-index c.as_slice-files.result.now (omega arith) ∙ c.as_slice-files.ensures.value))
