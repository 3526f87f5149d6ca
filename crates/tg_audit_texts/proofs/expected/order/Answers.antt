use Rattle.std.proofs.Common.{ap, arith, length, ◌∙◌, ◌≡◌}
use Rattle.std.proofs.lemmas.List.{take_all}
use Rattle.std.proofs.lemmas.Result.{IfOk-weaker}
use Rattle.tg_audit_texts.proofs.NextFiles.{numbers_fit, numbers_more, order_fits}
use Rattle.tg_audit_texts.proofs.expected.order.Goals as goal
use Rattle.tg_audit_texts.specs.Expected.{numbers_from}

pub loop-number-preserved : goal.loop-number-preserved
loop-number-preserved c =
    c.in_ok-push.ensures.items ∙ numbers_more c.args.many.now c.loop-number.number c.loop-number.order.items (omega arith) c.loop-number.invariant

pub by_hash-requires : goal.by_hash-requires
by_hash-requires c =
    let many = c.args.many.now in
    numbers_fit many c.as_slice.result.now 1000000 c.requires
    (c.as_slice.ensures.value ∙ c.loop-number.invariant ∙ ap (numbers_from 0) (take_all c.loop-number.number many (omega arith)))

pub returns-then-many-gt-SHARD_WEIGHT-clause-there : goal.returns-then-many-gt-SHARD_WEIGHT-clause-there
returns-then-many-gt-SHARD_WEIGHT-clause-there c =
    let many = c.args.many.now in
    let numbers = c.as_slice.result.now in
    let same : numbers ≡ numbers_from 0 many =
    c.as_slice.ensures.value ∙ c.loop-number.invariant ∙ ap (numbers_from 0) (take_all c.loop-number.number many (omega arith)) in
    IfOk-weaker c.by_hash.result _ _ (λ order is. order_fits many numbers order.items same is) c.by_hash.ensures

pub returns-clause-there : goal.returns-clause-there
returns-clause-there c =
    let many = c.args.many.now in
    numbers_fit many c.loop-number.order.items (length many) (omega arith)
    (c.loop-number.invariant ∙ ap (numbers_from 0) (take_all c.loop-number.number many (omega arith)))
