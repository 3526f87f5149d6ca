use Rattle.std.proofs.Common.{List, ap, arith, ℕ, ◌∙◌}
use Rattle.tg_audit_texts.proofs.ExpectedTexts.{names_more}
use Rattle.tg_audit_texts.proofs.expected.name_hashes.Goals as goal
use Rattle.tg_murmur.specs.NameHash.{name_hash}

pub loop-number-preserved : goal.loop-number-preserved
loop-number-preserved c =
    c.in_ok-push.ensures.items
    ∙ names_more c.args.numbers.now c.loop-number.number-index _ c.hash64.result c.loop-number.hashed.items (omega arith)
    (c.hash64.ensures ∙ ap (λ (t : List ℕ). name_hash t) (c.as_slice.ensures ∙ c.in_ok-name.ensures)) c.loop-number.invariant
