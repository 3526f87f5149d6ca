use Rattle.std.proofs.Common.{ap, ◌∙◌, arith}
use Rattle.std.specs.Prelude.{ℕ, List}
use Rattle.tg_hamt.proofs.Hashes.{hashed_more}
use Rattle.tg_hamt.proofs.order.name_hashes.Goals as goal
use Rattle.tg_murmur.specs.NameHash.{name_hash}

pub loop-index-preserved : goal.loop-index-preserved
loop-index-preserved c =
    c.in_ok-push.ensures.items
    ∙ hashed_more c.args.entries.now c.loop-index.index c.loop-index.items.items c.index-entries-index.result c.hash64.result (omega arith) c.index-entries-index.is
    (c.hash64.ensures ∙ ap (λ (t : List ℕ). name_hash t) c.as_slice.ensures) c.loop-index.invariant
