use Rattle.std.proofs.Common.{◌≡◌, sym, ap, ◌∙◌, arith, Some, true≢false}
use Rattle.tg_model.specs.Stores.{as_v1}
use Rattle.tg_block_log.proofs.BlockLogs.{found_behind, found_here}
use Rattle.tg_block_log.proofs.block_log.first_block.Goals as goal

pub returns-then-eq : goal.returns-then-eq
returns-then-eq c =
    let forms : c.to_v1.result ≡ c.to_v1-form.result = (c.equality.ensures c.to_v1.result c.to_v1-form.result).0 (sym c.eq.ensures ∙ c.if-eq.true) in
    let same : as_v1 c.held-item.result.cid ≡ as_v1 c.args.cid.now = sym c.to_v1.ensures ∙ forms ∙ c.to_v1-form.ensures in
    let copy : c.in_ok-of.field-0 ≡ c.held-item.result.block = c.in_ok-of.ensures ∙ c.as_slice.ensures in
    ap (λ block. Some block) copy
    ∙ sym (c.loop-held.invariant.0 ∙ found_here c.args.blocks.now c.loop-held.held-index c.held-item.result c.args.cid.now c.held-item.is (omega arith) same)

pub loop-held-preserved : goal.loop-held-preserved
loop-held-preserved c =
    let other = λ (same : as_v1 c.held-item.result.cid ≡ as_v1 c.args.cid.now).
    true≢false (sym ((c.equality.ensures c.to_v1.result c.to_v1-form.result).1 (c.to_v1.ensures ∙ same ∙ sym c.to_v1-form.ensures)) ∙ sym c.eq.ensures ∙ c.if-eq.false) in (
      c.loop-held.invariant.0 ∙ found_behind c.args.blocks.now c.loop-held.held-index c.held-item.result c.args.cid.now c.held-item.is (omega arith) other,
      c.loop-held.invariant.1,
    )
