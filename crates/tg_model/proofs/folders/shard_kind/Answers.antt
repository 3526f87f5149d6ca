use Rattle.std.proofs.Common.{◌≡◌, ℕ, Err, List, length, refl, inr, sym, ap, ◌∙◌, subst}
use Rattle.std.proofs.lemmas.Result.{err_from_is_err_and}
use Rattle.tg_model.proofs.PlacedAnswers.{shard_gives, shard_takes}
use Rattle.tg_model.specs.Computed.{Gives, slots_from}
use Rattle.tg_model.specs.PlacedSteps.{block_cids, block_links}
use Rattle.tg_model.specs.Reading.{used_slots}
use Rattle.tg_model.proofs.folders.shard_kind.Goals as goal

pub returns-in_err-used : goal.returns-in_err-used
returns-in_err-used c =
    let block = c.args.block.now in
    let p = err_from_is_err_and c.from_residual.result c.from_residual.ensures.1 in
    rw (p.1, p.2) (inr (refl, shard_takes (block_links block) (block_cids block) c.args.bits.now (sym c.in_default.is ∙ c.bad_suffix.ensures)))

pub returns-in_err-slots : goal.returns-in_err-slots
returns-in_err-slots c =
    let block = c.args.block.now in
    let bits = c.args.bits.now in
    let p = err_from_is_err_and c.from_residual-in_err-slots.result c.from_residual-in_err-slots.ensures.1 in
    let used : c.as_slice.result.now ≡ used_slots bits = c.as_slice.ensures.value ∙ c.in_ok-used.ensures in
    let slots = subst (λ (numbers : List ℕ). Gives (slots_from 0 numbers (block_links block) (block_cids block)) (Err c.in_err-slots.field-0.0)) used c.in_err-slots.ensures in
    let many : length (used_slots bits) ≡ length (block_links block) =
    ap (λ (numbers : List ℕ). length numbers) (sym used) ∙ c.as_slice.ensures.len ∙ sym c.len.ensures ∙ c.if-len-links.false ∙ c.requires.links in
    rw (p.1, p.2) (shard_gives block (block_links block) (block_cids block) bits c.in_err-slots.field-0.0 (sym c.in_default.is ∙ c.bad_suffix.ensures) c.if-bits-gt32.false many slots)
