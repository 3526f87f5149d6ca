use Rattle.std.proofs.Common.{◌≡◌, ℕ, length, take, ap, ◌∙◌, subst, arith}
use Rattle.std.specs.Prelude.{All}
use Rattle.std.proofs.Math.Seq.{take-length}
use Rattle.std.proofs.lemmas.List.Elements.{All-more}
use Rattle.tg_hamt.specs.Order.{IsGoodEntry}
use Rattle.tg_store_rows.proofs.checked.are_good.Goals as goal

pub loop-entry-preserved : goal.loop-entry-preserved
loop-entry-preserved c =
    All-more IsGoodEntry c.args.entries.now c.loop-entry.entry-index c.entry-item.result (omega arith) c.loop-entry.invariant
    (subst IsGoodEntry c.entry-item.is (c.is_good.ensures c.if-not-is_good.false))

pub returns : goal.returns
returns c = λ yes.
    let end : c.loop-entry.entry-index ≡ length c.args.entries.now = omega arith in
    subst (All IsGoodEntry) (ap (λ (k : ℕ). take k c.args.entries.now) end ∙ take-length c.args.entries.now) c.loop-entry.invariant
