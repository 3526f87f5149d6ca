use Rattle.std.proofs.Common.{◌≡◌, true, sym, ◌∙◌, ap, arith}
use Rattle.std.specs.Prelude.{bytes_eq}
use Rattle.tg_model.proofs.StepsOver.{found_entry}
use Rattle.tg_model.proofs.steps.entry_step.Goals as goal

pub returns-then-eq : goal.returns-then-eq
returns-then-eq c =
    let same : bytes_eq c.args.name.now c.entry-item.result.name ≡ true = ap (bytes_eq c.args.name.now) (sym c.as_slice.ensures) ∙ sym c.eq.ensures ∙ c.if-eq.true in
    found_entry c.args.name.now c.args.entries.now c.loop-entry.entry-index c.entry-item.result c.entry-item.is (omega arith) c.loop-entry.invariant same
