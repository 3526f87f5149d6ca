use Rattle.std.proofs.Common.{◌≡◌, ◌<◌, ℕ, ◌∙◌, sym, ap, subst, arith, ⊎_elim, get_or}
use Rattle.std.proofs.lemmas.List.{get_or_default}
use Rattle.std.proofs.Math.Nat.{eq-or-lt_of_le}
use Rattle.tg_hamt.proofs.order.run_end.Goals as goal
use Rattle.tg_hamt.specs.Order.{slot_in}
use Rattle.tg_hamt.specs.declared.order.Hashed.{Hashed}

pub loop-end-preserved : goal.loop-end-preserved
loop-end-preserved c = λ k d from below.
    let order = c.args.order.now in
    ⊎_elim
    (λ (same : k ≡ c.loop-end.end).
    subst (λ (i : ℕ). slot_in (get_or order i d) c.args.level ≡ slot_in (get_or order c.args.start d) c.args.level) (sym same)
    (ap (λ (x : Hashed). slot_in x c.args.level) (get_or_default order c.loop-end.end d _ (omega arith))
    ∙ sym c.slot.ensures ∙ c.if-slot-first.false ∙ c.slot-first.ensures
    ∙ ap (λ (x : Hashed). slot_in x c.args.level) (get_or_default order c.args.start _ d (omega arith))))
    (λ (less : k < c.loop-end.end). c.loop-end.invariant k d from less)
    (eq-or-lt_of_le {n = k} {m = c.loop-end.end} (omega arith))
