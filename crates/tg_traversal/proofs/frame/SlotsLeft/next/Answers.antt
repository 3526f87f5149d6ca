use Rattle.std.proofs.Common.{◌≡◌, ◌∙◌, ap, refl, subst, sym, None, Some}
use Rattle.tg_traversal.proofs.LinkSteps.{entry_at, same_last, slot_visited, taken_last}
use Rattle.tg_traversal.specs.Frames.{AreSlotsVisited, entry_in}
use Rattle.tg_traversal.specs.Places.{IsPlaceOf, directory_reach}
use Rattle.tg_model.specs.Sound.{child}
use Rattle.tg_model.specs.Traversal.{slot_visit}
use Rattle.tg_traversal.proofs.frame.SlotsLeft.next.Goals as goal
use Rattle.tg_traversal.proofs.frame.SlotsLeft.next.Goals.{in-Some-pop, in-None}

pub returns-clause-next : goal.returns-clause-next
returns-clause-next c =
    let popped : c.pop.result ≡ Some c.in-Some.slot.now = same_last c.args.self.now.slots.items c.deref.result.now c.args.self.now.slots.len c.in-Some.slot.now c.pop.result
    c.deref.ensures.value c.args.self.now.slots.ok.0 c.in-Some.ensures.item.3.0 c.in-Some.ensures.item.1 (c.pop.ensures.value c.in-Some.slot.now) in
    let met : c.match-pop.met ≡ entry_in c.in-Some.slot.now =
    elim c.match-pop.branch [
      | in-Some-pop w ↦ w.met-is ∙ w.entry_of-met.ensures ∙ ap entry_at (sym w.in-Some-pop.is ∙ popped)
      | in-None w ↦ let gone : None ≡ Some c.in-Some.slot.now = sym w.in-None.is ∙ popped in absurd (cc)
    ] in
    subst (λ met. AreSlotsVisited c.args.depth c.args.self.now (record { met = met; into = c.in_ok-into.into; directory = c.path_len-directory.result })
    (record { slots = c.pop.new.self; above = c.args.self.now.above; path = c.args.self.now.path }))
    (sym met)
    (slot_visited c.args.depth c.path_len-directory.result c.args.self.now (record { slots = c.pop.new.self; above = c.args.self.now.above; path = c.args.self.now.path }) c.in-Some.slot.now c.in_ok-into.into c.path_len-directory.ensures refl refl
    (taken_last c.args.self.now.slots.items c.pop.new.self.items c.pop.result c.in-Some.slot.now c.pop.ensures.items popped)
    (subst (λ above. IsPlaceOf c.args.depth c.in-Some.slot.now.cid (slot_visit (directory_reach c.args.self.now.path) (child above) c.in-Some.slot.now).into c.in_ok-into.into)
    c.as_slice.ensures (c.in_ok-into.ensures)))
