use Rattle.std.proofs.Common.{◌≡◌, refl, subst, sym, Some}
use Rattle.tg_traversal.proofs.LinkSteps.{entry_visited, same_last, taken_last}
use Rattle.tg_traversal.specs.Frames.{AreEntriesVisited}
use Rattle.tg_traversal.specs.Places.{IsPlaceOf, directory_reach}
use Rattle.tg_model.specs.Traversal.{entry_visit}
use Rattle.tg_traversal.proofs.frame.EntriesLeft.next.Goals as goal

pub returns-clause-next : goal.returns-clause-next
returns-clause-next c =
    let popped : c.pop.result ≡ Some c.in-Some.entry.now = same_last c.args.self.now.entries.items c.deref.result.now c.args.self.now.entries.len c.in-Some.entry.now c.pop.result
    c.deref.ensures.value c.args.self.now.entries.ok.0 c.in-Some.ensures.item.3.0 c.in-Some.ensures.item.1 (c.pop.ensures.value c.in-Some.entry.now) in
    subst (λ met. AreEntriesVisited c.args.depth c.args.self.now (record { met = met; into = c.in_ok-into.into; directory = c.path_len-directory.result }) (record { entries = c.pop.new.self; path = c.args.self.now.path }))
    (sym popped)
    (entry_visited c.args.depth c.path_len-directory.result c.args.self.now (record { entries = c.pop.new.self; path = c.args.self.now.path }) c.in-Some.entry.now c.in_ok-into.into c.path_len-directory.ensures refl
    (taken_last c.args.self.now.entries.items c.pop.new.self.items c.pop.result c.in-Some.entry.now c.pop.ensures.items popped)
    (subst (λ name. IsPlaceOf c.args.depth c.in-Some.entry.now.cid (entry_visit (directory_reach c.args.self.now.path) name c.in-Some.entry.now.cid).into c.in_ok-into.into)
    c.as_slice.ensures (c.in_ok-into.ensures)))
