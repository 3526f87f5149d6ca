use Rattle.std.proofs.Common.{ap, length, refl, subst, sym}
use Rattle.tg_traversal.proofs.NextPlaces.{child_on_path, one_at_most, still_missed, still_wanted}
use Rattle.tg_traversal.specs.Left.{IsCome, LeftState}
use Rattle.tg_traversal.specs.declared.stack.Came.{Came}
use Rattle.tg_traversal.proofs.frames.Frames.next.Goals as goal

pub returns-then-is_some-clause-next : goal.returns-then-is_some-clause-next
returns-then-is_some-clause-next c =
    still_wanted c.args.self.now c.self.inside.query.path c.self.inside.wanted (ap (λ (state : LeftState). state.wanted) (sym c.self.view_is)) c.if-is_some.ensures

pub returns-in-Some-clause-next : goal.returns-in-Some-clause-next
returns-in-Some-clause-next c = (
  c.self.inside.stack,
  still_missed c.args.self.now c.self.inside.query.path c.self.inside.wanted c.self.inside.missed c.in-Some.miss c.self.inside.stack
      (ap (λ (state : LeftState). state.wanted) (sym c.self.view_is)) (ap (λ (state : LeftState). state.later) (sym c.self.view_is)) c.if-is_some.ensures c.in-Some.is,
  refl,
)

pub invariant_of-self-in-Link : goal.invariant_of-self-in-Link
invariant_of-self-in-Link c =
    let come = subst (λ (came : Came). IsCome c.self.inside.stack came c.next.new.self) c.in-Link.is (c.in_ok-next.ensures).come in (
      one_at_most c.in-Link.visited.into c.self.inside.missed c.in_default.is,
      child_on_path c.in-Link.visited.into (length c.self.inside.query.path) come.1.of_child,
    )
