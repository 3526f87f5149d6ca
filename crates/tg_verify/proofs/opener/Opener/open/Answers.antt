use Rattle.std.proofs.Common.{List, Option, arith, subst, sym, ℕ, ◌++◌, ◌≡◌}
use Rattle.tg_model.specs.Dag.{Section}
use Rattle.tg_model.specs.declared.kinds.Kind.{Kind}
use Rattle.tg_traversal.specs.Left.{WantedAt}
use Rattle.tg_traversal.specs.PlaceTexts.{IsBlockHere}
use Rattle.tg_verify.specs.Steps.{IsOpenedHere, IsPassingHere}
use Rattle.tg_verify.proofs.OpenHere.{IsOneHere, may_open, may_tell, read_here}
use Rattle.tg_verify.specs.State.{OpenerState}
use Rattle.tg_verify.proofs.opener.Opener.open.Goals as goal

pub text-requires : goal.text-requires
text-requires c =
    may_tell _ c.args.found c.in-Some.found c.as_slice-2.result.now c.in-Some.is
    (subst (λ (b : List ℕ). IsOneHere (record { left = c.self.inside.frames; limits = c.self.inside.limits; lines = c.self.inside.lines; counts = c.self.inside.counts; terminal = c.self.inside.terminal }) c.args.found b) (sym c.as_slice-2.ensures)
    (subst (λ (v : OpenerState). IsOneHere v c.args.found c.args.block.now) (sym c.self.view_is) c.requires.here))

pub open-requires : goal.open-requires
open-requires c = record {
  here = may_open _ c.args.found c.in-Some.found c.args.block.now c.in-Some.is (omega (arith, c.number-deepest.ensures.number, c.number-deepest.ensures.most))
      (subst (λ (v : OpenerState). IsOneHere v c.args.found c.args.block.now) (sym c.self.view_is) c.requires.here);
}

pub returns-clause-opened : goal.returns-clause-opened
returns-clause-opened c =
    let i = c.self.inside in
    let old : OpenerState = record { left = i.frames; limits = i.limits; lines = i.lines; counts = i.counts; terminal = i.terminal } in
    let new : OpenerState = record { left = c.open.new.self; limits = i.limits; lines = i.lines; counts = i.counts; terminal = c.told_with-terminal.result } in
    let text = c.in_ok-text.text.line ++ c.in_ok-text.text.bytes.now in
    subst (λ (v : OpenerState). (at : WantedAt) (section : Section) (kind : Option Kind) → IsPassingHere v at section kind c.args.found → section.block ≡ c.args.block.now
    → IsOpenedHere v at section kind text new) c.self.view_is
    (read_here old new c.args.found c.in-Some.found c.args.block.now text c.in-Some.is
    (λ at section kind h. c.in_ok-text.ensures.text at section kind (subst (λ (b : List ℕ). IsBlockHere c.self.inside.frames at section kind c.in-Some.found b) (sym c.as_slice-2.ensures) h))
    c.in_ok-open.ensures.opened)
