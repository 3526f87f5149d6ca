use Rattle.std.proofs.Common.{rules}
use Rattle.std.proofs.Common.{length, ◌<◌}
use Rattle.std.proofs.Common.{refl, subst, sym}
use Rattle.tg_traversal.specs.Left.{IsNext}
use Rattle.tg_traversal.specs.declared.frames.Next.{Next}
use Rattle.tg_verify.specs.State.{OpenerState}
use Rattle.tg_verify.specs.Steps.{IsNearer, left_of}
use Rattle.tg_verify.proofs.Gathered.{entry_came, line_came}
use Rattle.tg_verify.proofs.opener.Opener.advance.Goals.{in-Line+in_ok-push_all-in-Line, in-Entry+in_ok-meet-in-Entry}
use Rattle.tg_verify.proofs.opener.Opener.advance.Goals as goal

pub returns-clause-step : goal.returns-clause-step
returns-clause-step c = elim c.match-branch-2.branch [
  | in-Line+in_ok-push_all-in-Line w ↦
      let came = subst (λ (next : Next). IsNext c.self.inside.frames next c.next.new.self) w.in-Line.is c.in_ok-next.ensures.next in
      let new : OpenerState = record { left = c.next.new.self; limits = c.self.inside.limits; lines = c.self.inside.lines; counts = c.self.inside.counts; terminal = c.self.inside.terminal } in
      rw (w.self-is, w.ends-is)
      (subst (λ (old : OpenerState). IsNearer old c.args.ends.now new w.push_all.new.self × (length (left_of new) < length (left_of old))) c.self.view_is
      (line_came (record { left = c.self.inside.frames; limits = c.self.inside.limits; lines = c.self.inside.lines; counts = c.self.inside.counts; terminal = c.self.inside.terminal }) new
      c.args.ends.now w.push_all.new.self came w.in_ok-push_all-in-Line.ensures.ok refl refl (search rules)))
  | in-Entry+in_ok-meet-in-Entry w ↦
      let came = subst (λ (next : Next). IsNext c.self.inside.frames next c.next.new.self) w.in-Entry.is c.in_ok-next.ensures.next in
      rw (w.self-is, w.ends-is)
      (subst (λ (old : OpenerState). IsNearer old c.args.ends.now w.meet.new.self c.args.ends.now × (length (left_of w.meet.new.self) < length (left_of old))) c.self.view_is
      (entry_came (record { left = c.self.inside.frames; limits = c.self.inside.limits; lines = c.self.inside.lines; counts = c.self.inside.counts; terminal = c.self.inside.terminal })
      (record { left = c.next.new.self; limits = c.self.inside.limits; lines = c.self.inside.lines; counts = c.self.inside.counts; terminal = c.self.inside.terminal }) w.meet.new.self
      c.args.ends.now came.0 w.in-Entry.entry came.2 refl refl c.in_ok-next.ensures.query
      (w.in_ok-meet-in-Entry.ensures.met came.0 (sym came.1))))
]
