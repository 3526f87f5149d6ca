use Rattle.std.proofs.lemmas.List.{length-take-le}
use Rattle.std.proofs.Common.{ap, drop, length, refl, subst, sym, take, None, ◌+◌, ◌++◌, ◌∙◌, ◌≡◌, ◌-◌}
use Rattle.tg_extract.proofs.Counting.{bytes_counted}
use Rattle.tg_extract.proofs.Stages.{added_extracts, added_stage, end_extracts, end_stage, line_extracts, line_stage, nothing_stopped, take_end}
use Rattle.tg_extract.proofs.extract.Extract.read.Goals as goal
use Rattle.tg_extract.specs.Extracts.{ExtractState, Extracts, HasMadeText}
use Rattle.tg_extract.specs.declared.extract.Stage.TheVariants as stages

pub returns-in_ok-self-inside-in-Some-clause-read : goal.returns-in_ok-self-inside-in-Some-clause-read
returns-in_ok-self-inside-in-Some-clause-read g c =
    let m = g.T.NewTree.new_tree in
    let unread = drop c.self.inside.left_at c.self.inside.left in
    let old : ExtractState g.row.T.Denot =
    record { tree = c.self.inside.tree; stage = c.self.inside.stage; unread = unread; refused = c.self.inside.refused; faults = c.self.inside.failed } in
    let new : ExtractState g.row.T.Denot =
    record { tree = c.end_line.new.tree; stage = c.in_ok-self-inside-in-Some.field-0; unread = unread; refused = c.self.inside.refused; faults = c.self.inside.failed } in
    let going : c.self.inside.refused ≡ None = ap (λ (s : ExtractState g.row.T.Denot). s.refused) c.self.view_is ∙ c.requires.refused in
    subst (λ (s : ExtractState g.row.T.Denot). Extracts m s new (take (length c.in-Some.front.now + 1) c.args.bytes.now)) c.self.view_is
    (line_extracts m old new c.as_slice.result.now c.args.bytes.now c.in-Some.front.now
    (record { none = c.self.invariant.1 going; still = refl; still_going = refl; going = going; calm = refl }) c.self.invariant.0
    (c.in-Line.is ∙ ap stages.Line (sym c.as_slice.ensures)) c.in-Some.ensures
    (subst (λ text. HasMadeText text (m.made c.self.inside.tree) (m.made c.end_line.new.tree) c.in_ok-self-inside-in-Some.field-0)
    {y = c.as_slice.result.now ++ c.in-Some.front.now} c.in_ok-ended-in-Some.ensures
    c.in_ok-self-inside-in-Some.ensures.made)
    c.end_line.ensures.place c.in_ok-self-inside-in-Some.ensures.quiet)

pub returns-in-Some-eq10-clause-read : goal.returns-in-Some-eq10-clause-read
returns-in-Some-eq10-clause-read g c =
    let m = g.T.NewTree.new_tree in
    let unread = drop c.self.inside.left_at c.self.inside.left in
    let old : ExtractState g.row.T.Denot =
    record { tree = c.self.inside.tree; stage = c.self.inside.stage; unread = unread; refused = c.self.inside.refused; faults = c.self.inside.failed } in
    let new : ExtractState g.row.T.Denot =
    record { tree = c.self.inside.tree; stage = stages.Line c.new.result; unread = unread; refused = c.self.inside.refused; faults = c.self.inside.failed } in
    let going : c.self.inside.refused ≡ None = ap (λ (s : ExtractState g.row.T.Denot). s.refused) c.self.view_is ∙ c.requires.refused in
    let first = c.in-Some-eq10.ensures.item in
    let is : c.self.inside.stage ≡ stages.Content 0 = c.in-Content-eq0.is ∙ ap stages.Content c.in-Content-eq0.field-0-test in
    subst (λ (s : ExtractState g.row.T.Denot). Extracts m s new (take 1 c.args.bytes.now)) c.self.view_is
    (end_extracts m old new (take 1 c.args.bytes.now) (record { none = c.self.invariant.1 going; still = refl; still_going = refl; going = going; calm = refl })
    c.self.invariant.0 is refl (ap stages.Line c.new.ensures)
    (take_end c.args.bytes.now c.in-Some-eq10.field-0.now first.3.0 first.1 c.in-Some-eq10.field-0-test))

pub returns-in_ok-n-in-Content-clause-read : goal.returns-in_ok-n-in-Content-clause-read
returns-in_ok-n-in-Content-clause-read g c =
    let m = g.T.NewTree.new_tree in
    let unread = drop c.self.inside.left_at c.self.inside.left in
    let left = c.in-Content.left in
    let n = c.in_ok-n-in-Content.n in
    let bytes = take n c.args.bytes.now in
    let old : ExtractState g.row.T.Denot =
    record { tree = c.self.inside.tree; stage = c.self.inside.stage; unread = unread; refused = c.self.inside.refused; faults = c.self.inside.failed } in
    let new : ExtractState g.row.T.Denot =
    record { tree = c.add_most.new.tree; stage = stages.Content (left - n); unread = unread; refused = c.self.inside.refused; faults = c.self.inside.failed } in
    let going : c.self.inside.refused ≡ None = ap (λ (s : ExtractState g.row.T.Denot). s.refused) c.self.view_is ∙ c.requires.refused in
    subst (λ (s : ExtractState g.row.T.Denot). Extracts m s new bytes) c.self.view_is
    (added_extracts m old new bytes left n (record { none = c.self.invariant.1 going; still = refl; still_going = refl; going = going; calm = refl }) c.self.invariant.0
    c.in-Content.is c.in_ok-n-in-Content.ensures.added
    (length-take-le n c.args.bytes.now c.in_ok-n-in-Content.ensures.within.0) c.in_ok-n-in-Content.ensures.within.1 refl c.in_ok-n-in-Content.ensures.quiet)

pub invariant_of-self-in-Some : goal.invariant_of-self-in-Some
invariant_of-self-in-Some g c =
    let m = g.T.NewTree.new_tree in
    let going : c.self.inside.refused ≡ None = ap (λ (s : ExtractState g.row.T.Denot). s.refused) c.self.view_is ∙ c.requires.refused in (
      line_stage m c.self.inside.tree c.end_line.new.tree c.self.inside.stage c.in_ok-self-inside-in-Some.field-0 c.as_slice.result.now c.args.bytes.now
          c.in-Some.front.now c.self.invariant.0 (c.in-Line.is ∙ ap stages.Line (sym c.as_slice.ensures)) c.in-Some.ensures
          (subst (λ text. HasMadeText text (m.made c.self.inside.tree) (m.made c.end_line.new.tree) c.in_ok-self-inside-in-Some.field-0)
          {y = c.as_slice.result.now ++ c.in-Some.front.now} c.in_ok-ended-in-Some.ensures
          c.in_ok-self-inside-in-Some.ensures.made),
      c.self.invariant.1,
      nothing_stopped c.self.inside.refused c.in_ok-self-inside-in-Some.field-0 going,
      c.end_line.ensures.counts,
    )

pub invariant_of-self-in-Some-eq10 : goal.invariant_of-self-in-Some-eq10
invariant_of-self-in-Some-eq10 g c =
    let m = g.T.NewTree.new_tree in
    let is : c.self.inside.stage ≡ stages.Content 0 = c.in-Content-eq0.is ∙ ap stages.Content c.in-Content-eq0.field-0-test in
    let going : c.self.inside.refused ≡ None = ap (λ (s : ExtractState g.row.T.Denot). s.refused) c.self.view_is ∙ c.requires.refused in (
      rw c.new.ensures (end_stage m c.self.inside.tree c.self.inside.stage c.self.invariant.0 is),
      c.self.invariant.1,
      nothing_stopped c.self.inside.refused (stages.Line c.new.result) going,
      c.self.invariant.3,
    )

pub invariant_of-self-in_default-self-held : goal.invariant_of-self-in_default-self-held
invariant_of-self-in_default-self-held g c =
    let m = g.T.NewTree.new_tree in
    let left = c.in-Content.left in
    let n = c.in_ok-n-in-Content.n in
    let size = length-take-le n c.args.bytes.now c.in_ok-n-in-Content.ensures.within.0 in
    let added = c.in_ok-n-in-Content.ensures.added in
    let going : c.self.inside.refused ≡ None = ap (λ (s : ExtractState g.row.T.Denot). s.refused) c.self.view_is ∙ c.requires.refused in (
      added_stage m c.self.inside.tree c.add_most.new.tree c.self.inside.stage (take n c.args.bytes.now) left n c.self.invariant.0 c.in-Content.is added size
          c.in_ok-n-in-Content.ensures.within.1,
      c.self.invariant.1,
      nothing_stopped c.self.inside.refused (stages.Content (left - n)) going,
      c.add-in-Content.ensures ∙ bytes_counted added.before (m.made c.self.inside.tree) (m.made c.add_most.new.tree) added.path added.held (take n c.args.bytes.now) n
          c.self.inside.counts added.old added.new size c.self.invariant.3,
    )
