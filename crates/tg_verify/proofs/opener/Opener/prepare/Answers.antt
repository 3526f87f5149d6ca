use Rattle.std.proofs.Common.{List, Ok, [], ap, refl, subst, sym, ℕ, ◌+◌, ◌++◌, ◌∙◌, ◌≡◌}
use Rattle.tg_model.specs.LimitNumbers.{AreWithin, number_of, standard}
use Rattle.tg_traversal.specs.Left.{LeftState, tasks_left}
use Rattle.tg_verify.proofs.Checks.{wanted_cid}
use Rattle.tg_verify.proofs.Placed.{IsBlockCounted, IsBlockOpened, fewer_then, passed}
use Rattle.tg_verify.specs.Counting.{IsFirstPassed, bytes_added, numbers_of}
use Rattle.tg_verify.specs.State.{OpenerState, told}
use Rattle.tg_verify.specs.Steps.{HasOpenCause, IsCheckedAt, IsGathered, IsPassingHere, section_with}
use Rattle.tg_verify.specs.declared.fault.Refusal.{Refusal}
use Rattle.tg_verify.specs.declared.fault.Refusal.TheVariants as refusals
use Rattle.tg_verify.proofs.opener.Opener.prepare.Goals as goal

pub returns-in-None-clause-fewer : goal.returns-in-None-clause-fewer
returns-in-None-clause-fewer c =
    fewer_then c.args.self.now.left c.open.new.self.left c.count.new.self.left c.in_ok-text.ensures.fewer
    (ap (λ (l : LeftState). tasks_left l) c.count.ensures.left ∙ c.in_ok-gather.ensures.gathered.left)

pub returns-clause-placed : goal.returns-clause-placed
returns-clause-placed c at wanted =
    let section = section_with c.args.cid.now c.args.block.now in
    let checked = subst (λ (b : List ℕ). IsCheckedAt c.args.self.now.left.query c.args.self.now.limits at (section_with c.args.cid.now b) (Ok c.in_ok-found.found)) c.as_slice.ensures
    (c.in_ok-found.ensures.checked at wanted) in
    let here : IsPassingHere c.args.self.now at section checked.0 c.in_ok-found.found = record {
      wanted = wanted;
      same = wanted_cid c.args.self.now.left.wanted c.args.cid.now at c.requires.here wanted;
      passing = checked.1;
    } in
    let line = c.in_ok-text.text.line in
    let bytes = c.in_ok-text.text.bytes.now in
    let opened : IsBlockOpened c.args.self.now at section checked.0 (line ++ bytes) c.open.new.self = record {
      same = c.in_ok-text.ensures.same;
      lines = c.in_ok-text.ensures.lines;
      counts = c.in_ok-text.ensures.counts;
      opened = c.in_ok-text.ensures.opened at section checked.0 here refl;
    } in
    let gathered : IsGathered c.open.new.self [] c.gather.new.self c.gather.new.ends =
    subst (λ (b : List ℕ). IsGathered c.open.new.self b c.gather.new.self c.gather.new.ends) c.new-ends.ensures c.in_ok-gather.ensures.gathered in
    let counted : IsBlockCounted c.gather.new.self c.args.source c.args.block.now (line ++ (bytes ++ c.gather.new.ends)) c.count.new.self = record {
      left = c.count.ensures.left;
      limits = c.count.ensures.limits;
      lines = c.count.ensures.lines;
      output = c.count.ensures.output;
      seen_blocks = c.count.ensures.seen_blocks;
      seen_bytes = c.count.ensures.seen_bytes
          ∙ ap (λ (b : List ℕ). told (c.gather.new.self.counts.seen_bytes + bytes_added c.gather.new.self.left.query.dups c.args.source b)) c.as_slice-2.ensures;
      reused = c.count.ensures.reused;
      met = c.count.ensures.met;
    } in
    let small : AreWithin standard c.count.new.self.limits = subst (λ (v : OpenerState). AreWithin standard v.limits) c.self-2.view_is c.in-Some.ensures.small in
    let first : IsFirstPassed c.count.new.self.limits (numbers_of c.count.new.self.counts) c.in-Some.kind =
    subst (λ (v : OpenerState). IsFirstPassed v.limits (numbers_of v.counts) c.in-Some.kind) c.self-2.view_is c.in-Some.ensures.first in
    let number : c.number.result ≡ number_of c.in-Some.kind c.count.new.self.limits =
    c.number.ensures.number ∙ ap (λ (v : OpenerState). number_of c.in-Some.kind v.limits) c.self-2.view_is in
    let said : c.limit.result ≡ refusals.Limit c.in-Some.kind (number_of c.in-Some.kind c.count.new.self.limits) =
    c.limit.ensures ∙ ap (λ (k : ℕ). refusals.Limit c.in-Some.kind k) number in
    subst (λ (r : Refusal). HasOpenCause c.args.self.now at section c.args.source r) (sym said)
    (passed c.args.self.now c.open.new.self c.gather.new.self c.count.new.self at section checked.0 c.args.source line bytes c.gather.new.ends
    opened c.in_ok-gather.ensures.same gathered counted c.in-Some.kind checked.1.passes small first)
