use Rattle.std.proofs.Common.{◌<◌, ◌≤◌, ℕ, List, length, refl, sym, subst, arith}
use Rattle.std.proofs.lemmas.Result.{err_from_is_err_and}
use Rattle.tg_pbtable.specs.Taking.{AreFirst, one_more, all_taken, some_part}
use Rattle.tg_unixfs.specs.Places.{IsBetween}
use Rattle.tg_unixfs.proofs.sizes_of.Goals as goal

pub loop-size-init : goal.loop-size-init
loop-size-init c = record { cursor = c.requires; passed = λ all start. rw c.new-sizes.ensures (all, refl, start) }

pub loop-size-smaller : goal.loop-size-smaller
loop-size-smaller c =
    let forward = c.in-Some.ensures.forward in
    let up : c.loop-size.at < c.in-Some.next = forward.0 in
    let inside : c.in-Some.next ≤ length c.args.bytes.now = forward.1 in
    omega arith

pub loop-size-preserved : goal.loop-size-preserved
loop-size-preserved c = record {
  cursor = c.in-Some.ensures.cursor;
  passed = subst (λ (sizes : List ℕ). AreFirst (IsBetween c.args.bytes.now) c.in-Some.next sizes) (sym c.in_ok-push.ensures.ok)
      (one_more (IsBetween c.args.bytes.now) c.loop-size.at c.in-Some.next c.loop-size.sizes c.in-Some.size (c.in-Some.ensures.next c.loop-size.sizes) c.loop-size.invariant.passed);
}

pub returns-in_err-push-clause-memory : goal.returns-in_err-push-clause-memory
returns-in_err-push-clause-memory c = λ all start.
    let p = err_from_is_err_and c.from_residual.result c.from_residual.ensures.1 in
    rw (p.1)
    (some_part (IsBetween c.args.bytes.now) c.loop-size.at c.loop-size.sizes c.in-Some.size
    (λ ahead between. let more = c.in-Some.ensures.next c.loop-size.sizes ahead between in (more.0, more.1)) c.loop-size.invariant.passed all start)

pub returns-clause-sizes : goal.returns-clause-sizes
returns-clause-sizes c = all_taken (IsBetween c.args.bytes.now) c.loop-size.at c.loop-size.sizes (c.in_default.ensures.next c.loop-size.sizes) c.loop-size.invariant.passed
