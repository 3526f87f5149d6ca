use Rattle.std.proofs.Common.{◌<◌, ◌≤◌, ◌≡◌, ◌∷◌, ◌++◌, [], List, length, refl, sym, ap, ◌∙◌, subst, arith}
use Rattle.std.proofs.lemmas.Result.{err_from_is_err_and}
use Rattle.tg_pbtable.specs.Taking.{AreFirst, one_more, all_taken, some_part}
use Rattle.tg_dagpb.specs.declared.Link.{Link}
use Rattle.tg_dagpb.specs.Cursor.{IsBetween, placed_link}
use Rattle.tg_dagpb.proofs.reading.copied_links.Goals as goal

pub loop-places-init : goal.loop-places-init
loop-places-init c = record { cursor = c.requires; passed = λ all start. rw c.new-links.ensures (all, refl, start) }

pub loop-places-smaller : goal.loop-places-smaller
loop-places-smaller c =
    let forward = c.in-Some.ensures.forward in
    let up : c.loop-places.at < c.in-Some.next = forward.0 in
    let inside : c.in-Some.next ≤ length c.args.bytes.now = forward.1 in
    omega arith

pub loop-places-preserved : goal.loop-places-preserved
loop-places-preserved c =
    let text = c.args.bytes.now in
    let before = c.loop-places.links in
    let link = placed_link text c.in-Some.places in
    let pushed : c.push.new.self ≡ before ++ link ∷ [] = c.in_ok-push.ensures.ok ∙ ap (λ (x : Link). before ++ x ∷ []) c.in_ok-copied_link.ensures in
    record {
      cursor = c.in-Some.ensures.cursor;
      passed = subst (λ (links : List Link). AreFirst (IsBetween text) c.in-Some.next links) (sym pushed)
          (one_more (IsBetween text) c.loop-places.at c.in-Some.next before link (c.in-Some.ensures.next before) c.loop-places.invariant.passed);
    }

pub returns-in_err-copied_link-clause-memory : goal.returns-in_err-copied_link-clause-memory
returns-in_err-copied_link-clause-memory c = λ all start.
    let p = err_from_is_err_and c.from_residual.result c.from_residual.ensures.1 in
    rw (p.1)
    (some_part (IsBetween c.args.bytes.now) c.loop-places.at c.loop-places.links (placed_link c.args.bytes.now c.in-Some.places)
    (λ ahead between. let more = c.in-Some.ensures.next c.loop-places.links ahead between in (more.0, more.1)) c.loop-places.invariant.passed all start)

pub returns-in_err-push-clause-memory : goal.returns-in_err-push-clause-memory
returns-in_err-push-clause-memory c = λ all start.
    let p = err_from_is_err_and c.from_residual-in_err-push.result c.from_residual-in_err-push.ensures.1 in
    rw (p.1)
    (some_part (IsBetween c.args.bytes.now) c.loop-places.at c.loop-places.links (placed_link c.args.bytes.now c.in-Some.places)
    (λ ahead between. let more = c.in-Some.ensures.next c.loop-places.links ahead between in (more.0, more.1)) c.loop-places.invariant.passed all start)

pub returns-clause-links : goal.returns-clause-links
returns-clause-links c = all_taken (IsBetween c.args.bytes.now) c.loop-places.at c.loop-places.links (c.in_default.ensures.next c.loop-places.links) c.loop-places.invariant.passed
