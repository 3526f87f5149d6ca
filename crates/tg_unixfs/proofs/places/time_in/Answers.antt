use Rattle.std.proofs.Common.{◌<◌, [], ◌∷◌, ◌++◌, refl, arith}
use Rattle.std.proofs.lemmas.Result.{err_from_is_err_and}
use Rattle.tg_pbtable.specs.declared.table.Order.TheVariants.{Ascending}
use Rattle.tg_unixfs.specs.declared.TheConstants.{TIME}
use Rattle.tg_unixfs.proofs.places.time_in.Goals as goal

pub loop-init : goal.loop-init
loop-init c = ([], c.new-cursor.ensures.read TIME.now Ascending c.args.bytes.now refl)

pub loop-smaller : goal.loop-smaller
loop-smaller c =
    let h = rw c.in-Some.is at (c.in_ok-next.ensures.next c.loop.invariant.0 c.loop.invariant.1) in
    let up : c.loop.cursor.at < c.next.new.self.at = h.2 in
    omega (arith, c.in_ok-next.ensures.inside)

pub loop-preserved : goal.loop-preserved
loop-preserved c =
    let h = rw c.in-Some.is at (c.in_ok-next.ensures.next c.loop.invariant.0 c.loop.invariant.1) in
    (c.loop.invariant.0 ++ c.in-Some.field-0 ∷ [], h.0)

pub returns-in_err-next : goal.returns-in_err-next
returns-in_err-next c =
    let p = err_from_is_err_and c.from_residual.result c.from_residual.ensures.1 in
    rw (p.1, p.2) (c.in_err-next.ensures.next c.loop.invariant.0 c.loop.invariant.1)

pub returns : goal.returns
returns c = (c.loop.invariant.0, rw c.in_default.is at (c.in_ok-next.ensures.next c.loop.invariant.0 c.loop.invariant.1))
