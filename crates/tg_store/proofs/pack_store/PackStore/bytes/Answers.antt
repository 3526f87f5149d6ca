use Rattle.std.proofs.Common.{◌≡◌, ap, arith}
use Rattle.tg_store.specs.Packs.{bytes_at}
use Rattle.tg_store.proofs.pack_store.PackStore.bytes.Goals as goal

pub returns : goal.returns
returns g c =
    let none : bytes_at c.loop-place.place-iterator ≡ 0 = ap bytes_at c.in-None.ensures.steps.0 in
    omega (arith, none, c.loop-place.invariant.small, c.loop-place.invariant.sum)
