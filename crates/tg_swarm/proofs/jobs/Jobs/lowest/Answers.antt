use Rattle.std.proofs.Common.{IsTrue, None, ap, arith, false, inl, length, ◌+◌, ◌∙◌, ◌≡◌}
use Rattle.std.specs.List.{slice_get}
use Rattle.std.specs.Option.{is_some}
use Rattle.tg_swarm.proofs.Lists.{asked_moved, at_place}
use Rattle.tg_swarm.proofs.Lowest.{below_more, none_waits}
use Rattle.tg_swarm.proofs.jobs.Jobs.lowest.Goals.{else-is_none-via-then-is_none+else-not-is_asked, else-is_none-via-else-is_none}
use Rattle.tg_swarm.proofs.jobs.Jobs.lowest.Goals as goal

pub loop-k-preserved : goal.loop-k-preserved
loop-k-preserved g c = (
  c.loop-k.invariant.0,
  below_more c.args.self.now c.loop-k.k c.loop-k.invariant.1 (λ there. elim c.else-is_none.branch [
    | else-is_none-via-then-is_none+else-not-is_asked w ↦
        asked_moved c.as_slice-peers.result.now c.args.self.now.peers (c.self.inside.written + c.loop-k.k) (c.args.self.now.written + c.loop-k.k)
        (c.as_slice-peers.ensures.value ∙ ap (λ s. s.peers) c.self.view_is) (ap (λ s. s.written + c.loop-k.k) c.self.view_is)
        (w.is_asked.ensures.0 (cc w.if-not-is_asked.false))
    | else-is_none-via-else-is_none w ↦
        let same = c.as_slice-parts.ensures.value ∙ ap (λ s. s.parts) c.self.view_is in
        let none = at_place c.as_slice-parts.result.now c.loop-k.k c.index-parts-k.result None c.loop-k-test.true c.index-parts-k.is
        (ap (λ z. slice_get z c.loop-k.k) same ∙ there) in
        let some : IsTrue (is_some c.index-parts-k.result) = w.if-is_none.ensures in
        let not : is_some c.index-parts-k.result ≡ false = ap is_some none in
        absurd (cc (some, not))
  ]),
)

pub returns-clause-lowest : goal.returns-clause-lowest
returns-clause-lowest g c =
    let f = c.loop-k-test.false in
    let h = ap (λ s. length s.parts) c.self.view_is in
    let k = ap length c.as_slice-parts.ensures.value in
    none_waits c.args.self.now c.loop-k.k c.loop-k.invariant.1 (inl (omega (arith, f, h, k)))
