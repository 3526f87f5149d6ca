use Rattle.std.proofs.Common.{◌≡◌, None, Some, ap, arith, below_more, false, length, sym, true, ℕ, ◌∙◌}
use Rattle.std.specs.Prelude.{slice_get}
use Rattle.tg_serve.proofs.Runs.{looks_both, neither}
use Rattle.tg_serve.proofs.Turning.{is_true, may_as, may_both, unchanged}
use Rattle.tg_serve.proofs.Weights.{none_busy}
use Rattle.tg_serve.specs.Turns.{moment_of}
use Rattle.tg_serve.proofs.lanes.hear_links.Goals as goal

pub loop-lane-preserved : goal.loop-lane-preserved
loop-lane-preserved g c =
    let d = g.L.Door.door in
    let m = g.L.Link.Link.link in
    let source = g.L.Link.Source.source in
    let so = c.loop-lane.invariant in
    let told = g.B.Blocks.blocks.stored c.args.lanes.now.blocks in
    let x = moment_of g.B.Blocks.blocks c.args.lanes.now c.args.turns.now.links.items c.args.turns.now.left c.args.turns.now.happened c.args.door.now in
    let y = moment_of g.B.Blocks.blocks c.loop-lane.lanes c.loop-lane.turns.links.items c.loop-lane.turns.left c.loop-lane.turns.happened c.loop-lane.door in
    record {
      lanes = c.hear_link-heard.ensures.lanes;
      number = c.hear_link-heard.ensures.number ∙ so.number;
      most = c.hear_link-heard.ensures.most ∙ so.most;
      goes = may_both d m source told c.args.lanes.now.most x y _ c.loop-lane.heard c.hear_link-heard.result so.goes
          (may_as d m source (g.B.Blocks.blocks.stored c.loop-lane.lanes.blocks) told c.loop-lane.lanes.most c.args.lanes.now.most c.hear_link-heard.result y _
          so.looked.looked.stored so.most c.hear_link-heard.ensures.goes);
      none_busy = λ every no.
          let none = neither c.loop-lane.heard c.hear_link-heard.result no in
          below_more (λ (lane : ℕ). slice_get c.args.turns.now.links.items lane ≡ Some None) c.loop-lane.lane (so.none_busy every none.0)
          (ap (λ v. slice_get v.links c.loop-lane.lane) (sym (unchanged d m source told c.args.lanes.now.most c.loop-lane.heard x y so.goes none.0))
          ∙ c.hear_link-heard.ensures.none every none.1);
      asks = λ before asked was. c.hear_link-heard.ensures.asks before asked (so.asks before asked was);
      looked = looks_both g.B.Blocks.blocks _ _ _ g.met.B.Blocks.joins so.looked c.hear_link-heard.ensures.looked;
    }

pub returns-clause-hears : goal.returns-clause-hears
returns-clause-hears g c every some =
    is_true c.loop-lane.heard (λ no.
    let none = none_busy c.args.turns.now.links.items (λ lane lt. c.loop-lane.invariant.none_busy every no lane
    (let end = c.loop-lane-test.false in let number = c.len-lane-end.ensures in omega (arith, lt, end, number))) in
    let counted = c.requires.lanes.counted in
    let never : ⊥ = omega (arith, none, counted, some) in
    never)
