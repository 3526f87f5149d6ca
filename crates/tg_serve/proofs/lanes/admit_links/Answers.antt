use Rattle.std.proofs.Common.{◌≡◌, None, Some, ap, arith, below_more, false, length, sym, true, ℕ, ◌∙◌}
use Rattle.std.specs.Prelude.{slice_get}
use Rattle.tg_serve.proofs.Turning.{is_true, may_as, may_then, unchanged}
use Rattle.tg_serve.proofs.Weights.{all_busy}
use Rattle.tg_serve.specs.Turns.{moment_of}
use Rattle.tg_serve.proofs.lanes.admit_links.Goals as goal
use Rattle.tg_serve.proofs.lanes.admit_links.Goals.{then-is_free, else-is_free}

pub loop-lane-preserved : goal.loop-lane-preserved
loop-lane-preserved g c =
    let d = g.L.Door.door in
    let m = g.L.Link.Link.link in
    let source = g.L.Link.Source.source in
    let so = c.loop-lane.invariant in
    let told = g.B.Blocks.blocks.stored c.args.lanes.now.blocks in
    let x = moment_of g.B.Blocks.blocks c.args.lanes.now c.args.turns.now.links.items c.args.turns.now.left c.args.turns.now.happened c.args.door.now in
    let y = moment_of g.B.Blocks.blocks c.loop-lane.lanes c.loop-lane.turns.links.items c.loop-lane.turns.left c.loop-lane.turns.happened c.loop-lane.door in
    elim c.if-is_free.branch [
      | then-is_free w ↦ rw (w.lanes-is, w.turns-is, w.door-is, w.came-is, w.left-is) (record {
        lanes = w.admit_into.ensures.lanes;
        number = w.admit_into.ensures.number ∙ so.number;
        most = w.admit_into.ensures.most ∙ so.most;
        blocks = w.admit_into.ensures.blocks ∙ so.blocks;
        goes = may_then d m source told c.args.lanes.now.most x y _ c.loop-lane.came so.goes
            (may_as d m source (g.B.Blocks.blocks.stored c.loop-lane.lanes.blocks) told c.loop-lane.lanes.most c.args.lanes.now.most true y _
            (ap g.B.Blocks.blocks.stored so.blocks) so.most w.admit_into.ensures.goes);
        still = λ no. absurd (let f : true ≡ false = no in cc);
        none_free = λ no. absurd (let f : true ≡ false = no in cc);
        asks = λ before asked was. w.admit_into.ensures.asks before asked (so.asks before asked was);
      })
      | else-is_free w ↦ rw (w.lanes-is, w.turns-is, w.door-is, w.came-is, w.left-is) (record {
        lanes = so.lanes;
        number = so.number;
        most = so.most;
        blocks = so.blocks;
        goes = so.goes;
        still = so.still;
        none_free = λ no. below_more (λ (lane : ℕ). slice_get c.args.turns.now.links.items lane ≡ Some None → ⊥) c.loop-lane.lane (so.none_free no)
            (λ free. c.is_free.ensures.busy w.if-is_free.false
            (ap (λ v. slice_get v.links c.loop-lane.lane) (unchanged d m source told c.args.lanes.now.most c.loop-lane.came x y so.goes no) ∙ free));
        asks = so.asks;
      })
    ]

pub returns-clause-tries : goal.returns-clause-tries
returns-clause-tries g c some left few =
    is_true c.loop-lane.came (λ no.
    let all = all_busy c.args.turns.now.links.items (λ lane lt. c.loop-lane.invariant.none_free no lane
    (let end = c.loop-lane-test.false in let number = c.len-lane-end.ensures in omega (arith, lt, end, number))) in
    let counted = c.requires.lanes.counted in
    let no : ⊥ = omega (arith, all, counted, few) in
    no)
