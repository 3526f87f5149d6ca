use Rattle.std.proofs.Common.{◌≡◌, ◌≤◌, ◌+◌, ◌<◌, length, sym, ap, ◌∙◌, arith, ℕ}
use Rattle.tg_model.proofs.WindowRuns.{run_begun, run_grown, run_kept, run_whole}
use Rattle.tg_model.proofs.PartOffsets.{next_offset, offset_within, part_met, part_unmet}
use Rattle.tg_model.specs.Traversal.{is_met}
use Rattle.tg_model.specs.Window.{offset_of}
use Rattle.tg_model.proofs.windows.window.Goals as goal
use Rattle.tg_model.proofs.windows.window.Goals.{then-is_met, then-end-eq0, else-end-eq0, else-is_met}

pub is_met-requires : goal.is_met-requires
is_met-requires c = omega (arith, c.loop-at.invariant.offset, offset_within c.args.inline c.args.parts.now c.loop-at.at c.index-parts-at.result c.index-parts-at.is (omega arith))

pub overflow_add-from : goal.overflow_add-from
overflow_add-from c = omega (arith, c.loop-at.invariant.offset, offset_within c.args.inline c.args.parts.now c.loop-at.at c.index-parts-at.result c.index-parts-at.is (omega arith))

pub loop-at-preserved : goal.loop-at-preserved
loop-at-preserved c =
    let inline = c.args.inline in
    let parts = c.args.parts.now in
    let low = c.args.low in
    let high = c.args.high in
    let at = c.loop-at.at in
    let part = c.index-parts-at.result in
    let is = c.index-parts-at.is in
    let run = c.loop-at.invariant.run in
    let within : at < length parts = omega arith in
    let tested : is_met low high (offset_of inline parts at) part.size ≡ c.is_met.result =
    ap (λ (from : ℕ). is_met low high from part.size) (sym c.loop-at.invariant.offset) ∙ sym c.is_met.ensures in
    record {
      offset = ap (λ (from : ℕ). from + part.size) c.loop-at.invariant.offset ∙ next_offset inline parts at part is within;
      run = elim c.if-is_met.branch [
        | then-is_met w ↦ elim w.if-end-eq0.branch [
          | then-end-eq0 u ↦ rw (w.first-is, u.first-is, w.end-is)
              (run_begun inline parts low high c.loop-at.first c.loop-at.end at run u.if-end-eq0.true (part_met inline parts low high at part is within (tested ∙ w.if-is_met.true)))
          | else-end-eq0 u ↦ rw (w.first-is, u.first-is, w.end-is)
              (run_grown inline parts low high c.loop-at.first c.loop-at.end at run u.if-end-eq0.false (part_met inline parts low high at part is within (tested ∙ w.if-is_met.true)))
        ]
        | else-is_met w ↦ rw (w.first-is, w.end-is)
            (run_kept inline parts low high c.loop-at.first c.loop-at.end at run (part_unmet inline parts low high at part is within (tested ∙ w.if-is_met.false)))
      ];
    }

pub returns : goal.returns
returns c =
    let all : length c.args.parts.now ≤ c.loop-at.at = omega arith in
    run_whole c.args.inline c.args.parts.now c.args.low c.args.high c.loop-at.first c.loop-at.end c.loop-at.at c.loop-at.invariant.run all
