use Rattle.std.proofs.Common.{◌≡◌, ◌≢◌, ℕ, List, [], ◌-◌, ◌^◌, ◌<◌, ◌≤◌, length, ap, sym, subst, arith}
use Rattle.std.proofs.lemmas.List.{get_or_default}
use Rattle.std.proofs.lemmas.Result.{IfErr-weaker, IfOk-weaker, err_from_is_err_and, on_err_weaker}
use Rattle.tg_hamt.proofs.Finished.{finished, finished_light, room_left}
use Rattle.tg_node_writing.specs.KeepingSteps.{same_stops}
use Rattle.tg_hamt.proofs.Making.{child_few, child_level, child_next, child_order, child_passed, child_tsizes, entry_next, making_none, step_at, stops_behind_child, stops_child, stops_here}
use Rattle.tg_hamt.proofs.shards.+keep_shard.Goals as goal
use Rattle.tg_hamt.specs.declared.order.Hashed.{Hashed}
use Rattle.tg_model.specs.Reading.{big_endian}
use Rattle.tg_model.specs.Stores.{kept_in}
use Rattle.tg_model.specs.declared.stores.KeepFault.{KeepFault}
use Rattle.tg_node_writing.specs.Keeping.{StopsAfter}
use Rattle.tg_node_writing.specs.Nodes.{NodeLaws}

-- a slot's number, and the bits below it
low_bits : (bits : List ℕ) (number slot : ℕ) → number ≡ slot → big_endian bits < 2 ^ slot → big_endian bits < 2 ^ number
low_bits bits number slot e low = subst (λ (n : ℕ). big_endian bits < 2 ^ n) (sym e) low

-- a run of more than one
two_or_more : (start end : ℕ) → start < end → end - start ≢ 1 → 2 ≤ end - start
two_or_more start end begins other = omega arith

-- fewer entries are left behind a run
fewer_left : (len start end : ℕ) → start < end → start < len → len - end < len - start
fewer_left len start end begins inside = omega arith

pub loop-start-init : goal.loop-start-init
loop-start-init g t c =
    making_none g.K.Keep.keeper g.met.K.Keep.rests c.args.keep.now c.args.entries.now c.args.order.now c.args.level c.no_link-shard.result.links.items c.no_link-shard.result.bits
    c.no_link-shard.ensures.links c.no_link-shard.ensures.used c.no_link-shard.ensures.low

pub add_entry-requires : goal.add_entry-requires
add_entry-requires g t c =
    low_bits c.loop-start.shard.bits c.slot-number.result _ c.slot-number.ensures (c.loop-start.invariant.low _ c.loop-start-test.true)

pub add_child-requires : goal.add_child-requires
add_child-requires g t c =
    low_bits c.loop-start.shard.bits c.slot-number.result _ c.slot-number.ensures (c.loop-start.invariant.low _ c.loop-start-test.true)

pub keep_links-requires-clause-few : goal.keep_links-requires-clause-few
keep_links-requires-clause-few g t c = c.loop-start.invariant.few

pub keep_links-requires-clause-links : goal.keep_links-requires-clause-links
keep_links-requires-clause-links g t c = c.loop-start.invariant.good

pub keep_links-requires-clause-tsize : goal.keep_links-requires-clause-tsize
keep_links-requires-clause-tsize g t c =
    room_left g.K.Keep.keeper c.args.keep.now c.loop-start.keep c.args.entries.now c.args.order.now c.args.level c.loop-start.start c.loop-start.shard.links.items
    c.loop-start.shard.bits c.loop-start.invariant c.requires.few c.requires.tsizes

pub returns-in_err-add_entry-clause-stops : goal.returns-in_err-add_entry-clause-stops
returns-in_err-add_entry-clause-stops g t c =
    let p = err_from_is_err_and c.from_residual.result c.from_residual.ensures.1 in
    rw (p.1, p.2)
    (stops_here g.K.Keep.keeper g.met.K.Keep.joins c.kept_sections.ensures.joins c.args.keep.now c.loop-start.keep c.loop-start.keep c.args.entries.now c.args.order.now c.args.level
    c.loop-start.start c.loop-start.shard.links.items c.loop-start.shard.bits c.in_err-add_entry.field-0.0 c.loop-start.invariant
    (subst (λ (f : KeepFault). StopsAfter [] f (kept_in g.K.Keep.keeper c.loop-start.keep c.loop-start.keep)) (sym c.in_err-add_entry.ensures.memory)
    (same_stops g.K.Keep.keeper g.met.K.Keep.rests c.loop-start.keep)))

pub returns-in_err-add_entry-clause-err_counted : goal.returns-in_err-add_entry-clause-err_counted
returns-in_err-add_entry-clause-err_counted g t c =
    let p = err_from_is_err_and c.from_residual.result c.from_residual.ensures.1 in
    let quiet = c.loop-start.invariant.keeps.quiet in
    rw p.1 (omega (arith, quiet))

pub keep_shard-requires : goal.keep_shard-requires
keep_shard-requires g t c = λ κs sub.
    let s = step_at c.args.entries.now c.args.order.now c.args.level c.loop-start.start c.run_end-end.result c.slot-number.result c.slots_are_bytes.ensures.hash c.slots_are_bytes.ensures.slot
    c.requires.good c.requires.order c.requires.passed c.requires.level c.run_end-end.ensures c.loop-start-test.true _ c.slot-number.ensures in
    let many : 2 ≤ c.run_end-end.result - c.loop-start.start = two_or_more c.loop-start.start c.run_end-end.result c.run_end-end.ensures.begins c.if-end-start-eq1.false in (
      omega (arith, c.decreases, c.requires.level),
      (
        sub,
        (
          child_level c.args.entries.now c.args.order.now c.args.level c.loop-start.start c.run_end-end.result c.slot-number.result s many,
          (
            c.requires.good,
            (
              child_order c.args.entries.now c.args.order.now c.args.level c.loop-start.start c.run_end-end.result c.slot-number.result s,
              (
                child_passed c.args.entries.now c.args.order.now c.args.level c.loop-start.start c.run_end-end.result c.slot-number.result s,
                (
                  child_few c.args.entries.now c.args.order.now c.args.level c.loop-start.start c.run_end-end.result c.slot-number.result s c.requires.few,
                  child_tsizes c.args.entries.now c.args.order.now c.args.level c.loop-start.start c.run_end-end.result c.slot-number.result 4611686018427387904 s c.requires.tsizes,
                ),
              ),
            ),
          ),
        ),
      ),
    )

pub returns-in_err-child-clause-stops : goal.returns-in_err-child-clause-stops
returns-in_err-child-clause-stops g t c =
    let p = err_from_is_err_and c.from_residual-in_err-child.result c.from_residual-in_err-child.ensures.1 in
    let s = step_at c.args.entries.now c.args.order.now c.args.level c.loop-start.start c.run_end-end.result c.slot-number.result c.slots_are_bytes.ensures.hash c.slots_are_bytes.ensures.slot
    c.requires.good c.requires.order c.requires.passed c.requires.level c.run_end-end.ensures c.loop-start-test.true _ c.slot-number.ensures in
    rw (p.1, p.2)
    (stops_child g.K.Keep.keeper g.met.K.Keep.joins c.kept_sections.ensures.joins c.args.keep.now c.loop-start.keep c.keep_shard.new.keep c.args.entries.now c.args.order.now c.args.level
    c.loop-start.start c.run_end-end.result c.slot-number.result c.loop-start.shard.links.items c.loop-start.shard.bits c.in_err-child.field-0.0 c.loop-start.invariant s
    c.in_err-child.ensures.stops)

pub returns-in_err-child-clause-err_counted : goal.returns-in_err-child-clause-err_counted
returns-in_err-child-clause-err_counted g t c =
    let p = err_from_is_err_and c.from_residual-in_err-child.result c.from_residual-in_err-child.ensures.1 in
    let quiet = c.loop-start.invariant.keeps.quiet in
    rw p.1 (subst (λ (n : ℕ). n ≤ g.K.Keep.keeper.faults c.keep_shard.new.keep) quiet c.in_err-child.ensures.err_counted)

pub returns-in_err-add_child-clause-stops : goal.returns-in_err-add_child-clause-stops
returns-in_err-add_child-clause-stops g t c =
    let p = err_from_is_err_and c.from_residual-in_err-add_child.result c.from_residual-in_err-add_child.ensures.1 in
    let s = step_at c.args.entries.now c.args.order.now c.args.level c.loop-start.start c.run_end-end.result c.slot-number.result c.slots_are_bytes.ensures.hash c.slots_are_bytes.ensures.slot
    c.requires.good c.requires.order c.requires.passed c.requires.level c.run_end-end.ensures c.loop-start-test.true _ c.slot-number.ensures in
    rw (p.1, p.2)
    (stops_behind_child g.K.Keep.keeper g.met.K.Keep.rests g.met.K.Keep.joins c.kept_sections.ensures.joins c.args.keep.now c.loop-start.keep c.keep_shard.new.keep c.args.entries.now
    c.args.order.now c.args.level c.loop-start.start c.run_end-end.result c.slot-number.result c.loop-start.shard.links.items c.loop-start.shard.bits c.in_ok-child.child
    c.in_err-add_child.field-0.0 c.loop-start.invariant s c.in_ok-child.ensures.made c.in_err-add_child.ensures.memory)

pub returns-in_err-add_child-clause-err_counted : goal.returns-in_err-add_child-clause-err_counted
returns-in_err-add_child-clause-err_counted g t c =
    let p = err_from_is_err_and c.from_residual-in_err-add_child.result c.from_residual-in_err-add_child.ensures.1 in
    let quiet = c.loop-start.invariant.keeps.quiet in
    let child = c.in_ok-child.ensures.made.keeps.quiet in
    rw p.1 (omega (arith, quiet, child))

pub loop-start-preserved-in_ok-add_entry : goal.loop-start-preserved-in_ok-add_entry
loop-start-preserved-in_ok-add_entry g t c =
    let s = step_at c.args.entries.now c.args.order.now c.args.level c.loop-start.start c.run_end-end.result c.slot-number.result c.slots_are_bytes.ensures.hash c.slots_are_bytes.ensures.slot
    c.requires.good c.requires.order c.requires.passed c.requires.level c.run_end-end.ensures c.loop-start-test.true _ c.slot-number.ensures in
    entry_next g.K.Keep.keeper c.args.keep.now c.loop-start.keep c.args.entries.now c.args.order.now c.args.level c.loop-start.start c.run_end-end.result c.slot-number.result
    _ c.loop-start.shard.links.items c.add_entry.new.shard.links.items c.loop-start.shard.bits c.add_entry.new.shard.bits c.index-entries-order.result
    c.loop-start.invariant s c.if-end-start-eq1.true
    (λ d. ap (λ (x : Hashed). x.index) (get_or_default c.args.order.now c.loop-start.start _ d c.loop-start-test.true)) c.index-entries-order.is
    c.in_ok-add_entry.ensures.links c.in_ok-add_entry.ensures.used c.in_ok-add_entry.ensures.low

pub loop-start-preserved : goal.loop-start-preserved
loop-start-preserved g t c =
    let s = step_at c.args.entries.now c.args.order.now c.args.level c.loop-start.start c.run_end-end.result c.slot-number.result c.slots_are_bytes.ensures.hash c.slots_are_bytes.ensures.slot
    c.requires.good c.requires.order c.requires.passed c.requires.level c.run_end-end.ensures c.loop-start-test.true _ c.slot-number.ensures in
    let many : 2 ≤ c.run_end-end.result - c.loop-start.start = two_or_more c.loop-start.start c.run_end-end.result c.run_end-end.ensures.begins c.if-end-start-eq1.false in
    child_next g.K.Keep.keeper g.met.K.Keep.joins c.kept_sections.ensures.joins c.args.keep.now c.loop-start.keep c.keep_shard.new.keep c.args.entries.now c.args.order.now c.args.level
    c.loop-start.start c.run_end-end.result c.slot-number.result c.loop-start.shard.links.items c.add_child.new.shard.links.items c.loop-start.shard.bits c.add_child.new.shard.bits
    c.in_ok-child.child c.loop-start.invariant s many c.in_ok-child.ensures.made c.in_ok-child.ensures.light c.in_ok-child.ensures.plain
    c.in_ok-add_child.ensures.links c.in_ok-add_child.ensures.used c.in_ok-add_child.ensures.low

pub loop-start-smaller : goal.loop-start-smaller
loop-start-smaller g t c = fewer_left (length c.args.order.now) c.loop-start.start c.run_end-end.result c.run_end-end.ensures.begins c.loop-start-test.true

pub loop-start-smaller-in_ok-add_entry : goal.loop-start-smaller-in_ok-add_entry
loop-start-smaller-in_ok-add_entry g t c = fewer_left (length c.args.order.now) c.loop-start.start c.run_end-end.result c.run_end-end.ensures.begins c.loop-start-test.true

pub returns-clause-made : goal.returns-clause-made
returns-clause-made g t c =
    let laws : NodeLaws = record { written = c.written_nodes.ensures.written; unix_node = c.written_nodes.ensures.unix_node } in
    IfOk-weaker c.keep_links.result _ _
    (λ made h. finished g.K.Keep.keeper g.met.K.Keep.joins c.kept_sections.ensures.joins laws c.linked_nodes.ensures c.placed_shards.ensures c.args.keep.now c.loop-start.keep c.keep_links.new.keep c.args.entries.now
    c.args.order.now c.args.level c.loop-start.start c.loop-start.shard.links.items c.loop-start.shard.bits made c.loop-start.invariant c.requires.order.each c.loop-start-test.false c.requires.level h) c.keep_links.ensures.made

pub returns-clause-light : goal.returns-clause-light
returns-clause-light g t c =
    IfOk-weaker c.keep_links.result _ _
    (λ made h. finished_light g.K.Keep.keeper c.args.keep.now c.loop-start.keep c.keep_links.new.keep c.args.entries.now c.args.order.now c.args.level c.loop-start.start
    c.loop-start.shard.links.items c.loop-start.shard.bits made c.loop-start.invariant c.loop-start-test.false h) c.keep_links.ensures.made

pub returns-clause-stops : goal.returns-clause-stops
returns-clause-stops g t c =
    IfErr-weaker c.keep_links.result _ _
    (λ fault h. stops_here g.K.Keep.keeper g.met.K.Keep.joins c.kept_sections.ensures.joins c.args.keep.now c.loop-start.keep c.keep_links.new.keep c.args.entries.now c.args.order.now c.args.level
    c.loop-start.start c.loop-start.shard.links.items c.loop-start.shard.bits fault c.loop-start.invariant h) c.keep_links.ensures.stops

pub returns-clause-err_counted : goal.returns-clause-err_counted
returns-clause-err_counted g t c =
    on_err_weaker c.keep_links.result (λ h. subst (λ (n : ℕ). n ≤ g.K.Keep.keeper.faults c.keep_links.new.keep) c.loop-start.invariant.keeps.quiet h) c.keep_links.ensures.err_counted
