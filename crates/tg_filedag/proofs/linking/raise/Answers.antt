use Rattle.std.proofs.Common.{◌-◌, ◌≤◌, ◌++◌, ℕ, sym, subst, arith}
use Rattle.std.proofs.lemmas.Result.{err_from_is_err_and}
use Rattle.tg_filedag.proofs.Calls.{level_read, raise_at}
use Rattle.tg_filedag.proofs.Closings.{growing_closing}
use Rattle.tg_filedag.proofs.Parts.{NodeLaws}
use Rattle.tg_filedag.proofs.Runs.{raise_done, raise_next, stops_here}
use Rattle.tg_filedag.proofs.linking.raise.Goals as goal
use Rattle.tg_filedag.specs.Linking.{HasFullLevel}

pub overflow_add-height : goal.overflow_add-height
overflow_add-height g c =
    let ss = c.loop-alloc.subtrees.items in
    let full = subst (HasFullLevel c.args.width) c.as_slice.ensures.value (c.has_full_level.ensures.0 c.loop-alloc-test.true) in
    let needs = raise_at g.K.Keep.keeper c.args.keep.now c.loop-alloc.keep c.args.width ss c.len.result c.index.result.now c.requires.0 c.requires.1
    (c.loop-alloc.invariant c.requires.0 c.requires.1 c.requires.2) full (omega arith) c.index.ensures in
    omega (arith, needs.1)

pub close-requires : goal.close-requires
close-requires g c =
    let ss = c.loop-alloc.subtrees.items in
    let full = subst (HasFullLevel c.args.width) c.as_slice.ensures.value (c.has_full_level.ensures.0 c.loop-alloc-test.true) in
    let needs = raise_at g.K.Keep.keeper c.args.keep.now c.loop-alloc.keep c.args.width ss c.len.result c.index.result.now c.requires.0 c.requires.1
    (c.loop-alloc.invariant c.requires.0 c.requires.1 c.requires.2) full (omega arith) c.index.ensures in
    record {
      start = needs.0;
      few = needs.2.few;
      plain = needs.2.plain;
      content = needs.2.content;
      tsize = needs.2.tsize;
    }

pub loop-alloc-preserved : goal.loop-alloc-preserved
loop-alloc-preserved g c = λ chunks kept f.
    let ss = c.loop-alloc.subtrees.items in
    let full = subst (HasFullLevel c.args.width) c.as_slice.ensures.value (c.has_full_level.ensures.0 c.loop-alloc-test.true) in
    let laws : NodeLaws = record { written = c.written_nodes.ensures.written; reads = c.file_nodes.ensures } in
    let r = c.loop-alloc.invariant chunks kept f in
    let is = level_read c.args.width c.len.result ss c.index.result.now full r.forest.low (omega arith) c.index.ensures in
    raise_next laws g.K.Keep.keeper g.met.K.Keep.joins c.kept_sections.ensures.joins c.args.keep.now c.loop-alloc.keep c.close.new.keep c.args.width
    (c.len.result - c.args.width) c.index.result.now.height ss c.close.new.subtrees.items chunks kept r full (omega arith) is
    c.in_ok-close.ensures.closes

pub returns-clause-raised : goal.returns-clause-raised
returns-clause-raised g c = λ chunks kept f.
    raise_done g.K.Keep.keeper c.args.keep.now c.loop-alloc.keep c.args.width c.loop-alloc.subtrees.items chunks kept (c.loop-alloc.invariant chunks kept f)
    (λ full. let yes = c.has_full_level.ensures.1 (subst (HasFullLevel c.args.width) (sym c.as_slice.ensures.value) full) in absurd (cc (c.loop-alloc-test.false, yes)))

pub returns-in_err-close-clause-stops : goal.returns-in_err-close-clause-stops
returns-in_err-close-clause-stops g c =
    let p = err_from_is_err_and c.from_residual.result c.from_residual.ensures.1 in
    rw (p.1, p.2)
    (λ chunks kept f.
    let ss = c.loop-alloc.subtrees.items in
    let r = c.loop-alloc.invariant chunks kept f in
    stops_here g.K.Keep.keeper g.met.K.Keep.joins c.kept_sections.ensures.joins c.args.keep.now c.loop-alloc.keep c.close.new.keep c.args.width
    ss chunks kept r.sections c.in_err-close.field-0.0 r.keeps (growing_closing c.args.width ss chunks (kept ++ r.sections) r.forest) c.in_err-close.ensures.stops)

pub returns-in_err-close-clause-err_counted : goal.returns-in_err-close-clause-err_counted
returns-in_err-close-clause-err_counted g c =
    let p = err_from_is_err_and c.from_residual.result c.from_residual.ensures.1 in
    let r = c.loop-alloc.invariant c.requires.0 c.requires.1 c.requires.2 in
    rw p.1 (subst (λ (n : ℕ). n ≤ g.K.Keep.keeper.faults c.close.new.keep) r.keeps.quiet c.in_err-close.ensures.err_counted)
