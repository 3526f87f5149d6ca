use Rattle.std.proofs.Common.{◌-◌, ◌≤◌, ℕ, sym, subst, arith}
use Rattle.std.proofs.lemmas.Result.{err_from_is_err_and}
use Rattle.tg_filedag.proofs.Calls.{close_at, lowest}
use Rattle.tg_filedag.proofs.Parts.{NodeLaws}
use Rattle.tg_filedag.proofs.Runs.{close_done, close_init, close_next, close_smaller, stops_here}
use Rattle.tg_filedag.proofs.linking.close_all.Goals as goal
use Rattle.tg_filedag.specs.declared.subtree.Subtree.{Subtree}
use Rattle.tg_filedag.specs.MadeFile.{IsMadeFile}
use Rattle.tg_model.specs.Stores.{kept_in}

pub loop-alloc-init : goal.loop-alloc-init
loop-alloc-init g c = λ chunks kept f.
    close_init g.K.Keep.keeper g.met.K.Keep.rests c.args.keep.now c.args.width c.args.subtrees.now.items chunks kept f c.requires.some

pub overflow_add-lowest : goal.overflow_add-lowest
overflow_add-lowest g c =
    let ss = c.loop-alloc.subtrees.items in
    let req = c.requires.growing in
    let needs = close_at g.K.Keep.keeper c.args.keep.now c.loop-alloc.keep c.args.width c.as_slice.result.now ss c.first_of_height-start.result
    (c.len-in-loop-alloc.result - 1) c.index.result.now req.0 req.1 (c.loop-alloc.invariant req.0 req.1 req.2) c.as_slice.ensures.value (omega arith) (omega arith)
    c.index.ensures c.first_of_height-start.ensures.before c.first_of_height-start.ensures.found in
    omega (arith, needs.1)

pub close-requires : goal.close-requires
close-requires g c =
    let ss = c.loop-alloc.subtrees.items in
    let req = c.requires.growing in
    let needs = close_at g.K.Keep.keeper c.args.keep.now c.loop-alloc.keep c.args.width c.as_slice.result.now ss c.first_of_height-start.result
    (c.len-in-loop-alloc.result - 1) c.index.result.now req.0 req.1 (c.loop-alloc.invariant req.0 req.1 req.2) c.as_slice.ensures.value (omega arith) (omega arith)
    c.index.ensures c.first_of_height-start.ensures.before c.first_of_height-start.ensures.found in
    record {
      start = needs.0.inside;
      few = needs.2.few;
      plain = needs.2.plain;
      content = needs.2.content;
      tsize = needs.2.tsize;
    }

pub loop-alloc-smaller : goal.loop-alloc-smaller
loop-alloc-smaller g c =
    let ss = c.loop-alloc.subtrees.items in
    let req = c.requires.growing in
    let r = c.loop-alloc.invariant req.0 req.1 req.2 in
    let low = lowest c.as_slice.result.now ss c.first_of_height-start.result (c.len-in-loop-alloc.result - 1) c.index.result.now c.as_slice.ensures.value (omega arith)
    c.index.ensures c.first_of_height-start.ensures.before c.first_of_height-start.ensures.found in
    close_smaller c.args.width c.first_of_height-start.result c.index.result.now.height ss c.close.new.subtrees.items req.0 _ (kept_in g.K.Keep.keeper c.loop-alloc.keep c.close.new.keep)
    r.forest.forest low.0 (omega arith) low.1 c.in_ok-close.ensures.closes

pub loop-alloc-preserved : goal.loop-alloc-preserved
loop-alloc-preserved g c = λ chunks kept f.
    let ss = c.loop-alloc.subtrees.items in
    let r = c.loop-alloc.invariant chunks kept f in
    let laws : NodeLaws = record { written = c.written_nodes.ensures.written; reads = c.file_nodes.ensures } in
    let low = lowest c.as_slice.result.now ss c.first_of_height-start.result (c.len-in-loop-alloc.result - 1) c.index.result.now c.as_slice.ensures.value (omega arith)
    c.index.ensures c.first_of_height-start.ensures.before c.first_of_height-start.ensures.found in
    close_next laws g.K.Keep.keeper g.met.K.Keep.joins c.kept_sections.ensures.joins c.args.keep.now c.loop-alloc.keep c.close.new.keep c.args.width
    c.first_of_height-start.result c.index.result.now.height ss c.close.new.subtrees.items chunks kept r low.0 (omega arith) low.1 c.in_ok-close.ensures.closes

pub returns-in_err-close-clause-stops : goal.returns-in_err-close-clause-stops
returns-in_err-close-clause-stops g c =
    let p = err_from_is_err_and c.from_residual.result c.from_residual.ensures.1 in
    rw (p.1, p.2)
    (λ chunks kept f.
    let r = c.loop-alloc.invariant chunks kept f in
    stops_here g.K.Keep.keeper g.met.K.Keep.joins c.kept_sections.ensures.joins c.args.keep.now c.loop-alloc.keep c.close.new.keep c.args.width
    c.loop-alloc.subtrees.items chunks kept r.sections c.in_err-close.field-0.0 r.keeps r.forest.forest c.in_err-close.ensures.stops)

pub returns-in_err-close-clause-err_counted : goal.returns-in_err-close-clause-err_counted
returns-in_err-close-clause-err_counted g c =
    let p = err_from_is_err_and c.from_residual.result c.from_residual.ensures.1 in
    let req = c.requires.growing in
    let r = c.loop-alloc.invariant req.0 req.1 req.2 in
    rw p.1 (subst (λ (n : ℕ). n ≤ g.K.Keep.keeper.faults c.close.new.keep) r.keeps.quiet c.in_err-close.ensures.err_counted)

pub index-requires-2 : goal.index-requires-2
index-requires-2 g c =
    let req = c.requires.growing in
    let r = c.loop-alloc.invariant req.0 req.1 req.2 in
    let some = r.forest.some in
    omega arith

pub returns-clause-made : goal.returns-clause-made
returns-clause-made g c = λ chunks kept f.
    let ss = c.loop-alloc.subtrees.items in
    let s = c.index-2.result.now in
    let file = close_done g.K.Keep.keeper c.args.keep.now c.loop-alloc.keep c.args.width ss chunks kept s (c.loop-alloc.invariant chunks kept f) (omega arith) in
    (file.0, file.1, file.2, subst (λ (x : Subtree). IsMadeFile c.args.width chunks file.1 x.made) (sym c.index-2.ensures) file.3, file.4)
