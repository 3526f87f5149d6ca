use Rattle.std.proofs.Common.{◌∙◌, ◌+◌, ◌-◌, [], ℕ, List, Option, length, subst}
use Rattle.tg_files.specs.Packs.{ReadAt, did_joins}
use Rattle.tg_bytes.specs.ToldLaws.{front_fits}
use Rattle.tg_store.proofs.Moving.{read_more}
use Rattle.tg_store.proofs.reading.read_up_to.Goals as goal

pub returns-in_err-count-clause-same : goal.returns-in_err-count-clause-same
returns-in_err-count-clause-same g c = did_joins g.P.Pack.pack g.met.P.Pack.joins c.args.pack.now c.loop-done.pack c.read_at.new.self [] [] c.loop-done.invariant.same c.read_at.ensures.same

pub returns-then-count-eq0-clause-same : goal.returns-then-count-eq0-clause-same
returns-then-count-eq0-clause-same g c = did_joins g.P.Pack.pack g.met.P.Pack.joins c.args.pack.now c.loop-done.pack c.read_at.new.self [] [] c.loop-done.invariant.same c.read_at.ensures.same

pub loop-done-preserved : goal.loop-done-preserved
loop-done-preserved g c =
    let so_far = c.loop-done.invariant in
    let size : ℕ = length c.loop-done.buf - c.loop-done.done in
    let read = subst (λ (o : Option (List ℕ)). ReadAt o (c.args.offset + c.loop-done.done) c.in_ok-count.count c.read_at.new.buf) so_far.same.content c.in_ok-count.ensures.read in
    record {
      within = front_fits c.loop-done.done size c.in_ok-count.count c.loop-done.buf c.read_at.new.buf so_far.within read.within;
      same = did_joins g.P.Pack.pack g.met.P.Pack.joins c.args.pack.now c.loop-done.pack c.read_at.new.self [] [] so_far.same c.read_at.ensures.same;
      quiet = c.in_ok-count.ensures.quiet ∙ so_far.quiet;
      bytes = read_more (g.P.Pack.pack.content c.args.pack.now) c.args.offset c.loop-done.done size c.in_ok-count.count c.loop-done.buf c.read_at.new.buf so_far.bytes read so_far.within;
    }
