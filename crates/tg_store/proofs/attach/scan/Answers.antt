use Rattle.std.proofs.Common.{[], ℕ, List, Option, refl, subst, sym, ◌∙◌, arith}
use Rattle.std.proofs.lemmas.Result.{MatchResult-weaker, err_from_is_err_and}
use Rattle.tg_bytes.specs.Told.{IsNothing}
use Rattle.tg_files.specs.Packs.{did_joins, pack_step, rest_at}
use Rattle.tg_store.specs.Attaching.{IsReadTo}
use Rattle.tg_store.specs.PackLaws.{did_nothing}
use Rattle.tg_store.proofs.Stepping.{begun, end_refusal, found_whole, refusal_since}
use Rattle.tg_store.proofs.attach.scan.Goals as goal

pub loop-init : goal.loop-init
loop-init g c = record {
  room = omega (arith, c.in-Ok.ensures.size);
  same = did_nothing g.P.Pack.pack g.met.P.Pack.rests g.met.P.Pack.joins c.args.pack.now;
  quiet = refl;
  read = begun c.new-indexing.result.reader c.new-indexing.result.found.places.entries (g.P.Pack.pack.content c.args.pack.now) c.new-indexing.result.found.end c.new-indexing.ensures.0 c.new-indexing.ensures.1;
}

pub read_on-requires-clause-before : goal.read_on-requires-clause-before
read_on-requires-clause-before g c =
    subst (λ (o : Option (List ℕ)). IsReadTo c.loop.indexing.reader c.loop.indexing.found.places.entries o c.loop.indexing.found.end)
    (sym c.loop.invariant.same.content) c.loop.invariant.read

pub returns-in_err-count-clause-same : goal.returns-in_err-count-clause-same
returns-in_err-count-clause-same g c = did_joins g.P.Pack.pack g.met.P.Pack.joins c.args.pack.now c.loop.pack c.read_on.new.pack [] [] c.loop.invariant.same c.read_on.ensures.same

pub returns-in_err-count-clause-found : goal.returns-in_err-count-clause-found
returns-in_err-count-clause-found g c =
    let p = err_from_is_err_and c.from_residual.result c.from_residual.ensures.1 in
    rw (p.1, p.2)
    (refusal_since g.P.Pack.pack c.args.pack.now c.loop.pack c.read_on.new.pack c.in_err-count.field-0.0 c.loop.invariant.same.content c.loop.invariant.quiet c.in_err-count.ensures.after)

pub returns-then-count-eq0-clause-same : goal.returns-then-count-eq0-clause-same
returns-then-count-eq0-clause-same g c = did_joins g.P.Pack.pack g.met.P.Pack.joins c.args.pack.now c.loop.pack c.read_on.new.pack [] [] c.loop.invariant.same c.read_on.ensures.same

pub returns-then-count-eq0-clause-found : goal.returns-then-count-eq0-clause-found
returns-then-count-eq0-clause-found g c =
    let told = g.P.Pack.pack.content c.args.pack.now in
    let same = c.loop.invariant.same.content in
    let end : ℕ = c.read_on.new.self.found.end in
    let after = c.in_ok-count.ensures.after in
    let quiet = after.0 ∙ c.loop.invariant.quiet in
    let read : IsReadTo c.read_on.new.self.reader c.read_on.new.self.found.places.entries told end =
    subst (λ (o : Option (List ℕ)). IsReadTo c.read_on.new.self.reader c.read_on.new.self.found.places.entries o end) same after.1 in
    let nothing : IsNothing (rest_at told end) = subst (λ (o : Option (List ℕ)). IsNothing (rest_at o end)) same (after.2 c.if-count-eq0.true) in
    MatchResult-weaker c.close.result (c.close.ensures read.fed read.along read.size)
    (λ found f. (quiet, found_whole told read.fed end found.places.entries found.end read.front nothing f))
    (λ fault h. end_refusal (pack_step g.P.Pack.pack c.args.pack.now c.read_on.new.pack) read.fed end fault read.front nothing quiet h)

pub loop-preserved : goal.loop-preserved
loop-preserved g c =
    let same = c.loop.invariant.same.content in
    let after = c.in_ok-count.ensures.after in
    record {
      room = omega arith;
      same = did_joins g.P.Pack.pack g.met.P.Pack.joins c.args.pack.now c.loop.pack c.read_on.new.pack [] [] c.loop.invariant.same c.read_on.ensures.same;
      quiet = after.0 ∙ c.loop.invariant.quiet;
      read = subst (λ (o : Option (List ℕ)). IsReadTo c.read_on.new.self.reader c.read_on.new.self.found.places.entries o c.read_on.new.self.found.end) same after.1;
    }
