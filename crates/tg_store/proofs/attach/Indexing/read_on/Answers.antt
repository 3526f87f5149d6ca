use Rattle.std.proofs.Common.{◌≡◌, ◌+◌, ◌++◌, ℕ, take, subst, arith}
use Rattle.std.proofs.lemmas.Result.{err_from_is_err_and}
use Rattle.tg_files.specs.Packs.{pack_step, rest_at}
use Rattle.tg_store.specs.Attaching.{IsReadTo}
use Rattle.tg_store.proofs.Stepping.{read_front, read_on, stop_refusal}
use Rattle.tg_store.proofs.attach.Indexing.read_on.Goals as goal

pub returns-in_err-take-clause-after : goal.returns-in_err-take-clause-after
returns-in_err-take-clause-after g c =
    let p = err_from_is_err_and c.from_residual.result c.from_residual.ensures.1 in
    let at = c.requires.before in
    let told = g.P.Pack.pack.content c.args.pack.now in
    rw (p.1, p.2)
    (stop_refusal (pack_step g.P.Pack.pack c.args.pack.now c.read_at.new.self) (at.fed ++ take c.in-Ok.count c.read_at.new.buf) (rest_at told (c.args.self.now.found.end + c.in-Ok.count))
    c.in_err-take.field-0.0
    (read_front c.args.self.now.reader c.args.self.now.found.places.entries told c.args.self.now.found.end c.in-Ok.count c.read_at.new.buf at c.in-Ok.ensures.read)
    c.in-Ok.ensures.quiet (c.in_err-take.ensures.along at.fed at.along))

pub returns-clause-after : goal.returns-clause-after
returns-clause-after g c =
    let at = c.requires.before in
    let told = g.P.Pack.pack.content c.args.pack.now in
    let end : c.args.self.now.found.end + c.in-Ok.count ≡ c.in-Some.end = omega arith in
    let read = read_on c.args.self.now.reader c.take.new.self.reader c.args.self.now.found.places.entries c.take.new.self.found.places.entries told c.args.self.now.found.end c.in-Ok.count c.read_at.new.buf
    at c.in-Ok.ensures.read (c.in_ok-take.ensures.along at.fed at.along) in (
      c.in-Ok.ensures.quiet,
      subst (λ (n : ℕ). IsReadTo c.take.new.self.reader c.take.new.self.found.places.entries told n) end read,
      λ none. absurd (c.if-count-eq0.false none),
    )
