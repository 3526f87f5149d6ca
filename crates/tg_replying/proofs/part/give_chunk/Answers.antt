use Rattle.std.proofs.Common.{List, subst, take, ℕ, ◌++◌}
use Rattle.std.proofs.lemmas.Result.{err_from_is_err_and}
use Rattle.tg_replying.proofs.Chunks.{chunk_is, cr_lf}
use Rattle.tg_replying.proofs.Giving.{fails_more, give_ends, gives_fails, gives_then}
use Rattle.tg_replying.specs.Bodies.{FailsIn, GiveEnds, giving_in}
use Rattle.tg_replying.proofs.part.give_chunk.Goals as goal

pub returns-in_err-give : goal.returns-in_err-give
returns-in_err-give g c =
    let line = take c.chunk_head-size.result.1 c.chunk_head-size.result.0 in
    let part = c.args.front.now ++ c.args.back.now in
    let p = err_from_is_err_and c.from_residual.result c.from_residual.ensures.1 in
    rw p.1 (subst (λ (bytes : List ℕ). FailsIn (giving_in g.S.Sink.sink c.args.gathering.now c.give.new.self
    c.args.out.now c.give.new.sink) bytes)
    (chunk_is line c.args.front.now c.args.back.now c.chunk_head-size.ensures.line)
    (fails_more g.S.Sink.sink c.args.out.now c.give.new.sink c.args.gathering.now c.give.new.self line (part ++ cr_lf)
    c.in_err-give.ensures.err_front))

pub returns-in_err-give_both : goal.returns-in_err-give_both
returns-in_err-give_both g c =
    let line = take c.chunk_head-size.result.1 c.chunk_head-size.result.0 in
    let part = c.args.front.now ++ c.args.back.now in
    let p = err_from_is_err_and c.from_residual-in_err-give_both.result c.from_residual-in_err-give_both.ensures.1 in
    rw p.1 (subst (λ (bytes : List ℕ). FailsIn (giving_in g.S.Sink.sink c.args.gathering.now c.give_both.new.gathering
    c.args.out.now c.give_both.new.out) bytes)
    (chunk_is line c.args.front.now c.args.back.now c.chunk_head-size.ensures.line)
    (gives_fails g.S.Sink.sink c.args.out.now c.give.new.sink c.give_both.new.out c.args.gathering.now c.give.new.self
    c.give_both.new.gathering line (part ++ cr_lf) g.met.S.Sink.joins
    c.in_ok-give.ensures.gave
    (fails_more g.S.Sink.sink c.give.new.sink c.give_both.new.out c.give.new.self c.give_both.new.gathering part cr_lf
    c.in_err-give_both.ensures)))

pub returns : goal.returns
returns g c =
    let line = take c.chunk_head-size.result.1 c.chunk_head-size.result.0 in
    let part = c.args.front.now ++ c.args.back.now in
    let end = give_ends (giving_in g.S.Sink.sink c.give_both.new.gathering c.give-2.new.self c.give_both.new.out
    c.give-2.new.sink) cr_lf c.give-2.result c.give-2.ensures.gave c.give-2.ensures.err_front in
    subst (λ (bytes : List ℕ). GiveEnds (giving_in g.S.Sink.sink c.args.gathering.now c.give-2.new.self c.args.out.now
    c.give-2.new.sink) bytes c.give-2.result)
    (chunk_is line c.args.front.now c.args.back.now c.chunk_head-size.ensures.line)
    (gives_then g.S.Sink.sink c.args.out.now c.give.new.sink c.give-2.new.sink c.args.gathering.now c.give.new.self
    c.give-2.new.self line (part ++ cr_lf) c.give-2.result g.met.S.Sink.joins c.in_ok-give.ensures.gave
    (gives_then g.S.Sink.sink c.give.new.sink c.give_both.new.out c.give-2.new.sink c.give.new.self
    c.give_both.new.gathering c.give-2.new.self part cr_lf c.give-2.result g.met.S.Sink.joins c.in_ok-give_both.ensures
    end))
