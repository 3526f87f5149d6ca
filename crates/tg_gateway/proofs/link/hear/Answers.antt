use Rattle.std.proofs.Common.{rules, ◌≡◌, ℕ, ap, take, arith, false, true, sym}
use denote.Enum.Bare.{same_true, sameb}
use Rattle.std.proofs.lemmas.Result.{err_from_is_err_and}
use Rattle.tg_gateway.proofs.Hearing.{hears_broken, hears_close, hears_end, hears_fault, hears_first, hears_more}
use Rattle.tg_gateway.proofs.Looking.{looks_both}
use Rattle.tg_gateway.specs.contracts.session.Next.{the_type}
use Rattle.tg_gateway.specs.declared.session.Next.{Next}
use Rattle.tg_gateway.specs.declared.session.Next.TheVariants as nexts
use Rattle.tg_gateway.proofs.link.hear.Goals as goal

-- what the test of the next step says
closes : (next : Next) → true ≡ sameb the_type next nexts.Close → next ≡ nexts.Close
closes next e = same_true the_type (search rules) next nexts.Close (sym e)

goes_on : (next : Next) → false ≡ sameb the_type next nexts.Close → next ≡ nexts.Close → ⊥
goes_on next e closed = let no : false ≡ true = rw closed at e in let none : ⊥ = cc in none

pub loop-size-init : goal.loop-size-init
loop-size-init g c = record {
  room = c.requires.room;
  heard = hears_first g.B.Blocks.blocks g.K.Link.link g.K.Source.source g.met.K.Link.hears c.args.session.now c.requires.fresh.0
      c.args.blocks.now c.args.link.now c.requires.fresh.1 (g.met.B.Blocks.rests c.args.blocks.now);
}

pub returns-in_err-size-clause-ends : goal.returns-in_err-size-clause-ends
returns-in_err-size-clause-ends g c =
    let p = err_from_is_err_and c.from_residual.result c.from_residual.ensures.1 in
    rw (p.1, p.2)
    (hears_fault g.B.Blocks.blocks g.K.Link.link g.K.Source.source g.met.K.Link.hears (g.B.Blocks.blocks.stored c.args.blocks.now)
    c.args.session.now.state.most c.loop-size.session.state c.args.blocks.now c.loop-size.blocks c.args.link.now c.loop-size.link c.take.new.self
    c.loop-size.invariant.heard c.in_err-size.ensures.err_untaken c.in_err-size.ensures.err_rose)

pub returns-then-size-eq0-clause-ends : goal.returns-then-size-eq0-clause-ends
returns-then-size-eq0-clause-ends g c =
    hears_end g.B.Blocks.blocks g.K.Link.link g.K.Source.source g.met.K.Link.hears (g.B.Blocks.blocks.stored c.args.blocks.now)
    c.args.session.now.state.most c.loop-size.session.state c.args.blocks.now c.loop-size.blocks c.args.link.now c.loop-size.link c.take.new.self
    (take c.in_ok-size.size c.take.new.buf) g.met.K.Link.ends c.loop-size.invariant.heard c.in_ok-size.ensures.took
    (ap (λ (n : ℕ). take n c.take.new.buf) c.if-size-eq0.true) c.in_ok-size.ensures.quiet
    (c.in_ok-size.ensures.end c.if-size-eq0.true (omega arith))

pub returns-in_err-feed-clause-ends : goal.returns-in_err-feed-clause-ends
returns-in_err-feed-clause-ends g c =
    let p = err_from_is_err_and c.from_residual-in_err-feed.result c.from_residual-in_err-feed.ensures.1 in
    let h = c.loop-size.invariant.heard in
    rw (p.1, p.2)
    (hears_broken g.B.Blocks.blocks g.K.Link.link g.K.Source.source g.K.Sink.sink g.met.K.Link.hears g.met.K.Link.says g.met.K.Link.one_count
    c.args.blocks.now c.loop-size.blocks c.feed.new.blocks c.args.link.now c.loop-size.link c.take.new.self c.feed.new.out c.args.session.now.state.most
    c.loop-size.session c.feed.new.self (take c.in_ok-size.size c.take.new.buf) h c.in_ok-size.ensures.took c.in_ok-size.ensures.quiet
    c.sent_joins.ensures.joins c.sent_joins.ensures.stays c.sessions_go_on.ensures.go_on c.sessions_go_on.ensures.front c.in_err-feed.field-0.0
    (c.in_err-feed.ensures.ends h.open_is))

pub returns-in_err-feed-clause-looked : goal.returns-in_err-feed-clause-looked
returns-in_err-feed-clause-looked g c =
    looks_both _ g.B.Blocks.blocks c.args.blocks.now c.loop-size.blocks c.feed.new.blocks g.met.B.Blocks.joins c.loop-size.invariant.heard.looked
    c.feed.ensures.looked

pub returns-then-eq-clause-ends : goal.returns-then-eq-clause-ends
returns-then-eq-clause-ends g c =
    let h = c.loop-size.invariant.heard in
    hears_close g.B.Blocks.blocks g.K.Link.link g.K.Source.source g.K.Sink.sink g.met.K.Link.hears g.met.K.Link.says g.met.K.Link.one_count
    c.args.blocks.now c.loop-size.blocks c.feed.new.blocks c.args.link.now c.loop-size.link c.take.new.self c.feed.new.out c.args.session.now.state.most
    c.loop-size.session c.feed.new.self (take c.in_ok-size.size c.take.new.buf) h c.in_ok-size.ensures.took c.in_ok-size.ensures.quiet
    c.sessions_go_on.ensures.go_on c.sessions_go_on.ensures.sent c.in_ok-feed.field-0 (c.in_ok-feed.ensures.ends h.open_is)
    (closes c.in_ok-feed.field-0 c.if-eq.ensures)

pub returns-then-eq-clause-looked : goal.returns-then-eq-clause-looked
returns-then-eq-clause-looked g c =
    looks_both _ g.B.Blocks.blocks c.args.blocks.now c.loop-size.blocks c.feed.new.blocks g.met.B.Blocks.joins c.loop-size.invariant.heard.looked
    c.feed.ensures.looked

pub loop-size-preserved : goal.loop-size-preserved
loop-size-preserved g c =
    let h = c.loop-size.invariant.heard in
    record {
      room = omega arith;
      heard = hears_more g.B.Blocks.blocks g.K.Link.link g.K.Source.source g.K.Sink.sink g.met.K.Link.hears g.met.K.Link.says g.met.K.Link.one_count
          c.args.blocks.now c.loop-size.blocks c.feed.new.blocks c.args.link.now c.loop-size.link c.take.new.self c.feed.new.out
          c.args.session.now.state.most c.loop-size.session c.feed.new.self (take c.in_ok-size.size c.take.new.buf) h c.in_ok-size.ensures.took
          c.in_ok-size.ensures.quiet c.sessions_go_on.ensures.go_on g.met.B.Blocks.joins c.in_ok-feed.field-0
          (c.in_ok-feed.ensures.ends h.open_is) c.feed.ensures.looked c.feed.ensures.counted
          (goes_on c.in_ok-feed.field-0 c.if-eq.ensures);
    }
