use Rattle.std.proofs.Common.{[], refl, arith}
use Rattle.std.proofs.lemmas.Result.{err_from_is_err_and}
use Rattle.tg_gateway.proofs.Answering.{none_answered, none_put}
use Rattle.tg_gateway.proofs.Looking.{answers_more, breaks_more, looks_both, looks_nothing}
use Rattle.tg_gateway.proofs.session.Session.answer.Goals as goal

pub loop-init : goal.loop-init
loop-init g c = record {
  looked = looks_nothing _ g.B.Blocks.blocks c.args.blocks.now (g.met.B.Blocks.rests c.args.blocks.now);
  counted = omega arith;
  open_is = c.requires;
  has = record {
    more = [];
    answered = none_answered _ c.args.self.now.state c.args.self.now.state.kept _ c.requires refl;
    put = none_put _ g.S.Sink.sink c.args.out.now (g.met.S.Sink.rests c.args.out.now);
  };
}

pub returns-in_err-answer_next-clause-ends : goal.returns-in_err-answer_next-clause-ends
returns-in_err-answer_next-clause-ends g c =
    let i = c.loop.invariant in
    let p = err_from_is_err_and c.from_residual.result c.from_residual.ensures.1 in
    rw (p.1, p.2) (breaks_more c.sent_joins.ensures.joins _ g.B.Blocks.blocks _ g.S.Sink.sink g.met.S.Sink.joins
    c.args.self.now.state c.loop.self.state c.answer_next.new.self.state [] c.args.blocks.now c.loop.blocks
    c.answer_next.new.blocks c.args.out.now c.loop.out c.answer_next.new.out c.in_err-answer_next.field-0.0
    i.looked.looked.stored i.has i.open_is.unclosed c.in_err-answer_next.ensures.broke)

pub returns-in_err-answer_next-clause-looked : goal.returns-in_err-answer_next-clause-looked
returns-in_err-answer_next-clause-looked g c =
    looks_both _ g.B.Blocks.blocks c.args.blocks.now c.loop.blocks c.answer_next.new.blocks g.met.B.Blocks.joins
    c.loop.invariant.looked c.answer_next.ensures.looked

pub loop-preserved : goal.loop-preserved
loop-preserved g c =
    let i = c.loop.invariant in
    let e = c.in_ok-answer_next.ensures in
    record {
      looked = looks_both _ g.B.Blocks.blocks c.args.blocks.now c.loop.blocks c.answer_next.new.blocks
          g.met.B.Blocks.joins
          i.looked e.looked;
      counted = omega (arith, i.counted, e.counted);
      open_is = (e.goes_on (cc c.if-branch.true)).0;
      has = answers_more c.sent_joins.ensures.joins _ g.B.Blocks.blocks _ g.S.Sink.sink g.met.S.Sink.joins
          c.args.self.now.state c.loop.self.state c.answer_next.new.self.state [] c.args.blocks.now c.loop.blocks
          c.answer_next.new.blocks c.args.out.now c.loop.out c.answer_next.new.out i.looked.looked.stored i.has
          i.open_is.unclosed e.answered;
    }

pub returns-clause-ends : goal.returns-clause-ends
returns-clause-ends g c =
    let i = c.loop.invariant in
    answers_more c.sent_joins.ensures.joins _ g.B.Blocks.blocks _ g.S.Sink.sink g.met.S.Sink.joins c.args.self.now.state
    c.loop.self.state c.answer_next.new.self.state [] c.args.blocks.now c.loop.blocks c.answer_next.new.blocks
    c.args.out.now c.loop.out c.answer_next.new.out i.looked.looked.stored i.has i.open_is.unclosed
    c.in_ok-answer_next.ensures.answered

pub returns-clause-looked : goal.returns-clause-looked
returns-clause-looked g c =
    looks_both _ g.B.Blocks.blocks c.args.blocks.now c.loop.blocks c.answer_next.new.blocks g.met.B.Blocks.joins
    c.loop.invariant.looked c.answer_next.ensures.looked
