use Rattle.std.proofs.Common.{◌≡◌, ◌++◌, ℕ, List, [], false, length, refl, sym, ap, subst, ◌∙◌, arith}
use Rattle.std.proofs.lemmas.List.{nil_from_length}
use Rattle.std.proofs.lemmas.Bool.{eqb-true}
use Rattle.std.proofs.lemmas.Result.{err_from_is_err_and}
use Rattle.tg_gateway.specs.Sessions.{SessionView}
use Rattle.tg_gateway.specs.Steps.{BreaksOff, HasAnswered}
use Rattle.tg_gateway.proofs.Answering.{none_answered, none_put}
use Rattle.tg_gateway.proofs.Looking.{added_is, added_on, answers_more, breaks_before, breaks_more, looks_both, looks_nothing, parts_are, true_false}
use Rattle.tg_model.specs.Stores.{looked_in}
use Rattle.tg_reply.specs.Sessions.{IsOpen, SessionState}
use Rattle.tg_streams.specs.Streams.{into}
use Rattle.tg_gateway.proofs.session.Session.look.Goals.{then-self-via-then-self, then-self-via-else-self+then-is_empty}
use Rattle.tg_gateway.proofs.session.Session.look.Goals as goal

pub loop-self-init : goal.loop-self-init
loop-self-init g c = record {
  looked = looks_nothing _ g.B.Blocks.blocks c.args.blocks.now (g.met.B.Blocks.rests c.args.blocks.now);
  counted = omega arith;
  open_is = c.requires.open_is;
  added = [];
  bytes_are = refl;
  has = record {
    more = [];
    answered = none_answered _ c.args.self.now.state c.args.self.now.state.kept _ c.requires.open_is refl;
    put = none_put _ g.S.Sink.sink c.args.out.now (g.met.S.Sink.rests c.args.out.now);
  };
}

pub returns-in_err-answer-clause-ends : goal.returns-in_err-answer-clause-ends
returns-in_err-answer-clause-ends g c =
    let i = c.loop-self.invariant in
    let p = err_from_is_err_and c.from_residual.result c.from_residual.ensures.1 in
    let fault = c.in_err-answer.field-0.0 in
    let told = g.B.Blocks.blocks.stored c.args.blocks.now in
    let lookups = looked_in g.B.Blocks.blocks c.args.blocks.now c.answer.new.blocks in
    let out = into g.S.Sink.sink c.args.out.now c.answer.new.out in
    let broke = breaks_more c.sent_joins.ensures.joins _ g.B.Blocks.blocks _ g.S.Sink.sink g.met.S.Sink.joins
    c.args.self.now.state c.loop-self.self.state c.answer.new.self.state i.added c.args.blocks.now c.loop-self.blocks
    c.answer.new.blocks c.args.out.now c.loop-self.out c.answer.new.out fault i.looked.looked.stored i.has
    i.open_is.unclosed c.in_err-answer.ensures.ends in
    let new = c.answer.new.self.state in
    rw (p.1, p.2) (subst (λ (l : List ℕ). BreaksOff told c.args.self.now.state new l lookups out fault) (sym i.bytes_are)
    (breaks_before told c.args.self.now.state new i.added c.loop-self.rest.now lookups out fault broke))

pub returns-in_err-answer-clause-looked : goal.returns-in_err-answer-clause-looked
returns-in_err-answer-clause-looked g c =
    looks_both _ g.B.Blocks.blocks c.args.blocks.now c.loop-self.blocks c.answer.new.blocks g.met.B.Blocks.joins
    c.loop-self.invariant.looked c.answer.ensures.looked

pub returns-then-self-clause-ends : goal.returns-then-self-clause-ends
returns-then-self-clause-ends g c =
    let i = c.loop-self.invariant in
    let all : c.answer.new.self.state.closed ≡ false → c.loop-self.rest.now ≡ [] = λ open_is. elim c.then-self.branch [
      | then-self-via-then-self w ↦ absurd
          (true_false (sym w.if-self.true ∙ ap (λ (v : SessionView). v.state.closed) c.self.view_is ∙ open_is))
      | then-self-via-else-self+then-is_empty w ↦ nil_from_length c.loop-self.rest.now
          (eqb-true (length c.loop-self.rest.now) 0 (sym w.if-is_empty.ensures))
    ] in
    record {
      looked = i.added;
      dropped = c.loop-self.rest.now;
      piece_is = i.bytes_are;
      all_looked = all;
      has = answers_more c.sent_joins.ensures.joins _ g.B.Blocks.blocks _ g.S.Sink.sink g.met.S.Sink.joins
          c.args.self.now.state c.loop-self.self.state c.answer.new.self.state i.added c.args.blocks.now
          c.loop-self.blocks
          c.answer.new.blocks c.args.out.now c.loop-self.out c.answer.new.out i.looked.looked.stored i.has
          i.open_is.unclosed c.in_ok-answer.ensures.ends;
    }

pub returns-then-self-clause-looked : goal.returns-then-self-clause-looked
returns-then-self-clause-looked g c =
    looks_both _ g.B.Blocks.blocks c.args.blocks.now c.loop-self.blocks c.answer.new.blocks g.met.B.Blocks.joins
    c.loop-self.invariant.looked c.answer.ensures.looked

pub loop-self-preserved : goal.loop-self-preserved
loop-self-preserved g c =
    let i = c.loop-self.invariant in
    let mid = c.answer.new.self.state in
    let front = c.split_at.result.0.now in
    let told = g.B.Blocks.blocks.stored c.args.blocks.now in
    let lookups = looked_in g.B.Blocks.blocks c.args.blocks.now c.answer.new.blocks in
    let out = into g.S.Sink.sink c.args.out.now c.answer.new.out in
    let open_is = sym (ap (λ (v : SessionView). v.state.closed) c.self.view_is) ∙ c.if-self.false in
    let is = added_is c.answer.new.self c.add.new.self front c.add.ensures in
    let has = answers_more c.sent_joins.ensures.joins _ g.B.Blocks.blocks _ g.S.Sink.sink g.met.S.Sink.joins
    c.args.self.now.state c.loop-self.self.state mid i.added c.args.blocks.now c.loop-self.blocks c.answer.new.blocks
    c.args.out.now c.loop-self.out c.answer.new.out i.looked.looked.stored i.has i.open_is.unclosed
    c.in_ok-answer.ensures.ends in
    record {
      looked = looks_both _ g.B.Blocks.blocks c.args.blocks.now c.loop-self.blocks c.answer.new.blocks
          g.met.B.Blocks.joins
          i.looked c.answer.ensures.looked;
      counted = omega (arith, i.counted, c.answer.ensures.counted);
      open_is = subst IsOpen (sym is) (record { unclosed = open_is; unrefused = has.answered.unrefused });
      added = i.added ++ front;
      bytes_are = parts_are c.args.bytes.now i.added front c.split_at.result.1.now c.loop-self.rest.now i.bytes_are
          c.split_at.ensures.by_index.0;
      has = subst (λ (s : SessionState). HasAnswered told c.args.self.now.state s (i.added ++ front) lookups out) (sym is)
          (added_on c.sent_joins.ensures.joins _ g.B.Blocks.blocks _ g.S.Sink.sink g.met.S.Sink.joins
          c.args.self.now.state mid i.added front c.args.blocks.now c.answer.new.blocks c.args.out.now c.answer.new.out
          has open_is (g.met.S.Sink.rests c.answer.new.out));
    }
