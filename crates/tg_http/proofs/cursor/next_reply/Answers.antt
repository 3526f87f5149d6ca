use Rattle.std.proofs.lemmas.Option.{MatchOption-at_none, MatchOption-at_some}
use Rattle.tg_http.specs.Heads.{IsNoReply}
use Rattle.tg_http.specs.OneHead.{limit_not_waiting, limit_only}
use Rattle.tg_http.proofs.Answering.{here_not_waiting, limit_answer, only_refused, read_given, refused_answer, reply_only, reply_read, waiting_given}
use Rattle.tg_http.proofs.cursor.next_reply.Goals as goal

pub returns-in_err-text-clause-only : goal.returns-in_err-text-clause-only
returns-in_err-text-clause-only c text tree i = absurd (limit_only c.args.bytes.now text i.count c.in_err-text.ensures.told.1 i.begins i.few)

pub returns-in_err-text-clause-waiting : goal.returns-in_err-text-clause-waiting
returns-in_err-text-clause-waiting c w = absurd (limit_not_waiting c.args.bytes.now c.in_err-text.ensures.told.1 w)

pub returns-in_err-text-clause-given : goal.returns-in_err-text-clause-given
returns-in_err-text-clause-given c fault h = limit_answer IsNoReply c.args.bytes.now fault c.from_residual.result c.from_residual.ensures.1 c.in_err-text.ensures.told h

pub returns-in_default-clause-only : goal.returns-in_default-clause-only
returns-in_default-clause-only c text tree i = absurd ((MatchOption-at_none _ _ c.in_default.is c.in_ok-text.ensures.told).none text i.count i.begins)

pub returns-in_default-clause-given : goal.returns-in_default-clause-given
returns-in_default-clause-given c fault h =
    absurd (waiting_given IsNoReply c.args.bytes.now fault (MatchOption-at_none _ _ c.in_default.is c.in_ok-text.ensures.told) h)

pub returns-in_err-head-clause-only : goal.returns-in_err-head-clause-only
returns-in_err-head-clause-only c text tree i =
    let here = MatchOption-at_some _ _ _ c.in-Some.is c.in_ok-text.ensures.told in
    only_refused _ c.from_residual-in_err-head.result c.from_residual-in_err-head.ensures.1 c.in_err-head.ensures
    (reply_read c.args.bytes.now c.in-Some.text.now text tree here i)

pub returns-in_err-head-clause-waiting : goal.returns-in_err-head-clause-waiting
returns-in_err-head-clause-waiting c w = absurd (here_not_waiting (MatchOption-at_some _ _ _ c.in-Some.is c.in_ok-text.ensures.told) w)

pub returns-in_err-head-clause-given : goal.returns-in_err-head-clause-given
returns-in_err-head-clause-given c fault h =
    let here = MatchOption-at_some _ _ _ c.in-Some.is c.in_ok-text.ensures.told in
    refused_answer IsNoReply c.args.bytes.now c.in-Some.text.now fault c.from_residual-in_err-head.result here (λ none r. none r.0 r.1)
    c.from_residual-in_err-head.ensures.1 c.in_err-head.ensures h

pub returns-clause-only : goal.returns-clause-only
returns-clause-only c text tree i =
    let here = MatchOption-at_some _ _ _ c.in-Some.is c.in_ok-text.ensures.told in
    reply_only c.args.bytes.now c.in-Some.text.now text tree c.in_ok-head.head here c.in_ok-head.ensures i

pub returns-clause-waiting : goal.returns-clause-waiting
returns-clause-waiting c w = absurd (here_not_waiting (MatchOption-at_some _ _ _ c.in-Some.is c.in_ok-text.ensures.told) w)

pub returns-clause-given : goal.returns-clause-given
returns-clause-given c fault h =
    let here = MatchOption-at_some _ _ _ c.in-Some.is c.in_ok-text.ensures.told in
    let read = c.in_ok-head.ensures in
    absurd (read_given IsNoReply c.args.bytes.now c.in-Some.text.now fault here (λ none. none read.0 read.1) h)
