use Rattle.std.proofs.Common.{ℕ, List, [], refl, ap, subst, ◌∙◌, arith}
use Rattle.std.proofs.lemmas.Result.{err_from_is_err_and}
use Rattle.tg_gateway.specs.Sessions.{SessionView}
use Rattle.tg_gateway.specs.Steps.{counted}
use Rattle.tg_gateway.proofs.Answering.{keeping, none_answered, none_broken, none_put, refusal_answered, refusal_broken, reply_answered, reply_broken}
use Rattle.tg_http.specs.Heads.{HasWholeText, IsNoRequest, PassesLimit}
use Rattle.tg_reply.specs.Streams.{BeginsRequest}
use Rattle.tg_reply.specs.declared.refusal.Refusal.TheVariants as refusals
use Rattle.tg_reply.specs.Sent.{bad_head, limit}
use Rattle.tg_gateway.proofs.session.Session.answer_next.Goals as goal

pub returns-in_err-replied-in-Ok-Some-clause-broke :
    goal.returns-in_err-replied-in-Ok-Some-clause-broke
returns-in_err-replied-in-Ok-Some-clause-broke g c =
    let same = ap (λ (v : SessionView). keeping v.state c.next.new.self) c.self.view_is in
    let kept = ap (λ (v : SessionView). v.state.kept) c.self.view_is in
    let most = ap (λ (v : SessionView). v.state.most) c.self.view_is in
    let received = ap (λ (v : SessionView). v.state.received) c.self.view_is in
    let i = c.self.invariant in
    let read = rw c.in-Ok-Some.field-0-is at c.in-Ok-Some.ensures.read in
    let begins = subst (λ (l : List ℕ). BeginsRequest l c.in-Ok-Some.head c.next.new.self) kept read in
    let p = err_from_is_err_and c.from_residual.result c.from_residual.ensures.1 in
    rw (p.1, p.2, same) (reply_broken _ c.args.self.now.state c.next.new.self c.in-Ok-Some.head _ _ _ begins
    (omega (arith, i.4, most, received)) c.put_reply.ensures.counted c.in_err-replied-in-Ok-Some.ensures.ends)

pub returns-in-Ok-None-clause-answered : goal.returns-in-Ok-None-clause-answered
returns-in-Ok-None-clause-answered g c =
    let same = ap (λ (v : SessionView). keeping v.state c.next.new.self) c.self.view_is in
    let kept = ap (λ (v : SessionView). v.state.kept) c.self.view_is in
    let read = rw c.in-Ok-None.field-0-is at c.in-Ok-None.ensures.read in
    rw same (record {
      more = [];
      answered = none_answered _ c.args.self.now.state c.next.new.self _ c.requires (read.1 ∙ kept);
      put = none_put _ g.S.Sink.sink c.args.out.now (g.met.S.Sink.rests c.args.out.now);
    })

pub returns-in_ok-replied-in-Ok-Some-clause-answered :
    goal.returns-in_ok-replied-in-Ok-Some-clause-answered
returns-in_ok-replied-in-Ok-Some-clause-answered g c =
    let replied = c.in_ok-replied-in-Ok-Some.replied in
    let same = ap (λ (v : SessionView). counted (keeping v.state c.next.new.self) replied) c.self.view_is in
    let kept = ap (λ (v : SessionView). v.state.kept) c.self.view_is in
    let read = rw c.in-Ok-Some.field-0-is at c.in-Ok-Some.ensures.read in
    let begins = subst (λ (l : List ℕ). BeginsRequest l c.in-Ok-Some.head c.next.new.self) kept read in
    reply_answered _ c.args.self.now.state c.count.new.self.state c.next.new.self c.in-Ok-Some.head _ replied _
    c.requires begins c.in_ok-replied-in-Ok-Some.ensures.ends c.put_reply.ensures.counted
    (ap (λ (v : SessionView). v.state) c.count.ensures ∙ same)

pub returns-in-Err-HeadLimit-clause-answered : goal.returns-in-Err-HeadLimit-clause-answered
returns-in-Err-HeadLimit-clause-answered g c =
    let same = ap (λ (v : SessionView). keeping v.state c.next.new.self) c.self.view_is in
    let kept = ap (λ (v : SessionView). v.state.kept) c.self.view_is in
    let read = rw c.in-Err-HeadLimit.field-0-is at c.in-Err-HeadLimit.ensures.read in
    refusal_answered _ c.args.self.now.state c.refuse.new.self.state _ c.next.new.self refusals.HeadLimit _ _ _
    c.requires same (limit _ _ (subst PassesLimit kept read.0)) (record { closes = refl; broken = refl; failed = refl }) refl
    c.refuse.ensures.ends

pub returns-in-Err-HeadLimit-clause-broke : goal.returns-in-Err-HeadLimit-clause-broke
returns-in-Err-HeadLimit-clause-broke g c =
    let same = ap (λ (v : SessionView). keeping v.state c.next.new.self) c.self.view_is in
    let kept = ap (λ (v : SessionView). v.state.kept) c.self.view_is in
    let most = ap (λ (v : SessionView). v.state.most) c.self.view_is in
    let received = ap (λ (v : SessionView). v.state.received) c.self.view_is in
    let i = c.self.invariant in
    let read = rw c.in-Err-HeadLimit.field-0-is at c.in-Err-HeadLimit.ensures.read in
    refusal_broken _ c.args.self.now.state c.refuse.new.self.state _ c.next.new.self refusals.HeadLimit _ _ _ same
    (limit _ _ (subst PassesLimit kept read.0)) (omega (arith, i.4, most, received)) refl c.refuse.ensures.ends

pub returns-in-Err-BadHead-clause-answered : goal.returns-in-Err-BadHead-clause-answered
returns-in-Err-BadHead-clause-answered g c =
    let same = ap (λ (v : SessionView). keeping v.state c.next.new.self) c.self.view_is in
    let kept = ap (λ (v : SessionView). v.state.kept) c.self.view_is in
    let read = rw c.in-Err-BadHead.field-0-is at c.in-Err-BadHead.ensures.read in
    refusal_answered _ c.args.self.now.state c.refuse-in-Err-BadHead.new.self.state _ c.next.new.self refusals.BadHead
    _ _ _ c.requires same (bad_head _ _ (subst (HasWholeText IsNoRequest) kept read.0))
    (record { closes = refl; broken = refl; failed = refl }) refl
    c.refuse-in-Err-BadHead.ensures.ends

pub returns-in-Err-BadHead-clause-broke : goal.returns-in-Err-BadHead-clause-broke
returns-in-Err-BadHead-clause-broke g c =
    let same = ap (λ (v : SessionView). keeping v.state c.next.new.self) c.self.view_is in
    let kept = ap (λ (v : SessionView). v.state.kept) c.self.view_is in
    let most = ap (λ (v : SessionView). v.state.most) c.self.view_is in
    let received = ap (λ (v : SessionView). v.state.received) c.self.view_is in
    let i = c.self.invariant in
    let read = rw c.in-Err-BadHead.field-0-is at c.in-Err-BadHead.ensures.read in
    refusal_broken _ c.args.self.now.state c.refuse-in-Err-BadHead.new.self.state _ c.next.new.self refusals.BadHead
    _ _ _ same (bad_head _ _ (subst (HasWholeText IsNoRequest) kept read.0)) (omega (arith, i.4, most, received)) refl
    c.refuse-in-Err-BadHead.ensures.ends

pub returns-in-Err-OutOfMemory-clause-broke : goal.returns-in-Err-OutOfMemory-clause-broke
returns-in-Err-OutOfMemory-clause-broke g c =
    let same = ap (λ (v : SessionView). keeping v.state c.next.new.self) c.self.view_is in
    let i = c.self.invariant in
    let most = ap (λ (v : SessionView). v.state.most) c.self.view_is in
    let received = ap (λ (v : SessionView). v.state.received) c.self.view_is in
    rw same (none_broken _ c.args.self.now.state c.next.new.self _ _ (omega (arith, i.4, most, received)) (omega arith)
    (none_put _ g.S.Sink.sink c.args.out.now (g.met.S.Sink.rests c.args.out.now)))
