use Rattle.std.proofs.Common.{◌≡◌, ℕ, List, length, drop, slice_range, sym, ap, ◌∙◌, subst, arith, Some}
use Rattle.std.specs.Prelude.{◌⊎◌}
use Rattle.std.proofs.lemmas.Option.{MatchOption-at_some}
use Rattle.std.proofs.lemmas.Result.{err_from_is_err_and}
use Rattle.tg_http.specs.Heads.{FindsRequest, HasHeadCause, IsNoRequest}
use Rattle.tg_http.specs.declared.fault.HttpFault.TheVariants.{OutOfMemory}
use Rattle.tg_reply.specs.Streams.{BeginsRequest}
use Rattle.tg_gateway.proofs.Keeping.{begun, consumed, length-kept, refused, length-used}
use Rattle.tg_gateway.proofs.heads.HeadRoom.next.Goals as goal

pub returns-in_err-head-clause-read : goal.returns-in_err-head-clause-read
returns-in_err-head-clause-read c =
    let p = err_from_is_err_and c.from_residual.result c.from_residual.ensures.1 in
    let fault = c.in_err-head.field-0.0 in
    let same = ap (λ (l : List ℕ). slice_range l c.self.inside.start c.self.inside.end) c.deref.ensures.value ∙ c.self.view_is in
    let cause = subst (λ (l : List ℕ). (fault ≡ OutOfMemory) ⊎ HasHeadCause IsNoRequest l fault) same c.in_err-head.ensures.cause in
    rw (p.1, p.2) (refused c.args.self.now _ fault cause c.self.view_is)

pub invariant_of-self-2 : goal.invariant_of-self-2
invariant_of-self-2 c =
    let room = c.self.inside in
    let same = ap (λ (l : List ℕ). slice_range l room.start room.end) c.deref.ensures.value ∙ c.self.view_is in
    let found = subst (λ (l : List ℕ). FindsRequest l (Some c.in-Some.head)) same (MatchOption-at_some _ _ _ c.in-Some.is c.in_ok-head.ensures.found) in
    let used = length-used c.args.self.now c.in-Some.head found in
    let size = ap length (sym c.self.view_is) ∙ length-kept room.bytes.items room.start room.end (omega (arith, c.self.invariant.within, c.self.invariant.size)) in
    record {
      size = c.self.invariant.size;
      in_order = omega (arith, used, size, c.self.invariant.in_order);
      within = c.self.invariant.within;
      sought = MatchOption-at_some _ _ _ c.in-Some.is c.in_ok-head.ensures.fresh _;
    }

pub returns-clause-read : goal.returns-clause-read
returns-clause-read c =
    let room = c.self.inside in
    let same = ap (λ (l : List ℕ). slice_range l room.start room.end) c.deref.ensures.value ∙ c.self.view_is in
    let found = subst (λ (l : List ℕ). FindsRequest l (Some c.in-Some.head)) same (MatchOption-at_some _ _ _ c.in-Some.is c.in_ok-head.ensures.found) in
    let used = length-used c.args.self.now c.in-Some.head found in
    let size = ap length (sym c.self.view_is) ∙ length-kept room.bytes.items room.start room.end (omega (arith, c.self.invariant.within, c.self.invariant.size)) in
    let rest = consumed room.bytes.items room.start room.end c.in-Some.head.used (omega (arith, used, size, c.self.invariant.in_order))
    ∙ ap (drop c.in-Some.head.used) c.self.view_is in
    subst (λ (l : List ℕ). BeginsRequest c.args.self.now c.in-Some.head l) (sym rest) (begun c.args.self.now c.in-Some.head found)
