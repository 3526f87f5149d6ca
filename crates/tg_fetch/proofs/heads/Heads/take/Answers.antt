use Rattle.std.proofs.Common.{◌≡◌, ◌-◌, ◌++◌, ℕ, List, length, take, refl, ap, subst, ◌∙◌, arith}
use Rattle.std.proofs.lemmas.Bool.{false≢true}
use Rattle.std.proofs.lemmas.Result.{err_from_is_err_and}
use Rattle.std.specs.Prelude.{◌⊎◌}
use Rattle.tg_http.specs.Heads.{HasHeadCause, IsNoReply, IsWaiting}
use Rattle.tg_http.specs.declared.fault.HttpFault.TheVariants.{OutOfMemory}
use Rattle.tg_fetch.proofs.TakingHeads.{came_as, ends_final, found_in, goes_on, moves_on, no_reply, one_too_many, seen_as, still_waits, waits_in}
use Rattle.tg_fetch.proofs.heads.Heads.take.Goals as goal

pub returns-in_err-head-clause-takes : goal.returns-in_err-head-clause-takes
returns-in_err-head-clause-takes c heard h =
    let p = err_from_is_err_and c.from_residual-in_err-head.result c.from_residual-in_err-head.ensures.1 in
    let fault = c.in_err-head.field-0.0 in
    let cause = subst (λ (l : List ℕ). (fault ≡ OutOfMemory) ⊎ HasHeadCause IsNoReply l fault) (c.as_slice.ensures ∙ c.in_ok-push_all.ensures.ok) c.in_err-head.ensures.cause in
    rw (p.1, p.2) (no_reply c.heads_go_on.ensures _ heard c.args.piece.now c.min-room.result (seen_as _ _ heard c.self.view_is h) fault cause)

pub returns-in_default-clause-takes : goal.returns-in_default-clause-takes
returns-in_default-clause-takes c heard h =
    let held = c.as_slice.ensures ∙ c.in_ok-push_all.ensures.ok in
    let waiting : IsWaiting (c.self.inside.came ++ take c.min-room.result c.args.piece.now) =
    subst IsWaiting held (waits_in _ _ c.in_default.is c.in_ok-head.ensures.found) in
    came_as _ _ _ _ c.in_ok-push_all.ensures.ok (still_waits c.heads_go_on.ensures _ heard c.args.piece.now c.min-room.result (seen_as _ _ heard c.self.view_is h) waiting)

pub returns-then-not-is_interim-clause-moves : goal.returns-then-not-is_interim-clause-moves
returns-then-not-is_interim-clause-moves c heard h some =
    let old = seen_as _ _ heard c.self.view_is h in
    let found = found_in _ _ _ _ (c.as_slice.ensures ∙ c.in_ok-push_all.ensures.ok) c.in-Some.is c.in_ok-head.ensures.found in
    let size = c.saturating_sub-taken.ensures ∙ ap (λ (l : List ℕ). c.in-Some.head.used - length l) c.as_slice-before.ensures in
    moves_on c.heads_go_on.ensures _ heard c.args.piece.now c.min-room.result old c.in-Some.head (omega (arith, c.min-room.ensures)) found _ size

pub returns-then-not-is_interim-clause-some : goal.returns-then-not-is_interim-clause-some
returns-then-not-is_interim-clause-some c heard h =
    let old = seen_as _ _ heard c.self.view_is h in
    let found = found_in _ _ _ _ (c.as_slice.ensures ∙ c.in_ok-push_all.ensures.ok) c.in-Some.is c.in_ok-head.ensures.found in
    let size = c.saturating_sub-taken.ensures ∙ ap (λ (l : List ℕ). c.in-Some.head.used - length l) c.as_slice-before.ensures in
    moves_on c.heads_go_on.ensures _ heard c.args.piece.now c.min-room.result old c.in-Some.head (omega (arith, c.min-room.ensures)) found _ size

pub returns-then-not-is_interim-clause-takes : goal.returns-then-not-is_interim-clause-takes
returns-then-not-is_interim-clause-takes c heard h =
    let old = seen_as _ _ heard c.self.view_is h in
    let found = found_in _ _ _ _ (c.as_slice.ensures ∙ c.in_ok-push_all.ensures.ok) c.in-Some.is c.in_ok-head.ensures.found in
    let size = c.saturating_sub-taken.ensures ∙ ap (λ (l : List ℕ). c.in-Some.head.used - length l) c.as_slice-before.ensures in
    ends_final c.heads_go_on.ensures _ heard c.args.piece.now c.min-room.result old c.in-Some.head (omega (arith, c.min-room.ensures)) found _ size
    (λ i. false≢true (c.if-not-is_interim.ensures.1 i))

pub returns-then-self-ge-MAX_INTERIMS-clause-takes : goal.returns-then-self-ge-MAX_INTERIMS-clause-takes
returns-then-self-ge-MAX_INTERIMS-clause-takes c heard h =
    let old = seen_as _ _ heard c.self.view_is h in
    let found = found_in _ _ _ _ (c.as_slice.ensures ∙ c.in_ok-push_all.ensures.ok) c.in-Some.is c.in_ok-head.ensures.found in
    let size = c.saturating_sub-taken.ensures ∙ ap (λ (l : List ℕ). c.in-Some.head.used - length l) c.as_slice-before.ensures in
    one_too_many c.heads_go_on.ensures _ heard c.args.piece.now c.min-room.result old c.in-Some.head (omega (arith, c.min-room.ensures)) found _ size
    (c.if-not-is_interim.ensures.0 refl) c.if-self-ge-MAX_INTERIMS.true

pub returns-clause-moves : goal.returns-clause-moves
returns-clause-moves c heard h some =
    let old = seen_as _ _ heard c.self.view_is h in
    let found = found_in _ _ _ _ (c.as_slice.ensures ∙ c.in_ok-push_all.ensures.ok) c.in-Some.is c.in_ok-head.ensures.found in
    let size = c.saturating_sub-taken.ensures ∙ ap (λ (l : List ℕ). c.in-Some.head.used - length l) c.as_slice-before.ensures in
    moves_on c.heads_go_on.ensures _ heard c.args.piece.now c.min-room.result old c.in-Some.head (omega (arith, c.min-room.ensures)) found _ size

pub returns-clause-takes : goal.returns-clause-takes
returns-clause-takes c heard h =
    let old = seen_as _ _ heard c.self.view_is h in
    let found = found_in _ _ _ _ (c.as_slice.ensures ∙ c.in_ok-push_all.ensures.ok) c.in-Some.is c.in_ok-head.ensures.found in
    let size = c.saturating_sub-taken.ensures ∙ ap (λ (l : List ℕ). c.in-Some.head.used - length l) c.as_slice-before.ensures in
    came_as _ _ _ _ c.clear.ensures (goes_on c.heads_go_on.ensures _ heard c.args.piece.now c.min-room.result old c.in-Some.head (omega (arith, c.min-room.ensures)) found _ size
    (c.if-not-is_interim.ensures.0 refl) (omega (arith, c.if-self-ge-MAX_INTERIMS.false)))
