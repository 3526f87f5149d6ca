use Rattle.std.proofs.Common.{rules, false, ◌≡◌, ◌≤◌, ◌+◌, ◌++◌, ℕ, length, ap, sym, subst, ◌∙◌, length-append, arith}
use denote.Enum.Bare.{same_true}
use Rattle.std.proofs.lemmas.Result.{err_from_is_err_and}
use Rattle.tg_model.specs.LimitNumbers.{LimitNumbers}
use Rattle.tg_model.specs.declared.limits.LimitKind.TheVariants as kinds
use Rattle.tg_streams.specs.Streams.{into}
use Rattle.tg_verify.specs.contracts.verifier.Progress.{the_type}
use Rattle.tg_verify.specs.declared.fault.Refusal.TheVariants as refusals
use Rattle.tg_verify.specs.declared.verifier.Progress.TheVariants as progresses
use Rattle.tg_fetch.specs.Replies.{IsRefused}
use Rattle.tg_fetch.specs.declared.fault.FetchFault.TheVariants as faults
use Rattle.tg_fetch.proofs.Feeding.{answered_front, false_true, fed_all, fed_more, more_told, passed, some_there}
use Rattle.tg_fetch.proofs.Longer.{refused_front}
use Rattle.tg_fetch.proofs.KeptReplies.{answered_front_keeps, more_front, more_keeps, none_past, passed_keeps, refused_front_keeps}
use Rattle.tg_fetch.proofs.Telling.{tells_front}
use Rattle.tg_fetch.specs.Keeping.{KeptRefused}
use Rattle.tg_model.specs.Stores.{kept_in}
use Rattle.tg_fetch.proofs.client.Client.hear.Goals as goal

pub returns-in_err-look-clause-ends : goal.returns-in_err-look-clause-ends
returns-in_err-look-clause-ends g c heard written h =
    let p = err_from_is_err_and c.from_residual.result c.from_residual.ensures.1 in
    let new = c.look.new.self in
    let front = c.split_at.result.0.now in
    let few : length heard + length front ≤ c.args.self.now.limits.received =
    omega (arith, h.count, h.within, c.number-most.ensures.number, c.min.ensures, c.min-room.ensures, c.split_at.ensures.front_len) in
    rw (p.1, p.2)
    (refused_front new.query new.limits heard front c.split_at.result.1.now c.args.piece.now written (into g.S.Sink.sink c.args.out.now c.look.new.out) c.in_err-look.field-0.0
    c.split_at.ensures.by_index.0 (c.in_err-look.ensures.ends heard written h few))

pub returns-then-eq-clause-ends : goal.returns-then-eq-clause-ends
returns-then-eq-clause-ends g c heard written h =
    let new = c.look.new.self in
    let front = c.split_at.result.0.now in
    let out = into g.S.Sink.sink c.args.out.now c.look.new.out in
    let few : length heard + length front ≤ c.args.self.now.limits.received =
    omega (arith, h.count, h.within, c.number-most.ensures.number, c.min.ensures, c.min-room.ensures, c.split_at.ensures.front_len) in
    let done : c.in_ok-look.field-0 ≡ progresses.Done = same_true the_type (search rules) _ _ (sym c.if-eq.ensures) in
    let all = fed_all c.in_ok-look.field-0 new heard front written out done (c.in_ok-look.ensures.ends heard written h few) in
    (answered_front new.query new.limits heard front c.split_at.result.1.now c.args.piece.now written out c.split_at.ensures.by_index.0 all.0, all.1)

pub returns-clause-ends : goal.returns-clause-ends
returns-clause-ends g c heard written h =
    let new = c.look.new.self in
    let front = c.split_at.result.0.now in
    let tail = c.split_at.result.1.now in
    let out = into g.S.Sink.sink c.args.out.now c.look.new.out in
    let few : length heard + length front ≤ c.args.self.now.limits.received =
    omega (arith, h.count, h.within, c.number-most.ensures.number, c.min.ensures, c.min-room.ensures, c.split_at.ensures.front_len) in
    let same = ap (λ (l : LimitNumbers). l.received) c.look.ensures.limits in
    let some = some_there (length tail) c.if-is_empty.ensures in
    let full : length (heard ++ front) ≡ new.limits.received =
    omega (arith, same, some, length-append heard front, h.count, h.within, c.number-most.ensures.number, c.min.ensures, c.min-room.ensures, c.split_at.ensures.front_len, c.split_at.ensures.back_len) in
    let going : c.in_ok-look.field-0 ≡ progresses.Done → ⊥ = λ (done : c.in_ok-look.field-0 ≡ progresses.Done). false_true (rw done at c.if-eq.ensures) in
    let more = fed_more c.in_ok-look.field-0 new heard front written out going (c.in_ok-look.ensures.ends heard written h few) in
    let short = c.in_ok-look.ensures.short heard written h few (more_told c.in_ok-look.field-0 going) in
    subst (λ (n : ℕ). IsRefused new.query new.limits heard c.args.piece.now false written out (faults.Refused (refusals.Limit kinds.Received n))) (same ∙ sym c.number-most.ensures.number)
    (passed c.standing_bodies.ensures new heard front tail c.args.piece.now written out c.split_at.ensures.by_index.0 full some more short)

-- ---- which sections were kept

pub returns-in_err-look-clause-kept : goal.returns-in_err-look-clause-kept
returns-in_err-look-clause-kept g c heard written before h stand =
    let p = err_from_is_err_and c.from_residual.result c.from_residual.ensures.1 in
    let new = c.look.new.self in
    let front = c.split_at.result.0.now in
    let few : length heard + length front ≤ c.args.self.now.limits.received =
    omega (arith, h.count, h.within, c.number-most.ensures.number, c.min.ensures, c.min-room.ensures, c.split_at.ensures.front_len) in
    rw (p.1, p.2)
    (refused_front_keeps new.query new.limits heard front c.split_at.result.1.now c.args.piece.now before written (into g.S.Sink.sink c.args.out.now c.look.new.out)
    (kept_in g.K.Keep.keeper c.args.keep.now c.look.new.keep) c.in_err-look.field-0.0 c.split_at.ensures.by_index.0 (c.in_err-look.ensures.kept heard written before h few stand))

pub returns-then-eq-clause-kept : goal.returns-then-eq-clause-kept
returns-then-eq-clause-kept g c heard written before h stand =
    let new = c.look.new.self in
    let front = c.split_at.result.0.now in
    let few : length heard + length front ≤ c.args.self.now.limits.received =
    omega (arith, h.count, h.within, c.number-most.ensures.number, c.min.ensures, c.min-room.ensures, c.split_at.ensures.front_len) in
    let done : c.in_ok-look.field-0 ≡ progresses.Done = same_true the_type (search rules) _ _ (sym c.if-eq.ensures) in
    answered_front_keeps c.in_ok-look.field-0 new heard front c.split_at.result.1.now c.args.piece.now before written (into g.S.Sink.sink c.args.out.now c.look.new.out)
    (kept_in g.K.Keep.keeper c.args.keep.now c.look.new.keep) c.split_at.ensures.by_index.0 done (c.in_ok-look.ensures.kept heard written before h few stand)

pub returns-clause-kept : goal.returns-clause-kept
returns-clause-kept g c heard written before h stand =
    let new = c.look.new.self in
    let front = c.split_at.result.0.now in
    let tail = c.split_at.result.1.now in
    let out = into g.S.Sink.sink c.args.out.now c.look.new.out in
    let keeping = kept_in g.K.Keep.keeper c.args.keep.now c.look.new.keep in
    let few : length heard + length front ≤ c.args.self.now.limits.received =
    omega (arith, h.count, h.within, c.number-most.ensures.number, c.min.ensures, c.min-room.ensures, c.split_at.ensures.front_len) in
    let same = ap (λ (l : LimitNumbers). l.received) c.look.ensures.limits in
    let some = some_there (length tail) c.if-is_empty.ensures in
    let full : length (heard ++ front) ≡ new.limits.received =
    omega (arith, same, some, length-append heard front, h.count, h.within, c.number-most.ensures.number, c.min.ensures, c.min-room.ensures, c.split_at.ensures.front_len, c.split_at.ensures.back_len) in
    let going : c.in_ok-look.field-0 ≡ progresses.Done → ⊥ = λ (done : c.in_ok-look.field-0 ≡ progresses.Done). false_true (rw done at c.if-eq.ensures) in
    let more = more_keeps c.in_ok-look.field-0 new heard front before written out keeping going (c.in_ok-look.ensures.kept heard written before h few stand) in
    let short = c.in_ok-look.ensures.short heard written h few (more_told c.in_ok-look.field-0 going) in
    subst (λ (n : ℕ). KeptRefused new.query new.limits heard c.args.piece.now before written out keeping (faults.Refused (refusals.Limit kinds.Received n))) (same ∙ sym c.number-most.ensures.number)
    (passed_keeps c.heads_go_on.ensures c.bodies_go_on.ensures c.standing_bodies.ensures c.received_sections.ensures.one new heard front tail c.args.piece.now before written out keeping
    c.split_at.ensures.by_index.0 full some more short)

pub returns-then-is_empty-clause-kept : goal.returns-then-is_empty-clause-kept
returns-then-is_empty-clause-kept g c heard written before h stand =
    let new = c.look.new.self in
    let front = c.split_at.result.0.now in
    let tail = c.split_at.result.1.now in
    let out = into g.S.Sink.sink c.args.out.now c.look.new.out in
    let keeping = kept_in g.K.Keep.keeper c.args.keep.now c.look.new.keep in
    let few : length heard + length front ≤ c.args.self.now.limits.received =
    omega (arith, h.count, h.within, c.number-most.ensures.number, c.min.ensures, c.min-room.ensures, c.split_at.ensures.front_len) in
    let going : c.in_ok-look.field-0 ≡ progresses.Done → ⊥ = λ (done : c.in_ok-look.field-0 ≡ progresses.Done). false_true (rw done at c.if-eq.ensures) in
    more_front new heard front tail c.args.piece.now before written out keeping c.split_at.ensures.by_index.0 (none_past tail c.if-is_empty.ensures)
    (more_keeps c.in_ok-look.field-0 new heard front before written out keeping going (c.in_ok-look.ensures.kept heard written before h few stand))

-- ---- what the path leads to

pub returns-in_err-look-clause-tells : goal.returns-in_err-look-clause-tells
returns-in_err-look-clause-tells g c heard written h t =
    let front = c.split_at.result.0.now in
    let few : length heard + length front ≤ c.args.self.now.limits.received =
    omega (arith, h.count, h.within, c.number-most.ensures.number, c.min.ensures, c.min-room.ensures, c.split_at.ensures.front_len) in
    tells_front c.look.new.self heard front c.split_at.result.1.now c.args.piece.now c.split_at.ensures.by_index.0 (c.look.ensures.tells heard written h few t)

pub returns-then-eq-clause-tells : goal.returns-then-eq-clause-tells
returns-then-eq-clause-tells g c heard written h t =
    let front = c.split_at.result.0.now in
    let few : length heard + length front ≤ c.args.self.now.limits.received =
    omega (arith, h.count, h.within, c.number-most.ensures.number, c.min.ensures, c.min-room.ensures, c.split_at.ensures.front_len) in
    tells_front c.look.new.self heard front c.split_at.result.1.now c.args.piece.now c.split_at.ensures.by_index.0 (c.look.ensures.tells heard written h few t)

pub returns-then-is_empty-clause-tells : goal.returns-then-is_empty-clause-tells
returns-then-is_empty-clause-tells g c heard written h t =
    let front = c.split_at.result.0.now in
    let few : length heard + length front ≤ c.args.self.now.limits.received =
    omega (arith, h.count, h.within, c.number-most.ensures.number, c.min.ensures, c.min-room.ensures, c.split_at.ensures.front_len) in
    tells_front c.look.new.self heard front c.split_at.result.1.now c.args.piece.now c.split_at.ensures.by_index.0 (c.look.ensures.tells heard written h few t)

pub returns-clause-tells : goal.returns-clause-tells
returns-clause-tells g c heard written h t =
    let front = c.split_at.result.0.now in
    let few : length heard + length front ≤ c.args.self.now.limits.received =
    omega (arith, h.count, h.within, c.number-most.ensures.number, c.min.ensures, c.min-room.ensures, c.split_at.ensures.front_len) in
    tells_front c.look.new.self heard front c.split_at.result.1.now c.args.piece.now c.split_at.ensures.by_index.0 (c.look.ensures.tells heard written h few t)
