use Rattle.std.proofs.Common.{rules, ◌≡◌, ◌++◌, [], length, refl, subst, sym, take}
use denote.Enum.Bare.{same_true}
use Rattle.std.proofs.lemmas.Result.{err_from_is_err_and}
use Rattle.tg_streams.specs.Joining.{put_nothing}
use Rattle.tg_streams.specs.Streams.{into}
use Rattle.tg_fetch.specs.Clients.{IsAt}
use Rattle.tg_fetch.specs.declared.client.Client.{Client}
use Rattle.tg_fetch.specs.declared.client.Stage.{Stage}
use Rattle.tg_fetch.specs.declared.client.Stage.TheVariants as stages
use Rattle.tg_fetch.specs.contracts.content.Move.{the_type}
use Rattle.tg_fetch.specs.declared.content.Move.TheVariants as moves
use Rattle.tg_fetch.proofs.Feeding.{all_or_none, content_at, content_step, counted, done_step, false_true, goes_on, head_stops, heads_at, heads_none, heads_some, heads_step, heads_stop, in_content, in_heads, not_false}
use Rattle.tg_fetch.proofs.Telling.{so_untold, tells_in_content, untold_fresh}
use Rattle.tg_fetch.specs.Telling.{terminal_in}
use Rattle.tg_fetch.proofs.KeptReplies.{before_heads, begins_keeping, head_keeps, heads_keep, heads_stand, open_of, stands_nothing, step_keeps}
use Rattle.tg_fetch.proofs.KeptSections.{none_kept}
use Rattle.tg_model.specs.Stores.{kept_in}
use Rattle.tg_fetch.proofs.client.Client.step.Goals as goal

pub returns-in_err-taken-in-Heads-clause-ends : goal.returns-in_err-taken-in-Heads-clause-ends
returns-in_err-taken-in-Heads-clause-ends g c heard written h few =
    let p = err_from_is_err_and c.from_residual.result c.from_residual.ensures.1 in
    let old = c.args.self.now in
    let inside = in_heads old.query old.limits old.stage c.in-Heads.heads heard written c.in-Heads.is h.at in
    rw (p.1, p.2)
    (heads_stop old c.in-Heads.heads heard c.args.bytes.now written (into g.S.Sink.sink c.args.out.now c.args.out.now) c.in_err-taken-in-Heads.field-0.0 c.in-Heads.is h
    (put_nothing _ g.S.Sink.sink c.args.out.now (g.met.S.Sink.rests c.args.out.now)) few (c.in_err-taken-in-Heads.ensures.takes heard inside.0))

pub returns-in_default-clause-ends : goal.returns-in_default-clause-ends
returns-in_default-clause-ends g c heard written h few =
    let old = c.args.self.now in
    let bytes = c.args.bytes.now in
    let taken = c.in_ok-taken-in-Heads.taken in
    let new : Client = record old { heard = c.saturating_add-self.result; stage = stages.Heads c.take.new.self } in
    let out = into g.S.Sink.sink c.args.out.now c.args.out.now in
    let inside = in_heads old.query old.limits old.stage c.in-Heads.heads heard written c.in-Heads.is h.at in
    let e = c.in_ok-taken-in-Heads.ensures in
    let count = counted old.heard new.heard (length heard) taken (length bytes) old.limits.received h.count c.saturating_add-self.ensures e.within few c.requires.most in
    let there = heads_none c.take.new.self (heard ++ take taken bytes) c.in_ok-taken-in-Heads.head c.in_default.is (e.takes heard inside.0) in
    heads_step c.behind_heads-told.result new heard bytes written out taken
    (λ w. all_or_none taken (length bytes) (e.moves heard inside.0) (c.behind_heads-told.ensures.wait w)) c.behind_heads-told.ensures.done
    (goes_on new heard bytes written [] out taken old.limits.received e.within few refl count (put_nothing _ g.S.Sink.sink c.args.out.now (g.met.S.Sink.rests c.args.out.now))
    (heads_at old.query old.limits c.take.new.self (heard ++ take taken bytes) written there inside.1))

pub returns-in_err-content-in-Heads-clause-ends : goal.returns-in_err-content-in-Heads-clause-ends
returns-in_err-content-in-Heads-clause-ends g c heard written h few =
    let p = err_from_is_err_and c.from_residual-in_err-content-in-Heads.result c.from_residual-in_err-content-in-Heads.ensures.1 in
    let old = c.args.self.now in
    let bytes = c.args.bytes.now in
    let taken = c.in_ok-taken-in-Heads.taken in
    let inside = in_heads old.query old.limits old.stage c.in-Heads.heads heard written c.in-Heads.is h.at in
    let final = heads_some c.take.new.self (heard ++ take taken bytes) c.in_ok-taken-in-Heads.head c.in-Some.head c.in-Some.is (c.in_ok-taken-in-Heads.ensures.takes heard inside.0) in
    rw (p.1, p.2)
    (head_stops old c.in-Heads.heads heard bytes written (into g.S.Sink.sink c.args.out.now c.args.out.now) taken c.in-Some.head c.in_err-content-in-Heads.field-0.0 c.in-Heads.is h
    (put_nothing _ g.S.Sink.sink c.args.out.now (g.met.S.Sink.rests c.args.out.now)) final few c.in_err-content-in-Heads.ensures.begins)

pub returns-then-ne-clause-ends : goal.returns-then-ne-clause-ends
returns-then-ne-clause-ends g c heard written h few =
    let old = c.args.self.now in
    let bytes = c.args.bytes.now in
    let taken = c.in_ok-taken-in-Content.taken in
    let told = c.in_ok-taken-in-Content.told in
    let content = c.take-in-Content.new.self in
    let new : Client = record old { heard = c.saturating_add-self-in-Content.result; stage = stages.Content content } in
    let inside = in_content old.query old.limits old.stage c.in-Content.content heard written c.in-Content.is h.at in
    let e = c.in_ok-taken-in-Content.ensures in
    let count = counted old.heard new.heard (length heard) taken (length bytes) old.limits.received h.count c.saturating_add-self-in-Content.ensures e.within few c.requires.most in
    content_step told new content heard bytes written (into g.S.Sink.sink c.args.out.now c.take-in-Content.new.out) taken old.limits.received refl e.within few refl count e.waits
    (λ (done : told ≡ moves.Done). false_true (sym (rw done at c.if-ne.ensures))) (e.takes old.query old.limits heard written inside few)

pub returns-then-ne-clause-short : goal.returns-then-ne-clause-short
returns-then-ne-clause-short g c heard written h =
    let old = c.args.self.now in
    c.in_ok-taken-in-Content.ensures.short old.query old.limits heard written (in_content old.query old.limits old.stage c.in-Content.content heard written c.in-Content.is h.at)

pub returns-in_ok-content-in-Heads-clause-ends : goal.returns-in_ok-content-in-Heads-clause-ends
returns-in_ok-content-in-Heads-clause-ends g c heard written h few =
    let old = c.args.self.now in
    let bytes = c.args.bytes.now in
    let taken = c.in_ok-taken-in-Heads.taken in
    let content = c.in_ok-content-in-Heads.content in
    let new : Client = record old { heard = c.saturating_add-self.result; stage = c.enter.new.self } in
    let out = into g.S.Sink.sink c.args.out.now c.args.out.now in
    let inside = in_heads old.query old.limits old.stage c.in-Heads.heads heard written c.in-Heads.is h.at in
    let e = c.in_ok-taken-in-Heads.ensures in
    let count = counted old.heard new.heard (length heard) taken (length bytes) old.limits.received h.count c.saturating_add-self.ensures e.within few c.requires.most in
    let final = heads_some c.take.new.self (heard ++ take taken bytes) c.in_ok-taken-in-Heads.head c.in-Some.head c.in-Some.is (e.takes heard inside.0) in
    heads_step c.behind_heads-told.result new heard bytes written out taken
    (λ w. all_or_none taken (length bytes) (e.moves heard inside.0) (c.behind_heads-told.ensures.wait w)) c.behind_heads-told.ensures.done
    (goes_on new heard bytes written [] out taken old.limits.received e.within few refl count (put_nothing _ g.S.Sink.sink c.args.out.now (g.met.S.Sink.rests c.args.out.now))
    (subst (λ (s : Stage). IsAt old.query old.limits s (heard ++ take taken bytes) (written ++ [])) (sym c.enter.ensures)
    (content_at old.query old.limits content c.in-Some.head (heard ++ take taken bytes) written final c.in_ok-content-in-Heads.ensures.begins inside.1)))

pub returns-else-ne-clause-ends : goal.returns-else-ne-clause-ends
returns-else-ne-clause-ends g c heard written h few =
    let old = c.args.self.now in
    let bytes = c.args.bytes.now in
    let told = c.in_ok-taken-in-Content.told in
    let new : Client = record old { heard = c.saturating_add-self-in-Content.result; stage = c.enter-in-Content.new.self; terminal = c.terminal-self.result } in
    let inside = in_content old.query old.limits old.stage c.in-Content.content heard written c.in-Content.is h.at in
    let done : told ≡ moves.Done = same_true the_type (search rules) _ _ (not_false _ c.if-ne.ensures) in
    done_step told new old.query old.limits c.take-in-Content.new.self heard bytes written (into g.S.Sink.sink c.args.out.now c.take-in-Content.new.out) c.in_ok-taken-in-Content.taken done refl refl c.enter-in-Content.ensures
    (c.in_ok-taken-in-Content.ensures.takes old.query old.limits heard written inside few)

-- ---- which sections were kept

pub returns-in_err-taken-in-Heads-clause-kept : goal.returns-in_err-taken-in-Heads-clause-kept
returns-in_err-taken-in-Heads-clause-kept g c heard written before h few stand =
    let p = err_from_is_err_and c.from_residual.result c.from_residual.ensures.1 in
    let old = c.args.self.now in
    let inside = in_heads old.query old.limits old.stage c.in-Heads.heads heard written c.in-Heads.is h.at in
    rw (p.1, p.2)
    (heads_keep old c.in-Heads.heads heard written c.in-Heads.is h c.heads_go_on.ensures before stand (into g.S.Sink.sink c.args.out.now c.args.out.now)
    (put_nothing _ g.S.Sink.sink c.args.out.now (g.met.S.Sink.rests c.args.out.now)) (kept_in g.K.Keep.keeper c.args.keep.now c.args.keep.now)
    (none_kept g.K.Keep.keeper c.args.keep.now (g.met.K.Keep.rests c.args.keep.now)) c.args.bytes.now c.in_err-taken-in-Heads.field-0.0 few (c.in_err-taken-in-Heads.ensures.takes heard inside.0))

pub returns-in_default-clause-kept : goal.returns-in_default-clause-kept
returns-in_default-clause-kept g c heard written before h few stand =
    let old = c.args.self.now in
    let bytes = c.args.bytes.now in
    let taken = c.in_ok-taken-in-Heads.taken in
    let all = heard ++ take taken bytes in
    let out = into g.S.Sink.sink c.args.out.now c.args.out.now in
    let put = put_nothing _ g.S.Sink.sink c.args.out.now (g.met.S.Sink.rests c.args.out.now) in
    let keeping = kept_in g.K.Keep.keeper c.args.keep.now c.args.keep.now in
    let kept = none_kept g.K.Keep.keeper c.args.keep.now (g.met.K.Keep.rests c.args.keep.now) in
    let laws = c.heads_go_on.ensures in
    let inside = in_heads old.query old.limits old.stage c.in-Heads.heads heard written c.in-Heads.is h.at in
    let there = heads_none c.take.new.self all c.in_ok-taken-in-Heads.head c.in_default.is (c.in_ok-taken-in-Heads.ensures.takes heard inside.0) in
    let none = before_heads old c.in-Heads.heads heard written c.in-Heads.is h laws before stand out put keeping kept in
    step_keeps laws old.query old.limits c.behind_heads-told.result all before written out keeping c.behind_heads-told.ensures.done
    (stands_nothing old.query old.limits all before keeping (heads_stand laws old.query old.limits all before (open_of c.take.new.self all there) none) kept)

pub returns-in_err-content-in-Heads-clause-kept : goal.returns-in_err-content-in-Heads-clause-kept
returns-in_err-content-in-Heads-clause-kept g c heard written before h few stand =
    let p = err_from_is_err_and c.from_residual-in_err-content-in-Heads.result c.from_residual-in_err-content-in-Heads.ensures.1 in
    let old = c.args.self.now in
    let bytes = c.args.bytes.now in
    let taken = c.in_ok-taken-in-Heads.taken in
    let inside = in_heads old.query old.limits old.stage c.in-Heads.heads heard written c.in-Heads.is h.at in
    let final = heads_some c.take.new.self (heard ++ take taken bytes) c.in_ok-taken-in-Heads.head c.in-Some.head c.in-Some.is (c.in_ok-taken-in-Heads.ensures.takes heard inside.0) in
    rw (p.1, p.2)
    (head_keeps old c.in-Heads.heads heard written c.in-Heads.is h c.heads_go_on.ensures before stand (into g.S.Sink.sink c.args.out.now c.args.out.now)
    (put_nothing _ g.S.Sink.sink c.args.out.now (g.met.S.Sink.rests c.args.out.now)) (kept_in g.K.Keep.keeper c.args.keep.now c.args.keep.now)
    (none_kept g.K.Keep.keeper c.args.keep.now (g.met.K.Keep.rests c.args.keep.now)) bytes c.in-Some.head taken c.in_err-content-in-Heads.field-0.0 few final
    c.in_err-content-in-Heads.ensures.begins)

pub returns-in_ok-content-in-Heads-clause-kept : goal.returns-in_ok-content-in-Heads-clause-kept
returns-in_ok-content-in-Heads-clause-kept g c heard written before h few stand =
    let old = c.args.self.now in
    let bytes = c.args.bytes.now in
    let taken = c.in_ok-taken-in-Heads.taken in
    let all = heard ++ take taken bytes in
    let out = into g.S.Sink.sink c.args.out.now c.args.out.now in
    let put = put_nothing _ g.S.Sink.sink c.args.out.now (g.met.S.Sink.rests c.args.out.now) in
    let keeping = kept_in g.K.Keep.keeper c.args.keep.now c.args.keep.now in
    let kept = none_kept g.K.Keep.keeper c.args.keep.now (g.met.K.Keep.rests c.args.keep.now) in
    let laws = c.heads_go_on.ensures in
    let inside = in_heads old.query old.limits old.stage c.in-Heads.heads heard written c.in-Heads.is h.at in
    let final = heads_some c.take.new.self all c.in_ok-taken-in-Heads.head c.in-Some.head c.in-Some.is (c.in_ok-taken-in-Heads.ensures.takes heard inside.0) in
    let none = before_heads old c.in-Heads.heads heard written c.in-Heads.is h laws before stand out put keeping kept in
    let made = c.in_ok-content-in-Heads in
    step_keeps laws old.query old.limits c.behind_heads-told.result all before written out keeping c.behind_heads-told.ensures.done
    (begins_keeping laws old.query old.limits c.bodies_go_on.ensures made.content c.in-Some.head all before keeping final made.ensures.begins made.ensures.fresh none kept)

pub returns-in_err-taken-in-Content-clause-kept : goal.returns-in_err-taken-in-Content-clause-kept
returns-in_err-taken-in-Content-clause-kept g c heard written before h few stand =
    let p = err_from_is_err_and c.from_residual-in_err-taken-in-Content.result c.from_residual-in_err-taken-in-Content.ensures.1 in
    let old = c.args.self.now in
    rw (p.1, p.2)
    (c.in_err-taken-in-Content.ensures.kept old.query old.limits heard written before (in_content old.query old.limits old.stage c.in-Content.content heard written c.in-Content.is h.at) few stand)

pub returns-then-ne-clause-kept : goal.returns-then-ne-clause-kept
returns-then-ne-clause-kept g c heard written before h few stand =
    let old = c.args.self.now in
    c.in_ok-taken-in-Content.ensures.kept old.query old.limits heard written before (in_content old.query old.limits old.stage c.in-Content.content heard written c.in-Content.is h.at) few stand

pub returns-else-ne-clause-kept : goal.returns-else-ne-clause-kept
returns-else-ne-clause-kept g c heard written before h few stand =
    let old = c.args.self.now in
    c.in_ok-taken-in-Content.ensures.kept old.query old.limits heard written before (in_content old.query old.limits old.stage c.in-Content.content heard written c.in-Content.is h.at) few stand

-- ---- what the path leads to

pub returns-in_ok-content-in-Heads-clause-tells : goal.returns-in_ok-content-in-Heads-clause-tells
returns-in_ok-content-in-Heads-clause-tells g c heard written h t =
    let old = c.args.self.now in
    let all = heard ++ take c.in_ok-taken-in-Heads.taken c.args.bytes.now in
    let made = c.in_ok-content-in-Heads in
    let content = made.content in
    let new : Client = record old { heard = c.saturating_add-self.result; stage = c.enter.new.self } in
    tells_in_content new content all c.enter.ensures
    (so_untold old.query old.limits all (terminal_in content.sections)
    (untold_fresh old.query old.limits c.in-Some.head content.sections [] made.ensures.begins.taking))
