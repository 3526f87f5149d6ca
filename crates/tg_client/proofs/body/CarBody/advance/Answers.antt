use Rattle.std.proofs.Common.{[], ◌∷◌, ◌++◌, Err, rules, ◌≡◌, ℕ, List, None, ap, refl, subst, sym, ◌∙◌, arith}
use Rattle.std.proofs.lemmas.Result.{err_from_is_err_and}
use Rattle.tg_car.specs.State.{IsAtItsEnd}
use Rattle.tg_car.specs.declared.event.Event.{Event}
use Rattle.tg_car.specs.declared.event.Event.TheVariants as events
use Rattle.tg_cid.specs.Names.{Names}
use Rattle.tg_model.specs.Stores.{Kept, kept_in}
use Rattle.tg_model_laws.specs.Stores.{MayKeep}
use Rattle.tg_verify.specs.Refusals.{HasNameCause, HasRefused, IsNamedBlock}
use Rattle.tg_verify.specs.Steps.{section_with}
use Rattle.tg_model.specs.declared.stores.KeepFault.{KeepFault}
use Rattle.tg_streams.specs.Joining.{put_nothing}
use Rattle.tg_streams.specs.Streams.{into}
use Rattle.tg_client.specs.Received.{out_of_car}
use Rattle.tg_client.proofs.Kept.{none_kept, one_kept, stops_before}
use Rattle.tg_client.proofs.Stepping.{behind_last, header_refused, header_taken, is_fresh, past_received, reader_stops, reads_on, section_misnamed, section_refused, section_taken, section_unkept, some_of, stands_there, step_taken, wants_none, wants_some, within_piece}
use Rattle.tg_client.proofs.Terminals.{heard_header, heard_section, heard_still}
use Rattle.tg_client.proofs.body.CarBody.advance.Goals.{in-Header+in_ok-start-in-Header, in-Need, in-Section+in_ok-named-in-Section+in_ok-keep-in-Section+in_ok-section_named-in-Section}
use Rattle.tg_client.proofs.body.CarBody.advance.Goals as goal

pub returns-then-self-clause-kept : goal.returns-then-self-clause-kept
returns-then-self-clause-kept g c heard sections written h =
    stops_before c.args.self.now.verifier.left.query c.args.self.now.verifier.limits c.args.self.now.verifier.taken heard c.args.piece.now sections written (into g.S.Sink.sink c.args.out.now c.args.out.now)
    (kept_in g.K.Keep.keeper c.args.keep.now c.args.keep.now) _
    (past_received c.verified_answers.ensures c.args.self.now heard sections written h c.args.piece.now (into g.S.Sink.sink c.args.out.now c.args.out.now) c.if-self.true c.requires
    (put_nothing _ g.S.Sink.sink c.args.out.now (g.met.S.Sink.rests c.args.out.now)))
    (none_kept g.K.Keep.keeper c.args.keep.now (g.met.K.Keep.rests c.args.keep.now))

pub returns-then-is_none-clause-kept : goal.returns-then-is_none-clause-kept
returns-then-is_none-clause-kept g c heard sections written h =
    let none : c.want.result ≡ None = search rules in
    rw c.surplus.ensures
    (stops_before c.args.self.now.verifier.left.query c.args.self.now.verifier.limits c.args.self.now.verifier.taken heard c.args.piece.now sections written (into g.S.Sink.sink c.args.out.now c.args.out.now)
    (kept_in g.K.Keep.keeper c.args.keep.now c.args.keep.now) _
    (behind_last c.verified_answers.ensures c.args.self.now heard sections written h c.args.piece.now (into g.S.Sink.sink c.args.out.now c.args.out.now) (omega arith)
    (wants_none c.args.self.now.verifier.refused c.args.self.now.verifier.left.wanted h.fresh (sym c.want.ensures ∙ none)) c.requires
    (put_nothing _ g.S.Sink.sink c.args.out.now (g.met.S.Sink.rests c.args.out.now)))
    (none_kept g.K.Keep.keeper c.args.keep.now (g.met.K.Keep.rests c.args.keep.now)))

pub returns-in_err-taken-clause-kept : goal.returns-in_err-taken-clause-kept
returns-in_err-taken-clause-kept g c heard sections written h =
    let p = err_from_is_err_and c.from_residual.result c.from_residual.ensures.1 in
    let not_none : c.want.result ≡ None → ⊥ = λ e. search rules in
    let (cid, some) = some_of c.want.result not_none in
    let (at, wanted) = wants_some c.args.self.now.verifier.refused c.args.self.now.verifier.left.wanted cid (sym c.want.ensures ∙ some) in
    rw (p.1, p.2)
    (reader_stops c.verified_answers.ensures c.args.self.now heard sections written h c.feed.new.self c.args.piece.now c.min-room.result (into g.S.Sink.sink c.args.out.now c.args.out.now) (kept_in g.K.Keep.keeper c.args.keep.now c.args.keep.now)
    c.in_err-taken.field-0.0 at (omega arith) wanted (c.in_err-taken.ensures.stands _ h.reads) c.in_err-taken.ensures.limit
    (put_nothing _ g.S.Sink.sink c.args.out.now (g.met.S.Sink.rests c.args.out.now)) (none_kept g.K.Keep.keeper c.args.keep.now (g.met.K.Keep.rests c.args.keep.now)))

pub returns-in_err-start-in-Header-clause-kept : goal.returns-in_err-start-in-Header-clause-kept
returns-in_err-start-in-Header-clause-kept g c heard sections written h =
    let p = err_from_is_err_and c.from_residual-in_err-start-in-Header.result c.from_residual-in_err-start-in-Header.ensures.1 in
    let header : List ℕ = c.in-Header.field-0 in
    let reads = reads_on c.feed.new.self heard c.args.piece.now h.given c.min-room.result c.in_ok-taken.taken c.in_ok-taken.event (events.Header header)
    (c.in_ok-taken.ensures.stands _ h.reads) c.in_ok-taken.ensures.within c.in-Header.is in
    let e = c.in_err-start-in-Header in
    let bounds = within_piece c.args.piece.now c.min-room.result c.in_ok-taken.taken c.in_ok-taken.ensures.within in
    let out = into g.S.Sink.sink c.args.out.now c.start.new.out in
    let fresh = is_fresh c.verified_answers.ensures c.args.self.now heard sections written h c.received_sections.ensures c.feed.new.self c.start.new.self c.args.piece.now c.in_ok-taken.taken header out
    reads c.in_ok-taken.ensures.limit e.ensures.query e.ensures.limits in
    rw (p.1, p.2)
    (header_refused c.verified_answers.ensures c.args.self.now heard sections written h c.received_sections.ensures c.feed.new.self c.start.new.self c.args.piece.now c.in_ok-taken.taken header out
    reads c.in_ok-taken.ensures.limit e.ensures.query e.ensures.limits (kept_in g.K.Keep.keeper c.args.keep.now c.args.keep.now) e.field-0.0 (none_kept g.K.Keep.keeper c.args.keep.now (g.met.K.Keep.rests c.args.keep.now)) (e.ensures.stands fresh) e.ensures.refused (e.ensures.cause h.fresh) c.start.ensures.taken bounds.1 (omega arith))

pub returns-in_err-named-in-Section-clause-kept : goal.returns-in_err-named-in-Section-clause-kept
returns-in_err-named-in-Section-clause-kept g c heard sections written h =
    let p = err_from_is_err_and c.from_residual-in_err-named-in-Section.result c.from_residual-in_err-named-in-Section.ensures.1 in
    let not_none : c.want.result ≡ None → ⊥ = λ e. search rules in
    let (cid, some) = some_of c.want.result not_none in
    let (at, wanted) = wants_some c.args.self.now.verifier.refused c.args.self.now.verifier.left.wanted cid (sym c.want.ensures ∙ some) in
    let s = c.in-Section in
    let reads = reads_on c.feed.new.self heard c.args.piece.now h.given c.min-room.result c.in_ok-taken.taken c.in_ok-taken.event (events.Section s.at s.size s.section)
    (c.in_ok-taken.ensures.stands _ h.reads) c.in_ok-taken.ensures.within s.is in
    let bounds = within_piece c.args.piece.now c.min-room.result c.in_ok-taken.taken c.in_ok-taken.ensures.within in
    let e = c.in_err-named-in-Section in
    let out = (into g.S.Sink.sink c.args.out.now c.args.out.now) in
    let stands = stands_there c.verified_answers.ensures c.args.self.now heard sections written h c.received_sections.ensures c.feed.new.self c.args.self.now.verifier c.args.piece.now c.in_ok-taken.taken s.at s.size s.section out
    reads c.in_ok-taken.ensures.limit refl refl in
    rw (p.1, p.2)
    (section_misnamed c.verified_answers.ensures c.args.self.now heard sections written h c.received_sections.ensures c.feed.new.self c.args.self.now.verifier c.args.piece.now c.in_ok-taken.taken s.at s.size s.section
    out reads c.in_ok-taken.ensures.limit refl refl c.one_fit.ensures.either at wanted bounds.1 (omega arith) (omega arith)
    (kept_in g.K.Keep.keeper c.args.keep.now c.args.keep.now) e.field-0.0 (none_kept g.K.Keep.keeper c.args.keep.now (g.met.K.Keep.rests c.args.keep.now)) (subst (λ (block : List ℕ). HasNameCause c.args.self.now.verifier.limits (section_with s.section.cid block) e.field-0.0) c.as_slice.ensures (e.ensures.why at wanted))
    (subst (λ (block : List ℕ). HasRefused c.args.self.now.verifier.left.query c.args.self.now.verifier.limits (sections ++ section_with s.section.cid block ∷ []) written e.field-0.0)
    c.as_slice.ensures (e.ensures.refused sections written h.fresh stands))
    (put_nothing _ g.S.Sink.sink c.args.out.now (g.met.S.Sink.rests c.args.out.now)) refl)

pub returns-in_err-keep-in-Section-clause-kept : goal.returns-in_err-keep-in-Section-clause-kept
returns-in_err-keep-in-Section-clause-kept g c heard sections written h =
    let p = err_from_is_err_and c.from_residual-in_err-keep-in-Section.result c.from_residual-in_err-keep-in-Section.ensures.1 in
    let not_none : c.want.result ≡ None → ⊥ = λ e. search rules in
    let (cid, some) = some_of c.want.result not_none in
    let (at, wanted) = wants_some c.args.self.now.verifier.refused c.args.self.now.verifier.left.wanted cid (sym c.want.ensures ∙ some) in
    let s = c.in-Section in
    let reads = reads_on c.feed.new.self heard c.args.piece.now h.given c.min-room.result c.in_ok-taken.taken c.in_ok-taken.event (events.Section s.at s.size s.section)
    (c.in_ok-taken.ensures.stands _ h.reads) c.in_ok-taken.ensures.within s.is in
    let bounds = within_piece c.args.piece.now c.min-room.result c.in_ok-taken.taken c.in_ok-taken.ensures.within in
    let e = c.in_err-keep-in-Section in
    let out = (into g.S.Sink.sink c.args.out.now c.args.out.now) in
    rw (p.1, p.2)
    (section_unkept c.verified_answers.ensures c.args.self.now heard sections written h c.received_sections.ensures c.feed.new.self c.args.self.now.verifier c.args.piece.now c.in_ok-taken.taken s.at s.size s.section
    out reads c.in_ok-taken.ensures.limit refl refl c.one_fit.ensures.either at wanted bounds.1 (omega arith) (omega arith)
    (kept_in g.K.Keep.keeper c.args.keep.now c.keep.new.self) e.field-0.0
    (subst (λ (block : List ℕ). IsNamedBlock c.args.self.now.verifier.limits (section_with s.section.cid block)) c.as_slice.ensures c.in_ok-named-in-Section.ensures.named) (λ is. e.ensures.failed (ap (λ (f : KeepFault). Err f) is)) (λ is. e.ensures.memory (ap (λ (f : KeepFault). Err f) is)) e.ensures.err_kept
    (put_nothing _ g.S.Sink.sink c.args.out.now (g.met.S.Sink.rests c.args.out.now)))

pub returns-in_err-section_named-in-Section-clause-kept : goal.returns-in_err-section_named-in-Section-clause-kept
returns-in_err-section_named-in-Section-clause-kept g c heard sections written h =
    let p = err_from_is_err_and c.from_residual-in_err-section_named-in-Section.result c.from_residual-in_err-section_named-in-Section.ensures.1 in
    let not_none : c.want.result ≡ None → ⊥ = λ e. search rules in
    let (cid, some) = some_of c.want.result not_none in
    let (at, wanted) = wants_some c.args.self.now.verifier.refused c.args.self.now.verifier.left.wanted cid (sym c.want.ensures ∙ some) in
    let s = c.in-Section in
    let reads = reads_on c.feed.new.self heard c.args.piece.now h.given c.min-room.result c.in_ok-taken.taken c.in_ok-taken.event (events.Section s.at s.size s.section)
    (c.in_ok-taken.ensures.stands _ h.reads) c.in_ok-taken.ensures.within s.is in
    let bounds = within_piece c.args.piece.now c.min-room.result c.in_ok-taken.taken c.in_ok-taken.ensures.within in
    let e = c.in_err-section_named-in-Section in
    let out = into g.S.Sink.sink c.args.out.now c.section_named.new.out in
    let keeping = kept_in g.K.Keep.keeper c.args.keep.now c.keep.new.self in
    let stands = stands_there c.verified_answers.ensures c.args.self.now heard sections written h c.received_sections.ensures c.feed.new.self c.section_named.new.self c.args.piece.now c.in_ok-taken.taken s.at s.size s.section out
    reads c.in_ok-taken.ensures.limit e.ensures.query e.ensures.limits in
    let kept = one_kept (out_of_car s.section) keeping
    (subst (λ (block : List ℕ). MayKeep (section_with s.section.cid block)) c.as_slice.ensures c.in_ok-named-in-Section.ensures.kept)
    (subst (λ (block : List ℕ). Kept (section_with s.section.cid block ∷ []) keeping) c.as_slice-in-Section.ensures c.in_ok-keep-in-Section.ensures.kept)
    c.in_ok-keep-in-Section.ensures.quiet in
    rw (p.1, p.2)
    (section_refused c.verified_answers.ensures c.args.self.now heard sections written h c.received_sections.ensures c.feed.new.self c.section_named.new.self c.args.piece.now c.in_ok-taken.taken s.at s.size s.section
    out reads c.in_ok-taken.ensures.limit e.ensures.query e.ensures.limits c.one_fit.ensures.either at wanted bounds.1 (omega arith) (omega arith)
    keeping e.field-0.0 kept
    (subst (λ (block : List ℕ). Names s.section.cid block) c.as_slice.ensures c.in_ok-named-in-Section.ensures.named.named)
    (e.ensures.stands sections written h.fresh stands) e.ensures.refused (e.ensures.cause h.fresh) (e.ensures.counted h.fresh))

pub returns-clause-kept : goal.returns-clause-kept
returns-clause-kept g c heard sections written h =
    let bounds = within_piece c.args.piece.now c.min-room.result c.in_ok-taken.taken c.in_ok-taken.ensures.within in
    elim c.match-event.branch [
      | in-Section+in_ok-named-in-Section+in_ok-keep-in-Section+in_ok-section_named-in-Section w ↦
          let s = w.in-Section in
          let reads = reads_on c.feed.new.self heard c.args.piece.now h.given c.min-room.result c.in_ok-taken.taken c.in_ok-taken.event (events.Section s.at s.size s.section)
          (c.in_ok-taken.ensures.stands _ h.reads) c.in_ok-taken.ensures.within s.is in
          let o = w.in_ok-section_named-in-Section in
          let out = into g.S.Sink.sink c.args.out.now w.section_named.new.out in
          let stands = stands_there c.verified_answers.ensures c.args.self.now heard sections written h c.received_sections.ensures c.feed.new.self w.section_named.new.self c.args.piece.now c.in_ok-taken.taken s.at s.size s.section out
          reads c.in_ok-taken.ensures.limit o.ensures.query o.ensures.limits in
          let keeping = kept_in g.K.Keep.keeper c.args.keep.now w.keep.new.self in
          let kept = one_kept (out_of_car s.section) keeping
          (subst (λ (block : List ℕ). MayKeep (section_with s.section.cid block)) w.as_slice.ensures w.in_ok-named-in-Section.ensures.kept)
          (subst (λ (block : List ℕ). Kept (section_with s.section.cid block ∷ []) keeping) w.as_slice-in-Section.ensures w.in_ok-keep-in-Section.ensures.kept)
          w.in_ok-keep-in-Section.ensures.quiet in
          rw (w.self-is, w.keep-is, w.out-is)
          (section_taken c.verified_answers.ensures c.args.self.now heard sections written h c.received_sections.ensures c.feed.new.self w.section_named.new.self c.args.piece.now c.in_ok-taken.taken s.at s.size s.section
          out reads c.in_ok-taken.ensures.limit o.ensures.query o.ensures.limits o.field-0 _ keeping kept
          (o.ensures.stands sections written h.fresh stands) o.ensures.refused bounds.1 refl (omega arith)
          (subst (λ (event : Event). IsAtItsEnd event c.args.self.now.reader.came c.feed.new.self.came) s.is c.in_ok-taken.ensures.at_end))
      | in-Header+in_ok-start-in-Header w ↦
          let header : List ℕ = w.in-Header.field-0 in
          let reads = reads_on c.feed.new.self heard c.args.piece.now h.given c.min-room.result c.in_ok-taken.taken c.in_ok-taken.event (events.Header header)
          (c.in_ok-taken.ensures.stands _ h.reads) c.in_ok-taken.ensures.within w.in-Header.is in
          let o = w.in_ok-start-in-Header in
          let out = into g.S.Sink.sink c.args.out.now w.start.new.out in
          let fresh = is_fresh c.verified_answers.ensures c.args.self.now heard sections written h c.received_sections.ensures c.feed.new.self w.start.new.self c.args.piece.now c.in_ok-taken.taken header out
          reads c.in_ok-taken.ensures.limit o.ensures.query o.ensures.limits in
          rw (w.self-is, w.keep-is, w.out-is)
          (header_taken c.verified_answers.ensures c.args.self.now heard sections written h c.received_sections.ensures c.feed.new.self w.start.new.self c.args.piece.now c.in_ok-taken.taken header
          out reads c.in_ok-taken.ensures.limit o.ensures.query o.ensures.limits o.field-0 _ _ (none_kept g.K.Keep.keeper c.args.keep.now (g.met.K.Keep.rests c.args.keep.now))
          (o.ensures.stands fresh) o.ensures.refused bounds.1 refl (omega arith)
          (subst (λ (event : Event). IsAtItsEnd event c.args.self.now.reader.came c.feed.new.self.came) w.in-Header.is c.in_ok-taken.ensures.at_end))
      | in-Need w ↦
          let not_none : c.want.result ≡ None → ⊥ = λ e. search rules in
          let (cid, some) = some_of c.want.result not_none in
          let (at, wanted) = wants_some c.args.self.now.verifier.refused c.args.self.now.verifier.left.wanted cid (sym c.want.ensures ∙ some) in
          let reads = reads_on c.feed.new.self heard c.args.piece.now h.given c.min-room.result c.in_ok-taken.taken c.in_ok-taken.event events.Need
          (c.in_ok-taken.ensures.stands _ h.reads) c.in_ok-taken.ensures.within w.in-Need.is in
          rw (w.self-is, w.keep-is, w.out-is)
          (step_taken c.verified_answers.ensures c.args.self.now heard sections written h c.feed.new.self c.args.piece.now c.in_ok-taken.taken _
          (into g.S.Sink.sink c.args.out.now c.args.out.now) _ (none_kept g.K.Keep.keeper c.args.keep.now (g.met.K.Keep.rests c.args.keep.now))
          reads c.in_ok-taken.ensures.limit (put_nothing _ g.S.Sink.sink c.args.out.now (g.met.S.Sink.rests c.args.out.now)) bounds.1 refl (omega arith) at wanted)
    ]

pub returns-then-self-clause-terminal : goal.returns-then-self-clause-terminal
returns-then-self-clause-terminal g c heard sections written h = heard_still c.told_bodies.ensures c.args.self.now heard c.args.piece.now sections written h

pub returns-then-is_none-clause-terminal : goal.returns-then-is_none-clause-terminal
returns-then-is_none-clause-terminal g c heard sections written h = heard_still c.told_bodies.ensures c.args.self.now heard c.args.piece.now sections written h

pub returns-in_err-taken-clause-terminal : goal.returns-in_err-taken-clause-terminal
returns-in_err-taken-clause-terminal g c heard sections written h = heard_still c.told_bodies.ensures c.args.self.now heard c.args.piece.now sections written h

pub returns-in_err-named-in-Section-clause-terminal : goal.returns-in_err-named-in-Section-clause-terminal
returns-in_err-named-in-Section-clause-terminal g c heard sections written h = heard_still c.told_bodies.ensures c.args.self.now heard c.args.piece.now sections written h

pub returns-in_err-keep-in-Section-clause-terminal : goal.returns-in_err-keep-in-Section-clause-terminal
returns-in_err-keep-in-Section-clause-terminal g c heard sections written h = heard_still c.told_bodies.ensures c.args.self.now heard c.args.piece.now sections written h

pub returns-in_err-start-in-Header-clause-terminal : goal.returns-in_err-start-in-Header-clause-terminal
returns-in_err-start-in-Header-clause-terminal g c heard sections written h =
    let header : List ℕ = c.in-Header.field-0 in
    let reads = reads_on c.feed.new.self heard c.args.piece.now h.given c.min-room.result c.in_ok-taken.taken c.in_ok-taken.event (events.Header header)
    (c.in_ok-taken.ensures.stands _ h.reads) c.in_ok-taken.ensures.within c.in-Header.is in
    let e = c.in_err-start-in-Header.ensures in
    let out = into g.S.Sink.sink c.args.out.now c.start.new.out in
    let fresh = is_fresh c.verified_answers.ensures c.args.self.now heard sections written h c.received_sections.ensures c.feed.new.self c.start.new.self c.args.piece.now c.in_ok-taken.taken header out
    reads c.in_ok-taken.ensures.limit e.query e.limits in
    heard_header c.verified_answers.ensures c.args.self.now heard sections written h c.received_sections.ensures c.feed.new.self c.start.new.self c.args.piece.now c.in_ok-taken.taken out
    c.in_ok-taken.ensures.limit e.query e.limits header reads (e.terminal fresh)

pub returns-in_err-section_named-in-Section-clause-terminal : goal.returns-in_err-section_named-in-Section-clause-terminal
returns-in_err-section_named-in-Section-clause-terminal g c heard sections written h =
    let s = c.in-Section in
    let reads = reads_on c.feed.new.self heard c.args.piece.now h.given c.min-room.result c.in_ok-taken.taken c.in_ok-taken.event (events.Section s.at s.size s.section)
    (c.in_ok-taken.ensures.stands _ h.reads) c.in_ok-taken.ensures.within s.is in
    let e = c.in_err-section_named-in-Section.ensures in
    let out = into g.S.Sink.sink c.args.out.now c.section_named.new.out in
    let stands = stands_there c.verified_answers.ensures c.args.self.now heard sections written h c.received_sections.ensures c.feed.new.self c.section_named.new.self c.args.piece.now c.in_ok-taken.taken s.at s.size s.section out
    reads c.in_ok-taken.ensures.limit e.query e.limits in
    heard_section c.verified_answers.ensures c.args.self.now heard sections written h c.received_sections.ensures c.feed.new.self c.section_named.new.self c.args.piece.now c.in_ok-taken.taken out
    c.in_ok-taken.ensures.limit e.query e.limits s.at s.size s.section reads (e.terminal sections written h.fresh stands)

pub returns-clause-terminal : goal.returns-clause-terminal
returns-clause-terminal g c heard sections written h =
    elim c.match-event.branch [
      | in-Section+in_ok-named-in-Section+in_ok-keep-in-Section+in_ok-section_named-in-Section w ↦
          let s = w.in-Section in
          let reads = reads_on c.feed.new.self heard c.args.piece.now h.given c.min-room.result c.in_ok-taken.taken c.in_ok-taken.event (events.Section s.at s.size s.section)
          (c.in_ok-taken.ensures.stands _ h.reads) c.in_ok-taken.ensures.within s.is in
          let o = w.in_ok-section_named-in-Section.ensures in
          let out = into g.S.Sink.sink c.args.out.now w.section_named.new.out in
          let stands = stands_there c.verified_answers.ensures c.args.self.now heard sections written h c.received_sections.ensures c.feed.new.self w.section_named.new.self c.args.piece.now c.in_ok-taken.taken s.at s.size s.section out
          reads c.in_ok-taken.ensures.limit o.query o.limits in
          rw (w.self-is)
          (heard_section c.verified_answers.ensures c.args.self.now heard sections written h c.received_sections.ensures c.feed.new.self w.section_named.new.self c.args.piece.now c.in_ok-taken.taken out
          c.in_ok-taken.ensures.limit o.query o.limits s.at s.size s.section reads (o.terminal sections written h.fresh stands))
      | in-Header+in_ok-start-in-Header w ↦
          let header : List ℕ = w.in-Header.field-0 in
          let reads = reads_on c.feed.new.self heard c.args.piece.now h.given c.min-room.result c.in_ok-taken.taken c.in_ok-taken.event (events.Header header)
          (c.in_ok-taken.ensures.stands _ h.reads) c.in_ok-taken.ensures.within w.in-Header.is in
          let o = w.in_ok-start-in-Header.ensures in
          let out = into g.S.Sink.sink c.args.out.now w.start.new.out in
          let fresh = is_fresh c.verified_answers.ensures c.args.self.now heard sections written h c.received_sections.ensures c.feed.new.self w.start.new.self c.args.piece.now c.in_ok-taken.taken header out
          reads c.in_ok-taken.ensures.limit o.query o.limits in
          rw (w.self-is)
          (heard_header c.verified_answers.ensures c.args.self.now heard sections written h c.received_sections.ensures c.feed.new.self w.start.new.self c.args.piece.now c.in_ok-taken.taken out
          c.in_ok-taken.ensures.limit o.query o.limits header reads (o.terminal fresh))
      | in-Need w ↦ rw (w.self-is) (heard_still c.told_bodies.ensures c.args.self.now heard c.args.piece.now sections written h)
    ]
