use Rattle.std.proofs.Common.{[], All, Contains, Err, List, Ok, ap, refl, subst, sym, ℕ, ◌++◌, ◌<◌, ◌∙◌, ◌∷◌}
use Rattle.std.proofs.lemmas.Result.{err_from_is_err_and}
use Rattle.tg_cid.specs.Cid.{CidParts}
use Rattle.tg_streams.specs.Streams.{into}
use Rattle.tg_verify.proofs.Naming.{met_received}
use Rattle.tg_verify.proofs.Opened.{placed_cause}
use Rattle.tg_verify.proofs.Taking.{HasReceived, going_led, led_taken, place_refused, place_taken, receipt_refused, room_refused, wanted_there}
use Rattle.tg_verify.specs.State.{VerifierState}
use Rattle.tg_verify.specs.Steps.{IsPlacedAt, IsToldBehind, section_with}
use Rattle.tg_verify.specs.Taken.{IsGoing}
use Rattle.tg_verify.specs.declared.counts.Source.TheVariants as sources
use Rattle.tg_verify.proofs.verifier.Verifier.accept.Goals as goal

pub returns-in_err-meets-clause-stands : goal.returns-in_err-meets-clause-stands
returns-in_err-meets-clause-stands g c sections written h =
    let p = err_from_is_err_and c.from_residual.result c.from_residual.ensures.1 in
    let bytes = subst (λ (block : List ℕ). All (λ b. b < 256) block) c.as_slice.ensures c.are_bytes.ensures in
    let received : HasReceived c.args.self.now (section_with c.args.cid c.args.block) (Err c.in_err-meets.field-0.0) =
    met_received c.args.self.now (section_with c.args.cid c.args.block) (Err c.in_err-meets.field-0.0) c.requires.named c.in_err-meets.ensures.surplus c.in_err-meets.ensures.met in
    rw (p.1, p.2) (receipt_refused c.args.self.now sections written h (section_with c.args.cid c.args.block) bytes g.S.Sink.sink c.args.out.now (g.met.S.Sink.rests c.args.out.now)
    c.in_err-meets.field-0.0 received)

pub returns-in_err-make_room-clause-stands : goal.returns-in_err-make_room-clause-stands
returns-in_err-make_room-clause-stands g c sections written h =
    let p = err_from_is_err_and c.from_residual-in_err-make_room.result c.from_residual-in_err-make_room.ensures.1 in
    let bytes = subst (λ (block : List ℕ). All (λ b. b < 256) block) c.as_slice.ensures c.are_bytes.ensures in
    let received : HasReceived c.args.self.now (section_with c.args.cid c.args.block) (Ok tt) =
    met_received c.args.self.now (section_with c.args.cid c.args.block) (Ok tt) c.requires.named c.in_ok-meets.ensures.surplus c.in_ok-meets.ensures.met in
    let going = subst (λ (state : VerifierState). IsGoing state sections written) (sym c.self.view_is) h in
    let there = wanted_there _ (section_with c.args.cid c.args.block)
    (subst (λ (state : VerifierState). HasReceived state (section_with c.args.cid c.args.block) (Ok tt)) (sym c.self.view_is) received) in
    let refused = room_refused _ sections written going (section_with c.args.cid c.args.block) bytes g.S.Sink.sink c.args.out.now (g.met.S.Sink.rests c.args.out.now) there in
    rw (p.1, p.2) (record { text = refused.text; put = refused.put; puts = refused.puts; stands = refused.stands })

pub returns-in_err-block-clause-stands : goal.returns-in_err-block-clause-stands
returns-in_err-block-clause-stands g c sections written h =
    let p = err_from_is_err_and c.from_residual-in_err-block.result c.from_residual-in_err-block.ensures.1 in
    let bytes = subst (λ (block : List ℕ). All (λ b. b < 256) block) c.as_slice.ensures c.are_bytes.ensures in
    let received : HasReceived c.args.self.now (section_with c.args.cid c.args.block) (Ok tt) =
    met_received c.args.self.now (section_with c.args.cid c.args.block) (Ok tt) c.requires.named c.in_ok-meets.ensures.surplus c.in_ok-meets.ensures.met in
    let going = subst (λ (state : VerifierState). IsGoing state sections written) (sym c.self.view_is) h in
    let there = wanted_there _ (section_with c.args.cid c.args.block)
    (subst (λ (state : VerifierState). HasReceived state (section_with c.args.cid c.args.block) (Ok tt)) (sym c.self.view_is) received) in
    let refused = room_refused _ sections written going (section_with c.args.cid c.args.block) bytes g.S.Sink.sink c.args.out.now (g.met.S.Sink.rests c.args.out.now) there in
    rw (p.1, p.2) (record { text = refused.text; put = refused.put; puts = refused.puts; stands = refused.stands })

pub returns-in_err-place-clause-stands : goal.returns-in_err-place-clause-stands
returns-in_err-place-clause-stands g c sections written h =
    let p = err_from_is_err_and c.from_residual-in_err-place.result c.from_residual-in_err-place.ensures.1 in
    let bytes = subst (λ (block : List ℕ). All (λ b. b < 256) block) c.as_slice.ensures c.are_bytes.ensures in
    let received : HasReceived c.args.self.now (section_with c.args.cid c.args.block) (Ok tt) =
    met_received c.args.self.now (section_with c.args.cid c.args.block) (Ok tt) c.requires.named c.in_ok-meets.ensures.surplus c.in_ok-meets.ensures.met in
    let going = subst (λ (state : VerifierState). IsGoing state sections written) (sym c.self.view_is) h in
    let there = wanted_there _ (section_with c.args.cid c.args.block)
    (subst (λ (state : VerifierState). HasReceived state (section_with c.args.cid c.args.block) (Ok tt)) (sym c.self.view_is) received) in
    let out = into g.S.Sink.sink c.args.out.now c.place.new.out in
    rw (p.1, p.2) (place_refused _ sections written going (section_with c.args.cid c.args.block) bytes c.verified_sections.ensures c.readings.ensures.computed there out c.place.new.self _
    c.in_err-place.field-0.0 c.in_err-place.ensures.same.query c.in_err-place.ensures.same.limits
    (subst (λ (block : List ℕ). IsPlacedAt c.self.inside.opener there.at (section_with c.args.cid block) sources.Section out c.place.new.self (Err c.in_err-place.field-0.0)) c.in_ok-block.ensures
    (c.in_err-place.ensures.placed there.at there.wanted)))

pub returns-in_err-place-clause-cause : goal.returns-in_err-place-clause-cause
returns-in_err-place-clause-cause g c =
    let p = err_from_is_err_and c.from_residual-in_err-place.result c.from_residual-in_err-place.ensures.1 in
    let received : HasReceived c.args.self.now (section_with c.args.cid c.args.block) (Ok tt) =
    met_received c.args.self.now (section_with c.args.cid c.args.block) (Ok tt) c.requires.named c.in_ok-meets.ensures.surplus c.in_ok-meets.ensures.met in
    let there = wanted_there _ (section_with c.args.cid c.args.block)
    (subst (λ (state : VerifierState). HasReceived state (section_with c.args.cid c.args.block) (Ok tt)) (sym c.self.view_is) received) in
    rw (p.1, p.2) (placed_cause c.self.inside.opener there.at (section_with c.args.cid c.in_ok-block.block) sources.Section (into g.S.Sink.sink c.args.out.now c.place.new.out) c.place.new.self
    c.in_err-place.field-0.0 (c.in_err-place.ensures.placed there.at there.wanted))

pub returns-clause-stands : goal.returns-clause-stands
returns-clause-stands g c sections written h =
    let bytes = subst (λ (block : List ℕ). All (λ b. b < 256) block) c.as_slice.ensures c.are_bytes.ensures in
    let received : HasReceived c.args.self.now (section_with c.args.cid c.args.block) (Ok tt) =
    met_received c.args.self.now (section_with c.args.cid c.args.block) (Ok tt) c.requires.named c.in_ok-meets.ensures.surplus c.in_ok-meets.ensures.met in
    let going = subst (λ (state : VerifierState). IsGoing state sections written) (sym c.self.view_is) h in
    let there = wanted_there _ (section_with c.args.cid c.args.block)
    (subst (λ (state : VerifierState). HasReceived state (section_with c.args.cid c.args.block) (Ok tt)) (sym c.self.view_is) received) in
    let out = into g.S.Sink.sink c.args.out.now c.place.new.out in
    place_taken _ sections written going (section_with c.args.cid c.args.block) bytes c.verified_sections.ensures c.readings.ensures.computed there out c.place.new.self _
    c.in_ok-place.ensures.same refl refl refl refl refl (record {
      all = λ dups. c.remember.ensures.all (c.self.invariant ∙ dups) ∙ c.make_room.ensures.unchanged;
      each = λ dups none. c.remember.ensures.once (c.self.invariant ∙ dups)
          (λ other there. none other (subst (λ (seen : List (CidParts × List ℕ)). Contains seen (c.args.cid, other)) c.make_room.ensures.unchanged there))
          ∙ ap (λ (seen : List (CidParts × List ℕ)). seen ++ (c.args.cid, c.in_ok-block.block) ∷ []) c.make_room.ensures.unchanged
          ∙ ap (λ (block : List ℕ). c.self.inside.seen.entries ++ (c.args.cid, block) ∷ []) c.in_ok-block.ensures;
      taken = c.saturating_add-self-inside.ensures;
    })
    (subst (λ (block : List ℕ). IsPlacedAt c.self.inside.opener there.at (section_with c.args.cid block) sources.Section out c.place.new.self (Ok tt)) c.in_ok-block.ensures
    (c.in_ok-place.ensures.placed there.at there.wanted))

pub returns-in_err-place-clause-terminal : goal.returns-in_err-place-clause-terminal
returns-in_err-place-clause-terminal g c sections written h =
    let bytes = subst (λ (block : List ℕ). All (λ b. b < 256) block) c.as_slice.ensures c.are_bytes.ensures in
    let received : HasReceived c.args.self.now (section_with c.args.cid c.args.block) (Ok tt) =
    met_received c.args.self.now (section_with c.args.cid c.args.block) (Ok tt) c.requires.named c.in_ok-meets.ensures.surplus c.in_ok-meets.ensures.met in
    let going = subst (λ (state : VerifierState). IsGoing state sections written) (sym c.self.view_is) h in
    let there = wanted_there _ (section_with c.args.cid c.args.block)
    (subst (λ (state : VerifierState). HasReceived state (section_with c.args.cid c.args.block) (Ok tt)) (sym c.self.view_is) received) in
    led_taken _ sections written going (section_with c.args.cid c.args.block) bytes c.verified_sections.ensures c.readings.ensures.computed there c.place.new.self
    c.in_err-place.ensures.same.query
    (subst (λ (block : List ℕ). IsToldBehind c.self.inside.opener there.at (section_with c.args.cid block) c.place.new.self.terminal) c.in_ok-block.ensures
    (c.in_err-place.ensures.terminal there.at there.wanted))

pub returns-clause-terminal : goal.returns-clause-terminal
returns-clause-terminal g c sections written h =
    let bytes = subst (λ (block : List ℕ). All (λ b. b < 256) block) c.as_slice.ensures c.are_bytes.ensures in
    let received : HasReceived c.args.self.now (section_with c.args.cid c.args.block) (Ok tt) =
    met_received c.args.self.now (section_with c.args.cid c.args.block) (Ok tt) c.requires.named c.in_ok-meets.ensures.surplus c.in_ok-meets.ensures.met in
    let going = subst (λ (state : VerifierState). IsGoing state sections written) (sym c.self.view_is) h in
    let there = wanted_there _ (section_with c.args.cid c.args.block)
    (subst (λ (state : VerifierState). HasReceived state (section_with c.args.cid c.args.block) (Ok tt)) (sym c.self.view_is) received) in
    led_taken _ sections written going (section_with c.args.cid c.args.block) bytes c.verified_sections.ensures c.readings.ensures.computed there c.place.new.self
    c.in_ok-place.ensures.same.query
    (subst (λ (block : List ℕ). IsToldBehind c.self.inside.opener there.at (section_with c.args.cid block) c.place.new.self.terminal) c.in_ok-block.ensures
    (c.in_ok-place.ensures.terminal there.at there.wanted))

pub returns-in_err-meets-clause-terminal : goal.returns-in_err-meets-clause-terminal
returns-in_err-meets-clause-terminal g c sections written h = going_led c.args.self.now sections (section_with c.args.cid c.args.block ∷ []) written h

pub returns-in_err-make_room-clause-terminal : goal.returns-in_err-make_room-clause-terminal
returns-in_err-make_room-clause-terminal g c sections written h =
    going_led _ sections (section_with c.args.cid c.args.block ∷ []) written (subst (λ (state : VerifierState). IsGoing state sections written) (sym c.self.view_is) h)

pub returns-in_err-block-clause-terminal : goal.returns-in_err-block-clause-terminal
returns-in_err-block-clause-terminal g c sections written h =
    going_led _ sections (section_with c.args.cid c.args.block ∷ []) written (subst (λ (state : VerifierState). IsGoing state sections written) (sym c.self.view_is) h)
