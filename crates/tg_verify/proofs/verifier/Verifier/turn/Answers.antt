use Rattle.std.proofs.Common.{All, Err, List, Ok, Option, subst, sym, true, ℕ, ◌<◌, ◌∙◌, ◌≡◌}
use Rattle.std.proofs.lemmas.Result.{err_from_is_err_and}
use Rattle.tg_cid.specs.Cid.{CidParts}
use Rattle.tg_streams.specs.Streams.{into}
use Rattle.tg_verify.proofs.Turning.{IsKnownHere, known_here, led_turned, lists_front, not_told, place_opened, place_refused, sent_where_unknown, told_at, wants_memory, wants_section}
use Rattle.tg_verify.specs.History.{HasGone}
use Rattle.tg_verify.specs.State.{OpenerState, VerifierState, listed_of}
use Rattle.tg_verify.specs.Steps.{IsKnownBlock, section_with, source_of}
use Rattle.tg_verify.specs.declared.fault.Refusal.TheVariants as refusals
use Rattle.tg_verify.specs.Taken.{IsOn}
use Rattle.tg_model.specs.Traversal.{is_sent_behind}
use Rattle.tg_verify.specs.declared.counts.Source.{Source}
use Rattle.tg_verify.specs.declared.verifier.Progress.TheVariants as progresses
use Rattle.tg_verify.proofs.verifier.Verifier.turn.Goals as goal

pub returns-in_err-put_kept_lines-clause-stands : goal.returns-in_err-put_kept_lines-clause-stands
returns-in_err-put_kept_lines-clause-stands g c sections written h =
    let p = err_from_is_err_and c.from_residual.result c.from_residual.ensures.1 in
    let on = subst (λ (state : VerifierState). IsOn state sections written) (sym c.self.view_is) h in
    let none = not_told c.self.inside.opener.left.wanted (sym c.wanted.ensures ∙ c.in_default.is) in
    let out = into g.S.Sink.sink c.args.out.now c.put_kept_lines.new.out in
    rw (p.1, p.2) (subst
    (λ (o : OpenerState).
    HasGone (record { left = o.left; limits = o.limits; lines = o.lines; counts = o.counts; terminal = o.terminal; seen = c.self.inside.seen.entries; taken = c.self.inside.taken; refused = c.self.inside.refused })
    sections written out (Err c.in_err-put_kept_lines.field-0.0)) (sym c.put_kept_lines.ensures.others)
    (lists_front c.verified_sections.ensures c.readings.ensures.computed _ sections written on out c.in_err-put_kept_lines.field-0.0 none
    (c.in_err-put_kept_lines.ensures.put (listed_of c.self.inside.opener.left.query.scope on.given.met) on.lines)))

pub returns-in_err-block-clause-stands : goal.returns-in_err-block-clause-stands
returns-in_err-block-clause-stands g c sections written h =
    let p = err_from_is_err_and c.from_residual-in_err-block.result c.from_residual-in_err-block.ensures.1 in
    let on = subst (λ (state : VerifierState). IsOn state sections written) (sym c.self.view_is) h in
    let told = told_at c.self.inside.opener.left.wanted c.in-Some.wanted (sym c.wanted.ensures ∙ c.in-Some.is) in
    let section = section_with c.in-Some.wanted.cid c.in_err-block.ensures.0 in
    let known = known_here c.asks-asked.result c.self.inside.opener.left.query c.self.inside.seen.entries sections c.in-Some.wanted.cid c.in_err-block.ensures.0 (sym c.asks-asked.ensures)
    on.keeps.remembers c.in_err-block.ensures.1 in
    rw (p.1, p.2) (subst (λ (state : VerifierState). HasGone state sections written (into g.S.Sink.sink c.args.out.now c.args.out.now) (Err refusals.OutOfMemory)) c.self.view_is
    (wants_memory c.verified_sections.ensures c.readings.ensures.computed _ sections written on told.at told.is section (source_of c.asks-asked.result) (sym told.cid_is) known c.in_err-block.ensures.2
    g.S.Sink.sink c.args.out.now (g.met.S.Sink.rests c.args.out.now)))

pub returns-in_default-2-clause-stands : goal.returns-in_default-2-clause-stands
returns-in_default-2-clause-stands g c sections written h =
    let on = subst (λ (state : VerifierState). IsOn state sections written) (sym c.self.view_is) h in
    let told = told_at c.self.inside.opener.left.wanted c.in-Some.wanted (sym c.wanted.ensures ∙ c.in-Some.is) in
    let none = subst (λ (found : Option (List ℕ)). IsKnownBlock c.asks-asked.result c.self.inside.seen.entries c.in-Some.wanted.cid found) c.in_default-2.is c.in_ok-block.ensures in
    let sends = sent_where_unknown c.asks-asked.result c.self.inside.opener.left.query c.self.inside.seen.entries sections c.in-Some.wanted.cid (sym c.asks-asked.ensures) on.keeps.remembers none in
    subst (λ (state : VerifierState). HasGone state sections written (into g.S.Sink.sink c.args.out.now c.args.out.now) (Ok progresses.More)) c.self.view_is
    (wants_section c.verified_sections.ensures c.readings.ensures.computed _ sections written on g.S.Sink.sink c.args.out.now (g.met.S.Sink.rests c.args.out.now) told.at told.is
    (subst (λ (cid : CidParts). is_sent_behind c.self.inside.opener.left.query sections cid ≡ true) (sym told.cid_is) sends))

pub returns-in_err-place-clause-stands : goal.returns-in_err-place-clause-stands
returns-in_err-place-clause-stands g c sections written h =
    let p = err_from_is_err_and c.from_residual-in_err-place.result c.from_residual-in_err-place.ensures.1 in
    let on = subst (λ (state : VerifierState). IsOn state sections written) (sym c.self.view_is) h in
    let told = told_at c.self.inside.opener.left.wanted c.in-Some.wanted (sym c.wanted.ensures ∙ c.in-Some.is) in
    let section = section_with c.in-Some.wanted.cid c.in-Some-2.block in
    let found = subst (λ (found : Option (List ℕ)). IsKnownBlock c.asks-asked.result c.self.inside.seen.entries c.in-Some.wanted.cid found) c.in-Some-2.is c.in_ok-block.ensures in
    let known = subst (λ (source : Source). IsKnownHere c.self.inside.opener.left.query sections section source) (sym c.source_of.ensures)
    (known_here c.asks-asked.result c.self.inside.opener.left.query c.self.inside.seen.entries sections c.in-Some.wanted.cid c.in-Some-2.block (sym c.asks-asked.ensures) on.keeps.remembers found) in
    let bytes = subst (λ (block : List ℕ). All (λ b. b < 256) block) c.as_slice.ensures c.are_bytes.ensures in
    rw (p.1, p.2) (place_refused c.verified_sections.ensures c.readings.ensures.computed _ sections written on told.at told.is section c.source_of.result (sym told.cid_is) known bytes
    (into g.S.Sink.sink c.args.out.now c.place.new.out) c.place.new.self c.in_err-place.field-0.0 c.in_err-place.ensures.same (c.in_err-place.ensures.placed told.at told.is))

pub returns-clause-stands : goal.returns-clause-stands
returns-clause-stands g c sections written h =
    let on = subst (λ (state : VerifierState). IsOn state sections written) (sym c.self.view_is) h in
    let told = told_at c.self.inside.opener.left.wanted c.in-Some.wanted (sym c.wanted.ensures ∙ c.in-Some.is) in
    let section = section_with c.in-Some.wanted.cid c.in-Some-2.block in
    let found = subst (λ (found : Option (List ℕ)). IsKnownBlock c.asks-asked.result c.self.inside.seen.entries c.in-Some.wanted.cid found) c.in-Some-2.is c.in_ok-block.ensures in
    let known = subst (λ (source : Source). IsKnownHere c.self.inside.opener.left.query sections section source) (sym c.source_of.ensures)
    (known_here c.asks-asked.result c.self.inside.opener.left.query c.self.inside.seen.entries sections c.in-Some.wanted.cid c.in-Some-2.block (sym c.asks-asked.ensures) on.keeps.remembers found) in
    let bytes = subst (λ (block : List ℕ). All (λ b. b < 256) block) c.as_slice.ensures c.are_bytes.ensures in
    place_opened c.verified_sections.ensures c.readings.ensures.computed _ sections written on told.at told.is section c.source_of.result (sym told.cid_is) known bytes
    (into g.S.Sink.sink c.args.out.now c.place.new.out) c.place.new.self c.in_ok-place.ensures.same (c.in_ok-place.ensures.placed told.at told.is)

pub returns-in_err-place-clause-terminal : goal.returns-in_err-place-clause-terminal
returns-in_err-place-clause-terminal g c sections written h =
    let on = subst (λ (state : VerifierState). IsOn state sections written) (sym c.self.view_is) h in
    let told = told_at c.self.inside.opener.left.wanted c.in-Some.wanted (sym c.wanted.ensures ∙ c.in-Some.is) in
    let section = section_with c.in-Some.wanted.cid c.in-Some-2.block in
    let found = subst (λ (found : Option (List ℕ)). IsKnownBlock c.asks-asked.result c.self.inside.seen.entries c.in-Some.wanted.cid found) c.in-Some-2.is c.in_ok-block.ensures in
    let known = subst (λ (source : Source). IsKnownHere c.self.inside.opener.left.query sections section source) (sym c.source_of.ensures)
    (known_here c.asks-asked.result c.self.inside.opener.left.query c.self.inside.seen.entries sections c.in-Some.wanted.cid c.in-Some-2.block (sym c.asks-asked.ensures) on.keeps.remembers found) in
    let bytes = subst (λ (block : List ℕ). All (λ b. b < 256) block) c.as_slice.ensures c.are_bytes.ensures in
    led_turned c.verified_sections.ensures c.readings.ensures.computed _ sections written on told.at told.is section c.source_of.result (sym told.cid_is) known bytes
    c.place.new.self c.in_err-place.ensures.same (c.in_err-place.ensures.terminal told.at told.is)

pub returns-clause-terminal : goal.returns-clause-terminal
returns-clause-terminal g c sections written h =
    let on = subst (λ (state : VerifierState). IsOn state sections written) (sym c.self.view_is) h in
    let told = told_at c.self.inside.opener.left.wanted c.in-Some.wanted (sym c.wanted.ensures ∙ c.in-Some.is) in
    let section = section_with c.in-Some.wanted.cid c.in-Some-2.block in
    let found = subst (λ (found : Option (List ℕ)). IsKnownBlock c.asks-asked.result c.self.inside.seen.entries c.in-Some.wanted.cid found) c.in-Some-2.is c.in_ok-block.ensures in
    let known = subst (λ (source : Source). IsKnownHere c.self.inside.opener.left.query sections section source) (sym c.source_of.ensures)
    (known_here c.asks-asked.result c.self.inside.opener.left.query c.self.inside.seen.entries sections c.in-Some.wanted.cid c.in-Some-2.block (sym c.asks-asked.ensures) on.keeps.remembers found) in
    let bytes = subst (λ (block : List ℕ). All (λ b. b < 256) block) c.as_slice.ensures c.are_bytes.ensures in
    led_turned c.verified_sections.ensures c.readings.ensures.computed _ sections written on told.at told.is section c.source_of.result (sym told.cid_is) known bytes
    c.place.new.self c.in_ok-place.ensures.same (c.in_ok-place.ensures.terminal told.at told.is)
