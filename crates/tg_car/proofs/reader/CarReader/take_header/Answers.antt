use Rattle.std.proofs.Common.{◌≡◌, ◌<◌, ◌≤◌, length, take, true, ap, ◌∙◌, refl, subst, arith}
use Rattle.std.proofs.lemmas.List.{length-take-le}
use Rattle.std.proofs.lemmas.Result.{err_from_is_err_and}
use Rattle.tg_car.specs.declared.event.Event.TheVariants.{Need, Header}
use Rattle.tg_car.specs.declared.fault.CarFault.TheVariants.{BadHeader, OutOfMemory}
use Rattle.tg_car.specs.State.{ReaderState}
use Rattle.tg_car.proofs.States.{state_of}
use Rattle.tg_car.specs.Steps.{Stops}
use Rattle.tg_car.proofs.Feeding.{header_bad, header_done, header_memory, header_more, steps_from, stops_from, taken_within}
use Rattle.tg_car.proofs.reader.CarReader.take_header.Goals as goal

pub returns-in_default : goal.returns-in_default
returns-in_default c =
    let old : ReaderState = state_of c.self.inside in
    let was : c.self.inside.in_header ≡ true = ap (λ (s : ReaderState). s.in_header) c.self.view_is ∙ c.requires in
    subst (λ (s : ReaderState). Stops s s c.args.piece.now (BadHeader 0)) c.self.view_is
    (header_bad c.text_laws.ensures old c.args.piece.now was c.in_default.ensures.bytes)

pub returns-in_err-keep : goal.returns-in_err-keep
returns-in_err-keep c =
    let old : ReaderState = state_of c.self.inside in
    let was : c.self.inside.in_header ≡ true = ap (λ (s : ReaderState). s.in_header) c.self.view_is ∙ c.requires in
    let found = c.in-Some.found in
    let most : found.taken ≤ length c.args.piece.now = taken_within found.whole c.args.piece.now found.taken c.in-Some.ensures.taken in
    let some : 0 < length (take found.taken c.args.piece.now) = c.in_err-keep.ensures.some in
    let new : ReaderState = record old { text = c.keep.new.text.items } in
    let p = err_from_is_err_and c.from_residual.result c.from_residual.ensures.1 in
    rw (p.1, p.2) (stops_from old c.args.self.now new c.args.piece.now OutOfMemory c.self.view_is
    (header_memory c.text_laws.ensures old new c.args.piece.now found.taken found.state found.whole refl was
    (omega (arith, length-take-le found.taken c.args.piece.now most)) c.in-Some.ensures.taken c.in-Some.ensures.bytes))

pub returns-then-found : goal.returns-then-found
returns-then-found c =
    let old : ReaderState = state_of c.self.inside in
    let was : c.self.inside.in_header ≡ true = ap (λ (s : ReaderState). s.in_header) c.self.view_is ∙ c.requires in
    let found = c.in-Some.found in
    steps_from old _ _ c.args.piece.now found.taken (Header c.from.result) c.self.view_is
    (header_done c.text_laws.ensures old _ c.args.piece.now c.from.result found.taken found.state found.whole refl refl was refl refl (c.from.ensures ∙ rw c.replace-text.ensures.value c.in_ok-keep.ensures.items)
    c.saturating_add-self-inside.ensures c.if-found.true c.in-Some.ensures.taken c.in-Some.ensures.bytes)

pub returns : goal.returns
returns c =
    let old : ReaderState = state_of c.self.inside in
    let was : c.self.inside.in_header ≡ true = ap (λ (s : ReaderState). s.in_header) c.self.view_is ∙ c.requires in
    let found = c.in-Some.found in
    steps_from old _ _ c.args.piece.now found.taken Need c.self.view_is
    (header_more old _ c.args.piece.now found.taken found.whole refl refl was was refl c.in_ok-keep.ensures.items
    c.saturating_add-self-inside.ensures c.if-found.false c.in-Some.ensures.taken c.in-Some.ensures.bytes)
