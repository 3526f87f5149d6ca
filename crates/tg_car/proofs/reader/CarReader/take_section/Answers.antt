use Rattle.std.proofs.Common.{◌≡◌, false, ap, ◌∙◌, refl, subst}
use Rattle.tg_car.specs.declared.event.Event.TheVariants.{Need, Section}
use Rattle.tg_car.specs.declared.fault.CarFault.TheVariants.{BadSection, BlockLimit, OutOfMemory}
use Rattle.tg_car.specs.Filling.{came_of}
use Rattle.tg_car.specs.State.{ReaderState}
use Rattle.tg_car.proofs.States.{state_of}
use Rattle.tg_car.specs.Steps.{Steps, Stops}
use Rattle.tg_car.proofs.Feeding.{section_more, section_done, section_bad, section_above, section_memory}
use Rattle.tg_car.proofs.reader.CarReader.take_section.Goals as goal

pub returns-in-Ok-default-None : goal.returns-in-Ok-default-None
returns-in-Ok-default-None c =
    let old : ReaderState = state_of c.self.inside in
    let was : c.self.inside.in_header ≡ false = ap (λ (s : ReaderState). s.in_header) c.self.view_is ∙ c.requires in
    let new : ReaderState = record old { came = came_of c.take.new.self } in
    subst (λ (s : ReaderState). Steps s new c.args.piece.now c.in-Ok-default-None.taken Need) c.self.view_is
    (section_more old new c.args.piece.now c.in-Ok-default-None.taken refl refl was was refl
    (rw c.in-Ok-default-None.field-0-1-is at c.in-Ok-default-None.ensures.took))

pub returns-in-Ok-default-Some : goal.returns-in-Ok-default-Some
returns-in-Ok-default-Some c =
    let old : ReaderState = state_of c.self.inside in
    let was : c.self.inside.in_header ≡ false = ap (λ (s : ReaderState). s.in_header) c.self.view_is ∙ c.requires in
    let size = c.saturating_add-size.result in
    let new : ReaderState = record old { place = c.saturating_add-self-inside.result; came = came_of c.take.new.self } in
    subst (λ (s : ReaderState). Steps s new c.args.piece.now c.in-Ok-default-Some.taken (Section c.self.inside.place size c.in-Ok-default-Some.section)) c.self.view_is
    (section_done c.text_laws.ensures old new c.args.piece.now
    c.in-Ok-default-Some.taken c.len-came.result size c.in-Ok-default-Some.section refl refl was was c.len-came.ensures c.saturating_add-size.ensures
    c.saturating_add-self-inside.ensures (rw c.in-Ok-default-Some.field-0-1-is at c.in-Ok-default-Some.ensures.took))

pub returns-in-Err-Bad : goal.returns-in-Err-Bad
returns-in-Err-Bad c =
    let old : ReaderState = state_of c.self.inside in
    let was : c.self.inside.in_header ≡ false = ap (λ (s : ReaderState). s.in_header) c.self.view_is ∙ c.requires in
    let new : ReaderState = record old { came = came_of c.take.new.self } in
    subst (λ (s : ReaderState). Stops s new c.args.piece.now (BadSection c.self.inside.place)) c.self.view_is
    (section_bad c.text_laws.ensures old new c.args.piece.now c.self.inside.place refl was refl
    (rw c.in-Err-Bad.field-0-is at c.in-Err-Bad.ensures.took))

pub returns-in-Err-AboveLimit : goal.returns-in-Err-AboveLimit
returns-in-Err-AboveLimit c =
    let old : ReaderState = state_of c.self.inside in
    let was : c.self.inside.in_header ≡ false = ap (λ (s : ReaderState). s.in_header) c.self.view_is ∙ c.requires in
    let new : ReaderState = record old { came = came_of c.take.new.self } in
    subst (λ (s : ReaderState). Stops s new c.args.piece.now (BlockLimit c.self.inside.place c.self.inside.limit)) c.self.view_is
    (section_above c.text_laws.ensures old new c.args.piece.now c.self.inside.place c.self.inside.limit refl was refl refl
    (rw c.in-Err-AboveLimit.field-0-is at c.in-Err-AboveLimit.ensures.took))

pub returns-in-Err-OutOfMemory : goal.returns-in-Err-OutOfMemory
returns-in-Err-OutOfMemory c =
    let old : ReaderState = state_of c.self.inside in
    let was : c.self.inside.in_header ≡ false = ap (λ (s : ReaderState). s.in_header) c.self.view_is ∙ c.requires in
    let new : ReaderState = record old { came = came_of c.take.new.self } in
    subst (λ (s : ReaderState). Stops s new c.args.piece.now OutOfMemory) c.self.view_is
    (section_memory c.text_laws.ensures old new c.args.piece.now refl was (rw c.in-Err-OutOfMemory.field-0-is at c.in-Err-OutOfMemory.ensures.took))
