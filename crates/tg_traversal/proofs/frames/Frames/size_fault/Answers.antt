use Rattle.std.proofs.Common.{◌≡◌, ◌∙◌, Option, Some, ap, length, subst, sym, ℕ}
use Rattle.tg_traversal.specs.Left.{LeftState, WantedAt}
use Rattle.tg_traversal.proofs.Opened.{at_place, place_on_path, place_wanted}
use Rattle.tg_traversal.proofs.OwnTexts.{either_fault, no_content_fault, standing_there}
use Rattle.tg_traversal.specs.PlaceTexts.{IsDiffering, IsSizeFault, content_size, part_size, standing_at, told_size}
use Rattle.tg_traversal.specs.declared.position.Place.{Place}
use Rattle.tg_traversal.specs.declared.text.SizeFault.{SizeFault}
use Rattle.tg_model_laws.specs.Tasks.{position_of}
use Rattle.tg_traversal.proofs.frames.Frames.size_fault.Goals as goal

pub returns-in_err-actual : goal.returns-in_err-actual
returns-in_err-actual c = λ at section kind here.
    subst (λ (result : Option SizeFault). IsSizeFault (position_of at.want) section kind result) (sym c.from_residual-in_err-actual.ensures)
    (no_content_fault c.args.self.now.query at.want section kind (sym (c.content_size.ensures section kind here.block_at) ∙ c.in_err-actual.was) here.fits)

pub returns : goal.returns
returns c = λ at section kind here.
    let path = c.self.inside.query.path in
    let place : Place = c.in_ok-place.place.now in
    let wanted_is : c.self.inside.wanted ≡ Some place = sym c.in_ok-place.ensures.value in
    let there : at ≡ at_place path place = place_wanted path c.self.inside.wanted place c.args.self.now.wanted at
    wanted_is (ap (λ (s : LeftState). s.wanted) c.self.view_is) here.wanted in
    let standing : standing_at place.ask ≡ position_of at.want =
    sym (ap (λ (a : WantedAt). position_of a.want) there ∙ standing_there path place.ask place.depth (place_on_path c.self.inside.wanted place (length path) wanted_is c.self.invariant.1)) in
    let size_is : content_size section kind ≡ Some c.in_ok-actual.actual = sym (c.content_size.ensures section kind here.block_at) ∙ c.in_ok-actual.was in
    let first : IsDiffering (part_size (position_of at.want)) c.in_ok-actual.actual c.differing.result =
    subst (λ (told : Option ℕ). IsDiffering told c.in_ok-actual.actual c.differing.result) (c.part_size.ensures ∙ ap part_size standing) c.differing.ensures in
    let second : IsDiffering (told_size kind) c.in_ok-actual.actual c.differing-2.result =
    subst (λ (told : Option ℕ). IsDiffering told c.in_ok-actual.actual c.differing-2.result) (c.filesize.ensures c.args.block.now section kind here.block_at) c.differing-2.ensures in
    subst (λ (result : Option SizeFault). IsSizeFault (position_of at.want) section kind result) (sym c.or.ensures)
    (either_fault (position_of at.want) section kind c.in_ok-actual.actual c.differing.result c.differing-2.result size_is first second)
