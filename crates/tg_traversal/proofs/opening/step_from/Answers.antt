use Rattle.tg_model.specs.declared.kinds.Step.TheVariants as steps
use Rattle.std.proofs.Common.{◌≡◌, ◌∙◌, List, [], ap, drop, length, refl, sym, ℕ, ◌+◌, ◌++◌, ◌∷◌}
use Rattle.std.specs.Int.{to_be_bytes, w64}
use Rattle.std.specs.Prelude.{slice_index}
use Rattle.tg_traversal.proofs.StepsLeft.{absent_left, down_left, found_left, nowhere_left, step_there}
use Rattle.tg_traversal.specs.Places.{standing_of}
use Rattle.tg_model.specs.Dag.{links_of}
use Rattle.tg_model.specs.Sound.{child, passed}
use Rattle.tg_model.specs.Sound.{Position as Standing}
use Rattle.tg_murmur.specs.NameHash.{slot_of}
use Rattle.tg_model_laws.specs.Tasks.{Want, open_block, segment_want}
use Rattle.tg_traversal.proofs.opening.step_from.Goals as goal

pub returns-in-Found : goal.returns-in-Found
returns-in-Found c = λ section kind read.
    let there = step_there c.args.query.now c.args.index (standing_of c.args.position.now) c.args.depth section kind c.args.found (steps.Found c.in-Found.cid) _
    c.requires.index (c.as_slice-name.ensures ∙ c.index-as_slice-index.is) (c.as_slice.ensures ∙ c.path.ensures.path) c.passed-above.ensures
    refl read.stands c.in-Found.is c.directory_step.ensures in (
      there.tasks ∙ (found_left c.args.index _ _ there.step (links_of kind) c.in-Found.cid there.over
          ∙ ap (λ (w : Want). open_block w c.in-Found.cid ∷ []) (sym (c.ask_behind.ensures.want (c.args.depth + 1)))),
      c.ask_behind.ensures.on_path,
    )

pub returns-in-Down : goal.returns-in-Down
returns-in-Down c = λ section kind read.
    let there = step_there c.args.query.now c.args.index (standing_of c.args.position.now) c.args.depth section kind c.args.found (steps.Down c.in-Down.cid) _
    c.requires.index (c.as_slice-name.ensures ∙ c.index-as_slice-index.is) (c.as_slice.ensures ∙ c.path.ensures.path) c.passed-above.ensures
    refl read.stands c.in-Down.is c.directory_step.ensures in
    let standing : Standing = standing_of c.args.position.now in
    let name : List ℕ = c.as_slice-name.result.now in
    let slot_is : c.slot.result ≡ slot_of name (length c.passed-above.result.now) =
    c.slot.ensures ∙ ap (λ (hash : ℕ). slice_index (to_be_bytes w64 hash) (length c.passed-above.result.now)) c.hash64.ensures in
    let below : c.below-below.result ≡ passed standing ++ slot_of name (length (passed standing)) ∷ [] = c.below-below.ensures
    ∙ (ap (λ (slot : ℕ). c.passed-above.result.now ++ slot ∷ []) slot_is
    ∙ ap (λ (above : List ℕ). above ++ slot_of name (length above) ∷ []) c.passed-above.ensures) in
    let inner_is = ap (λ (slots : List ℕ). segment_want c.args.index (child slots) name (drop (c.args.index + 1) c.args.query.now.path) (c.args.depth + 1)) (sym below)
    ∙ sym (there.segment (child c.below-below.result) (c.args.depth + 1)) in (
      there.tasks ∙ (down_left c.args.index _ _ there.step (links_of kind) c.in-Down.cid there.over ∙ ap (λ (w : Want). open_block w c.in-Down.cid ∷ []) inner_is),
      c.requires.index,
    )

pub returns-in-Absent : goal.returns-in-Absent
returns-in-Absent c = λ section kind read.
    let there = step_there c.args.query.now c.args.index (standing_of c.args.position.now) c.args.depth section kind c.args.found steps.Absent _
    c.requires.index (c.as_slice-name.ensures ∙ c.index-as_slice-index.is) (c.as_slice.ensures ∙ c.path.ensures.path) c.passed-above.ensures
    refl read.stands c.in-Absent.is c.directory_step.ensures in
    there.tasks ∙ absent_left c.args.index _ _ there.step (links_of kind) there.over

pub returns-in-NotFolder : goal.returns-in-NotFolder
returns-in-NotFolder c = λ section kind read.
    let there = step_there c.args.query.now c.args.index (standing_of c.args.position.now) c.args.depth section kind c.args.found steps.NotFolder _
    c.requires.index (c.as_slice-name.ensures ∙ c.index-as_slice-index.is) (c.as_slice.ensures ∙ c.path.ensures.path) c.passed-above.ensures
    refl read.stands c.in-NotFolder.is c.directory_step.ensures in
    there.tasks ∙ nowhere_left c.args.index _ _ there.step (links_of kind) there.over
