use Rattle.std.proofs.Common.{IfOk, List, subst, ℕ, ◌≡◌}
use Rattle.tg_traversal.proofs.OwnTexts.{file_record}
use Rattle.tg_traversal.specs.Places.{standing_of}
use Rattle.tg_model.specs.Placed.{StandsForKind}
use Rattle.tg_model.specs.declared.placed.PlacedKind.{PlacedKind}
use Rattle.tg_traversal.proofs.text.record_line.Goals as goal

pub returns-in-File-default : goal.returns-in-File-default
returns-in-File-default c = λ section kind here.
    subst (λ (text : List ℕ). IfOk c.sized_line-in-File-default.result (λ line. line ≡ text))
    (file_record (standing_of c.args.position.now) section kind c.args.block.now c.args.path.now c.in-File-default.places
    (subst (λ (found : PlacedKind). StandsForKind c.args.block.now found kind) c.in-File-default.is-0 here.stands))
    c.sized_line-in-File-default.ensures
