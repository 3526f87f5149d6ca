use Rattle.std.proofs.Common.{subst}
use Rattle.tg_traversal.proofs.OwnTexts.{file_total}
use Rattle.tg_model.specs.Placed.{StandsForKind}
use Rattle.tg_model.specs.declared.placed.PlacedKind.{PlacedKind}
use Rattle.tg_traversal.proofs.text.content_size.Goals as goal

pub returns-in-File : goal.returns-in-File
returns-in-File c = λ section kind here.
    file_total section kind c.args.block.now c.in-File.places (subst (λ (found : PlacedKind). StandsForKind c.args.block.now found kind) c.in-File.is here.stands)
