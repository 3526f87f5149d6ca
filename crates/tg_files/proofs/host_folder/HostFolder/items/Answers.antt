use Rattle.std.proofs.Common.{◌∙◌, All, subst}
use Rattle.tg_files.specs.TempNames.{BeginsWith}
use Rattle.tg_tree.specs.declared.items.Item.{Item}
use Rattle.tg_files.proofs.host_folder.HostFolder.items.Goals as goal

pub returns-clause-others : goal.returns-clause-others
returns-clause-others g c =
    subst (λ front. All (λ (item : Item). BeginsWith front item.name → ⊥) c.in_ok-items.field-0.items) (c.as_str.ensures.value ∙ c.in_ok-left_out.ensures) c.in_ok-items.ensures
