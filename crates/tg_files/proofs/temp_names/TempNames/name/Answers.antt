use Rattle.std.proofs.Common.{◌∙◌, ◌++◌, ap, sym}
use Rattle.std.specs.Prelude.{codes, decimal}
use Rattle.std.proofs.lemmas.List.{append_assoc}
use Rattle.std.proofs.lemmas.Result.{IfOk-weaker}
use Rattle.tg_files.proofs.temp_names.TempNames.name.Goals as goal

pub returns : goal.returns
returns c =
    IfOk-weaker c.format.result _ _ (λ name is. is ∙ ap (λ rest. codes ".tgate-" ++ rest) (sym (append_assoc (decimal c.args.self.number) (codes "-") (decimal c.args.count ++ codes ".tmp")))) c.format.ensures.ok
