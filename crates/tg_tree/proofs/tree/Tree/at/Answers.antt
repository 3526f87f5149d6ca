use Rattle.std.proofs.Common.{◌≡◌, None, option_copied, ap, sym, ◌∙◌}
use Rattle.std.specs.Map.{lookup}
use Rattle.std.specs.Str.{bytes_eq}
use Rattle.tg_tree.specs.Tree.{entries_of}
use Rattle.tg_tree.proofs.Trees.{led_nowhere, none_found}
use Rattle.tg_tree.proofs.tree.Tree.at.Goals as goal

pub returns-in_err-found : goal.returns-in_err-found
returns-in_err-found c =
    let none : lookup (bytes_eq c.name-item.result) (entries_of c.loop-name.found.now) ≡ None = none_found c.find.result _ _ _ _ c.find.ensures c.as_slice.ensures c.entries.ensures c.in_err-found.was in
    ap option_copied c.from_residual.ensures ∙ sym (led_nowhere _ c.loop-name.found.now c.args.path.now c.loop-name.name-index c.name-item.result c.loop-name-test.true c.name-item.is c.loop-name.invariant none)
