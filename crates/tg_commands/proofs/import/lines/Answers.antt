use Rattle.tg_commands.proofs.ImportSteps.{lines_are}
use Rattle.tg_commands.proofs.import.lines.Goals as goal

pub returns : goal.returns
returns c =
    lines_are _ _ _ _ _ _ _ _ c.in_ok-text.ensures c.in_ok-push_number.ensures c.in_ok-push_number-2.ensures c.in_ok-push_number-3.ensures
    c.in_ok-push_number-4.ensures c.in_ok-push_all.ensures.ok
