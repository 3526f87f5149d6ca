use Rattle.tg_app.proofs.MirrorSteps.{lines_are}
use Rattle.tg_app.proofs.mirroring.lines.Goals as goal

pub returns : goal.returns
returns c =
    lines_are _ _ _ _ _ _ c.in_ok-text.ensures c.in_ok-push_number.ensures c.in_ok-push_number-2.ensures c.in_ok-push_all.ensures.ok
