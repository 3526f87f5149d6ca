use Rattle.std.proofs.Common.{refl}
use Rattle.tg_words.proofs.Rules.{one_rule_more}
use Rattle.tg_words.proofs.operands.with_options.Goals as goal

pub loop-name-preserved : goal.loop-name-preserved
loop-name-preserved c =
    one_rule_more _ _ _ c.args.action c.args.names.now c.loop-name.name-index _ _ c.loop-name-test.true c.loop-name.invariant refl c.in_ok-command.ensures
