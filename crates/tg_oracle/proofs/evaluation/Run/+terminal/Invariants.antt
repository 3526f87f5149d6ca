use Rattle.tg_oracle.proofs.evaluation.Run.+terminal.Given as goal

abbrev pub decreases-terminal : goal.decreases-terminal
decreases-terminal l = l.depth
