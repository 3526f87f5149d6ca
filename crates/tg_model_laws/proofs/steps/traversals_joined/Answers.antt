use Rattle.tg_model_laws.proofs.StepLaws.{associative, nothing_before, nothing_behind}
use Rattle.tg_model_laws.proofs.steps.traversals_joined.Goals as goal

pub returns-clause-before : goal.returns-clause-before
returns-clause-before c = nothing_before

pub returns-clause-behind : goal.returns-clause-behind
returns-clause-behind c = nothing_behind

pub returns-clause-associative : goal.returns-clause-associative
returns-clause-associative c = associative
