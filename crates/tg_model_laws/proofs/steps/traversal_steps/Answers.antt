use Rattle.tg_model_laws.proofs.StepLaws.{begins_at_root, ends_at_terminal, goes_below, steps_on, stops_below, stops_on_path}
use Rattle.tg_model_laws.proofs.steps.traversal_steps.Goals as goal

pub returns-clause-root : goal.returns-clause-root
returns-clause-root c = begins_at_root

pub returns-clause-path : goal.returns-clause-path
returns-clause-path c = steps_on

pub returns-clause-path_fault : goal.returns-clause-path_fault
returns-clause-path_fault c = stops_on_path

pub returns-clause-terminal : goal.returns-clause-terminal
returns-clause-terminal c = ends_at_terminal

pub returns-clause-below : goal.returns-clause-below
returns-clause-below c = goes_below

pub returns-clause-below_fault : goal.returns-clause-below_fault
returns-clause-below_fault c = stops_below
