use Rattle.tg_model_laws.proofs.Listings.{traversal_met}
use Rattle.tg_model_laws.proofs.SentBlocks.{all_opened}
use Rattle.tg_model_laws.proofs.TerminalTexts.{traversal-text}
use Rattle.tg_model_laws.proofs.Terminals.{traversal_whole}
use Rattle.tg_model_laws.proofs.sound.traversals.Goals as goal

pub returns-clause-through : goal.returns-clause-through
returns-clause-through c = traversal_whole

pub returns-clause-text : goal.returns-clause-text
returns-clause-text c = traversal-text

pub returns-clause-listing : goal.returns-clause-listing
returns-clause-listing c = traversal_met

pub returns-clause-everything : goal.returns-clause-everything
returns-clause-everything c = all_opened
