use Rattle.tg_bundles.proofs.Escapes.{paths_differ}
use Rattle.tg_bundles.proofs.ReadBack.{bundles_differ, fronts_are_files, fronts_are_links, fronts_are_records}
use Rattle.tg_bundles.proofs.read_back.Goals as goal

pub returns-clause-paths : goal.returns-clause-paths
returns-clause-paths c = paths_differ

pub returns-clause-lines : goal.returns-clause-lines
returns-clause-lines c = fronts_are_records

pub returns-clause-contents : goal.returns-clause-contents
returns-clause-contents c = fronts_are_files

pub returns-clause-links : goal.returns-clause-links
returns-clause-links c = fronts_are_links

pub returns-clause-whole : goal.returns-clause-whole
returns-clause-whole c = bundles_differ
