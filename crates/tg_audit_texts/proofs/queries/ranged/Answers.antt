use Rattle.tg_audit_texts.proofs.GoodPaths.{few_names, good_path}
use Rattle.tg_audit_texts.proofs.queries.ranged.Goals as goal

pub car-requires-clause-few : goal.car-requires-clause-few
car-requires-clause-few c = few_names c.args.names.now _ c.requires.few c.in_ok-path_of.ensures

pub car-requires-clause-good : goal.car-requires-clause-good
car-requires-clause-good c = good_path c.args.names.now _ c.good_names.ensures c.requires.good c.in_ok-path_of.ensures
