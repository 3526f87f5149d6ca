use Rattle.tg_words.specs.Operands.{givens}
use Rattle.tg_words.proofs.QueryAnswers.{query_at}
use Rattle.tg_words.proofs.queries.query_with.Goals as goal

pub returns : goal.returns
returns c = query_at c.args.target.now (givens c.args.options.now) _ _ _ c.query_of.result c.value_of-scope.ensures c.value_of-bytes.ensures c.value_of-dups.ensures c.query_of.ensures
