use Rattle.tg_walk.proofs.Giving.{starts_on}
use Rattle.tg_walk.proofs.walk.Walk.new.Goals as goal

pub returns-clause-stands : goal.returns-clause-stands
returns-clause-stands c store =
    starts_on c.store_walks.ensures c.args.query.now 512 c.in_ok-new.field-0 c.new-2.result store c.in_ok-new.ensures.query c.in_ok-new.ensures.start c.new-2.ensures
