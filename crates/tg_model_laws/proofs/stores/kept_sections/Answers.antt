use Rattle.tg_model_laws.proofs.KeptSections.{holds_each, kept_joins, only_each, stays_each, store_each}
use Rattle.tg_model_laws.proofs.stores.kept_sections.Goals as goal

pub returns-clause-joins : goal.returns-clause-joins
returns-clause-joins c = kept_joins

pub returns-clause-store : goal.returns-clause-store
returns-clause-store c = store_each

pub returns-clause-stays : goal.returns-clause-stays
returns-clause-stays c = stays_each

pub returns-clause-only : goal.returns-clause-only
returns-clause-only c = only_each

pub returns-clause-holds : goal.returns-clause-holds
returns-clause-holds c = holds_each
