-- Where a query's path leads, shown by sections.
use Rattle.std.specs.Prelude.{List, None, ℕ, ◌≡◌, ◌⊎◌}
use Rattle.tg_model.specs.Dag.{Dag, Section}
use Rattle.tg_model.specs.Fits.{CollisionPair}
use Rattle.tg_model.specs.LimitNumbers.{LimitNumbers, standard}
use Rattle.tg_model.specs.Lookup.{lookup_path}
use Rattle.tg_model.specs.Lookup as lookups
use Rattle.tg_model.specs.Queries.{QueryParts}
use Rattle.tg_model.specs.declared.queries.Form.TheVariants as forms
use Rattle.tg_model.specs.declared.queries.Scope.TheVariants as scopes
use Rattle.tg_verify.specs.Sound.{IsItsAnswer}

-- the query for the block at the end of the path
abbrev pub path_query : QueryParts → QueryParts
path_query q = record q { form = forms.Car; scope = scopes.Block; span = None }

-- the limits, but that of the answer's bytes
abbrev pub path_limits : LimitNumbers → LimitNumbers
path_limits limits = record limits { output = standard.output }

-- the path leads to a terminal of the DAG, or there is a collision pair
abbrev pub LeadsThere : QueryParts → Dag → List Section → Type 0
LeadsThere q d sections = ((t : Dag) × (lookup_path q.path d ≡ lookups.found t)) ⊎ CollisionPair sections d

-- where what is written is a DAG's answer its path leads to a terminal
abbrev pub AnsweredLeadsThere : Type 0
AnsweredLeadsThere = (q : QueryParts) (d : Dag) (sections : List Section) (written : List ℕ) → IsItsAnswer q d sections written → LeadsThere q d sections
