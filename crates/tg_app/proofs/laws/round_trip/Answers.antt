use Rattle.std.proofs.Common.{List, [], ap, subst, sym, ℕ, ◌∙◌, ◌≡◌}
use Rattle.tg_model.specs.Dag.{Dag}
use Rattle.tg_model.specs.Lookup.{lookup_path}
use Rattle.tg_model.specs.Lookup as lookups
use Rattle.tg_model.specs.Queries.{QueryParts}
use Rattle.tg_model.specs.ShowsTree.{Shows}
use Rattle.tg_tree.specs.declared.tree.Tree.{Tree}
use Rattle.tg_app.proofs.laws.round_trip.Goals as goal

-- a path without names leads to the root's node
root_at : (q : QueryParts) (d at : Dag) → q.path ≡ [] → lookup_path q.path d ≡ lookups.found at → d ≡ at
root_at q d at none found = cc (sym (ap (λ (path : List (List ℕ)). lookup_path path d) none) ∙ found)

shown : (q : QueryParts) (d at : Dag) (tree : Tree) → q.path ≡ [] → lookup_path q.path d ≡ lookups.found at → Shows d tree → Shows at tree
shown q d at tree none found shows = subst (λ (x : Dag). Shows x tree) (root_at q d at none found) shows

pub returns-clause-whole : goal.returns-clause-whole
returns-clause-whole c options tree d q made imported none made_is = made_is.tree tree (shown q d made_is.at tree none made_is.found imported.shows)

pub returns-clause-front : goal.returns-clause-front
returns-clause-front c options tree d q made imported none begun = begun.tree tree (shown q d begun.at tree none begun.found imported.shows)
