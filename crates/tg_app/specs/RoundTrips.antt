-- A folder there and back: what `import` read is what `fetch` and `verify` with `--into` make.
use Rattle.std.specs.Prelude.{List, Some, [], ◌≡◌}
use Rattle.tg_app.specs.Intos.{IsPathBegun, IsPathMade}
use Rattle.tg_bundles.specs.Laws.{AreRecordsOf}
use Rattle.tg_extract.specs.Answers.{IsPartOf}
use Rattle.tg_extract.specs.Extracts.{records_made}
use Rattle.tg_import.specs.Imported.{IsImported}
use Rattle.tg_import.specs.declared.summary.Options.{Options}
use Rattle.tg_model.specs.Dag.{Dag}
use Rattle.tg_model.specs.Queries.{QueryParts}
use Rattle.tg_new_tree.specs.declared.made.Made.{Made}
use Rattle.tg_tree.specs.declared.tree.Tree.{Tree}

-- where all that is below the root was made of the DAG as which a folder's tree was imported, that is this tree
abbrev pub ComesBack : Type 0
ComesBack = (options : Options) (tree : Tree) (d : Dag) (q : QueryParts) (made : List Made) → IsImported options (Some tree) [] d → q.path ≡ []
    → IsPathMade q d made → AreRecordsOf (records_made made) tree

-- and where a front of it was, that stands in this tree
abbrev pub FrontComesBack : Type 0
FrontComesBack = (options : Options) (tree : Tree) (d : Dag) (q : QueryParts) (made : List Made) → IsImported options (Some tree) [] d → q.path ≡ []
    → IsPathBegun q d made → IsPartOf made tree
