-- The traversal of a DAG in stages: what it has given, and what the tasks that are left of it over its nodes give.
use Rattle.std.specs.Prelude.{List, None, Some, [], false, true, ℕ, ◌++◌, ◌∷◌, ◌≡◌}
use Rattle.tg_cid.specs.Cid.{CidParts}
use Rattle.tg_model_laws.specs.Steps.{from_node}
use Rattle.tg_model.specs.Dag.{Children, Dag, Section, bare, node, unopened}
use Rattle.tg_model.specs.PathWalk.{TraversalEnd, bad_block, gone, stopped, whole}
use Rattle.tg_model.specs.Queries.{QueryParts}
use Rattle.tg_model.specs.Traversal.{ListedEntry, Place, Traversal, and_then, at_terminal, ended, giving_entries}
use Rattle.tg_model.specs.Traversal.{giving_text, traversal, traverse}
use Rattle.tg_model.specs.declared.fault.BlockFault.{BlockFault}
use Rattle.tg_model.specs.declared.kinds.Kind.{Kind}
use Rattle.tg_model_laws.specs.Tasks.{Miss, Task, Want, dags_of, depth_of, entries_now, fault_at, give_entries}
use Rattle.tg_model_laws.specs.Tasks.{give_text, is_read_at, node_want, open_block, segment_want, spot_of, start}
use Rattle.tg_model_laws.specs.Tasks.{stop_at, stop_of, tasks_of, tasks_then, terminal_want, text_at, text_now}

-- ---- what tasks over the nodes of a DAG give

abbrev pub traverse_from : QueryParts → Want → Dag → Traversal
traverse_from q (segment_want i position name path depth) d = from_node q i position depth (name ∷ path) d
traverse_from q (terminal_want depth) d = at_terminal q.scope q.span depth d
traverse_from q (node_want reach position depth) d = traverse reach position depth d

abbrev pub task_gives : QueryParts → Task Dag → Traversal
task_gives q (open_block w d) = traverse_from q w d
task_gives q (give_text text) = giving_text text
task_gives q (give_entries met) = giving_entries met
task_gives q (stop_at miss) = ended (stop_of miss)

abbrev pub tasks_give : QueryParts → List (Task Dag) → Traversal
tasks_give q [] = giving_text []
tasks_give q (task ∷ tasks) = and_then (task_gives q task) (tasks_give q tasks)

-- ---- what was given so far: the places that were opened, the text, and the entries that were met

pub record Given : Type 0 where
  pub places : List Place
  pub text : List ℕ
  pub met : List ListedEntry

abbrev pub nothing_given : Given
nothing_given = record { places = []; text = []; met = [] }

-- a block was opened at a place, with this text
abbrev pub place_of : Want → Section → Place
place_of w section = record { section = section; depth = depth_of w }

abbrev pub with_place : Want → Section → List ℕ → Given → Given
with_place w section text given =
    record { places = given.places ++ place_of w section ∷ []; text = given.text ++ text; met = given.met }

-- what comes before the next place was given
abbrev pub up_to_next : {X : Type 0} → List (Task X) → Given → Given
up_to_next tasks given =
    record { places = given.places; text = given.text ++ text_now tasks; met = given.met ++ entries_now tasks }

-- a traversal that gives this, and ends so
abbrev pub ending : Given → TraversalEnd → Traversal
ending given end = record { places = given.places; text = given.text; met = given.met; end = end }

-- ---- stages

-- the traversal has given this, and these tasks are left of it
abbrev pub IsStage : QueryParts → Dag → Given → List (Task Dag) → Type 0
IsStage q d given tasks = traversal q d ≡ and_then (ending given whole) (tasks_give q tasks)

-- the block is opened there, read on or not
abbrev pub IsOpened : Dag → Section → Type 0
IsOpened (unopened cid) section = ⊥
IsOpened (bare other fault) section = other ≡ section
IsOpened (node other kind children) section = other ≡ section

-- before the first block
abbrev pub StageStarts : Type 0
StageStarts = (q : QueryParts) (d : Dag) → IsStage q d nothing_given (start q d)

-- what comes before the next place is given
abbrev pub StageGives : Type 0
StageGives = (q : QueryParts) (d : Dag) (given : Given) (tasks : List (Task Dag)) → IsStage q d given tasks → IsStage q d (up_to_next tasks given) (tasks_then tasks)

-- a node that may stand there is opened
abbrev pub StageOpens : Type 0
StageOpens = (q : QueryParts) (d : Dag) (given : Given) (w : Want) (section : Section) (kind : Kind) (children : Children) (tasks : List (Task Dag))
    → fault_at q w kind ≡ None → IsStage q d given (open_block w (node section kind children) ∷ tasks)
    → IsStage q d (with_place w section (text_at q w section kind) given) (tasks_of q w section kind (dags_of children) ++ tasks)

-- or a terminal of which the block alone is asked for, whatever it is read as
abbrev pub StageOpensAlone : Type 0
StageOpensAlone =
    (q : QueryParts) (d : Dag) (given : Given) (w : Want) (x : Dag) (section : Section) (tasks : List (Task Dag))
    → is_read_at q w ≡ false → IsOpened x section → IsStage q d given (open_block w x ∷ tasks)
    → IsStage q d (with_place w section section.block given) tasks

-- the traversal ends where no block is opened, or is opened and not read on
abbrev pub StageGone : Type 0
StageGone = (q : QueryParts) (d : Dag) (given : Given) (w : Want) (cid : CidParts) (tasks : List (Task Dag))
    → IsStage q d given (open_block w (unopened cid) ∷ tasks) → traversal q d ≡ ending given (stopped (gone (spot_of w cid)))

abbrev pub StageNotRead : Type 0
StageNotRead = (q : QueryParts) (d : Dag) (given : Given) (w : Want) (section : Section) (tasks : List (Task Dag))
    → is_read_at q w ≡ true → IsStage q d given (open_block w (bare section None) ∷ tasks) → traversal q d ≡ ending given (stopped (gone (spot_of w section.cid)))

-- at a block without a kind
abbrev pub StageUnreadable : Type 0
StageUnreadable = (q : QueryParts) (d : Dag) (given : Given) (w : Want) (section : Section) (fault : BlockFault) (tasks : List (Task Dag))
    → is_read_at q w ≡ true → IsStage q d given (open_block w (bare section (Some fault)) ∷ tasks)
    → traversal q d ≡ ending given (stopped (bad_block (spot_of w section.cid) fault))

-- at a node that can't stand there
abbrev pub StageMisfit : Type 0
StageMisfit = (q : QueryParts) (d : Dag) (given : Given) (w : Want) (section : Section) (kind : Kind) (children : Children) (fault : BlockFault) (tasks : List (Task Dag))
    → fault_at q w kind ≡ Some fault → IsStage q d given (open_block w (node section kind children) ∷ tasks)
    → traversal q d ≡ ending given (stopped (bad_block (spot_of w section.cid) fault))

-- where a segment leads nowhere
abbrev pub StageMisses : Type 0
StageMisses = (q : QueryParts) (d : Dag) (given : Given) (miss : Miss) (tasks : List (Task Dag)) → IsStage q d given (stop_at miss ∷ tasks)
    → traversal q d ≡ ending given (stopped (stop_of miss))

-- or it comes through
abbrev pub StageEnds : Type 0
StageEnds = (q : QueryParts) (d : Dag) (given : Given) → IsStage q d given [] → traversal q d ≡ ending given whole

-- all of these
pub record StageLaws : Type 0 where
  pub start : StageStarts
  pub up_to_next : StageGives
  pub opened : StageOpens
  pub alone : StageOpensAlone
  pub not_opened : StageGone
  pub not_read : StageNotRead
  pub unreadable : StageUnreadable
  pub misfit : StageMisfit
  pub miss : StageMisses
  pub done : StageEnds
