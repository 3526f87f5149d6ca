-- What is left of a traversal, as a list of tasks: places of which the blocks are to be opened, and texts and entries
-- that are to be given. What stands at a place is told by its CID, or by a DAG (Trustless Gateway specification:
-- dag-scope, entity-bytes, order dfs).
use Rattle.tg_model.specs.declared.queries.Scope.TheVariants as scopes
use Rattle.std.specs.Prelude.{Bool, List, None, Option, Some, [], length, not, refl, suc, true, zero, ℕ, ◌++◌, ◌+◌, ◌∷◌}
use Rattle.std.specs.Prelude.{◌≡◌}
use Rattle.tg_cid.specs.Cid.{CidParts}
use Rattle.tg_model.specs.Dag.{Children, Dag, Section, no_child, with_child}
use Rattle.tg_model.specs.Fits.{is_block}
use Rattle.tg_model.specs.PathWalk.{Spot, StepTo, Stop, absent, child_below, not_folder, not_folder_here, not_there}
use Rattle.tg_model.specs.PathWalk.{spot_at, step_of, to_child, to_entry}
use Rattle.tg_model.specs.Queries.{QueryParts, SpanParts}
use Rattle.tg_model.specs.Sound.{Position, passed, position_fault, top}
use Rattle.tg_model.specs.Traversal.{ListedEntry, Reach, Visit, all_reach, entity_reach, text_before, text_behind}
use Rattle.tg_model.specs.Traversal.{visits}
use Rattle.tg_model.specs.declared.fault.BlockFault.{BlockFault}
use Rattle.tg_model.specs.declared.kinds.Kind.{Kind}
use Rattle.tg_model.specs.declared.queries.Scope.{Scope}
use Rattle.tg_murmur.specs.NameHash.{slot_of}

-- what is asked of a place, with its depth, which counts the blocks from the root to it, both counted: the step with
-- the segment number `i`, of this name, and then those of the path behind it; what a query asks of its terminal; or
-- this much of a node below it
pub data Want : Type 0 where
  segment_want : ℕ → Position → List ℕ → List (List ℕ) → ℕ → Want
  terminal_want : ℕ → Want
  node_want : Reach → Position → ℕ → Want

-- a segment of the path leads nowhere: there is no such entry, or no directory
pub data Miss : Type 0 where
  no_entry : ℕ → Miss
  no_directory : ℕ → Miss

abbrev pub stop_of : Miss → Stop
stop_of (no_entry i) = not_there i
stop_of (no_directory i) = not_folder i

-- a task: to open the block at a place; to give a text, or entries that are met; or to stop, since a segment leads
-- nowhere
pub data Task (X : Type 0) : Type 0 where
  open_block : Want → X → Task X
  give_text : List ℕ → Task X
  give_entries : List ListedEntry → Task X
  stop_at : Miss → Task X

-- the depth, and where the place stands
abbrev pub depth_of : Want → ℕ
depth_of (segment_want i position name path depth) = depth
depth_of (terminal_want depth) = depth
depth_of (node_want reach position depth) = depth

abbrev pub position_of : Want → Position
position_of (segment_want i position name path depth) = position
position_of (terminal_want depth) = top
position_of (node_want reach position depth) = position

abbrev pub spot_of : Want → CidParts → Spot
spot_of w cid = spot_at cid (depth_of w) (position_of w)

-- whether a block is read there: not the terminal of which the block alone is asked for
abbrev pub is_read_at : QueryParts → Want → Bool
is_read_at q (segment_want i position name path depth) = true
is_read_at q (terminal_want depth) = not (is_block q.scope)
is_read_at q (node_want reach position depth) = true

-- ---- the tasks that a block leaves, of which the links lead to these

-- at the top, with the segments from number `i` on
abbrev pub path_want : ℕ → List (List ℕ) → ℕ → Want
path_want i [] depth = terminal_want depth
path_want i (name ∷ path) depth = segment_want i top name path depth

-- the depth at the top
pub depth_at_top : (i : ℕ) (path : List (List ℕ)) (depth : ℕ) → depth_of (path_want i path depth) ≡ depth
depth_at_top i [] depth = refl
depth_at_top i (name ∷ path) depth = refl

-- of a query, before its first block
abbrev pub start : {X : Type 0} → QueryParts → X → List (Task X)
start q x = open_block (path_want 0 q.path 1) x ∷ []

-- entries, and a text, where there are any
abbrev pub entries_then : {X : Type 0} → List ListedEntry → List (Task X) → List (Task X)
entries_then [] tasks = tasks
entries_then (m ∷ met) tasks = give_entries (m ∷ met) ∷ tasks

abbrev pub text_last : {X : Type 0} → List ℕ → List (Task X)
text_last [] = []
text_last (b ∷ text) = give_text (b ∷ text) ∷ []

-- a child is gone into, or passed over
abbrev pub child_then : {X : Type 0} → Option (Reach × Position) → ℕ → X → List (Task X) → List (Task X)
child_then None depth x tasks = tasks
child_then (Some into) depth x tasks = open_block (node_want into.0 into.1 depth) x ∷ tasks

-- by what is done at the links
abbrev pub children_tasks : {X : Type 0} → List Visit → ℕ → List X → List (Task X)
children_tasks todo depth [] = []
children_tasks [] depth (x ∷ xs) = []
children_tasks (visit ∷ todo) depth (x ∷ xs) =
    entries_then visit.met (child_then visit.into depth x (children_tasks todo depth xs))

-- of a node of this depth
abbrev pub node_tasks : {X : Type 0} → Reach → Position → ℕ → Kind → List X → List (Task X)
node_tasks reach position depth kind xs =
    children_tasks (visits reach position kind) (depth + 1) xs ++ text_last (text_behind reach kind)

-- of a step to the link with this index
abbrev pub link_tasks : {X : Type 0} → ℕ → ℕ → Want → List X → List (Task X)
link_tasks k i w [] = stop_at (no_entry i) ∷ []
link_tasks zero i w (x ∷ xs) = open_block w x ∷ []
link_tasks (suc k) i w (x ∷ xs) = link_tasks k i w xs

-- of a step with the segment `i`
abbrev pub step_tasks : {X : Type 0} → ℕ → Want → Want → StepTo → List X → List (Task X)
step_tasks i entry inner (to_entry k) xs = link_tasks k (i + 1) entry xs
step_tasks i entry inner (to_child k) xs = link_tasks k i inner xs
step_tasks i entry inner absent xs = stop_at (no_entry i) ∷ []
step_tasks i entry inner not_folder_here xs = stop_at (no_directory i) ∷ []

-- of a terminal
abbrev pub terminal_tasks : {X : Type 0} → Scope → Option SpanParts → ℕ → Section → Kind → List X → List (Task X)
terminal_tasks scopes.Block span depth section kind xs = []
terminal_tasks scopes.Entity span depth section kind xs = node_tasks (entity_reach span section kind) top depth kind xs
terminal_tasks scopes.All span depth section kind xs = node_tasks (all_reach kind) top depth kind xs

-- where a child of a shard stands that is passed on the way to a name
abbrev pub position_below : Position → List ℕ → Position
position_below position name = child_below position (slot_of name (length (passed position)))

-- of a block of this kind
abbrev pub tasks_of : {X : Type 0} → QueryParts → Want → Section → Kind → List X → List (Task X)
tasks_of q (segment_want i position name path depth) section kind xs =
    step_tasks i (path_want (i + 1) path (depth + 1)) (segment_want i (position_below position name) name path (depth + 1))
    (step_of kind (length (passed position)) name) xs
tasks_of q (terminal_want depth) section kind xs = terminal_tasks q.scope q.span depth section kind xs
tasks_of q (node_want reach position depth) section kind xs = node_tasks reach position depth kind xs

-- the text that a block of this kind gives before them
abbrev pub terminal_text_before : Scope → Option SpanParts → Section → Kind → List ℕ
terminal_text_before scopes.Block span section kind = section.block
terminal_text_before scopes.Entity span section kind = text_before (entity_reach span section kind) top section kind
terminal_text_before scopes.All span section kind = text_before (all_reach kind) top section kind

abbrev pub text_at : QueryParts → Want → Section → Kind → List ℕ
text_at q (segment_want i position name path depth) section kind = []
text_at q (terminal_want depth) section kind = terminal_text_before q.scope q.span section kind
text_at q (node_want reach position depth) section kind = text_before reach position section kind

-- why a block of this kind can't stand there: of a terminal of which the block alone is asked for the kind doesn't
-- matter
abbrev pub terminal_fault : Scope → Kind → Option BlockFault
terminal_fault scopes.Block kind = None
terminal_fault scopes.Entity kind = position_fault top kind
terminal_fault scopes.All kind = position_fault top kind

abbrev pub fault_at : QueryParts → Want → Kind → Option BlockFault
fault_at q (segment_want i position name path depth) kind = position_fault position kind
fault_at q (terminal_want depth) kind = terminal_fault q.scope kind
fault_at q (node_want reach position depth) kind = position_fault position kind

-- ---- what is given before the next place, and the tasks from that place, or from a stop, on

abbrev pub text_now : {X : Type 0} → List (Task X) → List ℕ
text_now [] = []
text_now (open_block w x ∷ tasks) = []
text_now (give_text text ∷ tasks) = text ++ text_now tasks
text_now (give_entries met ∷ tasks) = text_now tasks
text_now (stop_at miss ∷ tasks) = []

abbrev pub entries_now : {X : Type 0} → List (Task X) → List ListedEntry
entries_now [] = []
entries_now (open_block w x ∷ tasks) = []
entries_now (give_text text ∷ tasks) = entries_now tasks
entries_now (give_entries met ∷ tasks) = met ++ entries_now tasks
entries_now (stop_at miss ∷ tasks) = []

abbrev pub tasks_then : {X : Type 0} → List (Task X) → List (Task X)
tasks_then [] = []
tasks_then (open_block w x ∷ tasks) = open_block w x ∷ tasks
tasks_then (give_text text ∷ tasks) = tasks_then tasks
tasks_then (give_entries met ∷ tasks) = tasks_then tasks
tasks_then (stop_at miss ∷ tasks) = stop_at miss ∷ tasks

-- ---- what stands at the places

-- a node's children, one by one
abbrev pub dags_of : Children → List Dag
dags_of no_child = []
dags_of (with_child d children) = d ∷ dags_of children

-- each place changed, by what is asked there
abbrev pub mapped : {X Y : Type 0} → (Want → X → Y) → List (Task X) → List (Task Y)
mapped f [] = []
mapped f (open_block w x ∷ tasks) = open_block w (f w x) ∷ mapped f tasks
mapped f (give_text text ∷ tasks) = give_text text ∷ mapped f tasks
mapped f (give_entries met ∷ tasks) = give_entries met ∷ mapped f tasks
mapped f (stop_at miss ∷ tasks) = stop_at miss ∷ mapped f tasks
