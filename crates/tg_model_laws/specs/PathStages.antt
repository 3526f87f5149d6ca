-- The walk along a query's path, in stages, over a DAG and over what a store shows (Path Gateway specification, Path
-- Resolution).
use Rattle.std.specs.Prelude.{Err, List, None, Ok, Some, [], length, ℕ, ⊤, ◌*◌, ◌+◌, ◌∷◌, ◌≡◌, ◌≤◌}
use Rattle.tg_cid.specs.Cid.{CidParts}
use Rattle.tg_model.specs.Computed.{read}
use Rattle.tg_model.specs.Dag.{Dag, links_of}
use Rattle.tg_model.specs.PathWalk.{PathEnd, bad_block, gone, not_reached, path_walk, spot_at, terminal, walk_from}
use Rattle.tg_model.specs.Queries.{QueryParts}
use Rattle.tg_model.specs.Sound.{Position, passed, position_fault, top}
use Rattle.tg_model.specs.StoreView.{block_at, store_view}
use Rattle.tg_model.specs.Stores.{Store}
use Rattle.tg_model.specs.declared.fault.BlockFault.{BlockFault}
use Rattle.tg_model.specs.declared.kinds.Kind.{Kind}
use Rattle.tg_model_laws.specs.Stages.{IsOpened}
use Rattle.tg_model_laws.specs.StoreWalks.{section_of, shown_tasks, shown_at}
use Rattle.tg_model_laws.specs.Tasks.{Miss, Task, Want, depth_of, give_entries, give_text, node_want, open_block}
use Rattle.tg_model_laws.specs.Tasks.{segment_want, spot_of, start, stop_at, stop_of, tasks_of, terminal_want}

-- the walk from a place of the path on ends so
abbrev pub LeadsToEnd : Want → Dag → PathEnd → Type 0
LeadsToEnd (segment_want i position name path depth) d end = end ≡ (walk_from i position depth (name ∷ path) d).end
LeadsToEnd (terminal_want depth) d end = end ≡ (walk_from 0 top depth [] d).end
LeadsToEnd (node_want reach position depth) d end = ⊥

-- one place of the path is left, or a segment led nowhere, and the walk ends so
abbrev pub IsPathEnd : List (Task Dag) → PathEnd → Type 0
IsPathEnd [] end = ⊥
IsPathEnd (open_block w d ∷ tasks) end = LeadsToEnd w d end × (tasks ≡ [])
IsPathEnd (give_text text ∷ tasks) end = ⊥
IsPathEnd (give_entries met ∷ tasks) end = ⊥
IsPathEnd (stop_at miss ∷ tasks) end = (end ≡ not_reached (stop_of miss)) × (tasks ≡ [])

-- ---- over what a store shows

-- a place of a path of `n` segments: at most 8 shards a segment were passed
abbrev pub IsWithinPath : ℕ → Want → Type 0
IsWithinPath n (segment_want i position name path depth) =
    (i + 1 + length path ≡ n) × (depth ≤ 1 + 8 * i + length (passed position)) × (length (passed position) ≤ 8)
IsWithinPath n (terminal_want depth) = depth ≤ 1 + 8 * n
IsWithinPath n (node_want reach position depth) = ⊥

abbrev pub AreWithinPath : ℕ → List (Task CidParts) → Type 0
AreWithinPath n [] = ⊤
AreWithinPath n (open_block w cid ∷ tasks) = IsWithinPath n w
AreWithinPath n (give_text text ∷ tasks) = ⊤
AreWithinPath n (give_entries met ∷ tasks) = ⊤
AreWithinPath n (stop_at miss ∷ tasks) = ⊤

abbrev pub store_end : QueryParts → Store → PathEnd
store_end q store = (path_walk q.path (store_view store q.root)).end

-- this is left of the walk over what the store shows
pub record IsResolved (q : QueryParts) (store : Store) (tasks : List (Task CidParts)) : Type 0 where
  pub way : IsPathEnd (shown_tasks (shown_at store) tasks) (store_end q store)
  pub within : AreWithinPath (length q.path) tasks

-- a path of at most 128 segments passes at most 1,025 blocks, so that what is shown goes deep enough
abbrev pub ResolveBound : Type 0
ResolveBound = (q : QueryParts) (store : Store) (w : Want) (cid : CidParts) (tasks : List (Task CidParts)) → length q.path ≤ 128 → IsResolved q store (open_block w cid ∷ tasks)
    → depth_of w ≤ 1025

abbrev pub ResolveStarts : Type 0
ResolveStarts = (q : QueryParts) (store : Store) → IsResolved q store (start q q.root)

-- a node of the path that may stand there is passed
abbrev pub ResolveOpens : Type 0
ResolveOpens = (q : QueryParts) (store : Store) (i : ℕ) (position : Position) (name : List ℕ) (path : List (List ℕ)) (depth : ℕ) (cid : CidParts) (block : List ℕ) (kind : Kind) (tasks : List (Task CidParts))
    → length q.path ≤ 128 → block_at store cid ≡ Some block → read cid block ≡ Ok kind → position_fault position kind ≡ None
    → IsResolved q store (open_block (segment_want i position name path depth) cid ∷ tasks)
    → IsResolved q store (tasks_of q (segment_want i position name path depth) (section_of cid block) kind (links_of kind))

-- a terminal that is stored is where the walk leads; it isn't read
abbrev pub ResolveEnds : Type 0
ResolveEnds =
    (q : QueryParts) (store : Store) (depth : ℕ) (cid : CidParts) (block : List ℕ) (tasks : List (Task CidParts))
    → length q.path ≤ 128 → block_at store cid ≡ Some block → IsResolved q store (open_block (terminal_want depth) cid ∷ tasks)
    → (store_end q store ≡ terminal (shown_at store depth cid)) × IsOpened (shown_at store depth cid) (section_of cid block)

-- it stops at a block that isn't stored, without a kind, or that can't stand there
abbrev pub ResolveStopsGone : Type 0
ResolveStopsGone = (q : QueryParts) (store : Store) (w : Want) (cid : CidParts) (tasks : List (Task CidParts))
    → length q.path ≤ 128 → block_at store cid ≡ None → IsResolved q store (open_block w cid ∷ tasks) → store_end q store ≡ not_reached (gone (spot_of w cid))

abbrev pub ResolveStopsUnreadable : Type 0
ResolveStopsUnreadable = (q : QueryParts) (store : Store) (i : ℕ) (position : Position) (name : List ℕ) (path : List (List ℕ)) (depth : ℕ) (cid : CidParts) (block : List ℕ) (fault : BlockFault) (tasks : List (Task CidParts))
    → length q.path ≤ 128 → block_at store cid ≡ Some block → read cid block ≡ Err fault
    → IsResolved q store (open_block (segment_want i position name path depth) cid ∷ tasks) → store_end q store ≡ not_reached (bad_block (spot_at cid depth position) fault)

abbrev pub ResolveStopsMisfit : Type 0
ResolveStopsMisfit = (q : QueryParts) (store : Store) (i : ℕ) (position : Position) (name : List ℕ) (path : List (List ℕ)) (depth : ℕ) (cid : CidParts) (block : List ℕ) (kind : Kind) (fault : BlockFault) (tasks : List (Task CidParts))
    → length q.path ≤ 128 → block_at store cid ≡ Some block → read cid block ≡ Ok kind → position_fault position kind ≡ Some fault
    → IsResolved q store (open_block (segment_want i position name path depth) cid ∷ tasks) → store_end q store ≡ not_reached (bad_block (spot_at cid depth position) fault)

-- or where a segment leads nowhere
abbrev pub ResolveMisses : Type 0
ResolveMisses = (q : QueryParts) (store : Store) (miss : Miss) (tasks : List (Task CidParts)) → IsResolved q store (stop_at miss ∷ tasks) → store_end q store ≡ not_reached (stop_of miss)

-- all of these
pub record ResolveLaws : Type 0 where
  pub bound : ResolveBound
  pub start : ResolveStarts
  pub opened : ResolveOpens
  pub reached : ResolveEnds
  pub not_stored : ResolveStopsGone
  pub unreadable : ResolveStopsUnreadable
  pub misfit : ResolveStopsMisfit
  pub miss : ResolveMisses
