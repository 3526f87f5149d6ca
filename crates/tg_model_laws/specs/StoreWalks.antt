-- The traversal of what a store shows, in stages, and beside it that of the same cut at a depth.
use Rattle.std.specs.Prelude.{All, Err, List, None, Ok, Some, [], false, true, ℕ, ◌++◌, ◌-◌, ◌<◌, ◌∷◌, ◌≡◌, ◌≤◌}
use Rattle.tg_cid.specs.Cid.{CidParts}
use Rattle.tg_model_laws.specs.Depths.{down_to}
use Rattle.tg_model.specs.Computed.{read}
use Rattle.tg_model.specs.Dag.{Dag, Section, links_of}
use Rattle.tg_model.specs.PathWalk.{TraversalEnd, bad_block, gone, stopped, whole}
use Rattle.tg_model.specs.Queries.{QueryParts}
use Rattle.tg_model.specs.StoreView.{block_at, opened_to, store_view}
use Rattle.tg_model.specs.Stores.{Store}
use Rattle.tg_model.specs.Traversal.{Traversal, and_then, traversal}
use Rattle.tg_model.specs.declared.fault.BlockFault.{BlockFault}
use Rattle.tg_model.specs.declared.kinds.Kind.{Kind}
use Rattle.tg_model_laws.specs.Stages.{Given, IsStage, ending, nothing_given, up_to_next, with_place}
use Rattle.tg_model_laws.specs.Tasks.{Miss, Task, Want, depth_of, fault_at, is_read_at, mapped, open_block, spot_of}
use Rattle.tg_model_laws.specs.Tasks.{start, stop_at, stop_of, tasks_of, tasks_then, text_at}

-- what is shown of a CID at a depth: of the root 1,100 blocks' depth are shown
abbrev pub shown_at : Store → ℕ → CidParts → Dag
shown_at store depth cid = opened_to (1101 - depth) store cid

-- and cut below a depth of `most`
abbrev pub cut_at : ℕ → Store → ℕ → CidParts → Dag
cut_at most store depth cid = down_to most depth (shown_at store depth cid)

abbrev pub cut_view : ℕ → Store → CidParts → Dag
cut_view most store root = down_to most 1 (store_view store root)

-- at each place what is shown of its CID at its depth
abbrev pub shown_tasks : (ℕ → CidParts → Dag) → List (Task CidParts) → List (Task Dag)
shown_tasks shown tasks = mapped (λ w cid. shown (depth_of w) cid) tasks

abbrev pub section_of : CidParts → List ℕ → Section
section_of cid block = record { cid = cid; block = block }

-- both traversals have given this, none of it deeper than the cut, and these tasks are left
pub record IsWalked (q : QueryParts) (store : Store) (most : ℕ) (given : Given) (tasks : List (Task CidParts)) : Type 0 where
  pub full : IsStage q (store_view store q.root) given (shown_tasks (shown_at store) tasks)
  pub cut : IsStage q (cut_view most store q.root) given (shown_tasks (cut_at most store) tasks)
  pub within : All (λ p. p.depth ≤ most) given.places

-- both give just this, and end so
pub record WalkEnds (q : QueryParts) (store : Store) (most : ℕ) (given : Given) (end : TraversalEnd) : Type 0 where
  pub full : traversal q (store_view store q.root) ≡ ending given end
  pub cut : traversal q (cut_view most store q.root) ≡ ending given end
  pub within : All (λ p. p.depth ≤ most) given.places

-- the next place, stored or not, lies below the cut: there the cut traversal ends, and the other goes on
pub record WalkTooDeep (q : QueryParts) (store : Store) (most : ℕ) (given : Given) (w : Want) (cid : CidParts) : Type 0 where
  pub deeper : most < depth_of w
  pub cut : traversal q (cut_view most store q.root) ≡ ending given (stopped (gone (spot_of w cid)))
  pub within : All (λ p. p.depth ≤ most) given.places
  pub rest : Traversal
  pub full : traversal q (store_view store q.root) ≡ and_then (ending given whole) rest

-- what was given is a front of the traversal of what is shown
abbrev pub WalkGivesFront : Type 0
WalkGivesFront = (q : QueryParts) (store : Store) (most : ℕ) (given : Given) (tasks : List (Task CidParts)) → IsWalked q store most given tasks
    → (rest : Traversal) × (traversal q (store_view store q.root) ≡ and_then (ending given whole) rest)

abbrev pub WalkStarts : Type 0
WalkStarts = (q : QueryParts) (store : Store) (most : ℕ) → IsWalked q store most nothing_given (start q q.root)

abbrev pub WalkGives : Type 0
WalkGives = (q : QueryParts) (store : Store) (most : ℕ) (given : Given) (tasks : List (Task CidParts)) → IsWalked q store most given tasks
    → IsWalked q store most (up_to_next tasks given) (tasks_then tasks)

-- a block that may stand at the next place is opened
abbrev pub WalkOpens : Type 0
WalkOpens = (q : QueryParts) (store : Store) (most : ℕ) (given : Given) (w : Want) (cid : CidParts) (block : List ℕ) (kind : Kind) (tasks : List (Task CidParts))
    → most ≤ 1100 → depth_of w ≤ most → block_at store cid ≡ Some block → read cid block ≡ Ok kind → fault_at q w kind ≡ None
    → IsWalked q store most given (open_block w cid ∷ tasks)
    → IsWalked q store most (with_place w (section_of cid block) (text_at q w (section_of cid block) kind) given) (tasks_of q w (section_of cid block) kind (links_of kind) ++ tasks)

-- or a terminal of which the block alone is asked for
abbrev pub WalkOpensAlone : Type 0
WalkOpensAlone = (q : QueryParts) (store : Store) (most : ℕ) (given : Given) (w : Want) (cid : CidParts) (block : List ℕ) (tasks : List (Task CidParts))
    → most ≤ 1100 → depth_of w ≤ most → block_at store cid ≡ Some block → is_read_at q w ≡ false
    → IsWalked q store most given (open_block w cid ∷ tasks) → IsWalked q store most (with_place w (section_of cid block) block given) tasks

-- before a place below the cut
abbrev pub WalkStopsDeep : Type 0
WalkStopsDeep = (q : QueryParts) (store : Store) (most : ℕ) (given : Given) (w : Want) (cid : CidParts) (tasks : List (Task CidParts))
    → most < depth_of w → IsWalked q store most given (open_block w cid ∷ tasks) → WalkTooDeep q store most given w cid

-- at a block that isn't stored, without a kind, or that can't stand there
abbrev pub WalkStopsGone : Type 0
WalkStopsGone = (q : QueryParts) (store : Store) (most : ℕ) (given : Given) (w : Want) (cid : CidParts) (tasks : List (Task CidParts))
    → most ≤ 1100 → depth_of w ≤ most → block_at store cid ≡ None → IsWalked q store most given (open_block w cid ∷ tasks)
    → WalkEnds q store most given (stopped (gone (spot_of w cid)))

abbrev pub WalkStopsUnreadable : Type 0
WalkStopsUnreadable = (q : QueryParts) (store : Store) (most : ℕ) (given : Given) (w : Want) (cid : CidParts) (block : List ℕ) (fault : BlockFault) (tasks : List (Task CidParts))
    → most ≤ 1100 → depth_of w ≤ most → block_at store cid ≡ Some block → read cid block ≡ Err fault → is_read_at q w ≡ true
    → IsWalked q store most given (open_block w cid ∷ tasks) → WalkEnds q store most given (stopped (bad_block (spot_of w cid) fault))

abbrev pub WalkStopsMisfit : Type 0
WalkStopsMisfit = (q : QueryParts) (store : Store) (most : ℕ) (given : Given) (w : Want) (cid : CidParts) (block : List ℕ) (kind : Kind) (fault : BlockFault) (tasks : List (Task CidParts))
    → most ≤ 1100 → depth_of w ≤ most → block_at store cid ≡ Some block → read cid block ≡ Ok kind → fault_at q w kind ≡ Some fault
    → IsWalked q store most given (open_block w cid ∷ tasks) → WalkEnds q store most given (stopped (bad_block (spot_of w cid) fault))

-- where a segment leads nowhere
abbrev pub WalkMisses : Type 0
WalkMisses = (q : QueryParts) (store : Store) (most : ℕ) (given : Given) (miss : Miss) (tasks : List (Task CidParts)) → IsWalked q store most given (stop_at miss ∷ tasks)
    → WalkEnds q store most given (stopped (stop_of miss))

-- or it comes through
abbrev pub WalkDone : Type 0
WalkDone = (q : QueryParts) (store : Store) (most : ℕ) (given : Given) → IsWalked q store most given [] → WalkEnds q store most given whole

-- all of these
pub record WalkLaws : Type 0 where
  pub front : WalkGivesFront
  pub start : WalkStarts
  pub up_to_next : WalkGives
  pub opened : WalkOpens
  pub alone : WalkOpensAlone
  pub too_deep : WalkStopsDeep
  pub not_stored : WalkStopsGone
  pub unreadable : WalkStopsUnreadable
  pub misfit : WalkStopsMisfit
  pub miss : WalkMisses
  pub done : WalkDone
