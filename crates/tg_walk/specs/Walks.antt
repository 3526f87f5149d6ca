-- What a walk over a store has given, and why it gives no more (Trustless Gateway specification: dag-scope,
-- entity-bytes, order dfs).
use Rattle.std.specs.Prelude.{All, Err, IfSome, List, None, Ok, OnOk, Option, Result, Some, [], false, filter, length, map}
use Rattle.std.specs.Prelude.{true, ⊤, ℕ}
use Rattle.std.specs.Prelude.{◌+◌, ◌++◌, ◌∷◌, ◌≡◌, ◌≤◌, ◌⊎◌}
use Rattle.std.specs.Map.{keys_of}
use Rattle.tg_cid.specs.Cid.{CidParts}
use Rattle.tg_cid.specs.Limits.{max_block_len}
use Rattle.tg_cid.specs.Names.{Names}
use Rattle.tg_cid.specs.declared.cid.HashKind.TheVariants.{Sha256}
use Rattle.tg_traversal.specs.declared.position.Miss.TheVariants as misses
use Rattle.tg_traversal.specs.BlocksLeft.{blocks_over}
use Rattle.tg_traversal.specs.Left.{LeftState, WantedAt, tasks_left}
use Rattle.tg_traversal.specs.Places.{missing_of, role_at}
use Rattle.tg_traversal.specs.SaidFaults.{fault_said}
use Rattle.tg_traversal.specs.declared.position.Miss.{Miss}
use Rattle.tg_traversal.specs.declared.position.Role.{Role}
use Rattle.tg_traversal.specs.declared.position.Wanted.{Wanted}
use Rattle.tg_model.specs.Computed.{read}
use Rattle.tg_model.specs.Dag.{links_of}
use Rattle.tg_model.specs.declared.fault.BlockFault.{BlockFault}
use Rattle.tg_model.specs.declared.kinds.Kind.{Kind}
use Rattle.tg_walk.specs.Known.{HasLevels, KnownState, Knows, LieAbove}
use Rattle.tg_walk.specs.declared.fault.WalkFault.{WalkFault}
use Rattle.tg_walk.specs.declared.fault.WalkFault.TheVariants as faults
use Rattle.tg_walk.specs.declared.known.Opened.{Opened}
use Rattle.tg_walk.specs.declared.walk.NextPlace.{NextPlace}
use Rattle.tg_model.specs.declared.stores.BlocksFault.TheVariants as store_faults
use Rattle.tg_model.specs.Dag.{Section}
use Rattle.tg_model.specs.Fits.{IfOnce, is_block}
use Rattle.tg_model.specs.PathWalk.{Spot, TraversalEnd, bad_block, gone, not_folder, not_there, stopped, whole}
use Rattle.tg_model.specs.Queries.{QueryParts}
use Rattle.tg_model.specs.StoreView.{block_at, store_view}
use Rattle.tg_model.specs.Stores.{IsCauseOf, IsNamedBlock, LookedUp, Lookups, LookupsQuiet, Store}
use Rattle.tg_model.specs.Traversal.{Traversal, and_then, is_asked, is_hashed, sent, traversal}
use Rattle.tg_model.specs.declared.stores.BlocksFault.{BlocksFault}
use Rattle.tg_model_laws.specs.ListFronts.{FrontOf}
use Rattle.tg_model_laws.specs.TakenBlocks.{opened_by}
use Rattle.tg_model_laws.specs.StoreWalks.{IsWalked, WalkEnds, WalkTooDeep, section_of}
use Rattle.tg_model_laws.specs.Stages.{Given, ending}
use Rattle.tg_model_laws.specs.Tasks.{Task, Want, depth_of, entries_now, fault_at, is_read_at}
use Rattle.tg_model_laws.specs.Tasks.{stop_at, tasks_of, tasks_then}

-- how many blocks there are at most from the root to a block that a walk gives, both counted
abbrev pub max_depth : ℕ
max_depth = 512

-- what contracts see of a walk: what is left; what it knows, where each block is given once; and the refusal after which
-- it gives nothing
pub record WalkState : Type 0 where
  pub left : LeftState
  pub known : KnownState
  pub refused : Option WalkFault

-- of the places that were opened these sections are sent
abbrev pub HasGiven : QueryParts → Given → List Section → Type 0
HasGiven q given sections = sent q (opened_by given) ≡ sections

-- a walk that gives each block once knows which it gave, and below which of them it went everywhere
abbrev pub HasKnown : QueryParts → Store → KnownState → List Section → List (Task CidParts) → Type 0
HasKnown q store known sections tasks =
    IfOnce q.dups ((keys_of known.entries ≡ map (λ section. section.cid) sections) × Knows q store sections known tasks)

-- what was given is a front of what the traversal of the store's view gives
pub record IsFront (q : QueryParts) (store : Store) (sections : List Section) : Type 0 where
  pub given : Given
  pub gave : HasGiven q given sections
  pub rest : Traversal
  pub front : traversal q (store_view store q.root) ≡ and_then (ending given whole) rest

-- a walk that goes on has given these sections
pub record IsOnWalk (most : ℕ) (left : LeftState) (known : KnownState) (store : Store) (sections : List Section) : Type 0 where
  pub given : Given
  pub gave : HasGiven left.query given sections
  pub knows : HasKnown left.query store known sections (tasks_left left)
  pub walked : IsWalked left.query store most given (tasks_left left)

-- the traversal of the store's view gives just these sections, none of them deeper, and ends so
pub record HasEnded (q : QueryParts) (store : Store) (most : ℕ) (sections : List Section) (end : TraversalEnd) : Type 0 where
  pub given : Given
  pub gave : HasGiven q given sections
  pub ends : WalkEnds q store most given end

-- the next place, stored or not, lies too deep
pub record HasStoppedDeep (q : QueryParts) (store : Store) (most : ℕ) (sections : List Section) : Type 0 where
  pub given : Given
  pub gave : HasGiven q given sections
  pub want : Want
  pub cid : CidParts
  pub deep : WalkTooDeep q store most given want cid

-- why a walk gives no more, by what it has given
abbrev pub HasWalkCause : QueryParts → Store → ℕ → List Section → WalkFault → Type 0
HasWalkCause q store most sections (faults.BadBlock cid fault) =
    (spot : Spot) × (spot.cid ≡ cid) × (spot.depth ≤ most) × HasEnded q store most sections (stopped (bad_block spot fault))
HasWalkCause q store most sections (faults.Gone cid) =
    (spot : Spot) × (spot.cid ≡ cid) × (spot.depth ≤ most) × HasEnded q store most sections (stopped (gone spot))
HasWalkCause q store most sections faults.TooDeep = HasStoppedDeep q store most sections
HasWalkCause q store most sections (faults.Store fault) = IsFront q store sections
HasWalkCause q store most sections (faults.NotThere i) = HasEnded q store most sections (stopped (not_there i))
HasWalkCause q store most sections (faults.NotFolder i) = HasEnded q store most sections (stopped (not_folder i))
HasWalkCause q store most sections faults.OutOfMemory = IsFront q store sections

-- the walk over this store has given these sections, and goes on or was refused
abbrev pub StandsBy : Option WalkFault → ℕ → LeftState → KnownState → Store → List Section → Type 0
StandsBy None most left known store sections = IsOnWalk most left known store sections
StandsBy (Some fault) most left known store sections = HasWalkCause left.query store most sections fault

abbrev pub StandsFor : WalkState → Store → List Section → Type 0
StandsFor state store sections = StandsBy state.refused max_depth state.left state.known store sections

-- how many blocks a walk still gives at most, which ends the loop that asks for them
abbrev pub blocks_left : LeftState → ℕ
blocks_left left = blocks_over max_depth (tasks_left left)

-- what a step gave, and what the walk stands for behind it: one section more; or all were given
abbrev pub HasStepped : Result (Option (CidParts × List ℕ)) WalkFault → WalkState → Store → List Section → Type 0
HasStepped (Ok (Some found)) new store sections = StandsFor new store (sections ++ section_of found.0 found.1 ∷ [])
HasStepped (Ok None) new store sections =
    StandsFor new store sections × HasEnded new.left.query store max_depth sections whole
HasStepped (Err fault) new store sections = StandsFor new store sections

-- those of the CIDs that are looked up: of an identity CID the block is the digest
abbrev pub looked_of : List CidParts → List CidParts
looked_of cids = filter (λ cid. is_hashed cid.hash) cids

-- the CID was looked up last
abbrev pub IsLastIn : CidParts → List CidParts → Type 0
IsLastIn cid cids = (before : List CidParts) × (cids ≡ before ++ cid ∷ [])

-- that of the block that is given, or that can't be opened, was looked up last, but for an identity CID, which isn't
-- looked up; and that under which none is stored was
abbrev pub IsLastOf : Result (Option (CidParts × List ℕ)) WalkFault → List CidParts → Type 0
IsLastOf (Ok (Some found)) cids = found.0.hash ≡ Sha256 → IsLastIn found.0 cids
IsLastOf (Ok None) cids = ⊤
IsLastOf (Err (faults.BadBlock cid fault)) cids = cid.hash ≡ Sha256 → IsLastIn cid cids
IsLastOf (Err (faults.Gone cid)) cids = IsLastIn cid cids
IsLastOf (Err other) cids = ⊤

-- where repeats are given, nothing else was looked up: nothing at all where the store failed, since a failed call looks
-- nothing up
abbrev pub IsAloneIn : Result (Option (CidParts × List ℕ)) WalkFault → List CidParts → Type 0
IsAloneIn (Ok (Some found)) cids = cids ≡ looked_of (found.0 ∷ [])
IsAloneIn (Ok None) cids = cids ≡ []
IsAloneIn (Err (faults.BadBlock cid fault)) cids = cids ≡ looked_of (cid ∷ [])
IsAloneIn (Err (faults.Gone cid)) cids = cids ≡ cid ∷ []
IsAloneIn (Err faults.OutOfMemory) cids = length cids ≤ 1
IsAloneIn (Err other) cids = cids ≡ []

-- CIDs were looked up, none of them an identity CID
pub record HaveLookedUp (lookups : Lookups) : Type 0 where
  pub cids : List CidParts
  pub looked : LookedUp cids lookups
  pub hashed : All (λ cid. cid.hash ≡ Sha256) cids

-- what was looked up, none of it an identity CID; where each block is given once repeats may be looked up again, and
-- passed over
pub record HasLookedUp (q : QueryParts) (result : Result (Option (CidParts × List ℕ)) WalkFault) (lookups : Lookups) : Type 0 where
  pub cids : List CidParts
  pub looked : LookedUp cids lookups
  pub hashed : All (λ cid. cid.hash ≡ Sha256) cids
  pub few : q.dups ≡ true → length cids ≤ 1
  pub quiet : OnOk result (LookupsQuiet lookups)

-- and for which place, in a walk that wasn't refused
pub record HasSought (q : QueryParts) (result : Result (Option (CidParts × List ℕ)) WalkFault) (lookups : Lookups) : Type 0 where
  pub up : HasLookedUp q result lookups
  pub last : IsLastOf result up.cids
  pub alone : q.dups ≡ true → IsAloneIn result up.cids

abbrev pub IsNamedFound : Result (Option (CidParts × List ℕ)) WalkFault → Type 0
IsNamedFound (Ok (Some found)) = Names found.0 found.1 × (length found.1 ≤ max_block_len)
IsNamedFound (Ok None) = ⊤
IsNamedFound (Err fault) = ⊤

-- a block that is given is asked for
abbrev pub IsAskedFound : QueryParts → Result (Option (CidParts × List ℕ)) WalkFault → Type 0
IsAskedFound q (Ok (Some found)) = is_asked q found.0 ≡ true
IsAskedFound q (Ok None) = ⊤
IsAskedFound q (Err fault) = ⊤

-- a fault of the store comes as it came; no other fault hides one
abbrev pub HasStoreCause : Result (Option (CidParts × List ℕ)) WalkFault → Option Store → Lookups → Type 0
HasStoreCause (Ok found) told lookups = ⊤
HasStoreCause (Err (faults.Store fault)) told lookups =
    (cid : CidParts) × IsCauseOf told cid lookups.faults_old lookups.faults_new fault
HasStoreCause (Err other) told lookups = LookupsQuiet lookups

-- a store's fault; its want of memory is the walk's
abbrev pub fault_of_store : BlocksFault → WalkFault
fault_of_store (store_faults.Changed want got) = faults.Store (store_faults.Changed want got)
fault_of_store store_faults.Failed = faults.Store store_faults.Failed
fault_of_store store_faults.OutOfMemory = faults.OutOfMemory

-- ---- steps

abbrev pub fault_of_miss : Miss → WalkFault
fault_of_miss (misses.NoEntry i) = faults.NotThere i
fault_of_miss (misses.NoDirectory i) = faults.NotFolder i

-- the place that is wanted now has this CID, and isn't deep
pub record IsWantedHere (state : LeftState) (cid : CidParts) : Type 0 where
  pub at : WantedAt
  pub wanted : state.wanted ≡ Some at
  pub cid_is : at.cid ≡ cid
  pub shallow : depth_of at.want ≤ 1100

-- texts and entries were passed over, up to the next place, to the end, or to a segment that leads nowhere
abbrev pub IsNextPlace : LeftState → Result (Option Wanted) WalkFault → LeftState → Type 0
IsNextPlace old (Ok (Some wanted)) new =
    (at : WantedAt) × (new.wanted ≡ Some at) × (wanted ≡ record { cid = at.cid; depth = depth_of at.want }) × (tasks_left new ≡ tasks_then (tasks_left old))
IsNextPlace old (Ok None) new = (tasks_then (tasks_left old) ≡ []) × (tasks_left new ≡ [])
IsNextPlace old (Err fault) new =
    (fault ≡ faults.OutOfMemory) ⊎ ((miss : Miss) × (more : List (Task CidParts)) × (fault ≡ fault_of_miss miss) × (tasks_then (tasks_left old) ≡ stop_at (missing_of miss) ∷ more))

-- the same, and of entries it is told whether there were any
abbrev pub IsNextMet : LeftState → Result (Option NextPlace) WalkFault → LeftState → Type 0
IsNextMet old (Ok (Some next)) new =
    IsNextPlace old (Ok (Some next.wanted)) new × (next.met ≡ false → entries_now (tasks_left old) ≡ [])
IsNextMet old (Ok None) new = IsNextPlace old (Ok None) new
IsNextMet old (Err fault) new = IsNextPlace old (Err fault) new

-- a fault of a block; its want of memory is the walk's
abbrev pub fault_of_block : CidParts → BlockFault → WalkFault
fault_of_block cid fault = fault_said faults.OutOfMemory faults.BadBlock cid fault

-- the block was opened at the wanted place: passed over where the block alone is asked for, or read, with the tasks
-- that it leaves before those that were left
pub record IsOpenedThere (old : LeftState) (at : WantedAt) (block : List ℕ) (new : LeftState) : Type 0 where
  pub kind : Kind
  pub is_read : is_read_at old.query at.want ≡ true
  pub reads : read at.cid block ≡ Ok kind
  pub fits : fault_at old.query at.want kind ≡ None
  pub tasks : tasks_left new ≡ tasks_of old.query at.want (section_of at.cid block) kind (links_of kind) ++ old.later

-- the block there has no kind, or one that can't stand there
pub record IsBadThere (old : LeftState) (at : WantedAt) (block : List ℕ) (fault : BlockFault) : Type 0 where
  pub is_read : is_read_at old.query at.want ≡ true
  pub cause : (read at.cid block ≡ Err fault) ⊎ ((kind : Kind) × (read at.cid block ≡ Ok kind) × (fault_at old.query at.want kind ≡ Some fault))

abbrev pub IsOpened : LeftState → WantedAt → List ℕ → Result ⊤ WalkFault → LeftState → Type 0
IsOpened old at block (Ok done) new =
    ((is_read_at old.query at.want ≡ false) × (tasks_left new ≡ old.later)) ⊎ IsOpenedThere old at block new
IsOpened old at block (Err fault) new =
    (fault ≡ faults.OutOfMemory) ⊎ ((bad : BlockFault) × (fault ≡ faults.BadBlock at.cid bad) × IsBadThere old at block bad)

-- the places that were opened have these sections, each of them
pub record HasOpened (most : ℕ) (left : LeftState) (store : Store) (opened : List Section) : Type 0 where
  pub given : Given
  pub gave : opened_by given ≡ opened
  pub walked : IsWalked left.query store most given (tasks_left left)

-- what a step opened, and what is opened behind it
abbrev pub HasGone : Result (Option (CidParts × List ℕ)) WalkFault → ℕ → LeftState → Store → List Section → Type 0
HasGone (Ok (Some found)) most new store opened = HasOpened most new store (opened ++ section_of found.0 found.1 ∷ [])
HasGone (Ok None) most new store opened =
    HasOpened most new store opened × HasEnded new.query store most (sent new.query opened) whole
HasGone (Err fault) most new store opened = HasWalkCause new.query store most (sent new.query opened) fault

-- what was given, and what the walk has given behind it
abbrev pub HasGoneOn : Result (Option (CidParts × List ℕ)) WalkFault → LeftState → KnownState → Store → List Section → Type 0
HasGoneOn (Ok (Some found)) new known store sections =
    IsOnWalk max_depth new known store (sections ++ section_of found.0 found.1 ∷ [])
HasGoneOn (Ok None) new known store sections =
    IsOnWalk max_depth new known store sections × HasEnded new.query store max_depth sections whole
HasGoneOn (Err fault) new known store sections = HasWalkCause new.query store max_depth sections fault

-- the next place is told of which not all is known, and it lies below the blocks that are open
pub record IsPlaceNow (left : LeftState) (known : KnownState) (place : Opened) : Type 0 where
  pub at : WantedAt
  pub wanted : left.wanted ≡ Some at
  pub is : place ≡ record { cid = at.cid; depth = depth_of at.want; deepest = depth_of at.want; role = role_at at.want }
  pub above : LieAbove known.nodes (depth_of at.want)

-- a fault that no store gave: want of memory, or a segment that leads nowhere
abbrev pub IsOwnFault : WalkFault → Type 0
IsOwnFault fault = (fault ≡ faults.OutOfMemory) ⊎ ((miss : Miss) × (fault ≡ fault_of_miss miss))

-- a walk that gives each block once went on to a place of which not all is known, or to the end
abbrev pub HasComeTo : Result (Option Opened) WalkFault → LeftState → KnownState → Store → List Section → Type 0
HasComeTo (Ok (Some place)) new known store sections = IsOnWalk max_depth new known store sections
HasComeTo (Ok None) new known store sections =
    IsOnWalk max_depth new known store sections × HasEnded new.query store max_depth sections whole
HasComeTo (Err fault) new known store sections = HasWalkCause new.query store max_depth sections fault

-- of a place all is known below it, so many levels of blocks, and none of them is too deep
pub record HasLevelsAt (q : QueryParts) (known : KnownState) (place : Wanted) (role : Option Role) (levels : ℕ) : Type 0 where
  pub in_role : Role
  pub role_is : role ≡ Some in_role
  pub has : HasLevels known.entries place.cid in_role levels
  pub not_block : is_block q.scope ≡ false
  pub shallow : place.depth + levels ≤ max_depth

-- at the wanted place this block was opened, which isn't too deep
pub record HasOpenedAt (old : LeftState) (store : Store) (at : WantedAt) (found : CidParts × List ℕ) (new : LeftState) : Type 0 where
  pub cid_is : found.0 ≡ at.cid
  pub stored : block_at store at.cid ≡ Some found.1
  pub opened : IsOpened old at found.1 (Ok tt) new

-- ---- blocks

-- what a CID leads to in the store, as far as it is told, and a block only where the CID names it
pub record IsBlockOf (told : Option Store) (cid : CidParts) (found : Option (List ℕ)) : Type 0 where
  pub stored : IfSome told (λ store. found ≡ block_at store cid)
  pub named : IsNamedBlock cid found

-- the CID was looked up, but for an identity CID; a failed call looks nothing up; and where no memory is found it may
-- have been looked up
abbrev pub AreFetchedBy : CidParts → Result (Option (List ℕ)) BlocksFault → List CidParts → Type 0
AreFetchedBy cid (Ok found) cids = cids ≡ looked_of (cid ∷ [])
AreFetchedBy cid (Err store_faults.OutOfMemory) cids = FrontOf cids (looked_of (cid ∷ []))
AreFetchedBy cid (Err other) cids = cids ≡ []

pub record HasFetched (cid : CidParts) (result : Result (Option (List ℕ)) BlocksFault) (lookups : Lookups) : Type 0 where
  pub cids : List CidParts
  pub looked : LookedUp cids lookups
  pub hashed : All (λ cid. cid.hash ≡ Sha256) cids
  pub just : AreFetchedBy cid result cids
  pub quiet : OnOk result (LookupsQuiet lookups)

-- in a step nothing else was looked up
pub record HasLookedOnce (result : Result (Option (CidParts × List ℕ)) WalkFault) (lookups : Lookups) : Type 0 where
  pub cids : List CidParts
  pub looked : LookedUp cids lookups
  pub hashed : All (λ cid. cid.hash ≡ Sha256) cids
  pub alone : IsAloneIn result cids
  pub quiet : OnOk result (LookupsQuiet lookups)
