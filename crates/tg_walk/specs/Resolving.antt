-- Where a path leads over what a store shows (Path Gateway specification, Path Resolution).
use Rattle.std.specs.Prelude.{Err, List, None, Ok, Option, Result, Some, [], map, true, ⊤, ℕ, ◌++◌, ◌∷◌, ◌≡◌, ◌≢◌}
use Rattle.tg_cid.specs.Cid.{CidParts}
use Rattle.tg_cid.specs.declared.cid.HashKind.TheVariants.{Sha256}
use Rattle.tg_walk.specs.declared.fault.ResolveFault.{ResolveFault}
use Rattle.tg_walk.specs.declared.fault.ResolveFault.TheVariants as refusals
use Rattle.tg_walk.specs.declared.fault.WalkFault.{WalkFault}
use Rattle.tg_walk.specs.declared.fault.WalkFault.TheVariants as walks
use Rattle.tg_model.specs.Dag.{Dag, root_cid}
use Rattle.tg_model.specs.PathWalk.{PathEnd, PathWalk, Spot, Stop, bad_block, gone, not_folder, not_reached, not_there}
use Rattle.tg_model.specs.PathWalk.{path_walk, terminal}
use Rattle.tg_model.specs.Queries.{QueryParts}
use Rattle.tg_model.specs.StoreView.{block_at, store_view}
use Rattle.tg_model.specs.Stores.{IsCauseOf, LookedUp, Lookups, LookupsQuiet, Store}
use Rattle.tg_model.specs.declared.queries.Form.TheVariants as forms
use Rattle.tg_model.specs.declared.queries.Scope.TheVariants as scopes
use Rattle.tg_model.specs.declared.stores.BlocksFault.{BlocksFault}
use Rattle.tg_model.specs.declared.stores.BlocksFault.TheVariants as store_faults
use Rattle.tg_model_laws.specs.ListFronts.{FrontOf}
use Rattle.tg_model_laws.specs.Stages.{IsOpened}
use Rattle.tg_model_laws.specs.StoreWalks.{section_of}
use Rattle.tg_model_laws.specs.Tasks.{Task, open_block, segment_want, stop_at, terminal_want}
use Rattle.tg_walk.specs.Walks.{looked_of}

-- a store's fault, and a walk's; want of memory is the refusal's own
abbrev pub refusal_of_store : BlocksFault → ResolveFault
refusal_of_store (store_faults.Changed want got) = refusals.Store (store_faults.Changed want got)
refusal_of_store store_faults.Failed = refusals.Store store_faults.Failed
refusal_of_store store_faults.OutOfMemory = refusals.OutOfMemory

abbrev pub refusal_of_walk : WalkFault → ResolveFault
refusal_of_walk (walks.BadBlock cid fault) = refusals.BadBlock cid fault
refusal_of_walk (walks.Gone cid) = refusals.Gone cid
refusal_of_walk walks.TooDeep = refusals.OutOfMemory
refusal_of_walk (walks.Store fault) = refusals.Store fault
refusal_of_walk (walks.NotThere i) = refusals.NotThere i
refusal_of_walk (walks.NotFolder i) = refusals.NotFolder i
refusal_of_walk walks.OutOfMemory = refusals.OutOfMemory

-- the query by which a path is followed
abbrev pub path_query : CidParts → List (List ℕ) → QueryParts
path_query root path = record { root = root; path = path; form = forms.Car; scope = scopes.Block; span = None; dups = true }

-- where the path walk over what the store shows ends
abbrev pub end_over : Store → CidParts → List (List ℕ) → PathEnd
end_over store root path = (path_walk path (store_view store root)).end

-- the root is stored, or its hash is identity
abbrev pub IsStoredRoot : Store → CidParts → Type 0
IsStoredRoot store root = block_at store root ≡ None → ⊥

-- the path leads to this terminal, which is stored, as the root is; of an identity CID the block is the digest
pub record LeadsTo (store : Store) (root : CidParts) (path : List (List ℕ)) (cid : CidParts) : Type 0 where
  pub root_stored : IsStoredRoot store root
  pub d : Dag
  pub end : end_over store root path ≡ terminal d
  pub block : List ℕ
  pub stored : block_at store cid ≡ Some block
  pub opened : IsOpened d (section_of cid block)

-- the root is stored, and the path walk stops so
pub record StopsAt (store : Store) (root : CidParts) (path : List (List ℕ)) (stop : Stop) : Type 0 where
  pub root_stored : IsStoredRoot store root
  pub end : end_over store root path ≡ not_reached stop

-- each answer is the end of the path walk; where the root isn't stored, none comes but `NoRoot`, `Store` and
-- `OutOfMemory`
abbrev pub IsResolvedTo : Store → CidParts → List (List ℕ) → Result CidParts ResolveFault → Type 0
IsResolvedTo store root path (Ok cid) = LeadsTo store root path cid
IsResolvedTo store root path (Err refusals.NoRoot) = block_at store root ≡ None
IsResolvedTo store root path (Err (refusals.NotThere i)) = StopsAt store root path (not_there i)
IsResolvedTo store root path (Err (refusals.NotFolder i)) = StopsAt store root path (not_folder i)
IsResolvedTo store root path (Err (refusals.BadBlock cid fault)) =
    (spot : Spot) × (spot.cid ≡ cid) × StopsAt store root path (bad_block spot fault)
IsResolvedTo store root path (Err (refusals.Gone cid)) =
    (spot : Spot) × (spot.cid ≡ cid) × (block_at store cid ≡ None) × StopsAt store root path (gone spot)
IsResolvedTo store root path (Err (refusals.Store fault)) = ⊤
IsResolvedTo store root path (Err refusals.OutOfMemory) = ⊤

-- a fault of the store comes as it came; no other refusal hides one
abbrev pub HasResolveCause : Result CidParts ResolveFault → Option Store → Lookups → Type 0
HasResolveCause (Ok cid) told lookups = LookupsQuiet lookups
HasResolveCause (Err (refusals.Store fault)) told lookups =
    (cid : CidParts) × IsCauseOf told cid lookups.faults_old lookups.faults_new fault
HasResolveCause (Err other) told lookups = LookupsQuiet lookups

-- which refusals can come: that the root isn't stored only of a root whose hash isn't identity, and the others of a path
-- that has a segment
abbrev pub HasResolveShape : CidParts → List (List ℕ) → Result CidParts ResolveFault → Type 0
HasResolveShape root path (Err refusals.NoRoot) = root.hash ≡ Sha256
HasResolveShape root path (Err (refusals.NotThere i)) = path ≢ []
HasResolveShape root path (Err (refusals.NotFolder i)) = path ≢ []
HasResolveShape root path (Err (refusals.BadBlock cid fault)) = path ≢ []
HasResolveShape root path (Err (refusals.Gone cid)) = path ≢ []
HasResolveShape root path end = ⊤

-- ---- what is looked up

-- the CID of the place where a path walk ends: the terminal's, or that of a block that isn't opened or can't stand
-- there; where a segment leads nowhere there is none behind the last block
abbrev pub end_place : PathEnd → List CidParts
end_place (terminal d) = root_cid d ∷ []
end_place (not_reached (not_there i)) = []
end_place (not_reached (not_folder i)) = []
end_place (not_reached (gone spot)) = spot.cid ∷ []
end_place (not_reached (bad_block spot fault)) = spot.cid ∷ []

-- the CIDs of a path walk's places, in order
abbrev pub places_on : PathWalk → List CidParts
places_on walk = map (λ section. section.cid) walk.sections ++ end_place walk.end

-- all of these CIDs were looked up; or those before the one for which the store gave no answer; or, where no memory was
-- found, those up to some one
abbrev pub AreLookedUp : List CidParts → Result CidParts ResolveFault → List CidParts → Type 0
AreLookedUp places (Err (refusals.Store fault)) cids = (cid : CidParts) × FrontOf (cids ++ cid ∷ []) places
AreLookedUp places (Err refusals.OutOfMemory) cids = FrontOf cids places
AreLookedUp places end cids = cids ≡ places

-- the CIDs of the places of the path walk over what the store shows were looked up, in order, but for identity CIDs; and
-- nothing else was
pub record HasLookedAlong (store : Store) (root : CidParts) (path : List (List ℕ)) (result : Result CidParts ResolveFault) (lookups : Lookups) : Type 0 where
  pub cids : List CidParts
  pub looked : LookedUp cids lookups
  pub along : AreLookedUp (looked_of (places_on (path_walk path (store_view store root)))) result cids

-- ---- on the way

-- one place of the path is left, at this depth; or a segment led nowhere
abbrev pub IsPathPlace : ℕ → List (Task CidParts) → Type 0
IsPathPlace d (open_block (segment_want i position name path depth) cid ∷ []) = depth ≡ d
IsPathPlace d (open_block (terminal_want depth) cid ∷ []) = depth ≡ d
IsPathPlace d (stop_at miss ∷ []) = ⊤
IsPathPlace d _ = ⊥
