-- One step of a walk over a store.
use Rattle.std.proofs.Common.{Err, IfSome, List, None, Ok, Option, Some, [], ap, inl, inr, refl, subst, sym, ℕ, ◌++◌, ◌<◌, ◌∙◌, ◌∷◌, ◌≡◌, ◌≤◌}
use Rattle.tg_cid.specs.Cid.{CidParts}
use Rattle.tg_walk.proofs.Walking.{HasWalked, front_of, is_bad, is_done, is_gone, is_missing, moved_on, on_walk, opened, passed_over, too_deep, walked_of}
use Rattle.tg_traversal.specs.Left.{LeftState, WantedAt, tasks_left, wanted_tasks}
use Rattle.tg_traversal.specs.Places.{missing_of}
use Rattle.tg_walk.specs.Walks.{HasEnded, HasOpened, HasWalkCause, IsBlockOf, IsFront, IsNextPlace, IsOpened, fault_of_store}
use Rattle.tg_walk.specs.declared.fault.WalkFault.{WalkFault}
use Rattle.tg_walk.specs.declared.fault.WalkFault.TheVariants as faults
use Rattle.tg_traversal.specs.declared.position.Wanted.{Wanted}
use Rattle.tg_model.specs.Dag.{Section, links_of}
use Rattle.tg_model.specs.PathWalk.{whole}
use Rattle.tg_model.specs.Queries.{QueryParts}
use Rattle.tg_model.specs.StoreView.{block_at}
use Rattle.tg_model.specs.Stores.{Store}
use Rattle.tg_model.specs.Traversal.{sent}
use Rattle.tg_model.specs.declared.stores.BlocksFault.TheVariants as store_faults
use Rattle.tg_model.specs.declared.stores.BlocksFault.{BlocksFault}
use Rattle.tg_model_laws.specs.StoreWalks.{WalkLaws, section_of}
use Rattle.tg_model_laws.specs.Tasks.{Task, depth_of, open_block, stop_at, tasks_of, tasks_then}

-- behind the texts and entries that were passed over
walked_then : (laws : WalkLaws) (most : ℕ) (old new : LeftState) (store : Store) (sections : List Section) → new.query ≡ old.query → HasOpened most old store sections
    → HasWalked new.query most store sections (tasks_then (tasks_left old))
walked_then laws most old new store sections e on =
    subst (λ (q : QueryParts). HasWalked q most store sections (tasks_then (tasks_left old))) (sym e) (moved_on laws old.query most store sections (tasks_left old) (walked_of most old store sections on))

retold : (q : QueryParts) (most : ℕ) (store : Store) (sections : List Section) (a b : List (Task CidParts)) → a ≡ b → HasWalked q most store sections a → HasWalked q most store sections b
retold q most store sections a b e w = subst (λ (t : List (Task CidParts)). HasWalked q most store sections t) e w

-- the next place is the wanted one
place_tasks : (mid : LeftState) (at : WantedAt) → mid.wanted ≡ Some at → tasks_left mid ≡ open_block at.want at.cid ∷ mid.later
place_tasks mid at e = ap (λ (w : Option WantedAt). wanted_tasks w ++ mid.later) e

walked_place : (laws : WalkLaws) (most : ℕ) (old mid : LeftState) (store : Store) (sections : List Section) (at : WantedAt) → mid.query ≡ old.query → HasOpened most old store sections
    → mid.wanted ≡ Some at → tasks_left mid ≡ tasks_then (tasks_left old) → HasWalked mid.query most store sections (open_block at.want at.cid ∷ mid.later)
walked_place laws most old mid store sections at e on w t =
    retold mid.query most store sections (tasks_then (tasks_left old)) (open_block at.want at.cid ∷ mid.later) (sym t ∙ place_tasks mid at w) (walked_then laws most old mid store sections e on)

-- ---- where no block is fetched

pub stops_before : (laws : WalkLaws) (most : ℕ) (old new : LeftState) (store : Store) (sections : List Section) (fault : WalkFault) → new.query ≡ old.query → HasOpened most old store sections
    → IsNextPlace old (Err fault) new → HasWalkCause new.query store most (sent new.query sections) fault
stops_before laws most old new store sections fault e on (inl g) =
    subst (λ (f : WalkFault). HasWalkCause new.query store most (sent new.query sections) f) (sym g)
    (front_of laws new.query most store sections (tasks_then (tasks_left old)) (walked_then laws most old new store sections e on))
stops_before laws most old new store sections fault e on (inr (miss, more, g, t)) =
    subst (λ (f : WalkFault). HasWalkCause new.query store most (sent new.query sections) f) (sym g)
    (is_missing laws new.query most store sections miss more
    (retold new.query most store sections (tasks_then (tasks_left old)) (stop_at (missing_of miss) ∷ more) t (walked_then laws most old new store sections e on)))

pub ends_there : (laws : WalkLaws) (most : ℕ) (old new : LeftState) (store : Store) (sections : List Section) → new.query ≡ old.query → HasOpened most old store sections
    → IsNextPlace old (Ok None) new → HasOpened most new store sections × HasEnded new.query store most (sent new.query sections) whole
ends_there laws most old new store sections e on (t, n) =
    let walked : HasWalked new.query most store sections [] = retold new.query most store sections (tasks_then (tasks_left old)) [] t (walked_then laws most old new store sections e on) in
    (on_walk new.query most new store sections [] refl n walked, is_done laws new.query most store sections walked)

pub stops_deep : (laws : WalkLaws) (most : ℕ) (old mid : LeftState) (store : Store) (sections : List Section) (wanted : Wanted) → mid.query ≡ old.query → HasOpened most old store sections
    → IsNextPlace old (Ok (Some wanted)) mid → most < wanted.depth → HasWalkCause mid.query store most (sent mid.query sections) faults.TooDeep
stops_deep laws most old mid store sections wanted e on (at, w, told, t) d =
    too_deep laws mid.query most store sections at mid.later (subst (λ (n : ℕ). most < n) (ap (λ (x : Wanted). x.depth) told) d)
    (walked_place laws most old mid store sections at e on w t)

pub front_there : (laws : WalkLaws) (most : ℕ) (old mid : LeftState) (store : Store) (sections : List Section) (wanted : Wanted) → mid.query ≡ old.query → HasOpened most old store sections
    → IsNextPlace old (Ok (Some wanted)) mid → IsFront mid.query store (sent mid.query sections)
front_there laws most old mid store sections wanted e on (at, w, told, t) =
    front_of laws mid.query most store sections (open_block at.want at.cid ∷ mid.later) (walked_place laws most old mid store sections at e on w t)

pub gone_there : (laws : WalkLaws) (most : ℕ) (old mid : LeftState) (store : Store) (sections : List Section) (wanted : Wanted) → mid.query ≡ old.query → HasOpened most old store sections
    → IsNextPlace old (Ok (Some wanted)) mid → most ≤ 1100 → wanted.depth ≤ most → block_at store wanted.cid ≡ None → HasWalkCause mid.query store most (sent mid.query sections) (faults.Gone wanted.cid)
gone_there laws most old mid store sections wanted e on (at, w, told, t) m d s =
    subst (λ (c : CidParts). HasWalkCause mid.query store most (sent mid.query sections) (faults.Gone c)) (sym (ap (λ (x : Wanted). x.cid) told))
    (is_gone laws mid.query most store sections at mid.later m (subst (λ (n : ℕ). n ≤ most) (ap (λ (x : Wanted). x.depth) told) d)
    (ap (block_at store) (sym (ap (λ (x : Wanted). x.cid) told)) ∙ s) (walked_place laws most old mid store sections at e on w t))

-- ---- where the block is opened

-- the block at the wanted place, with what was walked up to it
record IsThere (most : ℕ) (mid : LeftState) (store : Store) (sections : List Section) (wanted : Wanted) (block : List ℕ) : Type 0 where
  at : WantedAt
  wanted_is : mid.wanted ≡ Some at
  told : wanted.cid ≡ at.cid
  shallow : depth_of at.want ≤ most
  stored : block_at store at.cid ≡ Some block
  walked : HasWalked mid.query most store sections (open_block at.want at.cid ∷ mid.later)

there_of : (laws : WalkLaws) (most : ℕ) (old mid : LeftState) (store : Store) (sections : List Section) (wanted : Wanted) (block : List ℕ) → mid.query ≡ old.query → HasOpened most old store sections
    → IsNextPlace old (Ok (Some wanted)) mid → wanted.depth ≤ most → block_at store wanted.cid ≡ Some block → IsThere most mid store sections wanted block
there_of laws most old mid store sections wanted block e on (at, w, told, t) d s = record {
  at = at;
  wanted_is = w;
  told = ap (λ (x : Wanted). x.cid) told;
  shallow = subst (λ (n : ℕ). n ≤ most) (ap (λ (x : Wanted). x.depth) told) d;
  stored = ap (block_at store) (sym (ap (λ (x : Wanted). x.cid) told)) ∙ s;
  walked = walked_place laws most old mid store sections at e on w t;
}

stopped_at : (laws : WalkLaws) (most : ℕ) (mid new : LeftState) (store : Store) (sections : List Section) (wanted : Wanted) (block : List ℕ) (fault : WalkFault) → most ≤ 1100 → new.query ≡ mid.query
    → (there : IsThere most mid store sections wanted block) → IsOpened mid there.at block (Err fault) new → HasWalkCause mid.query store most (sent mid.query sections) fault
stopped_at laws most mid new store sections wanted block fault m e there (inl g) =
    subst (λ (f : WalkFault). HasWalkCause mid.query store most (sent mid.query sections) f) (sym g)
    (front_of laws mid.query most store sections (open_block there.at.want there.at.cid ∷ mid.later) there.walked)
stopped_at laws most mid new store sections wanted block fault m e there (inr (bad, g, h)) =
    subst (λ (f : WalkFault). HasWalkCause mid.query store most (sent mid.query sections) f) (sym g)
    (is_bad laws mid.query most store sections there.at mid.later block bad m there.shallow there.stored h.is_read h.cause there.walked)

went_on : (laws : WalkLaws) (most : ℕ) (mid new : LeftState) (store : Store) (sections : List Section) (wanted : Wanted) (block : List ℕ) (done : _) → most ≤ 1100 → new.query ≡ mid.query
    → (there : IsThere most mid store sections wanted block) → IsOpened mid there.at block (Ok done) new → HasOpened most new store (sections ++ section_of there.at.cid block ∷ [])
went_on laws most mid new store sections wanted block done m e there (inl (r, t)) =
    on_walk mid.query most new store (sections ++ section_of there.at.cid block ∷ []) mid.later e t
    (passed_over laws mid.query most store sections there.at mid.later block m there.shallow there.stored r there.walked)
went_on laws most mid new store sections wanted block done m e there (inr h) =
    on_walk mid.query most new store (sections ++ section_of there.at.cid block ∷ []) (tasks_of mid.query there.at.want (section_of there.at.cid block) h.kind (links_of h.kind) ++ mid.later) e h.tasks
    (opened laws mid.query most store sections there.at mid.later block h.kind m there.shallow there.stored h.reads h.fits there.walked)

pub stops_at_block : (laws : WalkLaws) (most : ℕ) (old mid new : LeftState) (store : Store) (sections : List Section) (wanted : Wanted) (block : List ℕ) (fault : WalkFault)
    → most ≤ 1100 → mid.query ≡ old.query → new.query ≡ mid.query → HasOpened most old store sections → IsNextPlace old (Ok (Some wanted)) mid → wanted.depth ≤ most → block_at store wanted.cid ≡ Some block
    → ((at : WantedAt) → mid.wanted ≡ Some at → IsOpened mid at block (Err fault) new) → HasWalkCause new.query store most (sent new.query sections) fault
stops_at_block laws most old mid new store sections wanted block fault m e f on next d s opened_there =
    let there : IsThere most mid store sections wanted block = there_of laws most old mid store sections wanted block e on next d s in
    subst (λ (q : QueryParts). HasWalkCause q store most (sent q sections) fault) (sym f)
    (stopped_at laws most mid new store sections wanted block fault m f there (opened_there there.at there.wanted_is))

pub goes_on : (laws : WalkLaws) (most : ℕ) (old mid new : LeftState) (store : Store) (sections : List Section) (wanted : Wanted) (block : List ℕ) (done : _)
    → most ≤ 1100 → mid.query ≡ old.query → new.query ≡ mid.query → HasOpened most old store sections → IsNextPlace old (Ok (Some wanted)) mid → wanted.depth ≤ most → block_at store wanted.cid ≡ Some block
    → ((at : WantedAt) → mid.wanted ≡ Some at → IsOpened mid at block (Ok done) new) → HasOpened most new store (sections ++ section_of wanted.cid block ∷ [])
goes_on laws most old mid new store sections wanted block done m e f on next d s opened_there =
    let there : IsThere most mid store sections wanted block = there_of laws most old mid store sections wanted block e on next d s in
    subst (λ (c : CidParts). HasOpened most new store (sections ++ section_of c block ∷ [])) (sym there.told)
    (went_on laws most mid new store sections wanted block done m f there (opened_there there.at there.wanted_is))

-- ---- the store's answers

pub store_stops : (q : QueryParts) (most : ℕ) (store : Store) (sections : List Section) (fault : BlocksFault) → IsFront q store sections → HasWalkCause q store most sections (fault_of_store fault)
store_stops q most store sections (store_faults.Changed want got) front = front
store_stops q most store sections store_faults.Failed front = front
store_stops q most store sections store_faults.OutOfMemory front = front

pub found_in : (told : Option Store) (store : Store) (cid : CidParts) (found : Option (List ℕ)) → told ≡ Some store → IsBlockOf told cid found → block_at store cid ≡ found
found_in told store cid found e h = sym (subst (λ (t : Option Store). IfSome t (λ (s : Store). found ≡ block_at s cid)) e h.stored)
