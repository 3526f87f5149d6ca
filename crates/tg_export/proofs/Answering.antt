-- Where a store has the whole traversal, no end hides it.
use Rattle.std.proofs.Common.{Err, List, None, Ok, Option, Some, ap, subst, sym, ℕ, ◌∙◌, ◌≡◌}
use Rattle.std.specs.Prelude.{IfSome, Result, ⊤}
use Rattle.tg_cid.specs.Cid.{CidParts}
use Rattle.tg_export.specs.Cars.{CarEnds, HasCar, HasCarCause, HasOwnMemory, HasResolved, IsOtherwiseWhole, PutWhole}
use Rattle.tg_export.specs.declared.fault.ExportFault.{ExportFault}
use Rattle.tg_export.specs.declared.fault.ExportFault.TheVariants as faults
use Rattle.tg_model_laws.specs.PathStops.{path_stops}
use Rattle.tg_model.specs.Dag.{Section}
use Rattle.tg_model.specs.PathWalk.{Stop, TraversalEnd, bad_block, gone, not_folder, not_reached, not_there, path_walk, spot_at, stopped, whole}
use Rattle.tg_model.specs.Queries.{QueryParts}
use Rattle.tg_model.specs.Sound.{top}
use Rattle.tg_model.specs.StoreView.{block_at, opened_to, store_view, with_block}
use Rattle.tg_model.specs.Stores.{Lookups, Store}
use Rattle.tg_model.specs.Traversal.{Traversal, traversal}
use Rattle.tg_model.specs.declared.fault.BlockFault.{BlockFault}
use Rattle.tg_model.specs.declared.stores.BlocksFault.TheVariants as store_faults
use Rattle.tg_streams.specs.Streams.{Output}
use Rattle.tg_model_laws.specs.StoreWalks.{cut_view}
use Rattle.tg_model_laws.specs.Tasks.{spot_of}
use Rattle.tg_walk.specs.Resolving.{IsResolvedTo, StopsAt, end_over}
use Rattle.tg_walk.specs.Walks.{HasEnded, HasStoppedDeep, HasWalkCause, max_depth}
use Rattle.tg_walk.specs.declared.fault.ResolveFault.TheVariants as refusals
use Rattle.tg_walk.specs.declared.fault.WalkFault.{WalkFault}
use Rattle.tg_walk.specs.declared.fault.WalkFault.TheVariants as walks

is_whole : TraversalEnd → Type 0
is_whole whole = ⊤
is_whole (stopped stop) = ⊥

not_both : (end : TraversalEnd) (stop : Stop) → end ≡ whole → end ≡ stopped stop → ⊥
unfolding is_whole
not_both end stop e f = subst is_whole (sym e ∙ f) tt

told_of : (told : Option Store) (store : Store) (holds : Store → Type 0) → told ≡ Some store → IfSome told holds → holds store
told_of told store holds e h = subst (λ (t : Option Store). IfSome t holds) e h

no_path : (q : QueryParts) (store : Store) (sections : List Section) (stop : Stop) → end_over store q.root q.path ≡ not_reached stop → HasEnded q store max_depth sections whole → ⊥
no_path q store sections stop e h =
    not_both (traversal q (store_view store q.root)).end stop (ap (λ (t : Traversal). t.end) h.ends.full) (path_stops q (store_view store q.root) stop e)

-- where the root isn't stored, the path stops at once
stops_at_root : (path : List (List ℕ)) (store : Store) (root : CidParts) → block_at store root ≡ None → end_over store root path ≡ not_reached (gone (spot_at root 1 top))
stops_at_root path store root e = ap (λ (found : Option (List ℕ)). (path_walk path (with_block (opened_to 1099 store) root found)).end) e

bad_path : (q : QueryParts) (store : Store) (sections : List Section) (cid : CidParts) (fault : BlockFault) → IsResolvedTo store q.root q.path (Err (refusals.BadBlock cid fault))
    → HasEnded q store max_depth sections whole → ⊥
bad_path q store sections cid fault (spot, e, f) h = no_path q store sections (bad_block spot fault) f.end h

gone_path : (q : QueryParts) (store : Store) (sections : List Section) (cid : CidParts) → IsResolvedTo store q.root q.path (Err (refusals.Gone cid)) → HasEnded q store max_depth sections whole → ⊥
gone_path q store sections cid (spot, e, n, f) h = no_path q store sections (gone spot) f.end h

-- the walk came through, and so it didn't stop
not_stopped : (q : QueryParts) (store : Store) (given sections : List Section) (stop : Stop) → HasEnded q store max_depth given (stopped stop) → HasEnded q store max_depth sections whole → ⊥
not_stopped q store given sections stop f h =
    not_both (traversal q (store_view store q.root)).end stop (ap (λ (t : Traversal). t.end) h.ends.full) (ap (λ (t : Traversal). t.end) f.ends.full)

bad_walk : (q : QueryParts) (store : Store) (given sections : List Section) (cid : CidParts) (fault : BlockFault) → HasWalkCause q store max_depth given (walks.BadBlock cid fault)
    → HasEnded q store max_depth sections whole → ⊥
bad_walk q store given sections cid fault (spot, e, d, f) h = not_stopped q store given sections (bad_block spot fault) f h

gone_walk : (q : QueryParts) (store : Store) (given sections : List Section) (cid : CidParts) → HasWalkCause q store max_depth given (walks.Gone cid) → HasEnded q store max_depth sections whole → ⊥
gone_walk q store given sections cid (spot, e, d, f) h = not_stopped q store given sections (gone spot) f h

not_deep : (q : QueryParts) (store : Store) (given sections : List Section) → HasStoppedDeep q store max_depth given → HasEnded q store max_depth sections whole → ⊥
not_deep q store given sections f h =
    not_both (traversal q (cut_view max_depth store q.root)).end (gone (spot_of f.want f.cid)) (ap (λ (t : Traversal). t.end) h.ends.cut) (ap (λ (t : Traversal). t.end) f.deep.cut)

is_told : Option Store → Type 0
is_told None = ⊥
is_told (Some store) = ⊤

told_too : (told : Option Store) (store : Store) → told ≡ Some store → told ≡ None → ⊥
unfolding is_told
told_too told store e f = subst is_told (sym e ∙ f) tt

-- what is told of the sections that were put
told_car : (root : CidParts) (told : Option Store) (store : Store) (way : Store → Type 0) (holds : Store → List Section → Type 0) (done : List ℕ → Type 0) → told ≡ Some store
    → (h : HasCar root told (λ store sections. way store × holds store sections) done) → holds store h.sections
told_car root told store way holds done e h = (told_of told store (λ store. way store × holds store h.sections) e h.is_so).1

walk_answers : (q : QueryParts) (told : Option Store) (out : Output) (store : Store) (fault : WalkFault) → told ≡ Some store
    → (h : CarEnds q told out (Err (faults.Walk fault))) → HasWalkCause q store max_depth h.sections fault
walk_answers q told out store fault e h =
    told_car q.root told store (λ store. HasResolved store q) (λ store sections. HasWalkCause q store max_depth sections fault) (PutWhole out) e h

pub answers : (q : QueryParts) (told : Option Store) (out : Output) (lookups : Lookups) (store : Store) (sections : List Section) (end : Result ⊤ ExportFault) → CarEnds q told out end → HasCarCause told lookups end
    → HasOwnMemory end → told ≡ Some store → HasEnded q store max_depth sections whole → IsOtherwiseWhole end
answers q told out lookups store sections (Ok done) h cause own e all = tt
answers q told out lookups store sections (Err (faults.Pack fault)) h cause own e all = absurd h
answers q told out lookups store sections (Err faults.SinkFault) h cause own e all = tt
answers q told out lookups store sections (Err faults.OutOfMemory) h cause own e all = tt
answers q told out lookups store sections (Err (faults.Resolve refusals.NoRoot)) h cause own e all =
    absurd (no_path q store sections (gone (spot_at q.root 1 top)) (stops_at_root q.path store q.root (told_of told store (λ store. block_at store q.root ≡ None) e h.1)) all)
answers q told out lookups store sections (Err (faults.Resolve (refusals.NotThere i))) h cause own e all =
    absurd (no_path q store sections (not_there i) (told_of told store (λ store. StopsAt store q.root q.path (not_there i)) e h.1).end all)
answers q told out lookups store sections (Err (faults.Resolve (refusals.NotFolder i))) h cause own e all =
    absurd (no_path q store sections (not_folder i) (told_of told store (λ store. StopsAt store q.root q.path (not_folder i)) e h.1).end all)
answers q told out lookups store sections (Err (faults.Resolve (refusals.BadBlock cid fault))) h cause own e all =
    absurd (bad_path q store sections cid fault (told_of told store (λ store. IsResolvedTo store q.root q.path (Err (refusals.BadBlock cid fault))) e h.1) all)
answers q told out lookups store sections (Err (faults.Resolve (refusals.Gone cid))) h cause own e all =
    absurd (gone_path q store sections cid (told_of told store (λ store. IsResolvedTo store q.root q.path (Err (refusals.Gone cid))) e h.1) all)
answers q told out lookups store sections (Err (faults.Resolve (refusals.Store (store_faults.Changed want got)))) h cause own e all = absurd (told_too told store e cause.1.0)
answers q told out lookups store sections (Err (faults.Resolve (refusals.Store store_faults.Failed))) h cause own e all = tt
answers q told out lookups store sections (Err (faults.Resolve (refusals.Store store_faults.OutOfMemory))) h cause own e all = absurd own
answers q told out lookups store sections (Err (faults.Resolve refusals.OutOfMemory)) h cause own e all = absurd own
answers q told out lookups store sections (Err (faults.Walk (walks.BadBlock cid fault))) h cause own e all =
    absurd (bad_walk q store h.sections sections cid fault (walk_answers q told out store (walks.BadBlock cid fault) e h) all)
answers q told out lookups store sections (Err (faults.Walk (walks.Gone cid))) h cause own e all =
    absurd (gone_walk q store h.sections sections cid (walk_answers q told out store (walks.Gone cid) e h) all)
answers q told out lookups store sections (Err (faults.Walk walks.TooDeep)) h cause own e all = absurd (not_deep q store h.sections sections (walk_answers q told out store walks.TooDeep e h) all)
answers q told out lookups store sections (Err (faults.Walk (walks.Store (store_faults.Changed want got)))) h cause own e all = absurd (told_too told store e cause.1.0)
answers q told out lookups store sections (Err (faults.Walk (walks.Store store_faults.Failed))) h cause own e all = tt
answers q told out lookups store sections (Err (faults.Walk (walks.Store store_faults.OutOfMemory))) h cause own e all = absurd own
answers q told out lookups store sections (Err (faults.Walk (walks.NotThere i))) h cause own e all =
    absurd (not_stopped q store h.sections sections (not_there i) (walk_answers q told out store (walks.NotThere i) e h) all)
answers q told out lookups store sections (Err (faults.Walk (walks.NotFolder i))) h cause own e all =
    absurd (not_stopped q store h.sections sections (not_folder i) (walk_answers q told out store (walks.NotFolder i) e h) all)
answers q told out lookups store sections (Err (faults.Walk walks.OutOfMemory)) h cause own e all = absurd own
