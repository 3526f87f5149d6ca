-- One step along a path over a store.
use Rattle.std.proofs.Common.{Err, List, None, Ok, Option, Result, Some, [], ap, arith, false, inl, inr, length, refl, subst, suc, sym, true, zero, ℕ, ◌++◌, ◌+◌, ◌∙◌, ◌∷◌, ◌≡◌, ◌≤◌, ◌⊎◌}
use Rattle.std.proofs.lemmas.List.{append-nil}
use Rattle.std.proofs.lemmas.List.Elements.{All-append, All-nil}
use Rattle.tg_cid.specs.Cid.{CidParts}
use Rattle.tg_cid.specs.declared.cid.HashKind.TheVariants.{Sha256}
use Rattle.tg_walk.proofs.Giving.{LooksJoin}
use Rattle.tg_walk.proofs.PathPlaces.{first_place, next_on_path}
use Rattle.tg_traversal.specs.Left.{LeftState, WantedAt, tasks_left, wanted_tasks}
use Rattle.tg_traversal.specs.Places.{missing_of}
use Rattle.tg_walk.specs.Resolving.{HasResolveCause, IsPathPlace, IsResolvedTo, IsStoredRoot, LeadsTo, path_query, refusal_of_store, refusal_of_walk}
use Rattle.tg_walk.specs.Walks.{HasFetched, HaveLookedUp, IsNextPlace, IsOpened, IsOpenedThere, IsWantedHere, fault_of_miss}
use Rattle.tg_walk.specs.declared.fault.ResolveFault.TheVariants as refusals
use Rattle.tg_walk.specs.declared.fault.WalkFault.{WalkFault}
use Rattle.tg_traversal.specs.declared.position.Miss.{Miss}
use Rattle.tg_traversal.specs.declared.position.Miss.TheVariants as misses
use Rattle.tg_traversal.specs.declared.position.Wanted.{Wanted}
use Rattle.tg_model.specs.Computed.{read}
use Rattle.tg_model.specs.Dag.{Section, links_of}
use Rattle.tg_model.specs.PathWalk.{spot_at}
use Rattle.tg_model.specs.Queries.{QueryParts}
use Rattle.tg_model.specs.StoreView.{block_at}
use Rattle.tg_model.specs.Stores.{BlocksMeaning, IsCauseOf, Lookups, LookupsQuiet, Store, looked_in}
use Rattle.tg_model.specs.declared.fault.BlockFault.{BlockFault}
use Rattle.tg_model.specs.declared.kinds.Kind.{Kind}
use Rattle.tg_model.specs.declared.stores.BlocksFault.{BlocksFault}
use Rattle.tg_model.specs.declared.stores.BlocksFault.TheVariants as store_faults
use Rattle.tg_model_laws.specs.PathStages.{IsResolved, ResolveLaws}
use Rattle.tg_model_laws.specs.StoreWalks.{section_of, shown_at}
use Rattle.tg_model_laws.specs.Tasks.{Task, Want, depth_of, fault_at, give_entries, give_text, is_read_at, node_want, open_block, path_want, segment_want, spot_of, start, stop_at, tasks_of, tasks_then, terminal_want}

-- behind so many blocks one place is left, at first the root's, which is the only place of an empty path; and in a told store it leads
-- where the path does, and behind the first block the root is stored
pub record IsAlong (root : CidParts) (path : List (List ℕ)) (told : Option Store) (passed : ℕ) (left : LeftState) : Type 0 where
  pub query : left.query ≡ path_query root path
  pub place : IsPathPlace (passed + 1) (tasks_left left)
  pub first : passed ≡ 0 → tasks_left left ≡ start (path_query root path) root
  pub only : path ≡ [] → passed ≡ 0
  pub behind : (store : Store) → told ≡ Some store → (passed ≡ 0 → ⊥) → IsStoredRoot store root
  pub way : (store : Store) → told ≡ Some store → IsResolved (path_query root path) store (tasks_left left) × (passed ≤ 1025)

-- the place whose block is wanted, likewise
pub record IsPlaceAlong (root : CidParts) (path : List (List ℕ)) (told : Option Store) (passed : ℕ) (left : LeftState) (wanted : Wanted) : Type 0 where
  pub at : WantedAt
  pub wanted_is : left.wanted ≡ Some at
  pub cid_is : wanted.cid ≡ at.cid
  pub query : left.query ≡ path_query root path
  pub later : left.later ≡ []
  pub place : IsPathPlace (passed + 1) (open_block at.want at.cid ∷ [])
  pub first : passed ≡ 0 → at.cid ≡ root
  pub only : path ≡ [] → passed ≡ 0
  pub unread : path ≡ [] → is_read_at (path_query root path) at.want ≡ false
  pub behind : (store : Store) → told ≡ Some store → (passed ≡ 0 → ⊥) → IsStoredRoot store root
  pub way : (store : Store) → told ≡ Some store → IsResolved (path_query root path) store (open_block at.want at.cid ∷ []) × (passed ≤ 1025)

-- ---- before the first block

pub starts : (laws : ResolveLaws) (root : CidParts) (path : List (List ℕ)) (told : Option Store) (left : LeftState) → left.query ≡ path_query root path
    → tasks_left left ≡ start (path_query root path) root → IsAlong root path told 0 left
starts laws root path told left q t = record {
  query = q;
  place = subst (IsPathPlace 1) (sym t) (first_place path root);
  first = λ z. t;
  only = λ z. refl;
  behind = λ store e n. absurd (n refl);
  way = λ store e. (subst (IsResolved (path_query root path) store) (sym t) (laws.start (path_query root path) store), omega (arith));
}

-- ---- the place that is left

pub place_then : (d : ℕ) (tasks : List (Task CidParts)) → IsPathPlace d tasks → tasks_then tasks ≡ tasks
place_then d [] h = absurd h
place_then d (open_block w cid ∷ tasks) h = refl
place_then d (give_text text ∷ tasks) h = absurd h
place_then d (give_entries met ∷ tasks) h = absurd h
place_then d (stop_at miss ∷ tasks) h = refl

alone : (d : ℕ) (w : Want) (cid : CidParts) (tasks : List (Task CidParts)) → IsPathPlace d (open_block w cid ∷ tasks) → tasks ≡ []
alone d (segment_want i position name path depth) cid [] h = refl
alone d (segment_want i position name path depth) cid (task ∷ tasks) h = absurd h
alone d (terminal_want depth) cid [] h = refl
alone d (terminal_want depth) cid (task ∷ tasks) h = absurd h
alone d (node_want reach position depth) cid tasks h = absurd h

pub deep : (d : ℕ) (w : Want) (cid : CidParts) → IsPathPlace d (open_block w cid ∷ []) → depth_of w ≡ d
deep d (segment_want i position name path depth) cid h = h
deep d (terminal_want depth) cid h = h
deep d (node_want reach position depth) cid h = absurd h

same_want : (v w : Want) (cid other : CidParts) → open_block v cid ∷ [] ≡ open_block w other ∷ [] → v ≡ w
same_want v w cid other e = cc

same_cid : (v w : Want) (cid other : CidParts) → open_block v cid ∷ [] ≡ open_block w other ∷ [] → cid ≡ other
same_cid v w cid other e = cc

-- the block at the end of an empty path isn't read
unread_root : (root : CidParts) (path : List (List ℕ)) (w : Want) (cid : CidParts) → path ≡ [] → open_block w cid ∷ [] ≡ open_block (path_want 0 path 1) root ∷ []
    → is_read_at (path_query root path) w ≡ false
unread_root root [] w cid z e = ap (is_read_at (path_query root [])) (same_want w (path_want 0 [] 1) cid root e)
unread_root root (name ∷ path) w cid z e = absurd (cc)

placed : (root : CidParts) (path : List (List ℕ)) (told : Option Store) (passed : ℕ) (old mid : LeftState) (wanted : Wanted) (at : WantedAt) → mid.query ≡ old.query → IsAlong root path told passed old
    → mid.wanted ≡ Some at → wanted.cid ≡ at.cid → mid.later ≡ [] → open_block at.want at.cid ∷ [] ≡ tasks_left old → IsPlaceAlong root path told passed mid wanted
placed root path told passed old mid wanted at q on w c later e = record {
  at = at;
  wanted_is = w;
  cid_is = c;
  query = q ∙ on.query;
  later = later;
  place = subst (IsPathPlace (passed + 1)) (sym e) on.place;
  first = λ z. same_cid at.want (path_want 0 path 1) at.cid root (e ∙ on.first z);
  only = on.only;
  unread = λ z. unread_root root path at.want at.cid z (e ∙ on.first (on.only z));
  behind = on.behind;
  way = λ store t. (subst (IsResolved (path_query root path) store) (sym e) (on.way store t).0, (on.way store t).1);
}

pub left_then : (root : CidParts) (path : List (List ℕ)) (told : Option Store) (passed : ℕ) (old mid : LeftState) (at : WantedAt) → IsAlong root path told passed old
    → mid.wanted ≡ Some at → tasks_left mid ≡ tasks_then (tasks_left old) → open_block at.want at.cid ∷ mid.later ≡ tasks_left old
left_then root path told passed old mid at on w t =
    sym (ap (λ (x : Option WantedAt). wanted_tasks x ++ mid.later) w) ∙ t ∙ place_then (passed + 1) (tasks_left old) on.place

pub place_along : (root : CidParts) (path : List (List ℕ)) (told : Option Store) (passed : ℕ) (old mid : LeftState) (wanted : Wanted) → mid.query ≡ old.query → IsAlong root path told passed old
    → IsNextPlace old (Ok (Some wanted)) mid → IsPlaceAlong root path told passed mid wanted
place_along root path told passed old mid wanted q on (at, w, c, t) =
    let e : open_block at.want at.cid ∷ mid.later ≡ tasks_left old = left_then root path told passed old mid at on w t in
    let later : mid.later ≡ [] = alone (passed + 1) at.want at.cid mid.later (subst (IsPathPlace (passed + 1)) (sym e) on.place) in
    placed root path told passed old mid wanted at q on w (ap (λ (x : Wanted). x.cid) c) later
    (ap (λ (tasks : List (Task CidParts)). open_block at.want at.cid ∷ tasks) (sym later) ∙ e)

-- ---- where there is none

miss_ends : (laws : ResolveLaws) (root : CidParts) (path : List (List ℕ)) (store : Store) (miss : Miss) (more : List (Task CidParts)) → IsStoredRoot store root
    → IsResolved (path_query root path) store (stop_at (missing_of miss) ∷ more) → IsResolvedTo store root path (Err (refusal_of_walk (fault_of_miss miss)))
miss_ends laws root path store (misses.NoEntry i) more b h = record { root_stored = b; end = laws.miss (path_query root path) store (missing_of (misses.NoEntry i)) more h }
miss_ends laws root path store (misses.NoDirectory i) more b h = record { root_stored = b; end = laws.miss (path_query root path) store (missing_of (misses.NoDirectory i)) more h }

-- at first the root is left, and no segment led nowhere yet
pub no_miss_first : (w : Want) (cid : CidParts) (miss : _) (more : List (Task CidParts)) → open_block w cid ∷ [] ≡ stop_at miss ∷ more → ⊥
no_miss_first w cid miss more e = cc

root_before : (root : CidParts) (path : List (List ℕ)) (told : Option Store) (store : Store) (passed : ℕ) (old : LeftState) (miss : Miss) (more : List (Task CidParts)) → told ≡ Some store
    → IsAlong root path told passed old → tasks_left old ≡ stop_at (missing_of miss) ∷ more → IsStoredRoot store root
root_before root path told store passed old miss more e on t =
    on.behind store e (λ z. no_miss_first (path_want 0 path 1) root (missing_of miss) more (sym (on.first z) ∙ t))

-- a segment leads nowhere
pub stops_before : (laws : ResolveLaws) (root : CidParts) (path : List (List ℕ)) (told : Option Store) (store : Store) (passed : ℕ) (old mid : LeftState) (fault : WalkFault) → told ≡ Some store
    → IsAlong root path told passed old → IsNextPlace old (Err fault) mid → IsResolvedTo store root path (Err (refusal_of_walk fault))
stops_before laws root path told store passed old mid fault e on (inl g) =
    subst (λ (f : WalkFault). IsResolvedTo store root path (Err (refusal_of_walk f))) (sym g) _
stops_before laws root path told store passed old mid fault e on (inr (miss, more, g, t)) =
    subst (λ (f : WalkFault). IsResolvedTo store root path (Err (refusal_of_walk f))) (sym g)
    (let left : tasks_left old ≡ stop_at (missing_of miss) ∷ more = sym (place_then (passed + 1) (tasks_left old) on.place) ∙ t in
    miss_ends laws root path store miss more (root_before root path told store passed old miss more e on left)
    (subst (IsResolved (path_query root path) store) left (on.way store e).0))

miss_cause : (told : Option Store) (lookups : Lookups) (miss : Miss) → LookupsQuiet lookups → HasResolveCause (Err (refusal_of_walk (fault_of_miss miss))) told lookups
miss_cause told lookups (misses.NoEntry i) quiet = quiet
miss_cause told lookups (misses.NoDirectory i) quiet = quiet

pub before_cause : (told : Option Store) (lookups : Lookups) (old mid : LeftState) (fault : WalkFault) → IsNextPlace old (Err fault) mid → LookupsQuiet lookups
    → HasResolveCause (Err (refusal_of_walk fault)) told lookups
before_cause told lookups old mid fault (inl g) quiet = subst (λ (f : WalkFault). HasResolveCause (Err (refusal_of_walk f)) told lookups) (sym g) quiet
before_cause told lookups old mid fault (inr (miss, more, g, t)) quiet =
    subst (λ (f : WalkFault). HasResolveCause (Err (refusal_of_walk f)) told lookups) (sym g) (miss_cause told lookups miss quiet)

-- something is left
pub never_ends : {A : Type 0} → (root : CidParts) (path : List (List ℕ)) (told : Option Store) (passed : ℕ) (old mid : LeftState) → IsAlong root path told passed old → IsNextPlace old (Ok None) mid → A
never_ends root path told passed old mid on (t, n) =
    absurd (subst (IsPathPlace (passed + 1)) (sym (place_then (passed + 1) (tasks_left old) on.place) ∙ t) on.place)

-- ---- where its block isn't stored

pub no_root : (root : CidParts) (path : List (List ℕ)) (told : Option Store) (store : Store) (passed : ℕ) (mid : LeftState) (wanted : Wanted)
    → IsPlaceAlong root path told passed mid wanted → passed ≡ 0 → block_at store wanted.cid ≡ None → block_at store root ≡ None
no_root root path told store passed mid wanted there z s = ap (block_at store) (sym (there.cid_is ∙ there.first z)) ∙ s

pub gone_there : (laws : ResolveLaws) (root : CidParts) (path : List (List ℕ)) (told : Option Store) (store : Store) (passed : ℕ) (mid : LeftState) (wanted : Wanted) → length path ≤ 128
    → told ≡ Some store → IsPlaceAlong root path told passed mid wanted → (passed ≡ 0 → ⊥) → block_at store wanted.cid ≡ None → IsResolvedTo store root path (Err (refusals.Gone wanted.cid))
gone_there laws root path told store passed mid wanted few e there below s = (
  spot_of there.at.want there.at.cid,
  sym there.cid_is,
  s,
  record {
    root_stored = there.behind store e below;
    end = laws.not_stored (path_query root path) store there.at.want there.at.cid [] few (ap (block_at store) (sym there.cid_is) ∙ s) (there.way store e).0;
  },
)

-- ---- where it is

found_stored : (found : Option (List ℕ)) (block : List ℕ) → found ≡ Some block → found ≡ None → ⊥
found_stored found block s n = cc

-- then the root is stored too: it is this block's, or it was passed
root_there : (root : CidParts) (path : List (List ℕ)) (told : Option Store) (store : Store) (passed : ℕ) (mid : LeftState) (wanted : Wanted) (block : List ℕ) → told ≡ Some store
    → IsPlaceAlong root path told passed mid wanted → block_at store wanted.cid ≡ Some block → IsStoredRoot store root
root_there root path told store zero mid wanted block e there s = found_stored (block_at store root) block (ap (block_at store) (sym (there.cid_is ∙ there.first refl)) ∙ s)
root_there root path told store (suc passed) mid wanted block e there s = there.behind store e (λ z. omega (arith, z))

-- the terminal
leads : (laws : ResolveLaws) (root : CidParts) (path : List (List ℕ)) (store : Store) (d : ℕ) (w : Want) (cid : CidParts) (block : List ℕ) → length path ≤ 128
    → is_read_at (path_query root path) w ≡ false → IsPathPlace d (open_block w cid ∷ []) → block_at store cid ≡ Some block → IsResolved (path_query root path) store (open_block w cid ∷ [])
    → IsStoredRoot store root → LeadsTo store root path cid
leads laws root path store d (segment_want i position name names depth) cid block few r p s h b = absurd (cc)
leads laws root path store d (terminal_want depth) cid block few r p s h b =
    let ends : _ = laws.reached (path_query root path) store depth cid block [] few s h in
    record { root_stored = b; d = shown_at store depth cid; end = ends.0; block = block; stored = s; opened = ends.1 }
leads laws root path store d (node_want reach position depth) cid block few r p s h b = absurd p

pub leads_there : (laws : ResolveLaws) (root : CidParts) (path : List (List ℕ)) (told : Option Store) (store : Store) (passed : ℕ) (mid : LeftState) (wanted : Wanted) (block : List ℕ)
    → length path ≤ 128 → told ≡ Some store → IsPlaceAlong root path told passed mid wanted → block_at store wanted.cid ≡ Some block
    → ((at : WantedAt) → mid.wanted ≡ Some at → is_read_at mid.query at.want ≡ false) → LeadsTo store root path wanted.cid
leads_there laws root path told store passed mid wanted block few e there s r =
    subst (LeadsTo store root path) (sym there.cid_is)
    (leads laws root path store (passed + 1) there.at.want there.at.cid block few
    (subst (λ (q : QueryParts). is_read_at q there.at.want ≡ false) there.query (r there.at there.wanted_is)) there.place (ap (block_at store) (sym there.cid_is) ∙ s) (there.way store e).0
    (root_there root path told store passed mid wanted block e there s))

-- the block may be opened there
pub wanted_here : (root : CidParts) (path : List (List ℕ)) (told : Option Store) (passed : ℕ) (mid : LeftState) (wanted : Wanted) → IsPlaceAlong root path told passed mid wanted → passed ≤ 1026
    → IsWantedHere mid wanted.cid
wanted_here root path told passed mid wanted there m = record {
  at = there.at;
  wanted = there.wanted_is;
  cid_is = sym there.cid_is;
  shallow = let d : depth_of there.at.want ≡ passed + 1 = deep (passed + 1) there.at.want there.at.cid there.place in omega (arith, d, m);
}

-- why a block can't be opened at a place
abbrev IsBad : QueryParts → Want → CidParts → List ℕ → BlockFault → Type 0
IsBad q w cid block fault = (is_read_at q w ≡ true) × ((read cid block ≡ Err fault) ⊎ ((kind : Kind) × (read cid block ≡ Ok kind) × (fault_at q w kind ≡ Some fault)))

bad_ends : (laws : ResolveLaws) (root : CidParts) (path : List (List ℕ)) (store : Store) (d : ℕ) (w : Want) (cid : CidParts) (block : List ℕ) (fault : BlockFault) → length path ≤ 128
    → IsPathPlace d (open_block w cid ∷ []) → block_at store cid ≡ Some block → IsResolved (path_query root path) store (open_block w cid ∷ []) → IsBad (path_query root path) w cid block fault
    → IsStoredRoot store root → IsResolvedTo store root path (Err (refusals.BadBlock cid fault))
bad_ends laws root path store d (segment_want i position name names depth) cid block fault few p s h (r, inl e) b =
    (spot_at cid depth position, refl, record { root_stored = b; end = laws.unreadable (path_query root path) store i position name names depth cid block fault [] few s e h })
bad_ends laws root path store d (segment_want i position name names depth) cid block fault few p s h (r, inr (kind, e, f)) b =
    (spot_at cid depth position, refl, record { root_stored = b; end = laws.misfit (path_query root path) store i position name names depth cid block kind fault [] few s e f h })
bad_ends laws root path store d (terminal_want depth) cid block fault few p s h (r, cause) b = absurd (cc)
bad_ends laws root path store d (node_want reach position depth) cid block fault few p s h bad b = absurd p

stopped_at : (laws : ResolveLaws) (root : CidParts) (path : List (List ℕ)) (told : Option Store) (store : Store) (passed : ℕ) (mid new : LeftState) (wanted : Wanted) (block : List ℕ) (fault : WalkFault)
    → length path ≤ 128 → told ≡ Some store → (there : IsPlaceAlong root path told passed mid wanted) → block_at store wanted.cid ≡ Some block → IsOpened mid there.at block (Err fault) new
    → IsResolvedTo store root path (Err (refusal_of_walk fault))
stopped_at laws root path told store passed mid new wanted block fault few e there s (inl g) =
    subst (λ (f : WalkFault). IsResolvedTo store root path (Err (refusal_of_walk f))) (sym g) _
stopped_at laws root path told store passed mid new wanted block fault few e there s (inr (bad, g, h)) =
    subst (λ (f : WalkFault). IsResolvedTo store root path (Err (refusal_of_walk f))) (sym g)
    (bad_ends laws root path store (passed + 1) there.at.want there.at.cid block bad few there.place (ap (block_at store) (sym there.cid_is) ∙ s) (there.way store e).0
    (subst (λ (q : QueryParts). IsBad q there.at.want there.at.cid block bad) there.query (h.is_read, h.cause))
    (root_there root path told store passed mid wanted block e there s))

pub stops_at_block : (laws : ResolveLaws) (root : CidParts) (path : List (List ℕ)) (told : Option Store) (store : Store) (passed : ℕ) (mid new : LeftState) (wanted : Wanted) (block : List ℕ) (fault : WalkFault)
    → length path ≤ 128 → told ≡ Some store → IsPlaceAlong root path told passed mid wanted → block_at store wanted.cid ≡ Some block
    → ((at : WantedAt) → mid.wanted ≡ Some at → IsOpened mid at block (Err fault) new) → IsResolvedTo store root path (Err (refusal_of_walk fault))
stops_at_block laws root path told store passed mid new wanted block fault few e there s opened_there =
    stopped_at laws root path told store passed mid new wanted block fault few e there s (opened_there there.at there.wanted_is)

stopped_cause : (told : Option Store) (lookups : Lookups) (mid new : LeftState) (at : WantedAt) (block : List ℕ) (fault : WalkFault) → IsOpened mid at block (Err fault) new → LookupsQuiet lookups
    → HasResolveCause (Err (refusal_of_walk fault)) told lookups
stopped_cause told lookups mid new at block fault (inl g) quiet = subst (λ (f : WalkFault). HasResolveCause (Err (refusal_of_walk f)) told lookups) (sym g) quiet
stopped_cause told lookups mid new at block fault (inr (bad, g, h)) quiet = subst (λ (f : WalkFault). HasResolveCause (Err (refusal_of_walk f)) told lookups) (sym g) quiet

pub block_cause : (root : CidParts) (path : List (List ℕ)) (told shown : Option Store) (lookups : Lookups) (passed : ℕ) (mid new : LeftState) (wanted : Wanted) (block : List ℕ) (fault : WalkFault)
    → IsPlaceAlong root path told passed mid wanted → ((at : WantedAt) → mid.wanted ≡ Some at → IsOpened mid at block (Err fault) new) → LookupsQuiet lookups
    → HasResolveCause (Err (refusal_of_walk fault)) shown lookups
block_cause root path told shown lookups passed mid new wanted block fault there opened_there quiet =
    stopped_cause shown lookups mid new there.at block fault (opened_there there.at there.wanted_is) quiet

-- ---- behind a block of the path

next_place : (root : CidParts) (path : List (List ℕ)) (d : ℕ) (w : Want) (cid : CidParts) (section : Section) (kind : Kind) (cids : List CidParts) → IsPathPlace d (open_block w cid ∷ [])
    → is_read_at (path_query root path) w ≡ true → IsPathPlace (d + 1) (tasks_of (path_query root path) w section kind cids)
next_place root path d (segment_want i position name names depth) cid section kind cids p r =
    subst (λ (n : ℕ). IsPathPlace (n + 1) (tasks_of (path_query root path) (segment_want i position name names depth) section kind cids)) p
    (next_on_path (path_query root path) i position name names depth section kind cids)
next_place root path d (terminal_want depth) cid section kind cids p r = absurd (cc)
next_place root path d (node_want reach position depth) cid section kind cids p r = absurd p

next_way : (laws : ResolveLaws) (root : CidParts) (path : List (List ℕ)) (store : Store) (d : ℕ) (w : Want) (cid : CidParts) (block : List ℕ) (kind : Kind) → length path ≤ 128
    → IsPathPlace d (open_block w cid ∷ []) → is_read_at (path_query root path) w ≡ true → block_at store cid ≡ Some block → read cid block ≡ Ok kind → fault_at (path_query root path) w kind ≡ None
    → IsResolved (path_query root path) store (open_block w cid ∷ []) → IsResolved (path_query root path) store (tasks_of (path_query root path) w (section_of cid block) kind (links_of kind))
next_way laws root path store d (segment_want i position name names depth) cid block kind few p r s e f h =
    laws.opened (path_query root path) store i position name names depth cid block kind [] few s e f h
next_way laws root path store d (terminal_want depth) cid block kind few p r s e f h = absurd (cc)
next_way laws root path store d (node_want reach position depth) cid block kind few p r s e f h = absurd p

-- what reading the block there gives
pub record IsPassed (root : CidParts) (path : List (List ℕ)) (at : WantedAt) (block : List ℕ) (new : LeftState) : Type 0 where
  pub kind : Kind
  pub is_read : is_read_at (path_query root path) at.want ≡ true
  pub reads : read at.cid block ≡ Ok kind
  pub fits : fault_at (path_query root path) at.want kind ≡ None
  pub tasks : tasks_left new ≡ tasks_of (path_query root path) at.want (section_of at.cid block) kind (links_of kind)

pub passed_by : (root : CidParts) (path : List (List ℕ)) (told : Option Store) (passed : ℕ) (mid new : LeftState) (wanted : Wanted) (block : List ℕ) (there : IsPlaceAlong root path told passed mid wanted)
    → IsOpenedThere mid there.at block new → IsPassed root path there.at block new
passed_by root path told passed mid new wanted block there h = record {
  kind = h.kind;
  is_read = subst (λ (q : QueryParts). is_read_at q there.at.want ≡ true) there.query h.is_read;
  reads = h.reads;
  fits = subst (λ (q : QueryParts). fault_at q there.at.want h.kind ≡ None) there.query h.fits;
  tasks = h.tasks ∙ ap (λ (later : List (Task CidParts)). tasks_of mid.query there.at.want (section_of there.at.cid block) h.kind (links_of h.kind) ++ later) there.later
      ∙ append-nil (tasks_of mid.query there.at.want (section_of there.at.cid block) h.kind (links_of h.kind))
      ∙ ap (λ (q : QueryParts). tasks_of q there.at.want (section_of there.at.cid block) h.kind (links_of h.kind)) there.query;
}

shallow_enough : (laws : ResolveLaws) (root : CidParts) (path : List (List ℕ)) (store : Store) (passed : ℕ) (w : Want) (cid : CidParts) → length path ≤ 128
    → IsPathPlace (passed + 1) (open_block w cid ∷ []) → IsResolved (path_query root path) store (open_block w cid ∷ []) → passed + 1 ≤ 1025
shallow_enough laws root path store passed w cid few p h =
    subst (λ (n : ℕ). n ≤ 1025) (deep (passed + 1) w cid p) (laws.bound (path_query root path) store w cid [] few h)

went_on : (laws : ResolveLaws) (root : CidParts) (path : List (List ℕ)) (told : Option Store) (passed : ℕ) (mid new : LeftState) (wanted : Wanted) (block : List ℕ) → length path ≤ 128
    → (there : IsPlaceAlong root path told passed mid wanted) → ((store : Store) → told ≡ Some store → block_at store wanted.cid ≡ Some block) → new.query ≡ mid.query
    → IsPassed root path there.at block new → IsAlong root path told (passed + 1) new
went_on laws root path told passed mid new wanted block few there s q h = record {
  query = q ∙ there.query;
  place = subst (IsPathPlace (passed + 1 + 1)) (sym h.tasks)
      (next_place root path (passed + 1) there.at.want there.at.cid (section_of there.at.cid block) h.kind (links_of h.kind) there.place h.is_read);
  first = λ z. absurd (omega (arith, z));
  only = λ z. absurd (let u = there.unread z in let r = h.is_read in cc);
  behind = λ store e n. root_there root path told store passed mid wanted block e there (s store e);
  way = λ store e. (
    subst (IsResolved (path_query root path) store) (sym h.tasks)
        (next_way laws root path store (passed + 1) there.at.want there.at.cid block h.kind few there.place h.is_read (ap (block_at store) (sym there.cid_is) ∙ s store e) h.reads h.fits (there.way store e).0),
    shallow_enough laws root path store passed there.at.want there.at.cid few there.place (there.way store e).0,
  );
}

opened_along : (laws : ResolveLaws) (root : CidParts) (path : List (List ℕ)) (told : Option Store) (passed : ℕ) (mid new : LeftState) (wanted : Wanted) (block : List ℕ) (done : _) → length path ≤ 128
    → (there : IsPlaceAlong root path told passed mid wanted) → ((store : Store) → told ≡ Some store → block_at store wanted.cid ≡ Some block) → new.query ≡ mid.query
    → is_read_at mid.query there.at.want ≡ true → IsOpened mid there.at block (Ok done) new → IsAlong root path told (passed + 1) new
opened_along laws root path told passed mid new wanted block done few there s q r (inl (n, t)) = absurd (cc)
opened_along laws root path told passed mid new wanted block done few there s q r (inr h) =
    went_on laws root path told passed mid new wanted block few there s q (passed_by root path told passed mid new wanted block there h)

pub goes_on : (laws : ResolveLaws) (root : CidParts) (path : List (List ℕ)) (told : Option Store) (passed : ℕ) (mid new : LeftState) (wanted : Wanted) (block : List ℕ) (done : _) → length path ≤ 128
    → IsPlaceAlong root path told passed mid wanted → ((store : Store) → told ≡ Some store → block_at store wanted.cid ≡ Some block) → new.query ≡ mid.query
    → ((at : WantedAt) → mid.wanted ≡ Some at → is_read_at mid.query at.want ≡ true) → ((at : WantedAt) → mid.wanted ≡ Some at → IsOpened mid at block (Ok done) new)
    → IsAlong root path told (passed + 1) new
goes_on laws root path told passed mid new wanted block done few there s q r opened_there =
    opened_along laws root path told passed mid new wanted block done few there s q (r there.at there.wanted_is) (opened_there there.at there.wanted_is)

-- ---- the store's answers

-- what was looked up so far, without a fault
pub record HasLooked (lookups : Lookups) : Type 0 where
  pub up : HaveLookedUp lookups
  pub quiet : LookupsQuiet lookups

pub store_stops : (store : Store) (root : CidParts) (path : List (List ℕ)) (fault : BlocksFault) → IsResolvedTo store root path (Err (refusal_of_store fault))
store_stops store root path (store_faults.Changed want got) = _
store_stops store root path store_faults.Failed = _
store_stops store root path store_faults.OutOfMemory = _

pub store_cause : (told : Option Store) (lookups : Lookups) (cid : CidParts) (fault : BlocksFault) → IsCauseOf told cid lookups.faults_old lookups.faults_new fault
    → HasResolveCause (Err (refusal_of_store fault)) told lookups
store_cause told lookups cid (store_faults.Changed want got) h = (cid, h)
store_cause told lookups cid store_faults.Failed h = (cid, h)
store_cause told lookups cid store_faults.OutOfMemory h = h

pub looks_both : {S : Type 0} → (m : BlocksMeaning S) (a b c : S) → LooksJoin S m → HaveLookedUp (looked_in m a b) → HaveLookedUp (looked_in m b c) → HaveLookedUp (looked_in m a c)
looks_both m a b c joins p q = record {
  cids = p.cids ++ q.cids;
  looked = record { moved = joins a b c p.cids q.cids p.looked.moved q.looked.moved; stored = q.looked.stored ∙ p.looked.stored };
  hashed = All-append (λ (cid : CidParts). cid.hash ≡ Sha256) p.cids q.cids p.hashed q.hashed;
}

pub looks_nothing : {S : Type 0} → (m : BlocksMeaning S) (a : S) → m.looked a a [] → HasLooked (looked_in m a a)
looks_nothing m a rests = record { up = record { cids = []; looked = record { moved = rests; stored = refl }; hashed = All-nil (λ (cid : CidParts). cid.hash ≡ Sha256) }; quiet = refl }

pub looks_on : {S : Type 0} → (m : BlocksMeaning S) (a b c : S) → LooksJoin S m → HasLooked (looked_in m a b) → HaveLookedUp (looked_in m b c) → LookupsQuiet (looked_in m b c) → HasLooked (looked_in m a c)
looks_on m a b c joins so up quiet = record { up = looks_both m a b c joins so.up up; quiet = quiet ∙ so.quiet }

pub fetched_up : (cid : CidParts) (result : Result (Option (List ℕ)) BlocksFault) (lookups : Lookups) → HasFetched cid result lookups → HaveLookedUp lookups
fetched_up cid result lookups h = record { cids = h.cids; looked = h.looked; hashed = h.hashed }

pub cause_since : {S : Type 0} → (m : BlocksMeaning S) → (a b c : S) (cid : CidParts) (fault : BlocksFault) → HasLooked (looked_in m a b) → IsCauseOf (m.stored b) cid (m.faults b) (m.faults c) fault
    → HasResolveCause (Err (refusal_of_store fault)) (m.stored a) (looked_in m a c)
cause_since m a b c cid fault so h =
    store_cause (m.stored a) (looked_in m a c) cid fault
    (subst (λ (n : ℕ). IsCauseOf (m.stored a) cid n (m.faults c) fault) so.quiet
    (subst (λ (t : Option Store). IsCauseOf t cid (m.faults b) (m.faults c) fault) so.up.looked.stored h))
