-- The places of the walk along a path over what a store shows, and what is looked up for them.
use Rattle.std.proofs.Common.{Err, List, None, Ok, Option, Result, Some, [], ap, arith, false, inl, inr, length, refl, subst, suc, sym, true, zero, ℕ, ◌++◌, ◌+◌, ◌-◌, ◌∙◌, ◌∷◌, ◌≡◌, ◌≤◌, ◌⊎◌}
use Rattle.std.proofs.lemmas.List.{append-nil, append_assoc}
use Rattle.std.proofs.lemmas.List.Elements.{All-append, All-nil, filter-append}
use Rattle.tg_cid.specs.Cid.{CidParts}
use Rattle.tg_cid.specs.declared.cid.HashKind.{HashKind}
use Rattle.tg_cid.specs.declared.cid.HashKind.TheVariants.{Identity, Sha256}
use Rattle.tg_model.specs.Computed.{read}
use Rattle.tg_model.specs.Dag.{Dag, Section, bare, links_of, node, root_cid, unopened}
use Rattle.tg_model.specs.PathWalk.{PathWalk, Spot, StepTo, absent, behind, not_folder_here, not_there, path_walk, spot_at, step_of, stopped_at, to_child, to_entry, unless_misfit, walk_child, walk_from, walk_step}
use Rattle.tg_model.specs.Queries.{QueryParts}
use Rattle.tg_model.specs.Sound.{Position, passed, position_fault, top}
use Rattle.tg_model.specs.StoreView.{block_at, children_by, opened_to, read_as, store_view, with_block}
use Rattle.tg_model.specs.Stores.{BlocksMeaning, LookedUp, Lookups, Store, looked_in}
use Rattle.tg_model.specs.Traversal.{is_hashed}
use Rattle.tg_model.specs.declared.fault.BlockFault.{BlockFault}
use Rattle.tg_model.specs.declared.kinds.Kind.{Kind}
use Rattle.tg_model.specs.declared.stores.BlocksFault.{BlocksFault}
use Rattle.tg_model.specs.declared.stores.BlocksFault.TheVariants as store_faults
use Rattle.tg_model_laws.specs.ListFronts.{FrontOf, front_behind, front_longer, front_whole}
use Rattle.tg_model_laws.specs.StoreWalks.{section_of, shown_at}
use Rattle.tg_model_laws.specs.Tasks.{Task, Want, depth_at_top, depth_of, fault_at, give_entries, give_text, is_read_at, link_tasks, node_want, open_block, path_want, position_below, segment_want, start, step_tasks, stop_at, stop_of, tasks_of, terminal_want}
use Rattle.tg_traversal.specs.Left.{LeftState, WantedAt, tasks_left}
use Rattle.tg_traversal.specs.Places.{missing_of}
use Rattle.tg_traversal.specs.declared.position.Miss.TheVariants as misses
use Rattle.tg_traversal.specs.declared.position.Miss.{Miss}
use Rattle.tg_traversal.specs.declared.position.Wanted.{Wanted}
use Rattle.tg_walk.proofs.Giving.{LooksJoin, looks_both}
use Rattle.tg_walk.proofs.Lookups.{looked_hashed}
use Rattle.tg_walk.proofs.PathSteps.{HasLooked, IsAlong, IsPassed, IsPlaceAlong, deep, left_then, passed_by, place_then}
use Rattle.tg_walk.specs.Resolving.{AreLookedUp, HasLookedAlong, IsPathPlace, path_query, places_on, refusal_of_store, refusal_of_walk}
use Rattle.tg_walk.specs.Walks.{AreFetchedBy, HasFetched, IsNextPlace, IsOpened, fault_of_miss, looked_of}
use Rattle.tg_walk.specs.declared.fault.ResolveFault.{ResolveFault}
use Rattle.tg_walk.specs.declared.fault.ResolveFault.TheVariants as refusals
use Rattle.tg_walk.specs.declared.fault.WalkFault.{WalkFault}

-- ---- the walk from a place on

abbrev pub walk_of : Want → Dag → PathWalk
walk_of (segment_want i position name path depth) d = walk_from i position depth (name ∷ path) d
walk_of (terminal_want depth) d = walk_from 0 top depth [] d
walk_of (node_want reach position depth) d = walk_from 0 top depth [] d

abbrev pub walk_at : Store → Want → CidParts → PathWalk
walk_at store w cid = walk_of w (shown_at store (depth_of w) cid)

-- and from what is left of it on
abbrev pub walk_left : Store → List (Task CidParts) → PathWalk
walk_left store [] = stopped_at (not_there 0)
walk_left store (open_block w cid ∷ tasks) = walk_at store w cid
walk_left store (give_text text ∷ tasks) = stopped_at (not_there 0)
walk_left store (give_entries met ∷ tasks) = stopped_at (not_there 0)
walk_left store (stop_at miss ∷ tasks) = stopped_at (stop_of miss)

-- with no segment left, whatever was counted
no_segment : (i depth : ℕ) (d : Dag) → walk_from 0 top depth [] d ≡ walk_from i top depth [] d
no_segment i depth (unopened cid) = refl
no_segment i depth (bare section fault) = refl
no_segment i depth (node section kind children) = refl

from_top : (i : ℕ) (path : List (List ℕ)) (depth : ℕ) (d : Dag) → walk_of (path_want i path depth) d ≡ walk_from i top depth path d
from_top i [] depth d = no_segment i depth d
from_top i (name ∷ path) depth d = refl

at_top : (store : Store) (i : ℕ) (path : List (List ℕ)) (depth : ℕ) (cid : CidParts) → walk_at store (path_want i path depth) cid ≡ walk_from i top depth path (shown_at store depth cid)
at_top store i path depth cid = ap (λ (n : ℕ). walk_of (path_want i path depth) (shown_at store n cid)) (depth_at_top i path depth) ∙ from_top i path depth (shown_at store depth cid)

-- before the first block
pub all_left : (store : Store) (q : QueryParts) → walk_left store (start q q.root) ≡ path_walk q.path (store_view store q.root)
all_left store q = at_top store 0 q.path 1 q.root

-- ---- behind a block

link_left : (store : Store) (k i : ℕ) (position : Position) (path : List (List ℕ)) (depth : ℕ) (w : Want) (cids : List CidParts)
    → ((cid : CidParts) → walk_at store w cid ≡ walk_from i position depth path (shown_at store depth cid))
    → walk_left store (link_tasks k i w cids) ≡ walk_child k i position depth path (children_by (shown_at store depth) cids)
link_left store k i position path depth w [] h = refl
link_left store zero i position path depth w (cid ∷ cids) h = h cid
link_left store (suc k) i position path depth w (cid ∷ cids) h = link_left store k i position path depth w cids h

step_left : (store : Store) (i : ℕ) (inner : Position) (name : List ℕ) (path : List (List ℕ)) (depth : ℕ) (step : StepTo) (cids : List CidParts)
    → walk_left store (step_tasks i (path_want (i + 1) path depth) (segment_want i inner name path depth) step cids)
    ≡ walk_step i (λ k. walk_child k (i + 1) top depth path (children_by (shown_at store depth) cids)) (λ k. walk_child k i inner depth (name ∷ path) (children_by (shown_at store depth) cids)) step
step_left store i inner name path depth (to_entry k) cids = link_left store k (i + 1) top path depth (path_want (i + 1) path depth) cids (at_top store (i + 1) path depth)
step_left store i inner name path depth (to_child k) cids = link_left store k i inner (name ∷ path) depth (segment_want i inner name path depth) cids (λ cid. refl)
step_left store i inner name path depth absent cids = refl
step_left store i inner name path depth not_folder_here cids = refl

-- at a place is what is found for its CID
there : (store : Store) (depth : ℕ) (cid : CidParts) (found : Option (List ℕ)) → depth ≤ 1100 → block_at store cid ≡ found
    → shown_at store depth cid ≡ with_block (shown_at store (depth + 1)) cid found
there store depth cid found h e =
    let n : 1101 - depth ≡ suc (1101 - (depth + 1)) = omega (arith, h) in
    ap (λ (n : ℕ). opened_to n store cid) n ∙ ap (with_block (shown_at store (depth + 1)) cid) e

module _ (store : Store) (q : QueryParts) (i : ℕ) (position : Position) (name : List ℕ) (path : List (List ℕ)) (depth : ℕ) (cid : CidParts) (block : List ℕ) where
  abbrev at : Want
  at = segment_want i position name path depth

  read_there : (found : Result Kind BlockFault) → depth ≤ 1100 → block_at store cid ≡ Some block → read cid block ≡ found
      → walk_at store at cid ≡ walk_of at (read_as (shown_at store (depth + 1)) (section_of cid block) found)
  read_there found h s r = ap (walk_of at) (there store depth cid (Some block) h s ∙ ap (read_as (shown_at store (depth + 1)) (section_of cid block)) r)

  -- the block is passed
  pub passes : (kind : Kind) → depth ≤ 1100 → block_at store cid ≡ Some block → read cid block ≡ Ok kind → position_fault position kind ≡ None
      → walk_left store (open_block (segment_want i position name path depth) cid ∷ [])
      ≡ behind (section_of cid block) (walk_left store (tasks_of q (segment_want i position name path depth) (section_of cid block) kind (links_of kind)))
  passes kind h s r fits =
      let section : Section = section_of cid block in
      let inner : Position = position_below position name in
      let step : StepTo = step_of kind (length (passed position)) name in
      read_there (Ok kind) h s r
      ∙ ap (λ (walk : PathWalk). unless_misfit section (spot_at cid depth position) (position_fault position kind) walk) (sym (step_left store i inner name path (depth + 1) step (links_of kind)))
      ∙ ap (λ (fault : Option BlockFault). unless_misfit section (spot_at cid depth position) fault (walk_left store (tasks_of q at section kind (links_of kind)))) fits

  -- or it is the last place
  pub unreadable_last : (fault : BlockFault) → depth ≤ 1100 → block_at store cid ≡ Some block → read cid block ≡ Err fault
      → places_on (walk_left store (open_block (segment_want i position name path depth) cid ∷ [])) ≡ cid ∷ []
  unreadable_last fault h s r = ap places_on (read_there (Err fault) h s r)

  pub misfit_last : (kind : Kind) (fault : BlockFault) → depth ≤ 1100 → block_at store cid ≡ Some block → read cid block ≡ Ok kind → position_fault position kind ≡ Some fault
      → places_on (walk_left store (open_block (segment_want i position name path depth) cid ∷ [])) ≡ cid ∷ []
  misfit_last kind fault h s r misfit =
      let section : Section = section_of cid block in
      let inner : Position = position_below position name in
      let step : StepTo = step_of kind (length (passed position)) name in
      ap places_on (read_there (Ok kind) h s r
      ∙ ap (λ (walk : PathWalk). unless_misfit section (spot_at cid depth position) (position_fault position kind) walk) (sym (step_left store i inner name path (depth + 1) step (links_of kind)))
      ∙ ap (λ (fault : Option BlockFault). unless_misfit section (spot_at cid depth position) fault (walk_left store (tasks_of q at section kind (links_of kind)))) misfit)

-- ---- the first place

root_shown : (store : Store) (n : ℕ) (cid : CidParts) → root_cid (opened_to n store cid) ≡ cid
root_shown store zero cid = refl
root_shown store (suc n) cid = found (block_at store cid)
  where
    is_read : (block : List ℕ) (kind : Result Kind BlockFault) → root_cid (read_as (opened_to n store) (section_of cid block) kind) ≡ cid
    is_read block (Ok kind) = refl
    is_read block (Err fault) = refl

    found : (found : Option (List ℕ)) → root_cid (with_block (opened_to n store) cid found) ≡ cid
    found None = refl
    found (Some block) = is_read block (read cid block)

-- the last one, where no segment is left
terminal_alone : (depth : ℕ) (d : Dag) → places_on (walk_from 0 top depth [] d) ≡ root_cid d ∷ []
terminal_alone depth (unopened cid) = refl
terminal_alone depth (bare section fault) = refl
terminal_alone depth (node section kind children) = refl

pub terminal_last : (store : Store) (depth : ℕ) (cid : CidParts) → places_on (walk_at store (terminal_want depth) cid) ≡ cid ∷ []
terminal_last store depth cid = terminal_alone depth (shown_at store depth cid) ∙ ap (λ (c : CidParts). c ∷ []) (root_shown store (1101 - depth) cid)

-- where its block isn't stored
pub gone_last : (store : Store) (w : Want) (cid : CidParts) → depth_of w ≤ 1100 → block_at store cid ≡ None → places_on (walk_at store w cid) ≡ cid ∷ []
gone_last store w cid h e = ap (λ (d : Dag). places_on (walk_of w d)) (there store (depth_of w) cid None h e) ∙ by w
  where
    by : (w : Want) → places_on (walk_of w (unopened cid)) ≡ cid ∷ []
    by (segment_want i position name path depth) = refl
    by (terminal_want depth) = refl
    by (node_want reach position depth) = refl

-- whatever stands there
pub record Begins (cid : CidParts) (cids : List CidParts) : Type 0 where
  pub rest : List CidParts
  pub is : cids ≡ cid ∷ rest

fits_or_not : (section : Section) (spot : Spot) (fault : Option BlockFault) (walk : PathWalk) → spot.cid ≡ section.cid → Begins section.cid (places_on (unless_misfit section spot fault walk))
fits_or_not section spot None walk e = record { rest = places_on walk; is = refl }
fits_or_not section spot (Some fault) walk e = record { rest = []; is = ap (λ (c : CidParts). c ∷ []) e }

begins_of : (w : Want) (d : Dag) → Begins (root_cid d) (places_on (walk_of w d))
begins_of (segment_want i position name path depth) (unopened cid) = record { rest = []; is = refl }
begins_of (segment_want i position name path depth) (bare section None) = record { rest = []; is = refl }
begins_of (segment_want i position name path depth) (bare section (Some fault)) = record { rest = []; is = refl }
begins_of (segment_want i position name path depth) (node section kind children) = fits_or_not section (spot_at section.cid depth position) (position_fault position kind) _ refl
begins_of (terminal_want depth) d = record { rest = []; is = terminal_alone depth d }
begins_of (node_want reach position depth) d = record { rest = []; is = terminal_alone depth d }

pub begins : (store : Store) (w : Want) (cid : CidParts) → Begins cid (places_on (walk_at store w cid))
begins store w cid = subst (λ (c : CidParts). Begins c (places_on (walk_at store w cid))) (root_shown store (1101 - depth_of w) cid) (begins_of w (shown_at store (depth_of w) cid))

-- ---- what is looked up on the way

abbrev pub all_looked : Store → CidParts → List (List ℕ) → List CidParts
all_looked store root path = looked_of (places_on (path_walk path (store_view store root)))

-- so far the CIDs of the places that were passed
abbrev pub IsLookedTo : Option Store → CidParts → List (List ℕ) → List CidParts → List (Task CidParts) → Type 0
IsLookedTo told root path cids tasks =
    (store : Store) → told ≡ Some store → all_looked store root path ≡ cids ++ looked_of (places_on (walk_left store tasks))

pub record HasLookedTo (told : Option Store) (root : CidParts) (path : List (List ℕ)) (tasks : List (Task CidParts)) (lookups : Lookups) : Type 0 where
  pub so : HasLooked lookups
  pub along : IsLookedTo told root path so.up.cids tasks

-- before the root
pub looks_start : {S : Type 0} (m : BlocksMeaning S) (a : S) (root : CidParts) (path : List (List ℕ)) (told : Option Store) (left : LeftState) → m.looked a a []
    → tasks_left left ≡ start (path_query root path) root → HasLookedTo told root path (tasks_left left) (looked_in m a a)
looks_start m a root path told left rests t = record {
  so = record {
    up = record { cids = []; looked = record { moved = rests; stored = refl }; hashed = All-nil (λ (cid : CidParts). cid.hash ≡ Sha256) };
    quiet = refl;
  };
  along = λ store e. ap (λ (walk : PathWalk). looked_of (places_on walk)) (sym (ap (walk_left store) t ∙ all_left store (path_query root path)));
}

-- ---- where there is no further place

miss_places : (miss : Miss) → places_on (stopped_at (stop_of (missing_of miss))) ≡ []
miss_places (misses.NoEntry i) = refl
miss_places (misses.NoDirectory i) = refl

miss_up : (places cids : List CidParts) (miss : Miss) → cids ≡ places → AreLookedUp places (Err (refusal_of_walk (fault_of_miss miss))) cids
miss_up places cids (misses.NoEntry i) e = e
miss_up places cids (misses.NoDirectory i) e = e

before_up : (root : CidParts) (path : List (List ℕ)) (told : Option Store) (store : Store) (passed : ℕ) (old mid : LeftState) (fault : WalkFault) (cids : List CidParts) → told ≡ Some store
    → IsAlong root path told passed old → IsNextPlace old (Err fault) mid → IsLookedTo told root path cids (tasks_left old) → AreLookedUp (all_looked store root path) (Err (refusal_of_walk fault)) cids
before_up root path told store passed old mid fault cids e on (inl memory) so =
    subst (λ (f : WalkFault). AreLookedUp (all_looked store root path) (Err (refusal_of_walk f)) cids) (sym memory)
    (record { rest = looked_of (places_on (walk_left store (tasks_left old))); is = so store e })
before_up root path told store passed old mid fault cids e on (inr (miss, more, g, t)) so =
    let left : tasks_left old ≡ stop_at (missing_of miss) ∷ more = sym (place_then (passed + 1) (tasks_left old) on.place) ∙ t in
    let none : places_on (walk_left store (tasks_left old)) ≡ [] = ap (λ (tasks : List (Task CidParts)). places_on (walk_left store tasks)) left ∙ miss_places miss in
    subst (λ (f : WalkFault). AreLookedUp (all_looked store root path) (Err (refusal_of_walk f)) cids) (sym g)
    (miss_up (all_looked store root path) cids miss (sym (so store e ∙ ap (λ (l : List CidParts). cids ++ looked_of l) none ∙ append-nil cids)))

pub before_along : (root : CidParts) (path : List (List ℕ)) (told : Option Store) (store : Store) (passed : ℕ) (old mid : LeftState) (fault : WalkFault) (lookups : Lookups) → told ≡ Some store
    → IsAlong root path told passed old → IsNextPlace old (Err fault) mid → HasLookedTo told root path (tasks_left old) lookups → HasLookedAlong store root path (Err (refusal_of_walk fault)) lookups
before_along root path told store passed old mid fault lookups e on n so = record {
  cids = so.so.up.cids;
  looked = so.so.up.looked;
  along = before_up root path told store passed old mid fault so.so.up.cids e on n so.along;
}

-- ---- at a place

looked_first : (cid : CidParts) (rest : List CidParts) → looked_of (cid ∷ rest) ≡ looked_of (cid ∷ []) ++ looked_of rest
looked_first cid rest = filter-append (λ (c : CidParts). is_hashed c.hash) (cid ∷ []) rest

-- the CIDs before it were looked up, and the walk goes on with it
pub record IsLookedBefore (store : Store) (root : CidParts) (path : List (List ℕ)) (cids : List CidParts) (w : Want) (cid : CidParts) : Type 0 where
  pub is : all_looked store root path ≡ cids ++ looked_of (places_on (walk_at store w cid))
  pub shallow : depth_of w ≤ 1100

pub before_place : (root : CidParts) (path : List (List ℕ)) (told : Option Store) (store : Store) (passed : ℕ) (old mid : LeftState) (wanted : Wanted) (cids : List CidParts) → told ≡ Some store
    → IsAlong root path told passed old → (there : IsPlaceAlong root path told passed mid wanted) → IsNextPlace old (Ok (Some wanted)) mid → IsLookedTo told root path cids (tasks_left old)
    → IsLookedBefore store root path cids there.at.want wanted.cid
before_place root path told store passed old mid wanted cids e on there (at, w, c, t) so =
    let left : open_block there.at.want there.at.cid ∷ [] ≡ tasks_left old =
    ap (λ (later : List (Task CidParts)). open_block there.at.want there.at.cid ∷ later) (sym there.later) ∙ left_then root path told passed old mid there.at on there.wanted_is t in
    let depth : depth_of there.at.want ≡ passed + 1 = deep (passed + 1) there.at.want there.at.cid there.place in
    let few : passed ≤ 1025 = (there.way store e).1 in
    record {
      is = so store e ∙ ap (λ (tasks : List (Task CidParts)). cids ++ looked_of (places_on (walk_left store tasks))) (sym left)
          ∙ ap (λ (cid : CidParts). cids ++ looked_of (places_on (walk_at store there.at.want cid))) (sym there.cid_is);
      shallow = omega (arith, depth, few);
    }

module _ (store : Store) (root : CidParts) (path : List (List ℕ)) (cids : List CidParts) (w : Want) (cid : CidParts) (before : IsLookedBefore store root path cids w cid) where
  -- it is a front of what is looked up, with its CID
  with_place : FrontOf (cids ++ looked_of (cid ∷ [])) (all_looked store root path)
  with_place =
      let first : Begins cid (places_on (walk_at store w cid)) = begins store w cid in
      record {
        rest = looked_of first.rest;
        is = before.is ∙ ap (λ (l : List CidParts). cids ++ looked_of l) first.is ∙ ap (λ (l : List CidParts). cids ++ l) (looked_first cid first.rest)
            ∙ sym (append_assoc cids (looked_of (cid ∷ [])) (looked_of first.rest));
      }

  -- or all, where it is the last one
  last_up : (more : List CidParts) → more ≡ looked_of (cid ∷ []) → places_on (walk_at store w cid) ≡ cid ∷ [] → cids ++ more ≡ all_looked store root path
  last_up more e last = ap (λ (l : List CidParts). cids ++ l) (e ∙ ap looked_of (sym last)) ∙ sym before.is

  memory_up : (more : List CidParts) → FrontOf more (looked_of (cid ∷ [])) → FrontOf (cids ++ more) (all_looked store root path)
  memory_up more f =
      let first : Begins cid (places_on (walk_at store w cid)) = begins store w cid in
      subst (FrontOf (cids ++ more)) (sym (before.is ∙ ap (λ (l : List CidParts). cids ++ looked_of l) first.is ∙ ap (λ (l : List CidParts). cids ++ l) (looked_first cid first.rest)))
      (front_behind cids more (looked_of (cid ∷ []) ++ looked_of first.rest) (front_longer more (looked_of (cid ∷ [])) (looked_of first.rest) f))

  not_given : (more : List CidParts) → more ≡ [] → cid.hash ≡ Sha256 → FrontOf ((cids ++ more) ++ cid ∷ []) (all_looked store root path)
  not_given more e hashed =
      subst (λ (l : List CidParts). FrontOf l (all_looked store root path))
      (ap (λ (l : List CidParts). cids ++ l) (looked_hashed cid hashed) ∙ ap (λ (l : List CidParts). l ++ cid ∷ []) (sym (append-nil cids) ∙ ap (λ (l : List CidParts). cids ++ l) (sym e))) with_place

  failed_up : (fault : BlocksFault) (more : List CidParts) → AreFetchedBy cid (Err fault) more → (cid.hash ≡ Identity → fault ≡ store_faults.OutOfMemory)
      → AreLookedUp (all_looked store root path) (Err (refusal_of_store fault)) (cids ++ more)
  failed_up (store_faults.Changed want got) more h i = (cid, not_given more h (by cid.hash refl))
    where
      by : (hash : HashKind) → cid.hash ≡ hash → hash ≡ Sha256
      by Sha256 e = refl
      by Identity e = absurd (let none = i e in cc)
  failed_up store_faults.Failed more h i = (cid, not_given more h (by cid.hash refl))
    where
      by : (hash : HashKind) → cid.hash ≡ hash → hash ≡ Sha256
      by Sha256 e = refl
      by Identity e = absurd (let none = i e in cc)
  failed_up store_faults.OutOfMemory more h i = memory_up more h

  -- the terminal is the last one
  terminal_up : (d : ℕ) (more : List CidParts) → more ≡ looked_of (cid ∷ []) → is_read_at (path_query root path) w ≡ false → IsPathPlace d (open_block w cid ∷ []) → cids ++ more ≡ all_looked store root path
  terminal_up d more e unread place = last_up more e (is_last w unread place)
    where
      is_last : (w : Want) → is_read_at (path_query root path) w ≡ false → IsPathPlace d (open_block w cid ∷ []) → places_on (walk_at store w cid) ≡ cid ∷ []
      is_last (segment_want i position name names depth) r p = absurd (cc)
      is_last (terminal_want depth) r p = terminal_last store depth cid
      is_last (node_want reach position depth) r p = absurd p

  gone_up : (more : List CidParts) → more ≡ looked_of (cid ∷ []) → block_at store cid ≡ None → cids ++ more ≡ all_looked store root path
  gone_up more e none = last_up more e (gone_last store w cid before.shallow none)

-- so is a block that can't be opened
bad_last : (store : Store) (root : CidParts) (path : List (List ℕ)) (d : ℕ) (w : Want) (cid : CidParts) (block : List ℕ) (bad : BlockFault) → depth_of w ≤ 1100 → block_at store cid ≡ Some block
    → is_read_at (path_query root path) w ≡ true → IsPathPlace d (open_block w cid ∷ []) → (read cid block ≡ Err bad) ⊎ ((kind : Kind) × (read cid block ≡ Ok kind) × (fault_at (path_query root path) w kind ≡ Some bad))
    → places_on (walk_at store w cid) ≡ cid ∷ []
bad_last store root path d (segment_want i position name names depth) cid block bad h s r p (inl e) = unreadable_last store (path_query root path) i position name names depth cid block bad h s e
bad_last store root path d (segment_want i position name names depth) cid block bad h s r p (inr (kind, e, f)) = misfit_last store (path_query root path) i position name names depth cid block kind bad h s e f
bad_last store root path d (terminal_want depth) cid block bad h s r p cause = absurd (cc)
bad_last store root path d (node_want reach position depth) cid block bad h s r p cause = absurd p

bad_up : (root : CidParts) (path : List (List ℕ)) (told : Option Store) (store : Store) (passed : ℕ) (mid new : LeftState) (wanted : Wanted) (block : List ℕ) (fault : WalkFault) (cids more : List CidParts)
    → (there : IsPlaceAlong root path told passed mid wanted) → IsLookedBefore store root path cids there.at.want wanted.cid → block_at store wanted.cid ≡ Some block → more ≡ looked_of (wanted.cid ∷ [])
    → IsOpened mid there.at block (Err fault) new → AreLookedUp (all_looked store root path) (Err (refusal_of_walk fault)) (cids ++ more)
bad_up root path told store passed mid new wanted block fault cids more there before s e (inl memory) =
    subst (λ (f : WalkFault). AreLookedUp (all_looked store root path) (Err (refusal_of_walk f)) (cids ++ more)) (sym memory)
    (memory_up store root path cids there.at.want wanted.cid before more (subst (λ (l : List CidParts). FrontOf l (looked_of (wanted.cid ∷ []))) (sym e) (front_whole (looked_of (wanted.cid ∷ [])))))
bad_up root path told store passed mid new wanted block fault cids more there before s e (inr (bad, g, h)) =
    subst (λ (f : WalkFault). AreLookedUp (all_looked store root path) (Err (refusal_of_walk f)) (cids ++ more)) (sym g)
    (last_up store root path cids there.at.want wanted.cid before more e
    (subst (λ (cid : CidParts). places_on (walk_at store there.at.want cid) ≡ cid ∷ []) (sym there.cid_is)
    (bad_last store root path (passed + 1) there.at.want there.at.cid block bad before.shallow (ap (block_at store) (sym there.cid_is) ∙ s)
    (ap (λ (q : QueryParts). is_read_at q there.at.want) (sym there.query) ∙ h.is_read) there.place
    (subst (λ (q : QueryParts). (read there.at.cid block ≡ Err bad) ⊎ ((kind : Kind) × (read there.at.cid block ≡ Ok kind) × (fault_at q there.at.want kind ≡ Some bad))) there.query h.cause))))

-- ---- what was looked up behind it

module _ {S : Type 0} (m : BlocksMeaning S) (a b c : S) (joins : LooksJoin S m) (root : CidParts) (path : List (List ℕ)) (told : Option Store) (passed : ℕ) (old mid : LeftState) (wanted : Wanted)
    (on : IsAlong root path told passed old) (there : IsPlaceAlong root path told passed mid wanted) (next : IsNextPlace old (Ok (Some wanted)) mid) (so : HasLookedTo told root path (tasks_left old) (looked_in m a b)) where
  abbrev before : (store : Store) → told ≡ Some store → IsLookedBefore store root path so.so.up.cids there.at.want wanted.cid
  before store e = before_place root path told store passed old mid wanted so.so.up.cids e on there next so.along

  with_fetched : (store : Store) (result : Result CidParts ResolveFault) (more : List CidParts) → LookedUp more (looked_in m b c) → AreLookedUp (all_looked store root path) result (so.so.up.cids ++ more)
      → HasLookedAlong store root path result (looked_in m a c)
  with_fetched store result more looked along = record { cids = so.so.up.cids ++ more; looked = looks_both m a b c so.so.up.cids more joins so.so.up.looked looked; along = along }

  pub failed_along : (store : Store) (fault : BlocksFault) → told ≡ Some store → HasFetched wanted.cid (Err fault) (looked_in m b c) → (wanted.cid.hash ≡ Identity → fault ≡ store_faults.OutOfMemory)
      → HasLookedAlong store root path (Err (refusal_of_store fault)) (looked_in m a c)
  failed_along store fault e h i =
      with_fetched store (Err (refusal_of_store fault)) h.cids h.looked (failed_up store root path so.so.up.cids there.at.want wanted.cid (before store e) fault h.cids h.just i)

  pub no_root_along : (store : Store) (found : Option (List ℕ)) → told ≡ Some store → HasFetched wanted.cid (Ok found) (looked_in m b c) → block_at store wanted.cid ≡ None
      → HasLookedAlong store root path (Err refusals.NoRoot) (looked_in m a c)
  no_root_along store found e h none = with_fetched store (Err refusals.NoRoot) h.cids h.looked (gone_up store root path so.so.up.cids there.at.want wanted.cid (before store e) h.cids h.just none)

  pub gone_along : (store : Store) (found : Option (List ℕ)) → told ≡ Some store → HasFetched wanted.cid (Ok found) (looked_in m b c) → block_at store wanted.cid ≡ None
      → HasLookedAlong store root path (Err (refusals.Gone wanted.cid)) (looked_in m a c)
  gone_along store found e h none = with_fetched store (Err (refusals.Gone wanted.cid)) h.cids h.looked (gone_up store root path so.so.up.cids there.at.want wanted.cid (before store e) h.cids h.just none)

  pub leads_along : (store : Store) (found : Option (List ℕ)) → told ≡ Some store → HasFetched wanted.cid (Ok found) (looked_in m b c)
      → ((at : WantedAt) → mid.wanted ≡ Some at → is_read_at mid.query at.want ≡ false) → HasLookedAlong store root path (Ok wanted.cid) (looked_in m a c)
  leads_along store found e h unread =
      with_fetched store (Ok wanted.cid) h.cids h.looked
      (terminal_up store root path so.so.up.cids there.at.want wanted.cid (before store e) (passed + 1) h.cids h.just
      (ap (λ (q : QueryParts). is_read_at q there.at.want) (sym there.query) ∙ unread there.at there.wanted_is)
      (subst (λ (cid : CidParts). IsPathPlace (passed + 1) (open_block there.at.want cid ∷ [])) (sym there.cid_is) there.place))

  pub bad_along : (store : Store) (found : Option (List ℕ)) (block : List ℕ) (fault : WalkFault) (new : LeftState) → told ≡ Some store → HasFetched wanted.cid (Ok found) (looked_in m b c)
      → block_at store wanted.cid ≡ Some block → ((at : WantedAt) → mid.wanted ≡ Some at → IsOpened mid at block (Err fault) new) → HasLookedAlong store root path (Err (refusal_of_walk fault)) (looked_in m a c)
  bad_along store found block fault new e h s opened =
      with_fetched store (Err (refusal_of_walk fault)) h.cids h.looked
      (bad_up root path told store passed mid new wanted block fault so.so.up.cids h.cids there (before store e) s h.just (opened there.at there.wanted_is))

-- ---- behind a block of the path

passed_places : (store : Store) (root : CidParts) (path : List (List ℕ)) (d : ℕ) (w : Want) (cid : CidParts) (block : List ℕ) (kind : Kind) → depth_of w ≤ 1100 → block_at store cid ≡ Some block
    → is_read_at (path_query root path) w ≡ true → IsPathPlace d (open_block w cid ∷ []) → read cid block ≡ Ok kind → fault_at (path_query root path) w kind ≡ None
    → places_on (walk_at store w cid) ≡ cid ∷ places_on (walk_left store (tasks_of (path_query root path) w (section_of cid block) kind (links_of kind)))
passed_places store root path d (segment_want i position name names depth) cid block kind h s r p e f = ap places_on (passes store (path_query root path) i position name names depth cid block kind h s e f)
passed_places store root path d (terminal_want depth) cid block kind h s r p e f = absurd (cc)
passed_places store root path d (node_want reach position depth) cid block kind h s r p e f = absurd p

passed_way : (store : Store) (root : CidParts) (path : List (List ℕ)) (cids more : List CidParts) (w : Want) (cid : CidParts) (rest : List CidParts) → IsLookedBefore store root path cids w cid → more ≡ looked_of (cid ∷ [])
    → places_on (walk_at store w cid) ≡ cid ∷ rest → all_looked store root path ≡ (cids ++ more) ++ looked_of rest
passed_way store root path cids more w cid rest before e p =
    before.is ∙ ap (λ (l : List CidParts). cids ++ looked_of l) p ∙ ap (λ (l : List CidParts). cids ++ l) (looked_first cid rest ∙ ap (λ (l : List CidParts). l ++ looked_of rest) (sym e))
    ∙ sym (append_assoc cids more (looked_of rest))

opened_past : (root : CidParts) (path : List (List ℕ)) (told : Option Store) (store : Store) (passed : ℕ) (mid new : LeftState) (wanted : Wanted) (block : List ℕ) (done : _) (cids more : List CidParts)
    → (there : IsPlaceAlong root path told passed mid wanted) → IsLookedBefore store root path cids there.at.want wanted.cid → block_at store wanted.cid ≡ Some block → more ≡ looked_of (wanted.cid ∷ [])
    → is_read_at mid.query there.at.want ≡ true → IsOpened mid there.at block (Ok done) new → all_looked store root path ≡ (cids ++ more) ++ looked_of (places_on (walk_left store (tasks_left new)))
opened_past root path told store passed mid new wanted block done cids more there before s e r (inl (n, t)) = absurd (cc)
opened_past root path told store passed mid new wanted block done cids more there before s e r (inr opened) =
    let h : IsPassed root path there.at block new = passed_by root path told passed mid new wanted block there opened in
    passed_way store root path cids more there.at.want wanted.cid (places_on (walk_left store (tasks_left new))) before e
    (subst (λ (cid : CidParts). places_on (walk_at store there.at.want cid) ≡ cid ∷ places_on (walk_left store (tasks_left new))) (sym there.cid_is)
    (passed_places store root path (passed + 1) there.at.want there.at.cid block h.kind before.shallow (ap (block_at store) (sym there.cid_is) ∙ s) h.is_read there.place h.reads h.fits
    ∙ ap (λ (tasks : List (Task CidParts)). there.at.cid ∷ places_on (walk_left store tasks)) (sym h.tasks)))

pub looks_past : {S : Type 0} (m : BlocksMeaning S) (a b c : S) → LooksJoin S m → (root : CidParts) (path : List (List ℕ)) (told : Option Store) (passed : ℕ) (old mid new : LeftState) (wanted : Wanted) (found : Option (List ℕ)) (block : List ℕ) (done : _)
    → IsAlong root path told passed old → IsPlaceAlong root path told passed mid wanted → IsNextPlace old (Ok (Some wanted)) mid → HasLookedTo told root path (tasks_left old) (looked_in m a b)
    → HasFetched wanted.cid (Ok found) (looked_in m b c) → ((store : Store) → told ≡ Some store → block_at store wanted.cid ≡ Some block)
    → ((at : WantedAt) → mid.wanted ≡ Some at → is_read_at mid.query at.want ≡ true) → ((at : WantedAt) → mid.wanted ≡ Some at → IsOpened mid at block (Ok done) new)
    → HasLookedTo told root path (tasks_left new) (looked_in m a c)
looks_past m a b c joins root path told passed old mid new wanted found block done on there next so h s r opened = record {
  so = record {
    up = record {
      cids = so.so.up.cids ++ h.cids;
      looked = looks_both m a b c so.so.up.cids h.cids joins so.so.up.looked h.looked;
      hashed = All-append (λ (cid : CidParts). cid.hash ≡ Sha256) so.so.up.cids h.cids so.so.up.hashed h.hashed;
    };
    quiet = h.quiet ∙ so.so.quiet;
  };
  along = λ store e. opened_past root path told store passed mid new wanted block done so.so.up.cids h.cids there (before_place root path told store passed old mid wanted so.so.up.cids e on there next so.along) (s store e) h.just
      (r there.at there.wanted_is) (opened there.at there.wanted_is);
}
