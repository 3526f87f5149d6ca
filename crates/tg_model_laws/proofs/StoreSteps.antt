-- One step of a walk over what a store shows, cut at a depth or not.
use Rattle.std.proofs.Common.{◌≡◌, ◌≤◌, ◌<◌, ℕ, ◌+◌, ◌-◌, suc, zero, All, Bool, true, false, Option, Some, None, List, [], ◌∷◌, ◌++◌, Ok, Err, Result, nat_lt, refl, sym, ap, ap₂, ◌∙◌, subst, arith}
use Rattle.std.proofs.lemmas.Bool.{le-ltb, lt-ltb}
use Rattle.std.proofs.lemmas.List.Elements.{All-append, All-cons, All-nil}
use Rattle.std.specs.Prelude.{if◌then◌else◌}
use Rattle.tg_cid.specs.Cid.{CidParts}
use Rattle.tg_model_laws.specs.Depths.{children_down_to, down_to}
use Rattle.tg_model.specs.Computed.{read}
use Rattle.tg_model.specs.Dag.{Children, Dag, Section, bare, links_of, node, root_cid, unopened, with_child}
use Rattle.tg_model.specs.PathWalk.{bad_block, gone, stopped, whole}
use Rattle.tg_model.specs.Queries.{QueryParts}
use Rattle.tg_model.specs.StoreView.{block_at, children_by, opened_to, read_as, store_view, with_block}
use Rattle.tg_model.specs.Stores.{Store}
use Rattle.tg_model.specs.Traversal.{ListedEntry, Place, Traversal, and_then, traversal}
use Rattle.tg_model.specs.declared.fault.BlockFault.{BlockFault}
use Rattle.tg_model.specs.declared.kinds.Kind.{Kind}
use Rattle.tg_model_laws.proofs.TaskMaps.{map_both, map_entries, map_tasks, map_text, map_then, shown_children}
use Rattle.tg_model_laws.specs.Stages.{Given, IsOpened, IsStage, StageLaws, ending, nothing_given, place_of, tasks_give, up_to_next, with_place}
use Rattle.tg_model_laws.specs.StoreWalks.{IsWalked, WalkEnds, WalkTooDeep, cut_at, cut_view, section_of, shown_tasks, shown_at}
use Rattle.tg_model_laws.specs.Tasks.{Miss, Task, Want, dags_of, depth_of, fault_at, is_read_at, open_block, path_want, spot_of, start, stop_at, stop_of, tasks_of, tasks_then, text_at, depth_at_top}

-- ---- what is shown of a CID, a block deeper for the links

-- down to a depth
abbrev pub IsView : ℕ → Store → (ℕ → CidParts → Dag) → Type 0
IsView most store shown = (depth : ℕ) (cid : CidParts) → depth ≤ most → shown depth cid ≡ with_block (shown (depth + 1)) cid (block_at store cid)

pub full_view : (store : Store) → IsView 1100 store (shown_at store)
full_view store depth cid h =
    let n : 1101 - depth ≡ suc (1101 - (depth + 1)) = omega (arith, h) in
    ap (λ (n : ℕ). opened_to n store cid) n

cut_children : (most depth : ℕ) (shown : CidParts → Dag) (cids : List CidParts)
    → children_down_to most depth (children_by shown cids) ≡ children_by (λ cid. down_to most depth (shown cid)) cids
cut_children most depth shown [] = refl
cut_children most depth shown (cid ∷ cids) = ap (λ (children : Children). with_child (down_to most depth (shown cid)) children) (cut_children most depth shown cids)

cut_read : (most depth : ℕ) (shown : CidParts → Dag) (section : Section) (kind : Result Kind BlockFault) → nat_lt most depth ≡ false
    → down_to most depth (read_as shown section kind) ≡ read_as (λ cid. down_to most (depth + 1) (shown cid)) section kind
cut_read most depth shown section (Ok kind) e =
    ap (λ (test : Bool). if test then unopened section.cid else node section kind (children_down_to most (depth + 1) (children_by shown (links_of kind)))) e
    ∙ ap (node section kind) (cut_children most (depth + 1) shown (links_of kind))
cut_read most depth shown section (Err fault) e = ap (λ (test : Bool). if test then unopened section.cid else bare section (Some fault)) e

cut_found : (most depth : ℕ) (shown : CidParts → Dag) (cid : CidParts) (found : Option (List ℕ)) → nat_lt most depth ≡ false
    → down_to most depth (with_block shown cid found) ≡ with_block (λ cid. down_to most (depth + 1) (shown cid)) cid found
cut_found most depth shown cid None e = refl
cut_found most depth shown cid (Some block) e = cut_read most depth shown (section_of cid block) (read cid block) e

pub seen_cut : (store : Store) (most : ℕ) → most ≤ 1100 → IsView most store (cut_at most store)
seen_cut store most small depth cid h =
    let less : depth ≤ 1100 = omega (arith, small, h) in
    ap (down_to most depth) (full_view store depth cid less) ∙ cut_found most depth (shown_at store (depth + 1)) cid (block_at store cid) (le-ltb most depth h)

-- a view that isn't as deep
pub less_deep : (most other : ℕ) (store : Store) (shown : ℕ → CidParts → Dag) → most ≤ other → IsView other store shown → IsView most store shown
less_deep most other store shown small view depth cid h = view depth cid (omega (arith, small, h))

-- ---- steps over what is shown

module _ (laws : StageLaws) (q : QueryParts) (store : Store) (d : Dag) (shown : ℕ → CidParts → Dag) (given : Given) where
  abbrev Over : Given → List (Task CidParts) → Type 0
  Over now tasks = IsStage q d now (shown_tasks shown tasks)

  -- at the next place is what is found for its CID
  there : (most : ℕ) → IsView most store shown → (w : Want) (cid : CidParts) (found : Option (List ℕ)) (tasks : List (Task CidParts)) → depth_of w ≤ most → block_at store cid ≡ found
      → Over given (open_block w cid ∷ tasks) → IsStage q d given (open_block w (with_block (shown (depth_of w + 1)) cid found) ∷ shown_tasks shown tasks)
  there most view w cid found tasks h e stage =
      subst (λ (x : Dag). IsStage q d given (open_block w x ∷ shown_tasks shown tasks)) (view (depth_of w) cid h ∙ ap (with_block (shown (depth_of w + 1)) cid) e) stage

  there_read : (most : ℕ) → IsView most store shown → (w : Want) (cid : CidParts) (block : List ℕ) (kind : Result Kind BlockFault) (tasks : List (Task CidParts))
      → depth_of w ≤ most → block_at store cid ≡ Some block → read cid block ≡ kind → Over given (open_block w cid ∷ tasks)
      → IsStage q d given (open_block w (read_as (shown (depth_of w + 1)) (section_of cid block) kind) ∷ shown_tasks shown tasks)
  there_read most view w cid block kind tasks h e r stage =
      subst (λ (k : Result Kind BlockFault). IsStage q d given (open_block w (read_as (shown (depth_of w + 1)) (section_of cid block) k) ∷ shown_tasks shown tasks)) r
      (there most view w cid (Some block) tasks h e stage)

  pub over_opens : (most : ℕ) → IsView most store shown → (w : Want) (cid : CidParts) (block : List ℕ) (kind : Kind) (tasks : List (Task CidParts))
      → depth_of w ≤ most → block_at store cid ≡ Some block → read cid block ≡ Ok kind → fault_at q w kind ≡ None → Over given (open_block w cid ∷ tasks)
      → Over (with_place w (section_of cid block) (text_at q w (section_of cid block) kind) given) (tasks_of q w (section_of cid block) kind (links_of kind) ++ tasks)
  over_opens most view w cid block kind tasks h e r fits stage =
      let section : Section = section_of cid block in
      let below : CidParts → Dag = shown (depth_of w + 1) in
      let new : List (Task CidParts) = tasks_of q w section kind (links_of kind) in
      let same : shown_tasks shown new ≡ tasks_of q w section kind (dags_of (children_by below (links_of kind))) =
      map_tasks CidParts Dag shown q w section kind (links_of kind) ∙ ap (tasks_of q w section kind) (shown_children below (links_of kind)) in
      subst (λ (all : List (Task Dag)). IsStage q d (with_place w section (text_at q w section kind) given) all)
      (ap (λ (xs : List (Task Dag)). xs ++ shown_tasks shown tasks) (sym same) ∙ sym (map_both CidParts Dag shown new tasks))
      (laws.opened q d given w section kind (children_by below (links_of kind)) (shown_tasks shown tasks) fits (there_read most view w cid block (Ok kind) tasks h e r stage))

  is_read : (cid : CidParts) (block : List ℕ) (below : CidParts → Dag) (kind : Result Kind BlockFault) → IsOpened (read_as below (section_of cid block) kind) (section_of cid block)
  is_read cid block below (Ok kind) = refl
  is_read cid block below (Err fault) = refl

  pub over_alone : (most : ℕ) → IsView most store shown → (w : Want) (cid : CidParts) (block : List ℕ) (tasks : List (Task CidParts))
      → depth_of w ≤ most → block_at store cid ≡ Some block → is_read_at q w ≡ false → Over given (open_block w cid ∷ tasks)
      → Over (with_place w (section_of cid block) block given) tasks
  over_alone most view w cid block tasks h e unread stage =
      laws.alone q d given w (with_block (shown (depth_of w + 1)) cid (Some block)) (section_of cid block) (shown_tasks shown tasks) unread
      (is_read cid block (shown (depth_of w + 1)) (read cid block)) (there most view w cid (Some block) tasks h e stage)

  pub over_gone : (most : ℕ) → IsView most store shown → (w : Want) (cid : CidParts) (tasks : List (Task CidParts)) → depth_of w ≤ most → block_at store cid ≡ None
      → Over given (open_block w cid ∷ tasks) → traversal q d ≡ ending given (stopped (gone (spot_of w cid)))
  over_gone most view w cid tasks h e stage = laws.not_opened q d given w cid (shown_tasks shown tasks) (there most view w cid None tasks h e stage)

  pub over_unreadable : (most : ℕ) → IsView most store shown → (w : Want) (cid : CidParts) (block : List ℕ) (fault : BlockFault) (tasks : List (Task CidParts))
      → depth_of w ≤ most → block_at store cid ≡ Some block → read cid block ≡ Err fault → is_read_at q w ≡ true → Over given (open_block w cid ∷ tasks)
      → traversal q d ≡ ending given (stopped (bad_block (spot_of w cid) fault))
  over_unreadable most view w cid block fault tasks h e r reads stage =
      laws.unreadable q d given w (section_of cid block) fault (shown_tasks shown tasks) reads (there_read most view w cid block (Err fault) tasks h e r stage)

  pub over_misfit : (most : ℕ) → IsView most store shown → (w : Want) (cid : CidParts) (block : List ℕ) (kind : Kind) (fault : BlockFault) (tasks : List (Task CidParts))
      → depth_of w ≤ most → block_at store cid ≡ Some block → read cid block ≡ Ok kind → fault_at q w kind ≡ Some fault → Over given (open_block w cid ∷ tasks)
      → traversal q d ≡ ending given (stopped (bad_block (spot_of w cid) fault))
  over_misfit most view w cid block kind fault tasks h e r misfit stage =
      laws.misfit q d given w (section_of cid block) kind (children_by (shown (depth_of w + 1)) (links_of kind)) fault (shown_tasks shown tasks) misfit
      (there_read most view w cid block (Ok kind) tasks h e r stage)

  pub over_gives : (tasks : List (Task CidParts)) → Over given tasks → Over (up_to_next tasks given) (tasks_then tasks)
  over_gives tasks stage =
      let seen : List (Task Dag) = shown_tasks shown tasks in
      subst (λ (all : List (Task Dag)). IsStage q d (up_to_next tasks given) all) (sym (map_then CidParts Dag shown tasks))
      (subst (λ (now : Given). IsStage q d now (tasks_then seen))
      (ap₂ (λ (text : List ℕ) (met : List ListedEntry). let now : Given = record { places = given.places; text = given.text ++ text; met = given.met ++ met } in now)
      (map_text CidParts Dag shown tasks) (map_entries CidParts Dag shown tasks))
      (laws.up_to_next q d given seen stage))

-- ---- both at once

deep_gone : (most depth : ℕ) (d : Dag) (cid : CidParts) → most < depth → root_cid d ≡ cid → down_to most depth d ≡ unopened cid
deep_gone most depth (unopened other) cid h e = ap unopened e
deep_gone most depth (bare section fault) cid h e = ap (λ (test : Bool). if test then unopened section.cid else bare section fault) (lt-ltb most depth h) ∙ ap unopened e
deep_gone most depth (node section kind children) cid h e =
    ap (λ (test : Bool). if test then unopened section.cid else node section kind (children_down_to most (depth + 1) children)) (lt-ltb most depth h) ∙ ap unopened e

found_root : (shown : CidParts → Dag) (section : Section) (kind : Result Kind BlockFault) → root_cid (read_as shown section kind) ≡ section.cid
found_root shown section (Ok kind) = refl
found_root shown section (Err fault) = refl

block_root : (shown : CidParts → Dag) (cid : CidParts) (found : Option (List ℕ)) → root_cid (with_block shown cid found) ≡ cid
block_root shown cid None = refl
block_root shown cid (Some block) = found_root shown (section_of cid block) (read cid block)

pub shown_root : (n : ℕ) (store : Store) (cid : CidParts) → root_cid (opened_to n store cid) ≡ cid
shown_root zero store cid = refl
shown_root (suc n) store cid = block_root (opened_to n store) cid (block_at store cid)

one_deeper : (most : ℕ) (given : Given) (w : Want) (section : Section) → depth_of w ≤ most → All (λ (p : Place). p.depth ≤ most) given.places
    → All (λ (p : Place). p.depth ≤ most) (given.places ++ place_of w section ∷ [])
one_deeper most given w section h within =
    All-append (λ (p : Place). p.depth ≤ most) given.places (place_of w section ∷ []) within
    (All-cons (λ (p : Place). p.depth ≤ most) (place_of w section) [] h (All-nil (λ (p : Place). p.depth ≤ most)))

module _ (laws : StageLaws) (q : QueryParts) (store : Store) (most : ℕ) where
  pub walk_starts : IsWalked q store most nothing_given (start q q.root)
  walk_starts =
      let root : 1 ≡ depth_of (path_want 0 q.path 1) = sym (depth_at_top 0 q.path 1) in
      record {
        full = subst (λ (depth : ℕ). IsStage q (store_view store q.root) nothing_given (open_block (path_want 0 q.path 1) (shown_at store depth q.root) ∷ [])) root
            (laws.start q (store_view store q.root));
        cut = subst (λ (depth : ℕ). IsStage q (cut_view most store q.root) nothing_given (open_block (path_want 0 q.path 1) (cut_at most store depth q.root) ∷ [])) root
            (laws.start q (cut_view most store q.root));
        within = All-nil (λ (p : Place). p.depth ≤ most);
      }

  module _ (given : Given) where
    pub walk_front : (tasks : List (Task CidParts)) → IsWalked q store most given tasks → (rest : Traversal) × (traversal q (store_view store q.root) ≡ and_then (ending given whole) rest)
    walk_front tasks h = (tasks_give q (shown_tasks (shown_at store) tasks), h.full)

    pub walk_gives : (tasks : List (Task CidParts)) → IsWalked q store most given tasks → IsWalked q store most (up_to_next tasks given) (tasks_then tasks)
    walk_gives tasks h = record {
      full = over_gives laws q store (store_view store q.root) (shown_at store) given tasks h.full;
      cut = over_gives laws q store (cut_view most store q.root) (cut_at most store) given tasks h.cut;
      within = h.within;
    }

    pub walk_too_deep : (w : Want) (cid : CidParts) (tasks : List (Task CidParts)) → most < depth_of w → IsWalked q store most given (open_block w cid ∷ tasks)
        → WalkTooDeep q store most given w cid
    walk_too_deep w cid tasks deep h = record {
      deeper = deep;
      cut = laws.not_opened q (cut_view most store q.root) given w cid (shown_tasks (cut_at most store) tasks)
          (subst (λ (x : Dag). IsStage q (cut_view most store q.root) given (open_block w x ∷ shown_tasks (cut_at most store) tasks))
          (deep_gone most (depth_of w) (shown_at store (depth_of w) cid) cid deep (shown_root (1101 - depth_of w) store cid)) h.cut);
      within = h.within;
      rest = tasks_give q (shown_tasks (shown_at store) (open_block w cid ∷ tasks));
      full = h.full;
    }

    pub walk_misses : (miss : Miss) (tasks : List (Task CidParts)) → IsWalked q store most given (stop_at miss ∷ tasks) → WalkEnds q store most given (stopped (stop_of miss))
    walk_misses miss tasks h = record {
      full = laws.miss q (store_view store q.root) given miss (shown_tasks (shown_at store) tasks) h.full;
      cut = laws.miss q (cut_view most store q.root) given miss (shown_tasks (cut_at most store) tasks) h.cut;
      within = h.within;
    }

    pub walk_done : IsWalked q store most given [] → WalkEnds q store most given whole
    walk_done h = record { full = laws.done q (store_view store q.root) given h.full; cut = laws.done q (cut_view most store q.root) given h.cut; within = h.within }

    module _ (w : Want) (cid : CidParts) (tasks : List (Task CidParts)) (small : most ≤ 1100) (h : depth_of w ≤ most) where
      abbrev view : IsView most store (shown_at store)
      view = less_deep most 1100 store (shown_at store) small (full_view store)

      abbrev cuts : IsView most store (cut_at most store)
      cuts = seen_cut store most small

      pub walk_opens : (block : List ℕ) (kind : Kind) → block_at store cid ≡ Some block → read cid block ≡ Ok kind → fault_at q w kind ≡ None
          → IsWalked q store most given (open_block w cid ∷ tasks)
          → IsWalked q store most (with_place w (section_of cid block) (text_at q w (section_of cid block) kind) given) (tasks_of q w (section_of cid block) kind (links_of kind) ++ tasks)
      walk_opens block kind e r fits g = record {
        full = over_opens laws q store (store_view store q.root) (shown_at store) given most view w cid block kind tasks h e r fits g.full;
        cut = over_opens laws q store (cut_view most store q.root) (cut_at most store) given most cuts w cid block kind tasks h e r fits g.cut;
        within = one_deeper most given w (section_of cid block) h g.within;
      }

      pub walk_alone : (block : List ℕ) → block_at store cid ≡ Some block → is_read_at q w ≡ false → IsWalked q store most given (open_block w cid ∷ tasks)
          → IsWalked q store most (with_place w (section_of cid block) block given) tasks
      walk_alone block e unread g = record {
        full = over_alone laws q store (store_view store q.root) (shown_at store) given most view w cid block tasks h e unread g.full;
        cut = over_alone laws q store (cut_view most store q.root) (cut_at most store) given most cuts w cid block tasks h e unread g.cut;
        within = one_deeper most given w (section_of cid block) h g.within;
      }

      pub walk_gone : block_at store cid ≡ None → IsWalked q store most given (open_block w cid ∷ tasks) → WalkEnds q store most given (stopped (gone (spot_of w cid)))
      walk_gone e g = record {
        full = over_gone laws q store (store_view store q.root) (shown_at store) given most view w cid tasks h e g.full;
        cut = over_gone laws q store (cut_view most store q.root) (cut_at most store) given most cuts w cid tasks h e g.cut;
        within = g.within;
      }

      pub walk_unreadable : (block : List ℕ) (fault : BlockFault) → block_at store cid ≡ Some block → read cid block ≡ Err fault → is_read_at q w ≡ true
          → IsWalked q store most given (open_block w cid ∷ tasks) → WalkEnds q store most given (stopped (bad_block (spot_of w cid) fault))
      walk_unreadable block fault e r reads g = record {
        full = over_unreadable laws q store (store_view store q.root) (shown_at store) given most view w cid block fault tasks h e r reads g.full;
        cut = over_unreadable laws q store (cut_view most store q.root) (cut_at most store) given most cuts w cid block fault tasks h e r reads g.cut;
        within = g.within;
      }

      pub walk_misfit : (block : List ℕ) (kind : Kind) (fault : BlockFault) → block_at store cid ≡ Some block → read cid block ≡ Ok kind → fault_at q w kind ≡ Some fault
          → IsWalked q store most given (open_block w cid ∷ tasks) → WalkEnds q store most given (stopped (bad_block (spot_of w cid) fault))
      walk_misfit block kind fault e r misfit g = record {
        full = over_misfit laws q store (store_view store q.root) (shown_at store) given most view w cid block kind fault tasks h e r misfit g.full;
        cut = over_misfit laws q store (cut_view most store q.root) (cut_at most store) given most cuts w cid block kind fault tasks h e r misfit g.cut;
        within = g.within;
      }
