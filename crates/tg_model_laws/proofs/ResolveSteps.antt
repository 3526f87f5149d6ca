-- The walk along a path over what a store shows.
use Rattle.std.proofs.Common.{◌≡◌, ◌≤◌, ℕ, ◌+◌, ◌*◌, suc, zero, Option, Some, None, List, [], ◌∷◌, ◌++◌, Ok, Err, Result, length, refl, sym, ap, ◌∙◌, subst, arith, length-append}
use Rattle.tg_cid.specs.Cid.{CidParts}
use Rattle.tg_model_laws.specs.Places.{IsFaultlessShard}
use Rattle.tg_model.specs.Computed.{read}
use Rattle.tg_model.specs.Dag.{Dag, Section, bare, links_of, node, unopened}
use Rattle.tg_model.specs.PathWalk.{PathEnd, StepTo, absent, bad_block, gone, not_folder_here, not_reached, spot_at, step_of, terminal, to_child, to_entry, walk_from}
use Rattle.tg_model.specs.Queries.{QueryParts}
use Rattle.tg_model.specs.Sound.{Position, child, part, passed, position_fault, top}
use Rattle.tg_model.specs.StoreView.{block_at, children_by, read_as, store_view, with_block}
use Rattle.tg_model.specs.Stores.{Store}
use Rattle.tg_model.specs.declared.fault.BlockFault.{BlockFault}
use Rattle.tg_model.specs.declared.kinds.Kind.{Kind}
use Rattle.tg_model.specs.declared.kinds.Kind.TheVariants.{Basic, File, Raw, Shard, Symlink}
use Rattle.tg_murmur.specs.NameHash.{slot_of}
use Rattle.tg_model_laws.proofs.PathSteps.{path_misfit, path_opens, path_starts}
use Rattle.tg_model_laws.proofs.StoreSteps.{full_view}
use Rattle.tg_model_laws.proofs.TaskMaps.{map_tasks, shown_children}
use Rattle.tg_model_laws.specs.PathStages.{AreWithinPath, IsPathEnd, IsResolved, IsWithinPath, LeadsToEnd, store_end}
use Rattle.tg_model_laws.specs.Stages.{IsOpened}
use Rattle.tg_model_laws.specs.StoreWalks.{section_of, shown_at}
use Rattle.tg_model_laws.specs.Tasks.{Miss, Task, Want, depth_of, link_tasks, node_want, open_block, path_want, position_below, segment_want, spot_of, start, step_tasks, stop_at, stop_of, tasks_of, terminal_want, depth_at_top}

-- ---- how deep a path goes

-- the blocks down to a place of a path of 128 segments
pub within_bound : (n : ℕ) (w : Want) → n ≤ 128 → IsWithinPath n w → depth_of w ≤ 1025
within_bound n (segment_want i position name path depth) few h =
    let count : i + 1 + length path ≡ n = h.0 in
    let deep : depth ≤ 1 + 8 * i + length (passed position) = h.1 in
    let slots : length (passed position) ≤ 8 = h.2 in
    omega (arith, few, count, deep, slots)
within_bound n (terminal_want depth) few h = let deep : depth ≤ 1 + 8 * n = h in omega (arith, few, deep)
within_bound n (node_want reach position depth) few h = absurd h

within_top : (n i depth : ℕ) (path : List (List ℕ)) → i + length path ≡ n → depth ≤ 1 + 8 * i → IsWithinPath n (path_want i path depth)
within_top n i depth [] count deep = let all : i + 0 ≡ n = count in omega (arith, all, deep)
within_top n i depth (name ∷ path) count deep =
    let all : i + suc (length path) ≡ n = count in
    (omega (arith, all), omega (arith, deep), omega arith)

within_link : (n k i : ℕ) (w : Want) (cids : List CidParts) → IsWithinPath n w → AreWithinPath n (link_tasks k i w cids)
within_link n k i w [] h = tt
within_link n zero i w (cid ∷ cids) h = h
within_link n (suc k) i w (cid ∷ cids) h = within_link n k i w cids h

-- a shard that may stand there has at most seven slots above it
few_passed : IsFaultlessShard → (position : Position) (kind : Kind) → position_fault position kind ≡ None → length (passed position) ≤ 7
few_passed shards top kind e = omega arith
few_passed shards (part size) kind e = omega arith
few_passed shards (child above) Raw e = absurd (cc)
few_passed shards (child above) (File inline filesize parts) e = absurd (cc)
few_passed shards (child above) (Basic entries) e = absurd (cc)
few_passed shards (child above) (Shard slots) e = ((shards above slots).0 e).few
few_passed shards (child above) (Symlink target) e = absurd (cc)

within_step : (n i : ℕ) (position : Position) (name : List ℕ) (path : List (List ℕ)) (depth : ℕ) (step : StepTo) (cids : List CidParts)
    → IsWithinPath n (segment_want i position name path depth) → length (passed position) ≤ 7
    → AreWithinPath n (step_tasks i (path_want (i + 1) path (depth + 1)) (segment_want i (position_below position name) name path (depth + 1)) step cids)
within_step n i position name path depth (to_entry k) cids h few =
    let count : i + 1 + length path ≡ n = h.0 in
    let deep : depth ≤ 1 + 8 * i + length (passed position) = h.1 in
    within_link n k (i + 1) (path_want (i + 1) path (depth + 1)) cids (within_top n (i + 1) (depth + 1) path count (omega (arith, deep, few)))
within_step n i position name path depth (to_child k) cids h few =
    let count : i + 1 + length path ≡ n = h.0 in
    let deep : depth ≤ 1 + 8 * i + length (passed position) = h.1 in
    let number : ℕ = slot_of name (length (passed position)) in
    let more : length (passed position ++ number ∷ []) ≡ length (passed position) + 1 = length-append (passed position) (number ∷ []) in
    within_link n k i (segment_want i (position_below position name) name path (depth + 1)) cids
    (subst (λ (m : ℕ). (i + 1 + length path ≡ n) × (depth + 1 ≤ 1 + 8 * i + m) × (m ≤ 8)) (sym more) (count, omega (arith, deep), omega (arith, few)))
within_step n i position name path depth absent cids h few = tt
within_step n i position name path depth not_folder_here cids h few = tt

-- ---- steps

module _ (q : QueryParts) (store : Store) where
  abbrev end_is : PathEnd
  end_is = store_end q store

  pub resolve_bound : (w : Want) (cid : CidParts) (tasks : List (Task CidParts)) → length q.path ≤ 128 → IsResolved q store (open_block w cid ∷ tasks) → depth_of w ≤ 1025
  resolve_bound w cid tasks few h = within_bound (length q.path) w few h.within

  pub resolve_starts : IsResolved q store (start q q.root)
  resolve_starts = record {
    way = subst (λ (depth : ℕ). IsPathEnd (open_block (path_want 0 q.path 1) (shown_at store depth q.root) ∷ []) end_is) (sym (depth_at_top 0 q.path 1)) (path_starts q (store_view store q.root));
    within = within_top (length q.path) 0 1 q.path (omega arith) (omega arith);
  }

  -- at the place is what is found for its CID
  there : (w : Want) (cid : CidParts) (found : Option (List ℕ)) (tasks : List (Task CidParts)) → length q.path ≤ 128 → block_at store cid ≡ found → IsResolved q store (open_block w cid ∷ tasks)
      → shown_at store (depth_of w) cid ≡ with_block (shown_at store (depth_of w + 1)) cid found
  there w cid found tasks few e h =
      let deep : depth_of w ≤ 1025 = resolve_bound w cid tasks few h in
      full_view store (depth_of w) cid (omega (arith, deep)) ∙ ap (with_block (shown_at store (depth_of w + 1)) cid) e

  leads : (w : Want) (cid : CidParts) (x : Dag) (tasks : List (Task CidParts)) → IsResolved q store (open_block w cid ∷ tasks) → shown_at store (depth_of w) cid ≡ x → LeadsToEnd w x end_is
  leads w cid x tasks h e = subst (λ (x : Dag). LeadsToEnd w x end_is) e h.way.0

  pub resolve_gone : (w : Want) (cid : CidParts) (tasks : List (Task CidParts)) → length q.path ≤ 128 → block_at store cid ≡ None → IsResolved q store (open_block w cid ∷ tasks)
      → store_end q store ≡ not_reached (gone (spot_of w cid))
  resolve_gone (segment_want i position name path depth) cid tasks few e h =
      leads (segment_want i position name path depth) cid (unopened cid) tasks h (there (segment_want i position name path depth) cid None tasks few e h)
  resolve_gone (terminal_want depth) cid tasks few e h = leads (terminal_want depth) cid (unopened cid) tasks h (there (terminal_want depth) cid None tasks few e h)
  resolve_gone (node_want reach position depth) cid tasks few e h = absurd h.way.0

  terminal_is : (depth : ℕ) (x : Dag) (section : Section) → IsOpened x section → (walk_from 0 top depth [] x).end ≡ terminal x
  terminal_is depth (unopened cid) section h = absurd h
  terminal_is depth (bare other fault) section h = refl
  terminal_is depth (node other kind children) section h = refl

  is_opened : (below : CidParts → Dag) (section : Section) (kind : Result Kind BlockFault) → IsOpened (read_as below section kind) section
  is_opened below section (Ok kind) = refl
  is_opened below section (Err fault) = refl

  pub resolve_ends : (depth : ℕ) (cid : CidParts) (block : List ℕ) (tasks : List (Task CidParts)) → length q.path ≤ 128 → block_at store cid ≡ Some block
      → IsResolved q store (open_block (terminal_want depth) cid ∷ tasks)
      → (store_end q store ≡ terminal (shown_at store depth cid)) × IsOpened (shown_at store depth cid) (section_of cid block)
  resolve_ends depth cid block tasks few e h =
      let opened : IsOpened (shown_at store depth cid) (section_of cid block) =
      subst (λ (x : Dag). IsOpened x (section_of cid block)) (sym (there (terminal_want depth) cid (Some block) tasks few e h))
      (is_opened (shown_at store (depth + 1)) (section_of cid block) (read cid block)) in
      (h.way.0 ∙ terminal_is depth (shown_at store depth cid) (section_of cid block) opened, opened)

  module _ (i : ℕ) (position : Position) (name : List ℕ) (path : List (List ℕ)) (depth : ℕ) (cid : CidParts) (block : List ℕ) (tasks : List (Task CidParts)) (few : length q.path ≤ 128)
      (stored : block_at store cid ≡ Some block) (h : IsResolved q store (open_block (segment_want i position name path depth) cid ∷ tasks)) where
    abbrev at : Want
    at = segment_want i position name path depth

    read_there : (kind : Result Kind BlockFault) → read cid block ≡ kind → LeadsToEnd at (read_as (shown_at store (depth + 1)) (section_of cid block) kind) end_is
    read_there kind r = leads at cid (read_as (shown_at store (depth + 1)) (section_of cid block) kind) tasks h
        (there at cid (Some block) tasks few stored h ∙ ap (read_as (shown_at store (depth + 1)) (section_of cid block)) r)

    pub resolve_opens : IsFaultlessShard → (kind : Kind) → read cid block ≡ Ok kind → position_fault position kind ≡ None
        → IsResolved q store (tasks_of q (segment_want i position name path depth) (section_of cid block) kind (links_of kind))
    resolve_opens shards kind r fits =
        let below : CidParts → Dag = shown_at store (depth + 1) in
        let section : Section = section_of cid block in
        record {
          way = subst (λ (all : List (Task Dag)). IsPathEnd all end_is)
              (sym (map_tasks CidParts Dag (shown_at store) q at section kind (links_of kind) ∙ ap (tasks_of q at section kind) (shown_children below (links_of kind))))
              (path_opens q end_is i position name path depth section kind (children_by below (links_of kind)) fits (read_there (Ok kind) r));
          within = within_step (length q.path) i position name path depth (step_of kind (length (passed position)) name) (links_of kind) h.within (few_passed shards position kind fits);
        }

    pub resolve_unreadable : (fault : BlockFault) → read cid block ≡ Err fault → store_end q store ≡ not_reached (bad_block (spot_at cid depth position) fault)
    resolve_unreadable fault r = read_there (Err fault) r

    pub resolve_misfit : (kind : Kind) (fault : BlockFault) → read cid block ≡ Ok kind → position_fault position kind ≡ Some fault
        → store_end q store ≡ not_reached (bad_block (spot_at cid depth position) fault)
    resolve_misfit kind fault r misfit =
        path_misfit end_is i position name path depth (section_of cid block) kind (children_by (shown_at store (depth + 1)) (links_of kind)) fault misfit (read_there (Ok kind) r)

  pub resolve_misses : (miss : Miss) (tasks : List (Task CidParts)) → IsResolved q store (stop_at miss ∷ tasks) → store_end q store ≡ not_reached (stop_of miss)
  resolve_misses miss tasks h = h.way.0
