-- Tasks of which what stands at the places is changed by the depth.
use Rattle.std.proofs.Common.{◌≡◌, ℕ, ◌+◌, suc, zero, Option, Some, None, List, [], ◌∷◌, ◌++◌, length, map, refl, ap, ap₂, ◌∙◌}
use Rattle.tg_cid.specs.Cid.{CidParts}
use Rattle.tg_model.specs.Dag.{Children, Dag, Section, no_child, root_cid, root_cids, with_child}
use Rattle.tg_model.specs.PathWalk.{StepTo, absent, not_folder_here, step_of, to_child, to_entry}
use Rattle.tg_model.specs.Queries.{QueryParts, SpanParts}
use Rattle.tg_model.specs.Sound.{Position, passed, top}
use Rattle.tg_model.specs.StoreView.{children_by}
use Rattle.tg_model.specs.Traversal.{ListedEntry, Reach, Visit, all_reach, entity_reach, text_behind, visits}
use Rattle.tg_model.specs.declared.kinds.Kind.{Kind}
use Rattle.tg_model.specs.declared.queries.Scope.{Scope}
use Rattle.tg_model.specs.declared.queries.Scope.TheVariants as scopes
use Rattle.tg_model_laws.specs.Tasks.{Task, Want, child_then, children_tasks, dags_of, depth_of, entries_now, entries_then, give_entries, give_text, link_tasks, mapped, node_tasks, node_want, open_block, path_want, position_below, segment_want, step_tasks, stop_at, tasks_of, tasks_then, terminal_tasks, terminal_want, text_last, text_now, depth_at_top}

abbrev pub by_depth : {X Y : Type 0} → (ℕ → X → Y) → List (Task X) → List (Task Y)
by_depth f tasks = mapped (λ w x. f (depth_of w) x) tasks

module _ (X Y : Type 0) (f : ℕ → X → Y) where
  abbrev changed : List (Task X) → List (Task Y)
  changed tasks = by_depth f tasks

  pub map_both : (xs ys : List (Task X)) → changed (xs ++ ys) ≡ changed xs ++ changed ys
  map_both [] ys = refl
  map_both (open_block w x ∷ xs) ys = ap (λ (tasks : List (Task Y)). open_block w (f (depth_of w) x) ∷ tasks) (map_both xs ys)
  map_both (give_text text ∷ xs) ys = ap (λ (tasks : List (Task Y)). give_text text ∷ tasks) (map_both xs ys)
  map_both (give_entries met ∷ xs) ys = ap (λ (tasks : List (Task Y)). give_entries met ∷ tasks) (map_both xs ys)
  map_both (stop_at miss ∷ xs) ys = ap (λ (tasks : List (Task Y)). stop_at miss ∷ tasks) (map_both xs ys)

  -- what comes before the next place, and the tasks from there on
  pub map_then : (tasks : List (Task X)) → changed (tasks_then tasks) ≡ tasks_then (changed tasks)
  map_then [] = refl
  map_then (open_block w x ∷ tasks) = refl
  map_then (give_text text ∷ tasks) = map_then tasks
  map_then (give_entries met ∷ tasks) = map_then tasks
  map_then (stop_at miss ∷ tasks) = refl

  pub map_text : (tasks : List (Task X)) → text_now (changed tasks) ≡ text_now tasks
  map_text [] = refl
  map_text (open_block w x ∷ tasks) = refl
  map_text (give_text text ∷ tasks) = ap (λ (more : List ℕ). text ++ more) (map_text tasks)
  map_text (give_entries met ∷ tasks) = map_text tasks
  map_text (stop_at miss ∷ tasks) = refl

  pub map_entries : (tasks : List (Task X)) → entries_now (changed tasks) ≡ entries_now tasks
  map_entries [] = refl
  map_entries (open_block w x ∷ tasks) = refl
  map_entries (give_text text ∷ tasks) = map_entries tasks
  map_entries (give_entries met ∷ tasks) = ap (λ (more : List ListedEntry). met ++ more) (map_entries tasks)
  map_entries (stop_at miss ∷ tasks) = refl

  -- ---- the tasks that a block leaves

  map_child : (into : Option (Reach × Position)) (depth : ℕ) (x : X) (tasks : List (Task X)) (others : List (Task Y)) → changed tasks ≡ others
      → changed (child_then into depth x tasks) ≡ child_then into depth (f depth x) others
  map_child None depth x tasks others e = e
  map_child (Some into) depth x tasks others e = ap (λ (tasks : List (Task Y)). open_block (node_want into.0 into.1 depth) (f depth x) ∷ tasks) e

  map_met : (met : List ListedEntry) (tasks : List (Task X)) → changed (entries_then met tasks) ≡ entries_then met (changed tasks)
  map_met [] tasks = refl
  map_met (m ∷ met) tasks = refl

  map_last : (text : List ℕ) → changed (text_last text) ≡ text_last text
  map_last [] = refl
  map_last (b ∷ text) = refl

  map_children : (todo : List Visit) (depth : ℕ) (xs : List X) → changed (children_tasks todo depth xs) ≡ children_tasks todo depth (map (f depth) xs)
  map_children todo depth [] = refl
  map_children [] depth (x ∷ xs) = refl
  map_children (visit ∷ todo) depth (x ∷ xs) =
      map_met visit.met (child_then visit.into depth x (children_tasks todo depth xs))
      ∙ ap (entries_then visit.met) (map_child visit.into depth x (children_tasks todo depth xs) (children_tasks todo depth (map (f depth) xs)) (map_children todo depth xs))

  map_node : (reach : Reach) (position : Position) (depth : ℕ) (kind : Kind) (xs : List X)
      → changed (node_tasks reach position depth kind xs) ≡ node_tasks reach position depth kind (map (f (depth + 1)) xs)
  map_node reach position depth kind xs =
      map_both (children_tasks (visits reach position kind) (depth + 1) xs) (text_last (text_behind reach kind))
      ∙ ap₂ (λ (xs ys : List (Task Y)). xs ++ ys) (map_children (visits reach position kind) (depth + 1) xs) (map_last (text_behind reach kind))

  map_link : (k i depth : ℕ) (w : Want) (xs : List X) → depth_of w ≡ depth → changed (link_tasks k i w xs) ≡ link_tasks k i w (map (f depth) xs)
  map_link k i depth w [] e = refl
  map_link zero i depth w (x ∷ xs) e = ap (λ (n : ℕ). open_block w (f n x) ∷ []) e
  map_link (suc k) i depth w (x ∷ xs) e = map_link k i depth w xs e

  map_step : (i depth : ℕ) (entry inner : Want) (step : StepTo) (xs : List X) → depth_of entry ≡ depth → depth_of inner ≡ depth
      → changed (step_tasks i entry inner step xs) ≡ step_tasks i entry inner step (map (f depth) xs)
  map_step i depth entry inner (to_entry k) xs e g = map_link k (i + 1) depth entry xs e
  map_step i depth entry inner (to_child k) xs e g = map_link k i depth inner xs g
  map_step i depth entry inner absent xs e g = refl
  map_step i depth entry inner not_folder_here xs e g = refl

  map_terminal : (scope : Scope) (span : Option SpanParts) (depth : ℕ) (section : Section) (kind : Kind) (xs : List X)
      → changed (terminal_tasks scope span depth section kind xs) ≡ terminal_tasks scope span depth section kind (map (f (depth + 1)) xs)
  map_terminal scopes.Block span depth section kind xs = refl
  map_terminal scopes.Entity span depth section kind xs = map_node (entity_reach span section kind) top depth kind xs
  map_terminal scopes.All span depth section kind xs = map_node (all_reach kind) top depth kind xs

  pub map_tasks : (q : QueryParts) (w : Want) (section : Section) (kind : Kind) (xs : List X)
      → changed (tasks_of q w section kind xs) ≡ tasks_of q w section kind (map (f (depth_of w + 1)) xs)
  map_tasks q (segment_want i position name path depth) section kind xs =
      map_step i (depth + 1) (path_want (i + 1) path (depth + 1)) (segment_want i (position_below position name) name path (depth + 1))
      (step_of kind (length (passed position)) name) xs (depth_at_top (i + 1) path (depth + 1)) refl
  map_tasks q (terminal_want depth) section kind xs = map_terminal q.scope q.span depth section kind xs
  map_tasks q (node_want reach position depth) section kind xs = map_node reach position depth kind xs

-- the children of these CIDs, and the CIDs of children
pub shown_children : (shown : CidParts → Dag) (cids : List CidParts) → map shown cids ≡ dags_of (children_by shown cids)
shown_children shown [] = refl
shown_children shown (cid ∷ cids) = ap (λ (ds : List Dag). shown cid ∷ ds) (shown_children shown cids)

pub children_roots : (children : Children) → map root_cid (dags_of children) ≡ root_cids children
children_roots no_child = refl
children_roots (with_child d children) = ap (λ (cids : List CidParts). root_cid d ∷ cids) (children_roots children)
