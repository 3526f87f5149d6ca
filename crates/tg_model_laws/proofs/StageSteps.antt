-- One step of a traversal by its tasks.
use Rattle.std.proofs.Common.{◌≡◌, ℕ, ◌+◌, suc, zero, false, true, Option, Some, None, List, [], ◌∷◌, ◌++◌, length, refl, sym, ap, ap₂, ◌∙◌, append-nil, zero-add}
use Rattle.std.specs.Prelude.{not}
use Rattle.tg_cid.specs.Cid.{CidParts}
use Rattle.tg_model_laws.specs.Steps.{BeginsAtRoot, EndsAtTerminal, GoesBelow, IsAssociative, NothingBehind, StepsOn, StopsBelow, StopsOnPath, after_step, from_child, from_node}
use Rattle.tg_model.specs.Dag.{Children, Dag, Section, bare, no_child, node, unopened, with_child}
use Rattle.tg_model.specs.Fits.{is_block}
use Rattle.tg_model.specs.PathWalk.{StepTo, Stop, absent, bad_block, gone, not_folder_here, spot_at, step_of, stopped, to_child, to_entry, whole}
use Rattle.tg_model.specs.Queries.{QueryParts}
use Rattle.tg_model.specs.Sound.{Position, passed, top}
use Rattle.tg_model.specs.Traversal.{ListedEntry, Place, Reach, Traversal, Visit, all_reach, and_then, at_terminal, ended, entity_reach, giving_entries, giving_place, giving_text, text_behind, traversal, traverse, traverse_children, visited, visits}
use Rattle.tg_model.specs.declared.fault.BlockFault.{BlockFault}
use Rattle.tg_model.specs.declared.kinds.Kind.{Kind}
use Rattle.tg_model.specs.declared.queries.Scope.{Scope}
use Rattle.tg_model.specs.declared.queries.Scope.TheVariants as scopes
use Rattle.tg_model_laws.specs.Stages.{Given, IsOpened, IsStage, ending, nothing_given, place_of, task_gives, tasks_give, traverse_from, up_to_next, with_place}
use Rattle.tg_model_laws.specs.Tasks.{Miss, Task, Want, child_then, children_tasks, dags_of, entries_now, entries_then, fault_at, give_entries, give_text, is_read_at, link_tasks, node_tasks, node_want, open_block, path_want, position_below, segment_want, spot_of, start, step_tasks, stop_at, stop_of, tasks_of, tasks_then, terminal_fault, terminal_tasks, terminal_text_before, terminal_want, text_at, text_last, text_now}

-- ---- along the path

-- at the terminal
bare_terminal : (scope : Scope) (q : QueryParts) (depth : ℕ) (section : Section) (fault : Option BlockFault) → at_terminal scope q.span (0 + depth) (bare section fault) ≡ at_terminal scope q.span depth (bare section fault)
bare_terminal scope q depth section fault = ap (λ (n : ℕ). at_terminal scope q.span n (bare section fault)) (zero-add depth)

unopened_terminal : (scope : Scope) (q : QueryParts) (depth : ℕ) (cid : CidParts) → at_terminal scope q.span depth (unopened cid) ≡ ended (gone (spot_at cid depth top))
unopened_terminal scopes.Block q depth cid = refl
unopened_terminal scopes.Entity q depth cid = refl
unopened_terminal scopes.All q depth cid = refl

-- ---- tasks behind one another

module _ (behind : NothingBehind) (associative : IsAssociative) where
  pub gives_both : (q : QueryParts) (xs ys : List (Task Dag)) → tasks_give q (xs ++ ys) ≡ and_then (tasks_give q xs) (tasks_give q ys)
  gives_both q [] ys = refl
  gives_both q (x ∷ xs) ys = ap (and_then (task_gives q x)) (gives_both q xs ys) ∙ sym (associative (task_gives q x) (tasks_give q xs) (tasks_give q ys))

  -- ---- below a node

  child_gives : (q : QueryParts) (into : Option (Reach × Position)) (depth : ℕ) (d : Dag) (tasks : List (Task Dag)) (rest : Traversal) → rest ≡ tasks_give q tasks
      → and_then (visited (λ reach position. traverse reach position depth d) into) rest ≡ tasks_give q (child_then into depth d tasks)
  child_gives q None depth d tasks rest e = e
  child_gives q (Some into) depth d tasks rest e = ap (and_then (traverse into.0 into.1 depth d)) e

  entries_give : (q : QueryParts) (met : List ListedEntry) (tasks : List (Task Dag)) → and_then (giving_entries met) (tasks_give q tasks) ≡ tasks_give q (entries_then met tasks)
  entries_give q [] tasks = refl
  entries_give q (m ∷ met) tasks = refl

  text_gives : (q : QueryParts) (text : List ℕ) → tasks_give q (text_last text) ≡ giving_text text
  text_gives q [] = refl
  text_gives q (b ∷ text) = behind (giving_text (b ∷ text))

  children_give : (q : QueryParts) (todo : List Visit) (depth : ℕ) (children : Children) → traverse_children todo depth children ≡ tasks_give q (children_tasks todo depth (dags_of children))
  children_give q todo depth no_child = refl
  children_give q [] depth (with_child d children) = refl
  children_give q (visit ∷ todo) depth (with_child d children) =
      ap (and_then (giving_entries visit.met))
      (child_gives q visit.into depth d (children_tasks todo depth (dags_of children)) (traverse_children todo depth children) (children_give q todo depth children))
      ∙ entries_give q visit.met (child_then visit.into depth d (children_tasks todo depth (dags_of children)))

  node_gives : (q : QueryParts) (reach : Reach) (position : Position) (depth : ℕ) (kind : Kind) (children : Children)
      → and_then (traverse_children (visits reach position kind) (depth + 1) children) (giving_text (text_behind reach kind)) ≡ tasks_give q (node_tasks reach position depth kind (dags_of children))
  node_gives q reach position depth kind children =
      ap₂ and_then (children_give q (visits reach position kind) (depth + 1) children) (sym (text_gives q (text_behind reach kind)))
      ∙ sym (gives_both q (children_tasks (visits reach position kind) (depth + 1) (dags_of children)) (text_last (text_behind reach kind)))

  -- ---- along the path

  module _ (at_end : EndsAtTerminal) where
    path_gives : (q : QueryParts) (i : ℕ) (path : List (List ℕ)) (depth : ℕ) (d : Dag) → from_node q i top depth path d ≡ traverse_from q (path_want i path depth) d
    path_gives q i [] depth (unopened cid) = sym (unopened_terminal q.scope q depth cid)
    path_gives q i [] depth (bare section fault) = bare_terminal q.scope q depth section fault
    path_gives q i [] depth (node section kind children) = at_end q i top depth section kind children
    path_gives q i (name ∷ path) depth d = refl

    link_gives : (q : QueryParts) (k i : ℕ) (position : Position) (path : List (List ℕ)) (depth : ℕ) (w : Want) (children : Children)
        → ((d : Dag) → from_node q i position depth path d ≡ traverse_from q w d)
        → from_child q k i position depth path children ≡ tasks_give q (link_tasks k i w (dags_of children))
    link_gives q k i position path depth w no_child h = refl
    link_gives q zero i position path depth w (with_child d children) h = h d ∙ sym (behind (traverse_from q w d))
    link_gives q (suc k) i position path depth w (with_child d children) h = link_gives q k i position path depth w children h

    step_gives : (q : QueryParts) (i : ℕ) (inner : Position) (name : List ℕ) (path : List (List ℕ)) (depth : ℕ) (step : StepTo) (children : Children)
        → after_step i (λ k. from_child q k (i + 1) top depth path children) (λ k. from_child q k i inner depth (name ∷ path) children) step
        ≡ tasks_give q (step_tasks i (path_want (i + 1) path depth) (segment_want i inner name path depth) step (dags_of children))
    step_gives q i inner name path depth (to_entry k) children =
        link_gives q k (i + 1) top path depth (path_want (i + 1) path depth) children (path_gives q (i + 1) path depth)
    step_gives q i inner name path depth (to_child k) children = link_gives q k i inner (name ∷ path) depth (segment_want i inner name path depth) children (λ d. refl)
    step_gives q i inner name path depth absent children = refl
    step_gives q i inner name path depth not_folder_here children = refl

    -- ---- one node

    module _ (on : StepsOn) (goes : GoesBelow) where
      terminal_gives : (scope : Scope) (q : QueryParts) (depth : ℕ) (section : Section) (kind : Kind) (children : Children) → terminal_fault scope kind ≡ None
          → at_terminal scope q.span depth (node section kind children)
          ≡ and_then (giving_place (record { section = section; depth = depth }) (terminal_text_before scope q.span section kind)) (tasks_give q (terminal_tasks scope q.span depth section kind (dags_of children)))
      terminal_gives scopes.Block q depth section kind children e = sym (behind (giving_place (record { section = section; depth = depth }) section.block))
      terminal_gives scopes.Entity q depth section kind children e =
          goes (entity_reach q.span section kind) top depth section kind children e
          ∙ ap (and_then (giving_place (record { section = section; depth = depth }) (terminal_text_before scopes.Entity q.span section kind))) (node_gives q (entity_reach q.span section kind) top depth kind children)
      terminal_gives scopes.All q depth section kind children e =
          goes (all_reach kind) top depth section kind children e
          ∙ ap (and_then (giving_place (record { section = section; depth = depth }) (terminal_text_before scopes.All q.span section kind))) (node_gives q (all_reach kind) top depth kind children)

      one_gives : (q : QueryParts) (w : Want) (section : Section) (kind : Kind) (children : Children) → fault_at q w kind ≡ None
          → traverse_from q w (node section kind children) ≡ and_then (giving_place (place_of w section) (text_at q w section kind)) (tasks_give q (tasks_of q w section kind (dags_of children)))
      one_gives q (segment_want i position name path depth) section kind children e =
          on q i position depth name path section kind children e
          ∙ ap (and_then (giving_place (record { section = section; depth = depth }) [])) (step_gives q i (position_below position name) name path (depth + 1) (step_of kind (length (passed position)) name) children)
      one_gives q (terminal_want depth) section kind children e = terminal_gives q.scope q depth section kind children e
      one_gives q (node_want reach position depth) section kind children e =
          goes reach position depth section kind children e ∙ ap (and_then (giving_place (record { section = section; depth = depth }) _)) (node_gives q reach position depth kind children)

  -- ---- stages

  -- a place, behind what was given
  given_on : (given : Given) (w : Want) (section : Section) (text : List ℕ) (a b : Traversal)
      → and_then (ending given whole) (and_then (and_then (giving_place (place_of w section) text) a) b) ≡ and_then (ending (with_place w section text given) whole) (and_then a b)
  given_on given w section text a b =
      ap (and_then (ending given whole)) (associative (giving_place (place_of w section) text) a b)
      ∙ sym (associative (ending given whole) (giving_place (place_of w section) text) (and_then a b))
      ∙ ap (λ (met : List ListedEntry). let now : Given = record { places = given.places ++ place_of w section ∷ []; text = given.text ++ text; met = met } in and_then (ending now whole) (and_then a b)) (append-nil given.met)

  -- a stop, behind what was given
  closed : (given : Given) (stop : Stop) (rest : Traversal) → and_then (ending given whole) (and_then (ended stop) rest) ≡ ending given (stopped stop)
  closed given stop rest i = record { places = append-nil given.places i; text = append-nil given.text i; met = append-nil given.met i; end = stopped stop }

  stops : (q : QueryParts) (d : Dag) (given : Given) (task : Task Dag) (tasks : List (Task Dag)) (stop : Stop) → task_gives q task ≡ ended stop → IsStage q d given (task ∷ tasks)
      → traversal q d ≡ ending given (stopped stop)
  stops q d given task tasks stop e h = h ∙ ap (λ (t : Traversal). and_then (ending given whole) (and_then t (tasks_give q tasks))) e ∙ closed given stop (tasks_give q tasks)

  -- what comes before the next place
  first_gives : (q : QueryParts) (tasks : List (Task Dag))
      → tasks_give q tasks ≡ (let first : Given = record { places = []; text = text_now tasks; met = entries_now tasks } in and_then (ending first whole) (tasks_give q (tasks_then tasks)))
  first_gives q [] = refl
  first_gives q (open_block w d ∷ tasks) = refl
  first_gives q (give_text text ∷ tasks) =
      let first : Given = record { places = []; text = text_now tasks; met = entries_now tasks } in
      ap (and_then (giving_text text)) (first_gives q tasks) ∙ sym (associative (giving_text text) (ending first whole) (tasks_give q (tasks_then tasks)))
  first_gives q (give_entries met ∷ tasks) =
      let first : Given = record { places = []; text = text_now tasks; met = entries_now tasks } in
      ap (and_then (giving_entries met)) (first_gives q tasks) ∙ sym (associative (giving_entries met) (ending first whole) (tasks_give q (tasks_then tasks)))
  first_gives q (stop_at miss ∷ tasks) = refl

  pub stage_gives : (q : QueryParts) (d : Dag) (given : Given) (tasks : List (Task Dag)) → IsStage q d given tasks → IsStage q d (up_to_next tasks given) (tasks_then tasks)
  stage_gives q d given tasks h =
      let first : Given = record { places = []; text = text_now tasks; met = entries_now tasks } in
      h ∙ ap (and_then (ending given whole)) (first_gives q tasks)
      ∙ sym (associative (ending given whole) (ending first whole) (tasks_give q (tasks_then tasks)))
      ∙ ap (λ (places : List Place). let now : Given = record { places = places; text = given.text ++ text_now tasks; met = given.met ++ entries_now tasks } in and_then (ending now whole) (tasks_give q (tasks_then tasks)))
      (append-nil given.places)

  -- a place of which nothing is read
  alone_gives : (scope : Scope) (q : QueryParts) (depth : ℕ) (x : Dag) (section : Section) → not (is_block scope) ≡ false → IsOpened x section
      → at_terminal scope q.span depth x ≡ giving_place (record { section = section; depth = depth }) section.block
  alone_gives scopes.Block q depth (unopened cid) section e h = absurd h
  alone_gives scopes.Block q depth (bare other fault) section e h = ap (λ (s : Section). giving_place (record { section = s; depth = depth }) s.block) h
  alone_gives scopes.Block q depth (node other kind children) section e h = ap (λ (s : Section). giving_place (record { section = s; depth = depth }) s.block) h
  alone_gives scopes.Entity q depth x section e h = absurd (cc)
  alone_gives scopes.All q depth x section e h = absurd (cc)

  unread_gives : (q : QueryParts) (w : Want) (x : Dag) (section : Section) → is_read_at q w ≡ false → IsOpened x section
      → traverse_from q w x ≡ giving_place (place_of w section) section.block
  unread_gives q (segment_want i position name path depth) x section e h = absurd (cc)
  unread_gives q (terminal_want depth) x section e h = alone_gives q.scope q depth x section e h
  unread_gives q (node_want reach position depth) x section e h = absurd (cc)

  pub stage_opens_alone : (q : QueryParts) (d : Dag) (given : Given) (w : Want) (x : Dag) (section : Section) (tasks : List (Task Dag)) → is_read_at q w ≡ false → IsOpened x section
      → IsStage q d given (open_block w x ∷ tasks) → IsStage q d (with_place w section section.block given) tasks
  stage_opens_alone q d given w x section tasks e o h =
      h ∙ ap (λ (t : Traversal). and_then (ending given whole) (and_then t (tasks_give q tasks))) (unread_gives q w x section e o ∙ sym (behind (giving_place (place_of w section) section.block)))
      ∙ given_on given w section section.block (giving_text []) (tasks_give q tasks)

  -- ---- the ends

  gone_gives : (q : QueryParts) (w : Want) (cid : CidParts) → traverse_from q w (unopened cid) ≡ ended (gone (spot_of w cid))
  gone_gives q (segment_want i position name path depth) cid = refl
  gone_gives q (terminal_want depth) cid = unopened_terminal q.scope q depth cid
  gone_gives q (node_want reach position depth) cid = refl

  pub stage_gone : (q : QueryParts) (d : Dag) (given : Given) (w : Want) (cid : CidParts) (tasks : List (Task Dag)) → IsStage q d given (open_block w (unopened cid) ∷ tasks)
      → traversal q d ≡ ending given (stopped (gone (spot_of w cid)))
  stage_gone q d given w cid tasks h = stops q d given (open_block w (unopened cid)) tasks (gone (spot_of w cid)) (gone_gives q w cid) h

  terminal_not_read : (scope : Scope) (q : QueryParts) (depth : ℕ) (section : Section) → not (is_block scope) ≡ true
      → at_terminal scope q.span depth (bare section None) ≡ ended (gone (spot_at section.cid depth top))
  terminal_not_read scopes.Block q depth section e = absurd (cc)
  terminal_not_read scopes.Entity q depth section e = refl
  terminal_not_read scopes.All q depth section e = refl

  terminal_unreadable : (scope : Scope) (q : QueryParts) (depth : ℕ) (section : Section) (fault : BlockFault) → not (is_block scope) ≡ true
      → at_terminal scope q.span depth (bare section (Some fault)) ≡ ended (bad_block (spot_at section.cid depth top) fault)
  terminal_unreadable scopes.Block q depth section fault e = absurd (cc)
  terminal_unreadable scopes.Entity q depth section fault e = refl
  terminal_unreadable scopes.All q depth section fault e = refl

  not_read_gives : (q : QueryParts) (w : Want) (section : Section) → is_read_at q w ≡ true → traverse_from q w (bare section None) ≡ ended (gone (spot_of w section.cid))
  not_read_gives q (segment_want i position name path depth) section e = refl
  not_read_gives q (terminal_want depth) section e = terminal_not_read q.scope q depth section e
  not_read_gives q (node_want reach position depth) section e = refl

  pub stage_not_read : (q : QueryParts) (d : Dag) (given : Given) (w : Want) (section : Section) (tasks : List (Task Dag)) → is_read_at q w ≡ true
      → IsStage q d given (open_block w (bare section None) ∷ tasks) → traversal q d ≡ ending given (stopped (gone (spot_of w section.cid)))
  stage_not_read q d given w section tasks e h = stops q d given (open_block w (bare section None)) tasks (gone (spot_of w section.cid)) (not_read_gives q w section e) h

  unreadable_gives : (q : QueryParts) (w : Want) (section : Section) (fault : BlockFault) → is_read_at q w ≡ true
      → traverse_from q w (bare section (Some fault)) ≡ ended (bad_block (spot_of w section.cid) fault)
  unreadable_gives q (segment_want i position name path depth) section fault e = refl
  unreadable_gives q (terminal_want depth) section fault e = terminal_unreadable q.scope q depth section fault e
  unreadable_gives q (node_want reach position depth) section fault e = refl

  pub stage_unreadable : (q : QueryParts) (d : Dag) (given : Given) (w : Want) (section : Section) (fault : BlockFault) (tasks : List (Task Dag)) → is_read_at q w ≡ true
      → IsStage q d given (open_block w (bare section (Some fault)) ∷ tasks) → traversal q d ≡ ending given (stopped (bad_block (spot_of w section.cid) fault))
  stage_unreadable q d given w section fault tasks e h =
      stops q d given (open_block w (bare section (Some fault))) tasks (bad_block (spot_of w section.cid) fault) (unreadable_gives q w section fault e) h

  pub stage_misses : (q : QueryParts) (d : Dag) (given : Given) (miss : Miss) (tasks : List (Task Dag)) → IsStage q d given (stop_at miss ∷ tasks)
      → traversal q d ≡ ending given (stopped (stop_of miss))
  stage_misses q d given miss tasks h = stops q d given (stop_at miss) tasks (stop_of miss) refl h

  pub stage_ends : (q : QueryParts) (d : Dag) (given : Given) → IsStage q d given [] → traversal q d ≡ ending given whole
  stage_ends q d given h = h ∙ behind (ending given whole)

  module _ (misfit_on_path : StopsOnPath) (misfit_below : StopsBelow) where
    terminal_misfit : (scope : Scope) (q : QueryParts) (depth : ℕ) (section : Section) (kind : Kind) (children : Children) (fault : BlockFault) → terminal_fault scope kind ≡ Some fault
        → at_terminal scope q.span depth (node section kind children) ≡ ended (bad_block (spot_at section.cid depth top) fault)
    terminal_misfit scopes.Block q depth section kind children fault e = absurd (cc)
    terminal_misfit scopes.Entity q depth section kind children fault e = misfit_below (entity_reach q.span section kind) top depth section kind children fault e
    terminal_misfit scopes.All q depth section kind children fault e = misfit_below (all_reach kind) top depth section kind children fault e

    misfit_gives : (q : QueryParts) (w : Want) (section : Section) (kind : Kind) (children : Children) (fault : BlockFault) → fault_at q w kind ≡ Some fault
        → traverse_from q w (node section kind children) ≡ ended (bad_block (spot_of w section.cid) fault)
    misfit_gives q (segment_want i position name path depth) section kind children fault e = misfit_on_path q i position depth name path section kind children fault e
    misfit_gives q (terminal_want depth) section kind children fault e = terminal_misfit q.scope q depth section kind children fault e
    misfit_gives q (node_want reach position depth) section kind children fault e = misfit_below reach position depth section kind children fault e

    pub stage_misfit : (q : QueryParts) (d : Dag) (given : Given) (w : Want) (section : Section) (kind : Kind) (children : Children) (fault : BlockFault) (tasks : List (Task Dag))
        → fault_at q w kind ≡ Some fault → IsStage q d given (open_block w (node section kind children) ∷ tasks) → traversal q d ≡ ending given (stopped (bad_block (spot_of w section.cid) fault))
    stage_misfit q d given w section kind children fault tasks e h =
        stops q d given (open_block w (node section kind children)) tasks (bad_block (spot_of w section.cid) fault) (misfit_gives q w section kind children fault e) h

  -- ---- the start, and a node that is opened

  module _ (at_end : EndsAtTerminal) (on : StepsOn) (goes : GoesBelow) where
    pub stage_starts : BeginsAtRoot → (q : QueryParts) (d : Dag) → IsStage q d nothing_given (start q d)
    stage_starts at_root q d = at_root q d ∙ path_gives at_end q 0 q.path 1 d ∙ sym (behind (traverse_from q (path_want 0 q.path 1) d))

    pub stage_opens : (q : QueryParts) (d : Dag) (given : Given) (w : Want) (section : Section) (kind : Kind) (children : Children) (tasks : List (Task Dag))
        → fault_at q w kind ≡ None → IsStage q d given (open_block w (node section kind children) ∷ tasks)
        → IsStage q d (with_place w section (text_at q w section kind) given) (tasks_of q w section kind (dags_of children) ++ tasks)
    stage_opens q d given w section kind children tasks e h =
        let new : List (Task Dag) = tasks_of q w section kind (dags_of children) in
        h ∙ ap (λ (t : Traversal). and_then (ending given whole) (and_then t (tasks_give q tasks))) (one_gives at_end on goes q w section kind children e)
        ∙ given_on given w section (text_at q w section kind) (tasks_give q new) (tasks_give q tasks)
        ∙ ap (and_then (ending (with_place w section (text_at q w section kind) given) whole)) (sym (gives_both q new tasks))
