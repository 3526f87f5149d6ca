-- A block taken at its place: what is opened before and after.
use Rattle.std.proofs.Common.{◌≡◌, ℕ, ◌+◌, true, false, Option, Some, None, List, [], ◌∷◌, ◌++◌, inl, inr, map, refl, sym, ap, ap₂, ◌∙◌, append_assoc, append-nil, subst}
use Rattle.std.proofs.lemmas.List.{map-append}
use Rattle.std.specs.Prelude.{not}
use Rattle.tg_cid.specs.Cid.{CidParts}
use Rattle.tg_cid.specs.Names.{Names}
use Rattle.tg_model_laws.specs.Standing.{StepsLead, VisitsStand}
use Rattle.tg_model.specs.Dag.{Children, Dag, Section, bare, blocks, blocks_of_children, links_of, node, root_cid, unopened}
use Rattle.tg_model.specs.Fits.{HasOneBlockEach, IfOnce, IsAloneAt, is_block}
use Rattle.tg_model.specs.PathWalk.{PathEnd, Stop, gone, not_reached, path_walk, spot_at, terminal}
use Rattle.tg_model.specs.Queries.{QueryParts, SpanParts}
use Rattle.tg_model.specs.Sound.{IsCheckedAt, Position, position_fault, positions, top}
use Rattle.tg_model.specs.Traversal.{ListedEntry, Place, Reach, Traversal, Visit, all_reach, entity_reach, text_behind, traversal, visits}
use Rattle.tg_model.specs.declared.fault.BlockFault.{BlockFault}
use Rattle.tg_model.specs.declared.kinds.Kind.{Kind}
use Rattle.tg_model.specs.declared.queries.Scope.{Scope}
use Rattle.tg_model.specs.declared.queries.Scope.TheVariants as scopes
use Rattle.tg_model_laws.proofs.FilledChildren.{Filled, filled, position_at_top}
use Rattle.tg_model_laws.proofs.PathSteps.{path_opens, path_starts}
use Rattle.tg_model_laws.proofs.Rooted.{at_block, at_stop, below_both, blocks_both, each_first, each_later, entries_below, last_below, no_task, split, unopened_at, unopened_blocks, unopened_right, unopened_roots}
use Rattle.tg_model_laws.proofs.TaskMaps.{map_entries, map_text}
use Rattle.tg_model_laws.specs.TakenBlocks.{AreBelow, EachPlace, IsReadAt, IsRightAt, IsWay, Opening, OpensWith, Shows, blocks_at, end_now, opened_by, root_cids_at}
use Rattle.tg_model_laws.specs.PathStages.{IsPathEnd, LeadsToEnd}
use Rattle.tg_model_laws.specs.Stages.{Given, IsStage, StageLaws, ending, nothing_given, place_of, up_to_next, with_place}
use Rattle.tg_model_laws.specs.Tasks.{Task, Want, child_then, children_tasks, dags_of, entries_now, fault_at, give_entries, give_text, is_read_at, node_tasks, node_want, open_block, path_want, position_of, segment_want, start, stop_at, stop_of, tasks_of, tasks_then, terminal_fault, terminal_tasks, terminal_want, text_at, text_last, text_now}

-- what may stand there has no fault there
terminal_no_fault : (scope : Scope) (kind : Kind) → position_fault top kind ≡ None → terminal_fault scope kind ≡ None
terminal_no_fault scopes.Block kind e = refl
terminal_no_fault scopes.Entity kind e = e
terminal_no_fault scopes.All kind e = e

pub no_fault : (q : QueryParts) (w : Want) (kind : Kind) → position_fault (position_of w) kind ≡ None → fault_at q w kind ≡ None
no_fault q (segment_want i position name path depth) kind e = e
no_fault q (terminal_want depth) kind e = terminal_no_fault q.scope kind e
no_fault q (node_want reach position depth) kind e = e

-- one more place
pub opened_more : (given : Given) (w : Want) (section : Section) (text : List ℕ) → opened_by (with_place w section text given) ≡ opened_by given ++ section ∷ []
opened_more given w section text = map-append (λ (p : Place). p.section) given.places (place_of w section ∷ [])

-- ---- the way

child_below : (into : Option (Reach × Position)) (depth : ℕ) (d : Dag) (xs : List (Task Dag)) → AreBelow xs → AreBelow (child_then into depth d xs)
child_below None depth d xs h = h
child_below (Some into) depth d xs h = h

children_below : (todo : List Visit) (depth : ℕ) (ds : List Dag) → AreBelow (children_tasks todo depth ds)
children_below todo depth [] = tt
children_below [] depth (d ∷ ds) = tt
children_below (visit ∷ todo) depth (d ∷ ds) =
    entries_below visit.met (child_then visit.into depth d (children_tasks todo depth ds)) (child_below visit.into depth d (children_tasks todo depth ds) (children_below todo depth ds))

node_below : (reach : Reach) (position : Position) (depth : ℕ) (kind : Kind) (ds : List Dag) → AreBelow (node_tasks reach position depth kind ds)
node_below reach position depth kind ds =
    below_both (children_tasks (visits reach position kind) (depth + 1) ds) (text_last (text_behind reach kind)) (children_below (visits reach position kind) (depth + 1) ds) (last_below (text_behind reach kind))

terminal_below : (scope : Scope) (span : Option SpanParts) (depth : ℕ) (section : Section) (kind : Kind) (ds : List Dag) → AreBelow (terminal_tasks scope span depth section kind ds)
terminal_below scopes.Block span depth section kind ds = tt
terminal_below scopes.Entity span depth section kind ds = node_below (entity_reach span section kind) top depth kind ds
terminal_below scopes.All span depth section kind ds = node_below (all_reach kind) top depth kind ds

-- where a terminal is read it needn't be told alone
read_alone : (scope : Scope) (end : PathEnd) → not (is_block scope) ≡ true → IsAloneAt scope end
read_alone scopes.Block end e = absurd (cc e)
read_alone scopes.Entity end e = tt
read_alone scopes.All end e = tt

stopped_alone : (scope : Scope) (stop : Stop) → IsAloneAt scope (not_reached stop)
stopped_alone scopes.Block stop = tt
stopped_alone scopes.Entity stop = tt
stopped_alone scopes.All stop = tt

bare_alone : (scope : Scope) (section : Section) (fault : Option BlockFault) → IsAloneAt scope (terminal (bare section fault))
bare_alone scopes.Block section fault = tt
bare_alone scopes.Entity section fault = tt
bare_alone scopes.All section fault = tt

-- behind a path nothing is left
way_alone_left : (q : QueryParts) (xs others : List (Task Dag)) (end : PathEnd) → others ≡ [] → IsPathEnd xs end → IsWay q (xs ++ others) end
way_alone_left q xs others end e h = inl (subst (λ (all : List (Task Dag)). IsPathEnd all end) (sym (append-nil xs) ∙ ap (λ (others : List (Task Dag)). xs ++ others) (sym e)) h)

none_below : (others : List (Task Dag)) → others ≡ [] → AreBelow others
none_below others e = subst (λ (xs : List (Task Dag)). AreBelow xs) (sym e) tt

way_on : (q : QueryParts) (w : Want) (section : Section) (kind : Kind) (children : Children) (others : List (Task Dag)) (end : PathEnd) → is_read_at q w ≡ true
    → position_fault (position_of w) kind ≡ None → IsWay q (open_block w (node section kind children) ∷ others) end → IsWay q (tasks_of q w section kind (dags_of children) ++ others) end
way_on q (segment_want i position name path depth) section kind children others end reads e (inl h) =
    way_alone_left q (tasks_of q (segment_want i position name path depth) section kind (dags_of children)) others end h.1 (path_opens q end i position name path depth section kind children e h.0)
way_on q (segment_want i position name path depth) section kind children others end reads e (inr h) = absurd h.1
way_on q (terminal_want depth) section kind children others end reads e (inl h) =
    inr (read_alone q.scope end reads, below_both (terminal_tasks q.scope q.span depth section kind (dags_of children)) others (terminal_below q.scope q.span depth section kind (dags_of children)) (none_below others h.1))
way_on q (terminal_want depth) section kind children others end reads e (inr h) = absurd h.1
way_on q (node_want reach position depth) section kind children others end reads e (inl h) = absurd h.0
way_on q (node_want reach position depth) section kind children others end reads e (inr h) =
    inr (h.0, below_both (node_tasks reach position depth kind (dags_of children)) others (node_below reach position depth kind (dags_of children)) h.1)

way_on_alone : (q : QueryParts) (w : Want) (section : Section) (nodes : List (Task Dag)) (end : PathEnd) → is_read_at q w ≡ false
    → IsWay q (open_block w (bare section None) ∷ nodes) end → IsWay q nodes end
way_on_alone q (segment_want i position name path depth) section nodes end e h = absurd (cc e)
way_on_alone q (terminal_want depth) section nodes end e (inl h) =
    inr (subst (λ (end : PathEnd). IsAloneAt q.scope end) (sym h.0) (bare_alone q.scope section None), none_below nodes h.1)
way_on_alone q (terminal_want depth) section nodes end e (inr h) = absurd h.1
way_on_alone q (node_want reach position depth) section nodes end e h = absurd (cc e)

-- ---- the start

module _ (laws : StageLaws) where
  pub opening_starts : (q : QueryParts) → Opening q nothing_given (start q q.root)
  opening_starts q nodes e =
      let w : Want = path_want 0 q.path 1 in
      let (d, rest, is, root, later) = at_block w q.root [] nodes e in
      let alone : nodes ≡ start q d = is ∙ ap (λ (rest : List (Task Dag)). open_block w d ∷ rest) (no_task rest later) in
      record {
        s = d;
        stage = subst (λ (nodes : List (Task Dag)). IsStage q d nothing_given nodes) (sym alone) (laws.start q d);
        opened = sym (append-nil (blocks d)) ∙ ap blocks_at (sym alone);
        root = root;
        right = λ r. subst (λ (p : Position). IsCheckedAt p d) (position_at_top 0 q.path 1) (subst (EachPlace IsRightAt) alone r).0;
        way = subst (λ (nodes : List (Task Dag)). IsWay q nodes (path_walk q.path d).end) (sym alone) (inl (path_starts q d));
      }

  -- ---- a block is taken

  module _ (stand : VisitsStand) (lead : StepsLead) where
    pub opening_opens : (q : QueryParts) (given : Given) (w : Want) (section : Section) (kind : Kind) (tasks : List (Task CidParts)) → is_read_at q w ≡ true → IsReadAt (position_of w) section kind
        → Opening q given (open_block w section.cid ∷ tasks) → Opening q (with_place w section (text_at q w section kind) given) (tasks_of q w section kind (links_of kind) ++ tasks)
    opening_opens q given w section kind tasks reads here o nodes e =
        let (new, others, both, fit, left) = split (tasks_of q w section kind (links_of kind)) tasks nodes e in
        let f : Filled (tasks_of q w section kind) (links_of kind) (positions (position_of w) kind) new = filled stand lead q w section kind new reads fit in
        let before : OpensWith q given (open_block w (node section kind f.children) ∷ others) =
        o (open_block w (node section kind f.children) ∷ others) (ap (λ (tasks : List (Task CidParts)). open_block w section.cid ∷ tasks) left) in
        let now : Given = with_place w section (text_at q w section kind) given in
        let all : tasks_of q w section kind (dags_of f.children) ++ others ≡ nodes = ap (λ (xs : List (Task Dag)). xs ++ others) f.tasks_are ∙ sym both in
        let opened_below : blocks_of_children f.children ++ blocks_at others ≡ blocks_at nodes =
        ap (λ (sections : List Section). sections ++ blocks_at others) f.opens ∙ sym (blocks_both new others) ∙ ap blocks_at (sym both) in
        record {
          s = before.s;
          stage = subst (λ (nodes : List (Task Dag)). IsStage q before.s now nodes) all
              (laws.opened q before.s given w section kind f.children others (no_fault q w kind here.stands) before.stage);
          opened = before.opened
              ∙ ap (λ (sections : List Section). opened_by given ++ section ∷ sections) opened_below
              ∙ sym (append_assoc (opened_by given) (section ∷ []) (blocks_at nodes))
              ∙ ap (λ (sections : List Section). sections ++ blocks_at nodes) (sym (opened_more given w section (text_at q w section kind)));
          root = before.root;
          right = λ r.
              let each = subst (EachPlace IsRightAt) both r in
              before.right (
                (
                  record { named = here.named; reads = here.reads; links = f.roots; stands = here.stands; of_size = here.of_size; tells_size = here.tells_size },
                  f.right (each_first IsRightAt new others each),
                ),
                each_later IsRightAt new others each,
              );
          way = subst (λ (nodes : List (Task Dag)). IsWay q nodes (path_walk q.path before.s).end) all
              (way_on q w section kind f.children others (path_walk q.path before.s).end reads here.stands before.way);
        }

  pub opening_alone : (q : QueryParts) (given : Given) (w : Want) (section : Section) (tasks : List (Task CidParts)) → is_read_at q w ≡ false → Names section.cid section.block
      → Opening q given (open_block w section.cid ∷ tasks) → Opening q (with_place w section section.block given) tasks
  opening_alone q given w section tasks unread named o nodes e =
      let d : Dag = bare section None in
      let before : OpensWith q given (open_block w d ∷ nodes) = o (open_block w d ∷ nodes) (ap (λ (tasks : List (Task CidParts)). open_block w section.cid ∷ tasks) e) in
      record {
        s = before.s;
        stage = laws.alone q before.s given w d section nodes unread refl before.stage;
        opened = before.opened ∙ sym (append_assoc (opened_by given) (section ∷ []) (blocks_at nodes))
            ∙ ap (λ (sections : List Section). sections ++ blocks_at nodes) (sym (opened_more given w section section.block));
        root = before.root;
        right = λ r. before.right (named, r);
        way = way_on_alone q w section nodes (path_walk q.path before.s).end unread before.way;
      }

  -- ---- what is given before the next place

  -- put back before the nodes
  abbrev with_back : List (Task CidParts) → List (Task Dag) → List (Task Dag)
  with_back [] nodes = nodes
  with_back (open_block w cid ∷ tasks) nodes = nodes
  with_back (give_text text ∷ tasks) nodes = give_text text ∷ with_back tasks nodes
  with_back (give_entries met ∷ tasks) nodes = give_entries met ∷ with_back tasks nodes
  with_back (stop_at miss ∷ tasks) nodes = nodes

  back_roots : (tasks : List (Task CidParts)) (nodes : List (Task Dag)) → root_cids_at nodes ≡ tasks_then tasks → root_cids_at (with_back tasks nodes) ≡ tasks
  back_roots [] nodes e = e
  back_roots (open_block w cid ∷ tasks) nodes e = e
  back_roots (give_text text ∷ tasks) nodes e = ap (λ (tasks : List (Task CidParts)). give_text text ∷ tasks) (back_roots tasks nodes e)
  back_roots (give_entries met ∷ tasks) nodes e = ap (λ (tasks : List (Task CidParts)). give_entries met ∷ tasks) (back_roots tasks nodes e)
  back_roots (stop_at miss ∷ tasks) nodes e = e

  back_then : (tasks : List (Task CidParts)) (nodes : List (Task Dag)) → root_cids_at nodes ≡ tasks_then tasks → tasks_then (with_back tasks nodes) ≡ nodes
  back_then [] nodes e = let none : nodes ≡ [] = no_task nodes e in ap tasks_then none ∙ sym none
  back_then (open_block w cid ∷ tasks) nodes e = let (d, rest, is, root, later) = at_block w cid tasks nodes e in ap tasks_then is ∙ sym is
  back_then (give_text text ∷ tasks) nodes e = back_then tasks nodes e
  back_then (give_entries met ∷ tasks) nodes e = back_then tasks nodes e
  back_then (stop_at miss ∷ tasks) nodes e = let (rest, is, later) = at_stop miss tasks nodes e in ap tasks_then is ∙ sym is

  back_blocks : (tasks : List (Task CidParts)) (nodes : List (Task Dag)) → blocks_at (with_back tasks nodes) ≡ blocks_at nodes
  back_blocks [] nodes = refl
  back_blocks (open_block w cid ∷ tasks) nodes = refl
  back_blocks (give_text text ∷ tasks) nodes = back_blocks tasks nodes
  back_blocks (give_entries met ∷ tasks) nodes = back_blocks tasks nodes
  back_blocks (stop_at miss ∷ tasks) nodes = refl

  back_each : (tasks : List (Task CidParts)) (nodes : List (Task Dag)) → EachPlace IsRightAt nodes → EachPlace IsRightAt (with_back tasks nodes)
  back_each [] nodes h = h
  back_each (open_block w cid ∷ tasks) nodes h = h
  back_each (give_text text ∷ tasks) nodes h = back_each tasks nodes h
  back_each (give_entries met ∷ tasks) nodes h = back_each tasks nodes h
  back_each (stop_at miss ∷ tasks) nodes h = h

  back_below : (tasks : List (Task CidParts)) (nodes : List (Task Dag)) → AreBelow (with_back tasks nodes) → AreBelow nodes
  back_below [] nodes h = h
  back_below (open_block w cid ∷ tasks) nodes h = h
  back_below (give_text text ∷ tasks) nodes h = back_below tasks nodes h
  back_below (give_entries met ∷ tasks) nodes h = back_below tasks nodes h
  back_below (stop_at miss ∷ tasks) nodes h = h

  back_path : (tasks : List (Task CidParts)) (nodes : List (Task Dag)) (end : PathEnd) → IsPathEnd (with_back tasks nodes) end → IsPathEnd nodes end
  back_path [] nodes end h = h
  back_path (open_block w cid ∷ tasks) nodes end h = h
  back_path (give_text text ∷ tasks) nodes end h = absurd h
  back_path (give_entries met ∷ tasks) nodes end h = absurd h
  back_path (stop_at miss ∷ tasks) nodes end h = h

  back_way : (q : QueryParts) (tasks : List (Task CidParts)) (nodes : List (Task Dag)) (end : PathEnd) → IsWay q (with_back tasks nodes) end → IsWay q nodes end
  back_way q tasks nodes end (inl h) = inl (back_path tasks nodes end h)
  back_way q tasks nodes end (inr h) = inr (h.0, back_below tasks nodes h.1)

  pub opening_gives : (q : QueryParts) (given : Given) (tasks : List (Task CidParts)) → Opening q given tasks → Opening q (up_to_next tasks given) (tasks_then tasks)
  opening_gives q given tasks o nodes e =
      let all : List (Task Dag) = with_back tasks nodes in
      let roots : root_cids_at all ≡ tasks = back_roots tasks nodes e in
      let before : OpensWith q given all = o all roots in
      record {
        s = before.s;
        stage = subst (λ (nodes : List (Task Dag)). IsStage q before.s (up_to_next tasks given) nodes) (back_then tasks nodes e)
            (subst (λ (now : Given). IsStage q before.s now (tasks_then all))
            (ap₂ (λ (text : List ℕ) (met : List ListedEntry). let now : Given = record { places = given.places; text = given.text ++ text; met = given.met ++ met } in now)
            (sym (map_text Dag CidParts (λ n d. root_cid d) all) ∙ ap text_now roots) (sym (map_entries Dag CidParts (λ n d. root_cid d) all) ∙ ap entries_now roots))
            (laws.up_to_next q before.s given all before.stage));
        opened = before.opened ∙ ap (λ (sections : List Section). opened_by given ++ sections) (back_blocks tasks nodes);
        root = before.root;
        right = λ r. before.right (back_each tasks nodes r);
        way = back_way q tasks nodes (path_walk q.path before.s).end before.way;
      }

  -- ---- what is shown

  unopened_end : (w : Want) (cid : CidParts) (end : PathEnd) → LeadsToEnd w (unopened cid) end → (stop : Stop) × (end ≡ not_reached stop)
  unopened_end (segment_want i position name path depth) cid end h = (gone (spot_at cid depth position), h)
  unopened_end (terminal_want depth) cid end h = (gone (spot_at cid depth top), h)
  unopened_end (node_want reach position depth) cid end h = absurd h

  not_reached_alone : (scope : Scope) (end : PathEnd) (stop : Stop) → end ≡ not_reached stop → IsAloneAt scope end
  not_reached_alone scope end stop e = subst (λ (end : PathEnd). IsAloneAt scope end) (sym e) (stopped_alone scope stop)

  path_alone : (q : QueryParts) (tasks : List (Task CidParts)) (end : PathEnd) → IsPathEnd (unopened_at tasks) end → IsAloneAt q.scope end
  path_alone q [] end h = absurd h
  path_alone q (open_block w cid ∷ tasks) end h = let (stop, is) = unopened_end w cid end h.0 in not_reached_alone q.scope end stop is
  path_alone q (give_text text ∷ tasks) end h = absurd h
  path_alone q (give_entries met ∷ tasks) end h = absurd h
  path_alone q (stop_at miss ∷ tasks) end h = not_reached_alone q.scope end (stop_of miss) h.0

  way_alone : (q : QueryParts) (tasks : List (Task CidParts)) (end : PathEnd) → IsWay q (unopened_at tasks) end → IsAloneAt q.scope end
  way_alone q tasks end (inl h) = path_alone q tasks end h
  way_alone q tasks end (inr h) = h.0

  then_ends : (q : QueryParts) (s : Dag) (given : Given) (tasks : List (Task CidParts)) → IsStage q s given (unopened_at (tasks_then tasks)) → traversal q s ≡ ending given (end_now (tasks_then tasks))
  then_ends q s given [] h = laws.done q s given h
  then_ends q s given (open_block w cid ∷ tasks) h = laws.not_opened q s given w cid (unopened_at tasks) h
  then_ends q s given (give_text text ∷ tasks) h = then_ends q s given tasks h
  then_ends q s given (give_entries met ∷ tasks) h = then_ends q s given tasks h
  then_ends q s given (stop_at miss ∷ tasks) h = laws.miss q s given miss (unopened_at tasks) h

  pub opening_shows : (q : QueryParts) (given : Given) (tasks : List (Task CidParts)) → IfOnce q.dups (HasOneBlockEach (opened_by given)) → Opening q given tasks
      → Shows q (up_to_next tasks given) (tasks_then tasks)
  opening_shows q given tasks one o =
      let left : List (Task CidParts) = tasks_then tasks in
      let now : Given = up_to_next tasks given in
      let w : OpensWith q now (unopened_at left) = opening_gives q given tasks o (unopened_at left) (unopened_roots left) in
      let gives : traversal q w.s ≡ ending now (end_now left) = then_ends q w.s now tasks w.stage in
      let blocks_are : blocks w.s ≡ opened_by given = w.opened ∙ ap (λ (sections : List Section). opened_by given ++ sections) (unopened_blocks left) ∙ append-nil (opened_by given) in
      record {
        s = w.s;
        opened = record {
          root = w.root;
          opened = blocks_are ∙ sym (ap (λ (t : Traversal). map (λ p. p.section) t.places) gives);
          alone = way_alone q left (path_walk q.path w.s).end w.way;
          checked = w.right (unopened_right left);
          one_each = subst (λ (sections : List Section). IfOnce q.dups (HasOneBlockEach sections)) (sym blocks_are) one;
        };
        gives = gives;
      }
