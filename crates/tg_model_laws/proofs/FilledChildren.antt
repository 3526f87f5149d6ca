-- The children of a node, of whom those that are asked for are at the places that the node's tasks name, and the others unopened.
use Rattle.std.proofs.Common.{◌≡◌, ℕ, ◌+◌, suc, zero, true, Option, Some, None, List, [], ◌∷◌, ◌++◌, length, map, refl, sym, ap, ap₂, ◌∙◌, append-nil, subst}
use Rattle.std.specs.Prelude.{⊤, not}
use Rattle.tg_cid.specs.Cid.{CidParts}
use Rattle.tg_model_laws.specs.Standing.{Each, IsAt, IsLedTo, Stands, StepsLead, VisitsStand}
use Rattle.tg_model.specs.Dag.{Children, Dag, Section, blocks, blocks_of_children, links_of, no_child, root_cids, unopened, with_child}
use Rattle.tg_model.specs.Fits.{is_block}
use Rattle.tg_model.specs.PathWalk.{StepTo, absent, not_folder_here, step_of, to_child, to_entry}
use Rattle.tg_model.specs.Queries.{QueryParts, SpanParts}
use Rattle.tg_model.specs.Sound.{AreCheckedAt, IsCheckedAt, Position, part, passed, positions, slot_position, top}
use Rattle.tg_model.specs.Traversal.{ListedEntry, Reach, Visit, all_reach, entity_reach, text_behind, visits}
use Rattle.tg_model.specs.declared.kinds.Kind.{Kind}
use Rattle.tg_model.specs.declared.kinds.Kind.TheVariants.{Basic, File, Raw, Shard, Symlink}
use Rattle.tg_model.specs.declared.queries.Scope.{Scope}
use Rattle.tg_model.specs.declared.queries.Scope.TheVariants as scopes
use Rattle.tg_model_laws.proofs.Rooted.{at_block, at_stop, blocks_both, blocks_entries, blocks_last, each_entries, each_first, is_last, no_task, split, under_entries}
use Rattle.tg_model_laws.specs.TakenBlocks.{EachPlace, IsRightAt, blocks_at, root_cids_at}
use Rattle.tg_model_laws.specs.Tasks.{Miss, Task, Want, child_then, children_tasks, dags_of, entries_then, is_read_at, link_tasks, no_directory, no_entry, node_tasks, node_want, open_block, path_want, position_below, position_of, segment_want, step_tasks, stop_at, tasks_of, terminal_tasks, terminal_want, text_last}

-- ---- as many positions as links

abbrev pub AreAsMany : List Position → List CidParts → Type 0
AreAsMany [] [] = ⊤
AreAsMany (p ∷ places) (cid ∷ cids) = AreAsMany places cids
AreAsMany [] (cid ∷ cids) = ⊥
AreAsMany (p ∷ places) [] = ⊥

mapped_as_many : {A : Type 0} (position : A → Position) (cid : A → CidParts) (xs : List A) → AreAsMany (map position xs) (map cid xs)
mapped_as_many position cid [] = tt
mapped_as_many position cid (x ∷ xs) = mapped_as_many position cid xs

pub as_many : (position : Position) (kind : Kind) → AreAsMany (positions position kind) (links_of kind)
as_many position Raw = tt
as_many position (File inline filesize parts) = mapped_as_many (λ p. part p.size) (λ p. p.cid) parts
as_many position (Basic entries) = mapped_as_many (λ entry. top) (λ entry. entry.cid) entries
as_many position (Shard slots) = mapped_as_many (slot_position (passed position)) (λ slot. slot.cid) slots
as_many position (Symlink target) = tt

-- ---- children that aren't asked for

abbrev closed : List CidParts → Children
closed [] = no_child
closed (cid ∷ cids) = with_child (unopened cid) (closed cids)

closed_blocks : (cids : List CidParts) → blocks_of_children (closed cids) ≡ []
closed_blocks [] = refl
closed_blocks (cid ∷ cids) = closed_blocks cids

closed_roots : (cids : List CidParts) → root_cids (closed cids) ≡ cids
closed_roots [] = refl
closed_roots (cid ∷ cids) = ap (λ (cids : List CidParts). cid ∷ cids) (closed_roots cids)

closed_right : (places : List Position) (cids : List CidParts) → AreAsMany places cids → AreCheckedAt places (closed cids)
closed_right places [] h = tt
closed_right [] (cid ∷ cids) h = absurd h
closed_right (p ∷ places) (cid ∷ cids) h = (tt, closed_right places cids h)

-- ---- children with these at the places

pub record Filled (tasks : List Dag → List (Task Dag)) (cids : List CidParts) (places : List Position) (new : List (Task Dag)) : Type 0 where
  pub children : Children
  pub tasks_are : tasks (dags_of children) ≡ new
  pub opens : blocks_of_children children ≡ blocks_at new
  pub roots : root_cids children ≡ cids
  pub right : EachPlace IsRightAt new → AreCheckedAt places children

abbrev visit_of : List ListedEntry → Option (Reach × Position) → Visit
visit_of met into = record { met = met; into = into }

-- one link: the child is gone into, or passed over
filled_visit : (met : List ListedEntry) (into : Option (Reach × Position)) (todo : List Visit) (depth : ℕ) (place : Position) (places : List Position) (cid : CidParts) (cids : List CidParts)
    (new rest : List (Task Dag)) → Stands into place → new ≡ entries_then met rest → root_cids_at rest ≡ child_then into depth cid (children_tasks todo depth cids)
    → ((more : List (Task Dag)) → root_cids_at more ≡ children_tasks todo depth cids → Filled (children_tasks todo depth) cids places more)
    → Filled (children_tasks (visit_of met into ∷ todo) depth) (cid ∷ cids) (place ∷ places) new
filled_visit met None todo depth place places cid cids new rest s is later h =
    let f : Filled (children_tasks todo depth) cids places rest = h rest later in
    record {
      children = with_child (unopened cid) f.children;
      tasks_are = ap (entries_then met) f.tasks_are ∙ sym is;
      opens = f.opens ∙ sym (blocks_entries met rest) ∙ ap blocks_at (sym is);
      roots = ap (λ (cids : List CidParts). cid ∷ cids) f.roots;
      right = λ r. (tt, f.right (each_entries IsRightAt met rest (subst (EachPlace IsRightAt) is r)));
    }
filled_visit met (Some into) todo depth place places cid cids new rest s is later h =
    let (d, more, first, root, behind) = at_block (node_want into.0 into.1 depth) cid (children_tasks todo depth cids) rest later in
    let f : Filled (children_tasks todo depth) cids places more = h more behind in
    let w : Want = node_want into.0 into.1 depth in
    let both : new ≡ entries_then met (open_block w d ∷ more) = is ∙ ap (entries_then met) first in
    record {
      children = with_child d f.children;
      tasks_are = ap (λ (tasks : List (Task Dag)). entries_then met (open_block w d ∷ tasks)) f.tasks_are ∙ sym both;
      opens = ap (λ (sections : List Section). blocks d ++ sections) f.opens ∙ sym (blocks_entries met (open_block w d ∷ more)) ∙ ap blocks_at (sym both);
      roots = ap₂ (λ (cid : CidParts) (cids : List CidParts). cid ∷ cids) root f.roots;
      right = λ r.
          let each = each_entries IsRightAt met (open_block w d ∷ more) (subst (EachPlace IsRightAt) both r) in
          (subst (λ (p : Position). IsCheckedAt p d) s each.0, f.right each.1);
    }

filled_children : (todo : List Visit) (depth : ℕ) (places : List Position) (cids : List CidParts) (new : List (Task Dag)) → Each Stands todo places → AreAsMany places cids
    → root_cids_at new ≡ children_tasks todo depth cids → Filled (children_tasks todo depth) cids places new
filled_children todo depth places [] new s m e =
    record { children = no_child; tasks_are = sym (no_task new e); opens = ap blocks_at (sym (no_task new e)); roots = refl; right = λ r. tt }
filled_children [] depth [] (cid ∷ cids) new s m e = absurd m
filled_children [] depth (place ∷ places) (cid ∷ cids) new s m e = absurd s
filled_children (visit ∷ todo) depth [] (cid ∷ cids) new s m e = absurd s
filled_children (visit ∷ todo) depth (place ∷ places) (cid ∷ cids) new s m e =
    let (rest, is, later) = under_entries visit.met (child_then visit.into depth cid (children_tasks todo depth cids)) new e in
    filled_visit visit.met visit.into todo depth place places cid cids new rest s.0 is later (λ more g. filled_children todo depth places cids more s.1 m g)

filled_node : VisitsStand → (reach : Reach) (position : Position) (depth : ℕ) (kind : Kind) (new : List (Task Dag)) → root_cids_at new ≡ node_tasks reach position depth kind (links_of kind)
    → Filled (node_tasks reach position depth kind) (links_of kind) (positions position kind) new
filled_node stand reach position depth kind new e =
    let todo : List Visit = visits reach position kind in
    let text = text_behind reach kind in
    let (some, others, both, fit, left) = split (children_tasks todo (depth + 1) (links_of kind)) (text_last text) new e in
    let last : others ≡ text_last text = is_last text others left in
    let f : Filled (children_tasks todo (depth + 1)) (links_of kind) (positions position kind) some =
    filled_children todo (depth + 1) (positions position kind) (links_of kind) some (stand reach position kind) (as_many position kind) fit in
    record {
      children = f.children;
      tasks_are = ap₂ (λ (xs ys : List (Task Dag)). xs ++ ys) f.tasks_are (sym last) ∙ sym both;
      opens = f.opens ∙ sym (append-nil (blocks_at some)) ∙ ap (λ (sections : List Section). blocks_at some ++ sections) (sym (blocks_last text) ∙ ap blocks_at (sym last))
          ∙ sym (blocks_both some others) ∙ ap blocks_at (sym both);
      roots = f.roots;
      right = λ r. f.right (each_first IsRightAt some others (subst (EachPlace IsRightAt) both r));
    }

-- ---- the child to which a step leads

filled_link : (k i : ℕ) (w : Want) (places : List Position) (cids : List CidParts) (new : List (Task Dag)) → IsAt k (position_of w) places → AreAsMany places cids
    → root_cids_at new ≡ link_tasks k i w cids → Filled (link_tasks k i w) cids places new
filled_link k i w [] cids new at m e = absurd at
filled_link k i w (place ∷ places) [] new at m e = absurd m
filled_link zero i w (place ∷ places) (cid ∷ cids) new at m e =
    let (d, rest, is, root, later) = at_block w cid [] new e in
    let alone : new ≡ open_block w d ∷ [] = is ∙ ap (λ (rest : List (Task Dag)). open_block w d ∷ rest) (no_task rest later) in
    record {
      children = with_child d (closed cids);
      tasks_are = sym alone;
      opens = ap (λ (sections : List Section). blocks d ++ sections) (closed_blocks cids) ∙ ap blocks_at (sym alone);
      roots = ap₂ (λ (cid : CidParts) (cids : List CidParts). cid ∷ cids) root (closed_roots cids);
      right = λ r. (subst (λ (p : Position). IsCheckedAt p d) (sym at) (subst (EachPlace IsRightAt) alone r).0, closed_right places cids m);
    }
filled_link (suc k) i w (place ∷ places) (cid ∷ cids) new at m e =
    let f : Filled (link_tasks k i w) cids places new = filled_link k i w places cids new at m e in
    record {
      children = with_child (unopened cid) f.children;
      tasks_are = f.tasks_are;
      opens = f.opens;
      roots = ap (λ (cids : List CidParts). cid ∷ cids) f.roots;
      right = λ r. (tt, f.right r);
    }

-- no child is asked for
filled_stop : (miss : Miss) (cids : List CidParts) (places : List Position) (new : List (Task Dag)) → AreAsMany places cids → root_cids_at new ≡ stop_at miss ∷ []
    → Filled (λ xs. stop_at miss ∷ []) cids places new
filled_stop miss cids places new m e =
    let (rest, is, later) = at_stop miss [] new e in
    let alone : new ≡ stop_at miss ∷ [] = is ∙ ap (λ (rest : List (Task Dag)). stop_at miss ∷ rest) (no_task rest later) in
    record {
      children = closed cids;
      tasks_are = sym alone;
      opens = closed_blocks cids ∙ ap blocks_at (sym alone);
      roots = closed_roots cids;
      right = λ r. closed_right places cids m;
    }

pub position_at_top : (i : ℕ) (path : List (List ℕ)) (depth : ℕ) → position_of (path_want i path depth) ≡ top
position_at_top i [] depth = refl
position_at_top i (name ∷ path) depth = refl

filled_step : (i : ℕ) (entry inner : Want) (step : StepTo) (cids : List CidParts) (places : List Position) (new : List (Task Dag)) → position_of entry ≡ top → AreAsMany places cids
    → IsLedTo places (position_of inner) step → root_cids_at new ≡ step_tasks i entry inner step cids → Filled (step_tasks i entry inner step) cids places new
filled_step i entry inner (to_entry k) cids places new e m h r =
    filled_link k (i + 1) entry places cids new (subst (λ (p : Position). IsAt k p places) (sym e) h) m r
filled_step i entry inner (to_child k) cids places new e m h r = filled_link k i inner places cids new h m r
filled_step i entry inner absent cids places new e m h r = filled_stop (no_entry i) cids places new m r
filled_step i entry inner not_folder_here cids places new e m h r = filled_stop (no_directory i) cids places new m r

filled_terminal : VisitsStand → (scope : Scope) (span : Option SpanParts) (depth : ℕ) (section : Section) (kind : Kind) (new : List (Task Dag)) → not (is_block scope) ≡ true
    → root_cids_at new ≡ terminal_tasks scope span depth section kind (links_of kind) → Filled (terminal_tasks scope span depth section kind) (links_of kind) (positions top kind) new
filled_terminal stand scopes.Block span depth section kind new reads e = absurd (cc reads)
filled_terminal stand scopes.Entity span depth section kind new reads e = filled_node stand (entity_reach span section kind) top depth kind new e
filled_terminal stand scopes.All span depth section kind new reads e = filled_node stand (all_reach kind) top depth kind new e

-- the children of a node that is read
pub filled : VisitsStand → StepsLead → (q : QueryParts) (w : Want) (section : Section) (kind : Kind) (new : List (Task Dag)) → is_read_at q w ≡ true
    → root_cids_at new ≡ tasks_of q w section kind (links_of kind) → Filled (tasks_of q w section kind) (links_of kind) (positions (position_of w) kind) new
filled stand lead q (segment_want i position name path depth) section kind new reads e =
    filled_step i (path_want (i + 1) path (depth + 1)) (segment_want i (position_below position name) name path (depth + 1))
    (step_of kind (length (passed position)) name) (links_of kind) (positions position kind) new (position_at_top (i + 1) path (depth + 1)) (as_many position kind)
    (lead position kind (length (passed position)) name) e
filled stand lead q (terminal_want depth) section kind new reads e = filled_terminal stand q.scope q.span depth section kind new reads e
filled stand lead q (node_want reach position depth) section kind new reads e = filled_node stand reach position depth kind new e
