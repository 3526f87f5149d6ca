-- The tasks that are left over a DAG's own nodes, and the blocks that are received there.
use Rattle.std.proofs.Common.{◌≡◌, ◌⊎◌, ℕ, ◌+◌, suc, zero, Bool, true, false, Option, Some, None, List, [], ◌∷◌, ◌++◌, Contains, inl, inr, ⊎_elim, length, map, refl, sym, ap, ap₂, ◌∙◌, append_assoc, append-nil, subst, subst₂, arith}
use Rattle.std.proofs.lemmas.List.{append_cancel_left, map-append}
use Rattle.std.proofs.lemmas.List.Elements.{Contains-append_left, Contains-append_right}
use Rattle.std.specs.Prelude.{⊤}
use Rattle.tg_cid.specs.Cid.{CidParts}
use Rattle.tg_cid.specs.Names.{Names}
use Rattle.tg_model_laws.specs.CountsWithin.{counts_within}
use Rattle.tg_model_laws.specs.PartialDags.{AreOneBlock}
use Rattle.tg_model_laws.specs.Standing.{Each, IsAt, IsLedTo, Stands, StepsLead, VisitsStand}
use Rattle.tg_model.specs.Counts.{counts, counts_of}
use Rattle.tg_model.specs.Dag.{AreWhole, Children, Dag, IsWhole, Section, bare, blocks, blocks_of_children, links_of, no_child, node, root_cid, root_cids, unopened, with_child}
use Rattle.tg_model.specs.Fits.{CollisionPair}
use Rattle.tg_model.specs.LimitNumbers.{AreWithin}
use Rattle.tg_model.specs.PathWalk.{StepTo, TraversalEnd, absent, gone, not_folder_here, step_of, stopped, to_child, to_entry, whole}
use Rattle.tg_model.specs.Queries.{QueryParts, SpanParts}
use Rattle.tg_model.specs.Reading.{Reads}
use Rattle.tg_model.specs.Sound.{AreCheckedAt, IsChecked, IsCheckedAt, IsNodeAt, IsSound, Position, passed, positions, top}
use Rattle.tg_model.specs.Traversal.{ListedEntry, Place, Reach, Traversal, Visit, all_reach, entity_reach, opened_list, text_behind, traversal, visits}
use Rattle.tg_model.specs.declared.kinds.Kind.{Kind}
use Rattle.tg_model.specs.declared.queries.Scope.{Scope}
use Rattle.tg_model.specs.declared.queries.Scope.TheVariants as scopes
use Rattle.tg_model_laws.proofs.FilledChildren.{position_at_top}
use Rattle.tg_model_laws.proofs.OpeningSteps.{no_fault, opened_more}
use Rattle.tg_model_laws.proofs.Rooted.{at_block, at_stop, each_both, entries_each, last_each, no_task}
use Rattle.tg_model_laws.proofs.TaskMaps.{children_roots, map_both, map_entries, map_tasks, map_text, map_then}
use Rattle.tg_model_laws.specs.BesideSound.{IsBeside, IsNext, IsPartAt, Passes, PassesIf}
use Rattle.tg_model_laws.specs.TakenBlocks.{EachPlace, IsReadAt, opened_by, root_cids_at}
use Rattle.tg_model_laws.specs.Stages.{Given, IsOpened, IsStage, StageLaws, ending, nothing_given, place_of, tasks_give, up_to_next, with_place}
use Rattle.tg_model_laws.specs.Tasks.{Miss, Task, Want, child_then, children_tasks, dags_of, entries_now, give_entries, give_text, is_read_at, link_tasks, node_tasks, node_want, open_block, path_want, position_below, position_of, segment_want, spot_of, start, step_tasks, stop_at, stop_of, tasks_of, tasks_then, terminal_tasks, terminal_want, text_at, text_last, text_now}

-- a block has one kind under a CID
abbrev pub OneKind : Type 0
OneKind = (cid : CidParts) (block : List ℕ) (a b : Kind) → Reads cid block a → Reads cid block b → a ≡ b

-- ---- children, one by one with their positions

abbrev EachChild : (Position → Dag → Type 0) → List Position → Children → Type 0
EachChild R places no_child = ⊤
EachChild R [] (with_child d children) = ⊥
EachChild R (p ∷ places) (with_child d children) = R p d × EachChild R places children

module _ (R : Position → Dag → Type 0) where
  abbrev At : Want → Dag → Type 0
  At w d = R (position_of w) d

  each_child : (into : Option (Reach × Position)) (depth : ℕ) (place : Position) (d : Dag) (nodes : List (Task Dag)) → Stands into place → R place d → EachPlace At nodes
      → EachPlace At (child_then into depth d nodes)
  each_child None depth place d nodes s h rest = rest
  each_child (Some into) depth place d nodes s h rest = (subst (λ (p : Position). R p d) (sym s) h, rest)

  each_children : (todo : List Visit) (depth : ℕ) (places : List Position) (children : Children) → Each Stands todo places → EachChild R places children
      → EachPlace At (children_tasks todo depth (dags_of children))
  each_children todo depth places no_child s h = tt
  each_children [] depth places (with_child d children) s h = tt
  each_children (visit ∷ todo) depth [] (with_child d children) s h = absurd h
  each_children (visit ∷ todo) depth (place ∷ places) (with_child d children) s h =
      entries_each At visit.met (child_then visit.into depth d (children_tasks todo depth (dags_of children)))
      (each_child visit.into depth place d (children_tasks todo depth (dags_of children)) s.0 h.0 (each_children todo depth places children s.1 h.1))

  each_link : (k i : ℕ) (w : Want) (places : List Position) (children : Children) → IsAt k (position_of w) places → EachChild R places children → EachPlace At (link_tasks k i w (dags_of children))
  each_link k i w places no_child at h = tt
  each_link k i w [] (with_child d children) at h = absurd h
  each_link zero i w (place ∷ places) (with_child d children) at h = (subst (λ (p : Position). R p d) at h.0, tt)
  each_link (suc k) i w (place ∷ places) (with_child d children) at h = each_link k i w places children at h.1

  each_step : (i : ℕ) (entry inner : Want) (step : StepTo) (places : List Position) (children : Children) → position_of entry ≡ top → IsLedTo places (position_of inner) step
      → EachChild R places children → EachPlace At (step_tasks i entry inner step (dags_of children))
  each_step i entry inner (to_entry k) places children e s h =
      each_link k (i + 1) entry places children (subst (λ (p : Position). IsAt k p places) (sym e) s) h
  each_step i entry inner (to_child k) places children e s h = each_link k i inner places children s h
  each_step i entry inner absent places children e s h = tt
  each_step i entry inner not_folder_here places children e s h = tt

  module _ (stand : VisitsStand) (lead : StepsLead) where
    each_node : (reach : Reach) (position : Position) (depth : ℕ) (kind : Kind) (children : Children) → EachChild R (positions position kind) children
        → EachPlace At (node_tasks reach position depth kind (dags_of children))
    each_node reach position depth kind children h =
        each_both At (children_tasks (visits reach position kind) (depth + 1) (dags_of children)) (text_last (text_behind reach kind))
        (each_children (visits reach position kind) (depth + 1) (positions position kind) children (stand reach position kind) h) (last_each At (text_behind reach kind))

    each_terminal : (scope : Scope) (span : Option SpanParts) (depth : ℕ) (section : Section) (kind : Kind) (children : Children) → EachChild R (positions top kind) children
        → EachPlace At (terminal_tasks scope span depth section kind (dags_of children))
    each_terminal scopes.Block span depth section kind children h = tt
    each_terminal scopes.Entity span depth section kind children h = each_node (entity_reach span section kind) top depth kind children h
    each_terminal scopes.All span depth section kind children h = each_node (all_reach kind) top depth kind children h

    each_task : (q : QueryParts) (w : Want) (section : Section) (kind : Kind) (children : Children) → EachChild R (positions (position_of w) kind) children
        → EachPlace At (tasks_of q w section kind (dags_of children))
    each_task q (segment_want i position name path depth) section kind children h =
        each_step i (path_want (i + 1) path (depth + 1)) (segment_want i (position_below position name) name path (depth + 1)) (step_of kind (length (passed position)) name)
        (positions position kind) children (position_at_top (i + 1) path (depth + 1)) (lead position kind (length (passed position)) name) h
    each_task q (terminal_want depth) section kind children h = each_terminal q.scope q.span depth section kind children h
    each_task q (node_want reach position depth) section kind children h = each_node reach position depth kind children h

-- the children of a part are parts
child_parts : (d : Dag) (places : List Position) (children : Children) → (IsWhole d → AreWhole children) → AreCheckedAt places children
    → ((section : Section) → Contains (blocks_of_children children) section → Contains (blocks d) section) → EachChild (IsPartAt d) places children
child_parts d places no_child w h held = tt
child_parts d [] (with_child below children) w h held = absurd h
child_parts d (place ∷ places) (with_child below children) w h held = (
  record { whole_too = λ all. (w all).0; checked = h.0; held = λ section c. held section (Contains-append_left (blocks below) (blocks_of_children children) section c) },
  child_parts d places children (λ all. (w all).1) h.1 (λ section c. held section (Contains-append_right (blocks below) (blocks_of_children children) section c)),
)

root_cids_both : (xs ys : List (Task Dag)) → root_cids_at (xs ++ ys) ≡ root_cids_at xs ++ root_cids_at ys
root_cids_both xs ys = map_both Dag CidParts (λ n d. root_cid d) xs ys

root_cids_of_tasks : (q : QueryParts) (w : Want) (section : Section) (kind : Kind) (children : Children) → root_cids children ≡ links_of kind
    → root_cids_at (tasks_of q w section kind (dags_of children)) ≡ tasks_of q w section kind (links_of kind)
root_cids_of_tasks q w section kind children e =
    map_tasks Dag CidParts (λ n d. root_cid d) q w section kind (dags_of children) ∙ ap (tasks_of q w section kind) (children_roots children ∙ e)

-- ---- the laws

module _ (laws : StageLaws) (stand : VisitsStand) (lead : StepsLead) where
  pub beside_starts : (q : QueryParts) (d : Dag) → IsChecked d → root_cid d ≡ q.root → IsBeside q d nothing_given (start q q.root)
  beside_starts q d h e = record {
    nodes = start q d;
    same = ap (λ (cid : CidParts). open_block (path_want 0 q.path 1) cid ∷ []) e;
    stage = laws.start q d;
    parts = (record { whole_too = λ w. w; checked = subst (λ (p : Position). IsCheckedAt p d) (sym (position_at_top 0 q.path 1)) h; held = λ section c. c }, tt);
  }

  each_then : (P : Want → Dag → Type 0) (nodes : List (Task Dag)) → EachPlace P nodes → EachPlace P (tasks_then nodes)
  each_then P [] h = h
  each_then P (open_block w d ∷ nodes) h = h
  each_then P (give_text text ∷ nodes) h = each_then P nodes h
  each_then P (give_entries met ∷ nodes) h = each_then P nodes h
  each_then P (stop_at miss ∷ nodes) h = h

  pub beside_gives : (q : QueryParts) (d : Dag) (given : Given) (tasks : List (Task CidParts)) → IsBeside q d given tasks → IsBeside q d (up_to_next tasks given) (tasks_then tasks)
  beside_gives q d given tasks b = record {
    nodes = tasks_then b.nodes;
    same = map_then Dag CidParts (λ n d. root_cid d) b.nodes ∙ ap tasks_then b.same;
    stage = subst (λ (now : Given). IsStage q d now (tasks_then b.nodes))
        (ap₂ (λ (text : List ℕ) (met : List ListedEntry). let now : Given = record { places = given.places; text = given.text ++ text; met = given.met ++ met } in now)
        (sym (map_text Dag CidParts (λ n d. root_cid d) b.nodes) ∙ ap text_now b.same) (sym (map_entries Dag CidParts (λ n d. root_cid d) b.nodes) ∙ ap entries_now b.same))
        (laws.up_to_next q d given b.nodes b.stage);
    parts = each_then (λ w below. IsPartAt d (position_of w) below) b.nodes b.parts;
  }

  pub beside_misses : (q : QueryParts) (d : Dag) (given : Given) (miss : Miss) (tasks : List (Task CidParts)) → IsBeside q d given (stop_at miss ∷ tasks)
      → traversal q d ≡ ending given (stopped (stop_of miss))
  beside_misses q d given miss tasks b =
      let (rest, is, later) = at_stop miss tasks b.nodes b.same in
      laws.miss q d given miss rest (subst (λ (nodes : List (Task Dag)). IsStage q d given nodes) is b.stage)

  pub beside_ends : (q : QueryParts) (d : Dag) (given : Given) → IsBeside q d given [] → traversal q d ≡ ending given whole
  beside_ends q d given b = laws.done q d given (subst (λ (nodes : List (Task Dag)). IsStage q d given nodes) (no_task b.nodes b.same) b.stage)

  pub beside_counts : (q : QueryParts) (d : Dag) (given : Given) (tasks : List (Task CidParts)) → IsBeside q d given tasks → AreWithin (counts q d) (counts_of q (ending given whole))
  beside_counts q d given tasks b =
      let rest : Traversal = tasks_give q b.nodes in
      counts_within q (ending given whole) (traversal q d) (record {
        places = record { rest = rest.places; is = ap (λ (t : Traversal). t.places) b.stage };
        text = record { rest = rest.text; is = ap (λ (t : Traversal). t.text) b.stage };
        met = record { rest = rest.met; is = ap (λ (t : Traversal). t.met) b.stage };
      })

  -- ---- the node at the wanted place

  module _ (q : QueryParts) (d : Dag) (given : Given) (w : Want) (cid : CidParts) (tasks : List (Task CidParts)) where
    -- of the nodes the first stands there
    pub record Head (below : Dag) : Type 0 where
      pub others : List (Task Dag)
      pub root : root_cid below ≡ cid
      pub same : root_cids_at others ≡ tasks
      pub stage : IsStage q d given (open_block w below ∷ others)
      pub part : IsPartAt d (position_of w) below
      pub parts : EachPlace (λ w below. IsPartAt d (position_of w) below) others

    pub head_of : IsBeside q d given (open_block w cid ∷ tasks) → (below : Dag) × Head below
    head_of b =
        let (below, others, is, root, later) = at_block w cid tasks b.nodes b.same in
        let parts = subst (λ (nodes : List (Task Dag)). EachPlace (λ w below. IsPartAt d (position_of w) below) nodes) is b.parts in
        (below, record { others = others; root = root; same = later; stage = subst (λ (nodes : List (Task Dag)). IsStage q d given nodes) is b.stage; part = parts.0; parts = parts.1 })

    -- a node is taken
    head_opens : (section : Section) (kind : Kind) (children : Children) → Head (node section kind children)
        → IsBeside q d (with_place w section (text_at q w section kind) given) (tasks_of q w section kind (links_of kind) ++ tasks)
    head_opens section kind children h =
        let here : IsNodeAt (position_of w) section kind children = h.part.checked.0 in
        let new : List (Task Dag) = tasks_of q w section kind (dags_of children) in
        record {
          nodes = new ++ h.others;
          same = root_cids_both new h.others ∙ ap₂ (λ (xs ys : List (Task CidParts)). xs ++ ys) (root_cids_of_tasks q w section kind children here.links) h.same;
          stage = laws.opened q d given w section kind children h.others (no_fault q w kind here.stands) h.stage;
          parts = each_both (λ w below. IsPartAt d (position_of w) below) new h.others
              (each_task (IsPartAt d) stand lead q w section kind children
              (child_parts d (positions (position_of w) kind) children h.part.whole_too h.part.checked.1 (λ other c. h.part.held other (Contains-append_right (section ∷ []) (blocks_of_children children) other c))))
              h.parts;
        }

    -- or what stands there is taken, and not read
    head_alone : (below : Dag) (section : Section) → is_read_at q w ≡ false → IsOpened below section → Head below → IsBeside q d (with_place w section section.block given) tasks
    head_alone below section unread is h = record { nodes = h.others; same = h.same; stage = laws.alone q d given w below section h.others unread is h.stage; parts = h.parts }

    read_here : (section : Section) (kind : Kind) (children : Children) → Head (node section kind children) → IsReadAt (position_of w) section kind
    read_here section kind children h =
        let here : IsNodeAt (position_of w) section kind children = h.part.checked.0 in
        record { named = here.named; reads = here.reads; stands = here.stands; of_size = here.of_size; tells_size = here.tells_size }

    node_held : (section : Section) (kind : Kind) (children : Children) → Head (node section kind children) → Contains (blocks d) section
    node_held section kind children h = h.part.held section (0, omega arith, refl)

    -- ---- of a sound DAG

    next_at : IsSound d → (below : Dag) → Head below → IsNext q d given w cid tasks
    next_at sound (unopened other) h = absurd (h.part.whole_too sound.whole)
    next_at sound (bare section fault) h = absurd (h.part.whole_too sound.whole)
    next_at sound (node section kind children) h =
        let after : IsBeside q d (with_place w section (text_at q w section kind) given) (tasks_of q w section kind (links_of kind) ++ tasks) = head_opens section kind children h in
        record {
          section = section;
          kind = kind;
          cid_is = h.root;
          held = node_held section kind children h;
          here = read_here section kind children h;
          rest = (tasks_give q after.nodes).places;
          next = ap (λ (t : Traversal). t.places) after.stage ∙ append_assoc given.places (place_of w section ∷ []) (tasks_give q after.nodes).places;
          on = after;
        }

    pub beside_next : IsSound d → IsBeside q d given (open_block w cid ∷ tasks) → IsNext q d given w cid tasks
    beside_next sound b = let (below, h) = head_of b in next_at sound below h

    -- of what a terminal is asked alone
    alone_at : (below : Dag) → IsSound d → is_read_at q w ≡ false → Head below
        → (section : Section) × (section.cid ≡ cid) × Names section.cid section.block × Contains (blocks d) section × IsBeside q d (with_place w section section.block given) tasks
    alone_at (unopened other) sound unread h = absurd (h.part.whole_too sound.whole)
    alone_at (bare section fault) sound unread h = absurd (h.part.whole_too sound.whole)
    alone_at (node section kind children) sound unread h =
        (section, h.root, (read_here section kind children h).named, node_held section kind children h, head_alone (node section kind children) section unread refl h)

    -- ---- of a DAG that opens with these sections

    -- the traversal doesn't end before the next of them
    stops_short : (end : TraversalEnd) (section : Section) (rest : List Section) → traversal q d ≡ ending given end → opened_list q d ≡ opened_by given ++ section ∷ rest → ⊥
    stops_short end section rest e l =
        let same : opened_by given ++ [] ≡ opened_by given ++ section ∷ rest = append-nil (opened_by given) ∙ sym (ap (λ (t : Traversal). map (λ p. p.section) t.places) e) ∙ l in
        let none : [] ≡ section ∷ rest = append_cancel_left (opened_by given) [] (section ∷ rest) same in
        absurd (cc none)

    -- and where it goes on, it goes on with this place
    goes_past : (here : Section) (text : List ℕ) (nodes : List (Task Dag)) → IsStage q d (with_place w here text given) nodes
        → (more : List Section) × (opened_list q d ≡ opened_by given ++ here ∷ more)
    goes_past here text nodes stage =
        let more : List Section = map (λ p. p.section) (tasks_give q nodes).places in (
          more,
          ap (λ (t : Traversal). map (λ p. p.section) t.places) stage ∙ map-append (λ (p : Place). p.section) (given.places ++ place_of w here ∷ []) (tasks_give q nodes).places
              ∙ ap (λ (sections : List Section). sections ++ more) (opened_more given w here text) ∙ append_assoc (opened_by given) (here ∷ []) more,
        )

    next_is : (here : Section) (text : List ℕ) (nodes : List (Task Dag)) (section : Section) (rest : List Section) → IsStage q d (with_place w here text given) nodes
        → opened_list q d ≡ opened_by given ++ section ∷ rest → here ≡ section
    next_is here text nodes section rest stage l =
        let (more, is) = goes_past here text nodes stage in
        let same : here ∷ more ≡ section ∷ rest = append_cancel_left (opened_by given) (here ∷ more) (section ∷ rest) (sym is ∙ l) in
        cc

    module _ (section : Section) (rest : List Section) (l : opened_list q d ≡ opened_by given ++ section ∷ rest) where
      node_is : (here : Section) (kind : Kind) (children : Children) → Head (node here kind children) → here ≡ section
      node_is here kind children h = next_is here (text_at q w here kind) (head_opens here kind children h).nodes section rest (head_opens here kind children h).stage l

      passes_if : (reads : Bool) → is_read_at q w ≡ reads → (below : Dag) → Head below → (section.cid ≡ cid) × PassesIf reads w section
      passes_if reads e (unopened other) h = absurd (stops_short _ section rest (laws.not_opened q d given w other h.others h.stage) l)
      passes_if true e (bare here None) h = absurd (stops_short _ section rest (laws.not_read q d given w here h.others e h.stage) l)
      passes_if false e (bare here None) h =
          let same : here ≡ section = next_is here here.block h.others section rest (laws.alone q d given w (bare here None) here h.others e refl h.stage) l in
          subst (λ (s : Section). (s.cid ≡ cid) × Names s.cid s.block) same (h.root, h.part.checked)
      passes_if reads e (bare here (Some fault)) h = absurd h.part.checked
      passes_if true e (node here kind children) h =
          subst (λ (s : Section). (s.cid ≡ cid) × ((kind : Kind) × IsReadAt (position_of w) s kind)) (node_is here kind children h) (h.root, (kind, read_here here kind children h))
      passes_if false e (node here kind children) h =
          subst (λ (s : Section). (s.cid ≡ cid) × Names s.cid s.block) (node_is here kind children h) (h.root, (read_here here kind children h).named)

      pub opened_passes : IsBeside q d given (open_block w cid ∷ tasks) → (section.cid ≡ cid) × Passes q w section
      opened_passes b = let (below, h) = head_of b in passes_if (is_read_at q w) refl below h

      goes_on_at : OneKind → (kind : Kind) → is_read_at q w ≡ true → Reads section.cid section.block kind → (below : Dag) → Head below
          → IsBeside q d (with_place w section (text_at q w section kind) given) (tasks_of q w section kind (links_of kind) ++ tasks)
      goes_on_at one_kind kind reads r (unopened other) h = absurd (stops_short _ section rest (laws.not_opened q d given w other h.others h.stage) l)
      goes_on_at one_kind kind reads r (bare here None) h = absurd (stops_short _ section rest (laws.not_read q d given w here h.others reads h.stage) l)
      goes_on_at one_kind kind reads r (bare here (Some fault)) h = absurd h.part.checked
      goes_on_at one_kind kind reads r (node here other children) h =
          let same : here ≡ section = node_is here other children h in
          let kinds : other ≡ kind = one_kind section.cid section.block other kind (subst (λ (s : Section). Reads s.cid s.block other) same h.part.checked.0.reads) r in
          subst₂ (λ (s : Section) (k : Kind). IsBeside q d (with_place w s (text_at q w s k) given) (tasks_of q w s k (links_of k) ++ tasks)) same kinds (head_opens here other children h)

      pub opened_goes_on : OneKind → (kind : Kind) → is_read_at q w ≡ true → Reads section.cid section.block kind → IsBeside q d given (open_block w cid ∷ tasks)
          → IsBeside q d (with_place w section (text_at q w section kind) given) (tasks_of q w section kind (links_of kind) ++ tasks)
      opened_goes_on one_kind kind reads r b = let (below, h) = head_of b in goes_on_at one_kind kind reads r below h

      alone_on_at : is_read_at q w ≡ false → (below : Dag) → Head below → IsBeside q d (with_place w section section.block given) tasks
      alone_on_at unread (unopened other) h = absurd (stops_short _ section rest (laws.not_opened q d given w other h.others h.stage) l)
      alone_on_at unread (bare here fault) h =
          let after : IsBeside q d (with_place w here here.block given) tasks = head_alone (bare here fault) here unread refl h in
          subst (λ (s : Section). IsBeside q d (with_place w s s.block given) tasks) (next_is here here.block after.nodes section rest after.stage l) after
      alone_on_at unread (node here kind children) h =
          let after : IsBeside q d (with_place w here here.block given) tasks = head_alone (node here kind children) here unread refl h in
          subst (λ (s : Section). IsBeside q d (with_place w s s.block given) tasks) (next_is here here.block after.nodes section rest after.stage l) after

      pub opened_alone : is_read_at q w ≡ false → IsBeside q d given (open_block w cid ∷ tasks) → IsBeside q d (with_place w section section.block given) tasks
      opened_alone unread b = let (below, h) = head_of b in alone_on_at unread below h

    -- where no section follows, no place does
    no_more : (here : Section) (text : List ℕ) (nodes : List (Task Dag)) → IsStage q d (with_place w here text given) nodes → opened_list q d ≡ opened_by given → ⊥
    no_more here text nodes stage l =
        let (more, is) = goes_past here text nodes stage in
        let none : here ∷ more ≡ [] = append_cancel_left (opened_by given) (here ∷ more) [] (sym is ∙ l ∙ sym (append-nil (opened_by given))) in
        absurd (cc none)

    stops_at : (reads : Bool) → is_read_at q w ≡ reads → opened_list q d ≡ opened_by given → (below : Dag) → Head below → traversal q d ≡ ending given (stopped (gone (spot_of w cid)))
    stops_at reads e l (unopened other) h = laws.not_opened q d given w other h.others h.stage ∙ ap (λ (cid : CidParts). ending given (stopped (gone (spot_of w cid)))) h.root
    stops_at true e l (bare here None) h = laws.not_read q d given w here h.others e h.stage ∙ ap (λ (cid : CidParts). ending given (stopped (gone (spot_of w cid)))) h.root
    stops_at false e l (bare here None) h = absurd (no_more here here.block h.others (laws.alone q d given w (bare here None) here h.others e refl h.stage) l)
    stops_at reads e l (bare here (Some fault)) h = absurd h.part.checked
    stops_at reads e l (node here kind children) h =
        absurd (no_more here (text_at q w here kind) (head_opens here kind children h).nodes (head_opens here kind children h).stage l)

    pub opened_stops : opened_list q d ≡ opened_by given → IsBeside q d given (open_block w cid ∷ tasks) → traversal q d ≡ ending given (stopped (gone (spot_of w cid)))
    opened_stops l b = let (below, h) = head_of b in stops_at (is_read_at q w) refl l below h

  -- ---- a received block beside a sound DAG

  module _ (one_kind : OneKind) (one_block : AreOneBlock) (q : QueryParts) (d : Dag) (given : Given) (w : Want) (section : Section) (tasks : List (Task CidParts))
      (sound : IsSound d) (named : Names section.cid section.block) (b : IsBeside q d given (open_block w section.cid ∷ tasks)) where
    abbrev own : IsNext q d given w section.cid tasks
    own = beside_next q d given w section.cid tasks sound b

    same_or_pair : (section ≡ own.section) ⊎ CollisionPair (section ∷ []) d
    same_or_pair = one_block d section own.section own.held (sym own.cid_is) named own.here.named

    pub beside_opens : (kind : Kind) → Reads section.cid section.block kind
        → IsBeside q d (with_place w section (text_at q w section kind) given) (tasks_of q w section kind (links_of kind) ++ tasks) ⊎ CollisionPair (section ∷ []) d
    beside_opens kind r = ⊎_elim
        (λ same.
        let kinds : own.kind ≡ kind = one_kind section.cid section.block own.kind kind (subst (λ (s : Section). Reads s.cid s.block own.kind) (sym same) own.here.reads) r in
        inl (subst₂ (λ (s : Section) (k : Kind). IsBeside q d (with_place w s (text_at q w s k) given) (tasks_of q w s k (links_of k) ++ tasks)) (sym same) kinds own.on))
        (λ pair. inr pair) same_or_pair

    pub beside_refuses : ((kind : Kind) → IsReadAt (position_of w) section kind → ⊥) → CollisionPair (section ∷ []) d
    beside_refuses bad = ⊎_elim (λ same. absurd (bad own.kind (subst (λ (s : Section). IsReadAt (position_of w) s own.kind) (sym same) own.here))) (λ pair. pair) same_or_pair

    pub beside_alone : is_read_at q w ≡ false → IsBeside q d (with_place w section section.block given) tasks ⊎ CollisionPair (section ∷ []) d
    beside_alone unread =
        let (below, h) = head_of q d given w section.cid tasks b in
        let (held, root, held_named, within, after) = alone_at q d given w section.cid tasks below sound unread h in
        ⊎_elim (λ same. inl (subst (λ (s : Section). IsBeside q d (with_place w s s.block given) tasks) (sym same) after)) (λ pair. inr pair) (one_block d section held within (sym root) named held_named)
