-- A store that holds a sound DAG, none of what is asked of it too deep, has the whole answer.
use Rattle.std.proofs.Common.{All, List, Ok, None, Option, Some, [], ap, arith, length, length-append, map, refl, suc, subst, sym, zero, ℕ, ◌++◌, ◌+◌, ◌<◌, ◌∙◌, ◌∷◌, ◌≡◌, ◌≤◌, ◌↔◌}
use Rattle.std.specs.Prelude.{⊤}
use Rattle.tg_commands.specs.Exports.{HasAnswer, HoldsDag}
use Rattle.tg_cid.specs.Cid.{CidParts}
use Rattle.tg_model.specs.Answer.{answer, answer_at}
use Rattle.tg_model.specs.Computed.{read}
use Rattle.tg_model.specs.Counts.{counts, greatest}
use Rattle.tg_model.specs.Dag.{Dag, links_of, root_cid}
use Rattle.tg_model.specs.Ends.{EndsAlike}
use Rattle.tg_model.specs.Lookup.{LookupEnd, lookup_path}
use Rattle.tg_model.specs.Lookup as lookup
use Rattle.tg_model.specs.PathWalk.{PathEnd, TraversalEnd, not_reached, path_walk, stopped, terminal, whole}
use Rattle.tg_model.specs.PathWalk as walk
use Rattle.tg_model.specs.Queries.{QueryParts}
use Rattle.tg_model.specs.Reading.{Reads}
use Rattle.tg_model.specs.Sound.{IsSound, position_fault}
use Rattle.tg_model.specs.Stores.{Store}
use Rattle.tg_model.specs.Traversal.{Place, Traversal, sent, traversal}
use Rattle.tg_model.specs.declared.kinds.Kind.{Kind}
use Rattle.tg_model.specs.declared.queries.Scope.{Scope}
use Rattle.tg_model.specs.declared.queries.Scope.TheVariants as scopes
use Rattle.tg_model_laws.specs.Stores.{Holds}
use Rattle.tg_model_laws.specs.BesideSound.{BesideLaws, IsBeside}
use Rattle.tg_model_laws.specs.TakenBlocks.{opened_by}
use Rattle.tg_model_laws.specs.Stages.{Given, nothing_given, place_of, up_to_next, with_place}
use Rattle.tg_model_laws.specs.StoreWalks.{IsWalked, WalkEnds, WalkLaws}
use Rattle.tg_model_laws.specs.Tasks.{Task, Want, depth_of, fault_at, give_entries, give_text, node_want, open_block, position_of, segment_want, start, stop_at, stop_of, tasks_of, tasks_then, terminal_fault, terminal_want, text_at}
use Rattle.tg_parts.specs.PartLaws.{OpenedAreBlocks}
use Rattle.tg_walk.specs.Walks.{max_depth}

-- the laws of walks over a store and beside a DAG, of the blocks that are opened, and of sound DAGs
pub record DoneLaws : Type 0 where
  pub beside : BesideLaws
  pub opened : OpenedAreBlocks
  pub walks : WalkLaws
  pub computed : (cid : CidParts) (block : List ℕ) (kind : Kind) → All (λ b. b < 256) block → (read cid block ≡ Ok kind) ↔ Reads cid block kind
  pub alike : (d : Dag) (path : List (List ℕ)) → IsSound d → EndsAlike (path_walk path d).end (lookup_path path d)
  pub through : (q : QueryParts) (d t : Dag) → IsSound d → (path_walk q.path d).end ≡ terminal t → (traversal q d).end ≡ whole

-- where there is an answer the path leads to a terminal
reaches : (q : QueryParts) (text : List ℕ) (end : PathEnd) (other : LookupEnd) → EndsAlike end other → answer_at q other ≡ Some text → (t : Dag) × (end ≡ terminal t)
reaches q text (terminal t) other alike e = (t, refl)
reaches q text (not_reached (walk.not_there i)) (lookup.not_there j) alike e = absurd (cc e)
reaches q text (not_reached (walk.not_folder i)) (lookup.not_folder j) alike e = absurd (cc e)
reaches q text _ _ alike e = absurd alike

-- the greatest number isn't below any
greatest_has : (xs ys : List Place) (p : Place) (most : ℕ) → greatest (map (λ x. x.depth) (xs ++ p ∷ ys)) ≤ most → p.depth ≤ most
greatest_has [] ys p most few = omega (arith, few)
greatest_has (x ∷ xs) ys p most few = greatest_has xs ys p most (omega (arith, few))

-- no text and no entry comes first
abbrev HasNext : List (Task CidParts) → Type 0
HasNext [] = ⊤
HasNext (open_block w cid ∷ tasks) = ⊤
HasNext (give_text text ∷ tasks) = ⊥
HasNext (give_entries met ∷ tasks) = ⊥
HasNext (stop_at miss ∷ tasks) = ⊤

next_then : (tasks : List (Task CidParts)) → HasNext (tasks_then tasks)
next_then [] = tt
next_then (open_block w cid ∷ tasks) = tt
next_then (give_text text ∷ tasks) = next_then tasks
next_then (give_entries met ∷ tasks) = next_then tasks
next_then (stop_at miss ∷ tasks) = tt

-- a block that may stand at a place may stand there by the query
may_end : (scope : Scope) (kind : Kind) → position_fault (position_of (terminal_want 0)) kind ≡ None → terminal_fault scope kind ≡ None
may_end scopes.Block kind e = refl
may_end scopes.Entity kind e = e
may_end scopes.All kind e = e

may_stand : (q : QueryParts) (w : Want) (kind : Kind) → position_fault (position_of w) kind ≡ None → fault_at q w kind ≡ None
may_stand q (segment_want i position name path depth) kind e = e
may_stand q (terminal_want depth) kind e = may_end q.scope kind e
may_stand q (node_want reach position depth) kind e = e

-- the walk over the store goes beside the DAG, to its end
module _ (laws : DoneLaws) (q : QueryParts) (d : Dag) (store : Store) (sound : IsSound d) (root : root_cid d ≡ q.root) (holds : Holds store d)
    (is : (traversal q d).end ≡ whole) (shallow : (counts q d).depth ≤ max_depth) where
  walk_on : (n : ℕ) (given : Given) (tasks : List (Task CidParts)) → HasNext tasks → length (traversal q d).places ≤ length given.places + n
      → IsBeside q d given tasks → IsWalked q store max_depth given tasks → (all : Given) × WalkEnds q store max_depth all whole
  walk_on n given [] next few beside walked = (given, laws.walks.done q store max_depth given walked)
  walk_on n given (stop_at miss ∷ tasks) next few beside walked =
      let no : stopped (stop_of miss) ≡ whole = sym (ap (λ (t : Traversal). t.end) (laws.beside.miss q d given miss tasks beside)) ∙ is in absurd (cc no)
  walk_on zero given (open_block w cid ∷ tasks) next few beside walked =
      let here = laws.beside.next q d given w cid tasks sound beside in
      let long = length-append given.places (place_of w here.section ∷ here.rest) in
      let same = ap (λ (l : List Place). length l) here.next in
      absurd (omega (arith, few))
  walk_on (suc n) given (open_block w cid ∷ tasks) next few beside walked =
      let here = laws.beside.next q d given w cid tasks sound beside in
      let section = here.section in
      let later = tasks_of q w section here.kind (links_of here.kind) ++ tasks in
      let more = with_place w section (text_at q w section here.kind) given in
      let deep : depth_of w ≤ max_depth = greatest_has given.places here.rest (place_of w section) max_depth (subst (λ (l : List Place). greatest (map (λ p. p.depth) l) ≤ max_depth) here.next shallow) in
      let reads : read section.cid section.block ≡ Ok here.kind = (laws.computed section.cid section.block here.kind (holds.bytes section here.held)).1 here.here.reads in
      let wanted : IsWalked q store max_depth given (open_block w section.cid ∷ tasks) = subst (λ (c : CidParts). IsWalked q store max_depth given (open_block w c ∷ tasks)) (sym here.cid_is) walked in
      let on : IsWalked q store max_depth more later =
      laws.walks.opened q store max_depth given w section.cid section.block here.kind tasks (omega arith) deep (holds.blocks_are section here.held) reads (may_stand q w here.kind here.here.stands) wanted in
      let long = length-append given.places (place_of w section ∷ []) in
      walk_on n (up_to_next later more) (tasks_then later) (next_then later) (omega (arith, few, long))
      (laws.beside.up_to_next q d more later here.on) (laws.walks.up_to_next q store max_depth more later on)
  walk_on n given (give_text text ∷ tasks) next few beside walked = absurd next
  walk_on n given (give_entries met ∷ tasks) next few beside walked = absurd next

  walks_through : (all : Given) × WalkEnds q store max_depth all whole
  walks_through =
      walk_on (length (traversal q d).places) nothing_given (start q q.root) tt (omega arith)
      (laws.beside.start q d sound.checked root) (laws.walks.start q store max_depth)

-- so the content has all of the answer
pub has_answer : DoneLaws → (q : QueryParts) (d : Dag) (text : List ℕ) (content : Option (List ℕ)) → HoldsDag content d → IsSound d → root_cid d ≡ q.root
    → answer q d ≡ Some text → (counts q d).depth ≤ max_depth → HasAnswer q content
has_answer laws q d text content held sound root answers shallow =
    let (t, e) = reaches q text (path_walk q.path d).end (lookup_path q.path d) (laws.alike d q.path sound) answers in
    let (given, ends) = walks_through laws q d held.store sound root held.holds (laws.through q d t sound e) shallow in
    record {
      bytes = held.bytes;
      told = held.told;
      store = held.store;
      attached = held.attached;
      sections = sent q (opened_by given);
      ended = record { given = given; gave = refl; ends = ends };
    }
