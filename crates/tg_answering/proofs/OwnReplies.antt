-- The replies over a store that holds a sound DAG, by what the DAG's own traversal gives.
use Rattle.std.proofs.Common.{All, Bool, List, Some, [], ap, ap₂, arith, cond, false, inl, inr, map, refl, subst, sym, true, ℕ, ◌∙◌, ◌∷◌, ◌≡◌, ◌≤◌}
use Rattle.std.proofs.lemmas.Bool.{le-ltb}
use Rattle.std.proofs.lemmas.List.Elements.{All-cons, All-nil}
use Rattle.tg_answering.proofs.PathsCut.{IsNowhere, cut_nowhere, full_nowhere}
use Rattle.tg_answering.specs.OwnReplies.{AsksForHeld, OwnAbsences, OwnAnswers, OwnRaws, OwnSections}
use Rattle.tg_cid.specs.Cid.{CidParts}
use Rattle.tg_http.specs.declared.request.RequestHead.{RequestHead}
use Rattle.tg_model.specs.Answer.{answer, answer_at, block_of}
use Rattle.tg_model.specs.Counts.{greatest}
use Rattle.tg_model.specs.Dag.{Dag, IsWhole, Section, bare, node, unopened}
use Rattle.tg_model.specs.Ends.{EndsAlike}
use Rattle.tg_model.specs.Lookup.{LookupEnd, lookup_path}
use Rattle.tg_model.specs.Lookup as lookup
use Rattle.tg_model.specs.PathWalk.{PathEnd, Stop, TraversalEnd, not_reached, path_walk, stopped, terminal, walk_from, whole}
use Rattle.tg_model.specs.PathWalk as walk
use Rattle.tg_model.specs.Queries.{QueryParts}
use Rattle.tg_model.specs.Sound.{IsSound, top}
use Rattle.tg_model.specs.StoreView.{store_view}
use Rattle.tg_model.specs.Stores.{Store}
use Rattle.tg_model.specs.Traversal.{Place, block_list, from_end, sections_of, sent, traversal}
use Rattle.tg_model.specs.declared.queries.Form.{Form}
use Rattle.tg_model.specs.declared.queries.Form.TheVariants as forms
use Rattle.tg_model_laws.specs.Depths.{ShowsDownTo, down_to}
use Rattle.tg_model_laws.specs.PathStops.{path_stops}
use Rattle.tg_reply.specs.AskedReadings.{AskedRawHasNoPath}
use Rattle.tg_reply.specs.Cutting.{CutsBeforeDeeper, before_deeper}
use Rattle.tg_reply.specs.Replies.{LeadsNowhere, car_reply, found_reply, is_cut, is_cut_on_path, missed_reply, raw_reply, reply, reply_at, reply_to, sent_dag}

-- the laws of cut traversals, and of sound DAGs
pub record OwnLaws : Type 0 where
  pub cuts : CutsBeforeDeeper
  pub shown : ShowsDownTo
  pub alike : (d : Dag) (path : List (List ℕ)) → IsSound d → EndsAlike (path_walk path d).end (lookup_path path d)
  pub through : (q : QueryParts) (d t : Dag) → IsSound d → (path_walk q.path d).end ≡ terminal t → (traversal q d).end ≡ whole
  pub pathless : AskedRawHasNoPath

-- where there is an answer the path leads to a terminal
reaches : (q : QueryParts) (text : List ℕ) (end : PathEnd) (other : LookupEnd) → EndsAlike end other → answer_at q other ≡ Some text → (t : Dag) × (end ≡ terminal t)
reaches q text (terminal t) other alike e = (t, refl)
reaches q text (not_reached (walk.not_there i)) (lookup.not_there j) alike e = absurd (cc e)
reaches q text (not_reached (walk.not_folder i)) (lookup.not_folder j) alike e = absurd (cc e)
reaches q text _ _ alike e = absurd alike

-- ---- places of which none is deeper

-- they all stand before the first deeper one
all_before : (most : ℕ) (places : List Place) → greatest (map (λ p. p.depth) places) ≤ most → before_deeper most places ≡ places
all_before most [] few = refl
all_before most (p ∷ places) few =
    ap (λ (b : Bool). cond b [] (p ∷ before_deeper most places)) (le-ltb most p.depth (omega (arith, few)))
    ∙ ap (λ (l : List Place). p ∷ l) (all_before most places (omega (arith, few)))

-- and each isn't deeper
all_within : (most : ℕ) (places : List Place) → greatest (map (λ p. p.depth) places) ≤ most → All (λ (p : Place). p.depth ≤ most) places
all_within most [] few = All-nil (λ (p : Place). p.depth ≤ most)
all_within most (p ∷ places) few =
    All-cons (λ (p : Place). p.depth ≤ most) p places (omega (arith, few)) (all_within most places (omega (arith, few)))

-- a traversal that came through didn't stop
not_stopped : (stop : Stop) (end : TraversalEnd) → end ≡ whole → end ≡ stopped stop → ⊥
not_stopped stop end e s = cc

-- a path that leads nowhere ends so
nowhere_at : (stop : Stop) → LeadsNowhere stop → IsNowhere (not_reached stop)
nowhere_at stop (inl e) = subst (λ (s : Stop). IsNowhere (not_reached s)) (sym e.1) tt
nowhere_at stop (inr e) = subst (λ (s : Stop). IsNowhere (not_reached s)) (sym e.1) tt

-- the root is shown: the empty path leads to it, and its block is the DAG's
record ShowsRoot (v d : Dag) : Type 0 where
  terminal_is : (walk_from 0 top 1 [] v).end ≡ terminal v
  block_is : block_of v ≡ block_of d

-- so it is where what is shown, cut at the depth, is the DAG cut there
root_shown : (v d : Dag) → IsWhole d → down_to 512 1 v ≡ down_to 512 1 d → ShowsRoot v d
root_shown v (unopened cid) w e = absurd w
root_shown v (bare section fault) w e = absurd w
root_shown (unopened cid) (node section kind children) w e = absurd cc
root_shown (bare section fault) (node other kind children) w e = absurd cc
root_shown (node section kind children) (node other others_kind others) w e =
    let same : section ≡ other = cc in
    record { terminal_is = refl; block_is = ap (λ (s : Section). s.block) same }

module _ (laws : OwnLaws) (store : Store) (d : Dag) (q : QueryParts) (head : RequestHead) (asks : AsksForHeld store d q head) where
  abbrev view : Dag
  view = store_view store q.root

  -- what is sent is cut from the DAG
  same : sent_dag store q.root ≡ down_to 512 1 d
  same = subst (λ (cid : CidParts). down_to 512 1 (store_view store cid) ≡ down_to 512 1 d) asks.root (laws.shown store d 512 asks.sound asks.holds (omega arith))

  -- and gives the DAG's sections
  sections : block_list q (sent_dag store q.root) ≡ block_list q d
  sections = ap (block_list q) same
      ∙ ap (λ (places : List Place). sent q (sections_of places)) ((laws.cuts q d 512).places ∙ all_before 512 (traversal q d).places asks.shallow)

  -- the reply is that at the end of the path in what the store shows
  at_end : reply store head ≡ reply_at store head q (path_walk q.path view).end
  at_end = ap (reply_to store head) asks.asked_is

  -- ---- an answer

  -- where the DAG's traversal comes through, so does that of what is sent
  comes_through : (traversal q d).end ≡ whole → (traversal q (sent_dag store q.root)).end ≡ whole
  comes_through e =
      ap (λ (x : Dag). (traversal q x).end) same ∙ (laws.cuts q d 512).through.1 (e, all_within 512 (traversal q d).places asks.shallow)

  -- then the CAR of a terminal is the whole one
  by_form : (t : Dag) (form : Form) → form ≡ forms.Car → (traversal q (sent_dag store q.root)).end ≡ whole
      → found_reply store head q t form ≡ car_reply head true q (block_list q d) false
  by_form t form f e =
      ap (found_reply store head q t) f ∙ ap₂ (λ (l : List Section) (cut : Bool). car_reply head true q l cut) sections (ap is_cut e)

  -- and the store shows a terminal at the path
  found : (end : PathEnd) → (path_walk q.path view).end ≡ end → q.form ≡ forms.Car → (traversal q (sent_dag store q.root)).end ≡ whole
      → reply_at store head q end ≡ car_reply head true q (block_list q d) false
  found (terminal t) at f e = by_form t q.form f e
  found (not_reached stop) at f e =
      absurd (not_stopped stop (traversal q view).end ((laws.cuts q view 512).through.0 e).0 (path_stops q view stop at))

  -- so an answer is sent
  answered : (text : List ℕ) → q.form ≡ forms.Car → answer q d ≡ Some text → reply store head ≡ car_reply head true q (block_list q d) false
  answered text f is =
      let (t, e) = reaches q text (path_walk q.path d).end (lookup_path q.path d) (laws.alike d q.path asks.sound) is in
      at_end ∙ found (path_walk q.path view).end refl f (comes_through (laws.through q d t asks.sound e))

  -- ---- an absence

  module _ (stop : Stop) (ends : (path_walk q.path d).end ≡ not_reached stop) (leads : LeadsNowhere stop) where
    -- the path ends so in what is sent
    sent_ends : (path_walk q.path (sent_dag store q.root)).end ≡ not_reached stop
    sent_ends = ap (λ (x : Dag). (path_walk q.path x).end) same
        ∙ cut_nowhere 512 q.path d (from_end (path_walk q.path d).end q.scope q.span _).places (subst IsNowhere (sym ends) (nowhere_at stop leads)) asks.shallow ∙ ends

    -- and in what the store shows
    view_ends : (path_walk q.path view).end ≡ not_reached stop
    view_ends = sym (full_nowhere 512 q.path view (subst IsNowhere (sym sent_ends) (nowhere_at stop leads))) ∙ sent_ends

    -- the CAR of the blocks on it isn't cut
    missed : (stop : Stop) → LeadsNowhere stop → (traversal q (sent_dag store q.root)).end ≡ stopped stop
        → missed_reply store head q stop ≡ car_reply head false q (block_list q d) false
    missed stop (inl at) e =
        ap (missed_reply store head q) at.1
        ∙ ap₂ (λ (l : List Section) (cut : Bool). car_reply head false q l cut) sections (ap is_cut_on_path (e ∙ ap stopped at.1))
    missed stop (inr at) e =
        ap (missed_reply store head q) at.1
        ∙ ap₂ (λ (l : List Section) (cut : Bool). car_reply head false q l cut) sections (ap is_cut_on_path (e ∙ ap stopped at.1))

    -- so the absence is sent
    absence : reply store head ≡ car_reply head false q (block_list q d) false
    absence = at_end ∙ ap (reply_at store head q) view_ends ∙ missed stop leads (path_stops q (sent_dag store q.root) stop sent_ends)

  -- ---- a raw block

  -- of the root, which is the terminal as a raw query has no path
  raw : q.form ≡ forms.Raw → reply store head ≡ raw_reply head q (block_of d)
  raw f =
      let root = root_shown view d asks.sound.whole same in
      at_end ∙ ap (λ (path : List (List ℕ)). reply_at store head q (path_walk path view).end) (laws.pathless head q asks.asked_is f)
      ∙ ap (reply_at store head q) root.terminal_is ∙ ap (found_reply store head q view) f ∙ ap (raw_reply head q) root.block_is

-- all of this for any store, DAG and query
pub own_sections : OwnLaws → OwnSections
own_sections laws store d q head asks = sections laws store d q head asks

pub own_answers : OwnLaws → OwnAnswers
own_answers laws store d q head text asks f is = answered laws store d q head asks text f is

pub own_absences : OwnLaws → OwnAbsences
own_absences laws store d q head stop asks f ends leads = absence laws store d q head asks stop ends leads

pub own_raws : OwnLaws → OwnRaws
own_raws laws store d q head asks f = raw laws store d q head asks f
