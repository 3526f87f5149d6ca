-- What was opened for a query up to one of its sections.
use Rattle.std.proofs.Common.{◌≡◌, ◌<◌, ◌+◌, ◌++◌, ◌∷◌, ℕ, Bool, true, false, Contains, List, [], inl, inr, drop, length, map, take, refl, sym, ap, ◌∙◌, subst, arith, length-append}
use Rattle.std.proofs.lemmas.List.{length-map, map-append}
use Rattle.std.proofs.lemmas.List.Elements.{Contains-append_left}
use Rattle.tg_model_laws.proofs.CountedPlaces.{just_asked}
use Rattle.tg_model_laws.proofs.Followed.{EndFollows, at_end, at_node, gives_front, path_follows, traversal_follows}
use Rattle.tg_model_laws.specs.ListFronts.{FrontOf}
use Rattle.tg_model_laws.proofs.OpenedDags.{opened_checked, same_root}
use Rattle.tg_model_laws.proofs.Terminals.{top_reached}
use Rattle.tg_model_laws.proofs.Trimmed.{Stops, path_stops, trimmed, trimmed_blocks, trimmed_from}
use Rattle.tg_model_laws.specs.Openings.{IsAtPlace}
use Rattle.tg_model_laws.specs.PartialDags.{OpenedFrom, alone, opened, same_bare, unseen}
use Rattle.tg_model.specs.Dag.{Dag, Section, blocks}
use Rattle.tg_model.specs.Fits.{HasOneBlockEach, IfOnce, IsAloneAt, IsOpenedFor, IsToldAlone}
use Rattle.tg_model.specs.PathWalk.{PathEnd, Spot, Stop, gone, not_reached, path_walk, stopped}
use Rattle.tg_model.specs.Queries.{QueryParts}
use Rattle.tg_model.specs.Sound.{top}
use Rattle.tg_model.specs.Traversal.{Place, opened_list, sections_of, traversal}
use Rattle.tg_model.specs.declared.queries.Scope.{Scope}
use Rattle.tg_model.specs.declared.queries.Scope.TheVariants as scopes

-- ---- lists

-- the front of two lists joined that is as long as the first
take_first : {A : Type 0} (xs ys : List A) → take (length xs) (xs ++ ys) ≡ xs
take_first [] ys = refl
take_first (x ∷ xs) ys = ap (λ l. x ∷ l) (take_first xs ys)

drop_first : {A : Type 0} (xs ys : List A) → drop (length xs) (xs ++ ys) ≡ ys
drop_first [] ys = refl
drop_first (x ∷ xs) ys = drop_first xs ys

-- ---- what is left of a terminal that is told alone

alone_left : (t u : Dag) → OpenedFrom t u → IsToldAlone u → IsToldAlone t
alone_left _ _ (unseen cid d e) h = tt
alone_left _ _ (alone section kind children) h = tt
alone_left _ _ (same_bare section fault) h = tt
alone_left _ _ (opened section kind children others g) h = h

alone_at_end : (scope : Scope) (end other : PathEnd) → EndFollows end other → IsAloneAt scope other → IsAloneAt scope end
alone_at_end scopes.Block _ _ (at_node t u h) told = alone_left t u h told
alone_at_end scopes.Block _ _ (at_end stop) told = tt
alone_at_end scopes.Entity end other h told = tt
alone_at_end scopes.All end other h told = tt

not_reached_alone : (scope : Scope) (end : PathEnd) (stop : Stop) → end ≡ not_reached stop → IsAloneAt scope end
not_reached_alone scopes.Block end stop e = subst (IsAloneAt scopes.Block) (sym e) tt
not_reached_alone scopes.Entity end stop e = tt
not_reached_alone scopes.All end stop e = tt

still_alone : (q : QueryParts) (s d : Dag) → OpenedFrom s d → IsAloneAt q.scope (path_walk q.path d).end → IsAloneAt q.scope (path_walk q.path s).end
still_alone q s d from told =
    elim (path_follows q.path s d from) [
      | inl way ↦ alone_at_end q.scope (path_walk q.path s).end (path_walk q.path d).end way.end told
      | inr lost ↦ not_reached_alone q.scope (path_walk q.path s).end (gone lost.wanted) lost.end
    ]

-- ---- one block each

fewer : (dups : Bool) (sections all : List Section) → ((section : Section) → Contains sections section → Contains all section) → IfOnce dups (HasOneBlockEach all) → IfOnce dups (HasOneBlockEach sections)
fewer true sections all h one = tt
fewer false sections all h one = λ a b in_a in_b e. one a b (h a in_a) (h b in_b) e

-- ---- up to a section

-- what is opened of the DAG are the blocks of these sections, the traversal stops behind them, and the CID of the next
-- one is wanted there
pub record IsCut (q : QueryParts) (d : Dag) (front : List Section) (next : Section) : Type 0 where
  pub partial : Dag
  pub from : OpenedFrom partial d
  pub right : IsOpenedFor partial q
  pub list : opened_list q partial ≡ front
  pub spot : Spot
  pub end : (traversal q partial).end ≡ stopped (gone spot)
  pub wanted : spot.cid ≡ next.cid

module _ (q : QueryParts) (d : Dag) (front rest : List Section) (next : Section) (right : IsOpenedFor d q) (list : opened_list q d ≡ front ++ next ∷ rest) (at : IsAtPlace (traversal q d).end) where
  -- the blocks are those sections
  all_blocks : blocks d ≡ front ++ next ∷ rest
  all_blocks = right.opened ∙ list

  -- the first of them alone
  abbrev some : Dag
  some = trimmed (length front) d

  some_from : OpenedFrom some d
  some_from = trimmed_from (length front) d

  -- its traversal stops behind them
  some_stops : Stops (traversal q some) (length front) (blocks d)
  some_stops =
      let both : length (front ++ next ∷ rest) ≡ length front + length (next ∷ rest) = length-append front (next ∷ rest) in
      let all : length (blocks d) ≡ length (front ++ next ∷ rest) = ap (length {A = Section}) all_blocks in
      let less : length front < length (blocks d) = omega (arith, both, all) in
      path_stops q (length front) 0 1 top q.path d (traversal q d).end (top_reached q.path) right.checked (just_asked q d right at) less

  -- the next one is wanted
  is_next : some_stops.next ≡ next
  is_next =
      let there : drop (length front) (blocks d) ≡ next ∷ rest = ap (drop (length front)) all_blocks ∙ drop_first front (next ∷ rest) in
      let same : some_stops.next ∷ some_stops.rest ≡ next ∷ rest = sym some_stops.is ∙ there in
      cc

  -- the sections of its places
  some_list : opened_list q some ≡ front
  some_list =
      let longer : FrontOf (traversal q some).places (traversal q d).places = (gives_front (traversal q some) (traversal q d) (traversal_follows q some d some_from)).places in
      let sections : opened_list q d ≡ opened_list q some ++ sections_of longer.rest =
      ap (map (λ (p : Place). p.section)) longer.is ∙ map-append (λ (p : Place). p.section) (traversal q some).places longer.rest in
      let many : length (opened_list q some) ≡ length front = length-map (traversal q some).places (λ p. p.section) ∙ some_stops.many in
      sym (take_first (opened_list q some) (sections_of longer.rest))
      ∙ ap (take (length (opened_list q some))) (sym sections ∙ sym right.opened ∙ all_blocks)
      ∙ ap (λ (n : ℕ). take n (front ++ next ∷ rest)) many
      ∙ take_first front (next ∷ rest)

  -- and its blocks
  some_blocks : blocks some ≡ front
  some_blocks = trimmed_blocks (length front) d ∙ ap (take (length front)) all_blocks ∙ take_first front (next ∷ rest)

  -- it is opened for the query
  some_right : IsOpenedFor some q
  some_right = record {
    root = same_root some d some_from ∙ right.root;
    opened = some_blocks ∙ sym some_list;
    alone = still_alone q some d some_from right.alone;
    checked = opened_checked top some d some_from right.checked;
    one_each = subst (λ (sections : List Section). IfOnce q.dups (HasOneBlockEach sections)) (sym some_blocks)
        (fewer q.dups front (blocks d) (λ section within. subst (λ (all : List Section). Contains all section) (sym all_blocks) (Contains-append_left front (next ∷ rest) section within)) right.one_each);
  }

  pub cut_before : IsCut q d front next
  cut_before = record {
    partial = some;
    from = some_from;
    right = some_right;
    list = some_list;
    spot = some_stops.spot;
    end = some_stops.end;
    wanted = some_stops.cid ∙ ap (λ (section : Section). section.cid) is_next;
  }
