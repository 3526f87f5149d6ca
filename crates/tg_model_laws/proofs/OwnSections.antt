-- The sections of a sound DAG's own traversal fit the query, with the DAG's answer.
use Rattle.std.proofs.Common.{◌≡◌, ◌⊎◌, inl, inr, Bool, true, false, Option, Some, None, List, ◌++◌, ◌+◌, ℕ, length, map, refl, sym, ap, ap₂, ◌∙◌, subst}
use Rattle.std.proofs.lemmas.List.{map-append}
use Rattle.tg_model.specs.Lookup as lookup
use Rattle.tg_model.specs.PathWalk as walk
use Rattle.tg_model_laws.proofs.OpenedDags.{opened_checked, same_root}
use Rattle.tg_model_laws.specs.PartialDags.{OpenedFrom}
use Rattle.tg_model_laws.proofs.OpenedPaths.{opened_path, path_walks}
use Rattle.tg_model_laws.proofs.OpenedTerminals.{opened_terminal, terminal_alone, terminal_gives, terminal_listed, terminal_reached}
use Rattle.tg_model_laws.proofs.PathEnds.{path_alike}
use Rattle.tg_model_laws.proofs.OpenedParts.{Gives, sections_in}
use Rattle.tg_model_laws.proofs.ContentSizes.{IsReadOn}
use Rattle.tg_model_laws.proofs.SentBlocks.{walk_sections}
use Rattle.tg_model_laws.proofs.Terminals.{terminal_sound, terminal_whole, traversal_whole}
use Rattle.tg_model_laws.proofs.Followed.{along, walked}
use Rattle.tg_model_laws.proofs.Listings.{partial_met, traversal_met}
use Rattle.tg_model_laws.proofs.TerminalTexts.{partial-text, traversal-text}
use Rattle.tg_model.specs.Answer.{answer, answer_at, is_listed, named_of, node_text}
use Rattle.tg_model.specs.Content.{entries}
use Rattle.tg_model.specs.Texts.{listing}
use Rattle.tg_model.specs.declared.kinds.Kind.TheVariants.{Basic, Shard}
use Rattle.tg_model.specs.declared.queries.Scope.{Scope}
use Rattle.tg_model.specs.declared.queries.Scope.TheVariants as scopes
use Rattle.tg_model.specs.Dag.{Dag, Section, blocks, node, root_cid}
use Rattle.tg_model.specs.Ends.{EndsAlike, StopsAlike}
use Rattle.tg_model.specs.Fits.{Fits, HasOneBlockEach, IfOnce, IsAloneAt, IsOpenedFor, terminal_text}
use Rattle.tg_model.specs.Lookup.{LookupEnd, found, lookup_path}
use Rattle.tg_model.specs.PathWalk.{PathEnd, PathWalk, Stop, not_reached, path_walk, terminal, whole}
use Rattle.tg_model.specs.Queries.{QueryParts, SpanParts}
use Rattle.tg_model.specs.Sound.{IsChecked, IsSound, top}
use Rattle.tg_model.specs.Traversal.{Place, Traversal, at_terminal, block_list, from_end, named_met, opened_list, sections_of, sent, traversal, walk_places}

-- the partial DAG that a query's traversal opens
abbrev own_dag : QueryParts → Dag → Dag
own_dag q d = opened_path (opened_terminal q.scope q.span) top q.path d

-- a path leads to a terminal, which says the answer, or it stops as the look-up does, and then there is no answer
abbrev pub Leads : QueryParts → PathEnd → LookupEnd → Type 0
Leads q end other =
    ((t : Dag) × (end ≡ terminal t) × (answer_at q other ≡ Some (node_text q.scope q.span t)))
    ⊎ ((stop : Stop) × (end ≡ not_reached stop) × StopsAlike stop other × (answer_at q other ≡ None))

-- so it is where both end alike
leads : (q : QueryParts) (end : PathEnd) (other : LookupEnd) → EndsAlike end other → Leads q end other
leads q (terminal d) (found other) alike = inl (d, refl, ap (λ (t : Dag). Some (node_text q.scope q.span t)) (sym alike))
leads q (not_reached (walk.not_there i)) (lookup.not_there j) alike = inr (walk.not_there i, refl, alike, refl)
leads q (not_reached (walk.not_folder i)) (lookup.not_folder j) alike = inr (walk.not_folder i, refl, alike, refl)
leads q _ _ alike = absurd alike

-- so it is in a sound DAG
pub path_leads : (q : QueryParts) (d : Dag) → IsSound d → Leads q (path_walk q.path d).end (lookup_path q.path d)
path_leads q d sound = leads q (path_walk q.path d).end (lookup_path q.path d) (path_alike d q.path sound)

-- ---- the partial DAG fits

-- what a directory says of which the listing is asked for
pub listed_text : (scope : Scope) (span : Option SpanParts) (t : Dag) → is_listed scope t ≡ true → node_text scope span t ≡ listing (map named_of (entries t))
listed_text scopes.Entity span (node section (Basic es) children) e = refl
listed_text scopes.Entity span (node section (Shard slots) children) e = refl
listed_text _ span _ e = absurd (cc)

module _ (q : QueryParts) (d t : Dag) (sound : IsSound d) (e : (path_walk q.path d).end ≡ terminal t) where
  -- the sections from the root to the terminal
  abbrev way : List Section
  way = (path_walk q.path d).sections

  abbrev depth : ℕ
  depth = length way + 1

  -- what is opened of the terminal
  abbrev some : Dag
  some = opened_terminal q.scope q.span t

  -- the terminal is sound
  at_sound : IsSound t
  at_sound = terminal_sound q.path d t sound e

  -- what is opened of it gives what is asked for
  some_gives : Gives (OpenedFrom some t) (q.scope ≡ scopes.Entity → IsReadOn some) (at_terminal q.scope q.span depth some) (at_terminal q.scope q.span depth t) (blocks some)
  some_gives = terminal_gives q.scope q.span depth t at_sound.whole (terminal_whole q.scope q.span depth t at_sound)

  -- the partial DAG is opened from the DAG, the walk is the same and ends there, and the blocks are those of both
  own_walks : OpenedFrom (own_dag q d) d × (path_walk q.path (own_dag q d) ≡ record { sections = way; end = terminal some }) × (blocks (own_dag q d) ≡ way ++ blocks some)
  own_walks =
      path_walks (opened_terminal q.scope q.span) t some_gives.from (λ i depth position. terminal_reached q.scope q.span i depth position t at_sound.whole) 0 1 top q.path d sound.whole e

  -- so it ends there
  own_end : (path_walk q.path (own_dag q d)).end ≡ terminal some
  own_end = ap (λ (walk : PathWalk). walk.end) own_walks.1

  -- the traversal is the same
  own_traversal : traversal q (own_dag q d) ≡ traversal q d
  own_traversal =
      ap (λ (walk : PathWalk). walked q walk.sections walk.end) own_walks.1
      ∙ ap (λ (below : Traversal). along way below) some_gives.same
      ∙ sym (ap (λ (end : PathEnd). along way (from_end end q.scope q.span depth)) e)

  -- its blocks are those that the traversal opens
  own_blocks : blocks (own_dag q d) ≡ opened_list q d
  own_blocks =
      own_walks.2
      ∙ ap₂ (λ (a b : List Section). a ++ b) (sym (walk_sections 1 way)) some_gives.sent
      ∙ sym (map-append (λ (p : Place). p.section) (walk_places 1 way) (at_terminal q.scope q.span depth t).places)
      ∙ sym (ap (λ (end : PathEnd). sections_in (along way (from_end end q.scope q.span depth))) e)

  -- it is opened for the query
  own_right : root_cid d ≡ q.root → IfOnce q.dups (HasOneBlockEach (opened_list q d)) → IsOpenedFor (own_dag q d) q
  own_right root once =
      record {
        root = same_root (own_dag q d) d own_walks.0 ∙ root;
        opened = own_blocks ∙ sym (ap sections_in own_traversal);
        alone = subst (λ (end : PathEnd). IsAloneAt q.scope end) (sym own_end) (terminal_alone q.scope q.span t);
        checked = opened_checked top (own_dag q d) d own_walks.0 sound.checked;
        one_each = subst (λ (sections : List Section). IfOnce q.dups (HasOneBlockEach sections)) (sym own_blocks) once;
      }

  -- what is opened of the terminal says what the terminal says, as both traversals give the same
  own_said : (late : Bool) → is_listed q.scope t ≡ late → IsChecked some → (traversal q (own_dag q d)).end ≡ whole → node_text q.scope q.span some ≡ node_text q.scope q.span t
  own_said true l some_checked through =
      let listed = terminal_listed q.scope q.span t ∙ l in
      listed_text q.scope q.span some listed
      ∙ ap listing (sym (partial_met q (own_dag q d) some some_checked own_end through listed)
      ∙ ap (λ (given : Traversal). map named_met given.met) own_traversal ∙ traversal_met q d t sound e l)
      ∙ sym (listed_text q.scope q.span t l)
  own_said false l some_checked through =
      sym (partial-text q (own_dag q d) some some_gives.read some_checked own_end through
      (terminal_listed q.scope q.span t ∙ l))
      ∙ ap (λ (given : Traversal). given.text) own_traversal ∙ traversal-text q d t sound e l

  -- and fits with the traversal's sections and the terminal's text
  own_fits : (text : List ℕ) → root_cid d ≡ q.root → IfOnce q.dups (HasOneBlockEach (opened_list q d)) → text ≡ node_text q.scope q.span t → Fits (own_dag q d) q (block_list q d) text
  own_fits text root once says =
      let through = ap (λ (given : Traversal). given.end) own_traversal ∙ traversal_whole q d t sound e in
      let some_checked : IsChecked some = opened_checked top some t some_gives.from at_sound.checked in
      record {
        right = own_right root once;
        list = ap (λ (given : Traversal). sent q (sections_of given.places)) own_traversal;
        end = through;
        text = says ∙ sym (own_said (is_listed q.scope t) refl some_checked through) ∙ sym (ap (λ (end : PathEnd). terminal_text q end) own_end);
      }

-- the sections of a sound DAG's own traversal fit, with its answer
pub own_sections_fit : (q : QueryParts) (d : Dag) (text : List ℕ) → IsSound d → root_cid d ≡ q.root → IfOnce q.dups (HasOneBlockEach (opened_list q d)) → answer q d ≡ Some text
    → (s : Dag) × Fits s q (block_list q d) text
own_sections_fit q d text sound root once e =
    elim (path_leads q d sound) [
      | inl h ↦ (own_dag q d, own_fits q d h.0 sound h.1 text root once (cc (e, h.2)))
      | inr h ↦ absurd (cc (e, h.3))
    ]
