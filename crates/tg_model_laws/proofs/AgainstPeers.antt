-- What a sender can make of a query with the root of a sound DAG: its answer and fronts of it, or a collision pair.
use Rattle.std.proofs.Common.{◌≡◌, ◌≢◌, ◌⊎◌, ℕ, ◌+◌, Bool, true, false, Option, Some, None, List, [], Contains, inl, inr, ⊎_elim, length, ◌++◌, refl, sym, ap, ◌∙◌, subst}
use Rattle.tg_model_laws.proofs.OwnSections.{own_sections_fit, path_leads}
use Rattle.tg_model_laws.proofs.SentOpenings.{one_fit}
use Rattle.tg_model_laws.specs.CountsWithin.{counts_within}
use Rattle.tg_model_laws.proofs.Followed.{EndFollows, Follows, at_end, at_node, gives_front, path_follows, traversal_follows}
use Rattle.tg_model_laws.specs.ListFronts.{FrontOf}
use Rattle.tg_model_laws.proofs.OpenedDags.{Collision, OneKind, opened_or_collision}
use Rattle.tg_model_laws.specs.PartialDags.{OpenedFrom, alone, opened, same_bare, unseen}
use Rattle.tg_model_laws.proofs.TerminalTexts.{traversal-text}
use Rattle.tg_model_laws.proofs.Terminals.{traversal_whole}
use Rattle.tg_model_laws.specs.PathStops.{path_stops}
use Rattle.tg_model_laws.specs.SentSections.{hashed_asked, held_sent}
use Rattle.tg_model.specs.Answer.{answer, is_listed, node_text}
use Rattle.tg_model.specs.Counts.{counts}
use Rattle.tg_model.specs.Dag.{Dag, Section, blocks, node, root_cid}
use Rattle.tg_model.specs.Ends.{StopsAlike}
use Rattle.tg_model.specs.Fits.{CollisionPair, Fits, HasOneBlockEach, IfOnce, IsFrontOfAnswer, IsInProgress, IsOpenedFor, is_late_terminal, output_so_far, so_far, whole_text}
use Rattle.tg_model.specs.LimitNumbers.{AreWithin}
use Rattle.tg_model.specs.Lookup.{lookup_path}
use Rattle.tg_model.specs.PathWalk.{PathEnd, Spot, Stop, TraversalEnd, gone, not_folder, not_there, path_walk, stopped, terminal, whole}
use Rattle.tg_model.specs.Queries.{QueryParts, SpanParts}
use Rattle.tg_model.specs.Sound.{IsSound, top}
use Rattle.tg_model.specs.Traversal.{Traversal, block_list, from_end, opened_list, sections_of, sent, traversal}
use Rattle.tg_model.specs.declared.queries.Scope.{Scope}
use Rattle.tg_model.specs.declared.queries.Scope.TheVariants as scopes

-- ---- what holds, or a collision pair

-- blocks that collide are a pair
pub collision_pair : (sections : List Section) (s d : Dag) → blocks s ≡ sections → Collision (blocks s) (blocks d) → CollisionPair sections d
collision_pair sections s d e (a, b, in_a, in_b, clash) = record {
  received = a;
  held = b;
  is_received = subst (λ (sections : List Section). Contains sections a) e in_a;
  is_held = in_b;
  same_cid = clash.same_cid;
  kind = clash.kind;
  differ = clash.differ;
  same_hash = clash.same_hash;
}

-- a pair of what was opened is one of what was sent: each block that was opened under a CID with sha2-256 was sent
sent_pair : (q : QueryParts) (d s : Dag) → IsOpenedFor s q → CollisionPair (blocks s) d → CollisionPair (block_list q s) d
sent_pair q d s right p = record {
  received = p.received;
  held = p.held;
  is_received = held_sent q (opened_list q s) p.received (subst (λ (sections : List Section). IfOnce q.dups (HasOneBlockEach sections)) right.opened right.one_each) (hashed_asked q p.received.cid p.kind)
      (subst (λ (sections : List Section). Contains sections p.received) right.opened p.is_received);
  is_held = p.is_held;
  same_cid = p.same_cid;
  kind = p.kind;
  differ = p.differ;
  same_hash = p.same_hash;
}

-- what follows where the partial DAG is opened from the sound one, or a pair
pub or_pair : OneKind → (q : QueryParts) (d s : Dag) (P : Type 0) → IsSound d → root_cid d ≡ q.root → IsOpenedFor s q → (OpenedFrom s d → P)
    → P ⊎ CollisionPair (block_list q s) d
or_pair one_kind q d s P sound root right h =
    ⊎_elim (λ (from : OpenedFrom s d). inl (h from))
    (λ (c : Collision (blocks s) (blocks d)). inr (sent_pair q d s right (collision_pair (blocks s) s d refl c)))
    (opened_or_collision one_kind top s d sound.whole right.checked sound.checked (right.root ∙ sym root))

-- ---- the end

-- where the traversal of a sound DAG stops, the look-up ends as it
stops_alike : (q : QueryParts) (d : Dag) (stop : Stop) → IsSound d → (traversal q d).end ≡ stopped stop → StopsAlike stop (lookup_path q.path d)
stops_alike q d stop sound is =
    elim (path_leads q d sound) [
      | inl h ↦ let through : (traversal q d).end ≡ whole = traversal_whole q d h.0 sound h.1 in absurd (cc)
      | inr h ↦
          let same : stopped h.0 ≡ stopped stop = sym (path_stops q d h.0 h.1) ∙ is in
          let one : h.0 ≡ stop = cc in
          subst (λ (x : Stop). StopsAlike x (lookup_path q.path d)) one h.2
    ]

-- where it comes through, its path leads to a terminal, which says the answer
pub has_answer : (q : QueryParts) (d : Dag) → IsSound d → (traversal q d).end ≡ whole
    → (t : Dag) × ((path_walk q.path d).end ≡ terminal t) × (answer q d ≡ Some (node_text q.scope q.span t))
has_answer q d sound w =
    elim (path_leads q d sound) [
      | inl h ↦ h
      | inr h ↦ let ends : stopped h.0 ≡ whole = sym (path_stops q d h.0 h.1) ∙ w in absurd (cc)
    ]

-- a traversal of the partial DAG that doesn't end at an unopened place is the sound DAG's
pub not_early : (t u : Traversal) → ((spot : Spot) → t.end ≢ stopped (gone spot)) → Follows t u → t ≡ u
not_early t u other (inl e) = e
not_early t u other (inr h) = absurd (other h.wanted h.end)

-- a stop that isn't at an unopened block is the look-up's, or there is a pair
lookup_or_pair : OneKind → (q : QueryParts) (d s : Dag) (stop : Stop) → IsSound d → root_cid d ≡ q.root → IsOpenedFor s q → (traversal q s).end ≡ stopped stop
    → ((spot : Spot) → stop ≢ gone spot) → StopsAlike stop (lookup_path q.path d) ⊎ CollisionPair (block_list q s) d
lookup_or_pair one_kind q d s stop sound root right e not_gone =
    or_pair one_kind q d s (StopsAlike stop (lookup_path q.path d)) sound root right
    (λ from.
    let same : traversal q s ≡ traversal q d = not_early (traversal q s) (traversal q d) (λ spot f. not_gone spot (cc)) (traversal_follows q s d from) in
    stops_alike q d stop sound (ap (λ (t : Traversal). t.end) (sym same) ∙ e))

-- an absence is one of the sound DAG, or there is a pair
pub absent_or_pair : OneKind → (q : QueryParts) (d s : Dag) (i : ℕ) → IsSound d → root_cid d ≡ q.root → IsOpenedFor s q → (traversal q s).end ≡ stopped (not_there i)
    → StopsAlike (not_there i) (lookup_path q.path d) ⊎ CollisionPair (block_list q s) d
absent_or_pair one_kind q d s i sound root right e = lookup_or_pair one_kind q d s (not_there i) sound root right e (λ spot f. cc)

-- and so is the want of a directory
pub not_folder_or_pair : OneKind → (q : QueryParts) (d s : Dag) (i : ℕ) → IsSound d → root_cid d ≡ q.root → IsOpenedFor s q → (traversal q s).end ≡ stopped (not_folder i)
    → StopsAlike (not_folder i) (lookup_path q.path d) ⊎ CollisionPair (block_list q s) d
not_folder_or_pair one_kind q d s i sound root right e = lookup_or_pair one_kind q d s (not_folder i) sound root right e (λ spot f. cc)

-- ---- what is written meanwhile

-- a text of which there is nothing is a front of each answer
pub empty_front : (text : List ℕ) (told : Option (List ℕ)) → text ≡ [] → IsFrontOfAnswer text told
empty_front text (Some all) e = (all, ap (λ (x : List ℕ). x ++ all) (sym e))
empty_front text None e = e

-- at an unopened place: nothing where the text is late, and else the text so far
so_far_front : (late : Bool) (end : TraversalEnd) (all text : List ℕ) (spot : Spot) (told : Option (List ℕ)) → end ≡ stopped (gone spot) → (late ≡ false → IsFrontOfAnswer text told)
    → IsFrontOfAnswer (so_far late end all text) told
so_far_front true whole all text spot told e h = cc
so_far_front true (stopped stop) all text spot told e h = empty_front [] told refl
so_far_front false end all text spot told e h = h refl

-- a text that is a front of the sound DAG's text is one of the answer
text_front : (q : QueryParts) (d u : Dag) (t : Traversal) → IsSound d → (path_walk q.path d).end ≡ terminal u → is_listed q.scope u ≡ false → Follows t (traversal q d)
    → IsFrontOfAnswer t.text (answer q d)
text_front q d u t sound e early follows =
    let (at, ends, said) = has_answer q d sound (traversal_whole q d u sound e) in
    let same : at ≡ u = cc in
    let longer : FrontOf t.text (traversal q d).text = (gives_front t (traversal q d) follows).text in
    subst (λ (told : Option (List ℕ)). IsFrontOfAnswer t.text told) (sym said)
    (longer.rest, ap (λ (x : Dag). node_text q.scope q.span x) same ∙ sym (traversal-text q d u sound e early) ∙ longer.is)

-- where the text isn't late, it is none yet, or the sound DAG's isn't late either
pub early_end : (scope : Scope) (span : Option SpanParts) (depth : ℕ) (end other : PathEnd) → EndFollows end other → is_late_terminal scope end ≡ false
    → ((from_end end scope span depth).text ≡ []) ⊎ ((u : Dag) × (other ≡ terminal u) × (is_listed scope u ≡ false))
early_end scope span depth _ _ (at_end stop) late = inl refl
early_end scopes.Block span depth _ _ (at_node t u h) late = absurd (cc)
early_end scopes.Entity span depth _ _ (at_node _ _ (unseen cid d e)) late = inl refl
early_end scopes.Entity span depth _ _ (at_node _ _ (alone section kind children)) late = inl refl
early_end scopes.Entity span depth _ _ (at_node _ _ (same_bare section None)) late = inl refl
early_end scopes.Entity span depth _ _ (at_node _ _ (same_bare section (Some fault))) late = inl refl
early_end scopes.Entity span depth _ _ (at_node _ _ (opened section kind children others h)) late = inr (node section kind others, refl, late)
early_end scopes.All span depth _ _ (at_node t u h) late = inr (u, refl, refl)

-- the text so far, where the walks go the same way or the first ends at an unopened place
pub front_written : (q : QueryParts) (d s : Dag) → IsSound d → OpenedFrom s d → is_late_terminal q.scope (path_walk q.path s).end ≡ false → IsFrontOfAnswer (traversal q s).text (answer q d)
front_written q d s sound from late =
    let depth : ℕ = length (path_walk q.path s).sections + 1 in
    elim (path_follows q.path s d from) [
      | inl way ↦ elim (early_end q.scope q.span depth (path_walk q.path s).end (path_walk q.path d).end way.end late) [
        | inl nothing ↦ empty_front (traversal q s).text (answer q d) nothing
        | inr early ↦ text_front q d early.0 (traversal q s) sound early.1 early.2 (traversal_follows q s d from)
      ]
      | inr lost ↦ empty_front (traversal q s).text (answer q d) (ap (λ (end : PathEnd). (from_end end q.scope q.span depth).text) lost.end)
    ]

-- what is written meanwhile is a front of the answer, or there is a pair
pub front_or_pair : OneKind → (q : QueryParts) (d s : Dag) (sections : List Section) (wanted : Spot) → IsSound d → root_cid d ≡ q.root → IsInProgress s q sections wanted
    → IsFrontOfAnswer (output_so_far q s) (answer q d) ⊎ CollisionPair sections d
front_or_pair one_kind q d s sections wanted sound root h =
    subst (λ (given : List Section). IsFrontOfAnswer (output_so_far q s) (answer q d) ⊎ CollisionPair given d) h.list
    (or_pair one_kind q d s (IsFrontOfAnswer (output_so_far q s) (answer q d)) sound root h.right
    (λ from. so_far_front (is_late_terminal q.scope (path_walk q.path s).end) (traversal q s).end (whole_text q s) (traversal q s).text wanted (answer q d) h.end
    (λ late. front_written q d s sound from late)))

-- ---- what is counted meanwhile

-- what is opened counts no more than the sound DAG does, or there is a pair
pub counted_or_pair : OneKind → (q : QueryParts) (d s : Dag) → IsSound d → root_cid d ≡ q.root → IsOpenedFor s q → AreWithin (counts q d) (counts q s) ⊎ CollisionPair (block_list q s) d
counted_or_pair one_kind q d s sound root right =
    or_pair one_kind q d s (AreWithin (counts q d) (counts q s)) sound root right
    (λ from. counts_within q (traversal q s) (traversal q d) (gives_front (traversal q s) (traversal q d) (traversal_follows q s d from)))

-- ---- what is accepted

-- sections that fit are the sound DAG's, and their text is its answer, as they fit in one way; or there is a pair
pub answer_or_pair : OneKind → (q : QueryParts) (d s : Dag) (sections : List Section) (out : List ℕ) → IsSound d → root_cid d ≡ q.root → Fits s q sections out
    → ((sections ≡ block_list q d) × (answer q d ≡ Some out)) ⊎ CollisionPair sections d
answer_or_pair one_kind q d s sections out sound root h =
    subst (λ (given : List Section). ((sections ≡ block_list q d) × (answer q d ≡ Some out)) ⊎ CollisionPair given d) h.list
    (or_pair one_kind q d s ((sections ≡ block_list q d) × (answer q d ≡ Some out)) sound root h.right
    (λ from.
    let same : traversal q s ≡ traversal q d = not_early (traversal q s) (traversal q d) (λ spot f. cc (h.end, f)) (traversal_follows q s d from) in
    let list : sections ≡ block_list q d = sym h.list ∙ ap (λ (t : Traversal). sent q (sections_of t.places)) same in
    let opened : blocks s ≡ opened_list q d = h.right.opened ∙ ap (λ (t : Traversal). sections_of t.places) same in
    let once = subst (λ (sections : List Section). IfOnce q.dups (HasOneBlockEach sections)) opened h.right.one_each in
    let (at, ends, said) = has_answer q d sound (ap (λ (t : Traversal). t.end) (sym same) ∙ h.end) in
    let text : List ℕ = node_text q.scope q.span at in
    let (own, fits) = own_sections_fit q d text sound root once said in
    let one = one_fit one_kind q sections s own out text h (subst (λ (sections : List Section). Fits own q sections text) (sym list) fits) in
    (list, said ∙ ap (λ (text : List ℕ). Some text) (sym one.1))))
