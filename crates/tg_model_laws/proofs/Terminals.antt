-- The terminal of a path walk in a sound DAG is sound itself, and a traversal from it comes through.
use Rattle.std.proofs.Common.{◌≡◌, Option, Some, None, List, [], ◌∷◌, ◌++◌, ℕ, zero, suc, ◌+◌, length, map, refl, sym, ap, ◌∙◌, subst, arith}
use Rattle.std.proofs.lemmas.Bool.{cond_both, eqb-true}
use Rattle.std.specs.Prelude.{⊤, bytes_eq, ◌==◌}
use Rattle.tg_model_laws.proofs.WholeTraversals.{traverse-whole}
use Rattle.tg_model_laws.specs.Standing.{IsAt, IsLedTo}
use Rattle.tg_model.specs.Dag.{AreWhole, Dag, IsWhole, Children, Section, bare, with_child, no_child, node, unopened}
use Rattle.tg_model.specs.PathWalk.{PathEnd, PathWalk, Spot, StepTo, absent, child_below, entry_step, not_folder_here, path_walk, slot_step, slots_step, spot_at, step_of, terminal, to_child, to_entry, unless_misfit, walk_from, walk_child, walk_step, whole}
use Rattle.tg_model.specs.Queries.{QueryParts, SpanParts}
use Rattle.tg_model.specs.Sound.{AreCheckedAt, IsCheckedAt, IsSound, Position, child, passed, position_by_name, position_fault, positions, slot_position, top}
use Rattle.tg_model.specs.Traversal.{all_reach, at_terminal, entity_reach, from_end, kind_reach, traversal}
use Rattle.tg_model.specs.declared.fault.BlockFault.{BlockFault}
use Rattle.tg_model.specs.declared.kinds.Entry.{Entry}
use Rattle.tg_model.specs.declared.kinds.Kind.{Kind}
use Rattle.tg_model.specs.declared.kinds.Kind.TheVariants.{Basic, File, Raw, Shard, Symlink}
use Rattle.tg_model.specs.declared.kinds.Slot.{Slot}
use Rattle.tg_model.specs.declared.queries.Scope.{Scope}
use Rattle.tg_model.specs.declared.queries.Scope.TheVariants as scopes
use Rattle.tg_murmur.specs.NameHash.{slot_of}

-- ---- a step leads to a child whose position fits it

-- the index that a step leads to, counted from a number, is that of a child at this position
pub record LeadsTo (from k : ℕ) (position : Position) (places : List Position) : Type 0 where
  pub index : ℕ
  pub is : k ≡ from + index
  pub here : IsAt index position places

-- an entry stands at the top, and a child shard behind the slots that were passed
abbrev pub Leads : ℕ → List Position → Position → StepTo → Type 0
Leads from places below (to_entry k) = LeadsTo from k top places
Leads from places below (to_child k) = LeadsTo from k below places
Leads from places below absent = ⊤
Leads from places below not_folder_here = ⊤

-- the first child
at_first : (from : ℕ) (position p : Position) (places : List Position) → p ≡ position → LeadsTo from from position (p ∷ places)
at_first from position p places e = record { index = zero; is = omega arith; here = e }

-- one child more before those
one_before : (from k : ℕ) (position p : Position) (places : List Position) → LeadsTo (from + 1) k position places → LeadsTo from k position (p ∷ places)
one_before from k position p places h = record { index = suc h.index; is = omega (arith, h.is); here = h.here }

-- a step among the later children
leads_later : (from : ℕ) (p : Position) (places : List Position) (below : Position) (step : StepTo) → Leads (from + 1) places below step → Leads from (p ∷ places) below step
leads_later from p places below (to_entry k) h = one_before from k top p places h
leads_later from p places below (to_child k) h = one_before from k below p places h
leads_later from p places below absent h = tt
leads_later from p places below not_folder_here h = tt

-- the entry with the name that is looked for
entry_leads : (from : ℕ) (name : List ℕ) (below : Position) (entries : List Entry) → Leads from (map (λ entry. top) entries) below (entry_step from name entries)
entry_leads from name below [] = tt
entry_leads from name below (entry ∷ entries) =
    let places = map (λ (entry : Entry). top) entries in
    cond_both (bytes_eq name entry.name) (to_entry from) (entry_step (from + 1) name entries) (λ step. Leads from (top ∷ places) below step)
    (λ e. at_first from top top places refl)
    (λ e. leads_later from top places below (entry_step (from + 1) name entries) (entry_leads (from + 1) name below entries))

-- a slot with the number that is looked for
slot_leads : (from : ℕ) (name : List ℕ) (above : List ℕ) (number slot : ℕ) (other : Option (List ℕ)) (places : List Position) → slot ≡ number
    → Leads from (position_by_name (above ++ slot ∷ []) other ∷ places) (child (above ++ number ∷ [])) (slot_step from name other)
slot_leads from name above number slot None places e =
    at_first from (child (above ++ number ∷ [])) (child (above ++ slot ∷ [])) places (ap (λ (n : ℕ). child (above ++ n ∷ [])) e)
slot_leads from name above number slot (Some other) places e =
    cond_both (bytes_eq name other) (to_entry from) absent (λ step. Leads from (top ∷ places) (child (above ++ number ∷ [])) step) (λ e. at_first from top top places refl) (λ e. tt)

-- the slots of a shard
slots_lead : (from : ℕ) (name : List ℕ) (above : List ℕ) (number : ℕ) (slots : List Slot)
    → Leads from (map (slot_position above) slots) (child (above ++ number ∷ [])) (slots_step from number name slots)
slots_lead from name above number [] = tt
slots_lead from name above number (slot ∷ slots) =
    let places = map (slot_position above) slots in
    let below : Position = child (above ++ number ∷ []) in
    cond_both (slot.slot == number) (slot_step from name slot.name) (slots_step (from + 1) number name slots) (λ step. Leads from (slot_position above slot ∷ places) below step)
    (λ e. slot_leads from name above number slot.slot slot.name places (eqb-true slot.slot number e))
    (λ e. leads_later from (slot_position above slot) places below (slots_step (from + 1) number name slots) (slots_lead (from + 1) name above number slots))

-- a step at any node
pub step_leads : (position : Position) (kind : Kind) (level : ℕ) (name : List ℕ) → Leads 0 (positions position kind) (child_below position (slot_of name level)) (step_of kind level name)
step_leads position Raw level name = tt
step_leads position (File inline filesize parts) level name = tt
step_leads position (Basic entries) level name = entry_leads 0 name (child_below position (slot_of name level)) entries
step_leads position (Shard slots) level name = slots_lead 0 name (passed position) (slot_of name level) slots
step_leads position (Symlink target) level name = tt

-- ---- along the path

-- a walk with no segment left stands at the top
abbrev pub IsReached : Position → List (List ℕ) → Type 0
IsReached position [] = position ≡ top
IsReached position (name ∷ path) = ⊤

-- at the top a walk may have no segment left
pub top_reached : (path : List (List ℕ)) → IsReached top path
top_reached [] = refl
top_reached (name ∷ path) = tt

-- a node that may stand there isn't stopped at
fits_end : (section : Section) (spot : Spot) (fault : Option BlockFault) (walk : PathWalk) → fault ≡ None → (unless_misfit section spot fault walk).end ≡ walk.end
fits_end section spot None walk e = refl
fits_end section spot (Some fault) walk e = cc

-- counted from zero the index is the child's
pub leads_at : (k : ℕ) (position : Position) (places : List Position) → LeadsTo 0 k position places → IsAt k position places
leads_at k position places h =
    let same : h.index ≡ k = omega (arith, h.is) in
    subst (λ (n : ℕ). IsAt n position places) same h.here

led : (places : List Position) (below : Position) (step : StepTo) → Leads 0 places below step → IsLedTo places below step
led places below (to_entry k) h = leads_at k top places h
led places below (to_child k) h = leads_at k below places h
led places below absent h = tt
led places below not_folder_here h = tt

pub steps_lead : (position : Position) (kind : Kind) (level : ℕ) (name : List ℕ) → IsLedTo (positions position kind) (child_below position (slot_of name level)) (step_of kind level name)
steps_lead position kind level name = led (positions position kind) (child_below position (slot_of name level)) (step_of kind level name) (step_leads position kind level name)

-- the terminal is the node that is reached
same_sound : (position : Position) (d t : Dag) → position ≡ top → IsWhole d → IsCheckedAt position d → terminal d ≡ terminal t → IsSound t
same_sound position d t reached w h e =
    let same : d ≡ t = cc in
    let sound : IsSound d = record { whole = w; checked = subst (λ (p : Position). IsCheckedAt p d) reached h } in
    subst (λ (x : Dag). IsSound x) same sound

mutual
  -- a walk from a node on
  walk_sound : (i depth : ℕ) (position : Position) (path : List (List ℕ)) (d t : Dag) → IsReached position path → IsWhole d → IsCheckedAt position d
      → (walk_from i position depth path d).end ≡ terminal t → IsSound t
  walk_sound i depth position path (unopened cid) t reached w h e = absurd w
  walk_sound i depth position path (bare section fault) t reached w h e = absurd w
  walk_sound i depth position [] (node section kind children) t reached w h e = same_sound position (node section kind children) t reached w h e
  walk_sound i depth position (name ∷ path) (node section kind children) t reached w h e =
      let number : ℕ = slot_of name (length (passed position)) in
      let entry_walk : ℕ → PathWalk = λ k. walk_child k (i + 1) top (depth + 1) path children in
      let child_walk : ℕ → PathWalk = λ k. walk_child k i (child_below position number) (depth + 1) (name ∷ path) children in
      let step : StepTo = step_of kind (length (passed position)) name in
      (elim step as (λ (step : StepTo).
      Leads 0 (positions position kind) (child_below position number) step → (walk_step i entry_walk child_walk step).end ≡ terminal t → IsSound t) [
        | to_entry k ↦ λ leads f. child_sound k (i + 1) (depth + 1) top path children t (positions position kind) (top_reached path) (leads_at k top (positions position kind) leads) w h.1 f
        | to_child k ↦ λ leads f.
            child_sound k i (depth + 1) (child_below position number) (name ∷ path) children t (positions position kind) tt (leads_at k (child_below position number) (positions position kind) leads) w h.1 f
        | absent ↦ λ leads f. absurd (cc)
        | not_folder_here ↦ λ leads f. absurd (cc)
      ])
      (step_leads position kind (length (passed position)) name)
      (sym (fits_end section (spot_at section.cid depth position) (position_fault position kind) (walk_step i entry_walk child_walk step) h.0.stands) ∙ e)

  -- a walk from a child on
  child_sound : (k i depth : ℕ) (position : Position) (path : List (List ℕ)) (children : Children) (t : Dag) (places : List Position) → IsReached position path
      → IsAt k position places → AreWhole children → AreCheckedAt places children → (walk_child k i position depth path children).end ≡ terminal t → IsSound t
  child_sound k i depth position path no_child t places reached at w h e = absurd (cc)
  child_sound k i depth position path (with_child d children) t [] reached at w h e = absurd h
  child_sound zero i depth position path (with_child d children) t (place ∷ places) reached at w h e =
      walk_sound i depth position path d t reached w.0 (subst (λ (p : Position). IsCheckedAt p d) at h.0) e
  child_sound (suc k) i depth position path (with_child d children) t (place ∷ places) reached at w h e = child_sound k i depth position path children t places reached at w.1 h.1 e

-- ---- what is asked at the terminal

-- the terminal of a sound DAG is sound
pub terminal_sound : (path : List (List ℕ)) (d t : Dag) → IsSound d → (path_walk path d).end ≡ terminal t → IsSound t
terminal_sound path d t sound e = walk_sound 0 1 top path d t (top_reached path) sound.whole sound.checked e

-- a traversal from a sound terminal comes through, whatever the scope
pub terminal_whole : (scope : Scope) (span : Option SpanParts) (depth : ℕ) (t : Dag) → IsSound t → (at_terminal scope span depth t).end ≡ whole
terminal_whole scopes.Block span depth (node section kind children) sound = refl
terminal_whole scopes.Block span depth _ sound = absurd sound.whole
terminal_whole scopes.Entity span depth t sound = traverse-whole (kind_reach (entity_reach span) t) top depth t sound.whole sound.checked
terminal_whole scopes.All span depth t sound = traverse-whole (kind_reach (λ section kind. all_reach kind) t) top depth t sound.whole sound.checked

-- the traversal of a query comes through
pub traversal_whole : (q : QueryParts) (d t : Dag) → IsSound d → (path_walk q.path d).end ≡ terminal t → (traversal q d).end ≡ whole
traversal_whole q d t sound e =
    let depth : ℕ = length (path_walk q.path d).sections + 1 in
    subst (λ (end : PathEnd). (from_end end q.scope q.span depth).end ≡ whole) (sym e)
    (terminal_whole q.scope q.span depth t (terminal_sound q.path d t sound e))
