-- The walk along a path by slots ends as the look-up by names does.
use Rattle.std.proofs.Common.{◌≡◌, ℕ, suc, ◌+◌, Bool, true, false, cond, List, [], ◌∷◌, ◌++◌, map, length, Option, Some, None, refl, sym, ap, ◌∙◌, subst, add-zero, zero-add, arith}
use Rattle.std.specs.Prelude.{◌==◌, bytes_eq}
use Rattle.std.proofs.lemmas.Bool.{eqb-true, eqb-false, cond_both}
use Rattle.tg_model_laws.proofs.SlotNames.{StandBehind, child_lacks, first_placed, lacks_other, named_before, named_behind, rest_stand, shard_stands, slot_lacks, slots_lack}
use Rattle.tg_model.specs.Content.{DirEntry, entries, entries_of_slots, named_children, slot_entries}
use Rattle.tg_model.specs.Dag.{AreWhole, Dag, IsWhole, Children, Section, with_child, no_child, node, root_cids}
use Rattle.tg_model.specs.Ends.{EndsAlike}
use Rattle.tg_model.specs.Lookup.{LookupEnd, entry_named, is_directory, is_directory_kind, lookup_below, lookup_from, lookup_in, lookup_path}
use Rattle.tg_model.specs.PathWalk.{PathWalk, Spot, spot_at, absent, child_below, entry_step, path_walk, slot_step, slots_step, to_entry, unless_misfit, walk_from, walk_child, walk_step}
use Rattle.tg_model.specs.Sound.{AreCheckedAt, IsCheckedAt, IsSound, Position, child, passed, position_by_name, position_fault, top}
use Rattle.tg_model.specs.declared.fault.BlockFault.{BlockFault}
use Rattle.tg_model.specs.declared.kinds.Entry.{Entry}
use Rattle.tg_model.specs.declared.kinds.Kind.{Kind}
use Rattle.tg_model.specs.declared.kinds.Kind.TheVariants.{Basic, Shard}
use Rattle.tg_model.specs.declared.kinds.Slot.{Slot}
use Rattle.tg_murmur.specs.NameHash.{slot_of}

-- a walk by the index of a child, where the first of these children has the index `at`
abbrev Leads : (ℕ → PathWalk) → ℕ → ℕ → Position → ℕ → List (List ℕ) → Children → Type 0
Leads walk at i position depth path children = (k : ℕ) → walk (at + k) ≡ walk_child k i position depth path children

-- to the first child
leads_first : (walk : ℕ → PathWalk) (at i : ℕ) (position : Position) (depth : ℕ) (path : List (List ℕ)) (d : Dag) (children : Children) → Leads walk at i position depth path (with_child d children) → walk_from i position depth path d ≡ walk at
leads_first walk at i position depth path d children lead = sym (lead 0) ∙ ap walk (add-zero at)

-- to the children behind it
leads_rest : (walk : ℕ → PathWalk) (at i : ℕ) (position : Position) (depth : ℕ) (path : List (List ℕ)) (d : Dag) (children : Children) → Leads walk at i position depth path (with_child d children) → Leads walk (at + 1) i position depth path children
leads_rest walk at i position depth path d children lead k =
    let next : (at + 1) + k ≡ at + suc k = omega arith in
    ap walk next ∙ lead (suc k)

-- a node that stands where it may is walked on from
fit_end : (section : Section) (spot : Spot) (fault : Option BlockFault) (walk : PathWalk) (end : LookupEnd) → fault ≡ None → EndsAlike walk.end end → EndsAlike (unless_misfit section spot fault walk).end end
fit_end section spot None walk end e h = h
fit_end section spot (Some fault) walk end e h = cc

-- two choices by one test
both_chosen : {A B : Type 0} (test : Bool) (P : A → B → Type 0) (a b : A) (x y : B) → P a x → P b y → P (cond test a b) (cond test x y)
both_chosen true P a b x y first second = first
both_chosen false P a b x y first second = second

-- a child of a shard is a directory, by its kind
child_kind : (above : List ℕ) (kind : Kind) → position_fault (child above) kind ≡ None → is_directory_kind kind ≡ true
child_kind above (Shard slots) h = refl
child_kind above _ h = cc

-- and so as a node
child_directory : (d : Dag) (above : List ℕ) → IsWhole d → IsCheckedAt (child above) d → is_directory d ≡ true
child_directory (node section kind children) above whole checked = child_kind above kind checked.0.stands
child_directory _ above whole checked = absurd whole

module _ (i : ℕ) (name : List ℕ) (path : List (List ℕ)) (next : (depth : ℕ) (d : Dag) → IsWhole d → IsCheckedAt top d → EndsAlike (walk_from (i + 1) top depth path d).end (lookup_from (i + 1) path d)) where
  -- the walk ends as the look-up from the entry on
  abbrev EndsAs : PathWalk → Option Dag → Type 0
  EndsAs walk there = EndsAlike walk.end (lookup_below i (lookup_from (i + 1) path) there)

  -- from an entry on
  entry_alike : (walk : ℕ → PathWalk) (at depth : ℕ) (d : Dag) (children : Children) → Leads walk at (i + 1) top depth path (with_child d children) → IsWhole d → IsCheckedAt top d → EndsAs (walk at) (Some d)
  entry_alike walk at depth d children lead whole checked = subst (λ (w : PathWalk). EndsAs w (Some d)) (leads_first walk at (i + 1) top depth path d children lead) (next depth d whole checked)

  -- among the entries of a directory in one block
  entries_alike : (children : Children) (es : List Entry) (at depth : ℕ) (to_entries to_children : ℕ → PathWalk) → Leads to_entries at (i + 1) top depth path children
      → AreWhole children → AreCheckedAt (map (λ entry. top) es) children → root_cids children ≡ map (λ entry. entry.cid) es
      → EndsAs (walk_step i to_entries to_children (entry_step at name es)) (entry_named name (named_children es children))
  entries_alike no_child [] at depth to_entries to_children lead whole checked links = refl
  entries_alike (with_child d children) (entry ∷ es) at depth to_entries to_children lead whole checked links =
      let rest : EndsAs (walk_step i to_entries to_children (entry_step (at + 1) name es)) (entry_named name (named_children es children)) =
      entries_alike children es (at + 1) depth to_entries to_children (leads_rest to_entries at (i + 1) top depth path d children lead) whole.1 checked.1 (cc) in
      both_chosen (bytes_eq name entry.name) (λ step there. EndsAs (walk_step i to_entries to_children step) there) (to_entry at) (entry_step (at + 1) name es) (Some d) (entry_named name (named_children es children))
      (entry_alike to_entries at depth d children lead whole.0 checked.0) rest
  entries_alike _ _ at depth to_entries to_children lead whole checked links = cc

  -- in one slot, which is an entry or a child shard
  slot_alike : (own : Option (List ℕ)) (slots : List ℕ) (d : Dag) (at : ℕ) (to_entries to_children : ℕ → PathWalk) → IsCheckedAt (position_by_name slots own) d
      → (IsCheckedAt top d → EndsAs (to_entries at) (Some d)) → (IsCheckedAt (child slots) d → EndsAs (to_children at) (entry_named name (entries d)))
      → EndsAs (walk_step i to_entries to_children (slot_step at name own)) (entry_named name (slot_entries own d (entries d)))
  slot_alike (Some other) slots d at to_entries to_children checked entry inner =
      both_chosen (bytes_eq name other) (λ step there. EndsAs (walk_step i to_entries to_children step) there) (to_entry at) absent (Some d) None (entry checked) refl
  slot_alike None slots d at to_entries to_children checked entry inner = inner checked

  -- in the slot with the name's number at this level, or else in the slots behind it
  slot_chosen : (slot : Slot) (slots : List Slot) (d : Dag) (children : Children) (above : List ℕ) (low at : ℕ) (to_entries to_children : ℕ → PathWalk) → StandBehind above low (slot ∷ slots) (with_child d children)
      → (IsCheckedAt top d → EndsAs (to_entries at) (Some d))
      → (IsCheckedAt (child (above ++ slot_of name (length above) ∷ [])) d → EndsAs (to_children at) (entry_named name (entries d)))
      → EndsAs (walk_step i to_entries to_children (slots_step (at + 1) (slot_of name (length above)) name slots)) (entry_named name (entries_of_slots slots children))
      → EndsAs (walk_step i to_entries to_children (slots_step at (slot_of name (length above)) name (slot ∷ slots))) (entry_named name (entries_of_slots (slot ∷ slots) (with_child d children)))
  slot_chosen slot slots d children above low at to_entries to_children h entry inner rest =
      let number : ℕ = slot_of name (length above) in
      let mine : List DirEntry = slot_entries slot.name d (entries d) in
      let others : List DirEntry = entries_of_slots slots children in
      let lacks = λ (s : ℕ) (ne : s ≡ number → ⊥). lacks_other name above 0 (length above) s (sym (zero-add (length above))) ne in
      cond_both (slot.slot == number) (slot_step at name slot.name) (slots_step (at + 1) number name slots) (λ step. EndsAs (walk_step i to_entries to_children step) (entry_named name (mine ++ others)))
      (λ test.
      let same : slot.slot ≡ number = eqb-true slot.slot number test in
      let none : entry_named name others ≡ None = slots_lack children slots name above (slot.slot + 1) (rest_stand above low slot slots d children h) (λ s le. lacks s (λ q. omega arith)) in
      let checked = subst (λ (n : ℕ). IsCheckedAt (position_by_name (above ++ n ∷ []) slot.name) d) same h.checked.0 in
      subst (λ (o : Option Dag). EndsAs (walk_step i to_entries to_children (slot_step at name slot.name)) o) (sym (named_before name mine others none))
      (slot_alike slot.name (above ++ number ∷ []) d at to_entries to_children checked entry inner))
      (λ test.
      let here = lacks slot.slot (eqb-false slot.slot number test) in
      let none : entry_named name mine ≡ None =
      slot_lacks slot.name name (above ++ slot.slot ∷ []) d here (first_placed above low slot slots d children h) h.checked.0 (child_lacks d name (above ++ slot.slot ∷ []) here) in
      subst (λ (o : Option Dag). EndsAs (walk_step i to_entries to_children (slots_step (at + 1) number name slots)) o) (sym (named_behind name mine others none)) rest)

  -- in a child shard
  inner_alike : (walk : ℕ → PathWalk) (at depth : ℕ) (d : Dag) (children : Children) (slots : List ℕ) → Leads walk at i (child slots) depth (name ∷ path) (with_child d children) → IsWhole d → IsCheckedAt (child slots) d
      → EndsAlike (walk_from i (child slots) depth (name ∷ path) d).end (lookup_in i (lookup_from (i + 1) path) name d (is_directory d)) → EndsAs (walk at) (entry_named name (entries d))
  inner_alike walk at depth d children slots lead whole checked h =
      subst (λ (w : PathWalk). EndsAs w (entry_named name (entries d))) (leads_first walk at i (child slots) depth (name ∷ path) d children lead)
      (subst (λ (b : Bool). EndsAlike (walk_from i (child slots) depth (name ∷ path) d).end (lookup_in i (lookup_from (i + 1) path) name d b)) (child_directory d slots whole checked) h)

  mutual
    -- from any node on
    pub node_alike : (d : Dag) (position : Position) (depth : ℕ) → IsWhole d → IsCheckedAt position d → EndsAlike (walk_from i position depth (name ∷ path) d).end (lookup_in i (lookup_from (i + 1) path) name d (is_directory d))
    node_alike (node section (Basic es) children) position depth whole checked =
        fit_end section (spot_at section.cid depth position) (position_fault position (Basic es)) _ _ checked.0.stands
        (entries_alike children es 0 (depth + 1) (λ k. walk_child k (i + 1) top (depth + 1) path children) _ (λ k. ap (λ (n : ℕ). walk_child n (i + 1) top (depth + 1) path children) (zero-add k)) whole checked.1 checked.0.links)
    node_alike (node section (Shard slots) children) position depth whole checked =
        let below : Position = child_below position (slot_of name (length (passed position))) in
        fit_end section (spot_at section.cid depth position) (position_fault position (Shard slots)) _ _ checked.0.stands
        (slots_alike children slots (passed position) 0 0 (depth + 1) (λ k. walk_child k (i + 1) top (depth + 1) path children) (λ k. walk_child k i below (depth + 1) (name ∷ path) children)
        (λ k. ap (λ (n : ℕ). walk_child n (i + 1) top (depth + 1) path children) (zero-add k)) (λ k. ap (λ (n : ℕ). walk_child n i below (depth + 1) (name ∷ path) children) (zero-add k))
        whole checked.0.links (shard_stands position section slots children checked.0 checked.1))
    node_alike (node section kind children) position depth whole checked = fit_end section (spot_at section.cid depth position) (position_fault position kind) _ _ checked.0.stands refl
    node_alike _ position depth whole checked = absurd whole

    -- among the slots of a shard
    slots_alike : (children : Children) (slots : List Slot) (above : List ℕ) (low at depth : ℕ) (to_entries to_children : ℕ → PathWalk)
        → Leads to_entries at (i + 1) top depth path children → Leads to_children at i (child (above ++ slot_of name (length above) ∷ [])) depth (name ∷ path) children
        → AreWhole children → root_cids children ≡ map (λ slot. slot.cid) slots → StandBehind above low slots children
        → EndsAs (walk_step i to_entries to_children (slots_step at (slot_of name (length above)) name slots)) (entry_named name (entries_of_slots slots children))
    slots_alike no_child [] above low at depth to_entries to_children entry_lead child_lead whole links h = refl
    slots_alike (with_child d children) (slot ∷ slots) above low at depth to_entries to_children entry_lead child_lead whole links h =
        let next_slots : List ℕ = above ++ slot_of name (length above) ∷ [] in
        slot_chosen slot slots d children above low at to_entries to_children h
        (entry_alike to_entries at depth d children entry_lead whole.0)
        (λ checked. inner_alike to_children at depth d children next_slots child_lead whole.0 checked (node_alike d (child next_slots) depth whole.0 checked))
        (slots_alike children slots above (slot.slot + 1) (at + 1) depth to_entries to_children (leads_rest to_entries at (i + 1) top depth path d children entry_lead)
        (leads_rest to_children at i (child next_slots) depth (name ∷ path) d children child_lead) whole.1 (cc) (rest_stand above low slot slots d children h))
    slots_alike _ _ above low at depth to_entries to_children entry_lead child_lead whole links h = cc

-- from a sound node on
walk_alike : (path : List (List ℕ)) (i depth : ℕ) (d : Dag) → IsWhole d → IsCheckedAt top d → EndsAlike (walk_from i top depth path d).end (lookup_from i path d)
walk_alike [] i depth (node section kind children) whole checked = refl
walk_alike [] i depth _ whole checked = absurd whole
walk_alike (name ∷ path) i depth d whole checked = node_alike i name path (walk_alike path (i + 1)) d top depth whole checked

-- and so from a sound root
pub path_alike : (d : Dag) (path : List (List ℕ)) → IsSound d → EndsAlike (path_walk path d).end (lookup_path path d)
path_alike d path h = walk_alike path 0 1 d h.whole h.checked
