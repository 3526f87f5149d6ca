-- A step over the entries of a directory or the slots of a shard: the last of those that are left is taken.
use Rattle.std.proofs.Common.{◌≡◌, ap, ap₂, List, None, Option, Some, length, map, option_to_list, refl, reverse, slice_index_or, sym, ℕ, [], ◌∷◌, ◌++◌, ◌-◌, ◌<◌, ◌∙◌, subst}
use Rattle.std.proofs.lemmas.List.{reverse-append}
use Rattle.tg_cid.specs.Cid.{CidParts}
use Rattle.tg_traversal.specs.Frames.{AreEntriesVisited, AreSlotsVisited, IsDone, IsOfChild, directory_at, entry_in, entry_tasks, into_tasks, met_tasks, named_entry, slot_tasks}
use Rattle.tg_traversal.specs.Places.{IsPlaceOf, directory_reach, want_of}
use Rattle.tg_traversal.specs.declared.frame.EntriesLeft.{EntriesLeft}
use Rattle.tg_traversal.specs.declared.frame.SlotsLeft.{SlotsLeft}
use Rattle.tg_traversal.specs.declared.position.Place.{Place}
use Rattle.tg_model.specs.Sound.{child}
use Rattle.tg_model.specs.Sound.{Position as Standing}
use Rattle.tg_model.specs.Traversal.{Visit, child_visit, entry_visit, slot_visit, visit_by_name}
use Rattle.tg_model.specs.Traversal.{Reach as Reaching}
use Rattle.tg_model.specs.declared.kinds.Entry.{Entry}
use Rattle.tg_model.specs.declared.kinds.Slot.{Slot}
use Rattle.tg_model_laws.specs.Tasks.{Task, child_then, children_tasks, entries_then, open_block}

-- ---- the last of a list is taken

-- what is seen as the last is what is popped
pub same_last : {X : Type 0} → (items seen : List X) (count : ℕ) (x : X) (popped : Option X) → seen ≡ items → count ≡ length items → 0 < length seen
    → x ≡ slice_index_or seen (length seen - 1) x → (0 < count → popped ≡ Some (slice_index_or items (count - 1) x)) → popped ≡ Some x
same_last items seen count x popped e n some h f =
    let same : count ≡ length seen = n ∙ ap length (sym e) in
    f (subst (λ (k : ℕ). 0 < k) (sym same) some) ∙ ap₂ (λ xs k. Some (slice_index_or xs (k - 1) x)) (sym e) same ∙ ap Some (sym h)

pub taken_last : {X : Type 0} → (old new : List X) (popped : Option X) (x : X) → old ≡ new ++ option_to_list popped → popped ≡ Some x → old ≡ new ++ x ∷ []
taken_last old new popped x e h = e ∙ ap (λ r. new ++ option_to_list r) h

-- the entry in a slot, where there is a slot
abbrev pub entry_at : Option Slot → Option Entry
entry_at None = None
entry_at (Some slot) = entry_in slot

-- ---- what is done at a link

-- the place of a child that is gone into is its task
gone_into : (depth : ℕ) (cid : CidParts) (into : Option (Reaching × Standing)) (place : Option Place) (tasks : List (Task CidParts)) → IsPlaceOf depth cid into place
    → child_then into depth cid tasks ≡ into_tasks place ++ tasks
gone_into depth cid None None tasks h = refl
gone_into depth cid None (Some place) tasks h = absurd h
gone_into depth cid (Some into) None tasks h = absurd h
gone_into depth cid (Some into) (Some place) tasks h =
    ap₂ (λ w c. open_block w c ∷ tasks) (sym (ap (want_of [] place.ask) h.1 ∙ h.2 [])) (sym h.0)

pub is_of_child : (depth : ℕ) (cid : CidParts) (into : Option (Reaching × Standing)) (place : Option Place) → IsPlaceOf depth cid into place → IsOfChild place
is_of_child depth cid into None h = tt
is_of_child depth cid None (Some place) h = absurd h
is_of_child depth cid (Some into) (Some place) h = λ path. ap (want_of path place.ask) h.1 ∙ h.2 path ∙ sym (ap (want_of [] place.ask) h.1 ∙ h.2 [])

at_entry : (path : Option (List ℕ)) (depth : ℕ) (name : List ℕ) (cid : CidParts) (into : Option Place) (tasks : List (Task CidParts))
    → IsPlaceOf depth cid (entry_visit (directory_reach path) name cid).into into
    → entries_then (entry_visit (directory_reach path) name cid).met (child_then (entry_visit (directory_reach path) name cid).into depth cid tasks)
    ≡ met_tasks (directory_at path) (Some (record { name = name; cid = cid })) ++ into_tasks into ++ tasks
at_entry None depth name cid into tasks h =
    ap (λ (behind : List (Task CidParts)). met_tasks [] (Some (record { name = name; cid = cid })) ++ behind) (gone_into depth cid None into tasks h)
at_entry (Some path) depth name cid into tasks h =
    ap (λ (behind : List (Task CidParts)). met_tasks path (Some (record { name = name; cid = cid })) ++ behind)
    (gone_into depth cid (entry_visit (directory_reach (Some path)) name cid).into into tasks h)

at_child : (path : Option (List ℕ)) (depth : ℕ) (position : Standing) (slot : ℕ) (cid : CidParts) (into : Option Place) (tasks : List (Task CidParts))
    → IsPlaceOf depth cid (child_visit (directory_reach path) position slot).into into
    → entries_then (child_visit (directory_reach path) position slot).met (child_then (child_visit (directory_reach path) position slot).into depth cid tasks)
    ≡ into_tasks into ++ tasks
at_child None depth position slot cid into tasks h = gone_into depth cid (child_visit (directory_reach None) position slot).into into tasks h
at_child (Some path) depth position slot cid into tasks h = gone_into depth cid (child_visit (directory_reach (Some path)) position slot).into into tasks h

at_slot : (path : Option (List ℕ)) (depth : ℕ) (position : Standing) (slot : ℕ) (cid : CidParts) (name : Option (List ℕ)) (into : Option Place) (tasks : List (Task CidParts))
    → IsPlaceOf depth cid (visit_by_name (directory_reach path) position slot cid name).into into
    → entries_then (visit_by_name (directory_reach path) position slot cid name).met
    (child_then (visit_by_name (directory_reach path) position slot cid name).into depth cid tasks)
    ≡ met_tasks (directory_at path) (named_entry cid name) ++ into_tasks into ++ tasks
at_slot path depth position slot cid None into tasks h = at_child path depth position slot cid into tasks h
at_slot path depth position slot cid (Some name) into tasks h = at_entry path depth name cid into tasks h

-- a child shard is gone into
child_done : (path : Option (List ℕ)) (depth : ℕ) (position : Standing) (slot : ℕ) (cid : CidParts) (into : Option Place) (old : List (Task CidParts))
    → IsPlaceOf depth cid (child_visit (directory_reach path) position slot).into into → IsDone None into old
child_done None depth position slot cid None old h = absurd h
child_done (Some path) depth position slot cid None old h = absurd h
child_done path depth position slot cid (Some place) old h = tt

slot_done : (path : Option (List ℕ)) (depth : ℕ) (position : Standing) (slot : ℕ) (cid : CidParts) (name : Option (List ℕ)) (into : Option Place) (old : List (Task CidParts))
    → IsPlaceOf depth cid (visit_by_name (directory_reach path) position slot cid name).into into → IsDone (named_entry cid name) into old
slot_done path depth position slot cid None into old h = child_done path depth position slot cid into old h
slot_done path depth position slot cid (Some name) into old h = tt

-- ---- a step

pub entry_visited : (depth size : ℕ) (old new : EntriesLeft) (entry : Entry) (into : Option Place) → size ≡ length (directory_at old.path) → new.path ≡ old.path → old.entries.items ≡ new.entries.items ++ entry ∷ []
    → IsPlaceOf depth entry.cid (entry_visit (directory_reach old.path) entry.name entry.cid).into into
    → AreEntriesVisited depth old (record { met = Some entry; into = into; directory = size }) new
entry_visited depth size old new entry into long same e h =
    let turned : reverse old.entries.items ≡ entry ∷ reverse new.entries.items = ap reverse e ∙ reverse-append new.entries.items (entry ∷ []) in
    let visit : Option (List ℕ) → Entry → Visit = λ path entry. entry_visit (directory_reach path) entry.name entry.cid in (
      same,
      record {
        first =
            ap (λ entries. children_tasks (map (visit old.path) entries) depth (map (λ (x : Entry). x.cid) entries)) turned
            ∙ ap (λ path. entries_then (visit old.path entry).met (child_then (visit old.path entry).into depth entry.cid
            (children_tasks (map (visit path) (reverse new.entries.items)) depth (map (λ (x : Entry). x.cid) (reverse new.entries.items))))) (sym same)
            ∙ at_entry old.path depth entry.name entry.cid into (entry_tasks depth new) h;
        sized = long;
        done = tt;
        of_child = is_of_child depth entry.cid (visit old.path entry).into into h;
      },
    )

pub slot_visited : (depth size : ℕ) (old new : SlotsLeft) (slot : Slot) (into : Option Place) → size ≡ length (directory_at old.path) → new.path ≡ old.path → new.above ≡ old.above
    → old.slots.items ≡ new.slots.items ++ slot ∷ []
    → IsPlaceOf depth slot.cid (slot_visit (directory_reach old.path) (child old.above) slot).into into
    → AreSlotsVisited depth old (record { met = named_entry slot.cid slot.name; into = into; directory = size }) new
slot_visited depth size old new slot into long same above e h =
    let turned : reverse old.slots.items ≡ slot ∷ reverse new.slots.items = ap reverse e ∙ reverse-append new.slots.items (slot ∷ []) in
    let visit : Option (List ℕ) → List ℕ → Slot → Visit = λ path above. slot_visit (directory_reach path) (child above) in (
      same,
      record {
        first =
            ap (λ slots. children_tasks (map (visit old.path old.above) slots) depth (map (λ (x : Slot). x.cid) slots)) turned
            ∙ ap₂ (λ path above. entries_then (visit old.path old.above slot).met (child_then (visit old.path old.above slot).into depth slot.cid
            (children_tasks (map (visit path above) (reverse new.slots.items)) depth (map (λ (x : Slot). x.cid) (reverse new.slots.items))))) (sym same) (sym above)
            ∙ at_slot old.path depth (child old.above) slot.slot slot.cid slot.name into (slot_tasks depth new) h;
        sized = long;
        done = slot_done old.path depth (child old.above) slot.slot slot.cid slot.name into (slot_tasks depth old) h;
        of_child = is_of_child depth slot.cid (visit old.path old.above slot).into into h;
      },
    )
