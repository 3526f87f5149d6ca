-- What a step answers at the first entry of a name, or in the slot of a number.
use Rattle.std.proofs.Common.{◌≡◌, ℕ, ◌+◌, ◌<◌, true, List, ◌∷◌, length, drop, get_or, Some, refl, sym, ap, ◌∙◌, subst}
use Rattle.std.specs.Prelude.{bytes_eq, slice_get, ◌==◌}
use Rattle.tg_cid.specs.Cid.{CidParts}
use Rattle.tg_bytes.specs.Lists.{drop_from}
use Rattle.tg_model.proofs.IndexedLists.{mapped_at}
use Rattle.tg_model.specs.PathWalk.{StepTo, entry_step, slot_step, slots_step, to_entry}
use Rattle.tg_model.specs.StepAnswers.{IsStepOver, entry_cids, slot_cids}
use Rattle.tg_model.specs.declared.kinds.Entry.{Entry}
use Rattle.tg_model.specs.declared.kinds.Slot.{Slot}
use Rattle.tg_model.specs.declared.kinds.Step.{Step}
use Rattle.tg_model.specs.declared.kinds.Step.TheVariants.{Found}

-- an entry of this name is stepped to
entry_here : (i : ℕ) (name : List ℕ) (entry : Entry) (later : List Entry) → bytes_eq name entry.name ≡ true → entry_step i name (entry ∷ later) ≡ to_entry i
entry_here i name entry later e = rw e refl

pub found_entry : (name : List ℕ) (entries : List Entry) (i : ℕ) (entry : Entry) → entry ≡ get_or entries i entry → i < length entries
    → entry_step 0 name entries ≡ entry_step i name (drop i entries) → bytes_eq name entry.name ≡ true
    → IsStepOver (entry_cids entries) (entry_step 0 name entries) (Found entry.cid)
found_entry name entries i entry is within so_far same =
    let e : entry_step 0 name entries ≡ to_entry i =
    so_far ∙ ap (entry_step i name) (drop_from entries i entry is within) ∙ entry_here i name entry (drop (i + 1) entries) same in
    subst (λ (step : StepTo). IsStepOver (entry_cids entries) step (Found entry.cid)) (sym e) (mapped_at (λ (entry : Entry). entry.cid) entries i entry is within)

-- the slot of this number is stepped into
slot_here : (i number : ℕ) (name : List ℕ) (slot : Slot) (later : List Slot) → (slot.slot == number) ≡ true
    → slots_step i number name (slot ∷ later) ≡ slot_step i name slot.name
slot_here i number name slot later e = rw e refl

pub found_slot : (number : ℕ) (name : List ℕ) (slots : List Slot) (i : ℕ) (slot : Slot) (answer : Step) → slot ≡ get_or slots i slot → i < length slots
    → slots_step 0 number name slots ≡ slots_step i number name (drop i slots) → (slot.slot == number) ≡ true
    → ((cids : List CidParts) (k : ℕ) → slice_get cids k ≡ Some slot.cid → IsStepOver cids (slot_step k name slot.name) answer)
    → IsStepOver (slot_cids slots) (slots_step 0 number name slots) answer
found_slot number name slots i slot answer is within so_far same answers =
    let e : slots_step 0 number name slots ≡ slot_step i name slot.name =
    so_far ∙ ap (slots_step i number name) (drop_from slots i slot is within) ∙ slot_here i number name slot (drop (i + 1) slots) same in
    subst (λ (step : StepTo). IsStepOver (slot_cids slots) step answer) (sym e)
    (answers (slot_cids slots) i (mapped_at (λ (slot : Slot). slot.cid) slots i slot is within))
