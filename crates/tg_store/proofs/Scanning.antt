-- A pack that was read through, as a store.
use Rattle.std.proofs.Common.{◌≡◌, ◌⊎◌, ℕ, false, List, Option, Some, None, IfSome, refl, sym, subst, inl, inr}
use Rattle.tg_files.specs.Packs.{PackStep}
use Rattle.tg_model.specs.Stores.{Store}
use Rattle.tg_store.specs.declared.fault.PackFault.{PackFault}
use Rattle.tg_store.specs.declared.fault.PackFault.TheVariants as faults
use Rattle.tg_store.specs.declared.key.Key.{Key}
use Rattle.tg_store.specs.declared.place.Place.{Place}
use Rattle.tg_store.specs.Attaching.{HasCauseIn, HasPackCause, IsAttached, IsFound, IsRefusal}
use Rattle.tg_store.specs.AttachedPacks.{IsAttachedIn, IsGivenFor}
use Rattle.tg_store.specs.Packs.{AreSmall, IsIndexedIn, stored_in}

-- what is stored
pub attached_in : (old new : Option (List ℕ)) (places : List (Key × Place)) (end : ℕ) → new ≡ old → IsFound old places end → IsAttachedIn old (stored_in new places)
attached_in None None places end e found = refl
attached_in None (Some x) places end e found = cc e
attached_in (Some c) None places end e found = cc e
attached_in (Some c) (Some x) places end e found =
    let same : x ≡ c = cc e in
    subst (λ (l : List ℕ). IsAttachedIn (Some c) (stored_in (Some l) places)) (sym same) found.found.1

pub indexed_found : (old new : Option (List ℕ)) (places : List (Key × Place)) (end : ℕ) → new ≡ old → IsFound old places end → AreSmall places × IsIndexedIn new false places end
indexed_found None None places end e found = (found.small, tt)
indexed_found None (Some x) places end e found = cc e
indexed_found (Some c) None places end e found = cc e
indexed_found (Some c) (Some x) places end e found =
    let same : x ≡ c = cc e in
    (found.small, subst (λ (l : List ℕ). IsIndexedIn (Some l) false places end) (sym same) found.found.0)

-- no cause holds of what is attached
pub given_none : (told : Option (List ℕ)) (places : List (Key × Place)) (end : ℕ) → ((content : List ℕ) (store : Store) (fault : PackFault) → IsAttached content store → HasPackCause content fault → ⊥)
    → IsFound told places end → IfSome told (λ content. (fault : PackFault) → HasPackCause content fault → ⊥)
given_none None places end none found = tt
given_none (Some content) places end none found = λ fault cause. none content _ fault found.found.1 cause

-- and one cause of what is refused
pub given_one : (step : PackStep) (fault : PackFault) → ((content : List ℕ) (f g : PackFault) → HasPackCause content f → HasPackCause content g → f ≡ g) → IsRefusal step fault
    → IfSome step.content_old (λ content. (other : PackFault) → HasPackCause content other → IsGivenFor other fault)
given_one step fault one refusal = by step.content_old (cause fault refusal)
  where
    cause : (fault : PackFault) → IsRefusal step fault → HasCauseIn step.content_old fault ⊎ ((fault ≡ faults.Failed) ⊎ (fault ≡ faults.OutOfMemory))
    cause (faults.NotCar at) r = inl r.1
    cause (faults.BadDigest at) r = inl r.1
    cause faults.Unfinished r = inl r.1
    cause (faults.Truncated at) r = inl r.1
    cause faults.Failed r = inr (inl refl)
    cause (faults.BlockLimit at) r = inl r.1
    cause faults.OutOfMemory r = inr (inr refl)

    by : (told : Option (List ℕ)) → HasCauseIn told fault ⊎ ((fault ≡ faults.Failed) ⊎ (fault ≡ faults.OutOfMemory))
        → IfSome told (λ content. (other : PackFault) → HasPackCause content other → IsGivenFor other fault)
    by None h = tt
    by (Some content) (inl h) = λ other k. inl (one content fault other h k)
    by (Some content) (inr h) = λ other k. inr h
