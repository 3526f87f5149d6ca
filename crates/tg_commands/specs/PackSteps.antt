-- Laws of a pack to which nothing is done behind its attaching: together one step.
use Rattle.std.specs.Prelude.{◌≡◌, ◌++◌, ◌∷◌, ◌≤◌, List, Option, [], false, ℕ}
use Rattle.std.proofs.Common.{◌∙◌, subst}
use Rattle.tg_commands.specs.Exports.{IsAttachedPack}
use Rattle.tg_faults.specs.Faults.{Rose}
use Rattle.tg_files.specs.Packs.{Did, PackMeaning, PackQuiet, PackRose, PackWrite, did_joins, pack_step}
use Rattle.tg_files.specs.Packs.PackWrite.{attach}
use Rattle.tg_store.specs.Attaching.{HasCauseIn, IsRefusal}
use Rattle.tg_store.specs.declared.fault.PackFault.{PackFault}
use Rattle.tg_store.specs.declared.fault.PackFault.TheVariants as packs

module _ {P : Type 0} (m : PackMeaning P) (a b c : P) (same : m.content b ≡ m.content a) (quiet : m.faults b ≡ m.faults a) where
  pub quiet_moved : PackQuiet (pack_step m b c) → PackQuiet (pack_step m a c)
  quiet_moved q = q ∙ quiet

  rose_moved : PackRose (pack_step m b c) → PackRose (pack_step m a c)
  rose_moved r = record {
    rose = subst (λ (n : ℕ). Rose n (m.faults c)) quiet r.rose;
    counted = subst (λ (n : ℕ). n ≤ m.faults c) quiet r.counted;
  }

  cause_in : (fault : PackFault) → HasCauseIn (m.content b) fault → HasCauseIn (m.content a) fault
  cause_in fault h = subst (λ (content : Option (List ℕ)). HasCauseIn content fault) same h

  pub refusal_moved : (fault : PackFault) → IsRefusal (pack_step m b c) fault → IsRefusal (pack_step m a c) fault
  refusal_moved packs.Failed h = rose_moved h
  refusal_moved packs.OutOfMemory h = quiet_moved h
  refusal_moved (packs.NotCar at) h = (quiet_moved h.0, cause_in (packs.NotCar at) h.1)
  refusal_moved (packs.BadDigest at) h = (quiet_moved h.0, cause_in (packs.BadDigest at) h.1)
  refusal_moved packs.Unfinished h = (quiet_moved h.0, cause_in packs.Unfinished h.1)
  refusal_moved (packs.Truncated at) h = (quiet_moved h.0, cause_in (packs.Truncated at) h.1)
  refusal_moved (packs.BlockLimit at) h = (quiet_moved h.0, cause_in (packs.BlockLimit at) h.1)

-- the pack is attached, and then nothing is done to it
pub attached_step : {P : Type 0} (m : PackMeaning P) → ((a b c : P) (u v : List PackWrite) → m.did a b u → m.did b c v → m.did a c (u ++ v)) → (a b c : P)
    (path : List ℕ) → Did (attach path false ∷ []) (pack_step m a b) → Did [] (pack_step m b c) → IsAttachedPack path (pack_step m a c)
attached_step m joins a b c path did then = did_joins m joins a b c (attach path false ∷ []) [] did then

pub content_same : {P : Type 0} (m : PackMeaning P) (a b : P) (path : List ℕ) → Did (attach path false ∷ []) (pack_step m a b) → m.content b ≡ m.content a
content_same m a b path did = did.content
