-- What is written to a pack.
use Rattle.std.specs.Prelude.{◌≡◌, ◌<◌, ◌+◌, ◌^◌, ℕ, List, [], ◌∷◌, ◌++◌, length, All, None}
use Rattle.tg_bytes.specs.Told.{grown}
use Rattle.tg_car.specs.CarText.{SectionText}
use Rattle.tg_files.specs.Packs.{Did, PackQuiet, PackRose, PackStep, PackWrite, SameContent}
use Rattle.tg_model.specs.Dag.{Section}
use Rattle.tg_model.specs.declared.stores.KeepFault.{KeepFault}
use Rattle.tg_model.specs.declared.stores.KeepFault.TheVariants as faults
use Rattle.tg_store.specs.declared.key.Key.{Key}
use Rattle.tg_store.specs.declared.place.Place.{Place}
use Rattle.tg_store.specs.Packs.{IsGrowth, in_car}

-- this text was added at the end of the pack
pub record Appended (text : List ℕ) (step : PackStep) : Type 0 where
  pub writes : List PackWrite
  pub did : Did writes step
  pub growth : All IsGrowth writes
  pub told : step.content_new ≡ grown step.content_old text

-- the pack was added to, and a write failed
pub record Torn (step : PackStep) : Type 0 where
  pub writes : List PackWrite
  pub did : Did writes step
  pub growth : All IsGrowth writes
  pub untold : step.content_new ≡ None

-- the section's text was added at the end, and its block's place under the key
pub record AddsSection (step : PackStep) (before after : List (Key × Place)) (end_old end_new : ℕ) (key : Key) (section : Section) : Type 0 where
  pub head : List ℕ
  pub text : SectionText (in_car section) (head ++ section.block)
  pub appended : Appended (head ++ section.block) step
  pub quiet : PackQuiet step
  pub places : after ≡ before ++ (key, record { offset = end_old + length head; size = length section.block }) ∷ []
  pub end : end_new ≡ (end_old + length head) + length section.block
  pub fits : end_new < 2 ^ 64

-- the section wasn't added: a write failed, or memory was wanted and nothing was written
abbrev pub IsLeftOut : PackStep → KeepFault → Type 0
IsLeftOut step faults.Failed = Torn step × PackRose step
IsLeftOut step faults.OutOfMemory = SameContent step × PackQuiet step

pub record LeavesOut (step : PackStep) (before after : List (Key × Place)) (end_old end_new : ℕ) (fault : KeepFault) : Type 0 where
  pub cause : IsLeftOut step fault
  pub places : after ≡ before
  pub end : end_new ≡ end_old
