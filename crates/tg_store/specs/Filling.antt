-- A pack that is filled by a store: the header of one that isn't finished, the sections that are kept, and at last the root
-- (CARv1 specification).
use Rattle.std.specs.Prelude.{All, List, None, Option, Some, [], map, ℕ, ⊤, ◌++◌, ◌∷◌, ◌≡◌, ◌⊎◌}
use Rattle.tg_car.specs.CarText.{CarText, HeaderText}
use Rattle.tg_car.specs.declared.section.Section.{Section as CarSection}
use Rattle.tg_cid.specs.Cid.{CidParts}
use Rattle.tg_cid.specs.Spelling.{CidBytes}
use Rattle.tg_files.specs.Packs.PackWrite.{append, overwrite, torn}
use Rattle.tg_files.specs.Packs.{Did, PackStep, PackWrite}
use Rattle.tg_model.specs.Dag.{Section}
use Rattle.tg_store.specs.Entries.{first_of_each}
use Rattle.tg_store.specs.Packs.{IsGrowth, in_car, unfinished_root}

-- the CAR with the root of the DAG, of these sections, the first under each CID
pub record IsCarOfRoot (root : CidParts) (sections : List Section) (content : List ℕ) : Type 0 where
  pub name : List ℕ
  pub spelled : CidBytes root name
  pub text : CarText ((0 ∷ name) ∷ []) (map in_car (first_of_each sections)) content

-- what was told is told
abbrev pub StaysTold : Option (List ℕ) → Option (List ℕ) → Type 0
StaysTold None now = ⊤
StaysTold (Some before) None = ⊥
StaysTold (Some before) (Some now) = ⊤

-- the pack, as far as it is told, is a CAR that isn't finished
pub record IsUnfinished (content : List ℕ) : Type 0 where
  pub sections : List CarSection
  pub text : CarText (unfinished_root ∷ []) sections content

-- bytes were added at the end of a pack, or a write failed, and nothing else was done to it
pub record Grows (step : PackStep) : Type 0 where
  pub writes : List PackWrite
  pub did : Did writes step
  pub growth : All IsGrowth writes

-- so it grew, and at last a header with the root was written over its front
pub record GrowsWithRoot (root : CidParts) (step : PackStep) : Type 0 where
  pub writes : List PackWrite
  pub growth : All IsGrowth writes
  pub name : List ℕ
  pub spelled : CidBytes root name
  pub header : List ℕ
  pub text : HeaderText ((0 ∷ name) ∷ []) header
  pub did : Did (writes ++ overwrite 0 header ∷ []) step

-- the header of a CAR that isn't finished was added, and then the pack grew
pub record IsBegun (writes : List PackWrite) : Type 0 where
  pub header : List ℕ
  pub text : HeaderText (unfinished_root ∷ []) header
  pub more : List PackWrite
  pub are : writes ≡ append header ∷ more
  pub growth : All IsGrowth more

-- what was done to a pack before its filling stopped, whether it tells its content or not: that, or its first write
-- failed
pub record StopsWriting (step : PackStep) : Type 0 where
  pub writes : List PackWrite
  pub did : Did writes step
  pub begins : (writes ≡ torn ∷ []) ⊎ IsBegun writes

-- what was done to one that was filled: at last the header got the root
pub record WritesPack (root : CidParts) (step : PackStep) : Type 0 where
  pub writes : List PackWrite
  pub begins : IsBegun writes
  pub name : List ℕ
  pub spelled : CidBytes root name
  pub header : List ℕ
  pub text : HeaderText ((0 ∷ name) ∷ []) header
  pub did : Did (writes ++ overwrite 0 header ∷ []) step
