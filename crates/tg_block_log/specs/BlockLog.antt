-- What a store tells that logs each section that is kept in it.
use Rattle.std.specs.Prelude.{◌≡◌, ◌++◌, ◌∷◌, [], cond, List, map, ℕ, Some, None}
use Rattle.tg_model.specs.Dag.{Section}
use Rattle.tg_model.specs.Stores.{Store, as_v1}
use Rattle.tg_model.specs.SameForm.{same_v1}

-- the block of the first section whose CID has one version 1 form with this
abbrev pub first_block : List Section → Store
first_block [] cid = None
first_block (section ∷ sections) cid = cond (same_v1 cid section.cid) (Some section.block) (first_block sections cid)

-- a section under the version 1 form of its CID
abbrev pub section_v1 : Section → Section
section_v1 section = record { cid = as_v1 section.cid; block = section.block }

-- the log has its number still, and behind what it held these sections, one after another
pub record Logged (number_old number_new : ℕ) (old new sections : List Section) : Type 0 where
  pub number : number_new ≡ number_old
  pub more : new ≡ old ++ map section_v1 sections

-- the log has its number and its sections still
pub record Searched (number_old number_new : ℕ) (old new : List Section) : Type 0 where
  pub number : number_new ≡ number_old
  pub same : new ≡ old
