-- What was made of a bundle's text, and of a front of it.
use Rattle.std.specs.Prelude.{All, List, [], length, ℕ, ◌++◌, ◌∷◌, ◌≡◌}
use Rattle.tg_bundles.specs.Reading.{IsProper}
use Rattle.tg_bundles.specs.Records.{Record, bundle_text, file, link}
use Rattle.tg_extract.specs.Extracts.{IsAtStage, IsGoodRecord, IsOfBundle, IsWhole, records_made, text_read}
use Rattle.tg_extract.specs.declared.extract.Stage.{Stage}
use Rattle.tg_extract.specs.declared.extract.Stage.TheVariants as stages
use Rattle.tg_new_tree.specs.declared.made.Made.{Made}
use Rattle.tg_new_tree.specs.declared.made.Made.TheVariants.{File}

-- of a whole bundle its records were made, in order, and nothing else
abbrev pub WholeIsMade : Type 0
WholeIsMade = (made : List Made) (stage : Stage) (records : List Record) → All IsProper records → IsAtStage made stage → IsOfBundle stage → IsWhole stage
    → text_read made stage ≡ bundle_text records → records_made made ≡ records

-- the first records were made
pub record HasFirst (made : List Made) (records : List Record) : Type 0 where
  pub more : List Record
  pub are : records ≡ records_made made ++ more

-- the first records were made, and of the file behind them the first bytes, all but so many
pub record HasFirstBytes (made : List Made) (left : ℕ) (records : List Record) : Type 0 where
  pub before : List Made
  pub path : List (List ℕ)
  pub held : List ℕ
  pub last : List ℕ
  pub more : List Record
  pub made_is : made ≡ before ++ File path held ∷ []
  pub are : records ≡ records_made before ++ file path (held ++ last) ∷ more
  pub amount : length last ≡ left

-- the first records were made, and behind them is a symbolic link at this path
pub record HasFirstLink (made : List Made) (path : List (List ℕ)) (records : List Record) : Type 0 where
  pub target : List ℕ
  pub more : List Record
  pub are : records ≡ records_made made ++ link path target ∷ more

-- the first records were made, and behind them is one that isn't made
pub record HasFirstBad (made : List Made) (records : List Record) : Type 0 where
  pub next : Record
  pub more : List Record
  pub are : records ≡ records_made made ++ next ∷ more
  pub bad : IsGoodRecord next → ⊥

abbrev pub HasBegun : List Made → Stage → List Record → Type 0
HasBegun made (stages.Waiting held) records = ⊥
HasBegun made (stages.Told terminal held) records = ⊥
HasBegun made stages.File records = ⊥
HasBegun made (stages.Line line) records = HasFirst made records
HasBegun made (stages.Content left) records = HasFirstBytes made left records
HasBegun made (stages.Link size path) records = HasFirstLink made path records
HasBegun made (stages.Bad line) records = HasFirstBad made records
HasBegun made (stages.Unended byte) records = ⊥

-- of a front of a bundle the first records were made, and of a file that isn't whole yet the first bytes; and nothing behind which a record
-- stands that isn't made
abbrev pub FrontIsMade : Type 0
FrontIsMade = (made : List Made) (stage : Stage) (records : List Record) (rest : List ℕ) → All IsProper records → IsAtStage made stage → IsOfBundle stage
    → text_read made stage ++ rest ≡ bundle_text records → HasBegun made stage records

-- of a text that is one file's bytes one file was made, at the top, of just these bytes
abbrev pub FileIsMade : Type 0
FileIsMade = (made : List Made) → IsAtStage made stages.File → made ≡ File [] (text_read made stages.File) ∷ []
