-- A CAR given in parts, which are gathered before they are put.
use Rattle.std.specs.Prelude.{All, Err, IfSome, List, Ok, Option, Result, [], map, ⊤, ℕ, ◌++◌, ◌≡◌}
use Rattle.tg_car.specs.CarText.{SectionText, SectionsText}
use Rattle.tg_export.specs.Cars.{HasCar, HasResolved, IsGoodSection}
use Rattle.tg_export.specs.declared.fault.ExportFault.{ExportFault}
use Rattle.tg_export.specs.declared.fault.ExportFault.TheVariants as faults
use Rattle.tg_model.specs.Dag.{Section}
use Rattle.tg_model.specs.PathWalk.{whole}
use Rattle.tg_model.specs.Queries.{QueryParts}
use Rattle.tg_model.specs.Stores.{Store}
use Rattle.tg_store.specs.Packs.{in_car}
use Rattle.tg_streams.specs.Gathering.{Gave}
use Rattle.tg_streams.specs.Streams.{Output, PutFront}
use Rattle.tg_walk.specs.Walks.{HasEnded, HasWalkCause, IsFront, max_depth}

-- what was gathered before and is gathered now, and what went into out between
pub record Giving : Type 1 where
  pub old : List ℕ
  pub new : List ℕ
  pub out : Output

abbrev pub giving_in : List ℕ → List ℕ → Output → Giving
giving_in old new out = record { old = old; new = new; out = out }

-- the bytes were given
abbrev pub Gives : Giving → List ℕ → Type 0
Gives giving bytes = Gave bytes giving.old giving.new giving.out

-- out failed in what was gathered and in these bytes
abbrev pub FailsIn : Giving → List ℕ → Type 0
FailsIn giving bytes = PutFront (giving.old ++ bytes) giving.out

-- the text of a section, with which this was done
pub record HasText (section : Section) (done : List ℕ → Type 0) : Type 0 where
  pub text : List ℕ
  pub text_is : SectionText (in_car section) text
  pub is_done : done text

-- a section was given; or out failed in it, and nothing is gathered
abbrev pub SectionGiven : Section → Giving → Result ⊤ ExportFault → Type 0
SectionGiven section giving (Ok done) = HasText section (Gives giving)
SectionGiven section giving (Err fault) =
    (fault ≡ faults.SinkFault) × HasText section (FailsIn giving) × (giving.new ≡ [])

-- the texts of the sections of named blocks, of which this holds over the store, as far as it is told, and with which
-- this was done
pub record HasTexts (told : Option Store) (holds : Store → List Section → Type 0) (done : List ℕ → Type 0) : Type 0 where
  pub sections : List Section
  pub bytes : List ℕ
  pub named : All IsGoodSection sections
  pub texts : SectionsText (map in_car sections) bytes
  pub is_so : IfSome told (λ store. holds store sections)
  pub is_done : done bytes

-- how the sections behind the header end: all were given; or a front of them, with the cause of the walk's end; or out
-- failed in a front, and nothing is gathered
unfoldable pub SectionsGiven : QueryParts → Option Store → Giving → Result ⊤ ExportFault → Type 0
SectionsGiven q told giving (Ok done) =
    HasTexts told (λ store sections. HasEnded q store max_depth sections whole) (Gives giving)
SectionsGiven q told giving (Err (faults.Walk fault)) =
    HasTexts told (λ store sections. HasWalkCause q store max_depth sections fault) (Gives giving)
SectionsGiven q told giving (Err faults.SinkFault) =
    HasTexts told (λ store sections. IsFront q store sections) (FailsIn giving) × (giving.new ≡ [])
SectionsGiven q told giving (Err faults.OutOfMemory) =
    HasTexts told (λ store sections. IsFront q store sections) (Gives giving)
SectionsGiven q told giving (Err (faults.Resolve fault)) = ⊥
SectionsGiven q told giving (Err (faults.Pack fault)) = ⊥

-- how a CAR that is given ends, where the path leads to a stored block
unfoldable pub CarGiven : QueryParts → Option Store → Giving → Result ⊤ ExportFault → Type 0
CarGiven q told giving (Ok done) =
    HasCar q.root told (λ store sections. HasResolved store q × HasEnded q store max_depth sections whole) (Gives giving)
CarGiven q told giving (Err (faults.Walk fault)) =
    HasCar q.root told (λ store sections. HasResolved store q × HasWalkCause q store max_depth sections fault)
    (Gives giving)
CarGiven q told giving (Err faults.SinkFault) =
    HasCar q.root told (λ store sections. HasResolved store q × IsFront q store sections) (FailsIn giving)
    × (giving.new ≡ [])
CarGiven q told giving (Err faults.OutOfMemory) =
    HasCar q.root told (λ store sections. HasResolved store q × IsFront q store sections) (Gives giving)
CarGiven q told giving (Err (faults.Resolve fault)) = ⊥
CarGiven q told giving (Err (faults.Pack fault)) = ⊥
