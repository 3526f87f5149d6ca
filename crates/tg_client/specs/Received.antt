-- The sections that stand whole in the bytes of a CAR that were heard so far (CARv1 specification, Data).
use Rattle.std.specs.Prelude.{List, [], map, ℕ, ◌∷◌, ◌≡◌}
use Rattle.tg_car.specs.CarText.{CarText}
use Rattle.tg_car.specs.History.{GoesOn}
use Rattle.tg_car.specs.declared.event.Event.{Event}
use Rattle.tg_car.specs.declared.event.Event.TheVariants as events
use Rattle.tg_car.specs.declared.section.Section.{Section as CarSection}
use Rattle.tg_model.specs.Dag.{Section}

-- a section as a CAR has it, and as a DAG has it
abbrev pub in_car : Section → CarSection
in_car section = record { cid = section.cid; block = section.block }

abbrev pub out_of_car : CarSection → Section
out_of_car section = record { cid = section.cid; block = section.block }

-- the sections among what a reader of a CAR gave
abbrev pub sections_given : List Event → List Section
sections_given [] = []
sections_given (events.Need ∷ given) = sections_given given
sections_given (events.Header header ∷ given) = sections_given given
sections_given (events.Section at size section ∷ given) = out_of_car section ∷ sections_given given

-- a CAR goes on with these bytes, none of its blocks above the limit, and these are all sections that stand whole in
-- them
pub record HasReceived (limit : ℕ) (bytes : List ℕ) (sections : List Section) : Type 0 where
  pub given : List Event
  pub goes_on : GoesOn limit bytes given
  pub sections_are : sections_given given ≡ sections

-- a CAR goes on with these bytes, and its header is whole in them
pub record HasHeader (limit : ℕ) (bytes : List ℕ) : Type 0 where
  pub event : Event
  pub given : List Event
  pub goes_on : GoesOn limit bytes (event ∷ given)

-- the bytes are a CAR of these sections, whatever roots its header has
abbrev pub IsCarOf : List ℕ → List Section → Type 0
IsCarOf bytes sections = (roots : List (List ℕ)) × CarText roots (map in_car sections) bytes
