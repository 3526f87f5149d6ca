-- Sections of CARs and of DAGs, and those that a reader of a CAR gave.
use Rattle.std.proofs.Common.{◌≡◌, ℕ, ◌+◌, List, [], ◌∷◌, length, map, refl, ap, ◌∙◌}
use Rattle.tg_car.specs.CarText.{SectionsText}
use Rattle.tg_car.specs.Faults.{shown}
use Rattle.tg_car.specs.History.{ArePlaced, IsAmongSections}
use Rattle.tg_car.specs.declared.event.Event.{Event}
use Rattle.tg_car.specs.declared.event.Event.TheVariants as events
use Rattle.tg_car.specs.declared.section.Section.{Section as CarSection}
use Rattle.tg_model.specs.Dag.{Section}
use Rattle.tg_client.specs.Received.{in_car, out_of_car, sections_given}

pub back_again : (sections : List Section) → map out_of_car (map in_car sections) ≡ sections
back_again [] = refl
back_again (s ∷ sections) = ap (λ (l : List Section). s ∷ l) (back_again sections)

-- the sections among what is given of texts of sections
pub placed_sections : (at : ℕ) (sections : List CarSection) (bytes : List ℕ) (given : List Event) → ArePlaced at sections bytes given
    → sections_given given ≡ map out_of_car sections
placed_sections at [] bytes given h = ap sections_given h.1
placed_sections at (s ∷ sections) bytes given h =
    ap sections_given h.5
    ∙ ap (λ (l : List Section). out_of_car s ∷ l) (placed_sections (at + length h.0) sections h.1 h.2 h.6)

-- the sections that a reader gave among sections are those that the bytes reach
pub among_sections : (limit : ℕ) (bytes : List ℕ) (given : List Event) (rest : List ℕ) → (a : IsAmongSections limit bytes given rest)
    → sections_given given ≡ map out_of_car a.sections
among_sections limit bytes given rest a =
    ap sections_given a.given_is ∙ placed_sections (length a.reaches.header) a.sections a.reaches.done a.placed a.placed_are

-- the texts of sections are given in some way
pub placing : (at : ℕ) (sections : List CarSection) (bytes : List ℕ) → SectionsText sections bytes
    → (given : List Event) × ArePlaced at sections bytes given
placing at [] bytes h = ([], (h, refl))
placing at (s ∷ sections) bytes h =
    let rest = placing (at + length h.0) sections h.1 h.4 in
    (events.Section (shown at) (length h.0) s ∷ rest.0, (h.0, h.1, rest.0, h.2, h.3, refl, rest.1))
