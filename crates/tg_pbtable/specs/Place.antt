-- Places in a text, as a reader without memory gives them.
use Rattle.std.specs.Prelude.{ℕ, ◌≤◌, List, length, slice_range, Option, Some, None, ⊤}
use Rattle.tg_pbtable.specs.declared.table.Place.{Place}

-- the place lies inside the text
abbrev pub IsInside : List ℕ → Place → Type 0
IsInside text place = (place.start ≤ place.end) × (place.end ≤ length text)

abbrev pub AreInside : List ℕ → Option Place → Type 0
AreInside text None = ⊤
AreInside text (Some place) = IsInside text place

-- the bytes at a place, where there is one
abbrev pub bytes_of : List ℕ → Place → List ℕ
bytes_of text place = slice_range text place.start place.end

abbrev pub placed_bytes : List ℕ → Option Place → Option (List ℕ)
placed_bytes text None = None
placed_bytes text (Some place) = Some (bytes_of text place)
