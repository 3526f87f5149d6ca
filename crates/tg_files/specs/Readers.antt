-- Readers and writers with a place that tell their bytes.
use Rattle.std.specs.Prelude.{◌≡◌, ℕ, List, drop, take, Option, Some, None, ⊤}

-- what is left to read is what stands from the place on; bytes that are told have a place that is told
abbrev pub StandsFrom : Option ℕ → Option (List ℕ) → Option (List ℕ) → Type 0
StandsFrom place None left = ⊤
StandsFrom None (Some bytes) left = ⊥
StandsFrom (Some at) (Some bytes) left = left ≡ Some (drop at bytes)

-- what a writer holds is what stands before its place; bytes that are told have a place that is told
abbrev pub StandsTo : Option ℕ → Option (List ℕ) → Option (List ℕ) → Type 0
StandsTo place None held = ⊤
StandsTo None (Some bytes) held = ⊥
StandsTo (Some at) (Some bytes) held = held ≡ Some (take at bytes)
