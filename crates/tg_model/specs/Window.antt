-- The run of parts that a range meets.
use Rattle.std.specs.Prelude.{List, Some, map, slice_get, sum, take, true, ℕ, ◌+◌, ◌<◌, ◌≡◌, ◌≤◌, ◌⊎◌}
use Rattle.tg_model.specs.Traversal.{is_met}
use Rattle.tg_model.specs.declared.kinds.Part.{Part}

-- where the content of part `i` begins
abbrev pub offset_of : ℕ → List Part → ℕ → ℕ
offset_of inline parts i = inline + sum (map (λ p. p.size) (take i parts))

-- the range meets part `i`
pub record Meets (inline : ℕ) (parts : List Part) (low high i : ℕ) : Type 0 where
  pub part : Part
  pub here : slice_get parts i ≡ Some part
  pub met : is_met low high (offset_of inline parts i) part.size ≡ true

-- the run from `first` up to `end` begins and ends with a part that is met, and holds every one
pub record IsRun (inline : ℕ) (parts : List Part) (low high first end : ℕ) : Type 0 where
  pub begins : Meets inline parts low high first
  pub last : ℕ
  pub end_is : end ≡ last + 1
  pub ends : Meets inline parts low high last
  pub holds : (i : ℕ) → Meets inline parts low high i → (first ≤ i) × (i < end)

-- no part is met
pub record IsNoRun (inline : ℕ) (parts : List Part) (low high first end : ℕ) : Type 0 where
  pub none : (i : ℕ) → Meets inline parts low high i → ⊥
  pub first_is : first ≡ 0
  pub end_is : end ≡ 0

abbrev pub IsWindow : ℕ → List Part → ℕ → ℕ → ℕ → ℕ → Type 0
IsWindow inline parts low high first end =
    IsRun inline parts low high first end ⊎ IsNoRun inline parts low high first end
