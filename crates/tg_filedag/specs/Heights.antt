-- How high the subtrees stand that wait to be linked.
use Rattle.std.specs.Prelude.{List, length, slice_index, ℕ, ◌+◌, ◌<◌, ◌≡◌, ◌≤◌}

-- the heights never rise
abbrev pub IsFalling : List ℕ → Type 0
IsFalling heights = (i j : ℕ) → i ≤ j → j < length heights → slice_index heights j ≤ slice_index heights i

-- of the first so many of these falling heights fewer than `width` are equal: of `width` in a row the last is less than
-- the first
abbrev pub HasFew : ℕ → List ℕ → ℕ → Type 0
HasFew width heights number = (i j : ℕ) → i + width ≡ j + 1 → j < number → slice_index heights j < slice_index heights i
