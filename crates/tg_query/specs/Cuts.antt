-- Texts that are cut at a byte.
use Rattle.std.specs.List.{filter, slice_split}
use Rattle.std.specs.Prelude.{All, List, None, Option, Some, [], if◌then◌else◌, length, not, ℕ, ◌++◌, ◌==◌, ◌∷◌, ◌≡◌}
use Rattle.std.specs.Prelude.{◌≢◌}

-- the parts between the places where the byte stands
abbrev pub cut_at : ℕ → List ℕ → List (List ℕ)
cut_at byte text = slice_split (λ b. b == byte) text

-- the parts that aren't empty
abbrev pub parts_at : ℕ → List ℕ → List (List ℕ)
parts_at byte text = filter (λ part. not (length part == 0)) (cut_at byte text)

-- one byte more in front of the first part
abbrev pub in_front : ℕ → List ℕ × Option (List ℕ) → List ℕ × Option (List ℕ)
in_front b parts = (b ∷ parts.0, parts.1)

-- what stands before the first place of the byte, and what stands behind it, where there is one
abbrev pub cut_first : ℕ → List ℕ → List ℕ × Option (List ℕ)
cut_first byte [] = ([], None)
cut_first byte (b ∷ text) = if b == byte then ([], Some text) else in_front b (cut_first byte text)

-- the byte and what stands behind it, where there is one
abbrev pub behind : ℕ → Option (List ℕ) → List ℕ
behind byte None = []
behind byte (Some rest) = byte ∷ rest

-- the text is a front without the byte, and where there is a rest, the byte and the rest
pub record IsCut (byte : ℕ) (text front : List ℕ) (rest : Option (List ℕ)) : Type 0 where
  pub whole : text ≡ front ++ behind byte rest
  pub none : All (λ b. b ≢ byte) front

-- what stands behind a front, where the text begins with it
abbrev pub behind_front : List ℕ → List ℕ → Option (List ℕ)
behind_front [] text = Some text
behind_front (f ∷ front) [] = None
behind_front (f ∷ front) (b ∷ text) = if b == f then behind_front front text else None
