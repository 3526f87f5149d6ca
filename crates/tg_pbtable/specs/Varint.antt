-- The varints of protobuf messages (protobuf encoding guide, Base 128 Varints): groups of seven bits, the least
-- significant group first, the high bit set on every byte but the last. A number is below 2 ^ 64 and takes at most 10
-- bytes; only the shortest spelling is taken (this project's own rule).
use Rattle.std.specs.Prelude.{◌≡◌, ℕ, ◌^◌, ◌<◌, ◌≤◌, ◌⊎◌, List, ◌++◌}
use Rattle.tg_varint.specs.Varint.{Groups, GroupsInside, GroupsPast, GroupsInZero}

-- the bytes are the one spelling of the number
pub record VarintSpelling (number : ℕ) (bytes : List ℕ) : Type 0 where
  pub groups : Groups 10 number bytes
  pub fits : number < 2 ^ 64

-- the bytes end inside a spelling
abbrev pub EndsInside : List ℕ → Type 0
EndsInside bytes = GroupsInside 10 bytes

-- ten bytes stand with the high bit set in each
abbrev pub PassesTen : List ℕ → Type 0
PassesTen bytes = GroupsPast 10 bytes

-- a spelling of two to ten bytes ends in a zero byte, so a shorter one spells the same number
abbrev pub EndsInZero : List ℕ → Type 0
EndsInZero bytes = GroupsInZero 10 bytes

-- the bytes begin with groups that spell 2 ^ 64 or more
pub record PassesRange (bytes : List ℕ) : Type 0 where
  pub number : ℕ
  pub front : List ℕ
  pub rest : List ℕ
  pub whole : bytes ≡ front ++ rest
  pub groups : Groups 10 number front
  pub range : 2 ^ 64 ≤ number

-- the bytes begin with what is no spelling, however they go on
abbrev pub IsBadVarint : List ℕ → Type 0
IsBadVarint bytes = PassesTen bytes ⊎ (EndsInZero bytes ⊎ PassesRange bytes)
