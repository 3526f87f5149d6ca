-- The unsigned varints of multiformats (github.com/multiformats/unsigned-varint): groups of seven bits, the least
-- significant group first, the high bit set on every byte but the last, in the shortest spelling and at most 9 bytes.
use Rattle.std.specs.Prelude.{◌≡◌, ℕ, ◌+◌, ◌*◌, ◌%◌, ◌<◌, ◌≤◌, List, [], ◌∷◌, ◌++◌, length, take, All}

-- the number that the groups spell: the sum of the low seven bits of byte i times 128 ^ i
abbrev pub number_of : List ℕ → ℕ
number_of [] = 0
number_of (b ∷ bytes) = b % 128 + 128 * number_of bytes

-- the high bit stands on each byte: more bytes are to come after them
abbrev pub AllGoOn : List ℕ → Type 0
AllGoOn bytes = All (λ b. 128 ≤ b) bytes

-- ---- groups, where a spelling may have at most so many

-- the bytes are the one spelling of the number
pub record Groups (most number : ℕ) (bytes : List ℕ) : Type 0 where
  pub front : List ℕ
  pub last : ℕ
  pub whole : bytes ≡ front ++ last ∷ []
  pub are_bytes : All (λ b. b < 256) bytes
  pub goes_on : AllGoOn front
  pub ends : last < 128
  pub shortest : 0 < length front → 0 < last
  pub at_most : length front < most
  pub spells : number ≡ number_of bytes

-- the bytes end inside a spelling
pub record GroupsInside (most : ℕ) (bytes : List ℕ) : Type 0 where
  pub goes_on : AllGoOn bytes
  pub fewer : length bytes < most

-- so many bytes stand with the high bit set in each
pub record GroupsPast (most : ℕ) (bytes : List ℕ) : Type 0 where
  pub enough : most ≤ length bytes
  pub goes_on : AllGoOn (take most bytes)

-- a spelling of two bytes or more ends in a zero byte, so a shorter one spells the same number
pub record GroupsInZero (most : ℕ) (bytes : List ℕ) : Type 0 where
  pub front : List ℕ
  pub rest : List ℕ
  pub whole : bytes ≡ front ++ 0 ∷ rest
  pub goes_on : AllGoOn front
  pub not_alone : 0 < length front
  pub at_most : length front < most

-- ---- varints

-- the bytes are the one spelling of the number
abbrev pub VarintSpelling : ℕ → List ℕ → Type 0
VarintSpelling number bytes = Groups 9 number bytes

-- the bytes end inside a spelling of at most nine bytes
abbrev pub EndsInside : List ℕ → Type 0
EndsInside bytes = GroupsInside 9 bytes

-- nine bytes stand with the high bit set in each
abbrev pub PassesNine : List ℕ → Type 0
PassesNine bytes = GroupsPast 9 bytes

-- a spelling of two to nine bytes ends in a zero byte, so a shorter one spells the same number
abbrev pub EndsInZero : List ℕ → Type 0
EndsInZero bytes = GroupsInZero 9 bytes
