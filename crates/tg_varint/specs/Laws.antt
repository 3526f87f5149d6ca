-- What holds of the varints of multiformats: the laws of their spelling.
use Rattle.std.specs.Prelude.{◌≡◌, ℕ, ◌^◌, ◌<◌, ◌≤◌, ◌↔◌, List, [], ◌∷◌, ◌++◌, length, All, Some}
use Rattle.tg_varint.specs.Computed.{varint, front_number}
use Rattle.tg_varint.specs.Varint.{VarintSpelling, EndsInside, PassesNine, EndsInZero}

-- what stands at the front of bytes: the spelling of a number, the front of a spelling alone, nine bytes that go on, or
-- a spelling that isn't the shortest
pub data VarintFront : Type 0 where
  spelled : ℕ → List ℕ → VarintFront
  inside : VarintFront
  too_long : VarintFront
  not_shortest : VarintFront

abbrev pub Begins : List ℕ → VarintFront → Type 0
Begins bytes (spelled number spelling) = (rest : List ℕ) × (bytes ≡ spelling ++ rest) × VarintSpelling number spelling
Begins bytes inside = EndsInside bytes
Begins bytes too_long = PassesNine bytes
Begins bytes not_shortest = EndsInZero bytes

pub record SpellingLaws : Type 0 where
  -- a number has one spelling, no spelling begins another, and the numbers are below 2 ^ 63
  pub one_spelling : (n : ℕ) (a b : List ℕ) → VarintSpelling n a → VarintSpelling n b → a ≡ b
  pub no_front : (m n : ℕ) (a b x y : List ℕ) → VarintSpelling m a → VarintSpelling n b → a ++ x ≡ b ++ y
      → (a ≡ b) × (m ≡ n)
  pub below : (n : ℕ) (a : List ℕ) → VarintSpelling n a → n < 2 ^ 63
  -- a number below 128 is spelled by one byte, itself
  pub one_byte : (n : ℕ) → n < 128 → VarintSpelling n (n ∷ [])
  -- a number below 128 ^ k has at most k bytes
  pub at_most : (n k : ℕ) (a : List ℕ) → 0 < k → n < 128 ^ k → VarintSpelling n a → length a ≤ k
  -- of bytes exactly one of the four holds, and what follows them changes nothing but where they end inside a spelling
  pub some_front : (bytes : List ℕ) → All (λ b. b < 256) bytes → (p : VarintFront) × Begins bytes p
  pub one_front : (bytes : List ℕ) (p q : VarintFront) → Begins bytes p → Begins bytes q → p ≡ q
  pub kept : (bytes more : List ℕ) (p : VarintFront) → Begins bytes p → (p ≡ inside → ⊥) → Begins (bytes ++ more) p
  -- bytes that end inside a spelling begin one
  pub goes_on : (bytes : List ℕ) → All (λ b. b < 256) bytes → EndsInside bytes
      → (n : ℕ) × (more : List ℕ) × VarintSpelling n (bytes ++ more)
  -- `varint` computes the spelling of a number, and `front_number` the number at the front of bytes
  pub computed : (n : ℕ) → n < 2 ^ 63 → VarintSpelling n (varint n)
  pub read : (bytes : List ℕ) → All (λ b. b < 256) bytes → (n : ℕ) (rest : List ℕ)
      → (front_number bytes ≡ Some (n, rest)) ↔ ((a : List ℕ) × (bytes ≡ a ++ rest) × VarintSpelling n a)
