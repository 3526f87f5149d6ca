-- One spelling of a number, and one number at the front of bytes.
use Rattle.std.proofs.Common.{◌≡◌, ℕ, zero, suc, ◌+◌, ◌*◌, ◌%◌, ◌^◌, ◌<◌, ◌≤◌, ◌≢◌, List, [], ◌∷◌, ◌++◌, length, slice_get, Some, take, drop, get_or, refl, sym, ap, ap₂, ◌∙◌, subst, inl, inr, arith}
use Rattle.std.specs.Prelude.{All}
use Rattle.std.proofs.Math.Nat.{pow-succ'}
use Rattle.std.proofs.Math.Pow.{pow_mono}
use Rattle.std.proofs.lemmas.Bool.{cases_lt}
use Rattle.std.proofs.lemmas.List.{length-take-le, take-append-drop, take_more}
use Rattle.std.proofs.lemmas.List.Elements.{All-more}
use Rattle.std.proofs.lemmas.Nat.{pow-add, shl_whole, shl_below}
use Rattle.tg_pbtable.specs.Reading.{IsVarintAt}
use Rattle.tg_pbtable.specs.Varint.{VarintSpelling, EndsInside, IsBadVarint}
use Rattle.tg_varint.specs.GroupLaws.{group_at, inside_group, inside_past, inside_zero, number_append, number_below, one_byte, one_group, past_group, same_groups, zero_at, zero_group}
use Rattle.tg_varint.specs.Varint.{number_of, AllGoOn}

-- ---- the number

-- a group's weight, as a power of 2
pub weight_is : (n : ℕ) → 128 ^ n ≡ 2 ^ (7 * n)
weight_is zero = refl
weight_is (suc n) =
    let e : 7 * suc n ≡ 7 + 7 * n = omega arith in
    pow-succ' 128 n ∙ ap (λ (k : ℕ). 128 * k) (weight_is n) ∙ sym (ap (λ (k : ℕ). 2 ^ k) e ∙ pow-add 2 7 (7 * n))

pub number_push : (a : List ℕ) (b : ℕ) → number_of (a ++ b ∷ []) ≡ number_of a + (b % 128) * 2 ^ (7 * length a)
number_push a b =
    let e : number_of (b ∷ []) ≡ b % 128 = omega arith in
    number_append a (b ∷ []) ∙ ap₂ (λ (w g : ℕ). number_of a + w * g) (weight_is (length a)) e ∙ omega arith

-- ---- what stands at the front is one of three

pub one_number : (m n : ℕ) (a b r s : List ℕ) → VarintSpelling m a → VarintSpelling n b → a ++ r ≡ b ++ s → (m ≡ n) × (a ≡ b) × (r ≡ s)
one_number m n a b r s v w e = one_group m n a b r s v.groups w.groups e

pub short_number : (n : ℕ) (a r bytes : List ℕ) → EndsInside bytes → VarintSpelling n a → bytes ≡ a ++ r → ⊥
short_number n a r bytes h v e = inside_group n a r bytes h v.groups e

pub short_bad : (bytes : List ℕ) → EndsInside bytes → IsBadVarint bytes → ⊥
short_bad bytes h bad = elim bad [
  | inl ten ↦ inside_past bytes h ten
  | inr more ↦ elim more [
    | inl z ↦ inside_zero bytes h z
    | inr p ↦ inside_group p.number p.front p.rest bytes h p.groups p.whole
  ]
]

pub bad_number : (n : ℕ) (a r bytes : List ℕ) → IsBadVarint bytes → VarintSpelling n a → bytes ≡ a ++ r → ⊥
bad_number n a r bytes bad v e = elim bad [
  | inl ten ↦ past_group n a r bytes ten v.groups e
  | inr more ↦ elim more [
    | inl z ↦ zero_group n a r bytes z v.groups e
    | inr p ↦
        let same = one_group p.number n p.front a p.rest r p.groups v.groups (sym p.whole ∙ e) in
        let number : p.number ≡ n = same.0 in
        omega (arith, p.range, v.fits)
  ]
]

-- ---- a number has one spelling

pub same_bytes : (n : ℕ) (a b : List ℕ) → VarintSpelling n a → VarintSpelling n b → a ≡ b
same_bytes n a b v w = same_groups n a b v.groups w.groups

-- ---- what a loop over the bytes finds

pub go_on : (bytes : List ℕ) (i byte : ℕ) → i < length bytes → AllGoOn (take i bytes) → 128 ≤ byte → byte ≡ get_or bytes i 0 → AllGoOn (take (i + 1) bytes)
go_on bytes i byte l on high here = All-more (λ (b : ℕ). 128 ≤ b) bytes i 0 l on (subst (λ (b : ℕ). 128 ≤ b) here high)

-- the sum of one group more
number_more : (bytes : List ℕ) (i byte : ℕ) → i < length bytes → byte ≡ get_or bytes i 0
    → number_of (take (i + 1) bytes) ≡ number_of (take i bytes) + (byte % 128) * 2 ^ (7 * i)
number_more bytes i byte l here =
    let size : length (take i bytes) ≡ i = length-take-le i bytes (omega arith) in
    ap number_of (take_more bytes i 0 l)
    ∙ ap (λ (b : ℕ). number_of (take i bytes ++ b ∷ [])) (sym here)
    ∙ number_push (take i bytes) byte
    ∙ ap (λ (n : ℕ). number_of (take i bytes) + (byte % 128) * 2 ^ (7 * n)) size

-- the tenth group adds one bit at most
pub bad_at_nine : (bytes : List ℕ) (byte : ℕ) → 9 < length bytes → All (λ (b : ℕ). b < 256) bytes → AllGoOn (take 9 bytes) → byte ≡ get_or bytes 9 0 → byte ≢ 1 → IsBadVarint bytes
bad_at_nine bytes byte l are on here other = elim (cases_lt byte 128) [
  | inr high ↦ inl (record { enough = omega arith; goes_on = go_on bytes 9 byte l on high here })
  | inl low ↦ elim (cases_lt 0 byte) [
    | inr none ↦
        let zero_is : byte ≡ 0 = omega arith in
        inr (inl (zero_at 10 bytes 9 l (omega arith) on (sym here ∙ zero_is) (omega arith)))
    | inl some ↦
        let front = take (9 + 1) bytes in
        let sum : number_of front ≡ number_of (take 9 bytes) + (byte % 128) * 2 ^ (7 * 9) = number_more bytes 9 byte l here in
        inr (inr (record {
          number = number_of front;
          front = front;
          rest = drop (9 + 1) bytes;
          whole = sym (take-append-drop (9 + 1) bytes);
          groups = group_at 10 bytes 9 (number_of front) are l (omega arith) on (omega arith) (λ _. omega arith) refl;
          range = omega arith;
        }))
  ]
]

-- ---- the sum

group_whole_number : (i byte : ℕ) → i < 10 → (i ≡ 9 → byte ≡ 1) → (byte % 128 * 2 ^ (7 * i)) % 2 ^ 64 ≡ byte % 128 * 2 ^ (7 * i)
group_whole_number i byte few last = elim (cases_lt i 9) [
  | inl lt ↦ shl_whole (byte % 128) 7 (7 * i) 64 (omega arith) (omega arith)
  | inr ge ↦
      let nine : 9 ≡ i = omega arith in
      let one : 1 ≡ byte = sym (last (sym nine)) in
      subst (λ (n : ℕ). (byte % 128 * 2 ^ (7 * n)) % 2 ^ 64 ≡ byte % 128 * 2 ^ (7 * n)) nine (subst (λ (b : ℕ). (b % 128 * 2 ^ (7 * 9)) % 2 ^ 64 ≡ b % 128 * 2 ^ (7 * 9)) one refl)
]

front_below : (bytes : List ℕ) (i : ℕ) → i ≤ length bytes → number_of (take i bytes) < 2 ^ (7 * i)
front_below bytes i l =
    subst (λ (w : ℕ). number_of (take i bytes) < w) (weight_is i)
    (subst (λ (n : ℕ). number_of (take i bytes) < 128 ^ n) (length-take-le i bytes l) (number_below (take i bytes)))

pub sum_fits : (bytes : List ℕ) (i byte number : ℕ) → i < length bytes → i < 10 → (i ≡ 9 → byte ≡ 1) → number ≡ number_of (take i bytes) → number + (byte % 128 * 2 ^ (7 * i)) % 2 ^ 64 < 2 ^ 64
sum_fits bytes i byte number l few last e =
    let below : number_of (take i bytes) < 2 ^ (7 * i) = front_below bytes i (omega arith) in
    let exact : (byte % 128 * 2 ^ (7 * i)) % 2 ^ 64 ≡ byte % 128 * 2 ^ (7 * i) = group_whole_number i byte few last in
    elim (cases_lt i 9) [
      | inl lt ↦
          let small : 2 ^ (7 * i) ≤ 2 ^ 56 = pow_mono {i = 7 * i} {j = 56} (omega arith) in
          let low : byte % 128 < 2 ^ 7 = omega arith in
          let high : byte % 128 * 2 ^ (7 * i) < 2 ^ (7 + 7 * i) = shl_below (byte % 128) 7 (7 * i) low in
          let most : 2 ^ (7 + 7 * i) ≤ 2 ^ 63 = pow_mono {i = 7 + 7 * i} {j = 63} (omega arith) in
          omega arith
      | inr ge ↦
          let nine : i ≡ 9 = omega arith in
          let one : byte % 128 ≡ 1 = ap (λ (b : ℕ). b % 128) (last nine) in
          let small : 2 ^ (7 * i) ≡ 2 ^ 63 = ap (λ (n : ℕ). 2 ^ (7 * n)) nine in
          let high : byte % 128 * 2 ^ (7 * i) ≡ 1 * 2 ^ 63 = ap₂ (λ (a b : ℕ). a * b) one small in
          omega arith
    ]

pub sum_is : (bytes : List ℕ) (i byte number : ℕ) → i < length bytes → i < 10 → (i ≡ 9 → byte ≡ 1) → number ≡ number_of (take i bytes) → byte ≡ get_or bytes i 0
    → number + (byte % 128 * 2 ^ (7 * i)) % 2 ^ 64 ≡ number_of (take (i + 1) bytes)
sum_is bytes i byte number l few last e here =
    ap₂ (λ (a b : ℕ). a + b) e (group_whole_number i byte few last) ∙ sym (number_more bytes i byte l here)

pub bad_at : (bytes : List ℕ) (i byte : ℕ) → i ≡ 9 → i < length bytes → All (λ (b : ℕ). b < 256) bytes → AllGoOn (take i bytes) → byte ≡ get_or bytes i 0 → byte ≢ 1 → IsBadVarint bytes
bad_at bytes i byte nine l are on here other =
    bad_at_nine bytes byte (omega arith) are (subst (λ (n : ℕ). AllGoOn (take n bytes)) nine on) (here ∙ ap (λ (n : ℕ). get_or bytes n 0) nine) other

pub spelled_at : (bytes : List ℕ) (i byte number : ℕ) → i < length bytes → All (λ (b : ℕ). b < 256) bytes → AllGoOn (take i bytes) → i < 10 → (i ≡ 9 → byte ≡ 1) → byte < 128 → (0 < i → 0 < byte) → number ≡ number_of (take i bytes) → byte ≡ get_or bytes i 0
    → IsVarintAt bytes (number + (byte % 128 * 2 ^ (7 * i)) % 2 ^ 64) (i + 1)
spelled_at bytes i byte number l are on few last low short e here = record {
  inside = omega arith;
  spells = record {
    groups = group_at 10 bytes i (number + (byte % 128 * 2 ^ (7 * i)) % 2 ^ 64) are l few on (omega arith) (λ p. let some : 0 < byte = short p in omega arith)
        (sum_is bytes i byte number l few last e here);
    fits = sum_fits bytes i byte number l few last e;
  };
}

-- a byte without the high bit spells itself
pub byte_alone : (bytes : List ℕ) (byte : ℕ) → slice_get bytes 0 ≡ Some byte → byte < 128 → IsVarintAt bytes byte 1
byte_alone [] byte e l = absurd (cc)
byte_alone (b ∷ bytes) byte e l =
    let same : b ≡ byte = cc in
    let low : b < 128 = omega arith in
    subst (λ (n : ℕ). IsVarintAt (b ∷ bytes) n 1) same (record {
      inside = omega arith;
      spells = record { groups = one_byte 10 b (omega arith) low; fits = omega arith };
    })
