-- The spelling that is computed of a number is its own, and the number that is read at the front of bytes is spelled there.
use Rattle.std.proofs.Common.{◌≡◌, ℕ, zero, suc, ◌+◌, ◌*◌, ◌/◌, ◌%◌, ◌^◌, ◌<◌, ◌≤◌, List, [], ◌∷◌, ◌++◌, length, All, Option, Some, None, refl, ap, sym, ◌∙◌, subst, arith}
use Rattle.std.specs.Prelude.{◌↔◌, nat_lt, nat_eq}
use Rattle.std.proofs.Math.Nat.{pow-succ'}
use Rattle.std.proofs.lemmas.Bool.{cond_both, cond-true, cond-false, ltb-true, ltb-false, lt-ltb, le-ltb, eqb-false, ne_eqb}
use Rattle.std.proofs.lemmas.List.Elements.{All-cons, All-head, All-tail}
use Rattle.tg_varint.specs.Computed.{varint_within, varint, before_group, number_within, front_number}
use Rattle.tg_varint.specs.GroupLaws.{group_whole, last_counts, one_byte}
use Rattle.tg_varint.specs.Varint.{number_of, AllGoOn, Groups, VarintSpelling}

last_some : (front : List ℕ) (last number : ℕ) → number ≡ number_of (front ++ last ∷ []) → last < 128 → (0 < length front → 0 < last) → 0 < number → 0 < last
last_some [] last number e l some h = omega arith
last_some (x ∷ front) last number e l some h = some (omega arith)

-- one group more in front
grouped : (most byte number : ℕ) (bytes : List ℕ) → Groups most number bytes → 128 ≤ byte → byte < 256 → 0 < number
    → Groups (suc most) (byte % 128 + 128 * number) (byte ∷ bytes)
grouped most byte number bytes s high below some = record {
  front = byte ∷ s.front;
  last = s.last;
  whole = ap (λ (t : List ℕ). byte ∷ t) s.whole;
  are_bytes = All-cons (λ (b : ℕ). b < 256) byte bytes below s.are_bytes;
  goes_on = All-cons (λ (b : ℕ). 128 ≤ b) byte s.front high s.goes_on;
  ends = s.ends;
  shortest = λ h. last_some s.front s.last number (s.spells ∙ ap number_of s.whole) s.ends s.shortest some;
  at_most = let few : length s.front < most = s.at_most in omega arith;
  spells = ap (λ (n : ℕ). byte % 128 + 128 * n) s.spells;
}

written : (more n : ℕ) → n < 128 ^ suc more → Groups (suc more) n (varint_within more n)
written zero n below = one_byte 1 n (omega arith) (omega arith)
written (suc more) n below =
    cond_both (nat_lt n 128) (n ∷ []) ((n % 128 + 128) ∷ varint_within more (n / 128)) (Groups (suc (suc more)) n)
    (λ t. one_byte (suc (suc more)) n (omega arith) (ltb-true n 128 t))
    (λ f.
    let high : 128 ≤ n = ltb-false n 128 f in
    let power : 128 ^ suc (suc more) ≡ 128 * 128 ^ suc more = pow-succ' 128 (suc more) in
    let whole : (n % 128 + 128) % 128 + 128 * (n / 128) ≡ n = omega arith in
    subst (λ (m : ℕ). Groups (suc (suc more)) m ((n % 128 + 128) ∷ varint_within more (n / 128))) whole
    (grouped (suc more) (n % 128 + 128) (n / 128) (varint_within more (n / 128)) (written more (n / 128) (omega arith)) (omega arith) (omega arith) (omega arith)))

pub writes : (n : ℕ) → n < 2 ^ 63 → VarintSpelling n (varint n)
writes n below = written 8 n (omega arith)

-- ---- reading

-- what is found at the front of bytes
record FoundWithin (more : ℕ) (bytes : List ℕ) (n : ℕ) (rest : List ℕ) : Type 0 where
  spelling : List ℕ
  whole : bytes ≡ spelling ++ rest
  spelled : Groups (suc more) n spelling

abbrev Told : ℕ → List ℕ → Option (ℕ × List ℕ) → Type 0
Told more bytes o = (n : ℕ) (rest : List ℕ) → o ≡ Some (n, rest) → FoundWithin more bytes n rest

none_told : (more : ℕ) (bytes : List ℕ) → Told more bytes None
none_told more bytes n rest e = absurd cc

pair_is : (m n : ℕ) (s t : List ℕ) → ◌≡◌ {A = Option (ℕ × List ℕ)} (Some (m, s)) (Some (n, t)) → (m ≡ n) × (s ≡ t)
pair_is m n s t e =
    let pairs : ◌≡◌ {A = ℕ × List ℕ} (m, s) (n, t) = cc in
    (ap (λ (p : ℕ × List ℕ). p.0) pairs, ap (λ (p : ℕ × List ℕ). p.1) pairs)

some_told : (more : ℕ) (bytes : List ℕ) (n : ℕ) (rest : List ℕ) → FoundWithin more bytes n rest → Told more bytes (Some (n, rest))
some_told more bytes n rest f m t e =
    let same = pair_is n m rest t e in
    subst (λ (k : ℕ). FoundWithin more bytes k t) same.0 (subst (λ (l : List ℕ). FoundWithin more bytes n l) same.1 f)

alone_found : (more byte : ℕ) (bytes : List ℕ) → byte < 128 → FoundWithin more (byte ∷ bytes) byte bytes
alone_found more byte bytes l = record { spelling = byte ∷ []; whole = refl; spelled = one_byte (suc more) byte (omega arith) l }

group_told : (more byte : ℕ) (bytes : List ℕ) (o : Option (ℕ × List ℕ)) → 128 ≤ byte → byte < 256 → Told more bytes o
    → Told (suc more) (byte ∷ bytes) (before_group byte o)
group_told more byte bytes None high below h = none_told (suc more) (byte ∷ bytes)
group_told more byte bytes (Some p) high below h =
    cond_both (nat_eq p.0 0) None (Some (byte % 128 + 128 * p.0, p.1)) (Told (suc more) (byte ∷ bytes))
    (λ t. none_told (suc more) (byte ∷ bytes))
    (λ f.
    let inner : FoundWithin more bytes p.0 p.1 = h p.0 p.1 refl in
    let some : p.0 ≡ 0 → ⊥ = eqb-false p.0 0 f in
    some_told (suc more) (byte ∷ bytes) (byte % 128 + 128 * p.0) p.1 (record {
      spelling = byte ∷ inner.spelling;
      whole = ap (λ (t : List ℕ). byte ∷ t) inner.whole;
      spelled = grouped (suc more) byte p.0 inner.spelling inner.spelled high below (omega arith);
    }))

told : (more : ℕ) (bytes : List ℕ) → All (λ b. b < 256) bytes → Told more bytes (number_within more bytes)
told zero [] are = none_told zero []
told (suc more) [] are = none_told (suc more) []
told zero (byte ∷ bytes) are =
    cond_both (nat_lt byte 128) (Some (byte, bytes)) None (Told zero (byte ∷ bytes))
    (λ t. some_told zero (byte ∷ bytes) byte bytes (alone_found zero byte bytes (ltb-true byte 128 t)))
    (λ f. none_told zero (byte ∷ bytes))
told (suc more) (byte ∷ bytes) are =
    cond_both (nat_lt byte 128) (Some (byte, bytes)) (before_group byte (number_within more bytes)) (Told (suc more) (byte ∷ bytes))
    (λ t. some_told (suc more) (byte ∷ bytes) byte bytes (alone_found (suc more) byte bytes (ltb-true byte 128 t)))
    (λ f. group_told more byte bytes (number_within more bytes) (ltb-false byte 128 f) (All-head (λ (b : ℕ). b < 256) byte bytes are)
    (told more bytes (All-tail (λ (b : ℕ). b < 256) byte bytes are)))

found : (more : ℕ) (front : List ℕ) (last : ℕ) (rest : List ℕ) → AllGoOn front → last < 128 → (0 < length front → 0 < last) → length front ≤ more
    → number_within more (front ++ last ∷ rest) ≡ Some (number_of (front ++ last ∷ []), rest)
found zero [] last rest g l some few =
    cond-true (nat_lt last 128) (Some (last, rest)) None (lt-ltb last 128 l) ∙ ap (λ (n : ℕ). Some (n, rest)) (omega arith)
found (suc more) [] last rest g l some few =
    cond-true (nat_lt last 128) (Some (last, rest)) (before_group last (number_within more rest)) (lt-ltb last 128 l) ∙ ap (λ (n : ℕ). Some (n, rest)) (omega arith)
found zero (x ∷ front) last rest g l some few = absurd (omega arith)
found (suc more) (x ∷ front) last rest g l some few =
    let high : 128 ≤ x = All-head (λ (b : ℕ). 128 ≤ b) x front g in
    let above : 0 < last = some (omega arith) in
    let inner : number_within more (front ++ last ∷ rest) ≡ Some (number_of (front ++ last ∷ []), rest) =
    found more front last rest (All-tail (λ (b : ℕ). 128 ≤ b) x front g) l (λ h. above) (omega arith) in
    let number : 0 < number_of (front ++ last ∷ []) = last_counts front last above l in
    let not_zero : number_of (front ++ last ∷ []) ≡ 0 → ⊥ = λ e. omega arith in
    cond-false (nat_lt x 128) (Some (x, front ++ last ∷ rest)) (before_group x (number_within more (front ++ last ∷ rest))) (le-ltb x 128 high)
    ∙ ap (before_group x) inner
    ∙ cond-false (nat_eq (number_of (front ++ last ∷ [])) 0) None (Some (x % 128 + 128 * number_of (front ++ last ∷ []), rest))
    (ne_eqb (number_of (front ++ last ∷ [])) 0 not_zero)

spelled_found : (n : ℕ) (a rest : List ℕ) → VarintSpelling n a → front_number (a ++ rest) ≡ Some (n, rest)
spelled_found n a rest v =
    ap front_number (group_whole n a rest v)
    ∙ found 8 v.front v.last rest v.goes_on v.ends v.shortest (let few : length v.front < 9 = v.at_most in omega arith)
    ∙ ap (λ (m : ℕ). Some (m, rest)) (ap number_of (sym v.whole) ∙ sym v.spells)

pub reads : (bytes : List ℕ) → All (λ b. b < 256) bytes → (n : ℕ) (rest : List ℕ)
    → (front_number bytes ≡ Some (n, rest)) ↔ ((a : List ℕ) × (bytes ≡ a ++ rest) × VarintSpelling n a)
reads bytes are n rest = (
  λ e. let f = told 8 bytes are n rest e in (f.spelling, f.whole, f.spelled),
  λ h. ap front_number h.1 ∙ spelled_found n h.0 rest h.2,
)
