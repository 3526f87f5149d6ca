-- What stands at the front of bytes: one of four, and one alone.
use Rattle.std.proofs.Common.{◌≡◌, ℕ, zero, suc, ◌<◌, ◌≤◌, List, [], ◌∷◌, ◌++◌, length, take, All, refl, ap, ap₂, sym, ◌∙◌, subst, inl, inr, arith}
use Rattle.std.proofs.lemmas.Bool.{cases_lt}
use Rattle.std.proofs.lemmas.List.{append_assoc, length-append, take-append-le, take_at}
use Rattle.std.proofs.lemmas.List.Elements.{All-cons, All-append, All-nil, All-take}
use Rattle.tg_varint.specs.Laws.{VarintFront, Begins}
use Rattle.tg_varint.specs.Laws.VarintFront.{spelled, inside, too_long, not_shortest}
use Rattle.tg_varint.specs.GroupLaws.{one_group, inside_group, past_group, zero_group, inside_past, inside_zero, past_zero, one_byte}
use Rattle.tg_varint.specs.Varint.{number_of, AllGoOn, VarintSpelling, EndsInside}

-- ---- at most one

pub one_front : (bytes : List ℕ) (p q : VarintFront) → Begins bytes p → Begins bytes q → p ≡ q
one_front bytes (spelled m a) (spelled n b) h k =
    let one = one_group m n a b h.0 k.0 h.2 k.2 (sym h.1 ∙ k.1) in
    ap₂ spelled one.0 one.1
one_front bytes (spelled m a) inside h k = absurd (inside_group m a h.0 bytes k h.2 h.1)
one_front bytes (spelled m a) too_long h k = absurd (past_group m a h.0 bytes k h.2 h.1)
one_front bytes (spelled m a) not_shortest h k = absurd (zero_group m a h.0 bytes k h.2 h.1)
one_front bytes inside (spelled n b) h k = absurd (inside_group n b k.0 bytes h k.2 k.1)
one_front bytes inside inside h k = refl
one_front bytes inside too_long h k = absurd (inside_past bytes h k)
one_front bytes inside not_shortest h k = absurd (inside_zero bytes h k)
one_front bytes too_long (spelled n b) h k = absurd (past_group n b k.0 bytes h k.2 k.1)
one_front bytes too_long inside h k = absurd (inside_past bytes k h)
one_front bytes too_long too_long h k = refl
one_front bytes too_long not_shortest h k = absurd (past_zero bytes h k)
one_front bytes not_shortest (spelled n b) h k = absurd (zero_group n b k.0 bytes h k.2 k.1)
one_front bytes not_shortest inside h k = absurd (inside_zero bytes k h)
one_front bytes not_shortest too_long h k = absurd (past_zero bytes k h)
one_front bytes not_shortest not_shortest h k = refl

-- ---- one at least

-- the bytes that go on, and the first one that doesn't
data Parted (bytes : List ℕ) : Type 0 where
  all : AllGoOn bytes → Parted bytes
  parted : (front : List ℕ) (last : ℕ) (rest : List ℕ) → bytes ≡ front ++ last ∷ rest → AllGoOn front → last < 128 → Parted bytes

part : (bytes : List ℕ) → Parted bytes
part [] = all (All-nil (λ (b : ℕ). 128 ≤ b))
part (b ∷ bytes) = elim (cases_lt b 128) [
  | inl low ↦ parted [] b bytes refl (All-nil (λ (b : ℕ). 128 ≤ b)) low
  | inr high ↦ elim (part bytes) [
    | all g ↦ all (All-cons (λ (b : ℕ). 128 ≤ b) b bytes high g)
    | parted front last rest e g l ↦
        parted (b ∷ front) last rest (ap (λ (t : List ℕ). b ∷ t) e) (All-cons (λ (b : ℕ). 128 ≤ b) b front high g) l
  ]
]

front_bytes : (a b : List ℕ) → All (λ b. b < 256) (a ++ b) → All (λ b. b < 256) a
front_bytes a b h = subst (λ (t : List ℕ). All (λ (n : ℕ). n < 256) t) (take_at a b (length a) refl) (All-take (λ (n : ℕ). n < 256) (length a) (a ++ b) h)

one_more : (front : List ℕ) (last : ℕ) → All (λ b. b < 256) (front ++ last ∷ []) → AllGoOn front → last < 128
    → (0 < length front → 0 < last) → length front < 9 → VarintSpelling (number_of (front ++ last ∷ [])) (front ++ last ∷ [])
one_more front last are g l some few = record {
  front = front;
  last = last;
  whole = refl;
  are_bytes = are;
  goes_on = g;
  ends = l;
  shortest = some;
  at_most = few;
  spells = refl;
}

-- a byte below 128 at one of the first nine places
stop_begins : (bytes front : List ℕ) (last : ℕ) (rest : List ℕ) → All (λ b. b < 256) bytes → bytes ≡ front ++ last ∷ rest
    → AllGoOn front → last < 128 → length front < 9 → (p : VarintFront) × Begins bytes p
stop_begins bytes [] last rest are e g l few =
    let whole : bytes ≡ (last ∷ []) ++ rest = e in (
      spelled (number_of (last ∷ [])) (last ∷ []),
      (rest, whole, one_more [] last (front_bytes (last ∷ []) rest (subst (λ (t : List ℕ). All (λ b. b < 256) t) e are)) g l (λ h. absurd (omega arith)) few),
    )
stop_begins bytes (x ∷ front) zero rest are e g l few =
    (not_shortest, record { front = x ∷ front; rest = rest; whole = e; goes_on = g; not_alone = omega arith; at_most = few })
stop_begins bytes (x ∷ front) (suc last) rest are e g l few =
    let whole : bytes ≡ (x ∷ front ++ suc last ∷ []) ++ rest = e ∙ sym (append_assoc (x ∷ front) (suc last ∷ []) rest) in (
      spelled (number_of (x ∷ front ++ suc last ∷ [])) (x ∷ front ++ suc last ∷ []),
      (
        rest,
        whole,
        one_more (x ∷ front) (suc last) (front_bytes (x ∷ front ++ suc last ∷ []) rest (subst (λ (t : List ℕ). All (λ b. b < 256) t) whole are)) g l
            (λ h. omega arith) few,
      ),
    )

pub some_front : (bytes : List ℕ) → All (λ b. b < 256) bytes → (p : VarintFront) × Begins bytes p
some_front bytes are = elim (part bytes) [
  | all g ↦ elim (cases_lt (length bytes) 9) [
    | inl few ↦ (inside, record { goes_on = g; fewer = few })
    | inr many ↦ (too_long, record { enough = many; goes_on = All-take (λ (b : ℕ). 128 ≤ b) 9 bytes g })
  ]
  | parted front last rest e g l ↦ elim (cases_lt (length front) 9) [
    | inl few ↦ stop_begins bytes front last rest are e g l few
    | inr many ↦ (
      too_long,
      record {
        enough = omega (arith, ap length e, length-append front (last ∷ rest));
        goes_on =
            subst AllGoOn (sym (ap (λ (t : List ℕ). take 9 t) e ∙ take-append-le 9 front (last ∷ rest) many)) (All-take (λ (b : ℕ). 128 ≤ b) 9 front g);
      },
    )
  ]
]

-- ---- what follows

pub kept : (bytes more : List ℕ) (p : VarintFront) → Begins bytes p → (p ≡ inside → ⊥) → Begins (bytes ++ more) p
kept bytes more (spelled n a) h other =
    (h.0 ++ more, ap (λ (t : List ℕ). t ++ more) h.1 ∙ append_assoc a h.0 more, h.2)
kept bytes more inside h other = absurd (other refl)
kept bytes more too_long h other = record {
  enough = let many : 9 ≤ length bytes = h.enough in omega (arith, length-append bytes more);
  goes_on = subst AllGoOn (sym (take-append-le 9 bytes more h.enough)) h.goes_on;
}
kept bytes more not_shortest h other = record {
  front = h.front;
  rest = h.rest ++ more;
  whole = ap (λ (t : List ℕ). t ++ more) h.whole ∙ append_assoc h.front (0 ∷ h.rest) more;
  goes_on = h.goes_on;
  not_alone = h.not_alone;
  at_most = h.at_most;
}

pub goes_on : (bytes : List ℕ) → All (λ b. b < 256) bytes → EndsInside bytes → (n : ℕ) × (more : List ℕ) × VarintSpelling n (bytes ++ more)
goes_on bytes are i = (
  number_of (bytes ++ 1 ∷ []),
  1 ∷ [],
  one_more bytes 1 (All-append (λ (b : ℕ). b < 256) bytes (1 ∷ []) are (one_byte 9 1 (omega arith) (omega arith)).are_bytes) i.goes_on (omega arith) (λ h. omega arith) i.fewer,
)
