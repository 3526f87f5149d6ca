-- The groups of a number put one by one, and how many there are.
use Rattle.std.proofs.Common.{◌≡◌, ℕ, suc, ◌+◌, ◌*◌, ◌/◌, ◌%◌, ◌^◌, ◌<◌, ◌≤◌, List, [], ◌∷◌, ◌++◌, length, refl, sym, ap, ap₂, ◌∙◌, append_assoc, subst, inl, inr, arith}
use Rattle.std.specs.Prelude.{All}
use Rattle.std.proofs.lemmas.Bool.{cases_lt}
use Rattle.std.proofs.lemmas.List.{length-append, append-nil}
use Rattle.std.proofs.lemmas.List.Elements.{All-push, All-nil, All-tail}
use Rattle.std.proofs.lemmas.Nat.{pow-add, pow_below, mul-le}
use Rattle.tg_pbtable.specs.Varint.{VarintSpelling}
use Rattle.tg_varint.specs.GroupLaws.{one_long}
use Rattle.tg_varint.specs.Varint.{number_of, AllGoOn}
use Rattle.tg_pbtable.specs.Emitted.{Puts}
use Rattle.tg_pbtable.proofs.Varints.{number_push}

-- groups of the number are put, and `left` is what the others are to spell
pub record HasPut (number left : ℕ) (old new : List ℕ) : Type 0 where
  pub bytes : List ℕ
  pub whole : new ≡ old ++ bytes
  pub are_bytes : All (λ (b : ℕ). b < 256) bytes
  pub goes_on : AllGoOn bytes
  pub spells : number ≡ number_of bytes + left * 2 ^ (7 * length bytes)
  pub more : 0 < length bytes → 0 < left

pub none_put : (number : ℕ) (old : List ℕ) → HasPut number number old old
none_put number old = record { bytes = []; whole = sym (append-nil old); are_bytes = All-nil (λ (b : ℕ). b < 256); goes_on = All-nil (λ (b : ℕ). 128 ≤ b); spells = omega arith; more = λ p. absurd (omega arith) }

sums : (n left p : ℕ) → n + left * p ≡ n + left % 128 * p + left / 128 * (128 * p)
sums n left p =
    let parts : left ≡ left / 128 * 128 + left % 128 = omega arith in
    ap (λ (k : ℕ). n + k * p) parts ∙ omega arith

pub one_put : (number left : ℕ) (old new : List ℕ) → 128 ≤ left → HasPut number left old new → HasPut number (left / 128) old (new ++ (left % 128 + 128) ∷ [])
one_put number left old new enough h =
    let byte = left % 128 + 128 in
    let size : length (h.bytes ++ byte ∷ []) ≡ suc (length h.bytes) = length-append h.bytes (byte ∷ []) ∙ omega arith in
    let split : 7 * suc (length h.bytes) ≡ 7 + 7 * length h.bytes = omega arith in
    let pow : 2 ^ (7 * length (h.bytes ++ byte ∷ [])) ≡ 128 * 2 ^ (7 * length h.bytes) = ap (λ (k : ℕ). 2 ^ (7 * k)) size ∙ ap (λ (k : ℕ). 2 ^ k) split ∙ pow-add 2 7 (7 * length h.bytes) in
    let low : byte % 128 ≡ left % 128 = omega arith in
    let parts : left ≡ left / 128 * 128 + left % 128 = omega arith in
    record {
      bytes = h.bytes ++ byte ∷ [];
      whole = ap (λ (t : List ℕ). t ++ byte ∷ []) h.whole ∙ append_assoc old h.bytes (byte ∷ []);
      are_bytes = All-push (λ (b : ℕ). b < 256) h.bytes byte h.are_bytes (omega arith);
      goes_on = All-push (λ (b : ℕ). 128 ≤ b) h.bytes byte h.goes_on (omega arith);
      spells =
          h.spells
          ∙ sums (number_of h.bytes) left (2 ^ (7 * length h.bytes))
          ∙ sym (ap₂ (λ (a b : ℕ). a + left / 128 * b) (number_push h.bytes byte ∙ ap (λ (k : ℕ). number_of h.bytes + k * 2 ^ (7 * length h.bytes)) low) pow);
      more = λ _. omega arith;
    }

fewer : (n left k : ℕ) → n + left * 2 ^ (7 * k) < 2 ^ 64 → 0 < left → k < 10
fewer n left k h p = elim (cases_lt k 10) [
  | inl lt ↦ lt
  | inr ge ↦
      let high : 2 ^ 64 < 2 ^ (7 * k) = pow_below 64 (7 * k) (omega arith) in
      let once : 1 * 2 ^ (7 * k) ≤ left * 2 ^ (7 * k) = mul-le 1 (2 ^ (7 * k)) left (2 ^ (7 * k)) p (omega arith) in
      absurd (omega arith)
]

pub all_put : (number left : ℕ) (old new : List ℕ) → number < 2 ^ 64 → left < 128 → HasPut number left old new → Puts (λ bytes. VarintSpelling number bytes) old (new ++ left ∷ [])
all_put number left old new fits low h = record {
  bytes = h.bytes ++ left ∷ [];
  whole = ap (λ (t : List ℕ). t ++ left ∷ []) h.whole ∙ append_assoc old h.bytes (left ∷ []);
  spells = record {
    groups = record {
      front = h.bytes;
      last = left;
      whole = refl;
      are_bytes = All-push (λ (b : ℕ). b < 256) h.bytes left h.are_bytes (omega arith);
      goes_on = h.goes_on;
      ends = low;
      shortest = h.more;
      at_most = elim (cases_lt 0 (length h.bytes)) [
        | inl some ↦ fewer (number_of h.bytes) left (length h.bytes) (subst (λ (n : ℕ). n < 2 ^ 64) h.spells fits) (h.more some)
        | inr none ↦ omega arith
      ];
      spells = h.spells ∙ ap (λ (k : ℕ). number_of h.bytes + k * 2 ^ (7 * length h.bytes)) (let e : left ≡ left % 128 = omega arith in e) ∙ sym (number_push h.bytes left);
    };
    fits = fits;
  };
}

-- ---- how many

-- a spelling of a number that takes two groups or more: the first, and the spelling of what is left
record HasTail (number : ℕ) (bytes : List ℕ) : Type 0 where
  first : ℕ
  rest : List ℕ
  whole : bytes ≡ first ∷ rest
  spells : VarintSpelling (number / 128) rest

tail_in : (number : ℕ) (front : List ℕ) (last : ℕ) (bytes : List ℕ) → bytes ≡ front ++ last ∷ [] → All (λ (b : ℕ). b < 256) bytes → AllGoOn front → last < 128 → (0 < length front → 0 < last) → length front < 10
    → number ≡ number_of bytes → number < 2 ^ 64 → 128 ≤ number → HasTail number bytes
tail_in number [] last bytes w are on low short ten is fits enough =
    let one : number ≡ last % 128 + 128 * 0 = is ∙ ap number_of w in
    absurd (omega arith)
tail_in number (b ∷ front) last bytes w are on low short ten is fits enough =
    let rest = front ++ last ∷ [] in
    let sum : number ≡ b % 128 + 128 * number_of rest = is ∙ ap number_of w in
    let left : number / 128 ≡ number_of rest = omega arith in
    record {
      first = b;
      rest = rest;
      whole = w;
      spells = record {
        groups = record {
          front = front;
          last = last;
          whole = refl;
          are_bytes = All-tail (λ (x : ℕ). x < 256) b rest (subst (λ (t : List ℕ). All (λ (x : ℕ). x < 256) t) w are);
          goes_on = All-tail (λ (x : ℕ). 128 ≤ x) b front on;
          ends = low;
          shortest = λ _. short (omega arith);
          at_most = omega arith;
          spells = left;
        };
        fits = omega arith;
      };
    }

tail_of : (number : ℕ) (bytes : List ℕ) → 128 ≤ number → VarintSpelling number bytes → HasTail number bytes
tail_of number bytes enough p =
    let g = p.groups in
    tail_in number g.front g.last bytes g.whole g.are_bytes g.goes_on g.ends g.shortest g.at_most g.spells p.fits enough

-- all groups but those of `left` are counted
pub record HasCounted (number left size : ℕ) : Type 0 where
  pub k : ℕ
  pub low : ℕ
  pub size_is : size ≡ k + 1
  pub spells : number ≡ low + left * 2 ^ (7 * k)
  pub more : 0 < k → 0 < left
  pub rest : (bytes : List ℕ) → VarintSpelling number bytes → (tail : List ℕ) × (length bytes ≡ k + length tail) × VarintSpelling left tail

pub none_counted : (number : ℕ) → HasCounted number number 1
none_counted number = record { k = 0; low = 0; size_is = refl; spells = omega arith; more = λ p. absurd (omega arith); rest = λ bytes p. (bytes, omega arith, p) }

pub few_counted : (number left size : ℕ) → number < 2 ^ 64 → HasCounted number left size → size ≤ 10
few_counted number left size fits h = elim (cases_lt 0 h.k) [
  | inl some ↦ let k : h.k < 10 = fewer h.low left h.k (subst (λ (n : ℕ). n < 2 ^ 64) h.spells fits) (h.more some) in omega (arith, h.size_is)
  | inr none ↦ omega (arith, h.size_is)
]

pub one_counted : (number left size : ℕ) → 128 ≤ left → HasCounted number left size → HasCounted number (left / 128) (size + 1)
one_counted number left size enough h =
    let split : 7 * (h.k + 1) ≡ 7 + 7 * h.k = omega arith in
    let pow : 2 ^ (7 * (h.k + 1)) ≡ 128 * 2 ^ (7 * h.k) = ap (λ (k : ℕ). 2 ^ k) split ∙ pow-add 2 7 (7 * h.k) in
    record {
      k = h.k + 1;
      low = h.low + left % 128 * 2 ^ (7 * h.k);
      size_is = omega (arith, h.size_is);
      spells = h.spells ∙ sums h.low left (2 ^ (7 * h.k)) ∙ ap (λ (p : ℕ). h.low + left % 128 * 2 ^ (7 * h.k) + left / 128 * p) (sym pow);
      more = λ _. omega arith;
      rest = λ bytes p.
          let old = h.rest bytes p in
          let new = tail_of left old.0 enough old.2 in
          let one : length old.0 ≡ suc (length new.rest) = ap length new.whole in
          (new.rest, omega (arith, old.1), new.spells);
    }

pub all_counted : (number left size : ℕ) (bytes : List ℕ) → left < 128 → HasCounted number left size → VarintSpelling number bytes → size ≡ length bytes
all_counted number left size bytes low h p =
    let last = h.rest bytes p in
    omega (arith, h.size_is, last.1, one_long left last.0 low last.2.groups)
