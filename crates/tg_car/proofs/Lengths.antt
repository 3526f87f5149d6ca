-- The length before the map: a varint of one byte or two.
use Rattle.std.proofs.Common.{◌≡◌, ◌↔◌, ℕ, ◌+◌, ◌*◌, ◌%◌, ◌<◌, ◌≤◌, Option, Some, None, List, [], ◌∷◌, ◌++◌, length, ap, sym, ◌∙◌, refl, subst, MatchOption, arith}
use Rattle.std.specs.List.{flat_map}
use Rattle.std.proofs.lemmas.List.Elements.{All-head, All-nil, All-cons}
use Rattle.tg_varint.specs.GroupLaws.{one_byte}
use Rattle.tg_varint.specs.Varint.{number_of, AllGoOn, VarintSpelling}
use Rattle.tg_car.specs.CarText.{array_head, root_text, header_map, HeaderText}
use Rattle.tg_car.specs.HeaderState.{IsMapSize, IsLive, Follows, GoesOn, map_front, map_back}
use Rattle.tg_car.specs.declared.header_state.HeaderState.{HeaderState}
use Rattle.tg_car.specs.declared.header_state.HeaderState.TheVariants as states
use Rattle.tg_car.proofs.Sizes.{map_size_is}

-- what `map_of` answers
abbrev pub IsMapOf : ℕ → Option HeaderState → Type 0
IsMapOf size result = MatchOption result (IsMapSize size → ⊥) (λ state. (state ≡ states.Front 0 size) × IsMapSize size)

-- a number is no less than its last digit
pub from_last : (front : List ℕ) (last : ℕ) → last < 128 → last ≤ number_of (front ++ last ∷ [])
from_last [] last below = omega arith
from_last (byte ∷ front) last below =
    let rest : last ≤ number_of (front ++ last ∷ []) = from_last front last below in
    omega arith

one_part : (front : List ℕ) (last number byte : ℕ) (rest map : List ℕ) → AllGoOn front → last < 128 → number ≡ number_of (front ++ last ∷ [])
    → byte ∷ rest ≡ (front ++ last ∷ []) ++ map → byte < 128 → (number ≡ byte) × (rest ≡ map)
one_part [] last number byte rest map on low spells e small =
    let same : byte ≡ last = cc in
    (omega arith, cc)
one_part (first ∷ front) last number byte rest map on low spells e small =
    let same : byte ≡ first = cc in
    let high : 128 ≤ first = All-head (λ n. 128 ≤ n) first front on in
    absurd (omega arith)

two_parts : (front : List ℕ) (last number first second : ℕ) (rest map : List ℕ) → AllGoOn front → last < 128
    → (0 < length front → 0 < last) → number ≡ number_of (front ++ last ∷ []) → number ≤ 13074
    → first ∷ second ∷ rest ≡ (front ++ last ∷ []) ++ map → 128 ≤ first
    → (0 < second) × (second < 128) × (number ≡ first % 128 + 128 * second) × (rest ≡ map)
two_parts [] last number first second rest map on low shortest spells most e large =
    let same : first ≡ last = cc in
    absurd (omega arith)
two_parts (x ∷ []) last number first second rest map on low shortest spells most e large =
    let same : first ≡ x = cc in
    let next : second ≡ last = cc in
    let some : 0 < last = shortest (omega arith) in
    (omega arith, omega arith, omega arith, cc)
two_parts (x ∷ y ∷ front) last number first second rest map on low shortest spells most e large =
    let some : 0 < last = shortest (omega arith) in
    let more : last ≤ number_of (front ++ last ∷ []) = from_last front last low in
    absurd (omega arith)

-- the map behind a length of one byte
one_to : (byte : ℕ) (rest : List ℕ) → byte < 128 → ((roots : List (List ℕ)) × HeaderText roots (byte ∷ rest)) → IsMapSize byte × Follows (states.Front 0 byte) rest
one_to byte rest small (roots, h) =
    let v = h.size_is in
    let parts = one_part v.front v.last (length (header_map roots)) byte rest (header_map roots) v.goes_on v.ends
    (v.spells ∙ ap number_of v.whole) (h.whole ∙ ap (λ l. l ++ header_map roots) v.whole) small in (
      subst IsMapSize parts.0 (map_size_is roots h.few h.each),
      (
        array_head (length roots) ++ (flat_map root_text roots ++ map_back),
        parts.1,
        record { roots = roots; few = h.few; each = h.each; size_is = parts.0; whole = refl },
      ),
    )

pub one_from : (byte : ℕ) (rest : List ℕ) → byte < 128 → Follows (states.Front 0 byte) rest → (roots : List (List ℕ)) × HeaderText roots (byte ∷ rest)
one_from byte rest small (more, e, a) = (
  a.roots,
  record {
    few = a.few;
    each = a.each;
    size = byte ∷ [];
    size_is = subst (λ n. VarintSpelling n (byte ∷ [])) (sym a.size_is) (one_byte 9 byte (omega arith) small);
    whole = ap (λ l. byte ∷ l) (e ∙ ap (λ l. map_front ++ l) a.whole);
  },
)

-- the map behind a length of two bytes
two_to : (first second : ℕ) (rest : List ℕ) → 128 ≤ first → ((roots : List (List ℕ)) × HeaderText roots (first ∷ second ∷ rest))
    → (0 < second) × (second < 128) × IsMapSize (first % 128 + 128 * second) × Follows (states.Front 0 (first % 128 + 128 * second)) rest
two_to first second rest large (roots, h) =
    let v = h.size_is in
    let size = map_size_is roots h.few h.each in
    let parts = two_parts v.front v.last (length (header_map roots)) first second rest (header_map roots) v.goes_on v.ends v.shortest
    (v.spells ∙ ap number_of v.whole) size.1 (h.whole ∙ ap (λ l. l ++ header_map roots) v.whole) large in (
      parts.0,
      parts.1,
      subst IsMapSize parts.2 size,
      (
        array_head (length roots) ++ (flat_map root_text roots ++ map_back),
        parts.3,
        record { roots = roots; few = h.few; each = h.each; size_is = parts.2; whole = refl },
      ),
    )

pub two_from : (first second : ℕ) (rest : List ℕ) → 128 ≤ first → first < 256 → 0 < second → second < 128
    → Follows (states.Front 0 (first % 128 + 128 * second)) rest → (roots : List (List ℕ)) × HeaderText roots (first ∷ second ∷ rest)
two_from first second rest large byte some small (more, e, a) = (
  a.roots,
  record {
    few = a.few;
    each = a.each;
    size = first ∷ second ∷ [];
    size_is = subst (λ n. VarintSpelling n (first ∷ second ∷ [])) (sym a.size_is) (record {
      front = first ∷ [];
      last = second;
      whole = refl;
      are_bytes = All-cons (λ b. b < 256) first (second ∷ []) byte (All-cons (λ b. b < 256) second [] (omega arith) (All-nil (λ b. b < 256)));
      goes_on = All-cons (λ b. 128 ≤ b) first [] large (All-nil (λ b. 128 ≤ b));
      ends = small;
      shortest = λ _. some;
      at_most = omega arith;
      spells = omega arith;
    });
    whole = ap (λ l. first ∷ second ∷ l) (e ∙ ap (λ l. map_front ++ l) a.whole);
  },
)

pub one_step : (byte : ℕ) (result : Option HeaderState) → byte < 128 → IsMapOf byte result → GoesOn states.Length byte result
one_step byte None small h = λ live rest f. h (one_to byte rest small f).0
one_step byte (Some state) small h = λ live.
    let P : HeaderState → Type 0 = λ s. IsLive s × ((rest : List ℕ) → Follows states.Length (byte ∷ rest) ↔ Follows s rest) in
    subst P (sym h.0) ((omega arith, h.1), λ rest. (λ f. (one_to byte rest small f).1, λ f. one_from byte rest small f))

pub two_step : (first second size : ℕ) (result : Option HeaderState) → size ≡ first % 128 + 128 * second → 0 < second → second < 128
    → IsMapOf size result → GoesOn (states.SecondByte first) second result
two_step first second size None e some small h = λ live rest f.
    h (subst IsMapSize (sym e) (two_to first second rest live.0 f).2)
two_step first second size (Some state) e some small h = λ live.
    let P : HeaderState → Type 0 = λ s. IsLive s × ((rest : List ℕ) → Follows (states.SecondByte first) (second ∷ rest) ↔ Follows s rest) in
    subst P (sym h.0) (
      (omega arith, h.1),
      λ rest. (
        λ f. subst (λ n. Follows (states.Front 0 n) rest) (sym e) (two_to first second rest live.0 f).3,
        λ f. two_from first second rest live.0 live.1 some small (subst (λ n. Follows (states.Front 0 n) rest) e f),
      ),
    )

pub second_refused : (first second : ℕ) (rest : List ℕ) → 128 ≤ first → ((roots : List (List ℕ)) × HeaderText roots (first ∷ second ∷ rest))
    → (0 < second) × (second < 128)
second_refused first second rest large h = let t = two_to first second rest large h in (t.0, t.1)
