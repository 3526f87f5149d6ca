-- Heights that never rise, with one more behind them or with the last of them replaced by one.
use Rattle.std.proofs.Common.{◌≡◌, ◌≢◌, ◌+◌, ◌-◌, ◌<◌, ◌≤◌, ℕ, List, [], ◌∷◌, ◌++◌, length, take, get_or, sym, ap, ◌∙◌, inl, inr, arith, length-append}
use Rattle.std.proofs.Math.Seq.{get_or-append_seam}
use Rattle.std.proofs.lemmas.Bool.{cases_eq, cases_lt}
use Rattle.std.proofs.lemmas.List.{get_or-take, get_or_append_left, length-take-le}
use Rattle.tg_filedag.specs.Heights.{HasFew, IsFalling}

pub at_end : (hs : List ℕ) (h i : ℕ) → i ≡ length hs → get_or (hs ++ h ∷ []) i 0 ≡ h
at_end hs h i e = ap (λ (n : ℕ). get_or (hs ++ h ∷ []) n 0) e ∙ get_or-append_seam hs h [] 0

-- one more height that isn't above the last
pub pushed_falls : (hs : List ℕ) (h : ℕ) → IsFalling hs → ((i : ℕ) → i < length hs → h ≤ get_or hs i 0) → IsFalling (hs ++ h ∷ [])
pushed_falls hs h falls low i j le lt =
    let size : length (hs ++ h ∷ []) ≡ length hs + 1 = length-append hs (h ∷ []) in
    elim (cases_lt j (length hs)) [
      | inl inside ↦
          let a = get_or_append_left hs (h ∷ []) 0 i (omega arith) in
          let b = get_or_append_left hs (h ∷ []) 0 j inside in
          let f = falls i j le inside in
          omega arith
      | inr outside ↦
          let last : j ≡ length hs = omega arith in
          let b = at_end hs h j last in
          elim (cases_lt i (length hs)) [
            | inl inner ↦ let a = get_or_append_left hs (h ∷ []) 0 i inner in let l = low i inner in omega arith
            | inr outer ↦ let a = at_end hs h i (omega arith) in omega arith
          ]
    ]

pub pushed_few : (width : ℕ) (hs : List ℕ) (h : ℕ) → 0 < width → HasFew width hs (length hs) → HasFew width (hs ++ h ∷ []) (length hs)
pushed_few width hs h some few i j e lt =
    let a = few i j e lt in
    let b = get_or_append_left hs (h ∷ []) 0 j lt in
    let c = get_or_append_left hs (h ∷ []) 0 i (omega arith) in
    omega arith

-- a front of the heights
front_at : (hs : List ℕ) (start i : ℕ) → i < start → get_or (take start hs) i 0 ≡ get_or hs i 0
front_at hs start i l = get_or-take start hs i 0 l

front_falls : (hs : List ℕ) (start : ℕ) → IsFalling hs → start ≤ length hs → IsFalling (take start hs)
front_falls hs start falls l i j le lt =
    let size = length-take-le start hs l in
    let a = front_at hs start i (omega arith) in
    let b = front_at hs start j (omega arith) in
    let f = falls i j le (omega arith) in
    omega arith

front_few : (width : ℕ) (hs : List ℕ) (start : ℕ) → 0 < width → HasFew width hs start → start ≤ length hs → HasFew width (take start hs) (length (take start hs))
front_few width hs start some few l i j e lt =
    let size = length-take-le start hs l in
    let a = front_at hs start i (omega arith) in
    let b = front_at hs start j (omega arith) in
    let f = few i j e (omega arith) in
    omega arith

-- the heights from `start` on are replaced by one that isn't above the one before it
pub closed_falls : (hs : List ℕ) (start h : ℕ) → IsFalling hs → start < length hs → (0 < start → h ≤ get_or hs (start - 1) 0) → IsFalling (take start hs ++ h ∷ [])
closed_falls hs start h falls l above =
    let size = length-take-le start hs (omega arith) in
    pushed_falls (take start hs) h (front_falls hs start falls (omega arith)) (λ i lt.
    let some : 0 < start = omega arith in
    let top = above some in
    let a = front_at hs start i (omega arith) in
    let f = falls i (start - 1) (omega arith) (omega arith) in
    omega arith)

pub closed_few : (width : ℕ) (hs : List ℕ) (start h : ℕ) → 0 < width → HasFew width hs (length hs - 1) → start < length hs
    → HasFew width (take start hs ++ h ∷ []) (length (take start hs))
closed_few width hs start h some few l =
    pushed_few width (take start hs) h some (front_few width hs start some (λ i j e lt. few i j e (omega arith)) (omega arith))

-- of falling heights those between two equal ones are equal to them
pub between_equal : (hs : List ℕ) (start end i : ℕ) → IsFalling hs → end < length hs → get_or hs start 0 ≡ get_or hs end 0 → start ≤ i → i ≤ end
    → get_or hs i 0 ≡ get_or hs end 0
between_equal hs start end i falls lt e a b =
    let up = falls start i a (omega arith) in
    let down = falls i end b lt in
    omega arith

-- where the last `width` are equal the one before them is greater
pub above_full : (width : ℕ) (hs : List ℕ) → 2 ≤ width → width ≤ length hs → IsFalling hs → HasFew width hs (length hs - 1)
    → 0 < length hs - width → get_or hs (length hs - 1) 0 + 1 ≤ get_or hs ((length hs - width) - 1) 0
above_full width hs two most falls few some =
    let f = few ((length hs - width) - 1) (length hs - 2) (omega arith) (omega arith) in
    let g = falls (length hs - 2) (length hs - 1) (omega arith) (omega arith) in
    omega arith

-- where the last `width` aren't equal there are few of each
pub no_full : (width : ℕ) (hs : List ℕ) → 2 ≤ width → IsFalling hs → HasFew width hs (length hs - 1)
    → (width ≤ length hs → get_or hs (length hs - width) 0 ≢ get_or hs (length hs - 1) 0) → HasFew width hs (length hs)
no_full width hs two falls few differ i j e lt =
    elim (cases_lt j (length hs - 1)) [
      | inl inside ↦ few i j e inside
      | inr outside ↦
          let last : j ≡ length hs - 1 = omega arith in
          let first : i ≡ length hs - width = omega arith in
          let ne = differ (omega arith) in
          let down = falls i j (omega arith) lt in
          elim (cases_eq (get_or hs i 0) (get_or hs j 0)) [
            | inl same ↦ absurd (ne (ap (λ (n : ℕ). get_or hs n 0) (sym first) ∙ same ∙ ap (λ (n : ℕ). get_or hs n 0) last))
            | inr other ↦ omega arith
          ]
    ]

-- the heights from the first that is the last one on: the one before them is greater, and there are at most `width` of them
pub above_first : (hs : List ℕ) (start : ℕ) → IsFalling hs → start < length hs → ((i : ℕ) → i < start → get_or hs i 0 ≢ get_or hs (length hs - 1) 0)
    → 0 < start → get_or hs (length hs - 1) 0 + 1 ≤ get_or hs (start - 1) 0
above_first hs start falls l before some =
    let ne = before (start - 1) (omega arith) in
    let down = falls (start - 1) (length hs - 1) (omega arith) (omega arith) in
    elim (cases_eq (get_or hs (start - 1) 0) (get_or hs (length hs - 1) 0)) [
      | inl same ↦ absurd (ne same)
      | inr other ↦ omega arith
    ]

pub few_equal : (width : ℕ) (hs : List ℕ) (start : ℕ) → 2 ≤ width → IsFalling hs → HasFew width hs (length hs - 1) → start < length hs
    → get_or hs start 0 ≡ get_or hs (length hs - 1) 0 → length hs ≤ start + width
few_equal width hs start two falls few l e =
    elim (cases_lt (start + width) (length hs)) [
      | inl many ↦
          let j : ℕ = (start + width) - 1 in
          let f = few start j (omega arith) (omega arith) in
          let g = falls j (length hs - 1) (omega arith) (omega arith) in
          absurd (omega arith)
      | inr enough ↦ enough
    ]
