-- The steps over the head of a root's byte string.
use Rattle.std.proofs.Common.{◌≡◌, ◌↔◌, ℕ, ◌+◌, ◌-◌, ◌*◌, ◌<◌, ◌≤◌, Option, Some, None, Bool, true, false, List, ◌∷◌, sym, refl, subst, MatchOption, inl, inr, arith}
use Rattle.std.specs.Bool.{then_some}
use Rattle.tg_car.specs.HeaderState.{CanBe, IsLive, Follows, GoesOn}
use Rattle.tg_car.specs.declared.header_state.Roots.{Roots}
use Rattle.tg_car.specs.declared.header_state.HeaderState.{HeaderState}
use Rattle.tg_car.specs.declared.header_state.HeaderState.TheVariants as states
use Rattle.tg_car.proofs.Sizes.{root_size}
use Rattle.tg_car.proofs.RootTexts.{RootThen, first_root, behind_head, short_to, short_from, long_to, long_from, zero_then, then_zero, roots_then_can_be}

-- what `string_of` answers for a byte string of `size` bytes behind a head of `head`
abbrev pub IsStringOf : Roots → ℕ → ℕ → Option HeaderState → Type 0
IsStringOf roots size head result = MatchOption result
    (CanBe (roots.count - 1) (roots.bytes - (size + head)) → size + head ≤ roots.bytes → 0 < roots.count → ⊥)
    (λ state. (rest : Roots) × (state ≡ states.Zero size rest) × CanBe rest.count rest.bytes
    × (rest.count + 1 ≡ roots.count) × (rest.bytes + (size + head) ≡ roots.bytes))

-- the roots behind the first, as the state has them
behind_is : (roots behind : Roots) (size head : ℕ) (rest : List ℕ) → behind.count + 1 ≡ roots.count → behind.bytes + (size + head) ≡ roots.bytes
    → RootThen size (roots.count - 1) (roots.bytes - (size + head)) rest ↔ RootThen size behind.count behind.bytes rest
behind_is roots behind size head rest c b =
    let count : roots.count - 1 ≡ behind.count = omega arith in
    let bytes : roots.bytes - (size + head) ≡ behind.bytes = omega arith in (
      λ h. subst (λ n. RootThen size behind.count n rest) bytes (subst (λ n. RootThen size n (roots.bytes - (size + head)) rest) count h),
      λ h. subst (λ n. RootThen size n (roots.bytes - (size + head)) rest) (sym count) (subst (λ n. RootThen size behind.count n rest) (sym bytes) h),
    )

pub short_step : (roots : Roots) (size : ℕ) (result : Option HeaderState) → 2 ≤ size → size < 24 → IsStringOf roots size 3 result
    → GoesOn (states.StringHead roots) (0x40 + size) result
short_step roots size None low high h = λ live rest f.
    let t = short_to roots.count roots.bytes size rest live.0 high f in
    let then = t.1 in
    h (roots_then_can_be (roots.count - 1) (roots.bytes - (size + 3)) then.more then.behind) t.0 live.0
short_step roots size (Some state) low high h = λ live.
    let same = λ (rest : List ℕ). behind_is roots h.0 size 3 rest h.3 h.4 in
    let enough : size + 3 ≤ roots.bytes = omega (arith, h.4) in
    let P : HeaderState → Type 0 = λ s. IsLive s × ((rest : List ℕ) → Follows (states.StringHead roots) ((0x40 + size) ∷ rest) ↔ Follows s rest) in
    subst P (sym h.1) (
      (low, omega arith, h.2),
      λ rest. (
        λ f. zero_then size h.0 rest ((same rest).0 (short_to roots.count roots.bytes size rest live.0 high f).1),
        λ f. short_from roots.count roots.bytes size rest live.0 high enough ((same rest).1 (then_zero size h.0 rest low (omega arith) f)),
      ),
    )

pub long_step : (roots : Roots) (size : ℕ) (result : Option HeaderState) → 24 ≤ size → size ≤ 200 → IsStringOf roots size 4 result
    → GoesOn (states.StringSize roots) size result
long_step roots size None low high h = λ live rest f.
    let t = long_to roots.count roots.bytes size rest live.0 f in
    let then = t.3 in
    h (roots_then_can_be (roots.count - 1) (roots.bytes - (size + 4)) then.more then.behind) t.2 live.0
long_step roots size (Some state) low high h = λ live.
    let same = λ (rest : List ℕ). behind_is roots h.0 size 4 rest h.3 h.4 in
    let enough : size + 4 ≤ roots.bytes = omega (arith, h.4) in
    let P : HeaderState → Type 0 = λ s. IsLive s × ((rest : List ℕ) → Follows (states.StringSize roots) (size ∷ rest) ↔ Follows s rest) in
    subst P (sym h.1) (
      (omega arith, high, h.2),
      λ rest. (
        λ f. zero_then size h.0 rest ((same rest).0 (long_to roots.count roots.bytes size rest live.0 f).3),
        λ f. long_from roots.count roots.bytes size rest live.0 low enough ((same rest).1 (then_zero size h.0 rest (omega arith) high f)),
      ),
    )

-- a head of two bytes, where there is room for one
pub long_fits : (roots : Roots) (rest : List ℕ) → IsLive (states.StringHead roots) → Follows (states.StringHead roots) (0x58 ∷ rest)
    → 5 * roots.count + 23 ≤ roots.bytes
long_fits roots rest live f =
    let g = first_root roots.count roots.bytes (0xd8 ∷ 0x2a ∷ 0x58 ∷ rest) live.0 f in
    let some : 0 < roots.count = live.0 in
    let can = roots_then_can_be (roots.count - 1) g.left g.more g.behind in
    elim (behind_head 0x58 rest g.root g.more g.whole) [
      | inl s ↦ absurd (omega (arith, s.0, s.1))
      | inr s ↦ elim (root_size g.root) [
        | inl r ↦ absurd (omega (arith, s.0, r.0))
        | inr r ↦ omega (arith, s.0, r.1, can.0, g.bytes_is)
      ]
    ]

pub long_next : (roots : Roots) (fits : Bool) → (fits ≡ true → 5 * roots.count + 23 ≤ roots.bytes)
    → (fits ≡ false → roots.bytes < 5 * roots.count + 23) → GoesOn (states.StringHead roots) 0x58 (then_some fits (states.StringSize roots))
long_next roots true fit above = λ live. ((live.0, live.1, fit refl), λ rest. (λ f. f, λ f. f))
long_next roots false fit above = λ live rest f.
    let fits : 5 * roots.count + 23 ≤ roots.bytes = long_fits roots rest live f in
    omega (arith, above refl)
