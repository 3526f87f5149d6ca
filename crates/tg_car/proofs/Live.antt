-- In each state something may follow; and one byte more.
use Rattle.std.proofs.Common.{◌≡◌, ℕ, suc, zero, ◌+◌, ◌-◌, ◌*◌, ◌%◌, ◌<◌, ◌≤◌, ◌⊎◌, Option, Some, None, Bool, true, false, List, [], ◌∷◌, ◌++◌, length, drop, replicate, ap, sym, ◌∙◌, refl, subst, MatchOption, MatchBool, inl, inr, arith}
use Rattle.std.specs.List.{flat_map}
use Rattle.std.proofs.lemmas.Bool.{cases_lt, cases_eq}
use Rattle.std.proofs.lemmas.List.{append_assoc, append-nil, length-append, length-replicate, length-drop}
use Rattle.std.proofs.lemmas.List.Elements.{All-nil, All-cons, All-replicate}
use Rattle.tg_car.specs.CarText.{IsRoot, HeaderText, string_head, root_text}
use Rattle.tg_car.specs.Fronts.{IsInHeader}
use Rattle.tg_car.specs.HeaderState.{CanBe, IsMapSize, IsLive, RootsThen, Follows, FollowsHeader, GoesOn, map_front, map_back}
use Rattle.tg_car.specs.declared.header_state.Roots.{Roots}
use Rattle.tg_car.specs.declared.header_state.HeaderState.{HeaderState}
use Rattle.tg_car.specs.declared.header_state.HeaderState.TheVariants as states
use Rattle.tg_car.proofs.Sizes.{root_size}
use Rattle.tg_car.proofs.RootTexts.{first_root, with_root, zero_then, long_from}
use Rattle.tg_car.proofs.ArraySteps as arrays
use Rattle.tg_car.proofs.Lengths.{one_from, two_from}

pub step_follows : (state : HeaderState) (byte : ℕ) (result : Option HeaderState) (bytes : List ℕ) → FollowsHeader state bytes → GoesOn state byte result
    → MatchOption result ((roots : List (List ℕ)) (more : List ℕ) → HeaderText roots (bytes ++ byte ∷ more) → ⊥)
    (λ next. FollowsHeader next (bytes ++ byte ∷ []))
step_follows state byte None bytes f g = λ roots more h. g f.live more ((f.follows (byte ∷ more)).0 (roots, h))
step_follows state byte (Some next) bytes f g =
    let s = g f.live in
    record {
      live = s.0;
      follows = λ rest.
          let parts : (bytes ++ byte ∷ []) ++ rest ≡ bytes ++ byte ∷ rest = append_assoc bytes (byte ∷ []) rest in (
            λ (roots, h). (s.1 rest).0 ((f.follows (byte ∷ rest)).0 (roots, subst (HeaderText roots) parts h)),
            λ t. (let h = (f.follows (byte ∷ rest)).1 ((s.1 rest).1 t) in (h.0, subst (HeaderText h.0) (sym parts) h.1)),
          );
    }

-- more may follow in the state
abbrev pub HasMore : HeaderState → Type 0
HasMore state = (rest : List ℕ) × (0 < length rest) × Follows state rest

-- how many bytes the first of some roots may have, at least `low`, so that others may follow it
record FirstSize (low count bytes : ℕ) : Type 0 where
  first : ℕ
  above : low ≤ first
  below : first ≤ 204
  hole : first ≡ 27 → ⊥
  within : first ≤ bytes
  others : CanBe count (bytes - first)

first_size : (low count bytes : ℕ) → (low ≡ 5) ⊎ (low ≡ 28) → low + 5 * count ≤ bytes → bytes ≤ 204 * (count + 1) → (count ≡ 0 → bytes ≡ 27 → ⊥)
    → FirstSize low count bytes
first_size low count bytes lows least most hole = elim (cases_eq count 0) [
  | inl none ↦ record {
    first = bytes;
    above = omega arith;
    below = omega arith;
    hole = hole none;
    within = omega arith;
    others = (omega arith, omega arith, λ one. absurd (omega arith));
  }
  | inr some ↦ elim (cases_lt (204 * count + low) bytes) [
    | inl many ↦ elim (cases_eq bytes 231) [
      | inl gap ↦ record {
        first = 203;
        above = omega arith;
        below = omega arith;
        hole = λ e. absurd (omega arith);
        within = omega arith;
        others = (omega arith, omega arith, λ one e. absurd (omega arith));
      }
      | inr fine ↦ record {
        first = 204;
        above = omega arith;
        below = omega arith;
        hole = λ e. absurd (omega arith);
        within = omega arith;
        others = (omega arith, omega arith, λ one e. fine (omega arith));
      }
    ]
    | inr few ↦ elim (cases_eq bytes (low + 27)) [
      | inl gap ↦ record {
        first = low + 1;
        above = omega arith;
        below = omega arith;
        hole = λ e. absurd (omega arith);
        within = omega arith;
        others = (omega arith, omega arith, λ one e. absurd (omega arith));
      }
      | inr fine ↦ record {
        first = low;
        above = omega arith;
        below = omega arith;
        hole = λ e. absurd (omega arith);
        within = omega arith;
        others = (omega arith, omega arith, λ one e. fine (omega arith));
      }
    ]
  ]
]

-- a root of so many bytes
zeros : ℕ → List ℕ
zeros n = 0 ∷ replicate (n - 1) 0

zeros_long : (n : ℕ) → 2 ≤ n → length (zeros n) ≡ n
unfolding zeros
zeros_long n low = let tail : length (replicate {A = ℕ} (n - 1) 0) ≡ n - 1 = length-replicate (n - 1) 0 in omega arith

zeros_root : (n : ℕ) → 2 ≤ n → n ≤ 200 → IsRoot (zeros n)
unfolding zeros
zeros_root n low high =
    let long : length (zeros n) ≡ n = zeros_long n low in
    record {
      rest = replicate (n - 1) 0;
      begins = refl;
      low = omega arith;
      high = omega arith;
      are_bytes = All-cons (λ b. b < 256) 0 (replicate (n - 1) 0) (omega arith) (All-replicate (λ (b : ℕ). b < 256) (n - 1) 0 (omega arith));
    }

-- a root whose text has so many bytes
sized_root : (first : ℕ) → 5 ≤ first → first ≤ 204 → (first ≡ 27 → ⊥) → (root : List ℕ) × IsRoot root × (length (root_text root) ≡ first)
sized_root first low high hole = elim (cases_lt first 27) [
  | inl small ↦ (let long : length (zeros (first - 3)) ≡ first - 3 = zeros_long (first - 3) (omega arith) in (
    zeros (first - 3),
    zeros_root (first - 3) (omega arith) (omega arith),
    elim (root_size (zeros (first - 3))) [ inl s ↦ omega (arith, s.1) | inr s ↦ absurd (omega (arith, s.0)) ],
  ))
  | inr large ↦ (let more : first ≡ 27 → ⊥ = hole in
      let long : length (zeros (first - 4)) ≡ first - 4 = zeros_long (first - 4) (omega arith) in (
        zeros (first - 4),
        zeros_root (first - 4) (omega arith) (omega arith),
        elim (root_size (zeros (first - 4))) [ inl s ↦ absurd (omega (arith, s.0)) | inr s ↦ omega (arith, s.1) ],
      ))
]

some_roots : (count bytes : ℕ) → CanBe count bytes → (rest : List ℕ) × RootsThen count bytes rest
some_roots zero bytes can =
    let most : bytes ≤ 204 * 0 = can.1 in
    (map_back, record { roots = []; each = All-nil IsRoot; count_is = refl; bytes_is = omega arith; whole = refl })
some_roots (suc count) bytes can =
    let least : 5 * suc count ≤ bytes = can.0 in
    let most : bytes ≤ 204 * suc count = can.1 in
    let f = first_size 5 count bytes (inl refl) (omega arith) (omega arith) (λ none e. can.2 (omega arith) e) in
    let root = sized_root f.first f.above f.below f.hole in
    let tail = some_roots count (bytes - f.first) f.others in
    let fewer : count ≡ suc count - 1 = omega arith in (
      root_text root.0 ++ tail.0,
      with_root (suc count) bytes (root_text root.0 ++ tail.0) (omega arith) (record {
        root = root.0;
        more = tail.0;
        left = bytes - f.first;
        is = root.1;
        whole = refl {a = root_text root.0 ++ tail.0};
        bytes_is = omega (arith, f.within, root.2);
        behind = subst (λ n. RootsThen n (bytes - f.first) tail.0) fewer tail.1;
      }),
    )

root_more : (roots : Roots) → CanBe roots.count roots.bytes → HasMore (states.Root roots)
root_more roots can =
    let t = some_roots roots.count roots.bytes can in
    let h = t.1 in
    let whole : t.0 ≡ flat_map root_text h.roots ++ map_back = h.whole in
    let long : length t.0 ≡ length (flat_map root_text h.roots) + 9 = ap length whole ∙ length-append (flat_map root_text h.roots) map_back in
    (t.0, omega arith, h)

string_more : (roots : Roots) → 0 < roots.count → CanBe roots.count roots.bytes → HasMore (states.StringHead roots)
string_more roots some can =
    let t = some_roots roots.count roots.bytes can in
    let f = first_root roots.count roots.bytes t.0 some t.1 in
    let is = f.is in
    let low : 2 ≤ length f.root = is.low in
    let rest : List ℕ = (string_head (length f.root) ++ f.root) ++ f.more in
    let long : length ((string_head (length f.root) ++ f.root) ++ f.more) ≡ length (string_head (length f.root) ++ f.root) + length f.more =
    length-append (string_head (length f.root) ++ f.root) f.more in
    let inner : length (string_head (length f.root) ++ f.root) ≡ length (string_head (length f.root)) + length f.root =
    length-append (string_head (length f.root)) f.root in
    (rest, omega arith, subst (RootsThen roots.count roots.bytes) f.whole t.1)

tag_more : (roots : Roots) → 0 < roots.count → CanBe roots.count roots.bytes → HasMore (states.Tag roots)
tag_more roots some can = let t = string_more roots some can in (0x2a ∷ t.0, omega arith, t.2)

size_more : (roots : Roots) → IsLive (states.StringSize roots) → HasMore (states.StringSize roots)
size_more roots live =
    let some : 0 < roots.count = live.0 in
    let most : roots.bytes ≤ 204 * roots.count = live.1.1 in
    let room : 5 * roots.count + 23 ≤ roots.bytes = live.2 in
    let f = first_size 28 (roots.count - 1) roots.bytes (inr refl) (omega arith) (omega arith) (λ none e. omega arith) in
    let size = f.first - 4 in
    let tail = some_roots (roots.count - 1) (roots.bytes - f.first) f.others in
    let above : 28 ≤ f.first = f.above in
    let below : f.first ≤ 204 = f.below in
    let within : f.first ≤ roots.bytes = f.within in
    let left : roots.bytes - f.first ≡ roots.bytes - (size + 4) = omega arith in (
      size ∷ (zeros size ++ tail.0),
      omega arith,
      long_from roots.count roots.bytes size (zeros size ++ tail.0) some (omega arith) (omega arith) (record {
        root = zeros size;
        more = tail.0;
        is = zeros_root size (omega arith) (omega arith);
        size_is = zeros_long size (omega arith);
        whole = refl {a = zeros size ++ tail.0};
        behind = subst (λ n. RootsThen (roots.count - 1) n tail.0) left tail.1;
      }),
    )

zero_more : (size : ℕ) (roots : Roots) → IsLive (states.Zero size roots) → HasMore (states.Zero size roots)
zero_more size roots live =
    let tail = some_roots roots.count roots.bytes live.2 in
    let low : 2 ≤ size = live.0 in
    let long : length (zeros size) ≡ size = zeros_long size low in
    let all : length (zeros size ++ tail.0) ≡ length (zeros size) + length tail.0 = length-append (zeros size) tail.0 in (
      zeros size ++ tail.0,
      omega arith,
      zero_then size roots (zeros size ++ tail.0) (record {
        root = zeros size;
        more = tail.0;
        is = zeros_root size low live.1;
        size_is = long;
        whole = refl;
        behind = tail.1;
      }),
    )

bytes_more : (left : ℕ) (roots : Roots) → IsLive (states.Bytes left roots) → HasMore (states.Bytes left roots)
bytes_more left roots live =
    let tail = some_roots roots.count roots.bytes live.1 in
    let some : 1 ≤ left = live.0 in
    let long : length (replicate {A = ℕ} left 0) ≡ left = length-replicate left 0 in
    let all : length (replicate left 0 ++ tail.0) ≡ length (replicate {A = ℕ} left 0) + length tail.0 = length-append (replicate left 0) tail.0 in (
      replicate left 0 ++ tail.0,
      omega arith,
      record {
        front = replicate left 0;
        more = tail.0;
        whole = refl;
        left_is = long;
        are_bytes = All-replicate (λ (b : ℕ). b < 256) left 0 (omega arith);
        behind = tail.1;
      },
    )

short_array : (count size : ℕ) → count < 24 → 17 ≤ size → CanBe count (size - 17) → HasMore (states.ArrayHead size)
short_array count size few enough can =
    let tail = some_roots count (size - 17) can in
    ((0x80 + count) ∷ tail.0, omega arith, arrays.short_from count size tail.0 few enough tail.1)

count_more : (size : ℕ) → IsLive (states.ArrayCount size) → HasMore (states.ArrayCount size)
count_more size live =
    let low : 138 ≤ size = live.0 in
    let high : size ≤ 13074 = live.1 in
    elim (cases_lt size 4915) [
      | inl small ↦ (let tail = some_roots 24 (size - 18) (omega arith, omega arith, λ one. absurd (omega arith)) in
          (24 ∷ tail.0, omega arith, arrays.long_from 24 size tail.0 (omega arith) (omega arith) (omega arith) tail.1))
      | inr large ↦ (let tail = some_roots 64 (size - 18) (omega arith, omega arith, λ one. absurd (omega arith)) in
          (64 ∷ tail.0, omega arith, arrays.long_from 64 size tail.0 (omega arith) (omega arith) (omega arith) tail.1))
    ]

array_more : (size : ℕ) → IsMapSize size → HasMore (states.ArrayHead size)
array_more size is =
    let low : 17 ≤ size = is.0 in
    let high : size ≤ 13074 = is.1 in
    elim (cases_lt size 22) [
      | inl none ↦ (let least : size ≡ 17 = is.2 none in
          short_array 0 size (omega arith) low (omega arith, omega arith, λ one. absurd (omega arith)))
      | inr some ↦ elim (cases_eq size 44) [
        | inl gap ↦ short_array 2 size (omega arith) low (omega arith, omega arith, λ one. absurd (omega arith))
        | inr fine ↦ elim (cases_lt size 222) [
          | inl one ↦ short_array 1 size (omega arith) low (omega arith, omega arith, λ _ e. fine (omega arith))
          | inr more ↦ elim (cases_lt size 4710) [
            | inl short ↦ short_array 23 size (omega arith) low (omega arith, omega arith, λ one. absurd (omega arith))
            | inr long ↦ (let tail = count_more size (omega arith, high) in
                (0x98 ∷ tail.0, omega arith, tail.2))
          ]
        ]
      ]
    ]

front_more : (at size : ℕ) → IsLive (states.Front at size) → HasMore (states.Front at size)
front_more at size live =
    let tail = array_more size live.1 in
    let some : 0 < length tail.0 = tail.1 in
    let all : length (drop at map_front ++ tail.0) ≡ length (drop at map_front) + length tail.0 = length-append (drop at map_front) tail.0 in
    (drop at map_front ++ tail.0, omega arith, (tail.0, refl, tail.2))

second_more : (first : ℕ) → IsLive (states.SecondByte first) → HasMore (states.SecondByte first)
second_more first live =
    let low : 128 ≤ first = live.0 in
    let high : first < 256 = live.1 in
    let size : IsMapSize (first % 128 + 128 * 1) = (omega arith, omega arith, λ small. omega arith) in
    let tail = front_more 0 (first % 128 + 128 * 1) (omega arith, size) in
    (1 ∷ tail.0, omega arith, two_from first 1 tail.0 low high (omega arith) (omega arith) tail.2)

length_more : HasMore states.Length
length_more =
    let size : IsMapSize 17 = (omega arith, omega arith, λ small. refl) in
    let tail = front_more 0 17 (omega arith, size) in
    (17 ∷ tail.0, omega arith, one_from 17 tail.0 (omega arith) tail.2)

pub has_more : (state : HeaderState) → ((at : ℕ) → state ≡ states.Back at → ⊥) → IsLive state → HasMore state
has_more states.Length before live = length_more
has_more (states.SecondByte first) before live = second_more first live
has_more (states.Front at size) before live = front_more at size live
has_more (states.ArrayHead size) before live = array_more size live
has_more (states.ArrayCount size) before live = count_more size live
has_more (states.Root roots) before live = root_more roots live
has_more (states.Tag roots) before live = tag_more roots live.0 live.1
has_more (states.StringHead roots) before live = string_more roots live.0 live.1
has_more (states.StringSize roots) before live = size_more roots live
has_more (states.Zero size roots) before live = zero_more size roots live
has_more (states.Bytes left roots) before live = bytes_more left roots live
has_more (states.Back at) before live = absurd (before at refl)

pub in_header : (state : HeaderState) (bytes : List ℕ) → FollowsHeader state bytes → HasMore state → IsInHeader bytes
in_header state bytes f m =
    let h = (f.follows m.0).1 m.2 in
    record { roots = h.0; more = m.0; not_whole = m.1; text = h.1 }

pub at_end : (at : ℕ) (whole : Bool) (bytes : List ℕ) → (whole ≡ true → at ≡ 9) → (whole ≡ false → at ≡ 9 → ⊥) → FollowsHeader (states.Back at) bytes
    → MatchBool whole ((roots : List (List ℕ)) × HeaderText roots bytes) (IsInHeader bytes)
at_end at true bytes nine less f =
    let same : at ≡ 9 = nine refl in
    let none : [] ≡ drop at map_back = sym (ap (λ n. drop n map_back) same) in
    let h = (f.follows []).1 none in
    (h.0, subst (HeaderText h.0) (append-nil bytes) h.1)
at_end at false bytes nine less f =
    let below : at ≤ 9 = f.live in
    let other : at ≡ 9 → ⊥ = less refl in
    let long : length (drop at map_back) ≡ 9 - at = length-drop at map_back in
    in_header (states.Back at) bytes f (drop at map_back, omega arith, refl)
