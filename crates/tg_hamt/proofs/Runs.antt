-- Runs of entries with one slot, in the order of their hashes.
use Rattle.std.proofs.Common.{◌≡◌, ℕ, zero, suc, ◌+◌, ◌-◌, ◌*◌, ◌/◌, ◌%◌, ◌^◌, ◌<◌, ◌≤◌, ◌≢◌, List, [], ◌∷◌, ◌++◌, length, get_or, take, drop, refl, ap, sym, ◌∙◌, subst, ⊎_elim, arith, add-one}
use Rattle.std.specs.Int.{byte_at, bytes_high_first, from_be_bytes, w64}
use Rattle.std.specs.List.{slice_range}
use Rattle.std.specs.Prelude.{All}
use Rattle.std.proofs.lemmas.Bool.{cases_lt}
use Rattle.std.proofs.lemmas.List.{drop_more, get_or-drop, get_or-take, get_or_default, length-append, length-drop, length-take, take_more}
use Rattle.std.proofs.lemmas.Grind.{pow_more}
use Rattle.std.proofs.lemmas.Nat.{from_be_bytes-to_be_bytes_8}
use Rattle.std.proofs.Math.Nat.{div-add-mod, div-one, mod-eq_of_lt, mod-lt, mul-add-mod_self_left, mul-le-mul_right, one-le-pow}
use Rattle.std.proofs.Math.Seq.{take-add}
use Rattle.tg_hamt.specs.Order.{IsHashed, IsOrder, IsPassed, IsRun, entry_at, slot_in, slots_of}
use Rattle.tg_hamt.specs.declared.order.Hashed.{Hashed}
use Rattle.tg_model.specs.declared.kinds.NewEntry.{NewEntry}
use Rattle.tg_murmur.specs.NameHash.{name_hash}

-- ---- bytes of numbers

-- the lowest bytes of a number
abbrev low_part : ℕ → ℕ → ℕ
low_part k n = n % 256 ^ k

byte_is : (k n : ℕ) → byte_at k n ≡ n / 256 ^ k % 256
byte_is zero n = ap (λ (q : ℕ). q % 256) (sym (div-one n))
byte_is (suc k) n = refl

-- one byte more
one_byte : (p n : ℕ) → 0 < p → n % (p * 256) ≡ (n / p % 256) * p + n % p
one_byte p n pos =
    let q : ℕ = n / p in
    let whole : n ≡ (p * 256) * (q / 256) + ((q % 256) * p + n % p) =
    (let one = div-add-mod n p in let two = div-add-mod q 256 in let three = ap (λ (x : ℕ). p * x) two in omega (arith, one, three)) in
    let small : q % 256 < 256 = mod-lt q {m = 256} (omega arith) in
    let rest : n % p < p = mod-lt n {m = p} pos in
    let most : (q % 256) * p + p ≤ p * 256 = (let h = mul-le-mul_right {m = q % 256 + 1} {n = 256} p (omega (arith, small)) in omega (arith, h)) in
    ap (λ (x : ℕ). x % (p * 256)) whole
    ∙ mul-add-mod_self_left (p * 256) (q / 256) ((q % 256) * p + n % p)
    ∙ mod-eq_of_lt {n = (q % 256) * p + n % p} {m = p * 256} (omega (arith, most, rest))

low_more : (k n : ℕ) → low_part (suc k) n ≡ byte_at k n * 256 ^ k + low_part k n
low_more k n =
    let power : 256 ^ suc k ≡ 256 ^ k * 256 = ap (λ (i : ℕ). 256 ^ i) (sym (add-one k)) ∙ pow_more 256 k in
    ap (λ (m : ℕ). n % m) power ∙ one_byte (256 ^ k) n (one-le-pow k 256 (omega arith)) ∙ ap (λ (b : ℕ). b * 256 ^ k + n % 256 ^ k) (sym (byte_is k n))

ahead : (x y p r q : ℕ) → y < x → r < p → y * p + r < x * p + q
ahead x y p r q less rest = let h = mul-le-mul_right {m = y + 1} {n = x} p (omega (arith, less)) in omega (arith, h, rest)

-- a number with a lower byte where those above are equal is lower
lower : (k j a b : ℕ) → j < k → take j (bytes_high_first k a) ≡ take j (bytes_high_first k b)
    → get_or (bytes_high_first k b) j 0 < get_or (bytes_high_first k a) j 0 → low_part k b < low_part k a
lower zero j a b lt same less = absurd (omega arith)
lower (suc k) zero a b lt same less =
    rw (low_more k a, low_more k b) (ahead (byte_at k a) (byte_at k b) (256 ^ k) (low_part k b) (low_part k a) less (mod-lt b {m = 256 ^ k} (one-le-pow k 256 (omega arith))))
lower (suc k) (suc j) a b lt same less =
    let head : byte_at k a ≡ byte_at k b = ap (λ (bytes : List ℕ). get_or bytes 0 0) same in
    let rest = lower k j a b (omega arith) (ap (drop 1) same) less in
    rw (low_more k a, low_more k b) (rw head (omega (arith, rest)))

-- where the slots above are equal, a lower hash has no higher slot
pub no_higher : (a b : Hashed) (level : ℕ) → a.hash < b.hash → b.hash < 2 ^ 64 → level < 8 → take level (slots_of a) ≡ take level (slots_of b)
    → slot_in a level ≤ slot_in b level
no_higher a b level less fits low same = ⊎_elim
    (λ (under : slot_in b level < slot_in a level).
    let wrong = lower 8 level a.hash b.hash low same under in
    let top_b : b.hash % 256 ^ 8 ≡ b.hash = mod-eq_of_lt {n = b.hash} {m = 256 ^ 8} fits in
    let top_a : a.hash % 256 ^ 8 ≡ a.hash = mod-eq_of_lt {n = a.hash} {m = 256 ^ 8} (omega (arith, less, fits)) in
    absurd (omega (arith, wrong, top_a, top_b, less)))
    (λ (le : slot_in a level ≤ slot_in b level). le)
    (cases_lt (slot_in b level) (slot_in a level))

pub same_hashes : (a b : Hashed) → a.hash < 2 ^ 64 → b.hash < 2 ^ 64 → take 8 (slots_of a) ≡ take 8 (slots_of b) → a.hash ≡ b.hash
same_hashes a b fa fb same = sym (from_be_bytes-to_be_bytes_8 a.hash fa) ∙ ap (from_be_bytes w64) same ∙ from_be_bytes-to_be_bytes_8 b.hash fb

-- ---- parts of lists

pub length_range : {X : Type 0} → (xs : List X) (a b : ℕ) → a ≤ b → b ≤ length xs → length (slice_range xs a b) ≡ b - a
length_range xs a b le inside =
    let one = length-take (b - a) (drop a xs) in
    let other = length-drop a xs in
    omega (arith, one, other)

pub get_range : {X : Type 0} → (xs : List X) (a b k : ℕ) (d : X) → a ≤ b → b ≤ length xs → k < b - a → get_or (slice_range xs a b) k d ≡ get_or xs (a + k) d
get_range xs a b k d le inside lt = get_or-take (b - a) (drop a xs) k d lt ∙ get_or-drop a xs k d

pub all_range : {X : Type 0} → (P : X → Type 0) (xs : List X) (a b : ℕ) → a ≤ b → b ≤ length xs → All P xs → All P (slice_range xs a b)
all_range {X} P xs a b le inside all = λ k d lt.
    let count = length_range xs a b le inside in
    subst P (sym (get_range xs a b k d le inside (omega (arith, count)))) (all (a + k) d (omega (arith, count)))

pub range_joins : {X : Type 0} → (xs : List X) (a b : ℕ) → a ≤ b → take b xs ≡ take a xs ++ slice_range xs a b
range_joins {X} xs a b le = let e : b ≡ a + (b - a) = omega arith in ap (λ (k : ℕ). take k xs) e ∙ take-add a (b - a) xs

pub range_of_one : {X : Type 0} → (xs : List X) (a b : ℕ) (d : X) → b - a ≡ 1 → a < length xs → slice_range xs a b ≡ get_or xs a d ∷ []
range_of_one {X} xs a b d e lt = ap (λ (k : ℕ). take k (drop a xs)) e ∙ ap (take 1) (drop_more xs a d lt)

-- ---- runs

-- hashes are below 2 ^ 64
abbrev pub HashesFit : Type 0
HashesFit = (name : List ℕ) → name_hash name < 2 ^ 64

hash_fits : HashesFit → (es : List NewEntry) (item : Hashed) → IsHashed es item → item.hash < 2 ^ 64
hash_fits fits es item h = subst (λ (n : ℕ). n < 2 ^ 64) (sym h.hash_is) (fits (entry_at es item.index).name)

module _ (fits : HashesFit) (es : List NewEntry) (order : List Hashed) (is : IsOrder es order) (above : List ℕ) (level : ℕ) (low : level < 8)
    (deep : length above ≡ level) (passed : IsPassed above order) where
  same_front : (i j : ℕ) (d : Hashed) → i < length order → j < length order → take level (slots_of (get_or order i d)) ≡ take level (slots_of (get_or order j d))
  same_front i j d a b = subst (λ (n : ℕ). take n (slots_of (get_or order i d)) ≡ take n (slots_of (get_or order j d))) deep (passed i d a ∙ sym (passed j d b))

  -- slots don't fall
  pub slots_rise : (i j : ℕ) (d : Hashed) → i < j → j < length order → slot_in (get_or order i d) level ≤ slot_in (get_or order j d) level
  slots_rise i j d lt inside =
      no_higher (get_or order i d) (get_or order j d) level (is.rises i j d lt inside) (hash_fits fits es (get_or order j d) (is.each j d inside)) low
      (same_front i j d (omega arith) inside)

  -- the slot behind a run is higher
  pub next_higher : (start end : ℕ) (d : Hashed) → IsRun order start end level → end < length order
      → slot_in (get_or order start d) level < slot_in (get_or order end d) level
  next_higher start end d run inside =
      let le = slots_rise start end d run.begins inside in
      let ne = run.next d inside in
      let other : slot_in (get_or order start d) level ≢ slot_in (get_or order end d) level = λ e. ne (sym e) in
      omega (arith, le, other)

  -- a run is in order
  pub run_order : (start end : ℕ) → IsRun order start end level → IsOrder es (slice_range order start end)
  run_order start end run =
      let le : start ≤ end = omega (arith, run.begins) in
      record {
        rises = λ i j d lt inside.
            let count = length_range order start end le run.ends in
            let ends = run.ends in
            let here = get_range order start end i d le run.ends (omega (arith, count)) in
            let there = get_range order start end j d le run.ends (omega (arith, count)) in
            let up = is.rises (start + i) (start + j) d (omega arith) (omega (arith, count)) in
            subst (λ (x : Hashed). x.hash < (get_or (slice_range order start end) j d).hash) (sym here)
            (subst (λ (x : Hashed). (get_or order (start + i) d).hash < x.hash) (sym there) up);
        each = all_range (IsHashed es) order start end le run.ends is.each;
      }

  -- one more slot
  one_deeper : (item : Hashed) → take level (slots_of item) ≡ above → take (level + 1) (slots_of item) ≡ above ++ slot_in item level ∷ []
  one_deeper item e = take_more (slots_of item) level 0 low ∙ ap (λ (l : List ℕ). l ++ slot_in item level ∷ []) e

  -- a run stands behind its slot
  pub run_passed : (start end : ℕ) (d : Hashed) → IsRun order start end level → IsPassed (above ++ slot_in (get_or order start d) level ∷ []) (slice_range order start end)
  run_passed start end d run = λ k e lt.
      let le : start ≤ end = omega (arith, run.begins) in
      let ends = run.ends in
      let begins = run.begins in
      let count = length_range order start end le run.ends in
      let x = get_or order (start + k) e in
      let inside : start + k < length order = omega (arith, count) in
      let deepness : length (above ++ slot_in (get_or order start d) level ∷ []) ≡ level + 1 = length-append above (slot_in (get_or order start d) level ∷ []) ∙ ap (λ (n : ℕ). n + 1) deep in
      let front : take level (slots_of x) ≡ above = subst (λ (n : ℕ). take n (slots_of x) ≡ above) deep (passed (start + k) e inside) in
      let same : slot_in x level ≡ slot_in (get_or order start d) level =
      run.same (start + k) e (omega arith) (omega (arith, count)) ∙ ap (λ (y : Hashed). slot_in y level) (get_or_default order start e d (omega arith)) in
      subst (λ (y : Hashed). take (length (above ++ slot_in (get_or order start d) level ∷ [])) (slots_of y) ≡ above ++ slot_in (get_or order start d) level ∷ [])
      (sym (get_range order start end k e le run.ends (omega (arith, count))))
      (ap (λ (n : ℕ). take n (slots_of x)) deepness ∙ one_deeper x front ∙ ap (λ (n : ℕ). above ++ n ∷ []) same)

  -- two entries of one slot are told apart below
  pub run_deeper : (start end : ℕ) → IsRun order start end level → 2 ≤ end - start → level + 1 < 8
  run_deeper start end run many = ⊎_elim
      (λ (yes : level + 1 < 8). yes)
      (λ (no : 8 ≤ level + 1).
      let d : Hashed = record { hash = 0; index = 0 } in
      let ends = run.ends in
      let last : level + 1 ≡ 8 = omega arith in
      let one = get_or order start d in
      let other = get_or order (start + 1) d in
      let front = λ (i : ℕ) (inside : i < length order). subst (λ (n : ℕ). take n (slots_of (get_or order i d)) ≡ above) deep (passed i d inside) in
      let all = λ (i : ℕ) (inside : i < length order). ap (λ (n : ℕ). take n (slots_of (get_or order i d))) (sym last) ∙ one_deeper (get_or order i d) (front i inside) in
      let same : slot_in other level ≡ slot_in one level = run.same (start + 1) d (omega arith) (omega arith) in
      let hashes : one.hash ≡ other.hash =
      same_hashes one other (hash_fits fits es one (is.each start d (omega arith))) (hash_fits fits es other (is.each (start + 1) d (omega arith)))
      (all start (omega arith) ∙ ap (λ (n : ℕ). above ++ n ∷ []) (sym same) ∙ sym (all (start + 1) (omega arith))) in
      let up = is.rises start (start + 1) d (omega arith) (omega arith) in
      absurd (omega (arith, hashes, up)))
      (cases_lt (level + 1) 8)
