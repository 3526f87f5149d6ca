-- The bits of a shard as one big-endian number.
use Rattle.std.proofs.Common.{◌≡◌, ℕ, zero, suc, ◌+◌, ◌-◌, ◌*◌, ◌/◌, ◌%◌, ◌^◌, ◌<◌, ◌≤◌, Bool, true, false, nat_eq, List, [], ◌∷◌, ◌++◌, length, get_or, set, drop, refl, ap, sym, ◌∙◌, subst, ⊎_elim, arith, add-one}
use Rattle.std.specs.Prelude.{filter}
use Rattle.std.proofs.Math.Nat.{add-div_right, add-mul-div_left, add-mul-mod_self_left, div-eq_of_lt, eq-or-lt_of_le, lt_of_mul-lt-mul_right}
use Rattle.std.proofs.lemmas.Bool.{cases_lt, cond-true, cond-false}
use Rattle.std.proofs.lemmas.List.{append-nil, drop_more, get_or-drop, length-set}
use Rattle.std.proofs.lemmas.List.Elements.{filter-append}
use Rattle.std.proofs.lemmas.Nat.{pow-add, pow_below, pow_pos}
use Rattle.tg_model.specs.Reading.{below, big_endian, used_slots}

-- the first byte stands above the number of the others, and the number of so many bytes is below that power
abbrev pub IsAboveOthers : Type 0
IsAboveOthers = (byte : ℕ) (bytes : List ℕ) → big_endian (byte ∷ bytes) ≡ byte * 2 ^ (8 * length bytes) + big_endian bytes

abbrev pub IsBelowPower : Type 0
IsBelowPower = (bytes : List ℕ) → ((k : ℕ) → get_or bytes k 0 < 256) → big_endian bytes < 2 ^ (8 * length bytes)

-- ---- the number that bytes are

more_there : (byte more p rest : ℕ) → (byte + more) * p + rest ≡ (byte * p + rest) + more * p
more_there byte more p rest = grind arith

-- a byte that is raised raises the number, by as much as it counts there
pub raised : IsAboveOthers → (bytes : List ℕ) (i j more : ℕ) → i + j + 1 ≡ length bytes → big_endian (set bytes i (get_or bytes i 0 + more)) ≡ big_endian bytes + more * 2 ^ (8 * j)
raised first_byte [] i j more e = absurd (omega arith)
raised first_byte (byte ∷ bytes) zero j more e =
    let count : length bytes ≡ j = omega arith in
    first_byte (byte + more) bytes ∙ more_there byte more (2 ^ (8 * length bytes)) (big_endian bytes)
    ∙ ap (λ n. n + more * 2 ^ (8 * length bytes)) (sym (first_byte byte bytes)) ∙ ap (λ k. big_endian (byte ∷ bytes) + more * 2 ^ (8 * k)) count
raised first_byte (byte ∷ bytes) (suc i) j more e =
    let rest = raised first_byte bytes i j more (omega arith) in
    let same = length-set bytes i (get_or bytes i 0 + more) in
    let high = 2 ^ (8 * length bytes) in
    let new = big_endian (set bytes i (get_or bytes i 0 + more)) in
    first_byte byte (set bytes i (get_or bytes i 0 + more)) ∙ ap (λ k. byte * 2 ^ (8 * k) + new) same
    ∙ (let f : byte * high + new ≡ (byte * high + big_endian bytes) + more * 2 ^ (8 * j) = omega (arith, rest) in f)
    ∙ ap (λ n. n + more * 2 ^ (8 * j)) (sym (first_byte byte bytes))

-- a byte counts as much as the number has at most
pub counts : IsAboveOthers → (bytes : List ℕ) (i j : ℕ) → i + j + 1 ≡ length bytes → get_or bytes i 0 * 2 ^ (8 * j) ≤ big_endian bytes
counts first_byte [] i j e = absurd (omega arith)
counts first_byte (byte ∷ bytes) zero j e =
    let count : length bytes ≡ j = omega arith in
    let is = first_byte byte bytes ∙ ap (λ k. byte * 2 ^ (8 * k) + big_endian bytes) count in
    omega (arith, is)
counts first_byte (byte ∷ bytes) (suc i) j e =
    let rest = counts first_byte bytes i j (omega arith) in
    let is = first_byte byte bytes in
    omega (arith, is, rest)

-- ---- the bits of a number

-- whether a bit is set
abbrev is_set : ℕ → ℕ → Bool
is_set number i = nat_eq ((number / 2 ^ i) % 2) 1

-- no bit is set above the number
pub none_above : (number i : ℕ) → number < 2 ^ i → is_set number i ≡ false
none_above number i low = ap (λ q. nat_eq (q % 2) 1) (div-eq_of_lt {n = number} {m = 2 ^ i} low)

twice_more : (number i k : ℕ) → is_set (number + 2 ^ i * (2 * k)) i ≡ is_set number i
twice_more number i k =
    ap (λ q. nat_eq (q % 2) 1) (add-mul-div_left number (2 * k) {y = 2 ^ i} (pow_pos i))
    ∙ ap (λ q. nat_eq q 1) (add-mul-mod_self_left (number / 2 ^ i) 2 k)

-- a power of two changes no bit below it
same_below : (number s i : ℕ) → i < s → is_set (number + 2 ^ s) i ≡ is_set number i
same_below number s i low =
    let m : ℕ = s - i - 1 in
    let e : s ≡ i + (1 + m) = omega arith in
    let power : 2 ^ s ≡ 2 ^ i * (2 * 2 ^ m) = ap (λ k. 2 ^ k) e ∙ pow-add 2 i (1 + m) ∙ ap (λ n. 2 ^ i * n) (pow-add 2 1 m) in
    ap (λ n. is_set (number + n) i) power ∙ twice_more number i (2 ^ m)

-- and sets its own
set_there : (number s : ℕ) → number < 2 ^ s → is_set (number + 2 ^ s) s ≡ true
set_there number s low =
    ap (λ q. nat_eq (q % 2) 1) (add-div_right number {k = 2 ^ s} (pow_pos s))
    ∙ ap (λ q. nat_eq ((q + 1) % 2) 1) (div-eq_of_lt {n = number} {m = 2 ^ s} low)

-- ---- the numbers below another that pass a test

filtered : (test : ℕ → Bool) (n : ℕ) → filter test (below (suc n)) ≡ filter test (below n) ++ filter test (n ∷ [])
filtered test n = filter-append test (below n) (n ∷ [])

-- where none from k on passes, they are those below k
pub no_more : (test : ℕ → Bool) (k m : ℕ) → ((i : ℕ) → k ≤ i → test i ≡ false) → k ≤ m → filter test (below m) ≡ filter test (below k)
no_more test k zero fails le = let e : k ≡ zero = omega arith in ap (λ n. filter test (below n)) (sym e)
no_more test k (suc m) fails le = ⊎_elim
    (λ less.
    filtered test m ∙ ap (λ l. filter test (below m) ++ l) (cond-false (test m) (m ∷ []) [] (fails m (omega arith)))
    ∙ append-nil (filter test (below m)) ∙ no_more test k m fails (omega arith))
    (λ more. let e : suc m ≡ k = omega arith in ap (λ n. filter test (below n)) e)
    (cases_lt k (suc m))

-- tests that agree below n
agreeing : (p q : ℕ → Bool) (n : ℕ) → ((i : ℕ) → i < n → p i ≡ q i) → filter p (below n) ≡ filter q (below n)
agreeing p q zero same = refl
agreeing p q (suc n) same =
    let rest : filter p (below n) ≡ filter q (below n) = agreeing p q n (λ i h. same i (omega arith)) in
    let last : filter p (n ∷ []) ≡ filter q (n ∷ []) = rw (same n (omega arith)) refl in
    filtered p n ∙ ap (λ l. l ++ filter p (n ∷ [])) rest ∙ ap (λ l. filter q (below n) ++ l) last ∙ sym (filtered q n)

-- where a number below a power lies
power_up : (s : ℕ) → 2 ^ (s + 1) ≡ 2 ^ s + 2 ^ s
power_up s = pow-add 2 s 1 ∙ (let e : 2 ^ s * 2 ≡ 2 ^ s + 2 ^ s = omega arith in e)

pub at_least : (number s i : ℕ) → number < 2 ^ s → s ≤ i → number < 2 ^ i
at_least number s i low le = ⊎_elim (λ same. subst (λ (k : ℕ). number < 2 ^ k) same low) (λ less. let h = pow_below s i less in omega (arith, h)) (eq-or-lt_of_le le)

pub doubled : (number s : ℕ) → number < 2 ^ s → number + 2 ^ s < 2 ^ (s + 1)
doubled number s low = let e = power_up s in omega (arith, e)

higher_than : (number s i : ℕ) → number < 2 ^ s → s + 1 ≤ i → number + 2 ^ s < 2 ^ i
higher_than number s i low le = at_least (number + 2 ^ s) (s + 1) i (doubled number s low) le

-- the bits that are set in a number, and one above them
pub one_more : (number s m : ℕ) → number < 2 ^ s → s < m
    → filter (is_set (number + 2 ^ s)) (below m) ≡ filter (is_set number) (below m) ++ s ∷ []
one_more number s m low inside =
    let higher : (i : ℕ) → s + 1 ≤ i → number + 2 ^ s < 2 ^ i = λ i h. higher_than number s i low h in
    no_more (is_set (number + 2 ^ s)) (s + 1) m (λ i h. none_above (number + 2 ^ s) i (higher i h)) (omega arith)
    ∙ ap (λ k. filter (is_set (number + 2 ^ s)) (below k)) (add-one s)
    ∙ filtered (is_set (number + 2 ^ s)) s
    ∙ ap (λ l. filter (is_set (number + 2 ^ s)) (below s) ++ l) (cond-true (is_set (number + 2 ^ s) s) (s ∷ []) [] (set_there number s low))
    ∙ ap (λ l. l ++ s ∷ []) (agreeing (is_set (number + 2 ^ s)) (is_set number) s (λ i h. same_below number s i h)
    ∙ sym (no_more (is_set number) s m (λ i h. none_above number i (at_least number s i low h)) (omega arith)))

-- ---- bit fields

-- the power of a slot in its byte
pub slot_power : (s j r : ℕ) → s ≡ 8 * j + r → 2 ^ s ≡ 2 ^ r * 2 ^ (8 * j)
slot_power s j r e = let f : s ≡ r + 8 * j = omega arith in ap (λ k. 2 ^ k) f ∙ pow-add 2 r (8 * j)

-- a byte whose bits from r on aren't set is below that power
pub byte_low : IsAboveOthers → (bytes : List ℕ) (i j s r : ℕ) → i + j + 1 ≡ length bytes → s ≡ 8 * j + r → big_endian bytes < 2 ^ s → get_or bytes i 0 < 2 ^ r
byte_low first_byte bytes i j s r e at low =
    let most = counts first_byte bytes i j e in
    let power = slot_power s j r at in
    lt_of_mul-lt-mul_right (2 ^ (8 * j)) {m = get_or bytes i 0} {n = 2 ^ r} (omega (arith, most, power, low))

pub raised_number : IsAboveOthers → (bytes : List ℕ) (i j s r : ℕ) → i + j + 1 ≡ length bytes → s ≡ 8 * j + r
    → big_endian (set bytes i (get_or bytes i 0 + 2 ^ r)) ≡ big_endian bytes + 2 ^ s
raised_number first_byte bytes i j s r e at = raised first_byte bytes i j (2 ^ r) e ∙ ap (λ n. big_endian bytes + n) (sym (slot_power s j r at))

pub raised_used : IsAboveOthers → (bytes : List ℕ) (i j s r : ℕ) → i + j + 1 ≡ length bytes → s ≡ 8 * j + r → r < 8 → big_endian bytes < 2 ^ s
    → used_slots (set bytes i (get_or bytes i 0 + 2 ^ r)) ≡ used_slots bytes ++ s ∷ []
raised_used first_byte bytes i j s r e at small low =
    let new = set bytes i (get_or bytes i 0 + 2 ^ r) in
    let inside : s < 8 * length bytes = omega arith in
    ap (λ n. filter (is_set n) (below (8 * length new))) (raised_number first_byte bytes i j s r e at)
    ∙ ap (λ k. filter (is_set (big_endian bytes + 2 ^ s)) (below (8 * k))) (length-set bytes i (get_or bytes i 0 + 2 ^ r))
    ∙ one_more (big_endian bytes) s (8 * length bytes) low inside

-- a leading zero byte sets no bit
pub leading_zero : IsAboveOthers → IsBelowPower → (bytes : List ℕ) → ((k : ℕ) → get_or bytes k 0 < 256) → used_slots (0 ∷ bytes) ≡ used_slots bytes
leading_zero first_byte big_endian_below bytes are =
    let e : big_endian (0 ∷ bytes) ≡ big_endian bytes = first_byte 0 bytes ∙ (let f : 0 * 2 ^ (8 * length bytes) + big_endian bytes ≡ big_endian bytes = omega arith in f) in
    ap (λ n. filter (is_set n) (below (8 * suc (length bytes)))) e
    ∙ no_more (is_set (big_endian bytes)) (8 * length bytes) (8 * suc (length bytes))
    (λ i h. none_above (big_endian bytes) i (at_least (big_endian bytes) (8 * length bytes) i (big_endian_below bytes are) h)) (omega arith)

-- the sum fits a byte
pub raised_fits : (b r : ℕ) → r < 8 → b < 2 ^ r → b + 2 ^ r < 256
raised_fits b r small low = at_least (b + 2 ^ r) (r + 1) 8 (doubled b r low) (omega arith)

-- one byte on, where it is zero
pub zero_passed : IsAboveOthers → IsBelowPower → (bytes : List ℕ) (i : ℕ) → i < length bytes → get_or bytes i 0 ≡ 0 → ((k : ℕ) → get_or bytes k 0 < 256)
    → used_slots (drop (i + 1) bytes) ≡ used_slots (drop i bytes)
zero_passed first_byte big_endian_below bytes i lt zero_there are =
    sym (leading_zero first_byte big_endian_below (drop (i + 1) bytes) (λ k. rw (get_or-drop (i + 1) bytes k 0) (are (i + 1 + k))))
    ∙ ap (λ b. used_slots (b ∷ drop (i + 1) bytes)) (sym zero_there)
    ∙ ap used_slots (sym (drop_more bytes i 0 lt))
