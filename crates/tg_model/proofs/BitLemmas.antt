-- The bits of bytes that are one big-endian number, and the numbers below another that pass a test.
use Rattle.std.proofs.Common.{◌≡◌, ℕ, ◌+◌, ◌-◌, ◌*◌, ◌^◌, ◌<◌, Bool, true, false, List, [], ◌∷◌, ◌++◌, length, get_or, ap, sym, ◌∙◌, ⊎_elim, arith, suc, add-one, min}
use Rattle.std.specs.Prelude.{filter, fold}
use Rattle.std.specs.Int.{bit_at}
use Rattle.std.proofs.lemmas.Bool.{cases_lt, cond-true, cond-false}
use Rattle.std.proofs.lemmas.List.{append-nil, length_push}
use Rattle.std.proofs.lemmas.List.Elements.{filter-append}
use Rattle.std.proofs.lemmas.Nat.{pow-add, mul-add-lt}
use Rattle.std.proofs.lemmas.Nat.Bits.{bit_at_cat_low, bit_at_cat_high}
use Rattle.tg_model.specs.Reading.{below, big_endian}

-- ---- the bits of bytes

-- a byte read behind a number
abbrev then_byte : ℕ → ℕ → ℕ
then_byte number byte = number * 256 + byte

-- eight more bits
pow_byte : (n : ℕ) → 2 ^ (8 * suc n) ≡ 2 ^ (8 * n) * 256
pow_byte n = let e : 8 * suc n ≡ 8 * n + 8 = omega arith in ap (λ k. 2 ^ k) e ∙ pow-add 2 (8 * n) 8

-- a number and a byte, above the power p
regroup : (number byte p rest : ℕ) → (number * 256 + byte) * p + rest ≡ number * (p * 256) + ((0 * 256 + byte) * p + rest)
regroup number byte p rest = grind arith

-- bytes behind a number stand below it
number_then : (number : ℕ) (bytes : List ℕ) → fold then_byte number bytes ≡ number * 2 ^ (8 * length bytes) + big_endian bytes
number_then number [] = omega arith
number_then number (byte ∷ bytes) =
    let power = 2 ^ (8 * length bytes) in
    let whole : fold then_byte (number * 256 + byte) bytes ≡ (number * 256 + byte) * power + big_endian bytes = number_then (number * 256 + byte) bytes in
    let part : fold then_byte (0 * 256 + byte) bytes ≡ (0 * 256 + byte) * power + big_endian bytes = number_then (0 * 256 + byte) bytes in
    whole ∙ regroup number byte power (big_endian bytes) ∙ ap (λ n. number * (power * 256) + n) (sym part)
    ∙ ap (λ n. number * n + big_endian (byte ∷ bytes)) (sym (pow_byte (length bytes)))

-- the first byte stands above the number of the others
pub first_byte : (byte : ℕ) (bytes : List ℕ) → big_endian (byte ∷ bytes) ≡ byte * 2 ^ (8 * length bytes) + big_endian bytes
first_byte byte bytes =
    number_then (0 * 256 + byte) bytes
    ∙ (let e : 0 * 256 + byte ≡ byte = omega arith in ap (λ n. n * 2 ^ (8 * length bytes) + big_endian bytes) e)

-- the number of so many bytes is below that power
pub big_endian_below : (bytes : List ℕ) → ((k : ℕ) → get_or bytes k 0 < 256) → big_endian bytes < 2 ^ (8 * length bytes)
big_endian_below [] are = omega arith
big_endian_below (byte ∷ bytes) are =
    let one : byte < 256 = are 0 in
    rw (first_byte byte bytes, pow_byte (length bytes))
    (mul-add-lt byte (2 ^ (8 * length bytes)) (big_endian bytes) 256 one (big_endian_below bytes (λ k. are (suc k))))

-- a bit of a byte, counted from the last byte, is one of the number
pub bit_of_byte : (bytes : List ℕ) → ((k : ℕ) → get_or bytes k 0 < 256) → (index bit : ℕ) → index < length bytes → bit < 8
    → bit_at (get_or bytes (length bytes - 1 - index) 0) bit ≡ bit_at (big_endian bytes) (8 * index + bit)
bit_of_byte [] are index bit within low = absurd (omega arith)
bit_of_byte (byte ∷ bytes) are index bit within low =
    let size = length bytes in
    let number = big_endian bytes in
    let small : number < 2 ^ (8 * size) = big_endian_below bytes (λ k. are (suc k)) in
    let whole = ap (λ n. bit_at n (8 * index + bit)) (sym (first_byte byte bytes)) in
    ⊎_elim
    (λ less.
    let place : suc size - 1 - index ≡ suc (size - 1 - index) = omega arith in
    ap (λ k. bit_at (get_or (byte ∷ bytes) k 0) bit) place
    ∙ bit_of_byte bytes (λ k. are (suc k)) index bit less low
    ∙ sym (bit_at_cat_low byte (8 * size) number (8 * index + bit) (omega arith)) ∙ whole)
    (λ more.
    let place : suc size - 1 - index ≡ 0 = omega arith in
    let last : 8 * index + bit - 8 * size ≡ bit = omega arith in
    ap (λ k. bit_at (get_or (byte ∷ bytes) k 0) bit) place
    ∙ sym (bit_at_cat_high byte (8 * size) number (8 * index + bit) small (omega arith) ∙ ap (λ k. bit_at byte k) last) ∙ whole)
    (cases_lt index size)

-- ---- the numbers below another that pass a test

-- the number n comes last among those up to n
filter_below : (test : ℕ → Bool) (n m : ℕ) → m ≡ n + 1 → filter test (below m) ≡ filter test (below n) ++ filter test (n ∷ [])
filter_below test n m e = ap (λ k. filter test (below k)) (e ∙ add-one n) ∙ filter-append test (below n) (n ∷ [])

-- where it passes, it is one more
pub filtered_yes : (test : ℕ → Bool) (n m : ℕ) → m ≡ n + 1 → test n ≡ true → filter test (below m) ≡ filter test (below n) ++ n ∷ []
filtered_yes test n m e passes = filter_below test n m e ∙ ap (λ l. filter test (below n) ++ l) (cond-true (test n) (n ∷ []) [] passes)

-- where it fails, nothing is added
pub filtered_no : (test : ℕ → Bool) (n m : ℕ) → m ≡ n + 1 → test n ≡ false → filter test (below m) ≡ filter test (below n)
filtered_no test n m e fails =
    filter_below test n m e ∙ ap (λ l. filter test (below n) ++ l) (cond-false (test n) (n ∷ []) [] fails) ∙ append-nil (filter test (below n))

-- a count that stands still at 2 ^ 64 - 1, where one more number passes
pub counted_yes : (test : ℕ → Bool) (n m count next : ℕ) → m ≡ n + 1 → test n ≡ true → count ≡ min (length (filter test (below n))) (2 ^ 64 - 1)
    → next ≡ min (count + 1) (2 ^ 64 - 1) → next ≡ min (length (filter test (below m))) (2 ^ 64 - 1)
counted_yes test n m count next e passes was is =
    let more : length (filter test (below m)) ≡ length (filter test (below n)) + 1 =
    ap length (filtered_yes test n m e passes) ∙ length_push (filter test (below n)) n in
    omega arith

-- and where it fails
pub counted_no : (test : ℕ → Bool) (n m count : ℕ) → m ≡ n + 1 → test n ≡ false → count ≡ min (length (filter test (below n))) (2 ^ 64 - 1)
    → count ≡ min (length (filter test (below m))) (2 ^ 64 - 1)
counted_no test n m count e fails was = was ∙ ap (λ l. min (length l) (2 ^ 64 - 1)) (sym (filtered_no test n m e fails))
