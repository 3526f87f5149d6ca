-- Bits that are held, added to and moved on.
use Rattle.std.proofs.Common.{◌≡◌, ℕ, ◌+◌, ◌*◌, ◌/◌, ◌%◌, ◌^◌, ◌<◌, ◌≤◌, List, [], ◌∷◌, ◌++◌, sym, ap, ap₂, ◌∙◌, subst, append_assoc, arith}
use Rattle.std.specs.List.{flat_map}
use Rattle.std.proofs.Math.Nat.{mod-lt, mul-le-mul_right}
use Rattle.std.proofs.lemmas.Grind.{flat_map-append}
use Rattle.std.proofs.lemmas.List.{append-nil}
use Rattle.std.proofs.lemmas.Nat.{pow-add, pow_pos, one_shl, shr_below}
use Rattle.tg_base32.specs.Base32.{bits}
use Rattle.tg_base32.proofs.Bits.{bits-append, bits-mod, bits_join}

pub holds_more : (high low a b : ℕ) → high < 2 ^ a → low < 2 ^ b → high * 2 ^ b + low < 2 ^ (a + b)
holds_more high low a b p q =
    let h : (high + 1) * 2 ^ b ≤ 2 ^ a * 2 ^ b = mul-le-mul_right (2 ^ b) (omega arith) in
    omega (arith, pow-add 2 a b, h)

-- the first bits of those that are held become an item, and the others stay
pub move : (f : ℕ → List ℕ) (items : List ℕ) (item width count value : ℕ) → f item ≡ bits width (value / 2 ^ count) → flat_map f (items ++ item ∷ []) ++ bits count (value % 2 ^ count) ≡ flat_map f items ++ bits (width + count) value
move f items item width count value e =
    let one : flat_map f (items ++ item ∷ []) ≡ flat_map f items ++ bits width (value / 2 ^ count) =
    flat_map-append f items (item ∷ []) ∙ ap (λ (t : List ℕ). flat_map f items ++ t) (append-nil (f item) ∙ e) in
    ap₂ (λ (s t : List ℕ). s ++ t) one (bits-mod count value)
    ∙ append_assoc (flat_map f items) (bits width (value / 2 ^ count)) (bits count value)
    ∙ ap (λ (t : List ℕ). flat_map f items ++ t) (sym (bits-append width count value))

-- `value % (1 << count)` at 16 bits
pub mask : (value count : ℕ) → count < 16 → value % (1 * 2 ^ count % 65536) ≡ value % 2 ^ count
mask value count h = ap (λ (n : ℕ). value % n) (one_shl count 16 h)

pub masked_fits : (value count : ℕ) → count < 16 → value % (1 * 2 ^ count % 65536) < 2 ^ count
masked_fits value count h = rw (mask value count h) (mod-lt value (pow_pos count))

pub high_below : (high low a b width count : ℕ) → width + count ≡ a + b → high < 2 ^ a → low < 2 ^ b → (high * 2 ^ b + low) / 2 ^ count < 2 ^ width
high_below high low a b width count e p q =
    shr_below (high * 2 ^ b + low) width count (subst (λ (n : ℕ). high * 2 ^ b + low < 2 ^ n) (sym e) (holds_more high low a b p q))

-- bits come in behind those that are held, and the first of all become an item
pub moved : (f : ℕ → List ℕ) (items : List ℕ) (item width count a b high low : ℕ) → width + count ≡ a + b → low < 2 ^ b → f item ≡ bits width ((high * 2 ^ b + low) / 2 ^ count) → flat_map f (items ++ item ∷ []) ++ bits count ((high * 2 ^ b + low) % 2 ^ count) ≡ flat_map f items ++ (bits a high ++ bits b low)
moved f items item width count a b high low e lt is =
    move f items item width count (high * 2 ^ b + low) is
    ∙ ap (λ (n : ℕ). flat_map f items ++ bits n (high * 2 ^ b + low)) e
    ∙ ap (λ (t : List ℕ). flat_map f items ++ t) (bits_join a b high low lt)
