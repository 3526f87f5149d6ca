-- What a text and bytes that it spells say of each other.
use Rattle.std.proofs.Common.{◌≡◌, ℕ, ◌+◌, ◌-◌, ◌*◌, ◌/◌, ◌%◌, ◌^◌, ◌<◌, ◌≤◌, ◌⊎◌, List, [], ◌∷◌, ◌++◌, length, take, ◌≢◌, eqb, not, sym, ap, ◌∙◌, append_assoc, subst, inl, inr, arith}
use Rattle.std.specs.Prelude.{Any, replicate, drop, slice_get, Some, IsTrue}
use Rattle.std.proofs.Math.ListN.{length-replicate}
use Rattle.std.proofs.lemmas.List.{length-append, append-nil, take_all, take_more}
use Rattle.std.proofs.lemmas.Option.{slice_get_within, get_or_from_slice_get}
use Rattle.std.proofs.lemmas.Nat.{pow_pos, one_shl}
use Rattle.std.proofs.Math.Nat.{mod-lt}
use Rattle.std.proofs.Math.Seq.{drop-append_seam}
use Rattle.std.proofs.lemmas.Grind.{flat_map-append}
use Rattle.std.proofs.lemmas.Bool.{cases_lt}
use Rattle.std.proofs.lemmas.Bool.Decides.{nat_tests}
use Rattle.tg_base32.specs.Base32.{IsLetter, IsNoLength, value_of, bits, bits_of_bytes, bits_of_text, Base32Text}
use Rattle.tg_base32.proofs.Bits.{length-bits, same_number, bits-append, bits-mod, bits_zero, some_bit, no_bit}
use Rattle.tg_base32.proofs.Items.{length_items, same_items}

abbrev pub bits_of_letter : ℕ → List ℕ
bits_of_letter letter = bits 5 (value_of letter)

pub letter_cases : (letter : ℕ) → IsLetter letter → ((97 ≤ letter) × (letter ≤ 122) × (value_of letter + 97 ≡ letter)) ⊎ ((50 ≤ letter) × (letter ≤ 55) × (value_of letter + 24 ≡ letter))
letter_cases letter (inl h) = let v : value_of letter + 97 ≡ letter = grind (arith, nat_tests) in inl (h.0, h.1, v)
letter_cases letter (inr h) = let v : value_of letter + 24 ≡ letter = grind (arith, nat_tests) in inr (h.0, h.1, v)

pub value_below : (letter : ℕ) → IsLetter letter → value_of letter < 2 ^ 5
value_below letter h = elim (letter_cases letter h) [ inl p ↦ omega (arith, p.1, p.2) | inr p ↦ omega (arith, p.1, p.2) ]

same_letter : (x y : ℕ) → IsLetter x → IsLetter y → value_of x ≡ value_of y → x ≡ y
same_letter x y p q e =
    elim (letter_cases x p) [
      | inl u ↦ elim (letter_cases y q) [ inl v ↦ omega (arith, u.2, v.2, e) | inr v ↦ absurd (omega (arith, u.1, u.2, v.0, v.1, v.2, e)) ]
      | inr u ↦ elim (letter_cases y q) [ inl v ↦ absurd (omega (arith, u.0, u.1, u.2, v.1, v.2, e)) | inr v ↦ omega (arith, u.2, v.2, e) ]
    ]

pub length_of_text : (text : List ℕ) → length (bits_of_text text) ≡ 5 * length text
length_of_text = length_items bits_of_letter 5 (λ x. length-bits 5 (value_of x))

pub length_of_bytes : (bytes : List ℕ) → length (bits_of_bytes bytes) ≡ 8 * length bytes
length_of_bytes = length_items (bits 8) 8 (length-bits 8)

pub one_reading : (text a b : List ℕ) → Base32Text text a → Base32Text text b → a ≡ b
one_reading text a b p q =
    same_items (bits 8) 8 (λ x. x < 256) (length-bits 8) (same_number 8) a b (replicate p.padding 0) (replicate q.padding 0) p.are_bytes q.are_bytes
    (omega (arith, length-replicate {A = ℕ} p.padding 0, p.fewer))
    (omega (arith, length-replicate {A = ℕ} q.padding 0, q.fewer))
    (sym p.same_bits ∙ q.same_bits)

-- five bits a letter are eight a byte and the padding
pub lengths : (text bytes : List ℕ) (p : Base32Text text bytes) → 5 * length text ≡ 8 * length bytes + p.padding
lengths text bytes p =
    omega (arith, length_of_text text, length_of_bytes bytes, ap length p.same_bits, length-append (bits_of_bytes bytes) (replicate p.padding 0), length-replicate {A = ℕ} p.padding 0)

pub one_spelling : (s t bytes : List ℕ) → Base32Text s bytes → Base32Text t bytes → s ≡ t
one_spelling s t bytes p q =
    let same : p.padding ≡ q.padding = omega (arith, lengths s bytes p, lengths t bytes q, p.fewer, q.fewer) in
    let e : bits_of_text s ≡ bits_of_text t = p.same_bits ∙ ap (λ (n : ℕ). bits_of_bytes bytes ++ replicate n 0) same ∙ sym q.same_bits in
    same_items bits_of_letter 5 IsLetter (λ x. length-bits 5 (value_of x))
    (λ x y h k b. same_letter x y h k (same_number 5 (value_of x) (value_of y) (value_below x h) (value_below y k) b))
    s t [] [] p.letters q.letters (omega arith) (omega arith) (append-nil (bits_of_text s) ∙ e ∙ sym (append-nil (bits_of_text t)))

pub drop_front : (n : ℕ) (xs ys : List ℕ) → n ≡ length xs → drop n (xs ++ ys) ≡ ys
drop_front n xs ys e = ap (λ (k : ℕ). drop k (xs ++ ys)) e ∙ drop-append_seam xs ys

-- the bits after the last whole byte are the lowest of the last letter
pub tail_of : (text front : List ℕ) (letter unused : ℕ) → text ≡ front ++ letter ∷ [] → unused ≤ 5 → 8 * (5 * length text / 8) + unused ≡ 5 * length text → drop (8 * (5 * length text / 8)) (bits_of_text text) ≡ bits unused (value_of letter % 2 ^ unused)
tail_of text front letter unused is few whole =
    let v = value_of letter in
    let high = bits (5 - unused) (v / 2 ^ unused) in
    let five : bits 5 v ≡ high ++ bits unused v = ap (λ (n : ℕ). bits n v) (omega arith) ∙ bits-append (5 - unused) unused v in
    let parts : bits_of_text text ≡ (bits_of_text front ++ high) ++ bits unused v =
    ap bits_of_text is ∙ flat_map-append bits_of_letter front (letter ∷ [])
    ∙ ap (λ (t : List ℕ). bits_of_text front ++ t) (append-nil (bits 5 v) ∙ five)
    ∙ sym (append_assoc (bits_of_text front) high (bits unused v)) in
    let size : 8 * (5 * length text / 8) ≡ length (bits_of_text front ++ high) =
    omega (arith, ap length is, length-append front (letter ∷ []), length-append (bits_of_text front) high, length_of_text front, length-bits (5 - unused) (v / 2 ^ unused)) in
    ap (drop (8 * (5 * length text / 8))) parts
    ∙ drop_front (8 * (5 * length text / 8)) (bits_of_text front ++ high) (bits unused v) size
    ∙ sym (bits-mod unused v)

-- the bits of a number hold a 1 just where it isn't 0
pub set_bits : (tail : List ℕ) (count number : ℕ) → number < 2 ^ count → tail ≡ bits count number → (0 < number → Any (λ (bit : ℕ). bit ≡ 1) tail) × (Any (λ (bit : ℕ). bit ≡ 1) tail → 0 < number)
set_bits tail count number lt e = (
  λ h. subst (λ (bs : List ℕ). Any (λ (bit : ℕ). bit ≡ 1) bs) (sym e) (some_bit count number lt h),
  λ h. elim (cases_lt 0 number) [
    | inl p ↦ p
    | inr p ↦
        let none : tail ≡ replicate {A = ℕ} count 0 = e ∙ ap (bits count) (omega arith) ∙ bits_zero count in
        absurd (no_bit count (subst (λ (bs : List ℕ). Any (λ (bit : ℕ). bit ≡ 1) bs) none h))
  ],
)

-- the same of a text's last letter, as the code computes it
pub last_bits : (text : List ℕ) (last rest : ℕ) → slice_get text (length text - 1) ≡ Some last → (IsNoLength (length text) → ⊥) → rest ≡ value_of last % (1 * 2 ^ (length text % 8 * 5 % 8) % 256) → (0 < rest → Any (λ (bit : ℕ). bit ≡ 1) (drop (8 * (5 * length text / 8)) (bits_of_text text))) × (Any (λ (bit : ℕ). bit ≡ 1) (drop (8 * (5 * length text / 8)) (bits_of_text text)) → 0 < rest)
last_bits text last rest at possible is =
    let unused = length text % 8 * 5 % 8 in
    let within : length text - 1 < length text = slice_get_within text (length text - 1) last at in
    let not1 : length text % 8 ≢ 1 = λ e. possible (inl e) in
    let not3 : length text % 8 ≢ 3 = λ e. possible (inr (inl e)) in
    let not6 : length text % 8 ≢ 6 = λ e. possible (inr (inr e)) in
    let few : unused < 5 = omega arith in
    let split : text ≡ take (length text - 1) text ++ last ∷ [] =
    sym (take_all (length text - 1 + 1) text (omega arith))
    ∙ take_more text (length text - 1) 0 within
    ∙ ap (λ (x : ℕ). take (length text - 1) text ++ x ∷ []) (get_or_from_slice_get text (length text - 1) last 0 at) in
    let tail = tail_of text (take (length text - 1) text) last unused split (omega arith) (omega arith) in
    let masked : rest ≡ value_of last % 2 ^ unused = is ∙ ap (λ (n : ℕ). value_of last % n) (one_shl unused 8 (omega arith)) in
    set_bits (drop (8 * (5 * length text / 8)) (bits_of_text text)) unused rest (rw masked (mod-lt (value_of last) (pow_pos unused))) (tail ∙ ap (bits unused) (sym masked))

pub not_zero : (n : ℕ) → (IsTrue (not (eqb n 0)) → 0 < n) × (0 < n → IsTrue (not (eqb n 0)))
not_zero n = (λ h. grind (arith, nat_tests), λ h. grind (arith, nat_tests))
