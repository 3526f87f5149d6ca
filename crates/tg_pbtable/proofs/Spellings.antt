-- Fields at the front of bytes: one field at each place, and one text for the same fields.
use Rattle.std.proofs.Common.{◌≡◌, ℕ, ◌+◌, ◌*◌, ◌<◌, ◌⊎◌, List, [], ◌∷◌, ◌++◌, length, refl, sym, ap, ap₂, ◌∙◌, append_assoc, subst, inl, inr, arith}
use Rattle.std.specs.Prelude.{◌^◌, slice_range}
use Rattle.std.specs.Int.{to_le_bytes, from_le_bytes, w32}
use Rattle.std.proofs.lemmas.Nat.{from_le_bytes-to_le_bytes_4}
use Rattle.std.proofs.lemmas.List.{length-append, append-nil}
use Rattle.tg_pbtable.specs.declared.table.Field.{Field}
use Rattle.tg_pbtable.specs.declared.table.Wire.{Wire}
use Rattle.tg_pbtable.specs.declared.table.Wire.TheVariants.{Varint, Bytes, Fixed32}
use Rattle.tg_pbtable.specs.declared.table.Value.{Value}
use Rattle.tg_pbtable.specs.declared.table.Value.TheVariants.{Number, Place}
use Rattle.tg_pbtable.specs.Varint.{VarintSpelling}
use Rattle.tg_bytes.specs.Lists.{between, same_front}
use Rattle.tg_varint.specs.GroupLaws.{not_empty}
use Rattle.tg_pbtable.specs.Wires.{wire_code}
use Rattle.tg_pbtable.specs.Message.{IsOfWire, KeySpelling, NumberSpelling, PlaceSpelling, FixedSpelling, ValueSpelling, FieldSpelling, Spelled}
use Rattle.tg_pbtable.specs.Emitted.{IsSameValue, AreSameFields}
use Rattle.tg_pbtable.proofs.Varints.{one_number, same_bytes}

-- ---- keys

key_apart : (m n v w : ℕ) → v < 8 → w < 8 → m * 8 + v ≡ n * 8 + w → (m ≡ n) × (v ≡ w)
key_apart m n v w a b e = (omega arith, omega arith)

pub one_key : (m n v w : ℕ) (a b r s : List ℕ) → v < 8 → w < 8 → KeySpelling m v a → KeySpelling n w b → a ++ r ≡ b ++ s → (m ≡ n) × (v ≡ w) × (a ≡ b) × (r ≡ s)
one_key m n v w a b r s p q k l e =
    let same = one_number (m * 8 + v) (n * 8 + w) a b r s k l e in
    let parts = key_apart m n v w p q same.0 in
    (parts.0, parts.1, same.1, same.2)

-- ---- a field

-- the key, the length and the bytes of a place, with what follows
place_whole : (at number start end : ℕ) (bytes r : List ℕ) (p : PlaceSpelling at number start end bytes) → bytes ++ r ≡ p.key ++ (p.size ++ (p.content ++ r))
place_whole at number start end bytes r p =
    ap (λ (t : List ℕ). t ++ r) p.whole ∙ append_assoc p.key (p.size ++ p.content) r ∙ ap (λ (t : List ℕ). p.key ++ t) (append_assoc p.size p.content r)

number_whole : (number value : ℕ) (bytes r : List ℕ) (p : NumberSpelling number value bytes) → bytes ++ r ≡ p.key ++ (p.amount ++ r)
number_whole number value bytes r p = ap (λ (t : List ℕ). t ++ r) p.whole ∙ append_assoc p.key p.amount r

-- four bytes of two numbers are the same, so the numbers are
four_same : (i j : ℕ) → i < 2 ^ 32 → j < 2 ^ 32 → to_le_bytes w32 i ≡ to_le_bytes w32 j → i ≡ j
four_same i j a b e = sym (from_le_bytes-to_le_bytes_4 i a) ∙ ap (from_le_bytes w32) e ∙ from_le_bytes-to_le_bytes_4 j b

fixed_whole : (number value : ℕ) (bytes r : List ℕ) (p : FixedSpelling number value bytes) → bytes ++ r ≡ p.key ++ (to_le_bytes w32 value ++ r)
fixed_whole number value bytes r p = ap (λ (t : List ℕ). t ++ r) p.whole ∙ append_assoc p.key (to_le_bytes w32 value) r

-- a wire type has one number
pub same_code : (v w : Wire) → wire_code v ≡ wire_code w → v ≡ w
same_code Varint Varint e = refl
same_code Varint Bytes e = let clash : ◌≡◌ {A = ℕ} 0 2 = e in absurd (omega arith)
same_code Varint Fixed32 e = let clash : ◌≡◌ {A = ℕ} 0 5 = e in absurd (omega arith)
same_code Bytes Varint e = let clash : ◌≡◌ {A = ℕ} 2 0 = e in absurd (omega arith)
same_code Bytes Bytes e = refl
same_code Bytes Fixed32 e = let clash : ◌≡◌ {A = ℕ} 2 5 = e in absurd (omega arith)
same_code Fixed32 Varint e = let clash : ◌≡◌ {A = ℕ} 5 0 = e in absurd (omega arith)
same_code Fixed32 Bytes e = let clash : ◌≡◌ {A = ℕ} 5 2 = e in absurd (omega arith)
same_code Fixed32 Fixed32 e = refl

pub code_low : (w : Wire) → wire_code w < 8
code_low Varint = omega arith
code_low Bytes = omega arith
code_low Fixed32 = omega arith

-- a spelling begins with its key
pub record HasHead (number : ℕ) (wire : Wire) (bytes : List ℕ) : Type 0 where
  pub key : List ℕ
  pub tail : List ℕ
  pub whole : bytes ≡ key ++ tail
  pub key_is : KeySpelling number (wire_code wire) key

pub head_of : (at number : ℕ) (w : Wire) (v : Value) (a : List ℕ) → ValueSpelling at number w v a → HasHead number w a
head_of at number Varint (Number n) a p = record { key = p.key; tail = p.amount; whole = p.whole; key_is = p.key_is }
head_of at number Varint (Place start end) a p = absurd p
head_of at number Bytes (Number n) a p = absurd p
head_of at number Bytes (Place start end) a p = record { key = p.key; tail = p.size ++ p.content; whole = p.whole; key_is = p.key_is }
head_of at number Fixed32 (Number n) a p = record { key = p.key; tail = to_le_bytes w32 n; whole = p.whole; key_is = p.key_is }
head_of at number Fixed32 (Place start end) a p = absurd p

head_whole : (number : ℕ) (w : Wire) (a r : List ℕ) (h : HasHead number w a) → a ++ r ≡ h.key ++ (h.tail ++ r)
head_whole number w a r h = ap (λ (t : List ℕ). t ++ r) h.whole ∙ append_assoc h.key h.tail r

one_wire : (at m n : ℕ) (x y : Wire) (v w : Value) (a b r s : List ℕ) → ValueSpelling at m x v a → ValueSpelling at n y w b → a ++ r ≡ b ++ s → x ≡ y
one_wire at m n x y v w a b r s p q e =
    let f = head_of at m x v a p in
    let g = head_of at n y w b q in
    same_code x y (one_key m n (wire_code x) (wire_code y) f.key g.key (f.tail ++ r) (g.tail ++ s) (code_low x) (code_low y) f.key_is g.key_is (sym (head_whole m x a r f) ∙ e ∙ head_whole n y b s g)).1

of_one_wire : (at m n : ℕ) (x : Wire) (v w : Value) (a b r s : List ℕ) → ValueSpelling at m x v a → ValueSpelling at n x w b → a ++ r ≡ b ++ s → (m ≡ n) × (v ≡ w) × (a ≡ b) × (r ≡ s)
of_one_wire at m n Varint (Number i) (Number j) a b r s p q e =
    let keys = one_key m n 0 0 p.key q.key (p.amount ++ r) (q.amount ++ s) (omega arith) (omega arith) p.key_is q.key_is (sym (number_whole m i a r p) ∙ e ∙ number_whole n j b s q) in
    let amounts = one_number i j p.amount q.amount r s p.amount_is q.amount_is keys.3 in
    (keys.0, ap (λ (x : ℕ). Number x) amounts.0, p.whole ∙ ap₂ (λ (x y : List ℕ). x ++ y) keys.2 amounts.1 ∙ sym q.whole, amounts.2)
of_one_wire at m n Varint (Number i) (Place start end) a b r s p q e = absurd q
of_one_wire at m n Varint (Place start end) w a b r s p q e = absurd p
of_one_wire at m n Bytes (Number i) w a b r s p q e = absurd p
of_one_wire at m n Bytes (Place start end) (Number j) a b r s p q e = absurd q
of_one_wire at m n Bytes (Place start end) (Place from to) a b r s p q e =
    let keys = one_key m n 2 2 p.key q.key (p.size ++ (p.content ++ r)) (q.size ++ (q.content ++ s)) (omega arith) (omega arith) p.key_is q.key_is (sym (place_whole at m start end a r p) ∙ e ∙ place_whole at n from to b s q) in
    let sizes = one_number (length p.content) (length q.content) p.size q.size (p.content ++ r) (q.content ++ s) p.size_is q.size_is keys.3 in
    let contents = same_front p.content q.content r s sizes.0 sizes.2 in
    let key_lengths : length p.key ≡ length q.key = ap length keys.2 in
    let size_lengths : length p.size ≡ length q.size = ap length sizes.1 in
    let lengths : length p.content ≡ length q.content = sizes.0 in
    let starts : start ≡ from = omega (arith, p.start_is, q.start_is) in
    let ends : end ≡ to = omega (arith, p.end_is, q.end_is) in (
      keys.0,
      ap₂ (λ (x y : ℕ). Place x y) starts ends,
      p.whole ∙ ap₂ (λ (x y : List ℕ). x ++ y) keys.2 (ap₂ (λ (x y : List ℕ). x ++ y) sizes.1 contents.0) ∙ sym q.whole,
      contents.1,
    )
of_one_wire at m n Fixed32 (Number i) (Number j) a b r s p q e =
    let keys = one_key m n 5 5 p.key q.key (to_le_bytes w32 i ++ r) (to_le_bytes w32 j ++ s) (omega arith) (omega arith) p.key_is q.key_is (sym (fixed_whole m i a r p) ∙ e ∙ fixed_whole n j b s q) in
    let fours = same_front (to_le_bytes w32 i) (to_le_bytes w32 j) r s refl keys.3 in
    (keys.0, ap (λ (x : ℕ). Number x) (four_same i j p.fits q.fits fours.0), p.whole ∙ ap₂ (λ (x y : List ℕ). x ++ y) keys.2 fours.0 ∙ sym q.whole, fours.1)
of_one_wire at m n Fixed32 (Number i) (Place start end) a b r s p q e = absurd q
of_one_wire at m n Fixed32 (Place start end) w a b r s p q e = absurd p

pub one_value : (at m n : ℕ) (x y : Wire) (v w : Value) (a b r s : List ℕ) → ValueSpelling at m x v a → ValueSpelling at n y w b → a ++ r ≡ b ++ s → (m ≡ n) × (x ≡ y) × (v ≡ w) × (a ≡ b) × (r ≡ s)
one_value at m n x y v w a b r s p q e =
    let wires : x ≡ y = one_wire at m n x y v w a b r s p q e in
    let same = of_one_wire at m n x v w a b r s p (subst (λ (z : Wire). ValueSpelling at n z w b) (sym wires) q) e in
    (same.0, wires, same.1, same.2, same.3)

pub one_field : (at : ℕ) (f g : Field) (a b r s : List ℕ) → FieldSpelling at f a → FieldSpelling at g b → a ++ r ≡ b ++ s → (f ≡ g) × (a ≡ b) × (r ≡ s)
one_field at f g a b r s p q e =
    let same = one_value at f.number g.number f.wire g.wire f.value g.value a b r s p q e in
    let fields : f ≡ g = ap₂ (λ (n : ℕ) (v : Value). let x : Field = record { number = n; wire = f.wire; value = v } in x) same.0 same.2
    ∙ ap (λ (w : Wire). let x : Field = record { number = g.number; wire = w; value = g.value } in x) same.1 in
    (fields, same.3, same.4)

pub value_more : (at number : ℕ) (w : Wire) (v : Value) (a : List ℕ) → ValueSpelling at number w v a → 0 < length a
value_more at number w v a p =
    let h = head_of at number w v a p in
    omega (arith, ap length h.whole, length-append h.key h.tail, not_empty (number * 8 + wire_code w) h.key h.key_is.groups)

-- a spelled value is one that its wire type has
pub value_of_wire : (at number : ℕ) (w : Wire) (v : Value) (a : List ℕ) → ValueSpelling at number w v a → IsOfWire w v
value_of_wire at number Varint (Number n) a p = tt
value_of_wire at number Varint (Place start end) a p = absurd p
value_of_wire at number Bytes (Number n) a p = absurd p
value_of_wire at number Bytes (Place start end) a p = tt
value_of_wire at number Fixed32 (Number n) a p = p.fits
value_of_wire at number Fixed32 (Place start end) a p = absurd p

-- ---- fields one after another

-- of two rows of fields at the front of the same bytes, the first ends here, and the other goes on with a field
pub record Further (fields : List Field) (at : ℕ) (rest : List ℕ) (all : List Field) : Type 0 where
  pub field : Field
  pub others : List Field
  pub whole : all ≡ fields ++ field ∷ others
  pub front : List ℕ
  pub behind : List ℕ
  pub stands : rest ≡ front ++ behind
  pub spelled : FieldSpelling at field front

further_on : (f : Field) (fs : List Field) (at at' : ℕ) (rest : List ℕ) (all : List Field) → at ≡ at' → Further fs at rest all → Further (f ∷ fs) at' rest (f ∷ all)
further_on f fs at at' rest all e h = record {
  field = h.field;
  others = h.others;
  whole = ap (λ (t : List Field). f ∷ t) h.whole;
  front = h.front;
  behind = h.behind;
  stands = h.stands;
  spelled = subst (λ (n : ℕ). FieldSpelling n h.field h.front) e h.spelled;
}

further_other : (fs gs : List Field) (g h : Field) (at : ℕ) (rest : List ℕ) → g ≡ h → Further fs at rest (g ∷ gs) → Further fs at rest (h ∷ gs)
further_other fs gs g h at rest e w = subst (λ (x : Field). Further fs at rest (x ∷ gs)) e w

pub compare : (fs gs : List Field) (at : ℕ) (a r b s : List ℕ) → Spelled at fs a → Spelled at gs b → a ++ r ≡ b ++ s
    → ((fs ≡ gs) × (a ≡ b) × (r ≡ s)) ⊎ (Further fs (at + length a) r gs ⊎ Further gs (at + length b) s fs)
compare [] [] at a r b s p q e =
    let nothing : a ≡ b = p ∙ sym q in
    inl (refl, nothing, ap (λ (t : List ℕ). t ++ r) (sym p) ∙ e ∙ ap (λ (t : List ℕ). t ++ s) q)
compare [] (g ∷ gs) at a r b s p q e =
    let here : at ≡ at + length a = omega (arith, ap length p) in
    inr (inl (record {
      field = g;
      others = gs;
      whole = refl;
      front = q.0;
      behind = q.1 ++ s;
      stands = ap (λ (t : List ℕ). t ++ r) (sym p) ∙ e ∙ ap (λ (t : List ℕ). t ++ s) q.2 ∙ append_assoc q.0 q.1 s;
      spelled = subst (λ (n : ℕ). FieldSpelling n g q.0) here q.3;
    }))
compare (f ∷ fs) [] at a r b s p q e =
    let here : at ≡ at + length b = omega (arith, ap length q) in
    inr (inr (record {
      field = f;
      others = fs;
      whole = refl;
      front = p.0;
      behind = p.1 ++ r;
      stands = ap (λ (t : List ℕ). t ++ s) (sym q) ∙ sym e ∙ ap (λ (t : List ℕ). t ++ r) p.2 ∙ append_assoc p.0 p.1 r;
      spelled = subst (λ (n : ℕ). FieldSpelling n f p.0) here p.3;
    }))
compare (f ∷ fs) (g ∷ gs) at a r b s p q e =
    let whole : p.0 ++ (p.1 ++ r) ≡ q.0 ++ (q.1 ++ s) =
    sym (ap (λ (t : List ℕ). t ++ r) p.2 ∙ append_assoc p.0 p.1 r) ∙ e ∙ (ap (λ (t : List ℕ). t ++ s) q.2 ∙ append_assoc q.0 q.1 s) in
    let one = one_field at f g p.0 q.0 (p.1 ++ r) (q.1 ++ s) p.3 q.3 whole in
    let same : f ≡ g = one.0 in
    let fronts : length p.0 ≡ length q.0 = ap length one.1 in
    let left : at + length p.0 + length p.1 ≡ at + length a = omega (arith, ap length p.2, length-append p.0 p.1) in
    let right : at + length p.0 + length q.1 ≡ at + length b = omega (arith, ap length q.2, length-append q.0 q.1) in
    elim (compare fs gs (at + length p.0) p.1 r q.1 s p.4 (subst (λ (n : ℕ). Spelled n gs q.1) (ap (λ (k : ℕ). at + k) (sym fronts)) q.4) one.2) [
      | inl h ↦ inl (ap₂ (λ (x : Field) (xs : List Field). x ∷ xs) same h.0, p.2 ∙ ap₂ (λ (x y : List ℕ). x ++ y) one.1 h.1 ∙ sym q.2, h.2)
      | inr m ↦ elim m [
        | inl h ↦ inr (inl (further_other (f ∷ fs) gs f g (at + length a) r same (further_on f fs (at + length p.0 + length p.1) (at + length a) r gs left h)))
        | inr h ↦ inr (inr (further_other (g ∷ gs) fs g f (at + length b) s (sym same) (further_on g gs (at + length p.0 + length q.1) (at + length b) s fs right h)))
      ]
    ]

pub further_more : (fields : List Field) (at : ℕ) (rest : List ℕ) (all : List Field) → Further fields at rest all → 0 < length rest
further_more fields at rest all h = omega (arith, ap length h.stands, length-append h.front h.behind, value_more at h.field.number h.field.wire h.field.value h.front h.spelled)

pub one_reading : (at : ℕ) (text : List ℕ) (a b : List Field) → Spelled at a text → Spelled at b text → a ≡ b
one_reading at text a b p q = elim (compare a b at text [] text [] p q refl) [
  | inl h ↦ h.0
  | inr m ↦ elim m [
    | inl h ↦ let more : 0 < length {A = ℕ} [] = further_more a (at + length text) [] b h in absurd (omega arith)
    | inr h ↦ let more : 0 < length {A = ℕ} [] = further_more b (at + length text) [] a h in absurd (omega arith)
  ]
]

-- one more field at the end
pub spelled_push : (fs : List Field) (f : Field) (at : ℕ) (a b : List ℕ) → Spelled at fs a → FieldSpelling (at + length a) f b → Spelled at (fs ++ f ∷ []) (a ++ b)
spelled_push [] f at a b p q =
    let here : at + length a ≡ at = omega (arith, ap length p) in
    (b, [], ap (λ (t : List ℕ). t ++ b) p ∙ sym (append-nil b), subst (λ (n : ℕ). FieldSpelling n f b) here q, refl)
spelled_push (g ∷ gs) f at a b p q =
    let here : at + length a ≡ at + length p.0 + length p.1 = omega (arith, ap length p.2, length-append p.0 p.1) in
    (p.0, p.1 ++ b, ap (λ (t : List ℕ). t ++ b) p.2 ∙ append_assoc p.0 p.1 b, p.3, spelled_push gs f (at + length p.0) p.1 b p.4 (subst (λ (n : ℕ). FieldSpelling n f b) here q))

-- ---- the bytes of a place in a whole text

pub place_range : (at number start end : ℕ) (before bytes behind : List ℕ) (p : PlaceSpelling at number start end bytes) → at ≡ length before → slice_range (before ++ (bytes ++ behind)) start end ≡ p.content
place_range at number start end before bytes behind p e =
    let whole : before ++ (bytes ++ behind) ≡ (before ++ (p.key ++ p.size)) ++ (p.content ++ behind) =
    ap (λ (t : List ℕ). before ++ t) (place_whole at number start end bytes behind p ∙ sym (append_assoc p.key p.size (p.content ++ behind)))
    ∙ sym (append_assoc before (p.key ++ p.size) (p.content ++ behind)) in
    let starts : start ≡ length (before ++ (p.key ++ p.size)) = omega (arith, p.start_is, length-append before (p.key ++ p.size), length-append p.key p.size) in
    ap (λ (t : List ℕ). slice_range t start end) whole ∙ between (before ++ (p.key ++ p.size)) p.content behind start end starts p.end_is

-- two spellings of fields of one number, wire type and value are the same bytes
same_spelling : (m n : ℕ) (x : Wire) (v w : Value) (before a behind before' b behind' : List ℕ) → m ≡ n → ValueSpelling (length before) m x v a → ValueSpelling (length before') n x w b
    → IsSameValue (before ++ (a ++ behind)) v (before' ++ (b ++ behind')) w → a ≡ b
same_spelling m n Varint (Number i) (Number j) before a behind before' b behind' e p q same =
    let keys : p.key ≡ q.key = same_bytes (n * 8 + 0) p.key q.key (subst (λ (k : ℕ). KeySpelling k 0 p.key) e p.key_is) q.key_is in
    let amounts : p.amount ≡ q.amount = same_bytes j p.amount q.amount (subst (λ (k : ℕ). VarintSpelling k p.amount) same p.amount_is) q.amount_is in
    p.whole ∙ ap₂ (λ (x y : List ℕ). x ++ y) keys amounts ∙ sym q.whole
same_spelling m n Varint (Number i) (Place start end) before a behind before' b behind' e p q same = absurd q
same_spelling m n Varint (Place start end) w before a behind before' b behind' e p q same = absurd p
same_spelling m n Bytes (Number i) w before a behind before' b behind' e p q same = absurd p
same_spelling m n Bytes (Place start end) (Number j) before a behind before' b behind' e p q same = absurd q
same_spelling m n Bytes (Place start end) (Place from to) before a behind before' b behind' e p q same =
    let keys : p.key ≡ q.key = same_bytes (n * 8 + 2) p.key q.key (subst (λ (k : ℕ). KeySpelling k 2 p.key) e p.key_is) q.key_is in
    let contents : p.content ≡ q.content = sym (place_range (length before) m start end before a behind p refl) ∙ same ∙ place_range (length before') n from to before' b behind' q refl in
    let sizes : p.size ≡ q.size = same_bytes (length q.content) p.size q.size (subst (λ (k : ℕ). VarintSpelling k p.size) (ap length contents) p.size_is) q.size_is in
    p.whole ∙ ap₂ (λ (x y : List ℕ). x ++ y) keys (ap₂ (λ (x y : List ℕ). x ++ y) sizes contents) ∙ sym q.whole
same_spelling m n Fixed32 (Number i) (Number j) before a behind before' b behind' e p q same =
    let keys : p.key ≡ q.key = same_bytes (n * 8 + 5) p.key q.key (subst (λ (k : ℕ). KeySpelling k 5 p.key) e p.key_is) q.key_is in
    p.whole ∙ ap₂ (λ (x y : List ℕ). x ++ y) keys (ap (to_le_bytes w32) same) ∙ sym q.whole
same_spelling m n Fixed32 (Number i) (Place start end) before a behind before' b behind' e p q same = absurd q
same_spelling m n Fixed32 (Place start end) w before a behind before' b behind' e p q same = absurd p

pub moved : (at : ℕ) (before front rest : List ℕ) (fs : List Field) → at ≡ length before → Spelled (at + length front) fs rest → Spelled (length (before ++ front)) fs rest
moved at before front rest fs e p =
    let here : at + length front ≡ length (before ++ front) = omega (arith, length-append before front) in
    subst (λ (n : ℕ). Spelled n fs rest) here p

texts : (xs ys : List Field) (before s before' t : List ℕ) → Spelled (length before) xs s → Spelled (length before') ys t → AreSameFields (before ++ s) xs (before' ++ t) ys → s ≡ t
texts [] [] before s before' t p q same = p ∙ sym q
texts [] (g ∷ gs) before s before' t p q same = absurd same
texts (f ∷ fs) [] before s before' t p q same = absurd same
texts (f ∷ fs) (g ∷ gs) before s before' t p q same =
    let left : before ++ s ≡ before ++ (p.0 ++ p.1) = ap (λ (x : List ℕ). before ++ x) p.2 in
    let right : before' ++ t ≡ before' ++ (q.0 ++ q.1) = ap (λ (x : List ℕ). before' ++ x) q.2 in
    let values : IsSameValue (before ++ (p.0 ++ p.1)) f.value (before' ++ (q.0 ++ q.1)) g.value =
    subst (λ (x : List ℕ). IsSameValue x f.value (before' ++ (q.0 ++ q.1)) g.value) left (subst (λ (x : List ℕ). IsSameValue (before ++ s) f.value x g.value) right same.2) in
    let spelled : ValueSpelling (length before') g.number f.wire g.value q.0 = subst (λ (x : Wire). ValueSpelling (length before') g.number x g.value q.0) (sym same.1) q.3 in
    let fronts = same_spelling f.number g.number f.wire f.value g.value before p.0 p.1 before' q.0 q.1 same.0 p.3 spelled values in
    let others : AreSameFields ((before ++ p.0) ++ p.1) fs ((before' ++ q.0) ++ q.1) gs =
    subst (λ (x : List ℕ). AreSameFields x fs ((before' ++ q.0) ++ q.1) gs) (left ∙ sym (append_assoc before p.0 p.1))
    (subst (λ (x : List ℕ). AreSameFields (before ++ s) fs x gs) (right ∙ sym (append_assoc before' q.0 q.1)) same.3) in
    let rests = texts fs gs (before ++ p.0) p.1 (before' ++ q.0) q.1 (moved (length before) before p.0 p.1 fs refl p.4) (moved (length before') before' q.0 q.1 gs refl q.4) others in
    p.2 ∙ ap₂ (λ (x y : List ℕ). x ++ y) fronts rests ∙ sym q.2

pub one_text : (s t : List ℕ) (a b : List Field) → Spelled 0 a s → Spelled 0 b t → AreSameFields s a t b → s ≡ t
one_text s t a b p q same = texts a b [] s [] t p q same
