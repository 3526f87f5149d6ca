-- How many bytes the spellings of fields take, number by number.
use Rattle.std.proofs.Common.{◌≡◌, ◌⊎◌, ◌*◌, ◌+◌, ◌<◌, ◌≤◌, ℕ, Bool, true, false, cond, List, [], ◌∷◌, ◌++◌, length, sym, ap, ◌∙◌, subst, inl, inr, arith, append_assoc, length-append}
use Rattle.std.specs.Int.{to_le_bytes, w32}
use Rattle.std.specs.Prelude.{All, nat_lt, slice_range, ◌==◌, if◌then◌else◌}
use Rattle.std.proofs.lemmas.Bool.{eq-eqb, le-ltb, lt-ltb, cases_lt}
use Rattle.std.proofs.lemmas.List.Elements.{All-head, All-tail}
use Rattle.tg_bytes.specs.Lists.{between}
use Rattle.tg_pbtable.specs.Message.{Spelled, ValueSpelling}
use Rattle.tg_pbtable.specs.Values.{bytes_at, bytes_in, number_in, numbers_at}
use Rattle.tg_pbtable.specs.Varint.{VarintSpelling}
use Rattle.tg_varint.specs.GroupLaws.{most_bytes, one_long}
use Rattle.tg_pbtable.specs.declared.table.Field.{Field}
use Rattle.tg_pbtable.specs.declared.table.Wire.{Wire}
use Rattle.tg_pbtable.specs.declared.table.Wire.TheVariants.{Varint, Bytes, Fixed32}
use Rattle.tg_pbtable.specs.declared.table.Value.{Value}
use Rattle.tg_pbtable.specs.declared.table.Value.TheVariants.{Number, Place}

-- ---- varints

-- how many bytes a number takes at most
abbrev pub size_room : ℕ → ℕ
size_room n = cond (nat_lt n 128) 1 10

pub small_size : (n : ℕ) → n < 128 → size_room n ≡ 1
small_size n l = ap (λ (b : Bool). cond b 1 10) (lt-ltb n 128 l)

cond_most : (b : Bool) → cond b 1 10 ≤ 10
cond_most true = omega arith
cond_most false = omega arith

pub size_most : (n : ℕ) → size_room n ≤ 10
size_most n = cond_most (nat_lt n 128)

size_fits : (n : ℕ) (bytes : List ℕ) → VarintSpelling n bytes → length bytes ≤ size_room n
size_fits n bytes h =
    let any : length bytes ≤ 10 = most_bytes n bytes h.groups in
    elim (cases_lt n 128) [
      | inl l ↦ let one = one_long n bytes l h.groups in let room = small_size n l in omega arith
      | inr l ↦ let room : size_room n ≡ 10 = ap (λ (b : Bool). cond b 1 10) (le-ltb n 128 l) in omega arith
    ]

-- ---- fields

-- how many bytes bytes take as a field's value with its key, and any value
abbrev pub bytes_room : List ℕ → ℕ
bytes_room content = 1 + size_room (length content) + length content

abbrev pub rooms : List (List ℕ) → ℕ
rooms [] = 0
rooms (content ∷ contents) = bytes_room content + rooms contents

abbrev pub value_room : List ℕ → Value → ℕ
value_room text (Number n) = 11
value_room text (Place start end) = bytes_room (slice_range text start end)

abbrev pub fields_room : List ℕ → List Field → ℕ
fields_room text [] = 0
fields_room text (field ∷ fields) = value_room text field.value + fields_room text fields

value_fits : (text before front rest : List ℕ) (number : ℕ) (wire : Wire) (value : Value) → text ≡ before ++ (front ++ rest) → number < 15
    → ValueSpelling (length before) number wire value front → length front ≤ value_room text value
value_fits text before front rest number Varint (Place start end) w l h = absurd h
value_fits text before front rest number Bytes (Number n) w l h = absurd h
value_fits text before front rest number Fixed32 (Place start end) w l h = absurd h
value_fits text before front rest number Fixed32 (Number n) w l h =
    let key = one_long _ h.key (omega arith) h.key_is.groups in
    let size : length front ≡ length h.key + 4 = ap length h.whole ∙ length-append h.key (to_le_bytes w32 n) in
    omega arith
value_fits text before front rest number Varint (Number n) w l h =
    let key = one_long _ h.key (omega arith) h.key_is.groups in
    let amount = most_bytes _ h.amount h.amount_is.groups in
    let size : length front ≡ length h.key + length h.amount = ap length h.whole ∙ length-append h.key h.amount in
    omega arith
value_fits text before front rest number Bytes (Place start end) w l h =
    let key = one_long _ h.key (omega arith) h.key_is.groups in
    let amount = size_fits _ h.size h.size_is in
    let head = before ++ (h.key ++ h.size) in
    let at : length head ≡ length before + (length h.key + length h.size) = length-append before (h.key ++ h.size) ∙ ap (λ (n : ℕ). length before + n) (length-append h.key h.size) in
    let start_is : start ≡ length head = h.start_is ∙ omega arith in
    let whole : text ≡ head ++ (h.content ++ rest) = w ∙ ap (λ (t : List ℕ). before ++ (t ++ rest)) h.whole ∙ simp append_assoc in
    let content : slice_range text start end ≡ h.content = ap (λ (t : List ℕ). slice_range t start end) whole ∙ between head h.content rest start end start_is h.end_is in
    let size : length front ≡ length h.key + (length h.size + length h.content) =
    ap length h.whole ∙ length-append h.key (h.size ++ h.content) ∙ ap (λ (n : ℕ). length h.key + n) (length-append h.size h.content) in
    let fits : length front ≤ bytes_room h.content = omega arith in
    subst (λ (c : List ℕ). length front ≤ bytes_room c) (sym content) fits

-- the text behind a front has at most the room of the fields that it spells
pub text_fits : (text before rest : List ℕ) (fields : List Field) → text ≡ before ++ rest → Spelled (length before) fields rest
    → All (λ (f : Field). f.number < 15) fields → length rest ≤ fields_room text fields
text_fits text before rest [] w h few = let none : length rest ≡ 0 = ap length h in omega arith
text_fits text before rest (f ∷ fs) w h few =
    let P = λ (x : Field). x.number < 15 in
    let front = h.0 in
    let behind = h.1 in
    let whole : rest ≡ front ++ behind = h.2 in
    let here = value_fits text before front behind f.number f.wire f.value (w ∙ ap (λ (t : List ℕ). before ++ t) whole) (All-head P f fs few) h.3 in
    let there = text_fits text (before ++ front) behind fs (w ∙ ap (λ (t : List ℕ). before ++ t) whole ∙ sym (append_assoc before front behind))
    (subst (λ (n : ℕ). Spelled n fs behind) (sym (length-append before front)) h.4) (All-tail P f fs few) in
    let size : length rest ≡ length front + length behind = ap length whole ∙ length-append front behind in
    omega arith

-- ---- number by number

-- how many bytes the fields of one number take
abbrev pub at_number : List ℕ → List Field → ℕ → ℕ
at_number text fields n = 11 * length (numbers_at n fields) + rooms (bytes_at text n fields)

abbrev pub at_numbers : List ℕ → List Field → List ℕ → ℕ
at_numbers text fields [] = 0
at_numbers text fields (n ∷ ns) = at_number text fields n + at_numbers text fields ns

abbrev pub IsAmong : ℕ → List ℕ → Type 0
IsAmong number [] = ⊥
IsAmong number (n ∷ ns) = (number ≡ n) ⊎ IsAmong number ns

with_value : (text : List ℕ) (v : Value) (p : List ℕ) (q : List (List ℕ))
    → 11 * length (number_in v ++ p) + rooms (bytes_in text v ++ q) ≡ value_room text v + (11 * length p + rooms q)
with_value text (Number n) p q = omega arith
with_value text (Place start end) p q =
    let room = bytes_room (slice_range text start end) in
    let size : 11 * length p + (room + rooms q) ≡ room + (11 * length p + rooms q) = omega arith in
    size

perhaps : (text : List ℕ) (b : Bool) (v : Value) (p : List ℕ) (q : List (List ℕ))
    → 11 * length p + rooms q ≤ 11 * length (if b then number_in v ++ p else p) + rooms (if b then bytes_in text v ++ q else q)
perhaps text true v p q = let e = with_value text v p q in omega arith
perhaps text false v p q = omega arith

surely : (text : List ℕ) (b : Bool) (v : Value) (p : List ℕ) (q : List (List ℕ)) → b ≡ true
    → 11 * length (if b then number_in v ++ p else p) + rooms (if b then bytes_in text v ++ q else q)
    ≡ value_room text v + (11 * length p + rooms q)
surely text true v p q e = with_value text v p q
surely text false v p q e = absurd (cc)

-- with one more field each number has as much or more, and the field's own has its value more
at_more : (text : List ℕ) (f : Field) (fs : List Field) (n : ℕ) → at_number text fs n ≤ at_number text (f ∷ fs) n
at_more text f fs n = perhaps text (f.number == n) f.value (numbers_at n fs) (bytes_at text n fs)

at_own : (text : List ℕ) (f : Field) (fs : List Field) (n : ℕ) → f.number ≡ n → at_number text (f ∷ fs) n ≡ value_room text f.value + at_number text fs n
at_own text f fs n e = surely text (f.number == n) f.value (numbers_at n fs) (bytes_at text n fs) (eq-eqb f.number n e)

all_more : (text : List ℕ) (f : Field) (fs : List Field) (ns : List ℕ) → at_numbers text fs ns ≤ at_numbers text (f ∷ fs) ns
all_more text f fs [] = omega arith
all_more text f fs (n ∷ ns) =
    let here = at_more text f fs n in
    let there = all_more text f fs ns in
    omega arith

some_more : (text : List ℕ) (f : Field) (fs : List Field) (ns : List ℕ) → IsAmong f.number ns
    → value_room text f.value + at_numbers text fs ns ≤ at_numbers text (f ∷ fs) ns
some_more text f fs [] h = absurd h
some_more text f fs (n ∷ ns) (inl e) =
    let here = at_own text f fs n e in
    let there = all_more text f fs ns in
    omega arith
some_more text f fs (n ∷ ns) (inr h) =
    let here = at_more text f fs n in
    let there = some_more text f fs ns h in
    omega arith

-- fields of these numbers take what those of each number take
pub by_numbers : (text : List ℕ) (ns : List ℕ) (fields : List Field) → All (λ (f : Field). IsAmong f.number ns) fields
    → fields_room text fields ≤ at_numbers text fields ns
by_numbers text ns [] h = omega arith
by_numbers text ns (f ∷ fs) h =
    let P = λ (x : Field). IsAmong x.number ns in
    let rest = by_numbers text ns fs (All-tail P f fs h) in
    let more = some_more text f fs ns (All-head P f fs h) in
    omega arith
