-- The values of the fields of each number: of fields one behind another, of fields that a table allows, and of two texts.
use Rattle.std.proofs.Common.{◌≡◌, ◌≢◌, ℕ, suc, ◌+◌, ◌<◌, ◌≤◌, ◌⊎◌, Bool, true, false, cond, List, [], ◌∷◌, ◌++◌, length, get_or, refl, sym, ap, ap₂, ◌∙◌, append_assoc, subst, inl, inr, arith}
use Rattle.std.specs.Prelude.{All, slice_range, ◌==◌, if◌then◌else◌}
use Rattle.std.specs.List.Sorted.{IsNonDecreasing}
use Rattle.std.proofs.lemmas.Bool.{cond-true, cond-false, eq-eqb, ne_eqb, cases_eq}
use Rattle.std.proofs.lemmas.List.Elements.{All-nil, All-cons, All-head, All-tail, All-contains, Contains-append_right}
use Rattle.tg_pbtable.specs.declared.table.Rule.{Rule}
use Rattle.tg_pbtable.specs.declared.table.Wire.{Wire}
use Rattle.tg_pbtable.specs.declared.table.Wire.TheVariants.{Varint, Bytes, Fixed32}
use Rattle.tg_pbtable.specs.declared.table.Order.{Order}
use Rattle.tg_pbtable.specs.declared.table.Order.TheVariants.{Ascending}
use Rattle.tg_pbtable.specs.declared.table.Field.{Field}
use Rattle.tg_pbtable.specs.declared.table.Value.{Value}
use Rattle.tg_pbtable.specs.declared.table.Value.TheVariants.{Number, Place}
use Rattle.tg_pbtable.specs.Message.{Message, IsTable, IsOfWire, HasRule, IsRuledField, AreRuled, count_of, numbers_of}
use Rattle.tg_pbtable.specs.Emitted.{IsSameValue, AreSameFields}
use Rattle.tg_pbtable.specs.Values.{number_in, bytes_in, numbers_at, bytes_at, HasSameValues, IsSameFor}
use Rattle.tg_pbtable.proofs.Spellings.{one_text}
use Rattle.tg_pbtable.proofs.Causes.{one_rule}
use Rattle.tg_pbtable.proofs.Numbers.{count_cons, contains_count, count_contains}

-- ---- numbers and bytes in one word

abbrev pub parts_at : {A : Type 0} → (Value → List A) → ℕ → List Field → List A
parts_at part number [] = []
parts_at part number (field ∷ fields) = if field.number == number then part field.value ++ parts_at part number fields else parts_at part number fields

pub numbers_are : (n : ℕ) (fs : List Field) → numbers_at n fs ≡ parts_at number_in n fs
numbers_are n [] = refl
numbers_are n (f ∷ fs) = ap (λ (t : List ℕ). if f.number == n then number_in f.value ++ t else t) (numbers_are n fs)

pub bytes_are : (text : List ℕ) (n : ℕ) (fs : List Field) → bytes_at text n fs ≡ parts_at (bytes_in text) n fs
bytes_are text n [] = refl
bytes_are text n (f ∷ fs) = ap (λ (t : List (List ℕ)). if f.number == n then bytes_in text f.value ++ t else t) (bytes_are text n fs)

-- ---- fields one behind another

append_step : {A : Type 0} (b : Bool) (v p q r : List A) → r ≡ p ++ q → (if b then v ++ r else r) ≡ (if b then v ++ p else p) ++ q
append_step true v p q r e = ap (λ t. v ++ t) e ∙ sym (append_assoc v p q)
append_step false v p q r e = e

parts_append : {A : Type 0} (part : Value → List A) (n : ℕ) (xs ys : List Field) → parts_at part n (xs ++ ys) ≡ parts_at part n xs ++ parts_at part n ys
parts_append part n [] ys = refl
parts_append part n (x ∷ xs) ys = append_step (x.number == n) (part x.value) (parts_at part n xs) (parts_at part n ys) (parts_at part n (xs ++ ys)) (parts_append part n xs ys)

pub numbers_append : (n : ℕ) (xs ys : List Field) → numbers_at n (xs ++ ys) ≡ numbers_at n xs ++ numbers_at n ys
numbers_append n xs ys = rw (numbers_are n (xs ++ ys), numbers_are n xs, numbers_are n ys) (parts_append number_in n xs ys)

pub bytes_append : (text : List ℕ) (n : ℕ) (xs ys : List Field) → bytes_at text n (xs ++ ys) ≡ bytes_at text n xs ++ bytes_at text n ys
bytes_append text n xs ys = rw (bytes_are text n (xs ++ ys), bytes_are text n xs, bytes_are text n ys) (parts_append (bytes_in text) n xs ys)

pub numbers_here : (n : ℕ) (f : Field) (fs : List Field) → f.number ≡ n → numbers_at n (f ∷ fs) ≡ number_in f.value ++ numbers_at n fs
numbers_here n f fs e = cond-true (f.number == n) (number_in f.value ++ numbers_at n fs) (numbers_at n fs) (eq-eqb f.number n e)

pub numbers_other : (n : ℕ) (f : Field) (fs : List Field) → f.number ≢ n → numbers_at n (f ∷ fs) ≡ numbers_at n fs
numbers_other n f fs e = cond-false (f.number == n) (number_in f.value ++ numbers_at n fs) (numbers_at n fs) (ne_eqb f.number n e)

pub bytes_here : (text : List ℕ) (n : ℕ) (f : Field) (fs : List Field) → f.number ≡ n → bytes_at text n (f ∷ fs) ≡ bytes_in text f.value ++ bytes_at text n fs
bytes_here text n f fs e = cond-true (f.number == n) (bytes_in text f.value ++ bytes_at text n fs) (bytes_at text n fs) (eq-eqb f.number n e)

pub bytes_other : (text : List ℕ) (n : ℕ) (f : Field) (fs : List Field) → f.number ≢ n → bytes_at text n (f ∷ fs) ≡ bytes_at text n fs
bytes_other text n f fs e = cond-false (f.number == n) (bytes_in text f.value ++ bytes_at text n fs) (bytes_at text n fs) (ne_eqb f.number n e)

-- fields of which none of this number has such a value
pub no_numbers_in : (n : ℕ) (fs : List Field) → All (λ (f : Field). f.number ≡ n → number_in f.value ≡ []) fs → numbers_at n fs ≡ []
no_numbers_in n [] h = refl
no_numbers_in n (f ∷ fs) h =
    let P = λ (x : Field). x.number ≡ n → number_in x.value ≡ [] in
    let rest : numbers_at n fs ≡ [] = no_numbers_in n fs (All-tail P f fs h) in
    elim (cases_eq f.number n) [
      | inl e ↦ numbers_here n f fs e ∙ ap (λ (t : List ℕ). t ++ numbers_at n fs) (All-head P f fs h e) ∙ rest
      | inr e ↦ numbers_other n f fs e ∙ rest
    ]

pub no_bytes_in : (text : List ℕ) (n : ℕ) (fs : List Field) → All (λ (f : Field). f.number ≡ n → bytes_in text f.value ≡ []) fs → bytes_at text n fs ≡ []
no_bytes_in text n [] h = refl
no_bytes_in text n (f ∷ fs) h =
    let P = λ (x : Field). x.number ≡ n → bytes_in text x.value ≡ [] in
    let rest : bytes_at text n fs ≡ [] = no_bytes_in text n fs (All-tail P f fs h) in
    elim (cases_eq f.number n) [
      | inl e ↦ bytes_here text n f fs e ∙ ap (λ (t : List (List ℕ)). t ++ bytes_at text n fs) (All-head P f fs h e) ∙ rest
      | inr e ↦ bytes_other text n f fs e ∙ rest
    ]

-- ---- how many there are

count_step : (text : List ℕ) (b : Bool) (v : Value) (p : List ℕ) (q : List (List ℕ)) (c : ℕ) → length p + length q ≡ c
    → length (if b then number_in v ++ p else p) + length (if b then bytes_in text v ++ q else q) ≡ cond b 1 0 + c
count_step text true (Number n) p q c l = omega arith
count_step text true (Place start end) p q c l = omega arith
count_step text false v p q c l = omega arith

-- each field of a number has one value
pub values_count : (text : List ℕ) (n : ℕ) (fs : List Field) → length (numbers_at n fs) + length (bytes_at text n fs) ≡ count_of fs n
values_count text n [] = refl
values_count text n (f ∷ fs) = count_step text (f.number == n) f.value (numbers_at n fs) (bytes_at text n fs) (count_of fs n) (values_count text n fs) ∙ sym (count_cons f fs n)

-- ---- under a table

-- values of a wire type are numbers
abbrev pub AreNumbers : Wire → Type 0
AreNumbers w = (text : List ℕ) (v : Value) → IsOfWire w v → bytes_in text v ≡ []

varint_numbers : AreNumbers Varint
varint_numbers text (Number n) h = refl
varint_numbers text (Place start end) h = absurd h

fixed_numbers : AreNumbers Fixed32
fixed_numbers text (Number n) h = refl
fixed_numbers text (Place start end) h = absurd h

place_has_none : (v : Value) → IsOfWire Bytes v → number_in v ≡ []
place_has_none (Number n) h = absurd h
place_has_none (Place start end) h = refl

-- a number has one wire type
pub one_wire : (rules : List Rule) (n : ℕ) (v w : Wire) → IsTable rules → HasRule rules n v → HasRule rules n w → v ≡ w
one_wire rules n v w t a b = sym a.wire_is ∙ ap (λ (r : Rule). r.wire) (one_rule rules a.rule b.rule t a.among b.among (a.number_is ∙ sym b.number_is)) ∙ b.wire_is

field_wire : (rules : List Rule) (n : ℕ) (w : Wire) (f : Field) → IsTable rules → HasRule rules n w → HasRule rules f.number f.wire → f.number ≡ n → f.wire ≡ w
field_wire rules n w f t a b e = one_wire rules n f.wire w t (subst (λ (m : ℕ). HasRule rules m f.wire) e b) a

-- a field under a rule has a value of the rule's wire type
field_of_wire : (rules : List Rule) (n : ℕ) (w : Wire) (f : Field) → IsTable rules → HasRule rules n w → IsRuledField rules f → f.number ≡ n → IsOfWire w f.value
field_of_wire rules n w f t a b e = subst (λ (x : Wire). IsOfWire x f.value) (field_wire rules n w f t a b.has_rule e) b.of_wire

pub no_bytes : (rules : List Rule) (text : List ℕ) (n : ℕ) (w : Wire) (fs : List Field) → AreNumbers w → IsTable rules → HasRule rules n w → AreRuled rules fs → bytes_at text n fs ≡ []
no_bytes rules text n w fs are t r h = no_bytes_in text n fs (λ k d l e. are text (get_or fs k d).value (field_of_wire rules n w (get_or fs k d) t r (h k d l) e))

pub no_numbers : (rules : List Rule) (n : ℕ) (fs : List Field) → IsTable rules → HasRule rules n Bytes → AreRuled rules fs → numbers_at n fs ≡ []
no_numbers rules n fs t r h = no_numbers_in n fs (λ k d l e. place_has_none (get_or fs k d).value (field_of_wire rules n Bytes (get_or fs k d) t r (h k d l) e))

pub all_numbers : (rules : List Rule) (n : ℕ) (fs : List Field) → IsTable rules → HasRule rules n Varint → AreRuled rules fs → length (numbers_at n fs) ≡ count_of fs n
all_numbers rules n fs t r h =
    let none : length (bytes_at [] n fs) ≡ 0 = ap length (no_bytes rules [] n Varint fs varint_numbers t r h) in
    omega (arith, values_count [] n fs)

pub all_bytes : (rules : List Rule) (text : List ℕ) (n : ℕ) (fs : List Field) → IsTable rules → HasRule rules n Bytes → AreRuled rules fs → length (bytes_at text n fs) ≡ count_of fs n
all_bytes rules text n fs t r h =
    let none : length (numbers_at n fs) ≡ 0 = ap length (no_numbers rules n fs t r h) in
    omega (arith, values_count text n fs)

-- a number without a rule has no field
pub no_values : (rules : List Rule) (text : List ℕ) (n : ℕ) (fs : List Field) → All (λ (r : Rule). r.number ≢ n) rules → AreRuled rules fs → (numbers_at n fs ≡ []) × (bytes_at text n fs ≡ [])
no_values rules text n fs none h =
    let unruled : (k : ℕ) (d : Field) → k < length fs → (get_or fs k d).number ≡ n → ⊥ =
    λ k d l e. let has = (h k d l).has_rule in All-contains (λ (r : Rule). r.number ≢ n) rules has.rule none has.among (has.number_is ∙ e) in (
      no_numbers_in n fs (λ k d l e. absurd (unruled k d l e)),
      no_bytes_in text n fs (λ k d l e. absurd (unruled k d l e)),
    )

-- ---- the same fields have the same values

same_parts : (s t : List ℕ) (v w : Value) → IsSameValue s v t w → (number_in v ≡ number_in w) × (bytes_in s v ≡ bytes_in t w)
same_parts s t (Number m) (Number n) h = let e : m ≡ n = h in (ap (λ (x : ℕ). x ∷ []) e, refl)
same_parts s t (Place i j) (Place k l) h = let e : slice_range s i j ≡ slice_range t k l = h in (refl, ap (λ (x : List ℕ). x ∷ []) e)
same_parts s t (Number m) (Place k l) h = absurd h
same_parts s t (Place i j) (Number n) h = absurd h

same_step : {A : Type 0} (a b : ℕ) (n : ℕ) (x y p q : List A) → a ≡ b → x ≡ y → p ≡ q → (if a == n then x ++ p else p) ≡ (if b == n then y ++ q else q)
same_step a b n x y p q e f g = rw (e, f, g) refl

pub values_of_same : (s t : List ℕ) (fs gs : List Field) → AreSameFields s fs t gs → HasSameValues s fs t gs
values_of_same s t [] [] h = record { numbers = λ n. refl; bytes = λ n. refl }
values_of_same s t [] (g ∷ gs) h = absurd h
values_of_same s t (f ∷ fs) [] h = absurd h
values_of_same s t (f ∷ fs) (g ∷ gs) h =
    let rest = values_of_same s t fs gs h.3 in
    let here = same_parts s t f.value g.value h.2 in
    record {
      numbers = λ n. same_step f.number g.number n (number_in f.value) (number_in g.value) (numbers_at n fs) (numbers_at n gs) h.0 here.0 (rest.numbers n);
      bytes = λ n. same_step f.number g.number n (bytes_in s f.value) (bytes_in t g.value) (bytes_at s n fs) (bytes_at t n gs) h.0 here.1 (rest.bytes n);
    }

-- ---- the same values and the same numbers make the same fields

value_step : (s t : List ℕ) (x : Wire) (v w : Value) (p q : List ℕ) (P Q : List (List ℕ)) → IsOfWire x v → IsOfWire x w → number_in v ++ p ≡ number_in w ++ q → bytes_in s v ++ P ≡ bytes_in t w ++ Q
    → IsSameValue s v t w × (p ≡ q) × (P ≡ Q)
value_step s t x (Number m) (Number n) p q P Q f g a b = let h : m ∷ p ≡ n ∷ q = a in (cc, cc, b)
value_step s t x (Place i j) (Place k l) p q P Q f g a b = let h : slice_range s i j ∷ P ≡ slice_range t k l ∷ Q = b in (cc, a, cc)
value_step s t Varint (Number m) (Place k l) p q P Q f g a b = absurd g
value_step s t Bytes (Number m) (Place k l) p q P Q f g a b = absurd f
value_step s t Fixed32 (Number m) (Place k l) p q P Q f g a b = absurd g
value_step s t Varint (Place i j) (Number n) p q P Q f g a b = absurd f
value_step s t Bytes (Place i j) (Number n) p q P Q f g a b = absurd g
value_step s t Fixed32 (Place i j) (Number n) p q P Q f g a b = absurd f

record SameStep (s : List ℕ) (f : Field) (fs : List Field) (t : List ℕ) (g : Field) (gs : List Field) : Type 0 where
  value : IsSameValue s f.value t g.value
  rest : HasSameValues s fs t gs

first_same : (s t : List ℕ) (x : Wire) (f g : Field) (fs gs : List Field) → IsOfWire x f.value → IsOfWire x g.value → f.number ≡ g.number → HasSameValues s (f ∷ fs) t (g ∷ gs) → SameStep s f fs t g gs
first_same s t x f g fs gs left right e same =
    let numbers : number_in f.value ++ numbers_at f.number fs ≡ number_in g.value ++ numbers_at f.number gs =
    sym (numbers_here f.number f fs refl) ∙ same.numbers f.number ∙ numbers_here f.number g gs (sym e) in
    let bytes : bytes_in s f.value ++ bytes_at s f.number fs ≡ bytes_in t g.value ++ bytes_at t f.number gs =
    sym (bytes_here s f.number f fs refl) ∙ same.bytes f.number ∙ bytes_here t f.number g gs (sym e) in
    let step = value_step s t x f.value g.value (numbers_at f.number fs) (numbers_at f.number gs) (bytes_at s f.number fs) (bytes_at t f.number gs) left right numbers bytes in
    record {
      value = step.0;
      rest = record {
        numbers = λ n. elim (cases_eq f.number n) [
          | inl is ↦ subst (λ (m : ℕ). numbers_at m fs ≡ numbers_at m gs) is step.1
          | inr other ↦ sym (numbers_other n f fs other) ∙ same.numbers n ∙ numbers_other n g gs (λ is. other (e ∙ is))
        ];
        bytes = λ n. elim (cases_eq f.number n) [
          | inl is ↦ subst (λ (m : ℕ). bytes_at s m fs ≡ bytes_at t m gs) is step.2
          | inr other ↦ sym (bytes_other s n f fs other) ∙ same.bytes n ∙ bytes_other t n g gs (λ is. other (e ∙ is))
        ];
      };
    }

pub same_fields : (rules : List Rule) (s t : List ℕ) (fs gs : List Field) → IsTable rules → AreRuled rules fs → AreRuled rules gs → numbers_of fs ≡ numbers_of gs → HasSameValues s fs t gs → AreSameFields s fs t gs
same_fields rules s t [] [] table rf rg e same = tt
same_fields rules s t [] (g ∷ gs) table rf rg e same = absurd (cc)
same_fields rules s t (f ∷ fs) [] table rf rg e same = absurd (cc)
same_fields rules s t (f ∷ fs) (g ∷ gs) table rf rg e same =
    let P = IsRuledField rules in
    let left : IsRuledField rules f = All-head P f fs rf in
    let right : IsRuledField rules g = All-head P g gs rg in
    let heads : f.number ∷ numbers_of fs ≡ g.number ∷ numbers_of gs = e in
    let number : f.number ≡ g.number = cc in
    let wire : f.wire ≡ g.wire = field_wire rules g.number g.wire f table right.has_rule left.has_rule number in
    let step = first_same s t g.wire f g fs gs (subst (λ (x : Wire). IsOfWire x f.value) wire left.of_wire) right.of_wire number same in
    (number, wire, step.value, same_fields rules s t fs gs table (All-tail P f fs rf) (All-tail P g gs rg) (cc) step.rest)

-- ---- in ascending order the same values have the same numbers

rest_rises : (n : ℕ) (ns : List ℕ) → IsNonDecreasing (n ∷ ns) → IsNonDecreasing ns
rest_rises n ns h = λ i j d ij jl. h (suc i) (suc j) d (omega arith) (omega arith)

least_first : (f : Field) (fs : List Field) (n : ℕ) → IsNonDecreasing (numbers_of (f ∷ fs)) → 0 < count_of (f ∷ fs) n → f.number ≤ n
least_first f fs n h some =
    let c = count_contains (f ∷ fs) n some in
    let here : get_or (numbers_of (f ∷ fs)) c.0 n ≡ n = c.2 in
    let least : f.number ≤ get_or (numbers_of (f ∷ fs)) c.0 n = h 0 c.0 n (omega arith) c.1 in
    omega arith

some_first : (f : Field) (fs : List Field) → 0 < count_of (f ∷ fs) f.number
some_first f fs = contains_count (f ∷ fs) f.number (0, omega arith, refl)

rest_count : (f g : Field) (fs gs : List Field) (n : ℕ) → f.number ≡ g.number → count_of (f ∷ fs) n ≡ count_of (g ∷ gs) n → count_of fs n ≡ count_of gs n
rest_count f g fs gs n e h =
    let left : cond (g.number == n) 1 0 + count_of fs n ≡ cond (g.number == n) 1 0 + count_of gs n =
    ap (λ (m : ℕ). cond (m == n) 1 0 + count_of fs n) (sym e) ∙ sym (count_cons f fs n) ∙ h ∙ count_cons g gs n in
    omega arith

one_row : (fs gs : List Field) → IsNonDecreasing (numbers_of fs) → IsNonDecreasing (numbers_of gs) → ((n : ℕ) → count_of fs n ≡ count_of gs n) → numbers_of fs ≡ numbers_of gs
one_row [] [] hf hg e = refl
one_row [] (g ∷ gs) hf hg e = let none : 0 ≡ count_of (g ∷ gs) g.number = e g.number in absurd (omega (arith, some_first g gs))
one_row (f ∷ fs) [] hf hg e = let none : count_of (f ∷ fs) f.number ≡ 0 = e f.number in absurd (omega (arith, some_first f fs))
one_row (f ∷ fs) (g ∷ gs) hf hg e =
    let low : g.number ≤ f.number = least_first g gs f.number hg (omega (arith, some_first f fs, e f.number)) in
    let high : f.number ≤ g.number = least_first f fs g.number hf (omega (arith, some_first g gs, e g.number)) in
    let number : f.number ≡ g.number = omega arith in
    ap₂ (λ (x : ℕ) (xs : List ℕ). x ∷ xs) number
    (one_row fs gs (rest_rises f.number (numbers_of fs) hf) (rest_rises g.number (numbers_of gs) hg) (λ n. rest_count f g fs gs n number (e n)))

pub same_numbers : (s t : List ℕ) (fs gs : List Field) → IsNonDecreasing (numbers_of fs) → IsNonDecreasing (numbers_of gs) → HasSameValues s fs t gs → numbers_of fs ≡ numbers_of gs
same_numbers s t fs gs hf hg same = one_row fs gs hf hg (λ n. sym (values_count s n fs) ∙ ap₂ (λ (a b : ℕ). a + b) (ap length (same.numbers n)) (ap length (same.bytes n)) ∙ values_count t n gs)

-- ---- one text

pub any_order : (rules : List Rule) (order : Order) (s t : List ℕ) (fs gs : List Field) → IsTable rules → Message rules order s fs → Message rules order t gs → numbers_of fs ≡ numbers_of gs → HasSameValues s fs t gs → s ≡ t
any_order rules order s t fs gs table a b e same = one_text s t fs gs a.spelled b.spelled (same_fields rules s t fs gs table a.ruled b.ruled e same)

pub ascending : (rules : List Rule) (s t : List ℕ) (fs gs : List Field) → IsTable rules → Message rules Ascending s fs → Message rules Ascending t gs → HasSameValues s fs t gs → s ≡ t
ascending rules s t fs gs table a b same = any_order rules Ascending s t fs gs table a b (same_numbers s t fs gs a.ordered b.ordered same) same

-- ---- values that a table names one by one

abbrev IsSameAt : List ℕ → List Field → List ℕ → List Field → ℕ → Type 0
IsSameAt s fs t gs n = (numbers_at n fs ≡ numbers_at n gs) × (bytes_at s n fs ≡ bytes_at t n gs)

by_wire : (rules : List Rule) (s t : List ℕ) (fs gs : List Field) (n : ℕ) (w : Wire) → IsTable rules → AreRuled rules fs → AreRuled rules gs → HasRule rules n w → IsSameFor s fs t gs n w → IsSameAt s fs t gs n
by_wire rules s t fs gs n Varint table rf rg r h = (h, no_bytes rules s n Varint fs varint_numbers table r rf ∙ sym (no_bytes rules t n Varint gs varint_numbers table r rg))
by_wire rules s t fs gs n Fixed32 table rf rg r h = (h, no_bytes rules s n Fixed32 fs fixed_numbers table r rf ∙ sym (no_bytes rules t n Fixed32 gs fixed_numbers table r rg))
by_wire rules s t fs gs n Bytes table rf rg r h = (no_numbers rules n fs table r rf ∙ sym (no_numbers rules n gs table r rg), h)

rule_or_none : (rules : List Rule) (n : ℕ) → ((w : Wire) × HasRule rules n w) ⊎ All (λ (r : Rule). r.number ≢ n) rules
rule_or_none [] n = inr (All-nil (λ (r : Rule). r.number ≢ n))
rule_or_none (r ∷ rs) n = elim (cases_eq r.number n) [
  | inl e ↦ inl (r.wire, record { rule = r; among = (0, omega arith, refl); number_is = e; wire_is = refl })
  | inr other ↦ elim (rule_or_none rs n) [
    | inl h ↦ inl (h.0, record { rule = h.1.rule; among = Contains-append_right (r ∷ []) rs h.1.rule h.1.among; number_is = h.1.number_is; wire_is = h.1.wire_is })
    | inr none ↦ inr (All-cons (λ (x : Rule). x.number ≢ n) r rs other none)
  ]
]

same_at : (rules : List Rule) (s t : List ℕ) (fs gs : List Field) → IsTable rules → AreRuled rules fs → AreRuled rules gs → All (λ (r : Rule). IsSameFor s fs t gs r.number r.wire) rules → (n : ℕ) → IsSameAt s fs t gs n
same_at rules s t fs gs table rf rg h n = elim (rule_or_none rules n) [
  | inl r ↦
      let here : IsSameFor s fs t gs r.1.rule.number r.1.rule.wire = All-contains (λ (x : Rule). IsSameFor s fs t gs x.number x.wire) rules r.1.rule h r.1.among in
      by_wire rules s t fs gs n r.0 table rf rg r.1 (subst (λ (m : ℕ). IsSameFor s fs t gs m r.0) r.1.number_is (subst (λ (w : Wire). IsSameFor s fs t gs r.1.rule.number w) r.1.wire_is here))
  | inr none ↦
      let left = no_values rules s n fs none rf in
      let right = no_values rules t n gs none rg in
      (left.0 ∙ sym right.0, left.1 ∙ sym right.1)
]

-- it is enough that the values of each rule are the same
pub values_by_rules : (rules : List Rule) (s t : List ℕ) (fs gs : List Field) → IsTable rules → AreRuled rules fs → AreRuled rules gs → All (λ (r : Rule). IsSameFor s fs t gs r.number r.wire) rules → HasSameValues s fs t gs
values_by_rules rules s t fs gs table rf rg h = record { numbers = λ n. (same_at rules s t fs gs table rf rg h n).0; bytes = λ n. (same_at rules s t fs gs table rf rg h n).1 }
