-- The fields of data in ascending order are a message's, and have its parts.
use Rattle.std.proofs.Common.{◌≡◌, ℕ, zero, suc, ◌+◌, ◌-◌, ◌<◌, ◌≤◌, Bool, true, false, cond, Option, Some, None, List, [], ◌∷◌, ◌++◌, length, take, get_or, refl, sym, ap, ◌∙◌, append_assoc, subst, arith}
use Rattle.std.specs.Prelude.{All, slice_range, ◌==◌, if◌then◌else◌}
use Rattle.std.specs.List.Sorted.{IsNonDecreasing}
use Rattle.std.proofs.lemmas.List.{append-nil, take_more, take_all}
use Rattle.std.proofs.lemmas.List.Elements.{All-nil, All-cons, All-head, All-tail, All-append}
use Rattle.std.proofs.lemmas.List.Sums.{sum_by-cons}
use Rattle.tg_pbtable.specs.declared.table.Rule.{Rule}
use Rattle.tg_pbtable.specs.declared.table.Wire.TheVariants.{Varint, Bytes}
use Rattle.tg_pbtable.specs.declared.table.Field.{Field}
use Rattle.tg_pbtable.specs.declared.table.Value.{Value}
use Rattle.tg_pbtable.specs.declared.table.Value.TheVariants.{Number, Place}
use Rattle.tg_pbtable.specs.Message.{HasRule, IsRuledField, AreRuled, IsCount, count_of, numbers_of}
use Rattle.tg_pbtable.specs.Emitted.{AreSameFields}
use Rattle.tg_unixfs.specs.declared.TheConstants.{DATA}
use Rattle.tg_unixfs.specs.declared.Unix.{Unix}
use Rattle.tg_pbtable.specs.Values.{number_in, bytes_in, numbers_at, bytes_at, listed}
use Rattle.tg_pbtable.specs.TableRules.{rule_at}
use Rattle.tg_unixfs.specs.Unix.{HasParts}
use Rattle.tg_unixfs.specs.Writing.{wire_for, numbered, as_numbers, as_places, source_of, optional, placed, all_fields}

-- ---- the sizes, one after another

as_numbers_append : (xs ys : List ℕ) → as_numbers (xs ++ ys) ≡ as_numbers xs ++ as_numbers ys
as_numbers_append [] ys = refl
as_numbers_append (x ∷ xs) ys = ap (λ (t : List Value). Number x ∷ t) (as_numbers_append xs ys)

numbered_append : (k : ℕ) (xs ys : List Value) → numbered k (xs ++ ys) ≡ numbered k xs ++ numbered k ys
numbered_append k [] ys = refl
numbered_append k (x ∷ xs) ys = ap (λ (t : List Field). (record { number = k; wire = wire_for x; value = x }) ∷ t) (numbered_append k xs ys)

pub sizes_more : (xs : List ℕ) (i d : ℕ) → i < length xs → numbered 4 (as_numbers (take (i + 1) xs)) ≡ numbered 4 (as_numbers (take i xs)) ++ optional 4 (Some (get_or xs i d))
sizes_more xs i d l =
    ap (λ (t : List ℕ). numbered 4 (as_numbers t)) (take_more xs i d l)
    ∙ ap (numbered 4) (as_numbers_append (take i xs) (get_or xs i d ∷ []))
    ∙ numbered_append 4 (as_numbers (take i xs)) (as_numbers (get_or xs i d ∷ []))

-- ---- the parts of fields of one number

abbrev all_of : {A : Type 0} → (Value → List A) → List Value → List A
all_of part [] = []
all_of part (v ∷ vs) = part v ++ all_of part vs

abbrev piece : {A : Type 0} → (Value → List A) → ℕ → List Value → ℕ → List A
piece part k vs n = if k == n then all_of part vs else []

piece_none : {A : Type 0} (b : Bool) (p : List A) → p ≡ (if b then [] else []) ++ p
piece_none true p = refl
piece_none false p = refl

piece_step : {A : Type 0} (b : Bool) (v vs p q : List A) → q ≡ (if b then vs else []) ++ p → (if b then v ++ q else q) ≡ (if b then v ++ vs else []) ++ p
piece_step true v vs p q e = ap (λ t. v ++ t) e ∙ sym (append_assoc v vs p)
piece_step false v vs p q e = e

-- the values of fields one by one: what `numbers_at` and `bytes_at` are of one field more
abbrev Step : {A : Type 0} → (Value → List A) → (ℕ → List Field → List A) → Type 0
Step part at = (n : ℕ) (f : Field) (fs : List Field) → at n (f ∷ fs) ≡ (if f.number == n then part f.value ++ at n fs else at n fs)

piece_at : {A : Type 0} (part : Value → List A) (at : ℕ → List Field → List A) → Step part at → (k : ℕ) (vs : List Value) (rest : List Field) (n : ℕ) → at n (numbered k vs ++ rest) ≡ piece part k vs n ++ at n rest
piece_at part at step k [] rest n = piece_none (k == n) (at n rest)
piece_at part at step k (v ∷ vs) rest n =
    step n (record { number = k; wire = wire_for v; value = v }) (numbered k vs ++ rest)
    ∙ piece_step (k == n) (part v) (all_of part vs) (at n rest) (at n (numbered k vs ++ rest)) (piece_at part at step k vs rest n)

last_piece : {A : Type 0} (part : Value → List A) (at : ℕ → List Field → List A) → Step part at → ((n : ℕ) → at n [] ≡ []) → (k : ℕ) (vs : List Value) (n : ℕ) → at n (numbered k vs) ≡ piece part k vs n ++ []
last_piece part at step none k vs n = ap (at n) (sym (append-nil (numbered k vs))) ∙ piece_at part at step k vs [] n ∙ ap (λ t. piece part k vs n ++ t) (none n)

six_pieces : {A : Type 0} (part : Value → List A) (at : ℕ → List Field → List A) → Step part at → ((n : ℕ) → at n [] ≡ []) → (a b c d e f : List Value) (n : ℕ)
    → at n (numbered 1 a ++ (numbered 2 b ++ (numbered 3 c ++ (numbered 4 d ++ (numbered 5 e ++ numbered 6 f)))))
    ≡ piece part 1 a n ++ (piece part 2 b n ++ (piece part 3 c n ++ (piece part 4 d n ++ (piece part 5 e n ++ (piece part 6 f n ++ [])))))
six_pieces part at step none a b c d e f n =
    let r5 = numbered 6 f in
    let r4 = numbered 5 e ++ r5 in
    let r3 = numbered 4 d ++ r4 in
    let r2 = numbered 3 c ++ r3 in
    let r1 = numbered 2 b ++ r2 in
    piece_at part at step 1 a r1 n ∙ ap (λ t. piece part 1 a n ++ t) (
    piece_at part at step 2 b r2 n ∙ ap (λ t. piece part 2 b n ++ t) (
    piece_at part at step 3 c r3 n ∙ ap (λ t. piece part 3 c n ++ t) (
    piece_at part at step 4 d r4 n ∙ ap (λ t. piece part 4 d n ++ t) (
    piece_at part at step 5 e r5 n ∙ ap (λ t. piece part 5 e n ++ t) (
    last_piece part at step none 6 f n)))))

numbers_back : (ns : List ℕ) → all_of number_in (as_numbers ns) ≡ ns
numbers_back [] = refl
numbers_back (n ∷ ns) = ap (λ (t : List ℕ). n ∷ t) (numbers_back ns)

pub whole : (bytes : List ℕ) → slice_range bytes 0 (length bytes) ≡ bytes
whole bytes = take_all (length bytes - 0) bytes (omega arith)

inline_back : (inline : Option (List ℕ)) → all_of (bytes_in (source_of inline)) (as_places inline) ≡ listed inline
inline_back None = refl
inline_back (Some bytes) = ap (λ (t : List ℕ). t ∷ []) (whole bytes)

six_parts : {A : Type 0} (part : Value → List A) (at : ℕ → List Field → List A) → Step part at → ((n : ℕ) → at n [] ≡ []) → (u : Unix) (n : ℕ) → at n (all_fields u)
    ≡ piece part 1 (Number u.kind ∷ []) n ++ (piece part 2 (as_places u.inline) n ++ (piece part 3 (as_numbers (listed u.filesize)) n ++ (piece part 4 (as_numbers u.sizes) n ++ (piece part 5 (as_numbers (listed u.hash)) n ++ (piece part 6 (as_numbers (listed u.fanout)) n ++ [])))))
six_parts part at step none u n = six_pieces part at step none (Number u.kind ∷ []) (as_places u.inline) (as_numbers (listed u.filesize)) (as_numbers u.sizes) (as_numbers (listed u.hash)) (as_numbers (listed u.fanout)) n

pub listed_parts : (u : Unix) → HasParts (source_of u.inline) (all_fields u) u
listed_parts u =
    let source = source_of u.inline in
    record {
      kind = six_parts number_in numbers_at (λ n f fs. refl) (λ n. refl) u 1;
      inline = six_parts (bytes_in source) (bytes_at source) (λ n f fs. refl) (λ n. refl) u 2 ∙ append-nil (all_of (bytes_in source) (as_places u.inline)) ∙ inline_back u.inline;
      filesize = six_parts number_in numbers_at (λ n f fs. refl) (λ n. refl) u 3 ∙ append-nil (all_of number_in (as_numbers (listed u.filesize))) ∙ numbers_back (listed u.filesize);
      sizes = six_parts number_in numbers_at (λ n f fs. refl) (λ n. refl) u 4 ∙ append-nil (all_of number_in (as_numbers u.sizes)) ∙ numbers_back u.sizes;
      hash = six_parts number_in numbers_at (λ n f fs. refl) (λ n. refl) u 5 ∙ append-nil (all_of number_in (as_numbers (listed u.hash))) ∙ numbers_back (listed u.hash);
      fanout = six_parts number_in numbers_at (λ n f fs. refl) (λ n. refl) u 6 ∙ append-nil (all_of number_in (as_numbers (listed u.fanout))) ∙ numbers_back (listed u.fanout);
    }

-- ---- counts

abbrev some_of : ℕ → List Value → ℕ → ℕ
some_of k vs n = if k == n then length vs else 0

count_none : (b : Bool) (c : ℕ) → c ≡ (if b then 0 else 0) + c
count_none true c = omega arith
count_none false c = omega arith

count_step : (b : Bool) (l c r : ℕ) → r ≡ (if b then l else 0) + c → cond b 1 0 + r ≡ (if b then suc l else 0) + c
count_step true l c r e = let h : r ≡ l + c = e in omega arith
count_step false l c r e = let h : r ≡ 0 + c = e in omega arith

count_at : (k : ℕ) (vs : List Value) (rest : List Field) (n : ℕ) → count_of (numbered k vs ++ rest) n ≡ some_of k vs n + count_of rest n
count_at k [] rest n = count_none (k == n) (count_of rest n)
count_at k (v ∷ vs) rest n =
    sum_by-cons (λ (x : Field). cond (x.number == n) 1 0) (record { number = k; wire = wire_for v; value = v }) (numbered k vs ++ rest)
    ∙ count_step (k == n) (length vs) (count_of rest n) (count_of (numbered k vs ++ rest) n) (count_at k vs rest n)

count_last : (k : ℕ) (vs : List Value) (n : ℕ) → count_of (numbered k vs) n ≡ some_of k vs n + 0
count_last k vs n = ap (λ (t : List Field). count_of t n) (sym (append-nil (numbered k vs))) ∙ count_at k vs [] n

six_counts : (a b c d e f : List Value) (n : ℕ)
    → count_of (numbered 1 a ++ (numbered 2 b ++ (numbered 3 c ++ (numbered 4 d ++ (numbered 5 e ++ numbered 6 f))))) n
    ≡ some_of 1 a n + (some_of 2 b n + (some_of 3 c n + (some_of 4 d n + (some_of 5 e n + (some_of 6 f n + 0)))))
six_counts a b c d e f n =
    let r5 = numbered 6 f in
    let r4 = numbered 5 e ++ r5 in
    let r3 = numbered 4 d ++ r4 in
    let r2 = numbered 3 c ++ r3 in
    let r1 = numbered 2 b ++ r2 in
    count_at 1 a r1 n ∙ ap (λ (t : ℕ). some_of 1 a n + t) (
    count_at 2 b r2 n ∙ ap (λ (t : ℕ). some_of 2 b n + t) (
    count_at 3 c r3 n ∙ ap (λ (t : ℕ). some_of 3 c n + t) (
    count_at 4 d r4 n ∙ ap (λ (t : ℕ). some_of 4 d n + t) (
    count_at 5 e r5 n ∙ ap (λ (t : ℕ). some_of 5 e n + t) (
    count_last 6 f n)))))

one_or_none : (o : Option ℕ) → length (as_numbers (listed o)) ≤ 1
one_or_none None = omega arith
one_or_none (Some n) = omega arith

place_or_none : (o : Option (List ℕ)) → length (as_places o) ≤ 1
place_or_none None = omega arith
place_or_none (Some bytes) = omega arith

counted : (u : Unix) (n : ℕ) → count_of (all_fields u) n
    ≡ some_of 1 (Number u.kind ∷ []) n + (some_of 2 (as_places u.inline) n + (some_of 3 (as_numbers (listed u.filesize)) n + (some_of 4 (as_numbers u.sizes) n + (some_of 5 (as_numbers (listed u.hash)) n + (some_of 6 (as_numbers (listed u.fanout)) n + 0)))))
counted u n = six_counts (Number u.kind ∷ []) (as_places u.inline) (as_numbers (listed u.filesize)) (as_numbers u.sizes) (as_numbers (listed u.hash)) (as_numbers (listed u.fanout)) n

two_counted : (u : Unix) → count_of (all_fields u) 2 ≤ 1
two_counted u = let h : count_of (all_fields u) 2 ≡ 0 + (length (as_places u.inline) + (0 + (0 + (0 + (0 + 0))))) = counted u 2 in omega (arith, place_or_none u.inline)

three_counted : (u : Unix) → count_of (all_fields u) 3 ≤ 1
three_counted u = let h : count_of (all_fields u) 3 ≡ 0 + (0 + (length (as_numbers (listed u.filesize)) + (0 + (0 + (0 + 0))))) = counted u 3 in omega (arith, one_or_none u.filesize)

five_counted : (u : Unix) → count_of (all_fields u) 5 ≤ 1
five_counted u = let h : count_of (all_fields u) 5 ≡ 0 + (0 + (0 + (0 + (length (as_numbers (listed u.hash)) + (0 + 0))))) = counted u 5 in omega (arith, one_or_none u.hash)

six_counted : (u : Unix) → count_of (all_fields u) 6 ≤ 1
six_counted u = let h : count_of (all_fields u) 6 ≡ 0 + (0 + (0 + (0 + (0 + (length (as_numbers (listed u.fanout)) + 0))))) = counted u 6 in omega (arith, one_or_none u.fanout)

none_counted : (u : Unix) (n : ℕ) → count_of (all_fields u) n ≡ 0 → count_of (all_fields u) n ≤ 1
none_counted u n h = omega arith

pub listed_counts : (u : Unix) → (k : ℕ) (d : Rule) → k < 8 → IsCount (get_or DATA.now k d).times (count_of (all_fields u) (get_or DATA.now k d).number)
listed_counts u zero d l = counted u 1
listed_counts u (suc zero) d l = two_counted u
listed_counts u (suc (suc zero)) d l = three_counted u
listed_counts u (suc (suc (suc zero))) d l = tt
listed_counts u (suc (suc (suc (suc zero)))) d l = five_counted u
listed_counts u (suc (suc (suc (suc (suc zero))))) d l = six_counted u
listed_counts u (suc (suc (suc (suc (suc (suc zero)))))) d l = none_counted u 7 (counted u 7)
listed_counts u (suc (suc (suc (suc (suc (suc (suc zero))))))) d l = none_counted u 8 (counted u 8)
listed_counts u (suc (suc (suc (suc (suc (suc (suc (suc k)))))))) d l = absurd (omega arith)

-- ---- order

record From (low : ℕ) (fs : List Field) : Type 0 where
  rises : IsNonDecreasing (numbers_of fs)
  above : All (λ (m : ℕ). low ≤ m) (numbers_of fs)

cons_rises : (n : ℕ) (ns : List ℕ) → All (λ (m : ℕ). n ≤ m) ns → IsNonDecreasing ns → (i j d : ℕ) → i ≤ j → j < length (n ∷ ns) → get_or (n ∷ ns) i d ≤ get_or (n ∷ ns) j d
cons_rises n ns a h zero zero d ij jl = omega arith
cons_rises n ns a h zero (suc j) d ij jl = a j d (omega arith)
cons_rises n ns a h (suc i) zero d ij jl = absurd (omega arith)
cons_rises n ns a h (suc i) (suc j) d ij jl = h i j d (omega arith) (omega arith)

all_from : (low high : ℕ) (ns : List ℕ) → low ≤ high → All (λ (m : ℕ). high ≤ m) ns → All (λ (m : ℕ). low ≤ m) ns
all_from low high ns l h = λ k d kl. let p : high ≤ get_or ns k d = h k d kl in omega arith

from_none : (low : ℕ) → From low []
from_none low = record { rises = λ i j d ij jl. absurd (omega arith); above = All-nil (λ (m : ℕ). low ≤ m) }

from_lower : (low high : ℕ) (fs : List Field) → low ≤ high → From high fs → From low fs
from_lower low high fs l f = record { rises = f.rises; above = all_from low high (numbers_of fs) l f.above }

from_same : (k : ℕ) (vs : List Value) (rest : List Field) → From k rest → From k (numbered k vs ++ rest)
from_same k [] rest f = f
from_same k (v ∷ vs) rest f =
    let tail = from_same k vs rest f in
    let ns = numbers_of (numbered k vs ++ rest) in
    record {
      rises = cons_rises k ns tail.above tail.rises;
      above = All-cons (λ (m : ℕ). k ≤ m) k ns (omega arith) tail.above;
    }

six_rise : (a b c d e f : List Value) → IsNonDecreasing (numbers_of (numbered 1 a ++ (numbered 2 b ++ (numbered 3 c ++ (numbered 4 d ++ (numbered 5 e ++ numbered 6 f))))))
six_rise a b c d e f =
    let r5 = numbered 6 f in
    let r4 = numbered 5 e ++ r5 in
    let r3 = numbered 4 d ++ r4 in
    let r2 = numbered 3 c ++ r3 in
    let r1 = numbered 2 b ++ r2 in
    let f6 : From 6 r5 = subst (λ (t : List Field). From 6 t) (append-nil r5) (from_same 6 f [] (from_none 6)) in
    let f5 = from_same 5 e r5 (from_lower 5 6 r5 (omega arith) f6) in
    let f4 = from_same 4 d r4 (from_lower 4 5 r4 (omega arith) f5) in
    let f3 = from_same 3 c r3 (from_lower 3 4 r3 (omega arith) f4) in
    let f2 = from_same 2 b r2 (from_lower 2 3 r2 (omega arith) f3) in
    (from_same 1 a r1 (from_lower 1 2 r1 (omega arith) f2)).rises

pub listed_rise : (u : Unix) → IsNonDecreasing (numbers_of (all_fields u))
listed_rise u = six_rise (Number u.kind ∷ []) (as_places u.inline) (as_numbers (listed u.filesize)) (as_numbers u.sizes) (as_numbers (listed u.hash)) (as_numbers (listed u.fanout))

-- ---- rules

abbrev IsRuled : Field → Type 0
IsRuled f = IsRuledField DATA.now f

ruled_numbers : (k : ℕ) → HasRule DATA.now k Varint → (ns : List ℕ) → All IsRuled (numbered k (as_numbers ns))
ruled_numbers k h [] = All-nil IsRuled
ruled_numbers k h (n ∷ ns) = All-cons IsRuled (record { number = k; wire = Varint; value = Number n }) (numbered k (as_numbers ns)) (record { has_rule = h; of_wire = tt }) (ruled_numbers k h ns)

ruled_inline : (inline : Option (List ℕ)) → HasRule DATA.now 2 Bytes → All IsRuled (placed inline)
ruled_inline None h = All-nil IsRuled
ruled_inline (Some bytes) h = All-cons IsRuled (record { number = 2; wire = Bytes; value = Place 0 (length bytes) }) [] (record { has_rule = h; of_wire = tt }) (All-nil IsRuled)

pub listed_ruled : (u : Unix) → AreRuled DATA.now (all_fields u)
listed_ruled u =
    let p1 = numbered 1 (Number u.kind ∷ []) in
    let p2 = placed u.inline in
    let p3 = optional 3 u.filesize in
    let p4 = numbered 4 (as_numbers u.sizes) in
    let p5 = optional 5 u.hash in
    let p6 = optional 6 u.fanout in
    All-append IsRuled p1 (p2 ++ (p3 ++ (p4 ++ (p5 ++ p6)))) (ruled_numbers 1 (rule_at DATA.now 0 (omega arith)) (u.kind ∷ []))
    (All-append IsRuled p2 (p3 ++ (p4 ++ (p5 ++ p6))) (ruled_inline u.inline (rule_at DATA.now 1 (omega arith)))
    (All-append IsRuled p3 (p4 ++ (p5 ++ p6)) (ruled_numbers 3 (rule_at DATA.now 2 (omega arith)) (listed u.filesize))
    (All-append IsRuled p4 (p5 ++ p6) (ruled_numbers 4 (rule_at DATA.now 3 (omega arith)) u.sizes)
    (All-append IsRuled p5 p6 (ruled_numbers 5 (rule_at DATA.now 4 (omega arith)) (listed u.hash))
    (ruled_numbers 6 (rule_at DATA.now 5 (omega arith)) (listed u.fanout))))))

-- ---- none of a high number

abbrev pub IsLow : Field → Type 0
IsLow f = f.number < 7

low_numbered : (k : ℕ) (vs : List Value) → k < 7 → All IsLow (numbered k vs)
low_numbered k [] l = All-nil IsLow
low_numbered k (v ∷ vs) l = All-cons IsLow (record { number = k; wire = wire_for v; value = v }) (numbered k vs) l (low_numbered k vs l)

pub listed_low : (u : Unix) → All IsLow (all_fields u)
listed_low u =
    let p1 = numbered 1 (Number u.kind ∷ []) in
    let p2 = placed u.inline in
    let p3 = optional 3 u.filesize in
    let p4 = numbered 4 (as_numbers u.sizes) in
    let p5 = optional 5 u.hash in
    let p6 = optional 6 u.fanout in
    All-append IsLow p1 (p2 ++ (p3 ++ (p4 ++ (p5 ++ p6)))) (low_numbered 1 (Number u.kind ∷ []) (omega arith))
    (All-append IsLow p2 (p3 ++ (p4 ++ (p5 ++ p6))) (low_numbered 2 (as_places u.inline) (omega arith))
    (All-append IsLow p3 (p4 ++ (p5 ++ p6)) (low_numbered 3 (as_numbers (listed u.filesize)) (omega arith))
    (All-append IsLow p4 (p5 ++ p6) (low_numbered 4 (as_numbers u.sizes) (omega arith))
    (All-append IsLow p5 p6 (low_numbered 5 (as_numbers (listed u.hash)) (omega arith))
    (low_numbered 6 (as_numbers (listed u.fanout)) (omega arith))))))

pub same_low : (s t : List ℕ) (fs gs : List Field) → AreSameFields s fs t gs → All IsLow fs → All IsLow gs
same_low s t [] [] same h = h
same_low s t [] (g ∷ gs) same h = absurd same
same_low s t (f ∷ fs) [] same h = absurd same
same_low s t (f ∷ fs) (g ∷ gs) same h = All-cons IsLow g gs (subst (λ (n : ℕ). n < 7) same.0 (All-head IsLow f fs h)) (same_low s t fs gs same.3 (All-tail IsLow f fs h))
