-- The text of fields, one field after another.
use Rattle.std.proofs.Common.{◌≡◌, ℕ, ◌+◌, ◌/◌, ◌%◌, ◌<◌, cond, List, [], ◌∷◌, ◌++◌, length, get_or, refl, sym, ap, ap₂, ◌∙◌, append_assoc, subst, arith}
use Rattle.std.specs.Prelude.{◌^◌, All, slice_range, ◌==◌, Result, Ok, Err, OnOk}
use Rattle.std.specs.Int.{to_le_bytes, w32}
use Rattle.std.specs.Result.{is_ok}
use Rattle.std.proofs.lemmas.List.{length-append, append-nil}
use Rattle.std.proofs.lemmas.List.Elements.{All-nil, All-cons, All-head, All-tail, All-append}
use Rattle.tg_bytes.specs.Lists.{AreBytes}
use Rattle.tg_pbtable.specs.declared.table.Rule.{Rule}
use Rattle.tg_pbtable.specs.declared.table.Order.{Order}
use Rattle.tg_pbtable.specs.declared.table.Field.{Field}
use Rattle.tg_pbtable.specs.declared.table.Value.{Value}
use Rattle.tg_pbtable.specs.declared.table.Value.TheVariants.{Number, Place}
use Rattle.tg_pbtable.specs.declared.table.Wire.{Wire}
use Rattle.tg_pbtable.specs.declared.table.Wire.TheVariants.{Varint, Bytes, Fixed32}
use Rattle.tg_pbtable.specs.Varint.{VarintSpelling}
use Rattle.tg_pbtable.specs.Wires.{wire_code}
use Rattle.tg_pbtable.specs.Message.{Message, KeySpelling, NumberSpelling, PlaceSpelling, ValueSpelling, Spelled, IsRuledField, AreRuled, IsOfWire, IsCount, IsInOrder, count_of, numbers_of}
use Rattle.tg_pbtable.specs.Emitted.{IsSameValue, AreSameFields, HeadSpelling, BytesSpelling, ValueText, FieldTexts, Puts}
use Rattle.tg_pbtable.proofs.Numbers.{count_cons}
use Rattle.tg_pbtable.proofs.Spellings.{place_range}

-- ---- what is put

pub number_both : (number value : ℕ) (a b : List ℕ) → KeySpelling number (wire_code Varint) a → VarintSpelling value b → NumberSpelling number value (a ++ b)
number_both number value a b p q = record { key = a; amount = b; whole = refl; key_is = p; amount_is = q }

pub head_both : (number size : ℕ) (a b : List ℕ) → KeySpelling number (wire_code Bytes) a → VarintSpelling size b → HeadSpelling number size (a ++ b)
head_both number size a b p q = record { key = a; amount = b; whole = refl; key_is = p; amount_is = q }

pub bytes_put : (number : ℕ) (content old mid new : List ℕ) → All (λ (b : ℕ). b < 256) content → Puts (λ bytes. HeadSpelling number (length content) bytes) old mid → new ≡ mid ++ content
    → Puts (λ bytes. BytesSpelling number content bytes) old new
bytes_put number content old mid new are p e = record {
  bytes = p.bytes ++ content;
  whole = e ∙ ap (λ (t : List ℕ). t ++ content) p.whole ∙ append_assoc old p.bytes content;
  spells = record { head = p.bytes; whole = refl; head_is = p.spells; are_bytes = are };
}

-- ---- fields, wherever they stand

pub texts_append : (source : List ℕ) (fs gs : List Field) (a b : List ℕ) → FieldTexts source fs a → FieldTexts source gs b → FieldTexts source (fs ++ gs) (a ++ b)
texts_append source [] gs a b p q = subst (λ (t : List ℕ). FieldTexts source gs (t ++ b)) (sym p) q
texts_append source (f ∷ fs) gs a b p q =
    (p.0, p.1 ++ b, ap (λ (t : List ℕ). t ++ b) p.2 ∙ append_assoc p.0 p.1 b, p.3, texts_append source fs gs p.1 b p.4 q)

pub text_more : (source : List ℕ) (fs : List Field) (f : Field) (old new : List ℕ) → FieldTexts source fs old → Puts (λ bytes. ValueText source f.number f.wire f.value bytes) old new → FieldTexts source (fs ++ f ∷ []) new
text_more source fs f old new h p =
    subst (λ (t : List ℕ). FieldTexts source (fs ++ f ∷ []) t) (sym p.whole)
    (texts_append source fs (f ∷ []) old p.bytes h (p.bytes, [], sym (append-nil p.bytes), p.spells, refl))

low_byte : (x : ℕ) → x % 256 < 256
low_byte x = omega arith

four_bytes : (n : ℕ) → AreBytes (to_le_bytes w32 n)
four_bytes n =
    let P = λ (b : ℕ). b < 256 in
    let b0 = n % 256 in
    let b1 = n / 256 % 256 in
    let b2 = n / 65536 % 256 in
    let b3 = n / 16777216 % 256 in
    All-cons P b0 (b1 ∷ b2 ∷ b3 ∷ []) (low_byte n) (All-cons P b1 (b2 ∷ b3 ∷ []) (low_byte (n / 256))
    (All-cons P b2 (b3 ∷ []) (low_byte (n / 65536)) (All-cons P b3 [] (low_byte (n / 16777216)) (All-nil P))))

value_bytes : (source : List ℕ) (number : ℕ) (wire : Wire) (value : Value) (text : List ℕ) → ValueText source number wire value text → AreBytes text
value_bytes source number Varint (Place start end) text p = absurd p
value_bytes source number Bytes (Number n) text p = absurd p
value_bytes source number Fixed32 (Place start end) text p = absurd p
value_bytes source number Fixed32 (Number n) text p =
    subst AreBytes (sym p.whole) (All-append (λ (b : ℕ). b < 256) p.key (to_le_bytes w32 n) p.key_is.groups.are_bytes (four_bytes n))
value_bytes source number Varint (Number n) text p =
    subst AreBytes (sym p.whole) (All-append (λ (b : ℕ). b < 256) p.key p.amount p.key_is.groups.are_bytes p.amount_is.groups.are_bytes)
value_bytes source number Bytes (Place start end) text p =
    let head : AreBytes p.head = subst AreBytes (sym p.head_is.whole) (All-append (λ (b : ℕ). b < 256) p.head_is.key p.head_is.amount p.head_is.key_is.groups.are_bytes p.head_is.amount_is.groups.are_bytes) in
    subst AreBytes (sym p.whole) (All-append (λ (b : ℕ). b < 256) p.head (slice_range source start end) head p.are_bytes)

pub texts_bytes : (source : List ℕ) (fs : List Field) (text : List ℕ) → FieldTexts source fs text → AreBytes text
texts_bytes source [] text p = subst AreBytes (sym p) (All-nil (λ (b : ℕ). b < 256))
texts_bytes source (f ∷ fs) text p =
    subst AreBytes (sym p.2) (All-append (λ (b : ℕ). b < 256) p.0 p.1 (value_bytes source f.number f.wire f.value p.0 p.3) (texts_bytes source fs p.1 p.4))

-- ---- their places in a text

record PlacedValue (source : List ℕ) (number : ℕ) (wire : Wire) (value : Value) (before front rest : List ℕ) : Type 0 where
  placed : Value
  spelled : ValueSpelling (length before) number wire placed front
  same : IsSameValue source value (before ++ (front ++ rest)) placed

placed_value : (source : List ℕ) (number : ℕ) (wire : Wire) (value : Value) (before front rest : List ℕ) → ValueText source number wire value front → PlacedValue source number wire value before front rest
placed_value source number Varint (Place start end) before front rest p = absurd p
placed_value source number Bytes (Number n) before front rest p = absurd p
placed_value source number Fixed32 (Place start end) before front rest p = absurd p
placed_value source number Fixed32 (Number n) before front rest p = record { placed = Number n; spelled = p; same = refl }
placed_value source number Varint (Number n) before front rest p = record { placed = Number n; spelled = p; same = refl }
placed_value source number Bytes (Place start end) before front rest p =
    let content = slice_range source start end in
    let from = length before + length p.head_is.key + length p.head_is.amount in
    let here : PlaceSpelling (length before) number from (from + length content) front = record {
      key = p.head_is.key;
      size = p.head_is.amount;
      content = content;
      whole = p.whole ∙ ap (λ (t : List ℕ). t ++ content) p.head_is.whole ∙ append_assoc p.head_is.key p.head_is.amount content;
      key_is = p.head_is.key_is;
      size_is = p.head_is.amount_is;
      are_bytes = p.are_bytes;
      start_is = refl;
      end_is = refl;
    } in
    record { placed = Place from (from + length content); spelled = here; same = sym (place_range (length before) number from (from + length content) before front rest here refl) }

-- the fields at their places in a text, behind what stands before them
pub record Placed (source : List ℕ) (fields : List Field) (before text : List ℕ) : Type 0 where
  pub placed : List Field
  pub spelled : Spelled (length before) placed text
  pub same : AreSameFields source fields (before ++ text) placed

pub placed_fields : (source : List ℕ) (fs : List Field) (before text : List ℕ) → FieldTexts source fs text → Placed source fs before text
placed_fields source [] before text p = record { placed = []; spelled = p; same = tt }
placed_fields source (f ∷ fs) before text p =
    let v = placed_value source f.number f.wire f.value before p.0 p.1 p.3 in
    let rest = placed_fields source fs (before ++ p.0) p.1 p.4 in
    let whole : before ++ text ≡ before ++ (p.0 ++ p.1) = ap (λ (t : List ℕ). before ++ t) p.2 in
    record {
      placed = record { number = f.number; wire = f.wire; value = v.placed } ∷ rest.placed;
      spelled = (p.0, p.1, p.2, v.spelled, subst (λ (n : ℕ). Spelled n rest.placed p.1) (length-append before p.0) rest.spelled);
      same = (
        refl,
        refl,
        subst (λ (t : List ℕ). IsSameValue source f.value t v.placed) (sym whole) v.same,
        subst (λ (t : List ℕ). AreSameFields source fs t rest.placed) (append_assoc before p.0 p.1 ∙ sym whole) rest.same,
      );
    }

-- ---- a message again

same_numbers : (source text : List ℕ) (fs gs : List Field) → AreSameFields source fs text gs → numbers_of fs ≡ numbers_of gs
same_numbers source text [] [] same = refl
same_numbers source text [] (g ∷ gs) same = absurd same
same_numbers source text (f ∷ fs) [] same = absurd same
same_numbers source text (f ∷ fs) (g ∷ gs) same = ap₂ (λ (n : ℕ) (ns : List ℕ). n ∷ ns) same.0 (same_numbers source text fs gs same.3)

same_counts : (source text : List ℕ) (fs gs : List Field) (n : ℕ) → AreSameFields source fs text gs → count_of fs n ≡ count_of gs n
same_counts source text [] [] n same = refl
same_counts source text [] (g ∷ gs) n same = absurd same
same_counts source text (f ∷ fs) [] n same = absurd same
same_counts source text (f ∷ fs) (g ∷ gs) n same =
    let heads : f.number ≡ g.number = same.0 in
    count_cons f fs n ∙ ap₂ (λ (a b : ℕ). cond (a == n) 1 0 + b) heads (same_counts source text fs gs n same.3) ∙ sym (count_cons g gs n)

same_of_wire : (source text : List ℕ) (x : Wire) (v w : Value) → IsSameValue source v text w → IsOfWire x v → IsOfWire x w
same_of_wire source text Varint (Number m) (Number n) same h = tt
same_of_wire source text Bytes (Number m) (Number n) same h = absurd h
same_of_wire source text Fixed32 (Number m) (Number n) same h = subst (λ (k : ℕ). k < 2 ^ 32) same h
same_of_wire source text x (Number m) (Place start end) same h = absurd same
same_of_wire source text x (Place from to) (Number n) same h = absurd same
same_of_wire source text Varint (Place from to) (Place start end) same h = absurd h
same_of_wire source text Bytes (Place from to) (Place start end) same h = tt
same_of_wire source text Fixed32 (Place from to) (Place start end) same h = absurd h

same_ruled : (source text : List ℕ) (rules : List Rule) (fs gs : List Field) → AreSameFields source fs text gs → AreRuled rules fs → AreRuled rules gs
same_ruled source text rules [] [] same r = r
same_ruled source text rules [] (g ∷ gs) same r = absurd same
same_ruled source text rules (f ∷ fs) [] same r = absurd same
same_ruled source text rules (f ∷ fs) (g ∷ gs) same r =
    let is_ruled : IsRuledField rules f = All-head (IsRuledField rules) f fs r in
    let has = is_ruled.has_rule in
    All-cons (IsRuledField rules) g gs
    (record {
      has_rule = record { rule = has.rule; among = has.among; number_is = has.number_is ∙ same.0; wire_is = has.wire_is ∙ same.1 };
      of_wire = subst (λ (x : Wire). IsOfWire x g.value) same.1 (same_of_wire source text f.wire f.value g.value same.2 is_ruled.of_wire);
    })
    (same_ruled source text rules fs gs same.3 (All-tail (IsRuledField rules) f fs r))

pub message_again : (source text : List ℕ) (rules : List Rule) (order : Order) (fields : List Field) → AreRuled rules fields → All (λ (rule : Rule). IsCount rule.times (count_of fields rule.number)) rules → IsInOrder order (numbers_of fields) → (w : Placed source fields [] text)
    → Message rules order text w.placed
message_again source text rules order fields ruled counts inorder w = record {
  spelled = w.spelled;
  ruled = same_ruled source text rules fields w.placed w.same ruled;
  counts = λ k d l. subst (λ (n : ℕ). IsCount (get_or rules k d).times n) (same_counts source text fields w.placed (get_or rules k d).number w.same) (counts k d l);
  ordered = subst (λ (ns : List ℕ). IsInOrder order ns) (same_numbers source text fields w.placed w.same) inorder;
}

pub emitted : (rules : List Rule) (order : Order) (source : List ℕ) (fields : List Field) (text : List ℕ) → AreRuled rules fields → All (λ (rule : Rule). IsCount rule.times (count_of fields rule.number)) rules → IsInOrder order (numbers_of fields)
    → FieldTexts source fields text → (placed : List Field) × Message rules order text placed × AreSameFields source fields text placed
emitted rules order source fields text ruled counts inorder h =
    let p = placed_fields source fields [] text h in
    (p.placed, message_again source text rules order fields ruled counts inorder p, p.same)

-- ---- what a call that may fail leaves

pub extended : {T E : Type 0} (r : Result T E) (old more new : List ℕ) → new ≡ cond (is_ok r) (old ++ more) old → OnOk r (new ≡ old ++ more)
extended (Ok x) old more new e = e
extended (Err y) old more new e = tt
