-- Fields read from bytes, and why none is read: of these one holds at a place.
use Rattle.std.proofs.Common.{◌≡◌, ℕ, ◌+◌, ◌-◌, ◌*◌, ◌/◌, ◌%◌, ◌<◌, ◌≤◌, Option, Some, None, List, ◌++◌, length, take, drop, get_or, refl, sym, ap, ◌∙◌, append_assoc, subst, inl, inr, arith}
use Rattle.std.specs.Prelude.{All}
use Rattle.std.specs.Int.{to_le_bytes, from_le_bytes, w32}
use Rattle.std.proofs.lemmas.Nat.{le_bytes_4}
use Rattle.std.proofs.lemmas.Bool.{cases_lt}
use Rattle.std.proofs.lemmas.List.{length-append, length-drop, length-take-le, take-append-drop, drop-drop, take_rest, get_or_past}
use Rattle.std.proofs.lemmas.List.Elements.{All-take, All-drop}
use Rattle.tg_pbtable.specs.declared.table.Wire.{Wire}
use Rattle.tg_pbtable.specs.declared.table.Wire.TheVariants.{Varint, Bytes, Fixed32}
use Rattle.tg_pbtable.specs.declared.table.Value.{Value}
use Rattle.tg_pbtable.specs.declared.table.Value.TheVariants.{Number, Place}
use Rattle.tg_pbtable.specs.declared.raw.RawValue.{RawValue}
use Rattle.tg_pbtable.specs.declared.raw.ReadFault.{ReadFault}
use Rattle.tg_pbtable.specs.declared.raw.ReadFault.TheVariants.{Short, Bad}
use Rattle.tg_pbtable.specs.Varint.{VarintSpelling, EndsInside, IsBadVarint}
use Rattle.tg_varint.specs.GroupLaws.{not_empty}
use Rattle.tg_pbtable.specs.Wires.{wire_type, wire_code, EndsInValue, HasBadValue, HasValue}
use Rattle.tg_pbtable.specs.Message.{KeySpelling, ValueSpelling}
use Rattle.tg_pbtable.specs.Faults.{HasKey, IsShort, HasBadVarint, HasField}
use Rattle.tg_pbtable.specs.Reading.{IsVarintAt, IsNumberAt, IsFixedAt, IsPlaceAt, IsPlaceFault, IsSomeValueAt, IsValueAt, IsValueFault, IsSpelledAt, IsValueOf, IsFieldAt, IsFieldFault}
use Rattle.tg_pbtable.proofs.Varints.{short_number, short_bad, bad_number, one_number}
use Rattle.tg_pbtable.proofs.Spellings.{one_key, same_code, code_low}

-- ---- what is read

pub number_there : (at : ℕ) (after : List ℕ) (value size : ℕ) → IsVarintAt after value size → IsNumberAt at after value (at + size)
number_there at after value size v = record {
  amount = take size after;
  rest = drop size after;
  whole = sym (take-append-drop size after);
  amount_is = v.spells;
  next_is = ap (λ (n : ℕ). at + n) (sym (length-take-le size after v.inside));
}

pub place_there : (at : ℕ) (bytes : List ℕ) (amount size : ℕ) → at ≤ length bytes → IsVarintAt (drop at bytes) amount size → amount ≤ length bytes - (at + size) → All (λ (b : ℕ). b < 256) bytes
    → IsPlaceAt at (drop at bytes) (at + size) (at + size + amount)
place_there at bytes amount size l v enough are =
    let after = drop at bytes in
    let left : length after ≡ length bytes - at = length-drop at bytes in
    let behind : length (drop size after) ≡ length after - size = length-drop size after in
    let content : length (take amount (drop size after)) ≡ amount = length-take-le amount (drop size after) (omega arith) in
    let size_is : length (take size after) ≡ size = length-take-le size after v.inside in
    record {
      size = take size after;
      content = take amount (drop size after);
      rest = drop amount (drop size after);
      whole = sym (take-append-drop size after) ∙ ap (λ (t : List ℕ). take size after ++ t) (sym (take-append-drop amount (drop size after)));
      size_is = subst (λ (n : ℕ). VarintSpelling n (take size after)) (sym content) v.spells;
      are_bytes = All-take (λ (b : ℕ). b < 256) amount (drop size after) (All-drop (λ (b : ℕ). b < 256) size after (All-drop (λ (b : ℕ). b < 256) at bytes are));
      start_is = ap (λ (n : ℕ). at + n) (sym size_is);
      end_is = ap (λ (n : ℕ). at + size + n) (sym content);
    }

pub short_place : (at : ℕ) (bytes : List ℕ) (amount size : ℕ) → at ≤ length bytes → IsVarintAt (drop at bytes) amount size → length bytes - (at + size) < amount → IsPlaceFault Short (drop at bytes)
short_place at bytes amount size l v fewer =
    let after = drop at bytes in
    let left : length after ≡ length bytes - at = length-drop at bytes in
    let behind : length (drop size after) ≡ length after - size = length-drop size after in
    inr (record { amount = amount; size = take size after; content = drop size after; whole = sym (take-append-drop size after); size_is = v.spells; fewer = omega arith })

-- the first four of bytes are those of the number that they are
pub fixed_there : (after : List ℕ) (value : ℕ) → 4 ≤ length after → All (λ (b : ℕ). b < 256) after → value ≡ from_le_bytes w32 (take 4 after) → IsFixedAt after value
fixed_there after value enough are e =
    let size : length (take 4 after) ≡ 4 = length-take-le 4 after enough in
    let low = All-take (λ (b : ℕ). b < 256) 4 after are in
    let each : (i : ℕ) → get_or (take 4 after) i 0 < 256 = λ i. elim (cases_lt i (length (take 4 after))) [
      | inl lt ↦ low i 0 lt
      | inr ge ↦ subst (λ (b : ℕ). b < 256) (sym (get_or_past (take 4 after) i 0 ge)) (omega arith)
    ] in
    record { enough = enough; four = sym (le_bytes_4 (take 4 after) value size each e); fits = omega (arith, e, each 0, each 1, each 2, each 3) }

-- what the slice from `at` on says
pub unsliced : (at : ℕ) (bytes : List ℕ) (number size : ℕ) → IsVarintAt (take (length bytes - at) (drop at bytes)) number size → IsVarintAt (drop at bytes) number size
unsliced at bytes number size v = subst (λ (t : List ℕ). IsVarintAt t number size) (take_rest bytes at) v

pub key_there : (rest : List ℕ) (key size : ℕ) → IsVarintAt rest key size → HasKey (key / 8) (key % 8) rest (drop size rest)
key_there rest key size v =
    let parts : key ≡ key / 8 * 8 + key % 8 = omega arith in
    record { key = take size rest; whole = sym (take-append-drop size rest); wire_is = omega arith; key_is = subst (λ (n : ℕ). VarintSpelling n (take size rest)) parts v.spells }

some_has : (at : ℕ) (after : List ℕ) (w : Wire) (v : Value) (next : ℕ) → IsSomeValueAt at after w v next → (wire_type w).whole after
some_has at after Varint (Number n) next h = record { amount = n; front = h.amount; rest = h.rest; whole = h.whole; amount_is = h.amount_is }
some_has at after Varint (Place start end) next h = absurd h
some_has at after Bytes (Number n) next h = absurd h
some_has at after Bytes (Place start end) next h =
    record { amount = length h.0.content; size = h.0.size; content = h.0.content ++ h.0.rest; whole = h.0.whole; size_is = h.0.size_is; enough = omega (arith, length-append h.0.content h.0.rest) }
some_has at after Fixed32 (Number n) next h = h.0.enough
some_has at after Fixed32 (Place start end) next h = absurd h

value_has : (at : ℕ) (after : List ℕ) (code : ℕ) (v : Option RawValue) → IsValueAt at after code v → HasValue code after
value_has at after code None h = inr h
value_has at after code (Some v) h = inl (v.wire, h.0, some_has at after v.wire v.value v.next h.1)

-- a value behind the key of its wire type is a spelling with it
spelled_there : (at number : ℕ) (rest : List ℕ) (size : ℕ) (w : Wire) (v : Value) (next : ℕ) (k : HasKey number (wire_code w) rest (drop size rest)) → length k.key ≡ size → IsSomeValueAt (at + size) (drop size rest) w v next
    → IsSpelledAt at rest number w v next
spelled_there at number rest size Varint (Number n) next k l h =
    let whole : rest ≡ (k.key ++ h.amount) ++ h.rest = k.whole ∙ ap (λ (t : List ℕ). k.key ++ t) h.whole ∙ sym (append_assoc k.key h.amount h.rest) in
    record {
      front = k.key ++ h.amount;
      behind = h.rest;
      whole = whole;
      spelled = record { key = k.key; amount = h.amount; whole = refl; key_is = k.key_is; amount_is = h.amount_is };
      next_is = omega (arith, h.next_is, length-append k.key h.amount);
      more = omega (arith, length-append k.key h.amount, not_empty (number * 8 + 0) k.key k.key_is.groups);
    }
spelled_there at number rest size Varint (Place start end) next k l h = absurd h
spelled_there at number rest size Bytes (Number n) next k l h = absurd h
spelled_there at number rest size Bytes (Place start end) next k l h =
    let p = h.0 in
    let whole : rest ≡ (k.key ++ (p.size ++ p.content)) ++ p.rest =
    k.whole ∙ ap (λ (t : List ℕ). k.key ++ t) (p.whole ∙ sym (append_assoc p.size p.content p.rest)) ∙ sym (append_assoc k.key (p.size ++ p.content) p.rest) in
    record {
      front = k.key ++ (p.size ++ p.content);
      behind = p.rest;
      whole = whole;
      spelled = record {
        key = k.key;
        size = p.size;
        content = p.content;
        whole = refl;
        key_is = k.key_is;
        size_is = p.size_is;
        are_bytes = p.are_bytes;
        start_is = omega (arith, p.start_is);
        end_is = p.end_is;
      };
      next_is = omega (arith, h.1, p.end_is, p.start_is, length-append k.key (p.size ++ p.content), length-append p.size p.content);
      more = omega (arith, length-append k.key (p.size ++ p.content), not_empty (number * 8 + 2) k.key k.key_is.groups);
    }
spelled_there at number rest size Fixed32 (Number n) next k l h =
    let four = to_le_bytes w32 n in
    let behind = drop 4 (drop size rest) in
    let after : drop size rest ≡ four ++ behind = sym (take-append-drop 4 (drop size rest)) ∙ ap (λ (t : List ℕ). t ++ behind) h.0.four in
    record {
      front = k.key ++ four;
      behind = behind;
      whole = k.whole ∙ ap (λ (t : List ℕ). k.key ++ t) after ∙ sym (append_assoc k.key four behind);
      spelled = record { key = k.key; whole = refl; key_is = k.key_is; fits = h.0.fits };
      next_is = omega (arith, h.1, length-append k.key four);
      more = omega (arith, length-append k.key four);
    }
spelled_there at number rest size Fixed32 (Place start end) next k l h = absurd h

value_of : (at number : ℕ) (rest : List ℕ) (size code : ℕ) (v : Option RawValue) (k : HasKey number code rest (drop size rest)) → length k.key ≡ size → IsValueAt (at + size) (drop size rest) code v → IsValueOf at rest number code v
value_of at number rest size code None k l h = h
value_of at number rest size code (Some v) k l h =
    let there : HasKey number (wire_code v.wire) rest (drop size rest) = record {
      key = k.key;
      whole = k.whole;
      wire_is = code_low v.wire;
      key_is = subst (λ (c : ℕ). KeySpelling number c k.key) h.0 k.key_is;
    } in
    (h.0, spelled_there at number rest size v.wire v.value v.next there l h.1)

pub field_there : (at : ℕ) (bytes : List ℕ) (key size : ℕ) (v : Option RawValue) → IsVarintAt (drop at bytes) key size → IsValueAt (at + size) (drop (at + size) bytes) (key % 8) v → IsFieldAt at (drop at bytes) (record { number = key / 8; value = v })
unfolding key_there
field_there at bytes key size v k h =
    let rest = drop at bytes in
    let after : drop (at + size) bytes ≡ drop size rest = sym (drop-drop size at bytes) in
    let has = subst (λ (t : List ℕ). IsValueAt (at + size) t (key % 8) v) after h in
    record {
      wire = key % 8;
      field = record { after = drop size rest; has_key = key_there rest key size k; has_value = value_has (at + size) (drop size rest) (key % 8) v has };
      value_is = value_of at (key / 8) rest size (key % 8) v (key_there rest key size k) (length-take-le size rest k.inside) has;
    }

fault_in : (rest : List ℕ) (key size : ℕ) (e : ReadFault) → IsVarintAt rest key size → IsValueFault e (key % 8) (drop size rest) → IsFieldFault e rest
fault_in rest key size Short k h = inr (key / 8, key % 8, drop size rest, key_there rest key size k, h)
fault_in rest key size Bad k h = inr (key / 8, key % 8, drop size rest, key_there rest key size k, h)

pub fault_there : (at : ℕ) (bytes : List ℕ) (key size : ℕ) (e : ReadFault) → IsVarintAt (drop at bytes) key size → IsValueFault e (key % 8) (drop (at + size) bytes) → IsFieldFault e (drop at bytes)
fault_there at bytes key size e k h = fault_in (drop at bytes) key size e k (subst (λ (t : List ℕ). IsValueFault e (key % 8) t) (sym (drop-drop size at bytes)) h)

-- ---- one of the three holds of a value

cut_bad : (w : Wire) (after : List ℕ) → (wire_type w).cut after → (wire_type w).bad after → ⊥
cut_bad Varint after s b = short_bad after s b
cut_bad Fixed32 after s b = absurd b
cut_bad Bytes after (inl h) b = short_bad after h b
cut_bad Bytes after (inr h) b = bad_number h.amount h.size h.content after b h.size_is h.whole

cut_whole : (w : Wire) (after : List ℕ) → (wire_type w).cut after → (wire_type w).whole after → ⊥
cut_whole Varint after s h = short_number h.amount h.front h.rest after s h.amount_is h.whole
cut_whole Fixed32 after s h = omega arith
cut_whole Bytes after (inl e) h = short_number h.amount h.size h.content after e h.size_is h.whole
cut_whole Bytes after (inr e) h =
    let same = one_number e.amount h.amount e.size h.size e.content h.content e.size_is h.size_is (sym e.whole ∙ h.whole) in
    let amounts : e.amount ≡ h.amount = same.0 in
    let contents : length e.content ≡ length h.content = ap length same.2 in
    omega (arith, e.fewer, h.enough)

bad_whole : (w : Wire) (after : List ℕ) → (wire_type w).bad after → (wire_type w).whole after → ⊥
bad_whole Varint after b h = bad_number h.amount h.front h.rest after b h.amount_is h.whole
bad_whole Fixed32 after b h = absurd b
bad_whole Bytes after b h = bad_number h.amount h.size h.content after b h.size_is h.whole

value_short_bad : (code : ℕ) (after : List ℕ) → EndsInValue code after → HasBadValue code after → ⊥
value_short_bad code after s b = cut_bad s.0 after s.2 (subst (λ (w : Wire). (wire_type w).bad after) (same_code b.0 s.0 (sym b.1 ∙ s.1)) b.2)

value_short_has : (code : ℕ) (after : List ℕ) → EndsInValue code after → HasValue code after → ⊥
value_short_has code after s (inl h) = cut_whole s.0 after s.2 (subst (λ (w : Wire). (wire_type w).whole after) (same_code h.0 s.0 (sym h.1 ∙ s.1)) h.2)
value_short_has code after s (inr none) = none s.0 s.1

value_bad_has : (code : ℕ) (after : List ℕ) → HasBadValue code after → HasValue code after → ⊥
value_bad_has code after b (inl h) = bad_whole b.0 after b.2 (subst (λ (w : Wire). (wire_type w).whole after) (same_code h.0 b.0 (sym h.1 ∙ b.1)) h.2)
value_bad_has code after b (inr none) = none b.0 b.1

-- ---- and of a field

keys : (m n v w : ℕ) (rest a b : List ℕ) → HasKey m v rest a → HasKey n w rest b → (m ≡ n) × (v ≡ w) × (a ≡ b)
keys m n v w rest a b p q =
    let same = one_key m n v w p.key q.key a b p.wire_is q.wire_is p.key_is q.key_is (sym p.whole ∙ q.whole) in
    (same.0, same.1, same.3)

short_key : (n w : ℕ) (rest after : List ℕ) → EndsInside rest → HasKey n w rest after → ⊥
short_key n w rest after s k = short_number (n * 8 + w) k.key after rest s k.key_is k.whole

bad_key : (n w : ℕ) (rest after : List ℕ) → IsBadVarint rest → HasKey n w rest after → ⊥
bad_key n w rest after b k = bad_number (n * 8 + w) k.key after rest b k.key_is k.whole

-- a fact of the value behind one key is one of the value behind another
carried : (P : ℕ → List ℕ → Type 0) (m n v w : ℕ) (rest a b : List ℕ) → HasKey m v rest a → HasKey n w rest b → P v a → P w b
carried P m n v w rest a b p q h =
    let same = keys m n v w rest a b p q in
    subst (λ (t : List ℕ). P w t) same.2 (subst (λ (x : ℕ). P x a) same.1 h)

pub read_short_bad : (rest : List ℕ) → IsShort rest → HasBadVarint rest → ⊥
read_short_bad rest (inl s) (inl b) = short_bad rest s b
read_short_bad rest (inl s) (inr b) = short_key b.0 b.1 rest b.2 s b.3
read_short_bad rest (inr s) (inl b) = bad_key s.0 s.1 rest s.2 b s.3
read_short_bad rest (inr s) (inr b) = value_short_bad b.1 b.2 (carried EndsInValue s.0 b.0 s.1 b.1 rest s.2 b.2 s.3 b.3 s.4) b.4

pub read_short_field : (rest : List ℕ) (n w : ℕ) → IsShort rest → HasField n w rest → ⊥
read_short_field rest n w (inl s) f = short_key n w rest f.after s f.has_key
read_short_field rest n w (inr s) f = value_short_has w f.after (carried EndsInValue s.0 n s.1 w rest s.2 f.after s.3 f.has_key s.4) f.has_value

pub read_bad_field : (rest : List ℕ) (n w : ℕ) → HasBadVarint rest → HasField n w rest → ⊥
read_bad_field rest n w (inl b) f = bad_key n w rest f.after b f.has_key
read_bad_field rest n w (inr b) f = value_bad_has w f.after (carried HasBadValue b.0 n b.1 w rest b.2 f.after b.3 f.has_key b.4) f.has_value

pub read_one_field : (rest : List ℕ) (m n v w : ℕ) → HasField m v rest → HasField n w rest → (m ≡ n) × (v ≡ w)
read_one_field rest m n v w f g = let same = keys m n v w rest f.after g.after f.has_key g.has_key in (same.0, same.1)

-- a spelled field is a whole one
pub spelled_has : (at number : ℕ) (w : Wire) (v : Value) (front behind rest : List ℕ) → ValueSpelling at number w v front → rest ≡ front ++ behind → HasField number (wire_code w) rest
spelled_has at number Varint (Number n) front behind rest p e = record {
  after = p.amount ++ behind;
  has_key = record { key = p.key; whole = e ∙ ap (λ (t : List ℕ). t ++ behind) p.whole ∙ append_assoc p.key p.amount behind; wire_is = omega arith; key_is = p.key_is };
  has_value = inl (Varint, refl, record { amount = n; front = p.amount; rest = behind; whole = refl; amount_is = p.amount_is });
}
spelled_has at number Varint (Place start end) front behind rest p e = absurd p
spelled_has at number Bytes (Number n) front behind rest p e = absurd p
spelled_has at number Bytes (Place start end) front behind rest p e = record {
  after = p.size ++ (p.content ++ behind);
  has_key = record {
    key = p.key;
    whole = e ∙ ap (λ (t : List ℕ). t ++ behind) p.whole ∙ append_assoc p.key (p.size ++ p.content) behind ∙ ap (λ (t : List ℕ). p.key ++ t) (append_assoc p.size p.content behind);
    wire_is = omega arith;
    key_is = p.key_is;
  };
  has_value = inl (Bytes, refl, record { amount = length p.content; size = p.size; content = p.content ++ behind; whole = refl; size_is = p.size_is; enough = omega (arith, length-append p.content behind) });
}
spelled_has at number Fixed32 (Number n) front behind rest p e = record {
  after = to_le_bytes w32 n ++ behind;
  has_key = record { key = p.key; whole = e ∙ ap (λ (t : List ℕ). t ++ behind) p.whole ∙ append_assoc p.key (to_le_bytes w32 n) behind; wire_is = omega arith; key_is = p.key_is };
  has_value = inl (Fixed32, refl, omega (arith, length-append (to_le_bytes w32 n) behind));
}
spelled_has at number Fixed32 (Place start end) front behind rest p e = absurd p
