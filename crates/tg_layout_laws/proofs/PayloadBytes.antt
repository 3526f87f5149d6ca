-- A message consists of bytes, and so do the bits of a shard.
use Rattle.std.proofs.Common.{◌≡◌, ◌<◌, ◌-◌, ◌+◌, ◌/◌, ◌%◌, ℕ, List, [], ◌∷◌, ◌++◌, length, inl, inr, refl, sym, subst, arith}
use Rattle.std.proofs.lemmas.Bool.{cond_both}
use Rattle.std.proofs.lemmas.List.Elements.{All-append, All-drop, All-from_recursion, All-nil, All-take}
use Rattle.std.specs.Int.{to_le_bytes, w32}
use Rattle.std.specs.Prelude.{All, drop, ◌==◌}
use Rattle.tg_pbtable.specs.Message.{Spelled, ValueSpelling}
use Rattle.tg_pbtable.specs.Values.{bytes_at, bytes_in}
use Rattle.tg_pbtable.specs.declared.table.Field.{Field}
use Rattle.tg_pbtable.specs.declared.table.Wire.{Wire}
use Rattle.tg_pbtable.specs.declared.table.Wire.TheVariants.{Varint, Bytes, Fixed32}
use Rattle.tg_pbtable.specs.declared.table.Value.{Value}
use Rattle.tg_pbtable.specs.declared.table.Value.TheVariants.{Number, Place}
use Rattle.tg_unixfs.specs.Unix.{UnixText}
use Rattle.tg_model.specs.ImportLayout.{shard_unix}
use Rattle.tg_layout_laws.proofs.Sets.{Among, among_cases}

abbrev AreBytes : List ℕ → Type 0
AreBytes bytes = All (λ b. b < 256) bytes

joined : (xs ys whole : List ℕ) → whole ≡ xs ++ ys → AreBytes xs → AreBytes ys → AreBytes whole
joined xs ys whole e h k = subst AreBytes (sym e) (All-append (λ b. b < 256) xs ys h k)

-- ---- the text of a message

low_byte : (x : ℕ) → x % 256 < 256
low_byte x = omega arith

four_bytes : (n : ℕ) → AreBytes (to_le_bytes w32 n)
four_bytes n = All-from_recursion (λ b. b < 256) (to_le_bytes w32 n) (low_byte n, (low_byte (n / 256), (low_byte (n / 65536), (low_byte (n / 16777216), tt))))

value_text : (at number : ℕ) (wire : Wire) (value : Value) (text : List ℕ) → ValueSpelling at number wire value text → AreBytes text
value_text at number Varint (Place start end) text h = absurd h
value_text at number Bytes (Number n) text h = absurd h
value_text at number Fixed32 (Place start end) text h = absurd h
value_text at number Fixed32 (Number n) text h = joined h.key (to_le_bytes w32 n) text h.whole h.key_is.groups.are_bytes (four_bytes n)
value_text at number Varint (Number n) text h =
    joined h.key h.amount text h.whole h.key_is.groups.are_bytes h.amount_is.groups.are_bytes
value_text at number Bytes (Place start end) text h =
    let behind = joined h.size h.content (h.size ++ h.content) refl h.size_is.groups.are_bytes h.are_bytes in
    joined h.key (h.size ++ h.content) text h.whole h.key_is.groups.are_bytes behind

message_text : (at : ℕ) (fields : List Field) (text : List ℕ) → Spelled at fields text → AreBytes text
message_text at [] text h = subst AreBytes (sym h) (All-nil (λ b. b < 256))
message_text at (field ∷ fields) text h =
    let front = value_text at field.number field.wire field.value h.0 h.3 in
    let rest = message_text (at + length h.0) fields h.1 h.4 in
    joined h.0 h.1 text h.2 front rest

-- ---- what its fields hold

value_bytes : (text : List ℕ) (value : Value) (x : List ℕ) → AreBytes text → Among x (bytes_in text value) → AreBytes x
value_bytes text (Number n) x h m = absurd m
value_bytes text (Place start end) x h (inl e) =
    let behind = All-drop (λ b. b < 256) start text h in
    subst AreBytes e (All-take (λ b. b < 256) (end - start) (drop start text) behind)
value_bytes text (Place start end) x h (inr never) = absurd never

field_bytes : (text : List ℕ) (number : ℕ) (fields : List Field) (x : List ℕ) → AreBytes text
    → Among x (bytes_at text number fields) → AreBytes x
field_bytes text number [] x h m = absurd m
field_bytes text number (field ∷ fields) x h m =
    cond_both (field.number == number) (bytes_in text field.value ++ bytes_at text number fields)
    (bytes_at text number fields) (λ xs. Among x xs → AreBytes x)
    (λ _ k. elim (among_cases x (bytes_in text field.value) (bytes_at text number fields) k) [
      | inl left ↦ value_bytes text field.value x h left
      | inr right ↦ field_bytes text number fields x h right
    ])
    (λ _ k. field_bytes text number fields x h k) m

-- the bits of a shard
pub bits_bytes : (bits payload : List ℕ) → UnixText (shard_unix bits) payload → AreBytes bits
bits_bytes bits payload h =
    let text = message_text 0 h.fields payload h.message.spelled in
    field_bytes payload 2 h.fields bits text (subst (Among bits) (sym h.parts.inline) (inl refl))
