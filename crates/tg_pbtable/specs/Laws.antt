-- What follows from the definitions of tables, messages and values, in plain words for those who call this crate.
use Rattle.std.specs.Prelude.{◌≡◌, ◌≢◌, ℕ, ◌+◌, ◌<◌, ◌≤◌, ◌↔◌, Option, Some, None, unwrap_or, List, [], ◌∷◌, ◌++◌}
use Rattle.std.specs.Prelude.{length, slice_range, All, Bool, true, nat_lt, ◌&&◌, Ok, Err}
use Rattle.tg_pbtable.specs.declared.table.Rule.{Rule}
use Rattle.tg_pbtable.specs.declared.table.Wire.TheVariants.{Varint, Bytes}
use Rattle.tg_pbtable.specs.declared.table.Order.{Order}
use Rattle.tg_pbtable.specs.declared.table.Order.TheVariants.{Ascending}
use Rattle.tg_pbtable.specs.declared.table.Field.{Field}
use Rattle.tg_pbtable.specs.declared.fault.PbFault.{PbFault}
use Rattle.tg_pbtable.specs.Message.{Message, IsTable, Spelled, HasRule, AreRuled, IsCount, IsInOrder, count_of}
use Rattle.tg_pbtable.specs.Message.{numbers_of}
use Rattle.tg_pbtable.specs.Faults.{HasCause, place_of}
use Rattle.tg_pbtable.specs.Emitted.{AreSameFields, FieldTexts}
use Rattle.tg_pbtable.specs.Values.{number_in, bytes_in, numbers_at, bytes_at, listed, later, HasSameValues, IsSameFor}
use Rattle.tg_pbtable.specs.Computed.{fields_of, first_of}

-- the numbers rise from above `low`, and are below 2 ^ 29
abbrev pub rises_from : ℕ → List Rule → Bool
rises_from low [] = true
rises_from low (r ∷ rs) = nat_lt low r.number && (nat_lt r.number 536870912 && rises_from r.number rs)

-- a text is of one list of fields; it is a message or has one cause of a fault; and fields have one text
pub record MessageLaws : Type 0 where
  -- rules whose numbers rise are a table
  pub table : (rules : List Rule) → rises_from 0 rules ≡ true → IsTable rules
  pub one_reading : (at : ℕ) (text : List ℕ) (a b : List Field) → Spelled at a text → Spelled at b text → a ≡ b
  pub one_cause : (rules : List Rule) (order : Order) (text : List ℕ) (a b : PbFault) → IsTable rules
      → HasCause rules order text a → HasCause rules order text b → a ≡ b
  pub no_cause : (rules : List Rule) (order : Order) (text : List ℕ) (fields : List Field) (fault : PbFault)
      → IsTable rules
      → Message rules order text fields → HasCause rules order text fault → ⊥
  -- a fault lies in the text
  pub place : (rules : List Rule) (order : Order) (text : List ℕ) (fault : PbFault) → HasCause rules order text fault
      → place_of fault ≤ length text
  -- what is computed of a text of bytes
  pub computed : (rules : List Rule) (order : Order) (text : List ℕ) (fields : List Field) → IsTable rules
      → All (λ b. b < 256) text → (fields_of rules order text ≡ Ok fields) ↔ Message rules order text fields
  pub computed_fault : (rules : List Rule) (order : Order) (text : List ℕ) (fault : PbFault) → IsTable rules
      → All (λ b. b < 256) text → (fields_of rules order text ≡ Err fault) ↔ HasCause rules order text fault
  pub one_text : (s t : List ℕ) (a b : List Field) → Spelled 0 a s → Spelled 0 b t → AreSameFields s a t b → s ≡ t
  -- messages with the same values of each number are one text
  pub ascending : (rules : List Rule) (s t : List ℕ) (a b : List Field) → IsTable rules → Message rules Ascending s a
      → Message rules Ascending t b → HasSameValues s a t b → s ≡ t
  pub any_order : (rules : List Rule) (order : Order) (s t : List ℕ) (a b : List Field) → IsTable rules
      → Message rules order s a → Message rules order t b → numbers_of a ≡ numbers_of b → HasSameValues s a t b → s ≡ t

-- the values of each number: of fields one behind another, how many there are, and of two texts
pub record ValueLaws : Type 0 where
  pub numbers_append : (n : ℕ) (xs ys : List Field) → numbers_at n (xs ++ ys) ≡ numbers_at n xs ++ numbers_at n ys
  pub bytes_append : (text : List ℕ) (n : ℕ) (xs ys : List Field)
      → bytes_at text n (xs ++ ys) ≡ bytes_at text n xs ++ bytes_at text n ys
  pub numbers_here : (n : ℕ) (f : Field) (fs : List Field) → f.number ≡ n
      → numbers_at n (f ∷ fs) ≡ number_in f.value ++ numbers_at n fs
  pub bytes_here : (text : List ℕ) (n : ℕ) (f : Field) (fs : List Field) → f.number ≡ n
      → bytes_at text n (f ∷ fs) ≡ bytes_in text f.value ++ bytes_at text n fs
  pub bytes_other : (text : List ℕ) (n : ℕ) (f : Field) (fs : List Field) → f.number ≢ n
      → bytes_at text n (f ∷ fs) ≡ bytes_at text n fs
  pub no_numbers : (n : ℕ) (fs : List Field) → All (λ f. f.number ≡ n → number_in f.value ≡ []) fs
      → numbers_at n fs ≡ []
  pub no_bytes : (text : List ℕ) (n : ℕ) (fs : List Field) → All (λ f. f.number ≡ n → bytes_in text f.value ≡ []) fs
      → bytes_at text n fs ≡ []
  -- a field has one value, and under a table one of its rule's wire type
  pub count : (text : List ℕ) (n : ℕ) (fs : List Field)
      → length (numbers_at n fs) + length (bytes_at text n fs) ≡ count_of fs n
  pub all_numbers : (rules : List Rule) (n : ℕ) (fs : List Field) → IsTable rules → HasRule rules n Varint
      → AreRuled rules fs → length (numbers_at n fs) ≡ count_of fs n
  pub all_bytes : (rules : List Rule) (text : List ℕ) (n : ℕ) (fs : List Field) → IsTable rules → HasRule rules n Bytes
      → AreRuled rules fs → length (bytes_at text n fs) ≡ count_of fs n
  -- the same fields have the same values, and those of each rule are all
  pub same : (s t : List ℕ) (a b : List Field) → AreSameFields s a t b → HasSameValues s a t b
  pub by_rules : (rules : List Rule) (s t : List ℕ) (a b : List Field) → IsTable rules → AreRuled rules a
      → AreRuled rules b
      → All (λ rule. IsSameFor s a t b rule.number rule.wire) rules → HasSameValues s a t b

-- the last of some values, and the first
pub record LastLaws (A : Type 0) : Type 0 where
  pub later_more : (before mid now : Option A) (xs ys zs : List A) → zs ≡ xs ++ ys → mid ≡ later before xs
      → now ≡ later mid ys
      → now ≡ later before zs
  pub at_most_one : (xs : List A) (one : Option A) → length xs ≤ 1 → one ≡ later None xs → xs ≡ listed one
  pub exactly_one : (before : A) (xs : List A) (one : A) → length xs ≡ 1 → Some one ≡ later (Some before) xs
      → xs ≡ one ∷ []
  -- the first of them, where there is one at most, or just one
  pub first_listed : (xs : List A) → length xs ≤ 1 → xs ≡ listed (first_of xs)
  pub first_alone : (other : A) (xs : List A) → length xs ≡ 1 → xs ≡ unwrap_or (first_of xs) other ∷ []
  pub listed_same : (a b : Option A) → listed a ≡ listed b → a ≡ b

-- what is written for fields, wherever it stands
pub record WritingLaws : Type 0 where
  pub append : (source : List ℕ) (xs ys : List Field) (s t : List ℕ) → FieldTexts source xs s → FieldTexts source ys t
      → FieldTexts source (xs ++ ys) (s ++ t)
  pub are_bytes : (source : List ℕ) (fields : List Field) (text : List ℕ) → FieldTexts source fields text
      → All (λ b. b < 256) text
  -- where the table, the counts and the order allow the fields, it is a message of them, at their places in it
  pub message : (rules : List Rule) (order : Order) (source : List ℕ) (fields : List Field) (text : List ℕ)
      → AreRuled rules fields
      → All (λ rule. IsCount rule.times (count_of fields rule.number)) rules → IsInOrder order (numbers_of fields)
      → FieldTexts source fields text → (placed : List Field) × Message rules order text placed × AreSameFields source fields text placed

-- all of them, as a caller hands them to its lemmas
pub record TableLaws : Type 0 where
  pub messages : MessageLaws
  pub values : ValueLaws
  pub last_number : LastLaws ℕ
  pub last_bytes : LastLaws (List ℕ)
  pub writing : WritingLaws

-- places in a part of a text
pub record PlaceLaws : Type 0 where
  -- the bytes at a place of a part, as bytes of the whole text
  pub in_part : (text : List ℕ) (start end from to : ℕ) → start ≤ end → end ≤ length text → from ≤ to
      → to ≤ length (slice_range text start end)
      → slice_range text (start + from) (start + to) ≡ slice_range (slice_range text start end) from to
