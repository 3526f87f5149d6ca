-- A parse of words and the readings of these words.
use Rattle.std.proofs.Common.{◌≡◌, ◌≢◌, ℕ, List, [], ◌∷◌, ◌++◌, codes, Bool, true, false, refl, sym, ap, ap₂, ◌∙◌, subst, append_assoc, true≢false, cond, ◌==◌, inl, inr, Option, Some, None}
use Rattle.std.specs.Prelude.{⊤, Contains}
use Rattle.std.specs.Option.{option_map_or}
use Rattle.std.specs.List.{list_any}
use Rattle.std.specs.Str.{bytes_eq, IsUtf8}
use Rattle.std.proofs.lemmas.List.{append-nil}
use Rattle.clap.specs.Lexer.{long_of, short_of}
use Rattle.clap.specs.Kinds.{or_else}
use Rattle.clap.specs.Walk.{Row, Rule, Text, Waiting, Walk, idle, option, value, arg_by_long, has_row, plain_word, used, used_by_id}
use Rattle.clap.specs.Walk.{positional as positional_waits}
use Rattle.clap.specs.Faults.{long_fault, use_fault}
use Rattle.clap.specs.declared.builder.action.ArgAction.TheVariants.{Set, SetTrue}
use Rattle.clap.specs.declared.error.kind.ErrorKind.TheVariants as kind
use Rattle.tg_words.specs.Words.{Names, Given, IsPlain, Reading, StandOnce}
use Rattle.tg_words.specs.Parsing.{value_in}
use Rattle.tg_words.proofs.Naming.{among_passes, any_among, bytes_same}
use Rattle.tg_words.proofs.Once.{once_more, once_none, stands_twice}
use Rattle.tg_words.proofs.Readings.{AreNames, assigned, named, end_reading, moves_assigned, moves_flag, moves_named, moves_plain, no_assigned, no_dashes, no_named, not_plain, nothing, Moves, LacksEquals, HasNoReading}
use Rattle.tg_words.proofs.Rules.{args_for, id_valued, is_of, of_flag, of_none, of_valued, option_arg}
use Rattle.tg_words.proofs.Rows.{Ends, Holds, ends_of, flag_row, given_row, one_option, one_word_more, row_given, used_flag, used_valued, valued_row}
use Rattle.tg_words.proofs.Shapes.{WordIs, dashes, is_end, is_long, is_plain, is_short, word_is, written}
use Rattle.tg_words.proofs.Turns.{Turns, end_turn, ended, fault_plain, flag_use, held, long_front, long_turn, met_plain, none_left, pending_fault, resting, rows_with, short_front, stand, total, value_turn, valued_use, word_front, word_turn, first_nil}

-- the words are UTF-8
abbrev pub AreTexts : List Text → Type 0
AreTexts [] = ⊤
AreTexts (word ∷ words) = IsUtf8 word × AreTexts words

-- a parse passes and holds a reading behind what was held, or it fails and no reading is one of options that stand once
pub data Outcome (names : Names) (w : Walk) (words positional : List Text) (options : List Given) : Type 0 where
  passes : (later : List Text) (others : List Given) → total names w words ≡ [] → Reading names words later others → StandOnce (options ++ others)
      → Ends names.flags (ended names w words) (positional ++ later) (options ++ others) → Outcome names w words positional options
  fails : (total names w words ≡ [] → ⊥) → ((all : List Text) (every : List Given) → Reading names words all every → StandOnce (options ++ every) → ⊥)
      → Outcome names w words positional options

onward : (names : Names) (w v : Walk) (words rest p positional : List Text) (o options : List Given) → Turns names w words v rest → Moves names words p o rest
    → Outcome names v rest (positional ++ p) (options ++ o) → Outcome names w words positional options
onward names w v words rest p positional o options t m (passes later others none r once ends) =
    passes (p ++ later) (o ++ others) (t.total_is ∙ none) (m.onto later others r) (subst StandOnce (append_assoc options o others) once)
    (subst (λ rows. Ends names.flags rows (positional ++ (p ++ later)) (options ++ (o ++ others))) (sym t.ended_is)
    (subst (λ ps. Ends names.flags (ended names v rest) ps (options ++ (o ++ others))) (append_assoc positional p later)
    (subst (λ os. Ends names.flags (ended names v rest) ((positional ++ p) ++ later) os) (append_assoc options o others) ends)))
onward names w v words rest p positional o options t m (fails bad never) = fails
    (λ none. bad (sym t.total_is ∙ none))
    (λ all every r once.
    let q = m.only all every r in
    never q.later q.others q.reading (subst StandOnce (sym (append_assoc options o q.others)) (subst (λ e. StandOnce (options ++ e)) q.options_are once)))

two_turns : (names : Names) (w v u : Walk) (words rest more : List Text) → Turns names w words v rest → Turns names v rest u more → Turns names w words u more
two_turns names w v u words rest more s t = record { total_is = s.total_is ∙ t.total_is; ended_is = s.ended_is ∙ t.ended_is }

unread : (names : Names) (w : Walk) (words positional : List Text) (options : List Given) → (total names w words ≡ [] → ⊥) → HasNoReading names words → Outcome names w words positional options
unread names w words positional options bad never = fails bad (λ all every r once. never all every r)

-- what holds at each place where no option waits
abbrev Again : Names → List Text → Type 0
Again names words = (b : Bool) (rows : List Row) (pending : Option (Text × List Text)) (positional : List Text) (options : List Given) → pending_fault names rows pending ≡ []
    → Holds names.flags (rows_with names rows pending) positional options → StandOnce options → Outcome names (stand (resting b) false rows pending) words positional options

at_nothing : (names : Names) → Again names []
at_nothing names b rows pending positional options none h once =
    passes [] [] (none_left names (stand (resting b) false rows pending) ∙ none) (nothing names) (subst StandOnce (sym (append-nil options)) once)
    (subst (λ ps. Ends names.flags (rows_with names rows pending) ps (options ++ [])) (sym (append-nil positional))
    (subst (λ os. Ends names.flags (rows_with names rows pending) positional os) (sym (append-nil options)) (ends_of names.flags (rows_with names rows pending) positional options h)))

-- ---- behind `--`

late_passes : (names : Names) (waiting : Waiting) (late : List Text) (rows : List Row) (pending : Option (Text × List Text)) (positional : List Text) (options : List Given)
    → pending_fault names rows pending ≡ [] → Holds names.flags (rows_with names rows pending) positional options
    → (total names (stand waiting true rows pending) late ≡ []) × Ends names.flags (ended names (stand waiting true rows pending) late) (positional ++ late) options
late_passes names waiting [] rows pending positional options none h = (
  none_left names (stand waiting true rows pending) ∙ none,
  subst (λ ps. Ends names.flags (rows_with names rows pending) ps options) (sym (append-nil positional)) (ends_of names.flags (rows_with names rows pending) positional options h),
)
late_passes names waiting (word ∷ rest) rows pending positional options none h =
    let t = word_turn names waiting true rows pending word refl refl rest none in
    let q = late_passes names positional_waits rest (rows_with names rows pending) (Some ([], word ∷ [])) (positional ++ word ∷ []) options refl
    (one_word_more names.flags (rows_with names rows pending) positional options word h) in (
      t.total_is ∙ q.0,
      subst (λ rs. Ends names.flags rs (positional ++ (word ∷ rest)) options) (sym t.ended_is)
          (subst (λ ps. Ends names.flags (ended names (stand positional_waits true (rows_with names rows pending) (Some ([], word ∷ []))) rest) ps options) (append_assoc positional (word ∷ []) rest) q.1),
    )

late_settles : (names : Names) (waiting : Waiting) (late : List Text) (rows : List Row) (pending : Option (Text × List Text))
    → total names (stand waiting true rows pending) late ≡ [] → pending_fault names rows pending ≡ []
late_settles names waiting [] rows pending none = sym (none_left names (stand waiting true rows pending)) ∙ none
late_settles names waiting (word ∷ rest) rows pending none = word_front names waiting true rows pending word refl refl rest none

at_end : (names : Names) (b : Bool) (rows : List Row) (pending : Option (Text × List Text)) (word : Text) (rest positional : List Text) (options : List Given) → word ≡ dashes
    → pending_fault names rows pending ≡ [] → Holds names.flags (rows_with names rows pending) positional options → StandOnce options
    → Outcome names (stand (resting b) false rows pending) (word ∷ rest) positional options
at_end names b rows pending word rest positional options at none h once =
    let t = end_turn names (resting b) rows pending word (ap (λ t. bytes_eq t dashes) at ∙ bytes_same dashes) rest in
    let q = late_passes names (resting b) rest rows pending positional options none h in
    passes rest [] (t.total_is ∙ q.0) (end_reading names word rest at) (subst StandOnce (sym (append-nil options)) once)
    (subst (λ rs. Ends names.flags rs (positional ++ rest) (options ++ [])) (sym t.ended_is)
    (subst (λ os. Ends names.flags (ended names (stand (resting b) true rows pending) rest) (positional ++ rest) os) (sym (append-nil options)) q.1))

-- ---- a parse that passes has no fault in what is pending

abbrev Takes : Names → Waiting → List Row → Option (Text × List Text) → List Text → Type 0
Takes names waiting rows pending words = (word : Text) (rest : List Text) → words ≡ word ∷ rest → IsPlain word
    → plain_word (args_for names) waiting word (held rows pending) ≡ (held rows pending, value)

valued_front : (names : Names) (rows : List Row) (pending : Option (Text × List Text)) (name : Text) (v : Option Text)
    → long_fault (args_for names) false (Some (option_arg Set name)) v (held rows pending) ≡ [] → pending_fault names rows pending ≡ []
valued_front names rows pending name (Some v) none = first_nil (pending_fault names rows pending) _ none
valued_front names rows pending name None none = none

flag_front : (names : Names) (rows : List Row) (pending : Option (Text × List Text)) (name : Text) (v : Option Text)
    → long_fault (args_for names) false (Some (option_arg SetTrue name)) v (held rows pending) ≡ [] → pending_fault names rows pending ≡ []
flag_front names rows pending name (Some v) none = absurd (let bad : kind.TooManyValues ∷ [] ≡ [] = none in cc)
flag_front names rows pending name None none = first_nil (pending_fault names rows pending) _ none

unknown : {X : Type 0} → kind.UnknownArgument ∷ [] ≡ [] → X
unknown bad = absurd (cc)

settles : (names : Names) (waiting : Waiting) (rows : List Row) (pending : Option (Text × List Text)) (words : List Text) → AreTexts words → Takes names waiting rows pending words
    → total names (stand waiting false rows pending) words ≡ [] → pending_fault names rows pending ≡ []
settles names waiting rows pending [] texts takes none = sym (none_left names (stand waiting false rows pending)) ∙ none
settles names waiting rows pending (word ∷ rest) texts takes none = elim (word_is word texts.0) [
  | is_end at ↦
      let t = end_turn names waiting rows pending word (ap (λ t. bytes_eq t dashes) at ∙ bytes_same dashes) rest in
      late_settles names waiting rest rows pending (sym t.total_is ∙ none)
  | is_long name v other long at lack ↦ elim (is_of names name) [
    | of_valued among look ↦ valued_front names rows pending name v (long_front names waiting rows pending word other name v (Some (option_arg Set name)) long look rest none)
    | of_flag among look ↦ flag_front names rows pending name v (long_front names waiting rows pending word other name v (Some (option_arg SetTrue name)) long look rest none)
    | of_none no_valued no_flag look ↦ unknown (long_front names waiting rows pending word other name v None long look rest none)
  ]
  | is_short y ys x other long short char at dash ↦ absurd (short_front names waiting rows pending word other y ys x long short char rest none)
  | is_plain plain other long short ↦
      word_front names waiting false rows pending word
      (met_plain names waiting rows pending word other long short ∙ takes word rest refl plain)
      (fault_plain names waiting rows pending word other long short) rest none
]

resting_takes : (names : Names) (b : Bool) (rows : List Row) (pending : Option (Text × List Text)) (words : List Text) → Takes names (resting b) rows pending words
resting_takes names true rows pending words = λ word rest is plain. refl
resting_takes names false rows pending words = λ word rest is plain. refl

-- ---- one more option

module _ (names : Names) (rows : List Row) (positional : List Text) (options : List Given) (h : Holds names.flags rows positional options) (name : Text) where
  once_new : has_row name rows ≡ false → (x : Option Text) → StandOnce options → StandOnce (options ++ (name, x) ∷ [])
  once_new new x once = once_more options (name, x) once (λ o among same.
      let there = given_row names.flags rows o (subst (λ os. Contains os o) (sym h.options_are) among) in
      true≢false (sym there ∙ ap (λ n. has_row n rows) same ∙ new))

  twice : has_row name rows ≡ true → name ≢ [] → (x : Option Text) (others : List Given) → StandOnce (options ++ ((name, x) ∷ others)) → ⊥
  twice there some x others once =
      let p = row_given names.flags rows name h.clean some there in
      stands_twice options others (name, x) p.0 (subst (λ os. Contains os p.0) h.options_are p.1) p.2 (subst StandOnce (sym (append_assoc options ((name, x) ∷ []) others)) once)

  no_twice : (x : Option Text) (words rest : List Text) → has_row name rows ≡ true → name ≢ [] → Moves names words [] ((name, x) ∷ []) rest
      → (all : List Text) (every : List Given) → Reading names words all every → StandOnce (options ++ every) → ⊥
  no_twice x words rest there some m all every r once =
      let q = m.only all every r in
      twice there some x q.others (subst (λ e. StandOnce (options ++ e)) q.options_are once)

not_any : (ns : List Text) (name : Text) → (Contains ns name → ⊥) → list_any (λ n. bytes_eq n name) ns ≡ false
not_any ns name absent = go (list_any (λ n. bytes_eq n name) ns) refl
  where
    go : (t : Bool) → list_any (λ n. bytes_eq n name) ns ≡ t → t ≡ false
    go true e = absurd (absent (any_among ns name e))
    go false e = refl

module _ (names : Names) (are : AreNames names) (rows : List Row) (positional : List Text) (options : List Given) (h : Holds names.flags rows positional options) (name : Text) where
  holds_flag : Contains names.flags name → has_row name rows ≡ false → Holds names.flags (used (option_arg SetTrue name) [] rows) (positional ++ []) (options ++ (name, None) ∷ [])
  holds_flag among new =
      let row_value : value_in names.flags (flag_row name) ≡ None =
      ap (λ b. cond b None (Some (codes "true"))) (among_passes (λ n. bytes_eq n name) names.flags name among (bytes_same name)) in
      let held_now = one_option names.flags rows positional options (flag_row name) h (are.flags_some name among) refl new in
      subst (λ rs. Holds names.flags rs (positional ++ []) (options ++ (name, None) ∷ [])) (sym (used_flag name rows new))
      (subst (λ ps. Holds names.flags (rows ++ flag_row name ∷ []) ps (options ++ (name, None) ∷ [])) (sym (append-nil positional))
      (subst (λ x. Holds names.flags (rows ++ flag_row name ∷ []) positional (options ++ (name, x) ∷ [])) row_value held_now))

  holds_valued : (v : Text) → Contains names.valued name → has_row name rows ≡ false → Holds names.flags (used (option_arg Set name) (v ∷ []) rows) (positional ++ []) (options ++ (name, Some v) ∷ [])
  holds_valued v among new =
      let row_value : value_in names.flags (valued_row name v) ≡ Some v =
      ap (λ b. cond b None (Some v)) (not_any names.flags name (λ flag. are.apart name among flag)) in
      let held_now = one_option names.flags rows positional options (valued_row name v) h (are.valued_some name among) refl new in
      subst (λ rs. Holds names.flags rs (positional ++ []) (options ++ (name, Some v) ∷ [])) (sym (used_valued name v rows new))
      (subst (λ ps. Holds names.flags (rows ++ valued_row name v ∷ []) ps (options ++ (name, Some v) ∷ [])) (sym (append-nil positional))
      (subst (λ x. Holds names.flags (rows ++ valued_row name v ∷ []) positional (options ++ (name, x) ∷ [])) row_value held_now))

conflict : {X : Type 0} → kind.ArgumentConflict ∷ [] ≡ [] → X
conflict bad = absurd (cc)

-- ---- one word at a place where no option waits

module _ (names : Names) (are : AreNames names) (b : Bool) (rows : List Row) (pending : Option (Text × List Text)) (positional : List Text) (options : List Given)
    (none : pending_fault names rows pending ≡ []) (h : Holds names.flags (rows_with names rows pending) positional options) (once : StandOnce options)
    (word : Text) (rest : List Text) (name : Text) (other : bytes_eq word dashes ≡ false) where
  at_flag_word : Contains names.flags name → arg_by_long (args_for names) name ≡ Some (option_arg SetTrue name) → long_of word ≡ Some (name, None) → word ≡ named name
      → Again names rest → Outcome names (stand (resting b) false rows pending) (word ∷ rest) positional options
  at_flag_word among look long at again = go (has_row name (rows_with names rows pending)) refl
    where
      go : (t : Bool) → has_row name (rows_with names rows pending) ≡ t → Outcome names (stand (resting b) false rows pending) (word ∷ rest) positional options
      go true e = fails
          (λ passed. conflict (sym (ap₂ or_else none (flag_use name (rows_with names rows pending) true e))
          ∙ long_front names (resting b) rows pending word other name None (Some (option_arg SetTrue name)) long look rest passed))
          (no_twice names (rows_with names rows pending) positional options h name None (word ∷ rest) rest e (are.flags_some name among) (moves_flag names name word rest are among at))
      go false e = onward names (stand (resting b) false rows pending) (stand idle false (used (option_arg SetTrue name) [] (rows_with names rows pending)) None) (word ∷ rest) rest [] positional ((name, None) ∷ []) options
          (long_turn names (resting b) rows pending word other name None (Some (option_arg SetTrue name)) long look
          (stand idle false (used (option_arg SetTrue name) [] (rows_with names rows pending)) None) rest
          (ap₂ or_else none (flag_use name (rows_with names rows pending) false e)) refl refl)
          (moves_flag names name word rest are among at)
          (again false (used (option_arg SetTrue name) [] (rows_with names rows pending)) None (positional ++ []) (options ++ (name, None) ∷ []) refl
          (holds_flag names are (rows_with names rows pending) positional options h name among e)
          (once_new names (rows_with names rows pending) positional options h name e None once))

  at_assigned_word : (v : Text) → Contains names.valued name → arg_by_long (args_for names) name ≡ Some (option_arg Set name) → long_of word ≡ Some (name, Some v) → word ≡ assigned name v
      → Again names rest → Outcome names (stand (resting b) false rows pending) (word ∷ rest) positional options
  at_assigned_word v among look long at again = go (has_row name (rows_with names rows pending)) refl
    where
      go : (t : Bool) → has_row name (rows_with names rows pending) ≡ t → Outcome names (stand (resting b) false rows pending) (word ∷ rest) positional options
      go true e = fails
          (λ passed. conflict (sym (ap₂ or_else none (valued_use name v (rows_with names rows pending) true e))
          ∙ long_front names (resting b) rows pending word other name (Some v) (Some (option_arg Set name)) long look rest passed))
          (no_twice names (rows_with names rows pending) positional options h name (Some v) (word ∷ rest) rest e (are.valued_some name among) (moves_assigned names name v word rest are among at))
      go false e = onward names (stand (resting b) false rows pending) (stand idle false (used (option_arg Set name) (v ∷ []) (rows_with names rows pending)) None) (word ∷ rest) rest [] positional ((name, Some v) ∷ []) options
          (long_turn names (resting b) rows pending word other name (Some v) (Some (option_arg Set name)) long look
          (stand idle false (used (option_arg Set name) (v ∷ []) (rows_with names rows pending)) None) rest
          (ap₂ or_else none (valued_use name v (rows_with names rows pending) false e)) refl refl)
          (moves_assigned names name v word rest are among at)
          (again false (used (option_arg Set name) (v ∷ []) (rows_with names rows pending)) None (positional ++ []) (options ++ (name, Some v) ∷ []) refl
          (holds_valued names are (rows_with names rows pending) positional options h name v among e)
          (once_new names (rows_with names rows pending) positional options h name e (Some v) once))

-- an option that waits for its value
module _ (names : Names) (are : AreNames names) (rows : List Row) (name : Text) (among : Contains names.valued name) where
  by_id : (values : List Text) → pending_fault names rows (Some (name, values)) ≡ use_fault false (option_arg Set name) values rows
  by_id values = ap (λ o. option_map_or (λ (a : Rule). use_fault false a values rows) o []) (id_valued names name (are.valued_some name among) among)

  waits_on : {X : Type 0} → pending_fault names rows (Some (name, [])) ≡ [] → X
  waits_on none = absurd (let bad : kind.InvalidValue ∷ [] ≡ [] = sym (by_id []) ∙ none in cc)

  rows_by_id : (v : Text) → rows_with names rows (Some (name, v ∷ [])) ≡ used (option_arg Set name) (v ∷ []) rows
  rows_by_id v = ap (λ o. used_by_id o (v ∷ []) rows) (id_valued names name (are.valued_some name among) among)

-- whether the next word may be a value
data Next (word : Text) : Type 0 where
  may_be : IsPlain word → bytes_eq word dashes ≡ false → long_of word ≡ None → short_of word ≡ None → Next word
  may_not : (IsPlain word → ⊥) → Next word

short_plain : (y : ℕ) (ys : List ℕ) → IsPlain (45 ∷ y ∷ ys) → ⊥
short_plain y ys (inl e) = cc
short_plain y ys (inr e) = true≢false e

next_of : (word : Text) → WordIs word → Next word
next_of word (is_end at) = may_not (λ plain. not_plain word [] at plain)
next_of word (is_long name (Some v) other long at lack) = may_not (λ plain. not_plain word (name ++ (codes "=" ++ v)) at plain)
next_of word (is_long name None other long at lack) = may_not (λ plain. not_plain word name at plain)
next_of word (is_short y ys x other long short char at dash) = may_not (λ plain. short_plain y ys (subst IsPlain at plain))
next_of word (is_plain plain other long short) = may_be plain other long short

abbrev tail : List Text → List Text
tail [] = []
tail (word ∷ words) = words

not_dashes : (name word : Text) → bytes_eq word dashes ≡ false → word ≡ named name → name ≢ []
not_dashes name word other at none = true≢false (sym (ap (λ t. bytes_eq t dashes) (at ∙ ap named none) ∙ bytes_same dashes) ∙ other)

module _ (names : Names) (are : AreNames names) (b : Bool) (rows : List Row) (pending : Option (Text × List Text)) (positional : List Text) (options : List Given)
    (none : pending_fault names rows pending ≡ []) (h : Holds names.flags (rows_with names rows pending) positional options) (once : StandOnce options)
    (word : Text) (name : Text) (other : bytes_eq word dashes ≡ false) (among : Contains names.valued name)
    (look : arg_by_long (args_for names) name ≡ Some (option_arg Set name)) (long : long_of word ≡ Some (name, None)) (at : word ≡ named name) (lack : LacksEquals name) where
  now : List Row
  now = rows_with names rows pending

  waits_turn : (rest : List Text) → Turns names (stand (resting b) false rows pending) (word ∷ rest) (stand (option name) false (rows_with names rows pending) (Some (name, []))) rest
  waits_turn rest = long_turn names (resting b) rows pending word other name None (Some (option_arg Set name)) long look
      (stand (option name) false (rows_with names rows pending) (Some (name, []))) rest none refl refl

  no_value_here : (words : List Text) → ((v : Text) (rest : List Text) → words ≡ v ∷ rest → IsPlain v → ⊥) → HasNoReading names (word ∷ words)
  no_value_here words never = subst (λ w. HasNoReading names (w ∷ words)) (sym at)
      (no_named names name words (not_dashes name word other at) lack (λ flag. are.apart name among flag) (λ v rest known is plain. never v rest is plain))

  at_value : (rest : List Text) → AreTexts rest → Again names (tail rest) → Outcome names (stand (resting b) false rows pending) (word ∷ rest) positional options
  at_value [] texts again = unread names (stand (resting b) false rows pending) (word ∷ []) positional options
      (λ passed. waits_on names are (rows_with names rows pending) name among (sym (none_left names (stand (option name) false (rows_with names rows pending) (Some (name, [])))) ∙ sym (waits_turn []).total_is ∙ passed))
      (no_value_here [] (λ v rest is plain. absurd (cc)))
  at_value (v ∷ rest) texts again = elim (next_of v (word_is v texts.0)) [
    | may_not never ↦ unread names (stand (resting b) false rows pending) (word ∷ v ∷ rest) positional options
        (λ passed. waits_on names are (rows_with names rows pending) name among
        (settles names (option name) (rows_with names rows pending) (Some (name, [])) (v ∷ rest) texts
        (λ w more is plain. absurd (never (let same : v ≡ w = cc in subst IsPlain (sym same) plain)))
        (sym (waits_turn (v ∷ rest)).total_is ∙ passed)))
        (no_value_here (v ∷ rest) (λ w more is plain. never (let same : v ≡ w = cc in subst IsPlain (sym same) plain)))
    | may_be plain v_other v_long v_short ↦
        let t = two_turns names _ _ _ _ _ _ (waits_turn (v ∷ rest))
        (value_turn names (rows_with names rows pending) name v rest v_other v_long v_short (id_valued names name (are.valued_some name among) among) (bytes_same name)) in
        let m = moves_named names name v word (v ∷ rest) rest are among at refl plain in
        go t m (has_row name (rows_with names rows pending)) refl
  ]
    where
      go : Turns names (stand (resting b) false rows pending) (word ∷ v ∷ rest) (stand idle false (rows_with names rows pending) (Some (name, v ∷ []))) rest
          → Moves names (word ∷ v ∷ rest) [] ((name, Some v) ∷ []) rest → (t : Bool) → has_row name (rows_with names rows pending) ≡ t
          → Outcome names (stand (resting b) false rows pending) (word ∷ v ∷ rest) positional options
      go t m true e = fails
          (λ passed. conflict (sym (by_id names are (rows_with names rows pending) name among (v ∷ []) ∙ valued_use name v (rows_with names rows pending) true e)
          ∙ settles names idle (rows_with names rows pending) (Some (name, v ∷ [])) rest texts.1 (resting_takes names false (rows_with names rows pending) (Some (name, v ∷ [])) rest) (sym t.total_is ∙ passed)))
          (no_twice names (rows_with names rows pending) positional options h name (Some v) (word ∷ v ∷ rest) rest e (are.valued_some name among) m)
      go t m false e = onward names (stand (resting b) false rows pending) (stand idle false (rows_with names rows pending) (Some (name, v ∷ []))) (word ∷ v ∷ rest) rest [] positional ((name, Some v) ∷ []) options t m
          (again false (rows_with names rows pending) (Some (name, v ∷ [])) (positional ++ []) (options ++ (name, Some v) ∷ [])
          (by_id names are (rows_with names rows pending) name among (v ∷ []) ∙ valued_use name v (rows_with names rows pending) false e)
          (subst (λ rs. Holds names.flags rs (positional ++ []) (options ++ (name, Some v) ∷ [])) (sym (rows_by_id names are (rows_with names rows pending) name among v))
          (holds_valued names are (rows_with names rows pending) positional options h name v among e))
          (once_new names (rows_with names rows pending) positional options h name e (Some v) once))

some_front : (name v : Text) → name ++ (61 ∷ v) ≢ []
some_front [] v e = cc
some_front (x ∷ name) v e = cc

-- ---- every word

module _ (names : Names) (are : AreNames names) (word : Text) (rest : List Text) (texts : AreTexts (word ∷ rest)) (again : Again names rest) (later : Again names (tail rest)) where
  at_word : Again names (word ∷ rest)
  at_word b rows pending positional options none h once = elim (word_is word texts.0) [
    | is_end at ↦ at_end names b rows pending word rest positional options at none h once
    | is_long name v other long at lack ↦ elim (is_of names name) [
      | of_valued among look ↦ valued_word v other name among look long at lack
      | of_flag among look ↦ flag_word v other name among look long at lack
      | of_none no_valued no_flag look ↦ unread names (stand (resting b) false rows pending) (word ∷ rest) positional options
          (λ passed. unknown (long_front names (resting b) rows pending word other name v None long look rest passed))
          (unknown_word v other name no_valued no_flag at lack)
    ]
    | is_short y ys x other long short char at dash ↦ unread names (stand (resting b) false rows pending) (word ∷ rest) positional options
        (λ passed. short_front names (resting b) rows pending word other y ys x long short char rest passed)
        (no_dashes names word rest (λ ends. true≢false (sym (ap (λ t. bytes_eq t dashes) ends ∙ bytes_same dashes) ∙ other))
        (λ plain. short_plain y ys (subst IsPlain at plain))
        (λ front is. true≢false (sym (let same : y ≡ 45 = let e : 45 ∷ y ∷ ys ≡ 45 ∷ 45 ∷ front = sym at ∙ is in cc in ap (λ t. t == 45) same) ∙ dash)))
    | is_plain plain other long short ↦
        let t = word_turn names (resting b) false rows pending word
        (met_plain names (resting b) rows pending word other long short ∙ resting_takes names b rows pending (word ∷ rest) word rest refl plain)
        (fault_plain names (resting b) rows pending word other long short) rest none in
        onward names (stand (resting b) false rows pending) (stand positional_waits false (rows_with names rows pending) (Some ([], word ∷ []))) (word ∷ rest) rest (word ∷ []) positional [] options t
        (moves_plain names word rest plain)
        (again true (rows_with names rows pending) (Some ([], word ∷ [])) (positional ++ word ∷ []) (options ++ []) refl
        (subst (λ os. Holds names.flags (rows_with names (rows_with names rows pending) (Some ([], word ∷ []))) (positional ++ word ∷ []) os) (sym (append-nil options))
        (one_word_more names.flags (rows_with names rows pending) positional options word h))
        (subst StandOnce (sym (append-nil options)) once))
  ]
    where
      valued_word : (v : Option Text) → bytes_eq word dashes ≡ false → (name : Text) → Contains names.valued name → arg_by_long (args_for names) name ≡ Some (option_arg Set name)
          → long_of word ≡ Some (name, v) → word ≡ written name v → LacksEquals name → Outcome names (stand (resting b) false rows pending) (word ∷ rest) positional options
      valued_word (Some v) other name among look long at lack = at_assigned_word names are b rows pending positional options none h once word rest name other v among look long at again
      valued_word None other name among look long at lack = at_value names are b rows pending positional options none h once word name other among look long at lack rest texts.1 later

      flag_word : (v : Option Text) → bytes_eq word dashes ≡ false → (name : Text) → Contains names.flags name → arg_by_long (args_for names) name ≡ Some (option_arg SetTrue name)
          → long_of word ≡ Some (name, v) → word ≡ written name v → LacksEquals name → Outcome names (stand (resting b) false rows pending) (word ∷ rest) positional options
      flag_word (Some v) other name among look long at lack = unread names (stand (resting b) false rows pending) (word ∷ rest) positional options
          (λ passed. absurd (let bad : kind.TooManyValues ∷ [] ≡ [] = long_front names (resting b) rows pending word other name (Some v) (Some (option_arg SetTrue name)) long look rest passed in cc))
          (subst (λ w. HasNoReading names (w ∷ rest)) (sym at) (no_assigned names (name ++ (61 ∷ v)) name v rest are (some_front name v) lack refl (λ valued. are.apart name valued among)))
      flag_word None other name among look long at lack = at_flag_word names are b rows pending positional options none h once word rest name other among look long at again

      unknown_word : (v : Option Text) → bytes_eq word dashes ≡ false → (name : Text) → (Contains names.valued name → ⊥) → (Contains names.flags name → ⊥) → word ≡ written name v → LacksEquals name
          → HasNoReading names (word ∷ rest)
      unknown_word (Some v) other name no_valued no_flag at lack =
          subst (λ w. HasNoReading names (w ∷ rest)) (sym at) (no_assigned names (name ++ (61 ∷ v)) name v rest are (some_front name v) lack refl no_valued)
      unknown_word None other name no_valued no_flag at lack =
          subst (λ w. HasNoReading names (w ∷ rest)) (sym at) (no_named names name rest (not_dashes name word other at) lack no_flag (λ v more known is plain. no_valued known))

both : (names : Names) → AreNames names → (words : List Text) → AreTexts words → Again names words × Again names (tail words)
both names are [] texts = (at_nothing names, at_nothing names)
both names are (word ∷ rest) texts =
    let p = both names are rest texts.1 in
    (at_word names are word rest texts p.0 p.1, p.0)

pub outcome : (names : Names) → AreNames names → (words : List Text) → AreTexts words → Outcome names (stand idle false [] None) words [] []
outcome names are words texts = (both names are words texts).0 false [] None [] [] refl (record { positional_is = refl; options_are = refl; clean = tt }) once_none
