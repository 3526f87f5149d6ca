-- What the walk of a parse makes of one word, and when it fails there.
use Rattle.std.proofs.Common.{◌≡◌, ℕ, List, [], ◌∷◌, Bool, true, false, cond, ◌&&◌, refl, sym, ap, ap₂, ◌∙◌, Option, Some, None, length, ◌||◌, nat_lt}
use Rattle.std.specs.Prelude.{fold, slice_get, drop, encode_utf8}
use Rattle.std.specs.Option.{option_map_or}
use Rattle.std.specs.Str.{bytes_eq, chars}
use Rattle.std.proofs.Math.Bool.{and-false}
use Rattle.clap.specs.Lexer.{long_of, short_of}
use Rattle.clap.specs.Kinds.{Kinds, or_else}
use Rattle.clap.specs.Walk.{Held, Rule, Row, Step, Text, Waiting, Walk, idle, option, positional, next, trailing, value}
use Rattle.clap.specs.Walk.{after_flag, after_step, arg_by_id, arg_by_long, has_row, is_pending, long_met, long_or_other, option_word, plain_word, pushed, settled, settled_rows, short_or_plain, subcommand_met, subcommand_or_other, takes_several, walked, word_met}
use Rattle.clap.specs.Faults.{bundle_fault, bundle_step_fault, flag_word_fault, flags_fault, long_fault, other_fault, settle_fault, short_fault, step_fault, turn_fault, use_fault, walk_fault, word_fault}
use Rattle.clap.specs.declared.builder.action.ArgAction.TheVariants.{Set, SetTrue}
use Rattle.clap.specs.declared.error.kind.ErrorKind.TheVariants as kind
use Rattle.tg_words.specs.Words.{Names}
use Rattle.tg_words.proofs.Rules.{args_for, no_short, option_arg, positional_arg, shape_for}
use Rattle.tg_words.proofs.Shapes.{dashes}

abbrev pub held : List Row → Option (Text × List Text) → Held
held rows pending = record { rows = rows; pending = pending; skip = 0 }

-- the walk between two words: before `--` or behind it
abbrev pub stand : Waiting → Bool → List Row → Option (Text × List Text) → Walk
stand waiting late rows pending = record { held = held rows pending; waiting = waiting; position = 1; is_trailing = late; stopped = None }

abbrev pub resting : Bool → Waiting
resting true = positional
resting false = idle

-- the rows once what is pending is used, and the faults of that
abbrev pub rows_with : Names → List Row → Option (Text × List Text) → List Row
rows_with names rows pending = settled_rows (args_for names) pending rows

abbrev pub pending_fault : Names → List Row → Option (Text × List Text) → Kinds
pending_fault names rows pending = settle_fault (args_for names) false (held rows pending)

-- the faults of the walk over words, and the rows at its end
abbrev pub total : Names → Walk → List Text → Kinds
total names w words = or_else (walk_fault (shape_for names) [] w words) (settle_fault (args_for names) false (fold (walked (args_for names) []) w words).held)

abbrev pub ended : Names → Walk → List Text → List Row
ended names w words = (settled (args_for names) (fold (walked (args_for names) []) w words).held).rows

pub or_else-assoc : (a b c : Kinds) → or_else (or_else a b) c ≡ or_else a (or_else b c)
or_else-assoc [] b c = refl
or_else-assoc (k ∷ ks) b c = refl

pub or_else-nil : (a : Kinds) → or_else a [] ≡ a
or_else-nil [] = refl
or_else-nil (k ∷ ks) = refl

pub first_nil : (a b : Kinds) → or_else a b ≡ [] → a ≡ []
first_nil [] b e = refl
first_nil (k ∷ ks) b e = absurd (cc)

pub none_left : (names : Names) (w : Walk) → total names w [] ≡ settle_fault (args_for names) false w.held
unfolding walk_fault
none_left names w = refl

pub step_total : (names : Names) (w : Walk) (word : Text) (rest : List Text)
    → total names w (word ∷ rest) ≡ or_else (turn_fault (shape_for names) [] w word) (total names (walked (args_for names) [] w word) rest)
unfolding walk_fault
step_total names w word rest =
    or_else-assoc (turn_fault (shape_for names) [] w word) (walk_fault (shape_for names) [] (walked (args_for names) [] w word) rest)
    (settle_fault (args_for names) false (fold (walked (args_for names) []) (walked (args_for names) [] w word) rest).held)

-- a turn that makes the walk w of the one before, with no fault
pub record Turns (names : Names) (w : Walk) (words : List Text) (v : Walk) (rest : List Text) : Type 0 where
  pub total_is : total names w words ≡ total names v rest
  pub ended_is : ended names w words ≡ ended names v rest

pub turned : (names : Names) (w v : Walk) (word : Text) (rest : List Text) → turn_fault (shape_for names) [] w word ≡ [] → walked (args_for names) [] w word ≡ v → Turns names w (word ∷ rest) v rest
turned names w v word rest none on = record {
  total_is = step_total names w word rest ∙ ap₂ (λ k u. or_else k (total names u rest)) none on;
  ended_is = ap (λ u. ended names u rest) on;
}

pub front_fault : (names : Names) (w : Walk) (word : Text) (rest : List Text) → total names w (word ∷ rest) ≡ [] → turn_fault (shape_for names) [] w word ≡ []
front_fault names w word rest none = first_nil _ _ (sym (step_total names w word rest) ∙ none)

module _ (names : Names) (waiting : Waiting) (late : Bool) (rows : List Row) (pending : Option (Text × List Text)) (word : Text) where
  pub turn_is : (m : Held × Step) (f : Kinds) → word_met (args_for names) [] late waiting 1 word (held rows pending) ≡ m
      → word_fault (shape_for names) [] late waiting word (held rows pending) ≡ f
      → turn_fault (shape_for names) [] (stand waiting late rows pending) word ≡ or_else f (step_fault (shape_for names) 1 m.0 m.1)
  turn_is m f met fault = ap₂ (λ k v. or_else k (step_fault (shape_for names) 1 v.0 v.1)) fault met

  pub on_is : (m : Held × Step) → word_met (args_for names) [] late waiting 1 word (held rows pending) ≡ m
      → walked (args_for names) [] (stand waiting late rows pending) word ≡ after_step (args_for names) word (stand waiting late rows pending) m.0 m.1
  unfolding walked
  on_is m met = ap (λ v. after_step (args_for names) word (stand waiting late rows pending) v.0 v.1) met

no_subcommand : (waiting : Waiting) (word : Text) → subcommand_met [] waiting word ≡ None
no_subcommand idle word = refl
no_subcommand (option id) word = refl
no_subcommand positional word = refl

module _ (names : Names) (waiting : Waiting) (rows : List Row) (pending : Option (Text × List Text)) (word : Text) where
  met_other : word_met (args_for names) [] false waiting 1 word (held rows pending) ≡ subcommand_or_other (args_for names) None waiting 1 word (held rows pending)
  met_other = ap (λ o. subcommand_or_other (args_for names) o waiting 1 word (held rows pending)) (no_subcommand waiting word)

  fault_other : word_fault (shape_for names) [] false waiting word (held rows pending) ≡ other_fault (shape_for names) None word (held rows pending)
  fault_other = ap (λ o. other_fault (shape_for names) o word (held rows pending)) (no_subcommand waiting word)

  -- `--`
  pub end_turn : bytes_eq word dashes ≡ true → (rest : List Text) → Turns names (stand waiting false rows pending) (word ∷ rest) (stand waiting true rows pending) rest
  end_turn at rest =
      let met : word_met (args_for names) [] false waiting 1 word (held rows pending) ≡ (held rows pending, trailing 1) =
      met_other ∙ ap (λ b. cond b (held rows pending, trailing 1) (long_or_other (args_for names) waiting word (long_of word) (held rows pending))) at in
      let fault : word_fault (shape_for names) [] false waiting word (held rows pending) ≡ [] =
      fault_other ∙ ap (λ b. cond b [] (flag_word_fault (args_for names) false (long_of word) word (held rows pending))) at in
      turned names (stand waiting false rows pending) (stand waiting true rows pending) word rest
      (turn_is names waiting false rows pending word (held rows pending, trailing 1) [] met fault) (on_is names waiting false rows pending word (held rows pending, trailing 1) met)

  module _ (other : bytes_eq word dashes ≡ false) where
    met_flag : word_met (args_for names) [] false waiting 1 word (held rows pending) ≡ long_or_other (args_for names) waiting word (long_of word) (held rows pending)
    met_flag = met_other ∙ ap (λ b. cond b (held rows pending, trailing 1) (long_or_other (args_for names) waiting word (long_of word) (held rows pending))) other

    fault_flag : word_fault (shape_for names) [] false waiting word (held rows pending) ≡ flag_word_fault (args_for names) false (long_of word) word (held rows pending)
    fault_flag = fault_other ∙ ap (λ b. cond b [] (flag_word_fault (args_for names) false (long_of word) word (held rows pending))) other

    -- `--name`, `--name=value`
    module _ (name : Text) (v : Option Text) (found : Option Rule) (long : long_of word ≡ Some (name, v)) (look : arg_by_long (args_for names) name ≡ found) where
      abbrev met_by : Held × Step
      met_by = after_flag (args_for names) waiting word (long_met (args_for names) found v (held rows pending)).0 (long_met (args_for names) found v (held rows pending)).1

      met_long : word_met (args_for names) [] false waiting 1 word (held rows pending) ≡ met_by
      met_long = met_flag ∙ ap (λ o. long_or_other (args_for names) waiting word o (held rows pending)) long
          ∙ ap (λ o. after_flag (args_for names) waiting word (long_met (args_for names) o v (held rows pending)).0 (long_met (args_for names) o v (held rows pending)).1) look

      pub fault_long : word_fault (shape_for names) [] false waiting word (held rows pending) ≡ long_fault (args_for names) false found v (held rows pending)
      fault_long = fault_flag ∙ ap (λ o. flag_word_fault (args_for names) false o word (held rows pending)) long
          ∙ ap (λ o. long_fault (args_for names) false o v (held rows pending)) look

      pub long_front : (rest : List Text) → total names (stand waiting false rows pending) (word ∷ rest) ≡ [] → long_fault (args_for names) false found v (held rows pending) ≡ []
      long_front rest none = sym fault_long
          ∙ first_nil _ _ (sym (turn_is names waiting false rows pending word met_by _ met_long refl) ∙ front_fault names (stand waiting false rows pending) word rest none)

      pub long_turn : (u : Walk) (rest : List Text) → long_fault (args_for names) false found v (held rows pending) ≡ []
          → step_fault (shape_for names) 1 met_by.0 met_by.1 ≡ [] → after_step (args_for names) word (stand waiting false rows pending) met_by.0 met_by.1 ≡ u
          → Turns names (stand waiting false rows pending) (word ∷ rest) u rest
      long_turn u rest none quiet on = turned names (stand waiting false rows pending) u word rest
          (turn_is names waiting false rows pending word met_by [] met_long (fault_long ∙ none) ∙ quiet)
          (on_is names waiting false rows pending word met_by met_long ∙ on)

    -- `-x`
    pub short_front : (y : ℕ) (ys : List ℕ) (x : ℕ) → long_of word ≡ None → short_of word ≡ Some (y ∷ ys) → slice_get (chars (y ∷ ys)) 0 ≡ Some x
        → (rest : List Text) → total names (stand waiting false rows pending) (word ∷ rest) ≡ [] → ⊥
    unfolding flags_fault
    short_front y ys x long short char rest none =
        let fault : word_fault (shape_for names) [] false waiting word (held rows pending) ≡ kind.UnknownArgument ∷ [] =
        fault_flag ∙ ap (λ o. flag_word_fault (args_for names) false o word (held rows pending)) long
        ∙ ap (λ o. option_map_or (λ flags. bundle_fault (args_for names) false flags (held rows pending)) o []) short
        ∙ ap (λ o. bundle_step_fault (args_for names) false o (y ∷ ys) 0 (held rows pending) (flags_fault (args_for names) false (length ys))) char
        ∙ ap (λ o. short_fault (args_for names) false o (drop (length (encode_utf8 x)) (y ∷ ys)) (held rows pending) (flags_fault (args_for names) false (length ys) (drop (length (encode_utf8 x)) (y ∷ ys)) 0))
        (no_short names x) in
        let bad : word_fault (shape_for names) [] false waiting word (held rows pending) ≡ [] =
        first_nil _ _ (sym (turn_is names waiting false rows pending word _ _ refl refl) ∙ front_fault names (stand waiting false rows pending) word rest none) in
        let worse : kind.UnknownArgument ∷ [] ≡ [] = sym fault ∙ bad in
        cc

    -- a plain word
    pub met_plain : long_of word ≡ None → short_of word ≡ None → word_met (args_for names) [] false waiting 1 word (held rows pending) ≡ plain_word (args_for names) waiting word (held rows pending)
    met_plain long short = met_flag ∙ ap (λ o. long_or_other (args_for names) waiting word o (held rows pending)) long
        ∙ ap (λ o. short_or_plain (args_for names) waiting word o (held rows pending)) short

    pub fault_plain : long_of word ≡ None → short_of word ≡ None → word_fault (shape_for names) [] false waiting word (held rows pending) ≡ []
    fault_plain long short = fault_flag ∙ ap (λ o. flag_word_fault (args_for names) false o word (held rows pending)) long
        ∙ ap (λ o. option_map_or (λ flags. bundle_fault (args_for names) false flags (held rows pending)) o []) short

-- ---- a word that goes to the positional words

never_several : (rows : List Row) (pending : Option (Text × List Text)) → (is_pending positional_arg pending && takes_several positional_arg) ≡ false
never_several rows pending = and-false (is_pending positional_arg pending)

module _ (names : Names) (waiting : Waiting) (late : Bool) (rows : List Row) (pending : Option (Text × List Text)) (word : Text)
    (met : word_met (args_for names) [] late waiting 1 word (held rows pending) ≡ (held rows pending, value))
    (fault : word_fault (shape_for names) [] late waiting word (held rows pending) ≡ []) where
  pub word_turn_fault : turn_fault (shape_for names) [] (stand waiting late rows pending) word ≡ pending_fault names rows pending
  word_turn_fault = turn_is names waiting late rows pending word (held rows pending, value) [] met fault
      ∙ ap (λ b. cond b [] (pending_fault names rows pending)) (never_several rows pending)

  late_or : (b : Bool) → (b || false) ≡ b
  late_or true = refl
  late_or false = refl

  pub word_turn : (rest : List Text) → pending_fault names rows pending ≡ []
      → Turns names (stand waiting late rows pending) (word ∷ rest) (stand positional late (rows_with names rows pending) (Some ([], word ∷ []))) rest
  word_turn rest none = turned names (stand waiting late rows pending) (stand positional late (rows_with names rows pending) (Some ([], word ∷ []))) word rest
      (word_turn_fault ∙ none)
      (on_is names waiting late rows pending word (held rows pending, value) met
      ∙ ap₂ (λ b l. record {
        held = pushed [] word (cond b (held rows pending) (held (rows_with names rows pending) None));
        waiting = positional;
        position = 1;
        is_trailing = l;
        stopped = None;
      }) (never_several rows pending) (late_or late))

  pub word_front : (rest : List Text) → total names (stand waiting late rows pending) (word ∷ rest) ≡ [] → pending_fault names rows pending ≡ []
  word_front rest none = sym word_turn_fault ∙ front_fault names (stand waiting late rows pending) word rest none

-- ---- a plain word that is the value of an option

pub value_turn : (names : Names) (rows : List Row) (name word : Text) (rest : List Text) → bytes_eq word dashes ≡ false → long_of word ≡ None → short_of word ≡ None
    → arg_by_id (args_for names) name ≡ Some (option_arg Set name) → bytes_eq name name ≡ true
    → Turns names (stand (option name) false rows (Some (name, []))) (word ∷ rest) (stand idle false rows (Some (name, word ∷ []))) rest
value_turn names rows name word rest other long short look same =
    let met : word_met (args_for names) [] false (option name) 1 word (held rows (Some (name, []))) ≡ (held rows (Some (name, word ∷ [])), next idle) =
    met_plain names (option name) rows (Some (name, [])) word other long short
    ∙ ap (λ o. ((option_word o name word (held rows (Some (name, [])))).0, next (option_word o name word (held rows (Some (name, [])))).1)) look
    ∙ ap (λ b. (held rows (Some (name, word ∷ [])), next (cond (nat_lt (cond b 1 0) 1) (option name) idle))) same in
    turned names (stand (option name) false rows (Some (name, []))) (stand idle false rows (Some (name, word ∷ []))) word rest
    (turn_is names (option name) false rows (Some (name, [])) word (held rows (Some (name, word ∷ [])), next idle) [] met (fault_plain names (option name) rows (Some (name, [])) word other long short))
    (on_is names (option name) false rows (Some (name, [])) word (held rows (Some (name, word ∷ [])), next idle) met)

-- ---- uses

pub valued_use : (name word : Text) (rows : List Row) (b : Bool) → has_row name rows ≡ b → use_fault false (option_arg Set name) (word ∷ []) rows ≡ cond b (kind.ArgumentConflict ∷ []) []
valued_use name word rows true e = ap (λ b. or_else (cond (b && true) (kind.ArgumentConflict ∷ []) []) []) e
valued_use name word rows false e = ap (λ b. or_else (cond (b && true) (kind.ArgumentConflict ∷ []) []) []) e

pub flag_use : (name : Text) (rows : List Row) (b : Bool) → has_row name rows ≡ b → use_fault false (option_arg SetTrue name) [] rows ≡ cond b (kind.ArgumentConflict ∷ []) []
flag_use name rows true e = ap (λ b. or_else (cond (b && true) (kind.ArgumentConflict ∷ []) []) []) e
flag_use name rows false e = ap (λ b. or_else (cond (b && true) (kind.ArgumentConflict ∷ []) []) []) e
