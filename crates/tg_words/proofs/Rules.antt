-- The arguments of the command that reads operands, as building fills them in, and which of them a name finds.
use Rattle.std.proofs.Common.{◌≡◌, ◌≢◌, ℕ, ◌+◌, ◌⊎◌, inl, inr, true≢false, is_some, List, [], ◌∷◌, ◌++◌, map, Bool, true, false, not, cond, ◌&&◌, ◌||◌, refl, sym, ap, ap₂, ◌∙◌, arith, Some, None, Bor, ◌<◌, append_assoc, length, take, get_or}
use Rattle.std.specs.Prelude.{Contains, find, fold}
use Rattle.std.proofs.lemmas.List.Sums.{fold-append}
use Rattle.std.specs.List.{list_all, list_any, count_by}
use Rattle.std.specs.Str.{bytes_eq}
use Rattle.std.proofs.lemmas.Slice.Eq.{bytes_eq-Decides}
use Rattle.std.proofs.lemmas.List.{append-nil, map-append, take_more}
use Rattle.clap.specs.Walk.{Rule, Text, arg_by_id, arg_by_long, arg_by_short, has_long, has_short, is_early_multiple}
use Rattle.clap.specs.Simple.{App, Shape, on_top, with_rule, new_shape, built, is_buildable, is_ready, is_ready_leaf, filled, filled_from, index_after, with_index}
use Rattle.clap.specs.Faults.{is_free_app, is_simple_and_free}
use Rattle.clap.specs.declared.builder.action.ArgAction.{ArgAction}
use Rattle.clap.specs.declared.builder.action.ArgAction.TheVariants.{Set, SetTrue}
use Rattle.tg_bytes.specs.Lists.{none_in}
use Rattle.tg_words.specs.Words.{Names}
use Rattle.tg_words.specs.Parsing.{positional_rule, option_rule, rules_for, app_for, with_rules}
use Rattle.tg_words.specs.Operands.{texts_of}
use Rattle.tg_words.proofs.Naming.{first_or_later, at_first, later_too}

abbrev pub positional_arg : Rule
positional_arg = with_index 1 (filled positional_rule)

abbrev pub option_arg : ArgAction → Text → Rule
option_arg action name = filled (option_rule action name)

abbrev pub args_for : Names → List Rule
args_for names = positional_arg ∷ (map (option_arg Set) names.valued ++ map (option_arg SetTrue) names.flags)

filled_options : (action : ArgAction) (i : ℕ) (ns : List Text) (rest : List Rule)
    → filled_from i (map (option_rule action) ns ++ rest) ≡ map (option_arg action) ns ++ filled_from i rest
filled_options action i [] rest = refl
filled_options action i (n ∷ ns) rest = ap (λ rs. option_arg action n ∷ rs) (filled_options action i ns rest)

filled_only : (action : ArgAction) (i : ℕ) (ns : List Text) → filled_from i (map (option_rule action) ns) ≡ map (option_arg action) ns
filled_only action i [] = refl
filled_only action i (n ∷ ns) = ap (λ rs. option_arg action n ∷ rs) (filled_only action i ns)

pub args_filled : (names : Names) → filled_from 1 (rules_for names) ≡ args_for names
args_filled names = ap (λ rs. positional_arg ∷ rs)
    (filled_options Set (index_after 1 positional_rule) names.valued (map (option_rule SetTrue) names.flags)
    ∙ ap (λ rs. map (option_arg Set) names.valued ++ rs) (filled_only SetTrue (index_after 1 positional_rule) names.flags))

-- the command as it is built
abbrev pub shape_with : List Rule → Shape
shape_with rules = record (new_shape []) {
  no_binary_name = true;
  disable_help_flag = true;
  disable_version_flag = true;
  disable_help_subcommand = true;
  is_built = true;
  rules = rules;
}

abbrev pub shape_for : Names → Shape
shape_for names = shape_with (args_for names)

abbrev pub app_with : List Rule → App
app_with rules = record { top = shape_with rules; subs = [] }

pub built_for : (names : Names) → built (app_for names) ≡ app_with (args_for names)
built_for names = ap app_with (args_filled names)

-- what each option passes
all_options : (p : Rule → Bool) (f : Text → Rule) (ns : List Text) (rest : List Rule) → ((n : Text) → p (f n) ≡ true) → list_all p rest ≡ true
    → list_all p (map f ns ++ rest) ≡ true
all_options p f [] rest passes more = more
all_options p f (n ∷ ns) rest passes more = rw (passes n, all_options p f ns rest passes more) refl

all_only : (p : Rule → Bool) (f : Text → Rule) (ns : List Text) → ((n : Text) → p (f n) ≡ true) → list_all p (map f ns) ≡ true
all_only p f [] passes = refl
all_only p f (n ∷ ns) passes = rw (passes n, all_only p f ns passes) refl

no_options : (p : Rule → Bool) (f : Text → Rule) (ns : List Text) (rest : List Rule) → ((n : Text) → p (f n) ≡ false) → list_any p (map f ns ++ rest) ≡ list_any p rest
no_options p f [] rest fails = refl
no_options p f (n ∷ ns) rest fails = rw (fails n) (no_options p f ns rest fails)

no_only : (p : Rule → Bool) (f : Text → Rule) (ns : List Text) → ((n : Text) → p (f n) ≡ false) → list_any p (map f ns) ≡ false
no_only p f [] fails = refl
no_only p f (n ∷ ns) fails = rw (fails n) (no_only p f ns fails)

same_count : (h : ℕ → Rule → ℕ) (f : Text → Rule) (ns : List Text) (k : ℕ) → ((n : Text) (i : ℕ) → h i (f n) ≡ i) → fold h k (map f ns) ≡ k
same_count h f [] k same = refl
same_count h f (n ∷ ns) k same = ap (λ i. fold h i (map f ns)) (same n k) ∙ same_count h f ns k same

pub all_args : (p : Rule → Bool) (names : Names) → p positional_arg ≡ true → ((n : Text) → p (option_arg Set n) ≡ true) → ((n : Text) → p (option_arg SetTrue n) ≡ true)
    → list_all p (args_for names) ≡ true
all_args p names first valued flags =
    rw (first, all_options p (option_arg Set) names.valued (map (option_arg SetTrue) names.flags) valued (all_only p (option_arg SetTrue) names.flags flags)) refl

pub no_args : (p : Rule → Bool) (names : Names) → p positional_arg ≡ false → ((n : Text) → p (option_arg Set n) ≡ false) → ((n : Text) → p (option_arg SetTrue n) ≡ false)
    → list_any p (args_for names) ≡ false
no_args p names first valued flags =
    rw first (no_options p (option_arg Set) names.valued (map (option_arg SetTrue) names.flags) valued ∙ no_only p (option_arg SetTrue) names.flags flags)

abbrev counts : ℕ → Rule → ℕ
counts k a = k + cond (is_some a.index) 1 0

one_positional : (names : Names) → count_by (λ (a : Rule). is_some a.index) (args_for names) ≡ 1
one_positional names =
    fold-append counts 1 (map (option_arg Set) names.valued) (map (option_arg SetTrue) names.flags)
    ∙ ap (λ k. fold counts k (map (option_arg SetTrue) names.flags)) (same_count counts (option_arg Set) names.valued 1 (λ n i. omega arith))
    ∙ same_count counts (option_arg SetTrue) names.flags 1 (λ n i. omega arith)

in_order : (names : Names) → list_any (is_early_multiple (count_by (λ (a : Rule). is_some a.index) (args_for names))) (args_for names) ≡ false
in_order names = ap (λ k. list_any (is_early_multiple k) (args_for names)) (one_positional names)
    ∙ no_args (is_early_multiple 1) names refl (λ n. refl) (λ n. refl)

rules_simple : (names : Names) → list_all (λ (a : Rule). a.is_simple) (rules_for names) ≡ true
rules_simple names = all_options (λ (a : Rule). a.is_simple) (option_rule Set) names.valued (map (option_rule SetTrue) names.flags) (λ n. refl)
    (all_only (λ (a : Rule). a.is_simple) (option_rule SetTrue) names.flags (λ n. refl))

four : (x y z w : Bool) → x ≡ true → y ≡ true → z ≡ false → w ≡ true → ((x && true) && ((y && not z) && true)) && (w && true) ≡ true
four x y z w a b c d = rw (a, b, c, d) refl

pub simple_and_free : (names : Names) → is_simple_and_free (app_for names) ≡ true
simple_and_free names =
    let args_simple = all_args (λ (a : Rule). a.is_simple) names refl (λ n. refl) (λ n. refl) in
    let args_free = all_args (λ (a : Rule). a.is_free) names refl (λ n. refl) (λ n. refl) in
    ap (λ (b : App). (is_buildable (app_for names) && (is_ready b.top && list_all is_ready_leaf b.subs)) && is_free_app b) (built_for names)
    ∙ four _ _ _ _ (rules_simple names) args_simple (in_order names) args_free

-- one more option behind the arguments
pub one_rule_more : (app app_now all : App) (action : ArgAction) (ns : List (Bor Text)) (i : ℕ) (d : Bor Text) (rule : Rule) → i < length ns
    → app_now ≡ with_rules app (map (option_rule action) (texts_of (take i ns))) → rule ≡ option_rule action (get_or ns i d).now → all ≡ with_rule app_now rule
    → all ≡ with_rules app (map (option_rule action) (texts_of (take (i + 1) ns)))
one_rule_more app app_now all action ns i d rule below so_far rule_is all_is =
    all_is ∙ ap₂ with_rule so_far rule_is
    ∙ ap (λ rs. on_top (λ (s : Shape). record s { rules = rs }) app)
    (append_assoc app.top.rules (map (option_rule action) (texts_of (take i ns))) (option_rule action (get_or ns i d).now ∷ [])
    ∙ ap (λ rs. app.top.rules ++ rs)
    (sym (map-append (option_rule action) (texts_of (take i ns)) ((get_or ns i d).now ∷ []))
    ∙ ap (map (option_rule action)) (sym (map-append (λ (n : Bor Text). n.now) (take i ns) (get_or ns i d ∷ []))
    ∙ ap texts_of (sym (take_more ns i d below)))))

-- ---- look-ups

pub or-false : (b : Bool) → (b || false) ≡ b
or-false true = refl
or-false false = refl

option_found : (p : Rule → Bool) (f : Text → Rule) (name : Text) (ns : List Text) (rest : List Rule) → ((n : Text) → p (f n) ≡ bytes_eq n name)
    → Contains ns name → find p (map f ns ++ rest) ≡ Some (f name)
option_found p f name [] rest by among = absurd (none_in name among)
option_found p f name (n ∷ ns) rest by among = go (bytes_eq n name) refl (λ later. option_found p f name ns rest by later)
  where
    go : (b : Bool) → bytes_eq n name ≡ b → (Contains ns name → find p (map f ns ++ rest) ≡ Some (f name))
        → cond (p (f n)) (Some (f n)) (find p (map f ns ++ rest)) ≡ Some (f name)
    go true e again = rw (by n, e) (ap (λ m. Some (f m)) ((bytes_eq-Decides n name).0 e))
    go false e again = rw (by n, e) (elim (first_or_later n name ns among) [
      | inl is ↦ absurd (true≢false (sym ((bytes_eq-Decides n name).1 is) ∙ e))
      | inr later ↦ again later
    ])

option_passed : (p : Rule → Bool) (f : Text → Rule) (name : Text) (ns : List Text) (rest : List Rule) → ((n : Text) → p (f n) ≡ bytes_eq n name)
    → (Contains ns name → ⊥) → find p (map f ns ++ rest) ≡ find p rest
option_passed p f name [] rest by absent = refl
option_passed p f name (n ∷ ns) rest by absent = go (bytes_eq n name) refl (option_passed p f name ns rest by (λ later. absent (later_too n name ns later)))
  where
    go : (b : Bool) → bytes_eq n name ≡ b → find p (map f ns ++ rest) ≡ find p rest
        → cond (p (f n)) (Some (f n)) (find p (map f ns ++ rest)) ≡ find p rest
    go true e again = absurd (absent (at_first n name ns ((bytes_eq-Decides n name).0 e)))
    go false e again = rw (by n, e) again

found_only : (p : Rule → Bool) (f : Text → Rule) (name : Text) (ns : List Text) → ((n : Text) → p (f n) ≡ bytes_eq n name)
    → Contains ns name → find p (map f ns) ≡ Some (f name)
found_only p f name ns by among = ap (find p) (sym (append-nil (map f ns))) ∙ option_found p f name ns [] by among

passed_only : (p : Rule → Bool) (f : Text → Rule) (name : Text) (ns : List Text) → ((n : Text) → p (f n) ≡ bytes_eq n name)
    → (Contains ns name → ⊥) → find p (map f ns) ≡ None
passed_only p f name ns by absent = ap (find p) (sym (append-nil (map f ns))) ∙ option_passed p f name ns [] by absent

none_passed : (p : Rule → Bool) (f : Text → Rule) (ns : List Text) (rest : List Rule) → ((n : Text) → p (f n) ≡ false) → find p (map f ns ++ rest) ≡ find p rest
none_passed p f [] rest fails = refl
none_passed p f (n ∷ ns) rest fails = rw (fails n) (none_passed p f ns rest fails)

pub no_short : (names : Names) (x : ℕ) → arg_by_short (args_for names) x ≡ None
no_short names x = none_passed (λ (a : Rule). not (is_some a.index) && has_short a x) (option_arg Set) names.valued (map (option_arg SetTrue) names.flags) (λ n. refl)
    ∙ ap (find (λ (a : Rule). not (is_some a.index) && has_short a x)) (sym (append-nil (map (option_arg SetTrue) names.flags)))
    ∙ none_passed (λ (a : Rule). not (is_some a.index) && has_short a x) (option_arg SetTrue) names.flags [] (λ n. refl)

module _ (names : Names) (name : Text) where
  abbrev by_long : Rule → Bool
  by_long a = not (is_some a.index) && has_long a name

  abbrev by_id : Rule → Bool
  by_id a = bytes_eq a.id name

  pub long_valued : Contains names.valued name → arg_by_long (args_for names) name ≡ Some (option_arg Set name)
  long_valued among = option_found by_long (option_arg Set) name names.valued (map (option_arg SetTrue) names.flags) (λ n. or-false (bytes_eq n name)) among

  pub long_flag : (Contains names.valued name → ⊥) → Contains names.flags name → arg_by_long (args_for names) name ≡ Some (option_arg SetTrue name)
  long_flag absent among = option_passed by_long (option_arg Set) name names.valued (map (option_arg SetTrue) names.flags) (λ n. or-false (bytes_eq n name)) absent
      ∙ found_only by_long (option_arg SetTrue) name names.flags (λ n. or-false (bytes_eq n name)) among

  pub long_unknown : (Contains names.valued name → ⊥) → (Contains names.flags name → ⊥) → arg_by_long (args_for names) name ≡ None
  long_unknown no_valued no_flag = option_passed by_long (option_arg Set) name names.valued (map (option_arg SetTrue) names.flags) (λ n. or-false (bytes_eq n name)) no_valued
      ∙ passed_only by_long (option_arg SetTrue) name names.flags (λ n. or-false (bytes_eq n name)) no_flag

  pub id_valued : name ≢ [] → Contains names.valued name → arg_by_id (args_for names) name ≡ Some (option_arg Set name)
  id_valued some among = ap (λ b. cond b (Some positional_arg) (find by_id (map (option_arg Set) names.valued ++ map (option_arg SetTrue) names.flags))) (apart (bytes_eq [] name) refl)
      ∙ option_found by_id (option_arg Set) name names.valued (map (option_arg SetTrue) names.flags) (λ n. refl) among
    where
      apart : (b : Bool) → bytes_eq [] name ≡ b → b ≡ false
      apart true e = absurd (some (sym ((bytes_eq-Decides [] name).0 e)))
      apart false e = refl

-- whether a name is one of an option with a value, of a flag, or of none
pub data IsOf (names : Names) (name : Text) : Type 0 where
  of_valued : Contains names.valued name → arg_by_long (args_for names) name ≡ Some (option_arg Set name) → IsOf names name
  of_flag : Contains names.flags name → arg_by_long (args_for names) name ≡ Some (option_arg SetTrue name) → IsOf names name
  of_none : (Contains names.valued name → ⊥) → (Contains names.flags name → ⊥) → arg_by_long (args_for names) name ≡ None → IsOf names name

among_or_not : (ns : List Text) (name : Text) → Contains ns name ⊎ (Contains ns name → ⊥)
among_or_not [] name = inr (none_in name)
among_or_not (n ∷ ns) name = go (bytes_eq n name) refl (among_or_not ns name)
  where
    go : (b : Bool) → bytes_eq n name ≡ b → Contains ns name ⊎ (Contains ns name → ⊥) → Contains (n ∷ ns) name ⊎ (Contains (n ∷ ns) name → ⊥)
    go true e rest = inl (at_first n name ns ((bytes_eq-Decides n name).0 e))
    go false e (inl later) = inl (later_too n name ns later)
    go false e (inr absent) = inr (λ among. elim (first_or_later n name ns among) [
      | inl is ↦ true≢false (sym ((bytes_eq-Decides n name).1 is) ∙ e)
      | inr later ↦ absent later
    ])

pub is_of : (names : Names) (name : Text) → IsOf names name
is_of names name = go (among_or_not names.valued name) (among_or_not names.flags name)
  where
    go : Contains names.valued name ⊎ (Contains names.valued name → ⊥) → Contains names.flags name ⊎ (Contains names.flags name → ⊥) → IsOf names name
    go (inl among) flags = of_valued among (long_valued names name among)
    go (inr absent) (inl among) = of_flag among (long_flag names name absent among)
    go (inr no_valued) (inr no_flag) = of_none no_valued no_flag (long_unknown names name no_valued no_flag)
