-- What a parse says of words: it passes where they have a reading of options that stand once, and its matches hold that reading.
use Rattle.std.proofs.Common.{◌≡◌, List, [], ◌∷◌, ◌++◌, map, Bool, true, false, not, cond, ◌&&◌, ◌||◌, None, refl, sym, ap, ap₂, ◌∙◌, subst, string_bytes, String, Global, ◌⊎◌, inl, inr}
use Rattle.std.specs.Prelude.{fold}
use Rattle.std.proofs.lemmas.Str.{IsUtf8-string_bytes}
use Rattle.clap.specs.Kinds.{HasKind, IsAmong}
use Rattle.clap.specs.Matches.{found_of}
use Rattle.clap.specs.Values.{kind_of}
use Rattle.clap.specs.Simple.{is_simple, subcommand_of, subcommand_rows_of}
use Rattle.clap.specs.Faults.{is_simple_and_free}
use Rattle.clap.specs.declared.error.Error.{Error}
use Rattle.clap.specs.declared.error.kind.ErrorKind.{ErrorKind}
use Rattle.clap.specs.declared.error.kind.ErrorKind.TheVariants as kinds
use Rattle.clap.specs.declared.parser.matches.ArgMatches.{ArgMatches}
use Rattle.tg_words.specs.declared.WordsFault.TheVariants.{OutOfMemory}
use Rattle.clap.specs.Kinds.{Kinds, check_kinds, or_else}
use Rattle.clap.specs.Walk.{Row, Rule, Text, idle, has_row, rows_of, nothing_held, rows_after, settled, walk, walk_from, with_default}
use Rattle.clap.specs.Simple.{App, matches_of, names_of}
use Rattle.clap.specs.Takes.{is_given}
use Rattle.clap.specs.Faults.{built_fault, check_fault, default_fault, defaults_fault, fault_of, settle_fault, walk_fault}
use Rattle.clap.specs.declared.builder.action.ArgAction.TheVariants.{Set, SetTrue}
use Rattle.clap.proofs.FaultLemmas.{leaf_fault}
use Rattle.tg_words.specs.Words.{Names, Given, WordsSpelling}
use Rattle.tg_words.specs.Parsing.{app_for, fault_of_kind, options_in, positional_in}
use Rattle.tg_words.proofs.Readings.{AreNames, one_spelling_of_words, spelling_of}
use Rattle.tg_words.proofs.Rules.{app_with, args_for, built_for, no_args, option_arg, positional_arg, shape_for, simple_and_free}
use Rattle.tg_words.proofs.Rows.{Ends, all_defaults, options_of_rows}
use Rattle.tg_words.proofs.Turns.{ended, or_else-nil, stand, total}
use Rattle.tg_words.proofs.Walks.{AreTexts, fails, outcome, passes}

-- ---- no fault comes after the walk

no_kinds : (b : Bool) → cond {A = Kinds} b [] [] ≡ []
no_kinds true = refl
no_kinds false = refl

option_defaults : (f : Text → Rule) → ((n : Text) (rows : List Row) → default_fault rows (f n) ≡ []) → (ns : List Text) (rest : List Rule) → ((rows : List Row) → defaults_fault rows rest ≡ [])
    → (rows : List Row) → defaults_fault rows (map f ns ++ rest) ≡ []
unfolding defaults_fault
option_defaults f each [] rest more rows = more rows
option_defaults f each (n ∷ ns) rest more rows = ap₂ or_else (each n rows) (option_defaults f each ns rest more (with_default rows (f n)))

only_defaults : (f : Text → Rule) → ((n : Text) (rows : List Row) → default_fault rows (f n) ≡ []) → (ns : List Text) (rows : List Row) → defaults_fault rows (map f ns) ≡ []
unfolding defaults_fault
only_defaults f each [] rows = refl
only_defaults f each (n ∷ ns) rows = ap₂ or_else (each n rows) (only_defaults f each ns (with_default rows (f n)))

defaults_pass : (names : Names) (rows : List Row) → defaults_fault rows (args_for names) ≡ []
unfolding defaults_fault
defaults_pass names rows = ap₂ or_else (no_kinds (has_row [] rows || true))
    (option_defaults (option_arg Set) (λ n rs. no_kinds (has_row n rs || true)) names.valued (map (option_arg SetTrue) names.flags)
    (only_defaults (option_arg SetTrue) (λ n rs. no_kinds (has_row n rs || false)) names.flags) (with_default rows positional_arg))

checks_pass : (names : Names) (rows : List Row) → check_fault (shape_for names) rows false ≡ []
checks_pass names rows = ap (check_kinds false false) (no_args (λ (a : Rule). a.required && not (is_given a.id rows)) names refl (λ n. refl) (λ n. refl))

pub fault_is : (names : Names) (words : List Text) → fault_of (app_for names) words ≡ total names (stand idle false [] None) words
fault_is names words =
    ap (λ (b : App). built_fault b nothing_held words) (built_for names)
    ∙ leaf_fault (app_with (args_for names)) nothing_held words refl
    ∙ ap (λ k. or_else (walk_fault (shape_for names) [] (walk_from nothing_held) words) (or_else (settle_fault (args_for names) false (walk (args_for names) [] nothing_held words).held) k))
    (ap₂ or_else (defaults_pass names (settled (args_for names) (walk (args_for names) [] nothing_held words).held).rows) (checks_pass names (rows_after (args_for names) [] words)))
    ∙ ap (or_else (walk_fault (shape_for names) [] (walk_from nothing_held) words)) (or_else-nil (settle_fault (args_for names) false (walk (args_for names) [] nothing_held words).held))

matches_are : (names : Names) (words : List Text) → matches_of (app_for names) words ≡ fold with_default (ended names (stand idle false [] None) words) (args_for names)
matches_are names words = ap (λ (b : App). rows_after b.top.rules (names_of b) words) (built_for names)

-- the rows of matches hold the operands
pub record Holding (names : Names) (rows : List Row) (positional : List Text) (options : List Given) : Type 0 where
  pub positional_is : positional_in rows ≡ positional
  pub options_are : options_in names.flags rows ≡ options

holding : (names : Names) (words positional : List Text) (options : List Given) (rows : List Row) → AreNames names → rows ≡ matches_of (app_for names) words
    → Ends names.flags (ended names (stand idle false [] None) words) positional options → Holding names rows positional options
holding names words positional options rows are rows_are ends =
    let last = subst (λ rs. Ends names.flags rs positional options) (sym (rows_are ∙ matches_are names words))
    (all_defaults names names.flags (ended names (stand idle false [] None) words) positional options are.flags_some ends) in
    record { positional_is = last.positional_is; options_are = options_of_rows names.flags rows positional options last }

pub parse_found : (names : Names) (words : List Text) (rows : List Row) → AreNames names → AreTexts words → fault_of (app_for names) words ≡ [] → rows ≡ matches_of (app_for names) words
    → WordsSpelling names words (positional_in rows) (options_in names.flags rows)
parse_found names words rows are texts none rows_are = elim (outcome names are words texts) [
  | passes later others passed r once ends ↦
      let p = holding names words later others rows are rows_are ends in
      subst (λ ps. WordsSpelling names words ps (options_in names.flags rows)) (sym p.positional_is)
      (subst (λ os. WordsSpelling names words later os) (sym p.options_are) (spelling_of names words later others once r))
  | fails bad never ↦ absurd (bad (sym (fault_is names words) ∙ none))
]

pub parse_only : (names : Names) (words positional : List Text) (options : List Given) → AreNames names → AreTexts words → WordsSpelling names words positional options
    → (fault_of (app_for names) words ≡ []) × ((rows : List Row) → rows ≡ matches_of (app_for names) words → Holding names rows positional options)
parse_only names words positional options are texts s = elim (outcome names are words texts) [
  | passes later others passed r once ends ↦
      let same = one_spelling_of_words names words later positional others options are (spelling_of names words later others once r) s in (
        fault_is names words ∙ passed,
        λ rows rows_are.
            let p = holding names words later others rows are rows_are ends in
            record { positional_is = p.positional_is ∙ same.0; options_are = p.options_are ∙ same.1 },
      )
  | fails bad never ↦ absurd (never positional options s.reading s.once)
]

-- ---- what the call of a parse says

pub are_texts : (words : List (String Global)) → AreTexts (map (string_bytes {Z = Global}) words)
are_texts [] = tt
are_texts (word ∷ words) = (IsUtf8-string_bytes word, are_texts words)

first_holds : (a b : Bool) → (a && b) ≡ true → a ≡ true
first_holds true b e = refl
first_holds false b e = e

is_wanting : (kind : ErrorKind) → (kind ≡ kinds.OutOfMemory) ⊎ IsAmong kind [] → fault_of_kind kind ≡ OutOfMemory
is_wanting kind (inl is) = ap fault_of_kind is
is_wanting kind (inr never) = elim never [ ]

pub wants_memory : (names : Names) (words positional : List Text) (options : List Given) (app : App) (e : Error) → app ≡ app_for names → AreNames names → AreTexts words
    → (is_simple_and_free app ≡ true → HasKind (fault_of app words) e) → WordsSpelling names words positional options → fault_of_kind (kind_of e) ≡ OutOfMemory
wants_memory names words positional options app e app_is are texts kinds s =
    is_wanting (kind_of e)
    (subst (λ (ks : Kinds). HasKind ks e) (ap (λ (a : App). fault_of a words) app_is ∙ (parse_only names words positional options are texts s).0)
    (kinds (ap is_simple_and_free app_is ∙ simple_and_free names)))

module _ (names : Names) (words : List Text) (app : App) (m : ArgMatches) (app_is : app ≡ app_for names) (are : AreNames names) (texts : AreTexts words)
    (matches : is_simple app ≡ true → (rows_of (found_of m) ≡ matches_of app words) × (subcommand_rows_of m ≡ subcommand_of app words)) where
  rows_are : rows_of (found_of m) ≡ matches_of (app_for names) words
  rows_are = (matches (ap is_simple app_is ∙ first_holds (is_simple (app_for names)) _ (simple_and_free names))).0 ∙ ap (λ (a : App). matches_of a words) app_is

  pub spelled : (all : List Text) (every : List Given) → (is_simple_and_free app ≡ true → fault_of app words ≡ []) → all ≡ positional_in (rows_of (found_of m))
      → every ≡ options_in names.flags (rows_of (found_of m)) → WordsSpelling names words all every
  spelled all every passed all_is every_is =
      subst (λ ps. WordsSpelling names words ps every) (sym all_is)
      (subst (λ os. WordsSpelling names words (positional_in (rows_of (found_of m))) os) (sym every_is)
      (parse_found names words (rows_of (found_of m)) are texts
      (sym (ap (λ (a : App). fault_of a words) app_is) ∙ passed (ap is_simple_and_free app_is ∙ simple_and_free names)) rows_are))

  pub only_these : (all positional : List Text) (every options : List Given) → all ≡ positional_in (rows_of (found_of m)) → every ≡ options_in names.flags (rows_of (found_of m))
      → WordsSpelling names words positional options → (all ≡ positional) × (every ≡ options)
  only_these all positional every options all_is every_is s =
      let p = (parse_only names words positional options are texts s).1 (rows_of (found_of m)) rows_are in
      (all_is ∙ p.positional_is, every_is ∙ p.options_are)
