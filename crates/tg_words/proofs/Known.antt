-- The options that stand in words have the names of the command.
use Rattle.std.proofs.Common.{◌≡◌, ℕ, inl, inr, List, [], ◌∷◌, Option, Some, None, refl, sym, subst}
use Rattle.std.specs.Prelude.{Contains}
use Rattle.tg_bytes.specs.Lists.{none_in}
use Rattle.tg_words.specs.CommandLine.{no_names}
use Rattle.tg_words.specs.Words.{Names, Given, Item, positional, valued, flag, ItemsSpelling, options_of, WordsSpelling}
use Rattle.tg_words.proofs.Naming.{at_first, first_or_later}

-- each option of a command has one of the command's names, and a value where that name is one with a value
abbrev pub IsKnown : Names → List ℕ → Option (List ℕ) → Type 0
IsKnown names name (Some value) = Contains names.valued name
IsKnown names name None = Contains names.flags name

abbrev pub AreKnown : Names → List Given → Type 0
AreKnown names options = (o : Given) → Contains options o → IsKnown names o.0 o.1

known_by : (names : Names) (items : List Item) (front : List (List ℕ)) → ItemsSpelling names items front → AreKnown names (options_of items)
known_by names [] front spelled = λ o among. absurd (none_in o among)
known_by names (positional word ∷ items) front spelled = known_by names items spelled.1 spelled.4
known_by names (valued name value ∷ items) front spelled =
    let later_ones = known_by names items spelled.1 spelled.4 in
    λ o among. elim (first_or_later (name, Some value) o (options_of items) among) [
      | inl is ↦ subst (λ (g : Given). IsKnown names g.0 g.1) is spelled.3.0
      | inr later ↦ later_ones o later
    ]
known_by names (flag name ∷ items) front spelled =
    let later_ones = known_by names items spelled.1 spelled.4 in
    λ o among. elim (first_or_later (name, None) o (options_of items) among) [
      | inl is ↦ subst (λ (g : Given). IsKnown names g.0 g.1) is spelled.3.0
      | inr later ↦ later_ones o later
    ]

pub known : (names : Names) (words texts_in : List (List ℕ)) (options : List Given) → WordsSpelling names words texts_in options → AreKnown names options
known names words texts_in options s = subst (AreKnown names) (sym s.reading.options_are) (known_by names s.reading.items s.reading.front s.reading.spelled)

-- a command without options has none
pub no_options_by : (options : List Given) → AreKnown no_names options → options ≡ []
no_options_by [] known = refl
no_options_by ((name, Some value) ∷ options) known = absurd (none_in name (known (name, Some value) (at_first (name, Some value) (name, Some value) options refl)))
no_options_by ((name, None) ∷ options) known = absurd (none_in name (known (name, None) (at_first (name, None) (name, None) options refl)))

pub no_options : (words texts_in : List (List ℕ)) (options : List Given) → WordsSpelling no_names words texts_in options → WordsSpelling no_names words texts_in []
no_options words texts_in options s = subst (λ o. WordsSpelling no_names words texts_in o) (no_options_by options (known no_names words texts_in options s)) s
