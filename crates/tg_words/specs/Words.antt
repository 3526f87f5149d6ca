-- How the words behind a command are positional words and options. A word is a list of bytes.
use Rattle.std.specs.Prelude.{◌≡◌, ◌≢◌, ℕ, ◌<◌, ◌⊎◌, List, [], ◌∷◌, ◌++◌, Bool, false, not, ◌&&◌, ◌==◌, nat_lt, length}
use Rattle.std.specs.Prelude.{Contains, codes, slice_get, Option, Some, None}
use Rattle.std.specs.List.{list_all, list_any}
use Rattle.std.specs.Str.{bytes_eq}

-- the names of a command's options: of those with a value, and of those without one
pub record Names : Type 0 where
  pub valued : List (List ℕ)
  pub flags : List (List ℕ)

-- a name isn't empty and has no `=` in it, and no name is one of both
abbrev pub is_name : List ℕ → Bool
is_name name = nat_lt 0 (length name) && not (list_any (λ letter. letter == 61) name)

abbrev pub are_names : Names → Bool
are_names names = list_all is_name names.valued && (list_all is_name names.flags
    && list_all (λ flag. not (list_any (λ name. bytes_eq name flag) names.valued)) names.flags)

-- an option that stands in the words, and its value if it has one
abbrev pub Given : Type 0
Given = List ℕ × Option (List ℕ)

-- one item of a command line: a positional word, an option with its value, or an option without one
pub data Item : Type 0 where
  positional : List ℕ → Item
  valued : List ℕ → List ℕ → Item
  flag : List ℕ → Item

abbrev pub begins_with_dash : List ℕ → Bool
begins_with_dash [] = false
begins_with_dash (letter ∷ letters) = letter == 45

-- a word that may stand where an option doesn't: the single dash, or one that doesn't begin with a dash
abbrev pub IsPlain : List ℕ → Type 0
IsPlain word = (word ≡ 45 ∷ []) ⊎ (begins_with_dash word ≡ false)

-- the words spell an option with a value: `--name=VALUE`; or `--name` and a plain word
abbrev pub ValuedSpelling : List ℕ → List ℕ → List (List ℕ) → Type 0
ValuedSpelling name value words =
    (words ≡ (codes "--" ++ (name ++ (codes "=" ++ value))) ∷ []) ⊎ ((words ≡ (codes "--" ++ name) ∷ value ∷ []) × IsPlain value)

-- the words spell the item: a plain word; an option with a value; or `--name` alone. The name is one of the command's.
abbrev pub ItemSpelling : Names → Item → List (List ℕ) → Type 0
ItemSpelling names (positional word) words = (words ≡ word ∷ []) × IsPlain word
ItemSpelling names (valued name value) words = Contains names.valued name × ValuedSpelling name value words
ItemSpelling names (flag name) words = Contains names.flags name × (words ≡ (codes "--" ++ name) ∷ [])

-- the words are the spellings of the items, one after another
abbrev pub ItemsSpelling : Names → List Item → List (List ℕ) → Type 0
ItemsSpelling names [] words = words ≡ []
ItemsSpelling names (item ∷ items) words =
    (front : List (List ℕ)) × (rest : List (List ℕ)) × (words ≡ front ++ rest) × ItemSpelling names item front × ItemsSpelling names items rest

-- the positional words and the options among items, in order
abbrev pub positionals_of : List Item → List (List ℕ)
positionals_of [] = []
positionals_of (positional word ∷ items) = word ∷ positionals_of items
positionals_of (valued name value ∷ items) = positionals_of items
positionals_of (flag name ∷ items) = positionals_of items

abbrev pub options_of : List Item → List Given
options_of [] = []
options_of (positional word ∷ items) = options_of items
options_of (valued name value ∷ items) = (name, Some value) ∷ options_of items
options_of (flag name ∷ items) = (name, None) ∷ options_of items

-- the words after the first `--` are positional, whatever they begin with
abbrev pub IsEnd : List (List ℕ) → List (List ℕ) → Type 0
IsEnd rest late = ((rest ≡ []) × (late ≡ [])) ⊎ (rest ≡ codes "--" ∷ late)

-- each option stands at most once
abbrev pub StandOnce : List Given → Type 0
StandOnce options =
    (i j : ℕ) (a b : Given) → i < j → slice_get options i ≡ Some a → slice_get options j ≡ Some b → a.0 ≢ b.0

-- the words are these positional words and these options, of the names that a command has; an option may stand more
-- than once
pub record Reading (names : Names) (words positional : List (List ℕ)) (options : List Given) : Type 0 where
  pub items : List Item
  pub front : List (List ℕ)
  pub rest : List (List ℕ)
  pub late : List (List ℕ)
  pub whole : words ≡ front ++ rest
  pub spelled : ItemsSpelling names items front
  pub end : IsEnd rest late
  pub positional_is : positional ≡ positionals_of items ++ late
  pub options_are : options ≡ options_of items

-- the words are these positional words and these options, each of which stands at most once
pub record WordsSpelling (names : Names) (words positional : List (List ℕ)) (options : List Given) : Type 0 where
  pub reading : Reading names words positional options
  pub once : StandOnce options

-- the words are the command's name, and behind it these positional words and these options
pub record Line (command : List ℕ) (names : Names) (words positional : List (List ℕ)) (options : List Given) : Type 0 where
  pub rest : List (List ℕ)
  pub begins : words ≡ command ∷ rest
  pub operands : WordsSpelling names rest positional options

-- what an option gives: nothing where none of its name stands, else what is written by its value
abbrev pub OptionGives : {A : Type 0} → (List ℕ → A → Type 0) → List Given → List ℕ → Option A → Type 0
OptionGives IsWritten options name None = (option : Given) → Contains options option → option.0 ≢ name
OptionGives IsWritten options name (Some x) = (value : List ℕ) × Contains options (name, Some value) × IsWritten value x
