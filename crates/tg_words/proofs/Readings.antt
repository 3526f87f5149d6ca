-- The readings of words, by what their first word is.
use Rattle.std.proofs.Common.{◌≡◌, ◌≢◌, ℕ, suc, zero, ◌<◌, inl, inr, List, [], ◌∷◌, ◌++◌, length, map, codes, false, refl, sym, ap, ap₂, ◌∙◌, subst, arith, Some, None}
use Rattle.std.specs.Prelude.{Contains, get_or}
use Rattle.std.proofs.lemmas.List.{length-append}
use Rattle.tg_words.specs.Words.{Names, Given, Item, positional, valued, flag, IsPlain, begins_with_dash, ItemsSpelling, IsEnd, positionals_of, options_of, StandOnce, Reading, WordsSpelling}

-- a reading of the words is these positional words and these options, and then a reading of the rest
pub record Leaves (names : Names) (positional : List (List ℕ)) (options : List Given) (rest more_positional : List (List ℕ)) (more_options : List Given) : Type 0 where
  pub later : List (List ℕ)
  pub others : List Given
  pub positional_is : more_positional ≡ positional ++ later
  pub options_are : more_options ≡ options ++ others
  pub reading : Reading names rest later others

pub record Moves (names : Names) (words positional : List (List ℕ)) (options : List Given) (rest : List (List ℕ)) : Type 0 where
  pub onto : (later : List (List ℕ)) (others : List Given) → Reading names rest later others
      → Reading names words (positional ++ later) (options ++ others)
  pub only : (all : List (List ℕ)) (every : List Given) → Reading names words all every
      → Leaves names positional options rest all every

-- the text has no `=` in it
abbrev pub LacksEquals : List ℕ → Type 0
LacksEquals text = (i : ℕ) → i < length text → get_or text i 0 ≢ 61

-- no reading begins with these words
abbrev pub HasNoReading : Names → List (List ℕ) → Type 0
HasNoReading names words = (positional : List (List ℕ)) (options : List Given) → Reading names words positional options → ⊥

-- the word of an option with its value, and of one whose value is the next word or that has none
abbrev pub assigned : List ℕ → List ℕ → List ℕ
assigned name value = codes "--" ++ (name ++ (codes "=" ++ value))

abbrev pub named : List ℕ → List ℕ
named name = codes "--" ++ name

-- what well-formed names give
pub record AreNames (names : Names) : Type 0 where
  pub valued_some : (name : List ℕ) → Contains names.valued name → name ≢ []
  pub flags_some : (name : List ℕ) → Contains names.flags name → name ≢ []
  pub valued_lack : (name : List ℕ) → Contains names.valued name → LacksEquals name
  pub flags_lack : (name : List ℕ) → Contains names.flags name → LacksEquals name
  pub apart : (name : List ℕ) → Contains names.valued name → Contains names.flags name → ⊥

-- what the first word of a reading is, and how the others are read
pub data Begins (names : Names) (word : List ℕ) (words all : List (List ℕ)) (every : List Given) : Type 0 where
  at_end : word ≡ codes "--" → all ≡ words → every ≡ [] → Begins names word words all every
  at_plain : (later : List (List ℕ)) → IsPlain word → all ≡ word ∷ later → Reading names words later every → Begins names word words all every
  at_assigned : (name value : List ℕ) (others : List Given) → Contains names.valued name → word ≡ assigned name value
      → every ≡ (name, Some value) ∷ others → Reading names words all others → Begins names word words all every
  at_named : (name value : List ℕ) (rest : List (List ℕ)) (others : List Given) → Contains names.valued name → word ≡ named name
      → words ≡ value ∷ rest → IsPlain value → every ≡ (name, Some value) ∷ others → Reading names rest all others → Begins names word words all every
  at_flag : (name : List ℕ) (others : List Given) → Contains names.flags name → word ≡ named name
      → every ≡ (name, None) ∷ others → Reading names words all others → Begins names word words all every

begins_by : (names : Names) (word : List ℕ) (words all : List (List ℕ)) (every : List Given)
    (items : List Item) (front rest late : List (List ℕ)) → word ∷ words ≡ front ++ rest → ItemsSpelling names items front → IsEnd rest late
    → all ≡ positionals_of items ++ late → every ≡ options_of items → Begins names word words all every
begins_by names word words all every [] front rest late whole spelled end all_is every_is =
    let here : word ∷ words ≡ rest = whole ∙ ap (λ f. f ++ rest) spelled in
    elim end [
      | inl e ↦ absurd (let bad : word ∷ words ≡ [] = here ∙ e.0 in cc)
      | inr e ↦
          let same : word ∷ words ≡ codes "--" ∷ late = here ∙ e in
          let at : word ≡ codes "--" = cc in
          let rest_is : words ≡ late = cc in
          at_end at (all_is ∙ sym rest_is) every_is
    ]
begins_by names word words all every (positional item ∷ items) front rest late whole spelled end all_is every_is =
    let here : word ∷ words ≡ item ∷ (spelled.1 ++ rest) = whole ∙ ap (λ f. f ++ rest) (spelled.2 ∙ ap (λ f. f ++ spelled.1) spelled.3.0) in
    let at : word ≡ item = cc in
    let rest_is : words ≡ spelled.1 ++ rest = cc in
    at_plain (positionals_of items ++ late) (subst IsPlain (sym at) spelled.3.1) (all_is ∙ ap (λ w. w ∷ (positionals_of items ++ late)) (sym at))
    (record { items = items; front = spelled.1; rest = rest; late = late; whole = rest_is; spelled = spelled.4; end = end; positional_is = refl; options_are = every_is })
begins_by names word words all every (valued name value ∷ items) front rest late whole spelled end all_is every_is =
    elim spelled.3.1 [
      | inl e ↦
          let here : word ∷ words ≡ assigned name value ∷ (spelled.1 ++ rest) = whole ∙ ap (λ f. f ++ rest) (spelled.2 ∙ ap (λ f. f ++ spelled.1) e) in
          let at : word ≡ assigned name value = cc in
          let rest_is : words ≡ spelled.1 ++ rest = cc in
          at_assigned name value (options_of items) spelled.3.0 at every_is
          (record { items = items; front = spelled.1; rest = rest; late = late; whole = rest_is; spelled = spelled.4; end = end; positional_is = all_is; options_are = refl })
      | inr e ↦
          let here : word ∷ words ≡ named name ∷ value ∷ (spelled.1 ++ rest) = whole ∙ ap (λ f. f ++ rest) (spelled.2 ∙ ap (λ f. f ++ spelled.1) e.0) in
          let at : word ≡ named name = cc in
          let rest_is : words ≡ value ∷ (spelled.1 ++ rest) = cc in
          at_named name value (spelled.1 ++ rest) (options_of items) spelled.3.0 at rest_is e.1 every_is
          (record { items = items; front = spelled.1; rest = rest; late = late; whole = refl; spelled = spelled.4; end = end; positional_is = all_is; options_are = refl })
    ]
begins_by names word words all every (flag name ∷ items) front rest late whole spelled end all_is every_is =
    let here : word ∷ words ≡ named name ∷ (spelled.1 ++ rest) = whole ∙ ap (λ f. f ++ rest) (spelled.2 ∙ ap (λ f. f ++ spelled.1) spelled.3.1) in
    let at : word ≡ named name = cc in
    let rest_is : words ≡ spelled.1 ++ rest = cc in
    at_flag name (options_of items) spelled.3.0 at every_is
    (record { items = items; front = spelled.1; rest = rest; late = late; whole = rest_is; spelled = spelled.4; end = end; positional_is = all_is; options_are = refl })

pub begins : (names : Names) (word : List ℕ) (words all : List (List ℕ)) (every : List Given)
    → Reading names (word ∷ words) all every → Begins names word words all every
begins names word words all every r = begins_by names word words all every r.items r.front r.rest r.late r.whole r.spelled r.end r.positional_is r.options_are

-- no words are no operands
nothing_by : (names : Names) (all : List (List ℕ)) (every : List Given) (items : List Item) (front rest late : List (List ℕ))
    → [] ≡ front ++ rest → ItemsSpelling names items front → IsEnd rest late → all ≡ positionals_of items ++ late → every ≡ options_of items → (all ≡ []) × (every ≡ [])
nothing_by names all every [] front rest late whole spelled end all_is every_is =
    let here : [] ≡ rest = whole ∙ ap (λ f. f ++ rest) spelled in
    elim end [ inl e ↦ (all_is ∙ e.1, every_is) | inr e ↦ absurd (let bad : [] ≡ codes "--" ∷ late = here ∙ e in cc) ]
nothing_by names all every (positional item ∷ items) front rest late whole spelled end all_is every_is =
    let here : [] ≡ item ∷ (spelled.1 ++ rest) = whole ∙ ap (λ f. f ++ rest) (spelled.2 ∙ ap (λ f. f ++ spelled.1) spelled.3.0) in absurd (cc)
nothing_by names all every (valued name value ∷ items) front rest late whole spelled end all_is every_is =
    elim spelled.3.1 [
      | inl e ↦ let here : [] ≡ assigned name value ∷ (spelled.1 ++ rest) = whole ∙ ap (λ f. f ++ rest) (spelled.2 ∙ ap (λ f. f ++ spelled.1) e) in absurd (cc)
      | inr e ↦ let here : [] ≡ named name ∷ value ∷ (spelled.1 ++ rest) = whole ∙ ap (λ f. f ++ rest) (spelled.2 ∙ ap (λ f. f ++ spelled.1) e.0) in absurd (cc)
    ]
nothing_by names all every (flag name ∷ items) front rest late whole spelled end all_is every_is =
    let here : [] ≡ named name ∷ (spelled.1 ++ rest) = whole ∙ ap (λ f. f ++ rest) (spelled.2 ∙ ap (λ f. f ++ spelled.1) spelled.3.1) in absurd (cc)

pub nothing_only : (names : Names) (all : List (List ℕ)) (every : List Given) → Reading names [] all every → (all ≡ []) × (every ≡ [])
nothing_only names all every r = nothing_by names all every r.items r.front r.rest r.late r.whole r.spelled r.end r.positional_is r.options_are

pub nothing : (names : Names) → Reading names [] [] []
nothing names = record { items = []; front = []; rest = []; late = []; whole = refl; spelled = refl; end = inl (refl, refl); positional_is = refl; options_are = refl }

pub end_reading : (names : Names) (word : List ℕ) (late : List (List ℕ)) → word ≡ codes "--" → Reading names (word ∷ late) late []
end_reading names word late at = record {
  items = [];
  front = [];
  rest = word ∷ late;
  late = late;
  whole = refl;
  spelled = refl;
  end = inr (ap (λ w. w ∷ late) at);
  positional_is = refl;
  options_are = refl;
}

-- one more item before a reading
plain_onto : (names : Names) (word : List ℕ) (words later : List (List ℕ)) (others : List Given) → IsPlain word
    → Reading names words later others → Reading names (word ∷ words) (word ∷ later) others
plain_onto names word words later others plain r = record {
  items = positional word ∷ r.items;
  front = word ∷ r.front;
  rest = r.rest;
  late = r.late;
  whole = ap (λ ws. word ∷ ws) r.whole;
  spelled = (word ∷ [], r.front, refl, (refl, plain), r.spelled);
  end = r.end;
  positional_is = ap (λ ws. word ∷ ws) r.positional_is;
  options_are = r.options_are;
}

assigned_onto : (names : Names) (name value word : List ℕ) (words later : List (List ℕ)) (others : List Given)
    → Contains names.valued name → word ≡ assigned name value → Reading names words later others → Reading names (word ∷ words) later ((name, Some value) ∷ others)
assigned_onto names name value word words later others among at r = record {
  items = valued name value ∷ r.items;
  front = word ∷ r.front;
  rest = r.rest;
  late = r.late;
  whole = ap (λ ws. word ∷ ws) r.whole;
  spelled = (word ∷ [], r.front, refl, (among, inl (ap (λ w. w ∷ []) at)), r.spelled);
  end = r.end;
  positional_is = r.positional_is;
  options_are = ap (λ os. (name, Some value) ∷ os) r.options_are;
}

named_onto : (names : Names) (name value word : List ℕ) (words later : List (List ℕ)) (others : List Given)
    → Contains names.valued name → word ≡ named name → IsPlain value → Reading names words later others
    → Reading names (word ∷ value ∷ words) later ((name, Some value) ∷ others)
named_onto names name value word words later others among at plain r = record {
  items = valued name value ∷ r.items;
  front = word ∷ value ∷ r.front;
  rest = r.rest;
  late = r.late;
  whole = ap (λ ws. word ∷ value ∷ ws) r.whole;
  spelled = (word ∷ value ∷ [], r.front, refl, (among, inr (ap (λ w. w ∷ value ∷ []) at, plain)), r.spelled);
  end = r.end;
  positional_is = r.positional_is;
  options_are = ap (λ os. (name, Some value) ∷ os) r.options_are;
}

flag_onto : (names : Names) (name word : List ℕ) (words later : List (List ℕ)) (others : List Given)
    → Contains names.flags name → word ≡ named name → Reading names words later others → Reading names (word ∷ words) later ((name, None) ∷ others)
flag_onto names name word words later others among at r = record {
  items = flag name ∷ r.items;
  front = word ∷ r.front;
  rest = r.rest;
  late = r.late;
  whole = ap (λ ws. word ∷ ws) r.whole;
  spelled = (word ∷ [], r.front, refl, (among, ap (λ w. w ∷ []) at), r.spelled);
  end = r.end;
  positional_is = r.positional_is;
  options_are = ap (λ os. (name, None) ∷ os) r.options_are;
}

-- a plain word doesn't begin with two dashes
pub not_plain : (word tail : List ℕ) → word ≡ 45 ∷ 45 ∷ tail → IsPlain word → ⊥
not_plain word tail at (inl e) = let bad : 45 ∷ 45 ∷ tail ≡ 45 ∷ [] = sym at ∙ e in cc
not_plain word tail at (inr e) = let bad : begins_with_dash (45 ∷ 45 ∷ tail) ≡ false = ap begins_with_dash (sym at) ∙ e in cc

-- a text is cut at its first `=` in one way
cut : (a b v w : List ℕ) → LacksEquals a → LacksEquals b → a ++ (61 ∷ v) ≡ b ++ (61 ∷ w) → (a ≡ b) × (v ≡ w)
cut [] [] v w la lb e = (refl, cc)
cut [] (y ∷ b) v w la lb e = absurd (lb 0 (omega arith) (let at : y ≡ 61 = cc in at))
cut (x ∷ a) [] v w la lb e = absurd (la 0 (omega arith) (let at : x ≡ 61 = cc in at))
cut (x ∷ a) (y ∷ b) v w la lb e =
    let first : x ≡ y = cc in
    let rest : a ++ (61 ∷ v) ≡ b ++ (61 ∷ w) = cc in
    let p = cut a b v w (λ i below. la (suc i) (omega (arith, below))) (λ i below. lb (suc i) (omega (arith, below))) rest in
    (ap₂ (λ c cs. c ∷ cs) first p.0, p.1)

no_cut : (a b v : List ℕ) → LacksEquals a → a ≡ b ++ (61 ∷ v) → ⊥
no_cut [] [] v la e = cc
no_cut [] (y ∷ b) v la e = cc
no_cut (x ∷ a) [] v la e = la 0 (omega arith) (let at : x ≡ 61 = cc in at)
no_cut (x ∷ a) (y ∷ b) v la e = let rest : a ≡ b ++ (61 ∷ v) = cc in no_cut a b v (λ i below. la (suc i) (omega (arith, below))) rest

same_assigned : (a b v w : List ℕ) → LacksEquals a → LacksEquals b → assigned a v ≡ assigned b w → (a ≡ b) × (v ≡ w)
same_assigned a b v w la lb e = let tails : a ++ (61 ∷ v) ≡ b ++ (61 ∷ w) = cc in cut a b v w la lb tails

same_named : (a b : List ℕ) → named a ≡ named b → a ≡ b
same_named a b e = cc

not_assigned : (a b v : List ℕ) → LacksEquals a → named a ≡ assigned b v → ⊥
not_assigned a b v la e = let tails : a ≡ b ++ (61 ∷ v) = cc in no_cut a b v la tails

no_end : (name word : List ℕ) → name ≢ [] → word ≡ named name → word ≡ codes "--" → ⊥
no_end name word some at end = let e : named name ≡ codes "--" = sym at ∙ end in let bad : name ≡ [] = cc in some bad

no_end_assigned : (name value word : List ℕ) → word ≡ assigned name value → word ≡ codes "--" → ⊥
no_end_assigned name value word at end =
    let e : assigned name value ≡ codes "--" = sym at ∙ end in
    let bad : name ++ (codes "=" ++ value) ≡ [] = cc in
    omega (arith, ap length bad, length-append name (codes "=" ++ value))

pub moves_plain : (names : Names) (word : List ℕ) (words : List (List ℕ)) → IsPlain word → Moves names (word ∷ words) (word ∷ []) [] words
moves_plain names word words plain = record {
  onto = λ later others r. plain_onto names word words later others plain r;
  only = λ all every r. elim (begins names word words all every r) [
    | at_end at all_is every_is ↦ absurd (not_plain word [] at plain)
    | at_plain later also all_is reading ↦ record { later = later; others = every; positional_is = all_is; options_are = refl; reading = reading }
    | at_assigned name value others known at every_is reading ↦ absurd (not_plain word (name ++ (codes "=" ++ value)) at plain)
    | at_named name value rest others known at words_are fits every_is reading ↦ absurd (not_plain word name at plain)
    | at_flag name others known at every_is reading ↦ absurd (not_plain word name at plain)
  ];
}

pub moves_assigned : (names : Names) (name value word : List ℕ) (words : List (List ℕ)) → AreNames names → Contains names.valued name → word ≡ assigned name value
    → Moves names (word ∷ words) [] ((name, Some value) ∷ []) words
moves_assigned names name value word words are among at = record {
  onto = λ later others r. assigned_onto names name value word words later others among at r;
  only = λ all every r. elim (begins names word words all every r) [
    | at_end at2 all_is every_is ↦ absurd (no_end_assigned name value word at at2)
    | at_plain later plain all_is reading ↦ absurd (not_plain word (name ++ (codes "=" ++ value)) at plain)
    | at_assigned name2 value2 others known at2 every_is reading ↦
        let same = same_assigned name2 name value2 value (are.valued_lack name2 known) (are.valued_lack name among) (sym at2 ∙ at) in
        record { later = all; others = others; positional_is = refl; options_are = every_is ∙ ap₂ (λ n v. (n, Some v) ∷ others) same.0 same.1; reading = reading }
    | at_named name2 value2 rest others known at2 words_are plain every_is reading ↦
        absurd (not_assigned name2 name value (are.valued_lack name2 known) (sym at2 ∙ at))
    | at_flag name2 others known at2 every_is reading ↦
        absurd (not_assigned name2 name value (are.flags_lack name2 known) (sym at2 ∙ at))
  ];
}

moves_two : (names : Names) (name value word : List ℕ) (words : List (List ℕ)) → AreNames names → Contains names.valued name → word ≡ named name → IsPlain value
    → Moves names (word ∷ value ∷ words) [] ((name, Some value) ∷ []) words
moves_two names name value word words are among at fits = record {
  onto = λ later others r. named_onto names name value word words later others among at fits r;
  only = λ all every r. elim (begins names word (value ∷ words) all every r) [
    | at_end at2 all_is every_is ↦ absurd (no_end name word (are.valued_some name among) at at2)
    | at_plain later plain all_is reading ↦ absurd (not_plain word name at plain)
    | at_assigned name2 value2 others known at2 every_is reading ↦
        absurd (not_assigned name name2 value2 (are.valued_lack name among) (sym at ∙ at2))
    | at_named name2 value2 rest others known at2 words_are plain every_is reading ↦
        let n : name2 ≡ name = same_named name2 name (sym at2 ∙ at) in
        let v : value2 ≡ value = cc in
        let r : rest ≡ words = cc in
        record {
          later = all;
          others = others;
          positional_is = refl;
          options_are = every_is ∙ ap₂ (λ m u. (m, Some u) ∷ others) n v;
          reading = subst (λ ws. Reading names ws all others) r reading;
        }
    | at_flag name2 others known at2 every_is reading ↦
        absurd (are.apart name among (subst (λ n. Contains names.flags n) (same_named name2 name (sym at2 ∙ at)) known))
  ];
}

pub moves_named : (names : Names) (name value word : List ℕ) (words rest : List (List ℕ)) → AreNames names → Contains names.valued name → word ≡ named name
    → words ≡ value ∷ rest → IsPlain value → Moves names (word ∷ words) [] ((name, Some value) ∷ []) rest
moves_named names name value word words rest are among at words_are fits =
    subst (λ ws. Moves names (word ∷ ws) [] ((name, Some value) ∷ []) rest) (sym words_are) (moves_two names name value word rest are among at fits)

pub moves_flag : (names : Names) (name word : List ℕ) (words : List (List ℕ)) → AreNames names → Contains names.flags name → word ≡ named name
    → Moves names (word ∷ words) [] ((name, None) ∷ []) words
moves_flag names name word words are among at = record {
  onto = λ later others r. flag_onto names name word words later others among at r;
  only = λ all every r. elim (begins names word words all every r) [
    | at_end at2 all_is every_is ↦ absurd (no_end name word (are.flags_some name among) at at2)
    | at_plain later plain all_is reading ↦ absurd (not_plain word name at plain)
    | at_assigned name2 value2 others known at2 every_is reading ↦
        absurd (not_assigned name name2 value2 (are.flags_lack name among) (sym at ∙ at2))
    | at_named name2 value2 rest others known at2 words_are plain every_is reading ↦
        absurd (are.apart name (subst (λ n. Contains names.valued n) (same_named name2 name (sym at2 ∙ at)) known) among)
    | at_flag name2 others known at2 every_is reading ↦
        let n : name2 ≡ name = same_named name2 name (sym at2 ∙ at) in
        record { later = all; others = others; positional_is = refl; options_are = every_is ∙ ap (λ m. (m, None) ∷ others) n; reading = reading }
  ];
}

-- words whose first begins no item have no reading
pub no_item : (names : Names) (word : List ℕ) (words : List (List ℕ)) → word ≢ codes "--" → (IsPlain word → ⊥)
    → ((name value : List ℕ) → Contains names.valued name → word ≡ assigned name value → ⊥)
    → ((name value : List ℕ) (rest : List (List ℕ)) → Contains names.valued name → word ≡ named name → words ≡ value ∷ rest → IsPlain value → ⊥)
    → ((name : List ℕ) → Contains names.flags name → word ≡ named name → ⊥)
    → HasNoReading names (word ∷ words)
no_item names word words no_end no_plain no_assigned no_named no_flag = λ all every r.
    elim (begins names word words all every r) [
      | at_end at all_is every_is ↦ no_end at
      | at_plain later plain all_is reading ↦ no_plain plain
      | at_assigned name value others known at every_is reading ↦ no_assigned name value known at
      | at_named name value rest others known at words_are plain every_is reading ↦ no_named name value rest known at words_are plain
      | at_flag name others known at every_is reading ↦ no_flag name known at
    ]

-- the word `--` and the words behind it
pub end_only : (names : Names) (word : List ℕ) (words all : List (List ℕ)) (every : List Given)
    → AreNames names → word ≡ codes "--" → Reading names (word ∷ words) all every → (all ≡ words) × (every ≡ [])
end_only names word words all every are at r =
    elim (begins names word words all every r) [
      | at_end also all_is every_is ↦ (all_is, every_is)
      | at_plain later plain all_is reading ↦ absurd (not_plain word [] at plain)
      | at_assigned name value others known at2 every_is reading ↦ absurd (no_end_assigned name value word at2 at)
      | at_named name value rest others known at2 words_are plain every_is reading ↦ absurd (no_end name word (are.valued_some name known) at2 at)
      | at_flag name others known at2 every_is reading ↦ absurd (no_end name word (are.flags_some name known) at2 at)
    ]

pub spelling_of : (names : Names) (words all : List (List ℕ)) (every : List Given) → StandOnce every → Reading names words all every → WordsSpelling names words all every
spelling_of names words all every once r = record { reading = r; once = once }

-- words have one reading
one_by : (fuel : ℕ) (names : Names) (words all more : List (List ℕ)) (every others : List Given) → AreNames names
    → length words < fuel → Reading names words all every → Reading names words more others → (all ≡ more) × (every ≡ others)
one_by zero names words all more every others are enough r s = absurd (omega (arith, enough))
one_by (suc fuel) names [] all more every others are enough r s =
    let p = nothing_only names all every r in
    let q = nothing_only names more others s in
    (p.0 ∙ sym q.0, p.1 ∙ sym q.1)
one_by (suc fuel) names (word ∷ words) all more every others are enough r s =
    elim (begins names word words all every r) [
      | at_end at all_is every_is ↦
          let q = end_only names word words more others are at s in (all_is ∙ sym q.0, every_is ∙ sym q.1)
      | at_plain later plain all_is reading ↦
          let q = (moves_plain names word words plain).only more others s in
          let t = one_by fuel names words later q.later every q.others are (omega (arith, enough)) reading q.reading in
          (all_is ∙ ap (λ ws. word ∷ ws) t.0 ∙ sym q.positional_is, t.1 ∙ sym q.options_are)
      | at_assigned name value rest_options among at every_is reading ↦
          let q = (moves_assigned names name value word words are among at).only more others s in
          let t = one_by fuel names words all q.later rest_options q.others are (omega (arith, enough)) reading q.reading in
          (t.0 ∙ sym q.positional_is, every_is ∙ ap (λ os. (name, Some value) ∷ os) t.1 ∙ sym q.options_are)
      | at_named name value rest rest_options among at words_are plain every_is reading ↦
          let q = (moves_named names name value word words rest are among at words_are plain).only more others s in
          let t = one_by fuel names rest all q.later rest_options q.others are (omega (arith, enough, ap length words_are)) reading q.reading in
          (t.0 ∙ sym q.positional_is, every_is ∙ ap (λ os. (name, Some value) ∷ os) t.1 ∙ sym q.options_are)
      | at_flag name rest_options among at every_is reading ↦
          let q = (moves_flag names name word words are among at).only more others s in
          let t = one_by fuel names words all q.later rest_options q.others are (omega (arith, enough)) reading q.reading in
          (t.0 ∙ sym q.positional_is, every_is ∙ ap (λ os. (name, None) ∷ os) t.1 ∙ sym q.options_are)
    ]

pub one_spelling_of_words : (names : Names) (words all more : List (List ℕ)) (every others : List Given) → AreNames names
    → WordsSpelling names words all every → WordsSpelling names words more others → (all ≡ more) × (every ≡ others)
one_spelling_of_words names words all more every others are r s =
    one_by (suc (length words)) names words all more every others are (omega arith) r.reading s.reading

-- a first word that is neither plain nor begins with two dashes
pub no_dashes : (names : Names) (word : List ℕ) (words : List (List ℕ)) → word ≢ codes "--" → (IsPlain word → ⊥)
    → ((rest : List ℕ) → word ≡ codes "--" ++ rest → ⊥) → HasNoReading names (word ∷ words)
no_dashes names word words no_end no_plain no_front =
    no_item names word words no_end no_plain
    (λ name value among at. no_front (name ++ (codes "=" ++ value)) at)
    (λ name value rest among at words_are plain. no_front name at)
    (λ name among at. no_front name at)

-- a name behind the dashes that isn't one of the command's, or whose value is missing
pub no_named : (names : Names) (name : List ℕ) (words : List (List ℕ)) → name ≢ [] → LacksEquals name → (Contains names.flags name → ⊥)
    → ((value : List ℕ) (rest : List (List ℕ)) → Contains names.valued name → words ≡ value ∷ rest → IsPlain value → ⊥) → HasNoReading names (named name ∷ words)
no_named names name words some lack no_flag no_value =
    no_item names (named name) words (λ at. no_end name (named name) some refl at) (λ plain. not_plain (named name) name refl plain)
    (λ other value among at. not_assigned name other value lack at)
    (λ other value rest among at words_are plain. no_value value rest (subst (λ n. Contains names.valued n) (same_named other name (sym at)) among) words_are plain)
    (λ other among at. no_flag (subst (λ n. Contains names.flags n) (same_named other name (sym at)) among))

-- a name before `=` that isn't one of the command's
pub no_assigned : (names : Names) (text name value : List ℕ) (words : List (List ℕ)) → AreNames names → text ≢ [] → LacksEquals name → text ≡ name ++ (61 ∷ value)
    → (Contains names.valued name → ⊥) → HasNoReading names (named text ∷ words)
no_assigned names text name value words are some lack text_is unknown =
    no_item names (named text) words (λ at. no_end text (named text) some refl at) (λ plain. not_plain (named text) text refl plain)
    (λ other v among at.
    let e : assigned name value ≡ assigned other v = ap named (sym text_is) ∙ at in
    unknown (subst (λ n. Contains names.valued n) (sym (same_assigned name other value v lack (are.valued_lack other among) e).0) among))
    (λ other v rest among at words_are plain. no_cut other name value (are.valued_lack other among) (same_named other text (sym at) ∙ text_is))
    (λ other among at. no_cut other name value (are.flags_lack other among) (same_named other text (sym at) ∙ text_is))

pub no_front : {X : Type 0} (f : X → List ℕ) (xs : List X) (value : List ℕ) (rest : List (List ℕ)) → length xs ≡ 0 → map f xs ≡ value ∷ rest → ⊥
no_front f [] value rest none e = cc
no_front f (x ∷ xs) value rest none e = omega (arith, none)
