-- The rows of matches, and the operands that they hold.
use Rattle.std.proofs.Common.{◌≡◌, ◌≢◌, inl, inr, true≢false, List, [], ◌∷◌, ◌++◌, map, codes, Bool, true, false, cond, ◌||◌, refl, sym, ap, ap₂, ◌∙◌, subst, Option, Some, None}
use Rattle.std.specs.Prelude.{⊤, Contains, filter_map, option_and_then, fold}
use Rattle.std.specs.List.{cons_option}
use Rattle.std.specs.Option.{option_or}
use Rattle.std.specs.Str.{bytes_eq}
use Rattle.std.proofs.lemmas.Slice.Eq.{bytes_eq-Decides}
use Rattle.std.proofs.lemmas.List.{append-nil}
use Rattle.std.proofs.lemmas.List.Folds.{find-append, list_any-append}
use Rattle.std.proofs.lemmas.List.Sums.{fold-append}
use Rattle.std.proofs.lemmas.List.Elements.{filter_map-append}
use Rattle.clap.specs.Walk.{Row, Text, at_row, default_rows, has_row, more_values, reading_by, stronger, used, with_default, with_values, without}
use Rattle.clap.specs.declared.builder.action.ArgAction.TheVariants.{Set, SetTrue}
use Rattle.clap.specs.declared.parser.matches.ValueSource.{ValueSource}
use Rattle.clap.specs.declared.parser.matches.ValueSource.TheVariants.{CommandLine, DefaultValue}
use Rattle.tg_bytes.specs.Lists.{neither, none_in}
use Rattle.tg_words.specs.Words.{Names, Given}
use Rattle.tg_words.specs.Parsing.{given_from, option_at, option_of, options_in, positional_in, row_at, value_in, values_of}
use Rattle.tg_words.proofs.Naming.{first_or_later, at_first, later_too, bytes_same, among_passes}
use Rattle.tg_words.proofs.Rules.{args_for, option_arg, positional_arg}

-- the rows are of the words, and of no id are two
abbrev pub AreClean : List Row → Type 0
AreClean [] = ⊤
AreClean (r ∷ rs) = (r.source ≡ Some CommandLine) × (has_row r.id rs ≡ false) × AreClean rs

abbrev pub AreApart : List Row → Type 0
AreApart [] = ⊤
AreApart (r ∷ rs) = (has_row r.id rs ≡ false) × AreApart rs

-- the positional words and the options that the rows hold
pub record Holds (flags : List Text) (rows : List Row) (positional : List Text) (options : List Given) : Type 0 where
  pub positional_is : positional_in rows ≡ positional
  pub options_are : filter_map (option_of flags) rows ≡ options
  pub clean : AreClean rows

pub record Ends (flags : List Text) (rows : List Row) (positional : List Text) (options : List Given) : Type 0 where
  pub positional_is : positional_in rows ≡ positional
  pub options_are : filter_map (option_of flags) rows ≡ options
  pub apart : AreApart rows

apart_of : (rows : List Row) → AreClean rows → AreApart rows
apart_of [] c = tt
apart_of (r ∷ rs) c = (c.1, apart_of rs c.2)

pub ends_of : (flags : List Text) (rows : List Row) (positional : List Text) (options : List Given) → Holds flags rows positional options → Ends flags rows positional options
ends_of flags rows positional options h = record { positional_is = h.positional_is; options_are = h.options_are; apart = apart_of rows h.clean }

-- ---- a row that is not there yet

pub at_row_missing : (id : Text) (change : Row → List Row) (missing rows : List Row) → has_row id rows ≡ false → at_row id change missing rows ≡ rows ++ missing
at_row_missing id change missing [] e = refl
at_row_missing id change missing (r ∷ rs) e =
    let p = neither (bytes_eq r.id id) (has_row id rs) e in
    ap (λ b. cond b (change r ++ rs) (r ∷ at_row id change missing rs)) p.0 ∙ ap (λ xs. r ∷ xs) (at_row_missing id change missing rs p.1)

pub without_missing : (id : Text) (rows : List Row) → has_row id rows ≡ false → without id rows ≡ rows
without_missing id rows e = at_row_missing id (λ _. []) [] rows e ∙ append-nil rows

no_row_more : (id : Text) (rows : List Row) (row : Row) → has_row id rows ≡ false → bytes_eq row.id id ≡ false → has_row id (rows ++ row ∷ []) ≡ false
no_row_more id rows row e other = list_any-append (λ (r : Row). bytes_eq r.id id) rows (row ∷ []) ∙ rw (e, other) refl

other_way : (a b : Text) → bytes_eq a b ≡ false → bytes_eq b a ≡ false
other_way a b e = go (bytes_eq b a) refl
  where
    go : (x : Bool) → bytes_eq b a ≡ x → x ≡ false
    go true f = absurd (true≢false (sym ((bytes_eq-Decides a b).1 (sym ((bytes_eq-Decides b a).0 f))) ∙ e))
    go false f = refl

clean_more : (rows : List Row) (row : Row) → AreClean rows → row.source ≡ Some CommandLine → has_row row.id rows ≡ false → AreClean (rows ++ row ∷ [])
clean_more [] row c source e = (source, refl, tt)
clean_more (r ∷ rs) row c source e =
    let p = neither (bytes_eq r.id row.id) (has_row row.id rs) e in
    (c.0, no_row_more r.id rs row c.1 (other_way r.id row.id p.0), clean_more rs row c.2 source p.1)

apart_more : (rows : List Row) (row : Row) → AreApart rows → has_row row.id rows ≡ false → AreApart (rows ++ row ∷ [])
apart_more [] row c e = (refl, tt)
apart_more (r ∷ rs) row c e =
    let p = neither (bytes_eq r.id row.id) (has_row row.id rs) e in
    (no_row_more r.id rs row c.0 (other_way r.id row.id p.0), apart_more rs row c.1 p.1)

or-none : {X : Type 0} (o : Option X) → option_or o None ≡ o
or-none None = refl
or-none (Some x) = refl

not_empty : (name : Text) → name ≢ [] → bytes_eq name [] ≡ false
not_empty name some = go (bytes_eq name []) refl
  where
    go : (b : Bool) → bytes_eq name [] ≡ b → b ≡ false
    go true e = absurd (some ((bytes_eq-Decides name []).0 e))
    go false e = refl

positional_same : (rows : List Row) (row : Row) → row.id ≢ [] → positional_in (rows ++ row ∷ []) ≡ positional_in rows
positional_same rows row some = ap values_of
    (find-append (λ (r : Row). bytes_eq r.id []) rows (row ∷ [])
    ∙ ap (λ b. option_or (row_at rows []) (cond b (Some row) None)) (not_empty row.id some)
    ∙ or-none (row_at rows []))

pub one_option : (flags : List Text) (rows : List Row) (positional : List Text) (options : List Given) (row : Row) → Holds flags rows positional options
    → row.id ≢ [] → row.source ≡ Some CommandLine → has_row row.id rows ≡ false → Holds flags (rows ++ row ∷ []) positional (options ++ (row.id, value_in flags row) ∷ [])
one_option flags rows positional options row h some source new = record {
  positional_is = positional_same rows row some ∙ h.positional_is;
  options_are = filter_map-append (option_of flags) rows (row ∷ [])
      ∙ ap₂ (λ xs o. xs ++ cons_option o []) h.options_are
      (ap (λ b. cond b None (given_from row.source (row.id, value_in flags row))) (not_empty row.id some) ∙ ap (λ s. given_from s (row.id, value_in flags row)) source);
  clean = clean_more rows row h.clean source new;
}

-- a default isn't of the words
one_default : (flags : List Text) (rows : List Row) (positional : List Text) (options : List Given) (row : Row) → Ends flags rows positional options
    → row.id ≢ [] → row.source ≡ Some DefaultValue → has_row row.id rows ≡ false → Ends flags (rows ++ row ∷ []) positional options
one_default flags rows positional options row h some source new = record {
  positional_is = positional_same rows row some ∙ h.positional_is;
  options_are = filter_map-append (option_of flags) rows (row ∷ [])
      ∙ ap₂ (λ xs o. xs ++ cons_option o []) h.options_are
      (ap (λ b. cond b None (given_from row.source (row.id, value_in flags row))) (not_empty row.id some) ∙ ap (λ s. given_from s (row.id, value_in flags row)) source)
      ∙ append-nil options;
  apart = apart_more rows row h.apart new;
}

-- ---- one more positional word

abbrev more_words : Text → List Row → List Row
more_words word = with_values [] (reading_by positional_arg) CommandLine (word ∷ [])

words_more : (word : Text) (rows : List Row) → positional_in (more_words word rows) ≡ positional_in rows ++ word ∷ []
words_more word [] = refl
words_more word (r ∷ rs) = go (bytes_eq r.id []) refl (words_more word rs)
  where
    go : (b : Bool) → bytes_eq r.id [] ≡ b → positional_in (more_words word rs) ≡ positional_in rs ++ word ∷ []
        → positional_in (cond (bytes_eq r.id []) (more_values CommandLine (word ∷ []) r ++ rs) (r ∷ more_words word rs))
        ≡ values_of (cond (bytes_eq r.id []) (Some r) (row_at rs [])) ++ word ∷ []
    go true e again = rw (e, e) refl
    go false e again = rw (e, e) again

options_same : (flags : List Text) (word : Text) (rows : List Row) → filter_map (option_of flags) (more_words word rows) ≡ filter_map (option_of flags) rows
options_same flags word [] = refl
options_same flags word (r ∷ rs) = go (bytes_eq r.id []) refl (options_same flags word rs)
  where
    go : (b : Bool) → bytes_eq r.id [] ≡ b → filter_map (option_of flags) (more_words word rs) ≡ filter_map (option_of flags) rs
        → filter_map (option_of flags) (cond (bytes_eq r.id []) (more_values CommandLine (word ∷ []) r ++ rs) (r ∷ more_words word rs)) ≡ filter_map (option_of flags) (r ∷ rs)
    go true e again = rw (e, e) refl
    go false e again = ap (λ b. filter_map (option_of flags) (cond b (more_values CommandLine (word ∷ []) r ++ rs) (r ∷ more_words word rs))) e
        ∙ ap (λ xs. cons_option (option_of flags r) xs) again

no_row_words : (word id : Text) (rows : List Row) → has_row id rows ≡ false → bytes_eq [] id ≡ false → has_row id (more_words word rows) ≡ false
no_row_words word id [] e other = rw other refl
no_row_words word id (r ∷ rs) e other =
    let p = neither (bytes_eq r.id id) (has_row id rs) e in
    go (bytes_eq r.id []) refl p.0 p.1 (no_row_words word id rs p.1 other)
  where
    go : (b : Bool) → bytes_eq r.id [] ≡ b → bytes_eq r.id id ≡ false → has_row id rs ≡ false → has_row id (more_words word rs) ≡ false
        → has_row id (cond (bytes_eq r.id []) (more_values CommandLine (word ∷ []) r ++ rs) (r ∷ more_words word rs)) ≡ false
    go true e f rest again = rw (e, f) rest
    go false e f rest again = rw (e, f) again

strong : (s : Option ValueSource) → s ≡ Some CommandLine → Some (stronger s CommandLine) ≡ Some CommandLine
strong s e = ap (λ t. Some (stronger t CommandLine)) e

clean_words : (word : Text) (rows : List Row) → AreClean rows → AreClean (more_words word rows)
clean_words word [] c = (refl, refl, tt)
clean_words word (r ∷ rs) c = go (bytes_eq r.id []) refl (clean_words word rs c.2)
  where
    go : (b : Bool) → bytes_eq r.id [] ≡ b → AreClean (more_words word rs)
        → AreClean (cond (bytes_eq r.id []) (more_values CommandLine (word ∷ []) r ++ rs) (r ∷ more_words word rs))
    go true e again = rw e (strong r.source c.0, c.1, c.2)
    go false e again = rw e (c.0, no_row_words word r.id rs c.1 (other_way r.id [] e), again)

pub one_word_more : (flags : List Text) (rows : List Row) (positional : List Text) (options : List Given) (word : Text) → Holds flags rows positional options
    → Holds flags (used positional_arg (word ∷ []) rows) (positional ++ word ∷ []) options
one_word_more flags rows positional options word h = record {
  positional_is = words_more word rows ∙ ap (λ ws. ws ++ word ∷ []) h.positional_is;
  options_are = options_same flags word rows ∙ h.options_are;
  clean = clean_words word rows h.clean;
}

-- ---- one more option

abbrev pub valued_row : Text → Text → Row
valued_row name value = record { id = name; values = value ∷ []; count = None; source = Some CommandLine; reading = reading_by (option_arg Set name) }

abbrev pub flag_row : Text → Row
flag_row name = record { id = name; values = codes "true" ∷ []; count = None; source = Some CommandLine; reading = reading_by (option_arg SetTrue name) }

pub used_valued : (name value : Text) (rows : List Row) → has_row name rows ≡ false → used (option_arg Set name) (value ∷ []) rows ≡ rows ++ valued_row name value ∷ []
used_valued name value rows new =
    ap (with_values name (reading_by (option_arg Set name)) CommandLine (value ∷ [])) (without_missing name rows new)
    ∙ at_row_missing name (more_values CommandLine (value ∷ [])) (valued_row name value ∷ []) rows new

pub used_flag : (name : Text) (rows : List Row) → has_row name rows ≡ false → used (option_arg SetTrue name) [] rows ≡ rows ++ flag_row name ∷ []
used_flag name rows new =
    ap (with_values name (reading_by (option_arg SetTrue name)) CommandLine (codes "true" ∷ [])) (without_missing name rows new)
    ∙ at_row_missing name (more_values CommandLine (codes "true" ∷ [])) (flag_row name ∷ []) rows new

-- an option has a row where it stands among the options
pub row_given : (flags : List Text) (rows : List Row) (name : Text) → AreClean rows → name ≢ [] → has_row name rows ≡ true
    → (o : Given) × Contains (filter_map (option_of flags) rows) o × (o.0 ≡ name)
row_given flags [] name c some e = absurd (true≢false (sym e))
row_given flags (r ∷ rs) name c some e = go (bytes_eq r.id name) refl e (λ later. row_given flags rs name c.2 some later)
  where
    here : bytes_eq r.id name ≡ true → option_of flags r ≡ Some (r.id, value_in flags r)
    here same = ap (λ b. cond b None (given_from r.source (r.id, value_in flags r))) (not_empty r.id (λ none. some (sym ((bytes_eq-Decides r.id name).0 same) ∙ none)))
        ∙ ap (λ s. given_from s (r.id, value_in flags r)) c.0

    later_one : (o : Option Given) (xs : List Given) (x : Given) → Contains xs x → Contains (cons_option o xs) x
    later_one None xs x among = among
    later_one (Some y) xs x among = later_too y x xs among

    go : (b : Bool) → bytes_eq r.id name ≡ b → (b || has_row name rs) ≡ true → (has_row name rs ≡ true → (o : Given) × Contains (filter_map (option_of flags) rs) o × (o.0 ≡ name))
        → (o : Given) × Contains (cons_option (option_of flags r) (filter_map (option_of flags) rs)) o × (o.0 ≡ name)
    go true same f again = (
      (r.id, value_in flags r),
      subst (λ o. Contains (cons_option o (filter_map (option_of flags) rs)) (r.id, value_in flags r)) (sym (here same)) (at_first (r.id, value_in flags r) (r.id, value_in flags r) (filter_map (option_of flags) rs) refl),
      (bytes_eq-Decides r.id name).0 same,
    )
    go false other f again = let p = again f in (p.0, later_one (option_of flags r) (filter_map (option_of flags) rs) p.0 p.1, p.2)

-- and an option that stands has a row
pub given_row : (flags : List Text) (rows : List Row) (o : Given) → Contains (filter_map (option_of flags) rows) o → has_row o.0 rows ≡ true
given_row flags [] o among = absurd (none_in o among)
given_row flags (r ∷ rs) o among = go (bytes_eq r.id []) refl r.source refl (given_row flags rs o)
  where
    later : has_row o.0 rs ≡ true → has_row o.0 (r ∷ rs) ≡ true
    later e = case (bytes_eq r.id o.0) e
      where
        case : (b : Bool) → has_row o.0 rs ≡ true → (b || has_row o.0 rs) ≡ true
        case true f = refl
        case false f = f

    go : (b : Bool) → bytes_eq r.id [] ≡ b → (s : Option ValueSource) → r.source ≡ s → (Contains (filter_map (option_of flags) rs) o → has_row o.0 rs ≡ true) → has_row o.0 (r ∷ rs) ≡ true
    go true e s f again = later (again (subst (λ x. Contains (cons_option x (filter_map (option_of flags) rs)) o) (ap (λ b. cond b None (given_from r.source (r.id, value_in flags r))) e) among))
    go false e (Some CommandLine) f again =
        let one : option_of flags r ≡ Some (r.id, value_in flags r) = ap (λ b. cond b None (given_from r.source (r.id, value_in flags r))) e ∙ ap (λ t. given_from t (r.id, value_in flags r)) f in
        elim (first_or_later (r.id, value_in flags r) o (filter_map (option_of flags) rs) (subst (λ x. Contains (cons_option x (filter_map (option_of flags) rs)) o) one among)) [
          | inl is ↦ ap (λ b. b || has_row o.0 rs) ((bytes_eq-Decides r.id o.0).1 (ap (λ (g : Given). g.0) is))
          | inr more ↦ later (again more)
        ]
    go false e (Some DefaultValue) f again = later (again (subst (λ x. Contains (cons_option x (filter_map (option_of flags) rs)) o) (ap (λ b. cond b None (given_from r.source (r.id, value_in flags r))) e ∙ ap (λ t. given_from t (r.id, value_in flags r)) f) among))
    go false e None f again = later (again (subst (λ x. Contains (cons_option x (filter_map (option_of flags) rs)) o) (ap (λ b. cond b None (given_from r.source (r.id, value_in flags r))) e ∙ ap (λ t. given_from t (r.id, value_in flags r)) f) among))

-- ---- defaults

abbrev default_row : Text → Row
default_row name = record { id = name; values = codes "false" ∷ []; count = None; source = Some DefaultValue; reading = reading_by (option_arg SetTrue name) }

flag_default : (flags : List Text) (rows : List Row) (positional : List Text) (options : List Given) (name : Text) → name ≢ [] → Ends flags rows positional options
    → Ends flags (with_default rows (option_arg SetTrue name)) positional options
flag_default flags rows positional options name some h = go (has_row name rows) refl
  where
    go : (b : Bool) → has_row name rows ≡ b → Ends flags (cond (has_row name rows) rows (default_rows name (reading_by (option_arg SetTrue name)) (codes "false" ∷ []) rows)) positional options
    go true e = rw e h
    go false e = subst (λ xs. Ends flags xs positional options)
        (sym (ap (λ b. cond b rows (default_rows name (reading_by (option_arg SetTrue name)) (codes "false" ∷ []) rows)) e
        ∙ at_row_missing name (more_values DefaultValue (codes "false" ∷ [])) (default_row name ∷ []) rows e))
        (one_default flags rows positional options (default_row name) h some refl e)

flag_defaults : (flags : List Text) (ns : List Text) (rows : List Row) (positional : List Text) (options : List Given) → ((n : Text) → Contains ns n → n ≢ []) → Ends flags rows positional options
    → Ends flags (fold with_default rows (map (option_arg SetTrue) ns)) positional options
flag_defaults flags [] rows positional options some h = h
flag_defaults flags (n ∷ ns) rows positional options some h =
    flag_defaults flags ns (with_default rows (option_arg SetTrue n)) positional options (λ m among. some m (later_too n m ns among))
    (flag_default flags rows positional options n (some n (at_first n n ns refl)) h)

same_either : (b : Bool) (rows : List Row) → cond b rows rows ≡ rows
same_either true rows = refl
same_either false rows = refl

valued_defaults : (ns : List Text) (rows : List Row) → fold with_default rows (map (option_arg Set) ns) ≡ rows
valued_defaults [] rows = refl
valued_defaults (n ∷ ns) rows = ap (λ xs. fold with_default xs (map (option_arg Set) ns)) (same_either (has_row n rows) rows) ∙ valued_defaults ns rows

pub all_defaults : (names : Names) (flags : List Text) (rows : List Row) (positional : List Text) (options : List Given) → ((n : Text) → Contains names.flags n → n ≢ []) → Ends flags rows positional options
    → Ends flags (fold with_default rows (args_for names)) positional options
all_defaults names flags rows positional options some h =
    let first : with_default rows positional_arg ≡ rows = same_either (has_row [] rows) rows in
    let same : fold with_default rows (args_for names) ≡ fold with_default rows (map (option_arg SetTrue) names.flags) =
    ap (λ xs. fold with_default xs (map (option_arg Set) names.valued ++ map (option_arg SetTrue) names.flags)) first
    ∙ fold-append with_default rows (map (option_arg Set) names.valued) (map (option_arg SetTrue) names.flags)
    ∙ ap (λ xs. fold with_default xs (map (option_arg SetTrue) names.flags)) (valued_defaults names.valued rows) in
    subst (λ xs. Ends flags xs positional options) (sym same) (flag_defaults flags names.flags rows positional options some h)

-- ---- each row is the first of its id

among_row : (rows : List Row) (r : Row) → Contains rows r → has_row r.id rows ≡ true
among_row rows r among = among_passes (λ (x : Row). bytes_eq x.id r.id) rows r among (bytes_same r.id)

own_row : (rows : List Row) (r : Row) → AreApart rows → Contains rows r → row_at rows r.id ≡ Some r
own_row [] r apart among = absurd (none_in r among)
own_row (y ∷ ys) r apart among = elim (first_or_later y r ys among) [
  | inl is ↦ ap (λ b. cond b (Some y) (row_at ys r.id)) ((bytes_eq-Decides y.id r.id).1 (ap (λ (x : Row). x.id) is)) ∙ ap (λ x. Some x) is
  | inr later ↦ go (bytes_eq y.id r.id) refl later (own_row ys r apart.1 later)
]
  where
    go : (b : Bool) → bytes_eq y.id r.id ≡ b → Contains ys r → row_at ys r.id ≡ Some r → cond (bytes_eq y.id r.id) (Some y) (row_at ys r.id) ≡ Some r
    go true e later again = absurd (true≢false (sym (among_row ys r later) ∙ ap (λ id. has_row id ys) (sym ((bytes_eq-Decides y.id r.id).0 e)) ∙ apart.0))
    go false e later again = ap (λ b. cond b (Some y) (row_at ys r.id)) e ∙ again

same_options : (flags : List Text) (rows rs : List Row) → ((r : Row) → Contains rs r → row_at rows r.id ≡ Some r)
    → filter_map (λ (r : Row). option_at flags rows r.id) rs ≡ filter_map (option_of flags) rs
same_options flags rows [] own = refl
same_options flags rows (r ∷ rs) own =
    ap₂ (λ o xs. cons_option o xs) (ap (option_and_then (option_of flags)) (own r (at_first r r rs refl))) (same_options flags rows rs (λ x among. own x (later_too r x rs among)))

pub options_of_rows : (flags : List Text) (rows : List Row) (positional : List Text) (options : List Given) → Ends flags rows positional options → options_in flags rows ≡ options
options_of_rows flags rows positional options h = same_options flags rows rows (λ r among. own_row rows r h.apart among) ∙ h.options_are
