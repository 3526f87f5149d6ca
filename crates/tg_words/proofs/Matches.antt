-- What the look-ups among matches say of their rows.
use Rattle.std.proofs.Common.{◌≡◌, ◌≢◌, List, [], ◌∷◌, ◌++◌, map, Bool, true, false, cond, refl, sym, ap, ap₂, ◌∙◌, Option, Some, None, Bor}
use Rattle.std.specs.Prelude.{filter_map, find, option_and_then, option_map, slice_get}
use Rattle.std.specs.List.{cons_option, list_any}
use Rattle.std.specs.Str.{bytes_eq}
use Rattle.std.proofs.lemmas.Slice.Eq.{bytes_eq-Decides}
use Rattle.std.proofs.lemmas.List.{append-nil, map-append}
use Rattle.clap.specs.Facts.{Entry}
use Rattle.clap.specs.Matches.{first_value, matched_of, raw_values}
use Rattle.clap.specs.Walk.{Row, Text, first_of, row_of, rows_of}
use Rattle.clap.specs.declared.parser.matches.Found.{Found}
use Rattle.clap.specs.declared.parser.matches.ValueSource.{ValueSource}
use Rattle.clap.specs.declared.parser.matches.ValueSource.TheVariants.{CommandLine, DefaultValue}
use Rattle.clap.proofs.WalkLemmas.{find_row, first_value-rows, list_any-map, raw_values-rows}
use Rattle.tg_words.specs.Words.{Given}
use Rattle.tg_words.specs.Operands.{given, givens, texts_of}
use Rattle.tg_words.specs.Parsing.{given_from, option_at, option_of, options_in, positional_in, row_at, value_in, values_of}
use Rattle.tg_words.specs.declared.operands.GivenOption.{GivenOption}
use Rattle.tg_words.proofs.Once.{found_among}

-- ---- the positional words

values_some : (o : Option Row) (words : List (Bor Text)) → Some (map (λ v. v.now) words) ≡ option_map (λ (r : Row). r.values) o → texts_of words ≡ values_of o
values_some None words e = absurd (cc)
values_some (Some r) words e = cc

pub words_are : (f : Found) (words : List (Bor Text)) → Some (map (λ v. v.now) words) ≡ option_map raw_values (matched_of f []) → texts_of words ≡ positional_in (rows_of f)
words_are f words e = values_some (row_at (rows_of f) []) words (e ∙ raw_values-rows f [])

values_none : (o : Option Row) → None ≡ option_map (λ (r : Row). r.values) o → [] ≡ values_of o
values_none None e = refl
values_none (Some r) e = absurd (cc)

pub no_words_are : (f : Found) → None ≡ option_map raw_values (matched_of f []) → [] ≡ positional_in (rows_of f)
no_words_are f e = values_none (row_at (rows_of f) []) (e ∙ raw_values-rows f [])

-- ---- the names, one after another

ids_options : (h : Text → Option Given) (es : List Entry) → filter_map h (map (λ e. e.0.now) es) ≡ filter_map (λ (r : Row). h r.id) (map row_of es)
ids_options h [] = refl
ids_options h (e ∷ es) = ap (λ os. cons_option (h e.0.now) os) (ids_options h es)

pub names_begin : (flags : List Text) (f : Found) (left : List Text) → left ≡ map (λ e. e.0.now) f.entries.items
    → filter_map (option_at flags (rows_of f)) left ≡ options_in flags (rows_of f)
names_begin flags f left is = ap (filter_map (option_at flags (rows_of f))) is ∙ ids_options (option_at flags (rows_of f)) f.entries.items

pub more_options : (options more : List GivenOption) (o : GivenOption) → more ≡ options ++ o ∷ [] → givens more ≡ givens options ++ cons_option (Some (given o)) []
more_options options more o is = ap givens is ∙ map-append given options (o ∷ [])

pub same_options : (options : List GivenOption) → givens options ≡ givens options ++ cons_option None []
same_options options = sym (append-nil (givens options))

-- ---- the option of one name

source_is : (f : Found) (id : Text) → option_and_then (λ a. a.source) (matched_of f id) ≡ option_and_then (λ (r : Row). r.source) (row_at (rows_of f) id)
source_is f id = go (find (λ (e : Entry). bytes_eq e.0.now id) f.entries.items) ∙ ap (option_and_then (λ (r : Row). r.source)) (sym (find_row f.entries.items id))
  where
    go : (o : Option Entry) → option_and_then (λ a. a.source) (option_map (λ (e : Entry). e.1) o) ≡ option_and_then (λ (r : Row). r.source) (option_map row_of o)
    go None = refl
    go (Some e) = refl

id_is : (rows : List Row) (name : Text) (r : Row) → row_at rows name ≡ Some r → r.id ≡ name
id_is rows name r at = (bytes_eq-Decides r.id name).0 (found_among (λ (x : Row). bytes_eq x.id name) rows r at).1

empty_none : (flags : List Text) (rows : List Row) (name : Text) → name ≡ [] → option_at flags rows name ≡ None
empty_none flags rows name none = go (row_at rows name) refl
  where
    go : (o : Option Row) → row_at rows name ≡ o → option_and_then (option_of flags) (row_at rows name) ≡ None
    go None at = ap (option_and_then (option_of flags)) at
    go (Some r) at = ap (option_and_then (option_of flags)) at
        ∙ ap (λ b. cond b None (given_from r.source (r.id, value_in flags r))) ((bytes_eq-Decides r.id []).1 (id_is rows name r at ∙ none))

pub no_option_empty : (flags : List Text) (f : Found) (name : Text) → name ≡ [] → None ≡ option_at flags (rows_of f) name
no_option_empty flags f name none = sym (empty_none flags (rows_of f) name none)

other_none : (flags : List Text) (rows : List Row) (name : Text) → option_and_then (λ (r : Row). r.source) (row_at rows name) ≢ Some CommandLine → option_at flags rows name ≡ None
other_none flags rows name other = go (row_at rows name) refl
  where
    given_none : (s : Option ValueSource) (g : Given) (b : Bool) → s ≢ Some CommandLine → cond b None (given_from s g) ≡ None
    given_none s g true never = refl
    given_none (Some CommandLine) g false never = absurd (never refl)
    given_none (Some DefaultValue) g false never = refl
    given_none None g false never = refl

    go : (o : Option Row) → row_at rows name ≡ o → option_and_then (option_of flags) (row_at rows name) ≡ None
    go None at = ap (option_and_then (option_of flags)) at
    go (Some r) at = ap (option_and_then (option_of flags)) at
        ∙ given_none r.source (r.id, value_in flags r) (bytes_eq r.id []) (λ e. other (ap (option_and_then (λ (x : Row). x.source)) at ∙ e))

pub no_option_default : (flags : List Text) (f : Found) (name : Text) → option_and_then (λ a. a.source) (matched_of f name) ≢ Some CommandLine → None ≡ option_at flags (rows_of f) name
no_option_default flags f name other = sym (other_none flags (rows_of f) name (λ e. other (source_is f name ∙ e)))

one_is : (flags : List Text) (rows : List Row) (name : Text) → bytes_eq name [] ≡ false → option_and_then (λ (r : Row). r.source) (row_at rows name) ≡ Some CommandLine
    → option_at flags rows name ≡ Some (name, cond (list_any (λ flag. bytes_eq flag name) flags) None (first_of name rows))
one_is flags rows name some source = go (row_at rows name) refl
  where
    go : (o : Option Row) → row_at rows name ≡ o
        → option_and_then (option_of flags) (row_at rows name) ≡ Some (name, cond (list_any (λ flag. bytes_eq flag name) flags) None (option_and_then (λ (r : Row). slice_get r.values 0) (row_at rows name)))
    go None at = absurd (let bad : None ≡ Some CommandLine = sym (ap (option_and_then (λ (r : Row). r.source)) at) ∙ source in cc)
    go (Some r) at =
        let id = id_is rows name r at in
        let of_words : r.source ≡ Some CommandLine = sym (ap (option_and_then (λ (x : Row). x.source)) at) ∙ source in
        ap (option_and_then (option_of flags)) at
        ∙ ap (λ b. cond b None (given_from r.source (r.id, value_in flags r))) (ap (λ t. bytes_eq t []) id ∙ some)
        ∙ ap (λ s. given_from s (r.id, value_in flags r)) of_words
        ∙ ap (λ n. Some (n, cond (list_any (λ flag. bytes_eq flag n) flags) None (slice_get r.values 0))) id
        ∙ ap (λ o. Some (name, cond (list_any (λ flag. bytes_eq flag name) flags) None (option_and_then (λ (x : Row). slice_get x.values 0) o))) (sym at)

-- an option of the words, and its value as the look-ups give it
pub one_option_is : (flags : List (Bor Text)) (f : Found) (name : Bor Text) (found : Option (Bor Text)) (is_flag : Bool)
    → name.now ≢ [] → option_and_then (λ a. a.source) (matched_of f name.now) ≡ Some CommandLine → is_flag ≡ list_any (λ n. bytes_eq n.now name.now) flags
    → option_map (λ s. s.now) found ≡ cond is_flag None (first_value f name.now)
    → Some (name.now, option_map (λ s. s.now) found) ≡ option_at (texts_of flags) (rows_of f) name.now
one_option_is flags f name found is_flag some source flag_is value_is =
    ap (λ v. Some (name.now, v)) (value_is ∙ ap₂ (λ b v. cond b None v) (flag_is ∙ list_any-map (λ n. bytes_eq n name.now) (λ n. n.now) flags) (first_value-rows f name.now))
    ∙ sym (one_is (texts_of flags) (rows_of f) name.now (empty (bytes_eq name.now []) refl) (sym (source_is f name.now) ∙ source))
  where
    empty : (b : Bool) → bytes_eq name.now [] ≡ b → bytes_eq name.now [] ≡ false
    empty true e = absurd (some ((bytes_eq-Decides name.now []).0 e))
    empty false e = e
