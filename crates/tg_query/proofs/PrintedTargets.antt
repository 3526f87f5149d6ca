-- The target of a printed request is read as the query's root, path, format, scope and range.
use Rattle.std.proofs.Common.{◌≡◌, ◌≢◌, ℕ, ◌/◌, ◌%◌, ◌^◌, ◌<◌, ◌≤◌, Bool, true, false, All, List, [], ◌∷◌, ◌++◌, Option, Some, None, Result, Ok, cond, length, map, not, refl, sym, ap, ap₂, subst, ◌∙◌, arith, append_assoc}
use Rattle.percent_encoding.specs.Percent.{percent_decode, percent_encode_byte}
use Rattle.percent_encoding.proofs.PercentLemmas.{percent_decode-nil, percent_decode-percent_encode_byte, percent_decode_not_percent}
use Rattle.std.specs.Char.{digit_value}
use Rattle.std.specs.Fmt.{digit_glyph}
use Rattle.std.specs.List.{filter, onto_first, slice_split}
use Rattle.std.specs.Prelude.{IfSome, codes, decimal, ◌==◌, ◌↔◌}
use Rattle.std.proofs.lemmas.Bool.{cond-true, cond_both, ne_eqb}
use Rattle.std.proofs.lemmas.List.{append-nil}
use Rattle.std.proofs.lemmas.List.Elements.{All-append, All-cons, All-head, All-nil, All-tail, All-weaker}
use Rattle.std.proofs.lemmas.List.Splits.{length-slice_split, slice_split_at, slice_split_none}
use Rattle.std.proofs.lemmas.List.Sums.{AllPass-from_list_all}
use Rattle.tg_bytes.specs.Ascii.{slash}
use Rattle.tg_bytes.specs.Lists.{AreBytes}
use Rattle.tg_cid.specs.Cid.{CidParts}
use Rattle.tg_cid.specs.Computed.{cid_text}
use Rattle.tg_cid.specs.Spelling.{CidText}
use Rattle.tg_bytes.specs.DigitLaws.{decimal_digits, digits_all}
use Rattle.tg_model.specs.EntryNames.{IsGoodName}
use Rattle.tg_model.specs.Queries.{IsFrom, IsSpan, IsUpTo, SpanParts}
use Rattle.tg_model.specs.Texts.{escaped, escaped_byte, is_unreserved}
use Rattle.tg_model.specs.declared.queries.Form.{Form}
use Rattle.tg_model.specs.declared.queries.Form.TheVariants as forms
use Rattle.tg_model.specs.declared.queries.Scope.{Scope}
use Rattle.tg_model.specs.declared.queries.Scope.TheVariants as scopes
use Rattle.tg_model.specs.declared.queries.SpanFrom.{SpanFrom}
use Rattle.tg_model.specs.declared.queries.SpanFrom.TheVariants.{Last, Start}
use Rattle.tg_query.specs.Answers.{◌>>=◌}
use Rattle.tg_query.specs.Cuts.{behind, cut_at}
use Rattle.tg_query.specs.Paths.{PathBehind, names_of}
use Rattle.tg_query.specs.Spans.{FromText, NumberText, SpanText, ToText, span_of}
use Rattle.tg_query.specs.WordTexts.{RootedText}
use Rattle.tg_query.specs.declared.fault.QueryFault.{QueryFault}
use Rattle.tg_query.specs.Requests.{from_text, path_text, span_param, span_text, to_text}
use Rattle.tg_query.specs.Targets.{asked_of, nothing, scope_word, with_pieces, with_span}
use Rattle.tg_query.specs.declared.targets.Asked.{Asked}
use Rattle.tg_query.proofs.Visible.{Plain, Visible, decimal_plain, escaped_plain, is_plain, is_visible, letters_plain, plain_is_visible, plain_without}

-- ---- paths

not_percent : (b : ℕ) → is_unreserved b ≡ true → b ≢ 37
not_percent b own e = let same : is_unreserved 37 ≡ true = subst (λ (n : ℕ). is_unreserved n ≡ true) e own in absurd cc

-- what a byte is escaped as is decoded as the byte
byte_again : (b : ℕ) (rest : List ℕ) → b < 256 → percent_decode (escaped_byte b ++ rest) ≡ b ∷ percent_decode rest
unfolding percent_encode_byte
byte_again b rest h =
    cond_both (is_unreserved b) (b ∷ []) (37 ∷ digit_glyph true (b / 16) ∷ digit_glyph true (b % 16) ∷ [])
    (λ (l : List ℕ). percent_decode (l ++ rest) ≡ b ∷ percent_decode rest)
    (λ own. percent_decode_not_percent b rest (not_percent b own))
    (λ other.
    let same : b / 16 ≡ b / 16 % 16 = omega (arith, h) in
    ap (λ (n : ℕ). percent_decode (37 ∷ digit_glyph true n ∷ digit_glyph true (b % 16) ∷ rest)) same ∙ percent_decode-percent_encode_byte b rest h)

decoded_again : (name : List ℕ) → AreBytes name → percent_decode (escaped name) ≡ name
decoded_again [] are = percent_decode-nil
decoded_again (b ∷ name) are =
    byte_again b (escaped name) (All-head (λ (b : ℕ). b < 256) b name are)
    ∙ ap (λ (l : List ℕ). b ∷ l) (decoded_again name (All-tail (λ (b : ℕ). b < 256) b name are))

escaped_some : (name : List ℕ) → 0 < length name → 0 < length (escaped name)
escaped_some [] some = absurd (omega arith)
escaped_some (b ∷ name) some =
    cond_both (is_unreserved b) (b ∷ []) (37 ∷ digit_glyph true (b / 16) ∷ digit_glyph true (b % 16) ∷ [])
    (λ (l : List ℕ). 0 < length (l ++ escaped name)) (λ own. omega arith) (λ other. omega arith)

-- the segments behind the first slash
abbrev pub rest_of : List (List ℕ) → Option (List ℕ)
rest_of [] = None
rest_of (name ∷ names) = Some (escaped name ++ path_text names)

pub path_behind_root : (path : List (List ℕ)) → path_text path ≡ behind slash (rest_of path)
path_behind_root [] = refl
path_behind_root (name ∷ names) = refl

abbrev NamesOfBytes : List (List ℕ) → Type 0
NamesOfBytes names = All (λ (name : List ℕ). AreBytes name) names

cut_names : (name : List ℕ) (names : List (List ℕ)) → AreBytes name → NamesOfBytes names → cut_at slash (escaped name ++ path_text names) ≡ map escaped (name ∷ names)
cut_names name [] are all =
    ap (cut_at slash) (append-nil (escaped name))
    ∙ slice_split_none (λ b. b == slash) (escaped name) (none_in (escaped name) (plain_without slash (escaped name) refl (escaped_plain name are)))
  where
    none_in : (text : List ℕ) → All (λ (b : ℕ). b ≢ slash) text → All (λ (b : ℕ). (b == slash) ≡ false) text
    none_in text = All-weaker (λ (b : ℕ). b ≢ slash) (λ (b : ℕ). (b == slash) ≡ false) (λ b h. ne_eqb b slash h) text
cut_names name (next ∷ names) are all =
    slice_split_at (λ b. b == slash) (escaped name) slash (escaped next ++ path_text names)
    (All-weaker (λ (b : ℕ). b ≢ slash) (λ (b : ℕ). (b == slash) ≡ false) (λ b h. ne_eqb b slash h) (escaped name) (plain_without slash (escaped name) refl (escaped_plain name are))) refl
    ∙ ap (λ (l : List (List ℕ)). escaped name ∷ l)
    (cut_names next names (All-head (λ (name : List ℕ). AreBytes name) next names all) (All-tail (λ (name : List ℕ). AreBytes name) next names all))

abbrev is_full : List ℕ → Bool
is_full part = not (length part == 0)

full_true : (part : List ℕ) → 0 < length part → is_full part ≡ true
full_true part some = ap not (ne_eqb (length part) 0 (λ e. omega (arith, some, e)))

full_names : (names : List (List ℕ)) → NamesOfBytes names → All IsGoodName names → filter is_full (map escaped names) ≡ map escaped names
full_names [] are good = refl
full_names (name ∷ names) are good =
    let own = escaped_some name (All-head IsGoodName name names good).not_empty in
    cond-true (is_full (escaped name)) (escaped name ∷ filter is_full (map escaped names)) (filter is_full (map escaped names)) (full_true (escaped name) own)
    ∙ ap (λ (l : List (List ℕ)). escaped name ∷ l)
    (full_names names (All-tail (λ (name : List ℕ). AreBytes name) name names are) (All-tail IsGoodName name names good))

names_decoded : (names : List (List ℕ)) → NamesOfBytes names → map percent_decode (map escaped names) ≡ names
names_decoded [] are = refl
names_decoded (name ∷ names) are =
    ap₂ (λ (x : List ℕ) (xs : List (List ℕ)). x ∷ xs) (decoded_again name (All-head (λ (name : List ℕ). AreBytes name) name names are))
    (names_decoded names (All-tail (λ (name : List ℕ). AreBytes name) name names are))

names_again : (name : List ℕ) (names : List (List ℕ)) → NamesOfBytes (name ∷ names) → All IsGoodName (name ∷ names)
    → names_of (escaped name ++ path_text names) ≡ name ∷ names
unfolding names_of
names_again name names are good =
    ap (λ (l : List (List ℕ)). map percent_decode (filter is_full l))
    (cut_names name names (All-head (λ (name : List ℕ). AreBytes name) name names are) (All-tail (λ (name : List ℕ). AreBytes name) name names are))
    ∙ ap (map percent_decode) (full_names (name ∷ names) are good)
    ∙ names_decoded (name ∷ names) are

pub path_again : (path : List (List ℕ)) → NamesOfBytes path → All IsGoodName path → length path ≤ 128 → PathBehind (rest_of path) path
path_again [] are good few = refl
path_again (name ∷ names) are good few = record { names = sym (names_again name names are good); few = few; good = good }

pub path_visible : (path : List (List ℕ)) → NamesOfBytes path → Visible (path_text path)
path_visible [] are = All-nil (λ (b : ℕ). is_visible b ≡ true)
path_visible (name ∷ names) are =
    All-append (λ (b : ℕ). is_visible b ≡ true) (slash ∷ escaped name) (path_text names)
    (All-cons (λ (b : ℕ). is_visible b ≡ true) slash (escaped name) refl
    (plain_is_visible (escaped name) (escaped_plain name (All-head (λ (name : List ℕ). AreBytes name) name names are))))
    (path_visible names (All-tail (λ (name : List ℕ). AreBytes name) name names are))

pub path_no_query : (path : List (List ℕ)) → NamesOfBytes path → All (λ (b : ℕ). b ≢ 63) (path_text path)
path_no_query [] are = All-nil (λ (b : ℕ). b ≢ 63)
path_no_query (name ∷ names) are =
    All-append (λ (b : ℕ). b ≢ 63) (slash ∷ escaped name) (path_text names)
    (All-cons (λ (b : ℕ). b ≢ 63) slash (escaped name) (λ e. omega (arith, e))
    (plain_without 63 (escaped name) refl (escaped_plain name (All-head (λ (name : List ℕ). AreBytes name) name names are))))
    (path_no_query names (All-tail (λ (name : List ℕ). AreBytes name) name names are))

-- ---- ranges

number_again : (n : ℕ) → n < 2 ^ 63 → NumberText (decimal n) n
number_again n h = record { written = decimal_digits n h; small = h }

from_again : (from : SpanFrom) → IsFrom from → FromText (from_text from) from
from_again (Start start) h = number_again start h
from_again (Last count) h = (decimal count, refl, number_again count h)

up_to_small : (from : SpanFrom) (last : ℕ) → IsUpTo from last → last < 2 ^ 63
up_to_small (Start start) last h = h.0
up_to_small (Last count) last h = h

to_again : (from : SpanFrom) (to : Option ℕ) → IfSome to (λ to. IsUpTo from to) → ToText (to_text to) to
to_again from None h = refl
to_again from (Some last) h = number_again last (up_to_small from last h)

pub span_again : (span : SpanParts) → IsSpan span → SpanText (span_text span) span
span_again span h = record {
  from_text = from_text span.from;
  to_text = to_text span.to;
  whole = refl;
  from_is = from_again span.from h.from;
  to_is = to_again span.from span.to h.to;
  well_formed = h;
}

-- bytes of a range: plain, and no `%`
abbrev Part : List ℕ → Type 0
Part text = Plain text × All (λ (b : ℕ). b ≢ 37) text

decimal_part : (n : ℕ) → n < 2 ^ 63 → Part (decimal n)
decimal_part n h = (
  decimal_plain n h,
  digits_all (λ (b : ℕ). b ≢ 37) (λ b digit e. omega (arith, digit, ap digit_value e)) (decimal n) (decimal_digits n h).digits.1,
)

part_cons : (b : ℕ) (text : List ℕ) → is_plain b ≡ true → b ≢ 37 → Part text → Part (b ∷ text)
part_cons b text plain other h = (All-cons (λ (b : ℕ). is_plain b ≡ true) b text plain h.0, All-cons (λ (b : ℕ). b ≢ 37) b text other h.1)

part_append : (xs ys : List ℕ) → Part xs → Part ys → Part (xs ++ ys)
part_append xs ys h k = (All-append (λ (b : ℕ). is_plain b ≡ true) xs ys h.0 k.0, All-append (λ (b : ℕ). b ≢ 37) xs ys h.1 k.1)

from_part : (from : SpanFrom) → IsFrom from → Part (from_text from)
from_part (Start start) h = decimal_part start h
from_part (Last count) h = part_cons 45 (decimal count) refl (λ e. omega (arith, e)) (decimal_part count h)

to_part : (from : SpanFrom) (to : Option ℕ) → IfSome to (λ to. IsUpTo from to) → Part (to_text to)
to_part from None h = part_cons 42 [] refl (λ e. omega (arith, e)) (All-nil (λ (b : ℕ). is_plain b ≡ true), All-nil (λ (b : ℕ). b ≢ 37))
to_part from (Some last) h = decimal_part last (up_to_small from last h)

pub span_part : (span : SpanParts) → IsSpan span → Part (span_text span)
span_part span h =
    part_append (from_text span.from) (58 ∷ to_text span.to) (from_part span.from h.from)
    (part_cons 58 (to_text span.to) refl (λ e. omega (arith, e)) (to_part span.from span.to h.to))

undecoded : (text : List ℕ) → All (λ (b : ℕ). b ≢ 37) text → percent_decode text ≡ text
undecoded [] h = percent_decode-nil
undecoded (b ∷ text) h =
    percent_decode_not_percent b text (All-head (λ (b : ℕ). b ≢ 37) b text h)
    ∙ ap (λ (l : List ℕ). b ∷ l) (undecoded text (All-tail (λ (b : ℕ). b ≢ 37) b text h))

-- ---- a text behind a front with cuts in it

-- the text behind the last part
abbrev glued : List (List ℕ) → List ℕ → List (List ℕ)
glued [] text = text ∷ []
glued (part ∷ []) text = (part ++ text) ∷ []
glued (part ∷ next ∷ parts) text = part ∷ glued (next ∷ parts) text

glued_first : (b : ℕ) (parts : List (List ℕ)) (text : List ℕ) → onto_first b (glued parts text) ≡ glued (onto_first b parts) text
glued_first b [] text = refl
glued_first b (part ∷ []) text = refl
glued_first b (part ∷ next ∷ parts) text = refl

glued_empty : (parts : List (List ℕ)) (text : List ℕ) → 0 < length parts → [] ∷ glued parts text ≡ glued ([] ∷ parts) text
glued_empty [] text some = absurd (omega arith)
glued_empty (part ∷ parts) text some = refl

some_parts : (p : ℕ → Bool) (front : List ℕ) → 0 < length (slice_split p front)
some_parts p front = omega (arith, length-slice_split p front)

pub split_front : (p : ℕ → Bool) (front text : List ℕ) → slice_split p text ≡ text ∷ [] → slice_split p (front ++ text) ≡ glued (slice_split p front) text
split_front p [] text e = e
split_front p (b ∷ front) text e =
    let rest = split_front p front text e in
    by_test (p b) rest
  where
    by_test : (t : Bool) → slice_split p (front ++ text) ≡ glued (slice_split p front) text
        → cond t ([] ∷ slice_split p (front ++ text)) (onto_first b (slice_split p (front ++ text)))
        ≡ glued (cond t ([] ∷ slice_split p front) (onto_first b (slice_split p front))) text
    by_test true rest = ap (λ (l : List (List ℕ)). [] ∷ l) rest ∙ glued_empty (slice_split p front) text (some_parts p front)
    by_test false rest = ap (onto_first b) rest ∙ glued_first b (slice_split p front) text

-- ---- the query

abbrev car_asked : Scope → Option SpanParts → Asked
car_asked scope span = record { format = Some forms.Car; scope = Some scope; span = span }

raw_asked : asked_of (Some (codes "format=raw")) ≡ Ok (record { format = Some forms.Raw; scope = None; span = None })
unfolding percent_decode
raw_asked = refl

without_span : (scope : Scope) → asked_of (Some (codes "format=car&dag-scope=" ++ (scope_word scope ++ []))) ≡ Ok (car_asked scope None)
unfolding percent_decode
without_span scopes.Block = refl
without_span scopes.Entity = refl
without_span scopes.All = refl

first_pieces : (rest : List (List ℕ)) → with_pieces nothing (codes "format=car" ∷ codes "dag-scope=entity" ∷ rest) ≡ with_pieces (car_asked scopes.Entity None) rest
unfolding percent_decode
first_pieces rest = refl

key_decoded : (asked : Asked) (text : List ℕ) → with_pieces asked ((codes "entity-bytes=" ++ text) ∷ []) ≡ (with_span asked (percent_decode text) >>= λ more. Ok more)
unfolding percent_decode
key_decoded asked text = refl

with_range : (span : SpanParts) → IsSpan span → span_of (span_text span) ≡ Ok span
    → asked_of (Some (codes "format=car&dag-scope=" ++ (codes "entity" ++ (codes "&entity-bytes=" ++ span_text span)))) ≡ Ok (car_asked scopes.Entity (Some span))
with_range span h read =
    let text = span_text span in
    let part = span_part span h in
    let alone : cut_at 38 text ≡ text ∷ [] =
    slice_split_none (λ b. b == 38) text (All-weaker (λ (b : ℕ). b ≢ 38) (λ (b : ℕ). (b == 38) ≡ false) (λ b h. ne_eqb b 38 h) text (plain_without 38 text refl part.0)) in
    ap (with_pieces nothing) (split_front (λ b. b == 38) (codes "format=car&dag-scope=entity&entity-bytes=") text alone)
    ∙ first_pieces ((codes "entity-bytes=" ++ text) ∷ [])
    ∙ key_decoded (car_asked scopes.Entity None) text
    ∙ ap (λ (l : List ℕ). with_span (car_asked scopes.Entity None) l >>= λ more. Ok more) (undecoded text part.1)
    ∙ ap (λ (r : Result SpanParts QueryFault). (r >>= λ span. Ok (car_asked scopes.Entity (Some span))) >>= λ more. Ok more) read

-- what the query of a printed target asks
abbrev pub own_asked : Form → Scope → Option SpanParts → Asked
own_asked forms.Raw scope span = record { format = Some forms.Raw; scope = None; span = None }
own_asked forms.Car scope span = car_asked scope span

abbrev pub params_of : Form → Scope → Option SpanParts → List ℕ
params_of forms.Raw scope span = codes "format=raw"
params_of forms.Car scope span = codes "format=car&dag-scope=" ++ (scope_word scope ++ span_param span)

pub asked_again : (form : Form) (scope : Scope) (span : Option SpanParts) → IfSome span (λ span. (scope ≡ scopes.Entity) × IsSpan span)
    → ((text : List ℕ) (span : SpanParts) → (span_of text ≡ Ok span) ↔ SpanText text span)
    → asked_of (Some (params_of form scope span)) ≡ Ok (own_asked form scope span)
asked_again forms.Raw scope span h law = raw_asked
asked_again forms.Car scope None h law = without_span scope
asked_again forms.Car scope (Some span) h law =
    let read : span_of (span_text span) ≡ Ok span = (law (span_text span) span).1 (span_again span h.1) in
    subst (λ (s : Scope). asked_of (Some (params_of forms.Car s (Some span))) ≡ Ok (car_asked s (Some span))) (sym h.0) (with_range span h.1 read)

scope_visible : (scope : Scope) → Visible (codes "format=car&dag-scope=" ++ scope_word scope)
scope_visible scopes.Block = AllPass-from_list_all is_visible (codes "format=car&dag-scope=block") refl
scope_visible scopes.Entity = AllPass-from_list_all is_visible (codes "format=car&dag-scope=entity") refl
scope_visible scopes.All = AllPass-from_list_all is_visible (codes "format=car&dag-scope=all") refl

span_visible : (scope : Scope) (span : Option SpanParts) → IfSome span (λ span. (scope ≡ scopes.Entity) × IsSpan span) → Visible (span_param span)
span_visible scope None h = All-nil (λ (b : ℕ). is_visible b ≡ true)
span_visible scope (Some span) h =
    All-append (λ (b : ℕ). is_visible b ≡ true) (codes "&entity-bytes=") (span_text span) (AllPass-from_list_all is_visible (codes "&entity-bytes=") refl)
    (plain_is_visible (span_text span) (span_part span h.1).0)

pub params_visible : (form : Form) (scope : Scope) (span : Option SpanParts) → IfSome span (λ span. (scope ≡ scopes.Entity) × IsSpan span)
    → Visible (params_of form scope span)
params_visible forms.Raw scope span h = AllPass-from_list_all is_visible (codes "format=raw") refl
params_visible forms.Car scope span h =
    subst Visible (append_assoc (codes "format=car&dag-scope=") (scope_word scope) (span_param span))
    (All-append (λ (b : ℕ). is_visible b ≡ true) (codes "format=car&dag-scope=" ++ scope_word scope) (span_param span) (scope_visible scope) (span_visible scope span h))

-- ---- the root and the path

pub root_plain : (root : CidParts) (text : List ℕ) → CidText root text → Plain text
root_plain root text h =
    subst Plain (sym h.in_base.begins)
    (All-cons (λ (b : ℕ). is_plain b ≡ true) 98 h.in_base.letters refl (letters_plain h.in_base.letters h.in_base.rest.letters))

pub rooted_again : (root : CidParts) (path : List (List ℕ)) → CidText root (cid_text root) → NamesOfBytes path → All IsGoodName path → length path ≤ 128
    → RootedText (cid_text root ++ path_text path) root path
rooted_again root path text are good few = record {
  root_text = cid_text root;
  rest = rest_of path;
  whole = ap (λ (l : List ℕ). cid_text root ++ l) (path_behind_root path);
  root_is = text;
  path_is = path_again path are good few;
}
