-- Paths as bundles write them, and the names that are read from their text.
use Rattle.std.proofs.Common.{All, List, [], ap, ap₂, append_assoc, append-nil, arith, false, length, map, not, refl}
use Rattle.std.proofs.Common.{inl, inr, subst, sym, true, ℕ, ◌+◌, ◌++◌, ◌/◌, ◌%◌, ◌<◌, ◌∙◌, ◌∷◌, ◌≡◌, ◌≢◌, Bool}
use Rattle.percent_encoding.proofs.PercentLemmas.{All-percent_decode, percent_decode-nil, percent_decode-percent_encode_byte, percent_decode_not_percent}
use Rattle.percent_encoding.specs.Percent.{percent_decode, percent_encode_byte}
use Rattle.std.proofs.lemmas.Bool.{cond-false, cond-true, cond_both, false_from_ne_true, ne_eqb}
use Rattle.std.proofs.lemmas.List.{length-append, take_more}
use Rattle.std.proofs.lemmas.List.Concat.{flat_map-append}
use Rattle.std.proofs.lemmas.List.Elements.{All-append, All-cons, All-filter, All-head, All-map, All-nil, All-same, All-tail, All-weaker}
use Rattle.std.proofs.lemmas.List.Splits.{slice_split_at, slice_split_none}
use Rattle.std.proofs.lemmas.Slice.Eq.{bytes_eq-Decides}
use Rattle.std.specs.Fmt.{digit_glyph}
use Rattle.std.specs.List.{filter, flat_map, onto_first, slice_split}
use Rattle.std.specs.Prelude.{Err, Ok, bytes_eq, get_or, take, ◌==◌, ◌↔◌}
use Rattle.tg_bundles.specs.Reading.{AreNames, EscapedIsPlain}
use Rattle.tg_bundles.specs.Records.{joined_all, path_text}
use Rattle.tg_bytes.specs.Ascii.{line_feed, slash}
use Rattle.tg_bytes.specs.Lists.{AreBytes}
use Rattle.tg_extract.specs.Lines.{IsGoodPath}
use Rattle.tg_model.specs.EntryNames.{IsGoodName}
use Rattle.tg_model.specs.Texts.{escaped, escaped_byte, is_unreserved, joined}
use Rattle.tg_query.specs.Answers.{Gives}
use Rattle.tg_query.specs.Cuts.{cut_at, parts_at}
use Rattle.tg_query.specs.Paths.{PathText, names_of, path_of}
use Rattle.tg_query.specs.declared.fault.QueryFault.{QueryFault}
use Rattle.tg_query.specs.declared.fault.QueryFault.TheVariants.{OutOfMemory}

-- ---- the text of a path

-- a slash before each name
abbrev pub below : List (List ℕ) → List ℕ
below names = flat_map (λ name. slash ∷ escaped name) names

-- one name more
pub below_more : (names : List (List ℕ)) (at : ℕ) (name text next last : List ℕ) → at < length names → name ≡ get_or names at name → text ≡ below (take at names)
    → next ≡ text ++ slash ∷ [] → last ≡ next ++ escaped name → last ≡ below (take (at + 1) names)
below_more names at name text next last within is held first behind =
    let whole : below (take (at + 1) names) ≡ below (take at names) ++ slash ∷ escaped name =
    ap below (take_more names at name within ∙ ap (λ (n : List ℕ). take at names ++ n ∷ []) (sym is))
    ∙ flat_map-append (λ (name : List ℕ). slash ∷ escaped name) (take at names) (name ∷ [])
    ∙ ap (λ (l : List ℕ). below (take at names) ++ l) (append-nil (slash ∷ escaped name))
    in
    behind ∙ ap (λ (l : List ℕ). l ++ escaped name) (first ∙ ap (λ (l : List ℕ). l ++ slash ∷ []) held)
    ∙ append_assoc (below (take at names)) (slash ∷ []) (escaped name) ∙ sym whole

byte_some : (b : ℕ) (rest : List ℕ) → 0 < length (escaped_byte b ++ rest)
byte_some b rest =
    cond_both (is_unreserved b) (b ∷ []) (37 ∷ digit_glyph true (b / 16) ∷ digit_glyph true (b % 16) ∷ [])
    (λ (l : List ℕ). 0 < length (l ++ rest)) (λ own. omega arith) (λ other. omega arith)

escaped_some : (name : List ℕ) → name ≢ [] → 0 < length (escaped name)
escaped_some [] some = absurd (some refl)
escaped_some (b ∷ name) some = byte_some b (escaped name)

joined_is : (path name : List ℕ) → 1 < length path → joined path name ≡ path ++ slash ∷ escaped name
joined_is path name long =
    let other : bytes_eq path (slash ∷ []) ≡ false =
    false_from_ne_true (bytes_eq path (slash ∷ [])) (λ t. omega (arith, long, ap length ((bytes_eq-Decides path (slash ∷ [])).0 t)))
    in
    ap (λ (l : List ℕ). l ++ escaped name) (cond-false (bytes_eq path (slash ∷ [])) path (path ++ slash ∷ []) other)
    ∙ append_assoc path (slash ∷ []) (escaped name)

all_joined : (path : List ℕ) (names : List (List ℕ)) → 1 < length path → joined_all path names ≡ path ++ below names
all_joined path [] long = sym (append-nil path)
all_joined path (name ∷ names) long =
    let next = path ++ slash ∷ escaped name in
    let longer : 1 < length next = omega (arith, long, length-append path (slash ∷ escaped name)) in
    ap (λ (p : List ℕ). joined_all p names) (joined_is path name long)
    ∙ (all_joined next names longer ∙ append_assoc path (slash ∷ escaped name) (below names))

named_text : (name : List ℕ) (names : List (List ℕ)) → AreNames (name ∷ names) → path_text (name ∷ names) ≡ below (name ∷ names)
named_text name names are =
    let some : 0 < length (escaped name) = escaped_some name (All-head (λ (n : List ℕ). n ≢ []) name names are) in
    all_joined (slash ∷ escaped name) names (omega (arith, some))

-- the text of names, and of none
pub text_of_names : (path : List (List ℕ)) (text : List ℕ) → AreNames path → 0 < length path → text ≡ below path → text ≡ path_text path
text_of_names [] text are some is = absurd (omega (arith, some))
text_of_names (name ∷ names) text are some is = is ∙ sym (named_text name names are)

pub text_of_none : (path : List (List ℕ)) (text last : List ℕ) → length path ≡ 0 → text ≡ below path → last ≡ text ++ slash ∷ [] → last ≡ path_text path
text_of_none [] text last none is more = more ∙ ap (λ (l : List ℕ). l ++ slash ∷ []) is
text_of_none (name ∷ names) text last none is more = absurd (omega (arith, none))

-- ---- names are read again

not_percent : (b : ℕ) → is_unreserved b ≡ true → b ≢ 37
not_percent b own e = let same : is_unreserved 37 ≡ true = subst (λ (n : ℕ). is_unreserved n ≡ true) e own in absurd cc

byte_again : (b : ℕ) (rest : List ℕ) → b < 256 → percent_decode (escaped_byte b ++ rest) ≡ b ∷ percent_decode rest
unfolding percent_encode_byte
byte_again b rest h =
    cond_both (is_unreserved b) (b ∷ []) (37 ∷ digit_glyph true (b / 16) ∷ digit_glyph true (b % 16) ∷ [])
    (λ (l : List ℕ). percent_decode (l ++ rest) ≡ b ∷ percent_decode rest)
    (λ own. percent_decode_not_percent b rest (not_percent b own))
    (λ other.
    let same : b / 16 ≡ b / 16 % 16 = omega (arith, h) in
    ap (λ (n : ℕ). percent_decode (37 ∷ digit_glyph true n ∷ digit_glyph true (b % 16) ∷ rest)) same ∙ percent_decode-percent_encode_byte b rest h)

decoded_again : (name : List ℕ) → AreBytes name → percent_decode (escaped name) ≡ name
decoded_again [] are = percent_decode-nil
decoded_again (b ∷ name) are =
    byte_again b (escaped name) (All-head (λ (b : ℕ). b < 256) b name are)
    ∙ ap (λ (l : List ℕ). b ∷ l) (decoded_again name (All-tail (λ (b : ℕ). b < 256) b name are))

no_slash_in : EscapedIsPlain → (name : List ℕ) → All (λ (b : ℕ). (b == slash) ≡ false) (escaped name)
no_slash_in plain name = All-weaker (λ (b : ℕ). b ≢ slash) (λ (b : ℕ). (b == slash) ≡ false) (λ b h. ne_eqb b slash h) (escaped name) (plain name).no_slash

cut_names : EscapedIsPlain → (name : List ℕ) (names : List (List ℕ)) → cut_at slash (escaped name ++ below names) ≡ map escaped (name ∷ names)
cut_names plain name [] =
    ap (cut_at slash) (append-nil (escaped name)) ∙ slice_split_none (λ b. b == slash) (escaped name) (no_slash_in plain name)
cut_names plain name (next ∷ names) =
    slice_split_at (λ b. b == slash) (escaped name) slash (escaped next ++ below names) (no_slash_in plain name) refl
    ∙ ap (λ (l : List (List ℕ)). escaped name ∷ l) (cut_names plain next names)

abbrev is_full : List ℕ → Bool
is_full part = not (length part == 0)

full_true : (part : List ℕ) → 0 < length part → is_full part ≡ true
full_true part some = ap not (ne_eqb (length part) 0 (λ e. omega (arith, some, e)))

full_names : (names : List (List ℕ)) → AreNames names → filter is_full (map escaped names) ≡ map escaped names
full_names [] are = refl
full_names (name ∷ names) are =
    let own = escaped_some name (All-head (λ (n : List ℕ). n ≢ []) name names are) in
    cond-true (is_full (escaped name)) (escaped name ∷ filter is_full (map escaped names)) (filter is_full (map escaped names)) (full_true (escaped name) own)
    ∙ ap (λ (l : List (List ℕ)). escaped name ∷ l) (full_names names (All-tail (λ (n : List ℕ). n ≢ []) name names are))

names_decoded : (names : List (List ℕ)) → All AreBytes names → map percent_decode (map escaped names) ≡ names
names_decoded [] are = refl
names_decoded (name ∷ names) are =
    ap₂ (λ (x : List ℕ) (xs : List (List ℕ)). x ∷ xs) (decoded_again name (All-head AreBytes name names are)) (names_decoded names (All-tail AreBytes name names are))

below_names : EscapedIsPlain → (name : List ℕ) (names : List (List ℕ)) → AreNames (name ∷ names) → All AreBytes (name ∷ names)
    → names_of (below (name ∷ names)) ≡ name ∷ names
unfolding names_of
below_names plain name names are bytes =
    ap (λ (l : List (List ℕ)). map percent_decode (filter is_full l)) (cut_names plain name names)
    ∙ ap (map percent_decode) (full_names (name ∷ names) are)
    ∙ names_decoded (name ∷ names) bytes

pub not_empty : (path : List (List ℕ)) → All IsGoodName path → AreNames path
not_empty path = All-weaker IsGoodName (λ (n : List ℕ). n ≢ []) (λ n good e. omega (arith, good.not_empty, ap length e)) path

names_again : EscapedIsPlain → (path : List (List ℕ)) → IsGoodPath path → names_of (path_text path) ≡ path
unfolding names_of
names_again plain [] good = refl
names_again plain (name ∷ names) good =
    let are = not_empty (name ∷ names) good.good in
    ap names_of (named_text name names are) ∙ below_names plain name names are good.are_bytes

pub path_again : EscapedIsPlain → (path : List (List ℕ)) → IsGoodPath path → PathText (path_text path) path
path_again plain path good = record { names = sym (names_again plain path good); few = good.few; good = good.good }

-- ---- names of a text of bytes are bytes

abbrev IsByte : ℕ → Type 0
IsByte b = b < 256

onto_bytes : (x : ℕ) (parts : List (List ℕ)) → IsByte x → All AreBytes parts → All AreBytes (onto_first x parts)
onto_bytes x [] h all = All-cons AreBytes (x ∷ []) [] (All-cons IsByte x [] h (All-nil IsByte)) (All-nil AreBytes)
onto_bytes x (part ∷ parts) h all =
    All-cons AreBytes (x ∷ part) parts (All-cons IsByte x part h (All-head AreBytes part parts all)) (All-tail AreBytes part parts all)

cut_bytes : (p : ℕ → Bool) (text : List ℕ) → AreBytes text → All AreBytes (slice_split p text)
cut_bytes p [] all = All-cons AreBytes [] [] (All-nil IsByte) (All-nil AreBytes)
cut_bytes p (x ∷ text) all =
    let parts = cut_bytes p text (All-tail IsByte x text all) in
    cond_both (p x) ([] ∷ slice_split p text) (onto_first x (slice_split p text)) (All AreBytes)
    (λ e. All-cons AreBytes [] (slice_split p text) (All-nil IsByte) parts) (λ e. onto_bytes x (slice_split p text) (All-head IsByte x text all) parts)

names_bytes : (text : List ℕ) → AreBytes text → All AreBytes (names_of text)
unfolding names_of
names_bytes text all =
    All-map AreBytes percent_decode (parts_at slash text)
    (All-weaker AreBytes (λ (part : List ℕ). AreBytes (percent_decode part)) (λ part are. All-percent_decode part are) (parts_at slash text)
    (All-filter (λ part. not (length part == 0)) AreBytes (cut_at slash text) (cut_bytes (λ b. b == slash) text all)))

pub path_good : (text : List ℕ) (path : List (List ℕ)) → AreBytes text → PathText text path → IsGoodPath path
path_good text path are h = record { good = h.good; are_bytes = subst (All AreBytes) (sym h.names) (names_bytes text are); few = h.few }

-- ---- what is read of a text

-- the law of tg_query
abbrev pub PathLaw : Type 0
PathLaw = (text : List ℕ) (path : List (List ℕ)) → (path_of text ≡ Ok path) ↔ PathText text path

path_found : EscapedIsPlain → PathLaw → (text : List ℕ) (path : List (List ℕ)) → IsGoodPath path → path_text path ≡ text → path_of text ≡ Ok path
path_found plain law text path good e = subst (λ (t : List ℕ). path_of t ≡ Ok path) e ((law (path_text path) path).1 (path_again plain path good))

-- a refusal of the text of a path is want of memory
pub path_refused : EscapedIsPlain → PathLaw → (text : List ℕ) (path : List (List ℕ)) (fault : QueryFault) → IsGoodPath path → path_text path ≡ text
    → Gives (path_of text) (Err fault) → fault ≡ OutOfMemory
path_refused plain law text path fault good e (inl given) = let found = path_found plain law text path good e in absurd cc
path_refused plain law text path fault good e (inr memory) = cc

pub path_read : PathLaw → (text : List ℕ) (path : List (List ℕ)) → Gives (path_of text) (Ok path) → PathText text path
path_read law text path (inl given) = (law text path).0 (sym given)
path_read law text path (inr memory) = absurd cc

pub same_path : EscapedIsPlain → PathLaw → (text : List ℕ) (got path : List (List ℕ)) → IsGoodPath path → path_text path ≡ text
    → Gives (path_of text) (Ok got) → got ≡ path
same_path plain law text got path good e (inl given) = let found = path_found plain law text path good e in cc
same_path plain law text got path good e (inr memory) = absurd cc

-- ---- a path's text is within one line

abbrev IsNoFeed : ℕ → Type 0
IsNoFeed b = b ≢ line_feed

below_line : EscapedIsPlain → (names : List (List ℕ)) → All IsNoFeed (below names)
below_line plain [] = All-nil IsNoFeed
below_line plain (name ∷ names) =
    All-append IsNoFeed (slash ∷ escaped name) (below names)
    (All-cons IsNoFeed slash (escaped name) (λ e. omega (arith, e)) (plain name).no_line_feed) (below_line plain names)

pub path_line : EscapedIsPlain → (path : List (List ℕ)) → AreNames path → All (λ b. b ≢ line_feed) (path_text path)
path_line plain [] are = All-cons IsNoFeed slash [] (λ e. omega (arith, e)) (All-nil IsNoFeed)
path_line plain (name ∷ names) are = All-same IsNoFeed (path_text (name ∷ names)) (below (name ∷ names)) (named_text name names are) (below_line plain (name ∷ names))
