-- What is asked by a request is spelled.
use Rattle.std.proofs.Common.{◌≡◌, ◌⊎◌, ◌↔◌, ℕ, ◌+◌, ◌/◌, ◌%◌, ◌<◌, ◌≤◌, Bool, true, false, All, List, [], ◌∷◌, ◌++◌, None, Ok, Err, Option, Result, Some, inl, inr, length, refl, sym, ap, subst, ◌∙◌, arith}
use Rattle.percent_encoding.specs.Percent.{percent_decode}
use Rattle.percent_encoding.proofs.PercentLemmas.{All-percent_decode}
use Rattle.std.specs.Char.{encode_utf8}
use Rattle.std.specs.List.{onto_first, slice_split}
use Rattle.std.specs.Option.{unwrap_or}
use Rattle.std.specs.Prelude.{if◌then◌else◌, nat_lt, not, ◌==◌, ◌||◌}
use Rattle.std.specs.Str.{all_scalars, encode_utf8_all}
use Rattle.std.proofs.Math.Utf8.{scalar_cases}
use Rattle.std.proofs.lemmas.Bool.{and_parts, cond_both, ltb-true}
use Rattle.std.proofs.lemmas.List.{take_at}
use Rattle.std.proofs.lemmas.List.Elements.{All-append, All-cons, All-filter, All-head, All-map, All-nil, All-tail, All-take, All-weaker}
use Rattle.tg_bytes.specs.Ascii.{slash}
use Rattle.tg_bytes.specs.Lists.{AreBytes, rest_bytes}
use Rattle.tg_cid.specs.Cid.{CidParts}
use Rattle.tg_cid.specs.Spelling.{CidBytes}
use Rattle.tg_model.specs.Queries.{QueryParts}
use Rattle.tg_model.specs.declared.queries.Form.{Form}
use Rattle.tg_model.specs.declared.queries.Form.TheVariants as forms
use Rattle.tg_query.specs.Cuts.{behind, cut_at, parts_at}
use Rattle.tg_query.specs.Paths.{PathBehind, names_of}
use Rattle.tg_query.specs.WordTexts.{RootedText, ipfs}
use Rattle.tg_query.specs.declared.fault.QueryFault.{QueryFault}
use Rattle.tg_query.specs.Accepts.{accepted_of}
use Rattle.tg_query.specs.Joins.{car_with, default_choice, dups_of, format_for, join_by, join_of, raw_or_fault, raw_query}
use Rattle.tg_query.specs.Laws.{asked_by}
use Rattle.tg_query.specs.Targets.{TargetText, target_of}
use Rattle.tg_query.specs.declared.accepts.CarChoice.{CarChoice}
use Rattle.tg_query.specs.declared.targets.Target.{Target}
use Rattle.tg_reply.specs.Asked.{is_get, is_head, or_refusal}
use Rattle.tg_reply.specs.AskedReadings.{AskedSpells, IsSpelledQuery, TargetsAreBytes}

abbrev IsByte : ℕ → Type 0
IsByte b = b < 256

-- ---- parts of bytes are bytes

front_bytes : (a b : List ℕ) → AreBytes (a ++ b) → AreBytes a
front_bytes a b all = subst AreBytes (take_at a b (length a) refl) (All-take IsByte (length a) (a ++ b) all)

-- ---- the target of a request

abbrev next : ℕ → ℕ
next bits = 128 + bits % 64

abbrev two_bytes : ℕ → List ℕ
two_bytes c = (192 + c / 64) ∷ next c ∷ []

abbrev three_bytes : ℕ → List ℕ
three_bytes c = (224 + c / 4096) ∷ next (c / 64) ∷ next c ∷ []

abbrev four_bytes : ℕ → List ℕ
four_bytes c = (240 + c / 262144) ∷ next (c / 4096) ∷ next (c / 64) ∷ next c ∷ []

next_byte : (c : ℕ) → next c < 256
next_byte c = grind arith

two_are : (c : ℕ) → c < 2048 → AreBytes (two_bytes c)
two_are c h = All-cons IsByte (192 + c / 64) (next c ∷ []) (grind (arith, h)) (All-cons IsByte (next c) [] (next_byte c) (All-nil IsByte))

three_are : (c : ℕ) → c < 65536 → AreBytes (three_bytes c)
three_are c h =
    All-cons IsByte (224 + c / 4096) (next (c / 64) ∷ next c ∷ []) (grind (arith, h))
    (All-cons IsByte (next (c / 64)) (next c ∷ []) (next_byte (c / 64)) (All-cons IsByte (next c) [] (next_byte c) (All-nil IsByte)))

four_are : (c : ℕ) → c < 1114112 → AreBytes (four_bytes c)
four_are c h =
    All-cons IsByte (240 + c / 262144) (next (c / 4096) ∷ next (c / 64) ∷ next c ∷ []) (grind (arith, h))
    (All-cons IsByte (next (c / 4096)) (next (c / 64) ∷ next c ∷ []) (next_byte (c / 4096))
    (All-cons IsByte (next (c / 64)) (next c ∷ []) (next_byte (c / 64)) (All-cons IsByte (next c) [] (next_byte c) (All-nil IsByte))))

char_bytes : (c : ℕ) → c < 1114112 → AreBytes (encode_utf8 c)
unfolding encode_utf8
char_bytes c h =
    let three = if nat_lt c 65536 then three_bytes c else four_bytes c in
    let two = if nat_lt c 2048 then two_bytes c else three in
    cond_both (nat_lt c 128) (c ∷ []) two AreBytes (λ e. All-cons IsByte c [] (omega (arith, ltb-true c 128 e)) (All-nil IsByte))
    (λ n. cond_both (nat_lt c 2048) (two_bytes c) three AreBytes (λ e. two_are c (ltb-true c 2048 e))
    (λ m. cond_both (nat_lt c 65536) (three_bytes c) (four_bytes c) AreBytes (λ e. three_are c (ltb-true c 65536 e)) (λ k. four_are c h)))

chars_bytes : (cs : List ℕ) → all_scalars cs ≡ true → AreBytes (encode_utf8_all cs)
chars_bytes [] t = All-nil IsByte
chars_bytes (c ∷ cs) t =
    let both = and_parts _ (all_scalars cs) t in
    All-append IsByte (encode_utf8 c) (encode_utf8_all cs) (char_bytes c (below c (scalar_cases c both.0))) (chars_bytes cs both.1)
  where
    below : (c : ℕ) → (c < 55296) ⊎ ((57344 ≤ c) × (c < 1114112)) → c < 1114112
    below c (inl h) = omega (arith, h)
    below c (inr h) = h.1

pub targets_are_bytes : TargetsAreBytes
targets_are_bytes bytes rest head b =
    let text = b.is_request.reads.0.target_text in
    subst AreBytes (text.1.1 ∙ sym b.told.target_is) (chars_bytes text.0 text.1.0)

-- ---- what a target of bytes asks

onto_bytes : (x : ℕ) (parts : List (List ℕ)) → IsByte x → All AreBytes parts → All AreBytes (onto_first x parts)
onto_bytes x [] h all = All-cons AreBytes (x ∷ []) [] (All-cons IsByte x [] h (All-nil IsByte)) (All-nil AreBytes)
onto_bytes x (part ∷ parts) h all =
    All-cons AreBytes (x ∷ part) parts (All-cons IsByte x part h (All-head AreBytes part parts all)) (All-tail AreBytes part parts all)

cut_bytes : (p : ℕ → Bool) (text : List ℕ) → AreBytes text → All AreBytes (slice_split p text)
cut_bytes p [] all = All-cons AreBytes [] [] (All-nil IsByte) (All-nil AreBytes)
cut_bytes p (x ∷ text) all =
    let below = cut_bytes p text (All-tail IsByte x text all) in
    cond_both (p x) ([] ∷ slice_split p text) (onto_first x (slice_split p text)) (All AreBytes)
    (λ e. All-cons AreBytes [] (slice_split p text) (All-nil IsByte) below) (λ e. onto_bytes x (slice_split p text) (All-head IsByte x text all) below)

names_bytes : (text : List ℕ) → AreBytes text → All AreBytes (names_of text)
unfolding names_of
names_bytes text all =
    All-map AreBytes percent_decode (parts_at slash text)
    (All-weaker AreBytes (λ (part : List ℕ). AreBytes (percent_decode part)) (λ part are. All-percent_decode part are) (parts_at slash text)
    (All-filter (λ part. not (length part == 0)) AreBytes (cut_at slash text) (cut_bytes (λ b. b == slash) text all)))

path_bytes : (rest : Option (List ℕ)) (path : List (List ℕ)) → AreBytes (behind slash rest) → PathBehind rest path → All AreBytes path
path_bytes None path are h = subst (All AreBytes) (sym h) (All-nil AreBytes)
path_bytes (Some text) path are h = subst (All AreBytes) (sym h.names) (names_bytes text (All-tail IsByte slash text are))

rooted_spelled : (text : List ℕ) (root : CidParts) (path : List (List ℕ)) → AreBytes text → RootedText text root path
    → ((name : List ℕ) × CidBytes root name) × All AreBytes path
rooted_spelled text root path are r =
    let back = rest_bytes r.root_text (behind slash r.rest) (subst AreBytes r.whole are) in
    ((r.root_is.bytes, inr r.root_is.in_bytes), path_bytes r.rest path back r.path_is)

target_spelled : (text : List ℕ) (target : Target) → AreBytes text → TargetText text target → ((name : List ℕ) × CidBytes target.root name) × All AreBytes target.path
target_spelled text target are t =
    let rooted = front_bytes t.rooted_text (behind 63 t.query) (rest_bytes ipfs (t.rooted_text ++ behind 63 t.query) (subst AreBytes t.whole are)) in
    rooted_spelled t.rooted_text target.root target.path rooted t.rooted

-- ---- the query that is joined of the target and `Accept`

ok_same : {T E : Type 0} {x y : T} → ◌≡◌ {A = Result T E} (Ok x) (Ok y) → x ≡ y
ok_same e = cc

ok_not_err : {T E : Type 0} {x : T} {y : E} → ◌≡◌ {A = Result T E} (Err y) (Ok x) → ⊥
ok_not_err e = cc

-- it has the target's root, and the target's path or none
record IsOf (target : Target) (q : QueryParts) : Type 0 where
  root : q.root ≡ target.root
  path : (q.path ≡ target.path) ⊎ (q.path ≡ [])

raw_of : (target : Target) (q : QueryParts) → raw_or_fault target ≡ Ok q → IsOf target q
raw_of target q e = by_path (length target.path == 0) refl
  where
    by_path : (t : Bool) → (length target.path == 0) ≡ t → IsOf target q
    by_path true t =
        let same : raw_query target ≡ q = ok_same (rw t at e) in
        subst (IsOf target) same (record { root = refl; path = inr refl })
    by_path false t = absurd (ok_not_err (rw t at e))

car_of : (target : Target) (dups : Option Bool) (q : QueryParts) → car_with target dups ≡ Ok q → IsOf target q
car_of target None q e = absurd (ok_not_err e)
car_of target (Some dups) q e = subst (IsOf target) (ok_same e) (record { root = refl; path = inl refl })

joined_of : (form : Option Form) (target : Target) (car : Option CarChoice) (q : QueryParts) → join_by form target car ≡ Ok q → IsOf target q
joined_of None target car q e = absurd (ok_not_err e)
joined_of (Some forms.Raw) target car q e = raw_of target q e
joined_of (Some forms.Car) target car q e = car_of target (dups_of (unwrap_or car default_choice)) q e

of_spelled : (target : Target) (q : QueryParts) → IsOf target q → ((name : List ℕ) × CidBytes target.root name) × All AreBytes target.path → IsSpelledQuery q
of_spelled target q o t = record {
  name = t.0.0;
  root = subst (λ (cid : CidParts). CidBytes cid t.0.0) (sym o.root) t.0.1;
  names = by_path o.path;
}
  where
    by_path : (q.path ≡ target.path) ⊎ (q.path ≡ []) → All AreBytes q.path
    by_path (inl e) = subst (All AreBytes) (sym e) t.1
    by_path (inr e) = subst (All AreBytes) (sym e) (All-nil AreBytes)

module _ (targets : (text : List ℕ) (target : Target) → (target_of text ≡ Ok target) ↔ TargetText text target) where
  by_target : (text : List ℕ) (accept : List (List ℕ)) (q : QueryParts) → AreBytes text → asked_by text accept ≡ Ok q → IsSpelledQuery q
  by_target text accept q are e = by_answer (target_of text) refl
    where
      by_answer : (answer : Result Target QueryFault) → target_of text ≡ answer → IsSpelledQuery q
      by_answer (Err fault) t = absurd (ok_not_err (rw t at e))
      by_answer (Ok target) t =
          let joined : join_of target (accepted_of accept) ≡ Ok q = rw t at e in
          of_spelled target q (joined_of (format_for target.format (accepted_of accept).first) target (accepted_of accept).car q joined)
          (target_spelled text target are ((targets text target).0 t))

  by_query : (answer : Result QueryParts QueryFault) (q : QueryParts) → or_refusal answer ≡ Ok q → answer ≡ Ok q
  by_query (Ok other) q e = ap Ok (ok_same e)
  by_query (Err fault) q e = absurd (ok_not_err e)

  pub asked_spells : AskedSpells
  asked_spells head q are e = by_framed head.framed refl
    where
      by_method : (t : Bool) → head.framed ≡ false → (is_get head.method || is_head head.method) ≡ t → IsSpelledQuery q
      by_method true f t = by_target head.target head.accept q are (by_query (asked_by head.target head.accept) q (rw (f, t) at e))
      by_method false f t = absurd (ok_not_err (rw (f, t) at e))

      by_framed : (t : Bool) → head.framed ≡ t → IsSpelledQuery q
      by_framed true f = absurd (ok_not_err (rw f at e))
      by_framed false f = by_method (is_get head.method || is_head head.method) f refl
