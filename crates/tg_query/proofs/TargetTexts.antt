-- Targets: what is computed is what the grammar says.
use Rattle.std.proofs.Common.{Bool, Err, List, None, Ok, Option, Result, Some, [], ap, false, refl, subst, sym, true, ℕ, ◌++◌, ◌∙◌, ◌∷◌, ◌≡◌}
use Rattle.std.specs.List.{cons_option}
use Rattle.std.specs.Prelude.{bytes_eq, codes, if◌then◌else◌, ◌↔◌}
use Rattle.std.proofs.lemmas.Bool.{cond-false, cond_both}
use Rattle.std.proofs.lemmas.Slice.Eq.{bytes_eq-Decides}
use Rattle.tg_cid.specs.Cid.{CidParts}
use Rattle.tg_model.specs.Queries.{SpanParts}
use Rattle.tg_model.specs.declared.queries.Form.{Form}
use Rattle.tg_model.specs.declared.queries.Form.TheVariants as forms
use Rattle.tg_model.specs.declared.queries.Scope.{Scope}
use Rattle.tg_model.specs.declared.queries.Scope.TheVariants as scopes
use Rattle.tg_query.specs.AnswerLaws.{bind_ok}
use Rattle.tg_query.specs.Answers.{unless, ◌>>=◌}
use Rattle.tg_query.specs.Cuts.{IsCut, behind, behind_front, cut_first}
use Rattle.tg_query.specs.Spans.{SpanText, span_of}
use Rattle.tg_query.specs.WordTexts.{Rooted, RootedText, ipfs, rooted_of}
use Rattle.tg_query.specs.declared.fault.QueryFault.{QueryFault}
use Rattle.tg_query.specs.declared.fault.QueryFault.TheVariants.{BadFormat, BadScope, Doubled}
use Rattle.tg_query.specs.Targets.{AsksFor, Param, TargetText, asked_of, behind_ipfs, form_of, form_word, is_given, nothing, pair_of, pieces_of, scope_of, scope_word, target_by, target_of, target_with, value_with, values_under, with_format, with_param, with_piece, with_pieces, with_scope, with_span}
use Rattle.tg_query.specs.declared.targets.Asked.{Asked}
use Rattle.tg_query.specs.declared.targets.Target.{Target}
use Rattle.tg_query.proofs.GoodTargets.{SpanLaw, unless_ok}

-- ---- one parameter

-- what a parameter is behind the pieces, by what it was before them
abbrev ParamFrom : {A : Type 0} → (List ℕ → A → Type 0) → List (List ℕ) → Option A → Option A → Type 0
ParamFrom Writes values None after = Param Writes values after
ParamFrom Writes values (Some x) after = (values ≡ []) × (after ≡ Some x)

own_told : {A : Type 0} (W : List ℕ → A → Type 0) (v : List ℕ) (rest : List (List ℕ)) (x : A) (before after : Option A) → is_given before ≡ false → W v x
    → ParamFrom W rest (Some x) after → ParamFrom W (v ∷ rest) before after
own_told W v rest x None after none w h =
    subst (λ o. Param W (v ∷ rest) o) (sym h.1) (v, ap (λ (l : List (List ℕ)). v ∷ l) h.0, w)
own_told W v rest x (Some y) after none w h = absurd cc

-- what a parameter's own piece tells
record OwnPiece {A : Type 0} (W : List ℕ → A → Type 0) (v : List ℕ) (rest : List (List ℕ)) (before after : Option A) : Type 0 where
  none : is_given before ≡ false
  x : A
  writes : W v x
  more : ParamFrom W rest (Some x) after

own_found : {A : Type 0} (W : List ℕ → A → Type 0) (v : List ℕ) (rest : List (List ℕ)) (before after : Option A) → ParamFrom W (v ∷ rest) before after
    → OwnPiece W v rest before after
own_found W v rest None None h = absurd cc
own_found W v rest None (Some x) h =
    let whole : v ∷ rest ≡ h.0 ∷ [] = h.1 in
    let first : v ≡ h.0 = cc in
    let others : rest ≡ [] = cc in
    record { none = refl; x = x; writes = subst (λ (l : List ℕ). W l x) (sym first) h.2; more = (others, refl) }
own_found W v rest (Some y) after h = let e : v ∷ rest ≡ [] = h.0 in absurd cc

-- ---- the query

abbrev WritesForm : List ℕ → Form → Type 0
WritesForm value form = value ≡ form_word form

abbrev WritesScope : List ℕ → Scope → Type 0
WritesScope value scope = value ≡ scope_word scope

record AsksFrom (pieces : List (List ℕ)) (before after : Asked) : Type 0 where
  format : ParamFrom WritesForm (values_under (codes "format") pieces) before.format after.format
  scope : ParamFrom WritesScope (values_under (codes "dag-scope") pieces) before.scope after.scope
  span : ParamFrom SpanText (values_under (codes "entity-bytes") pieces) before.span after.span

form_told : (word : List ℕ) (form : Form) → form_of word ≡ Ok form → WritesForm word form
form_told word form =
    cond_both (bytes_eq word (codes "raw")) (Ok forms.Raw) (if bytes_eq word (codes "car") then Ok forms.Car else Err BadFormat)
    (λ (r : Result Form QueryFault). r ≡ Ok form → WritesForm word form)
    (λ t e. let same : forms.Raw ≡ form = cc in (bytes_eq-Decides word (codes "raw")).0 t ∙ ap form_word same)
    (λ f. cond_both (bytes_eq word (codes "car")) (Ok forms.Car) (Err BadFormat) (λ (r : Result Form QueryFault). r ≡ Ok form → WritesForm word form)
    (λ t e. let same : forms.Car ≡ form = cc in (bytes_eq-Decides word (codes "car")).0 t ∙ ap form_word same)
    (λ g e. absurd cc))

form_found : (word : List ℕ) (form : Form) → WritesForm word form → form_of word ≡ Ok form
form_found word forms.Raw h = ap form_of h
form_found word forms.Car h = ap form_of h

scope_told : (word : List ℕ) (scope : Scope) → scope_of word ≡ Ok scope → WritesScope word scope
scope_told word scope =
    cond_both (bytes_eq word (codes "block")) (Ok scopes.Block)
    (if bytes_eq word (codes "entity") then Ok scopes.Entity else (if bytes_eq word (codes "all") then Ok scopes.All else Err BadScope))
    (λ (r : Result Scope QueryFault). r ≡ Ok scope → WritesScope word scope)
    (λ t e. let same : scopes.Block ≡ scope = cc in (bytes_eq-Decides word (codes "block")).0 t ∙ ap scope_word same)
    (λ f. cond_both (bytes_eq word (codes "entity")) (Ok scopes.Entity) (if bytes_eq word (codes "all") then Ok scopes.All else Err BadScope)
    (λ (r : Result Scope QueryFault). r ≡ Ok scope → WritesScope word scope)
    (λ t e. let same : scopes.Entity ≡ scope = cc in (bytes_eq-Decides word (codes "entity")).0 t ∙ ap scope_word same)
    (λ g. cond_both (bytes_eq word (codes "all")) (Ok scopes.All) (Err BadScope) (λ (r : Result Scope QueryFault). r ≡ Ok scope → WritesScope word scope)
    (λ t e. let same : scopes.All ≡ scope = cc in (bytes_eq-Decides word (codes "all")).0 t ∙ ap scope_word same)
    (λ k e. absurd cc)))

scope_found : (word : List ℕ) (scope : Scope) → WritesScope word scope → scope_of word ≡ Ok scope
scope_found word scopes.Block h = ap scope_of h
scope_found word scopes.Entity h = ap scope_of h
scope_found word scopes.All h = ap scope_of h

-- the values of a key, a piece more
values_by : (key : List ℕ) (piece : List ℕ) (pieces : List (List ℕ)) (o : Option (List ℕ)) → value_with key (pair_of piece) ≡ o
    → values_under key (piece ∷ pieces) ≡ cons_option o (values_under key pieces)
values_by key piece pieces o e = ap (λ o. cons_option o (values_under key pieces)) e

-- a piece of this key has no other
at_key : (own key : List ℕ) (pair : List ℕ × List ℕ) → pair.0 ≡ own → value_with key pair ≡ value_with key (own, pair.1)
at_key own key pair e = ap (λ (k : List ℕ). value_with key (k, pair.1)) e

no_key : (key : List ℕ) (pair : List ℕ × List ℕ) → bytes_eq pair.0 key ≡ false → value_with key pair ≡ None
no_key key pair f = cond-false (bytes_eq pair.0 key) (Some pair.1) None f

not_given : {A : Type 0} (t : Bool) (fault : QueryFault) (r : Result A QueryFault) (a : A) → unless t fault r ≡ Ok a → t ≡ false
not_given true fault r a e = absurd cc
not_given false fault r a e = refl

-- which key a piece has
data KeyOf (key : List ℕ) : Type 0 where
  format_key : key ≡ codes "format" → KeyOf key
  scope_key : key ≡ codes "dag-scope" → KeyOf key
  span_key : key ≡ codes "entity-bytes" → KeyOf key
  other_key : bytes_eq key (codes "format") ≡ false → bytes_eq key (codes "dag-scope") ≡ false → bytes_eq key (codes "entity-bytes") ≡ false → KeyOf key

key_of : (key : List ℕ) → KeyOf key
key_of key = by_first (bytes_eq key (codes "format")) refl
  where
    by_third : bytes_eq key (codes "format") ≡ false → bytes_eq key (codes "dag-scope") ≡ false → (b : Bool) → bytes_eq key (codes "entity-bytes") ≡ b → KeyOf key
    by_third f g true t = span_key ((bytes_eq-Decides key (codes "entity-bytes")).0 t)
    by_third f g false k = other_key f g k

    by_second : bytes_eq key (codes "format") ≡ false → (b : Bool) → bytes_eq key (codes "dag-scope") ≡ b → KeyOf key
    by_second f true t = scope_key ((bytes_eq-Decides key (codes "dag-scope")).0 t)
    by_second f false g = by_third f g (bytes_eq key (codes "entity-bytes")) refl

    by_first : (b : Bool) → bytes_eq key (codes "format") ≡ b → KeyOf key
    by_first true t = format_key ((bytes_eq-Decides key (codes "format")).0 t)
    by_first false f = by_second f (bytes_eq key (codes "dag-scope")) refl

other_param : (asked : Asked) (key value : List ℕ) → bytes_eq key (codes "format") ≡ false → bytes_eq key (codes "dag-scope") ≡ false
    → bytes_eq key (codes "entity-bytes") ≡ false → with_param asked key value ≡ Ok asked
other_param asked key value f g k =
    cond-false (bytes_eq key (codes "format")) (with_format asked value) _ f
    ∙ cond-false (bytes_eq key (codes "dag-scope")) (with_scope asked value) _ g
    ∙ cond-false (bytes_eq key (codes "entity-bytes")) (with_span asked value) (Ok asked) k

-- ---- what is computed is asked

piece_told : SpanLaw → (piece : List ℕ) (pieces : List (List ℕ)) (before more after : Asked) → KeyOf (pair_of piece).0
    → with_piece before piece ≡ Ok more → AsksFrom pieces more after → AsksFrom (piece ∷ pieces) before after
piece_told law piece pieces before more after (format_key k) e h =
    let v = (pair_of piece).1 in
    let read : with_format before v ≡ Ok more = ap (λ (key : List ℕ). with_param before key v) (sym k) ∙ e in
    let inner = bind_ok (form_of v) (λ (form : Form). Ok (record before { format = Some form })) more (unless_ok (is_given before.format) Doubled _ more read) in
    let same : record before { format = Some inner.0 } ≡ more = cc (inner.2) in
    let rest : AsksFrom pieces (record before { format = Some inner.0 }) after = subst (λ (a : Asked). AsksFrom pieces a after) (sym same) h in
    record {
      format =
          subst (λ (l : List (List ℕ)). ParamFrom WritesForm l before.format after.format) (sym (values_by (codes "format") piece pieces (Some v) (at_key (codes "format") (codes "format") (pair_of piece) k)))
          (own_told WritesForm v (values_under (codes "format") pieces) inner.0 before.format after.format (not_given (is_given before.format) Doubled _ more read) (form_told v inner.0 inner.1) rest.format);
      scope = subst (λ (l : List (List ℕ)). ParamFrom WritesScope l before.scope after.scope) (sym (values_by (codes "dag-scope") piece pieces None (at_key (codes "format") (codes "dag-scope") (pair_of piece) k))) rest.scope;
      span = subst (λ (l : List (List ℕ)). ParamFrom SpanText l before.span after.span) (sym (values_by (codes "entity-bytes") piece pieces None (at_key (codes "format") (codes "entity-bytes") (pair_of piece) k))) rest.span;
    }
piece_told law piece pieces before more after (scope_key k) e h =
    let v = (pair_of piece).1 in
    let read : with_scope before v ≡ Ok more = ap (λ (key : List ℕ). with_param before key v) (sym k) ∙ e in
    let inner = bind_ok (scope_of v) (λ (scope : Scope). Ok (record before { scope = Some scope })) more (unless_ok (is_given before.scope) Doubled _ more read) in
    let same : record before { scope = Some inner.0 } ≡ more = cc (inner.2) in
    let rest : AsksFrom pieces (record before { scope = Some inner.0 }) after = subst (λ (a : Asked). AsksFrom pieces a after) (sym same) h in
    record {
      format = subst (λ (l : List (List ℕ)). ParamFrom WritesForm l before.format after.format) (sym (values_by (codes "format") piece pieces None (at_key (codes "dag-scope") (codes "format") (pair_of piece) k))) rest.format;
      scope =
          subst (λ (l : List (List ℕ)). ParamFrom WritesScope l before.scope after.scope) (sym (values_by (codes "dag-scope") piece pieces (Some v) (at_key (codes "dag-scope") (codes "dag-scope") (pair_of piece) k)))
          (own_told WritesScope v (values_under (codes "dag-scope") pieces) inner.0 before.scope after.scope (not_given (is_given before.scope) Doubled _ more read) (scope_told v inner.0 inner.1) rest.scope);
      span = subst (λ (l : List (List ℕ)). ParamFrom SpanText l before.span after.span) (sym (values_by (codes "entity-bytes") piece pieces None (at_key (codes "dag-scope") (codes "entity-bytes") (pair_of piece) k))) rest.span;
    }
piece_told law piece pieces before more after (span_key k) e h =
    let v = (pair_of piece).1 in
    let read : with_span before v ≡ Ok more = ap (λ (key : List ℕ). with_param before key v) (sym k) ∙ e in
    let inner = bind_ok (span_of v) (λ (span : SpanParts). Ok (record before { span = Some span })) more (unless_ok (is_given before.span) Doubled _ more read) in
    let same : record before { span = Some inner.0 } ≡ more = cc (inner.2) in
    let rest : AsksFrom pieces (record before { span = Some inner.0 }) after = subst (λ (a : Asked). AsksFrom pieces a after) (sym same) h in
    record {
      format = subst (λ (l : List (List ℕ)). ParamFrom WritesForm l before.format after.format) (sym (values_by (codes "format") piece pieces None (at_key (codes "entity-bytes") (codes "format") (pair_of piece) k))) rest.format;
      scope = subst (λ (l : List (List ℕ)). ParamFrom WritesScope l before.scope after.scope) (sym (values_by (codes "dag-scope") piece pieces None (at_key (codes "entity-bytes") (codes "dag-scope") (pair_of piece) k))) rest.scope;
      span =
          subst (λ (l : List (List ℕ)). ParamFrom SpanText l before.span after.span) (sym (values_by (codes "entity-bytes") piece pieces (Some v) (at_key (codes "entity-bytes") (codes "entity-bytes") (pair_of piece) k)))
          (own_told SpanText v (values_under (codes "entity-bytes") pieces) inner.0 before.span after.span (not_given (is_given before.span) Doubled _ more read) ((law v inner.0).0 inner.1) rest.span);
    }
piece_told law piece pieces before more after (other_key f g k) e h =
    let same : before ≡ more = let is = other_param before (pair_of piece).0 (pair_of piece).1 f g k in cc in
    let rest : AsksFrom pieces before after = subst (λ (a : Asked). AsksFrom pieces a after) (sym same) h in
    record {
      format = subst (λ (l : List (List ℕ)). ParamFrom WritesForm l before.format after.format) (sym (values_by (codes "format") piece pieces None (no_key (codes "format") (pair_of piece) f))) rest.format;
      scope = subst (λ (l : List (List ℕ)). ParamFrom WritesScope l before.scope after.scope) (sym (values_by (codes "dag-scope") piece pieces None (no_key (codes "dag-scope") (pair_of piece) g))) rest.scope;
      span = subst (λ (l : List (List ℕ)). ParamFrom SpanText l before.span after.span) (sym (values_by (codes "entity-bytes") piece pieces None (no_key (codes "entity-bytes") (pair_of piece) k))) rest.span;
    }

kept : {A : Type 0} (W : List ℕ → A → Type 0) (o : Option A) → ParamFrom W [] o o
kept W None = refl
kept W (Some x) = (refl, refl)

pieces_told : SpanLaw → (pieces : List (List ℕ)) (before after : Asked) → with_pieces before pieces ≡ Ok after → AsksFrom pieces before after
pieces_told law [] before after e =
    let same : before ≡ after = cc in
    subst (λ (a : Asked). AsksFrom [] before a) same
    (record { format = kept WritesForm before.format; scope = kept WritesScope before.scope; span = kept SpanText before.span })
pieces_told law (piece ∷ pieces) before after e =
    let inner = bind_ok (with_piece before piece) (λ (next : Asked). with_pieces next pieces) after e in
    piece_told law piece pieces before inner.0 after (key_of (pair_of piece).0) inner.1 (pieces_told law pieces inner.0 after inner.2)

-- ---- what is asked is computed

unless_none : {A : Type 0} (t : Bool) (fault : QueryFault) (r : Result A QueryFault) → t ≡ false → unless t fault r ≡ r
unless_none true fault r e = absurd cc
unless_none false fault r e = refl

-- the next value, and what the pieces behind it ask
record NextPiece (piece : List ℕ) (pieces : List (List ℕ)) (before after : Asked) : Type 0 where
  more : Asked
  read : with_piece before piece ≡ Ok more
  rest : AsksFrom pieces more after

piece_found : SpanLaw → (piece : List ℕ) (pieces : List (List ℕ)) (before after : Asked) → KeyOf (pair_of piece).0 → AsksFrom (piece ∷ pieces) before after
    → NextPiece piece pieces before after
piece_found law piece pieces before after (format_key k) h =
    let v = (pair_of piece).1 in
    let own = own_found WritesForm v (values_under (codes "format") pieces) before.format after.format
    (subst (λ (l : List (List ℕ)). ParamFrom WritesForm l before.format after.format) (values_by (codes "format") piece pieces (Some v) (at_key (codes "format") (codes "format") (pair_of piece) k)) h.format) in
    record {
      more = record before { format = Some own.x };
      read =
          ap (λ (key : List ℕ). with_param before key v) k ∙ unless_none (is_given before.format) Doubled _ own.none
          ∙ ap (λ (r : Result Form QueryFault). r >>= λ form. Ok (record before { format = Some form })) (form_found v own.x own.writes);
      rest = record {
        format = own.more;
        scope = subst (λ (l : List (List ℕ)). ParamFrom WritesScope l before.scope after.scope) (values_by (codes "dag-scope") piece pieces None (at_key (codes "format") (codes "dag-scope") (pair_of piece) k)) h.scope;
        span = subst (λ (l : List (List ℕ)). ParamFrom SpanText l before.span after.span) (values_by (codes "entity-bytes") piece pieces None (at_key (codes "format") (codes "entity-bytes") (pair_of piece) k)) h.span;
      };
    }
piece_found law piece pieces before after (scope_key k) h =
    let v = (pair_of piece).1 in
    let own = own_found WritesScope v (values_under (codes "dag-scope") pieces) before.scope after.scope
    (subst (λ (l : List (List ℕ)). ParamFrom WritesScope l before.scope after.scope) (values_by (codes "dag-scope") piece pieces (Some v) (at_key (codes "dag-scope") (codes "dag-scope") (pair_of piece) k)) h.scope) in
    record {
      more = record before { scope = Some own.x };
      read =
          ap (λ (key : List ℕ). with_param before key v) k ∙ unless_none (is_given before.scope) Doubled _ own.none
          ∙ ap (λ (r : Result Scope QueryFault). r >>= λ scope. Ok (record before { scope = Some scope })) (scope_found v own.x own.writes);
      rest = record {
        format = subst (λ (l : List (List ℕ)). ParamFrom WritesForm l before.format after.format) (values_by (codes "format") piece pieces None (at_key (codes "dag-scope") (codes "format") (pair_of piece) k)) h.format;
        scope = own.more;
        span = subst (λ (l : List (List ℕ)). ParamFrom SpanText l before.span after.span) (values_by (codes "entity-bytes") piece pieces None (at_key (codes "dag-scope") (codes "entity-bytes") (pair_of piece) k)) h.span;
      };
    }
piece_found law piece pieces before after (span_key k) h =
    let v = (pair_of piece).1 in
    let own = own_found SpanText v (values_under (codes "entity-bytes") pieces) before.span after.span
    (subst (λ (l : List (List ℕ)). ParamFrom SpanText l before.span after.span) (values_by (codes "entity-bytes") piece pieces (Some v) (at_key (codes "entity-bytes") (codes "entity-bytes") (pair_of piece) k)) h.span) in
    record {
      more = record before { span = Some own.x };
      read =
          ap (λ (key : List ℕ). with_param before key v) k ∙ unless_none (is_given before.span) Doubled _ own.none
          ∙ ap (λ (r : Result SpanParts QueryFault). r >>= λ span. Ok (record before { span = Some span })) ((law v own.x).1 own.writes);
      rest = record {
        format = subst (λ (l : List (List ℕ)). ParamFrom WritesForm l before.format after.format) (values_by (codes "format") piece pieces None (at_key (codes "entity-bytes") (codes "format") (pair_of piece) k)) h.format;
        scope = subst (λ (l : List (List ℕ)). ParamFrom WritesScope l before.scope after.scope) (values_by (codes "dag-scope") piece pieces None (at_key (codes "entity-bytes") (codes "dag-scope") (pair_of piece) k)) h.scope;
        span = own.more;
      };
    }
piece_found law piece pieces before after (other_key f g k) h = record {
  more = before;
  read = other_param before (pair_of piece).0 (pair_of piece).1 f g k;
  rest = record {
    format = subst (λ (l : List (List ℕ)). ParamFrom WritesForm l before.format after.format) (values_by (codes "format") piece pieces None (no_key (codes "format") (pair_of piece) f)) h.format;
    scope = subst (λ (l : List (List ℕ)). ParamFrom WritesScope l before.scope after.scope) (values_by (codes "dag-scope") piece pieces None (no_key (codes "dag-scope") (pair_of piece) g)) h.scope;
    span = subst (λ (l : List (List ℕ)). ParamFrom SpanText l before.span after.span) (values_by (codes "entity-bytes") piece pieces None (no_key (codes "entity-bytes") (pair_of piece) k)) h.span;
  };
}

none_left : {A : Type 0} (W : List ℕ → A → Type 0) (before after : Option A) → ParamFrom W [] before after → before ≡ after
none_left W None None h = refl
none_left W None (Some x) h = let e : [] ≡ h.0 ∷ [] = h.1 in absurd cc
none_left W (Some x) after h = sym h.1

asked_same : (a b : Asked) → a.format ≡ b.format → a.scope ≡ b.scope → a.span ≡ b.span → a ≡ b
asked_same a b p q r =
    ap (λ (f : Option Form). record a { format = f }) p
    ∙ ap (λ (s : Option Scope). record b { scope = s; span = a.span }) q
    ∙ ap (λ (s : Option SpanParts). record b { span = s }) r

pieces_found : SpanLaw → (pieces : List (List ℕ)) (before after : Asked) → AsksFrom pieces before after → with_pieces before pieces ≡ Ok after
pieces_found law [] before after h =
    ap (λ (a : Asked). Ok a)
    (asked_same before after (none_left WritesForm before.format after.format h.format) (none_left WritesScope before.scope after.scope h.scope)
    (none_left SpanText before.span after.span h.span))
pieces_found law (piece ∷ pieces) before after h =
    let next = piece_found law piece pieces before after (key_of (pair_of piece).0) h in
    ap (λ (r : Result Asked QueryFault). r >>= λ more. with_pieces more pieces) next.read ∙ pieces_found law pieces next.more after next.rest

pub asked_law : SpanLaw → (query : Option (List ℕ)) (asked : Asked) → (asked_of query ≡ Ok asked) ↔ AsksFor query asked
asked_law law query asked = (
  λ e. let h = pieces_told law (pieces_of query) nothing asked e in record { format = h.format; scope = h.scope; span = h.span },
  λ h. pieces_found law (pieces_of query) nothing asked (record { format = h.format; scope = h.scope; span = h.span }),
)

-- ---- the target

abbrev pub CutLaw : Type 0
CutLaw = (byte : ℕ) (text front : List ℕ) (rest : Option (List ℕ)) → (◌≡◌ {A = List ℕ × Option (List ℕ)} (cut_first byte text) (front, rest)) ↔ IsCut byte text front rest

abbrev pub FrontLaw : Type 0
FrontLaw = (front text rest : List ℕ) → (behind_front front text ≡ Some rest) ↔ (text ≡ front ++ rest)

abbrev pub RootLaw : Type 0
RootLaw = (text : List ℕ) (root : CidParts) (path : List (List ℕ)) → (rooted_of text ≡ Ok (root, path)) ↔ RootedText text root path

told_by : CutLaw → RootLaw → SpanLaw → (text rest front : List ℕ) (query : Option (List ℕ)) (target : Target) → text ≡ ipfs ++ rest
    → ◌≡◌ {A = List ℕ × Option (List ℕ)} (cut_first 63 rest) (front, query) → target_by (front, query) ≡ Ok target → TargetText text target
told_by cuts roots spans text rest front query target whole parts e =
    let first = bind_ok (rooted_of front) (λ (rooted : Rooted). asked_of query >>= λ asked. Ok (target_with rooted asked)) target e in
    let second = bind_ok (asked_of query) (λ (asked : Asked). Ok (target_with first.0 asked)) target first.2 in
    let same : target_with first.0 second.0 ≡ target = cc (second.2) in
    let cut = (cuts 63 rest front query).0 parts in
    subst (TargetText text) same
    (record {
      rooted_text = front;
      query = query;
      whole = whole ∙ ap (λ (l : List ℕ). ipfs ++ l) cut.whole;
      no_query = cut.none;
      rooted = (roots front first.0.0 first.0.1).0 first.1;
      asks = (asked_law spans query second.0).0 second.1;
    })

told_at : CutLaw → FrontLaw → RootLaw → SpanLaw → (text : List ℕ) (o : Option (List ℕ)) (target : Target) → behind_front ipfs text ≡ o → behind_ipfs o ≡ Ok target
    → TargetText text target
told_at cuts fronts roots spans text None target f e = absurd cc
told_at cuts fronts roots spans text (Some rest) target f e =
    told_by cuts roots spans text rest (cut_first 63 rest).0 (cut_first 63 rest).1 target ((fronts ipfs text rest).0 f) refl e

target_found : CutLaw → FrontLaw → RootLaw → SpanLaw → (text : List ℕ) (target : Target) → TargetText text target → target_of text ≡ Ok target
target_found cuts fronts roots spans text target h =
    let rest = h.rooted_text ++ behind 63 h.query in
    let asked : Asked = record { format = target.format; scope = target.scope; span = target.span } in
    ap behind_ipfs ((fronts ipfs text rest).1 h.whole)
    ∙ ap target_by ((cuts 63 rest h.rooted_text h.query).1 (record { whole = refl; none = h.no_query }))
    ∙ ap (λ (r : Result Rooted QueryFault). r >>= λ rooted. asked_of h.query >>= λ asked. Ok (target_with rooted asked)) ((roots h.rooted_text target.root target.path).1 h.rooted)
    ∙ ap (λ (r : Result Asked QueryFault). r >>= λ asked. Ok (target_with (target.root, target.path) asked)) ((asked_law spans h.query asked).1 h.asks)

pub target_law : CutLaw → FrontLaw → RootLaw → SpanLaw → (text : List ℕ) (target : Target) → (target_of text ≡ Ok target) ↔ TargetText text target
target_law cuts fronts roots spans text target =
    (λ e. told_at cuts fronts roots spans text (behind_front ipfs text) target refl e, target_found cuts fronts roots spans text target)
