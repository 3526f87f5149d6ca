-- A head of the grammar is a head text: its lines are of bytes that end no line (RFC 9112, sections 2 to 5).
use Rattle.std.proofs.Common.{◌≡◌, ◌≢◌, ℕ, ◌+◌, ◌<◌, true, false, List, [], ◌∷◌, ◌++◌, map, length, refl, sym, ap, ◌∙◌}
use Rattle.std.proofs.Common.{arith, append_assoc}
use Rattle.std.specs.Char.{is_ascii_digit}
use Rattle.std.specs.List.{flat_map, list_all}
use Rattle.std.specs.Prelude.{All, Bool, Option, Some, None, IsTrue, codes}
use Rattle.std.proofs.lemmas.Bool.{false≢true}
use Rattle.std.proofs.lemmas.List.{length-append, length-map}
use Rattle.std.proofs.lemmas.List.Elements.{All-head, All-nil, All-cons, All-append, All-weaker, All-map}
use Rattle.std.proofs.lemmas.List.Elements.{All-from_recursion}
use Rattle.std.proofs.lemmas.List.Sums.{AllPass-from_list_all}
use Rattle.httparse.specs.Grammar.{LineEnd, crlf, lf, AllPass, IsToken, is_token_byte, is_uri_byte, is_value_byte}
use Rattle.httparse.specs.Grammar.{print_end, print_blank, print_version, Field, print_field, IsField, print_section}
use Rattle.httparse.specs.Grammar.{RequestHead, print_request, IsRequestHead, ResponseHead, print_response}
use Rattle.httparse.specs.Grammar.{print_reason, reason_phrase, IsResponseHead}
use Rattle.httparse.proofs.GrammarLemmas.{cons-append}
use Rattle.tg_bytes.specs.Lists.{joined}
use Rattle.tg_http.specs.HeadText.{HasNoFeed, HeadText, IsFullLine, IsLine}

-- ---- bytes of a line before its end

-- a byte that is neither LF nor CR
abbrev pub IsPlain : ℕ → Type 0
IsPlain b = (b ≢ 10) × (b ≢ 13)

-- as one that passes a test which both fail
pub plain_by : (test : ℕ → Bool) (b : ℕ) → test 10 ≡ false → test 13 ≡ false → test b ≡ true → IsPlain b
plain_by test b feed return t =
    (λ e. false≢true (sym feed ∙ ap test (sym e) ∙ t), λ e. false≢true (sym return ∙ ap test (sym e) ∙ t))

pub plain_token : (b : ℕ) → IsTrue (is_token_byte b) → IsPlain b
unfolding is_token_byte
plain_token b t = plain_by is_token_byte b refl refl t

pub plain_uri : (b : ℕ) → IsTrue (is_uri_byte b) → IsPlain b
plain_uri b t = plain_by is_uri_byte b refl refl t

pub plain_value : (b : ℕ) → IsTrue (is_value_byte b) → IsPlain b
plain_value b t = plain_by is_value_byte b refl refl t

plain_digit : (b : ℕ) → IsTrue (is_ascii_digit b) → IsPlain b
plain_digit b t = plain_by is_ascii_digit b refl refl t

plain_above : (b : ℕ) → 13 < b → IsPlain b
plain_above b h = (λ e. omega (arith, e, h), λ e. omega (arith, e, h))

-- plain bytes and a line end are a line that isn't empty
plain_line : (bytes : List ℕ) (end : LineEnd) → 0 < length bytes → All IsPlain bytes
    → IsFullLine (bytes ++ print_end end)
plain_line [] end some plain = absurd (omega (arith, some))
plain_line (b ∷ bytes) end some plain = record { line_is = line end; not_empty = λ e. by_end e.0 e.1 }
  where
    none : HasNoFeed (b ∷ bytes)
    none = All-weaker IsPlain (λ (b : ℕ). b ≢ 10) (λ b h. h.0) (b ∷ bytes) plain

    line : (end : LineEnd) → IsLine ((b ∷ bytes) ++ print_end end)
    line crlf = record {
      front = (b ∷ bytes) ++ 13 ∷ [];
      inside = All-append (λ (b : ℕ). b ≢ 10) (b ∷ bytes) (13 ∷ []) none (All-cons (λ (b : ℕ). b ≢ 10) 13 [] (λ e. omega (arith, e)) (All-nil (λ (b : ℕ). b ≢ 10)));
      whole = sym (append_assoc (b ∷ bytes) (13 ∷ []) (10 ∷ []));
    }
    line lf = record { front = b ∷ bytes; inside = none; whole = refl }

    by_end : (other : LineEnd) → (b ∷ bytes) ++ print_end end ≡ print_end other → ⊥
    by_end crlf same = (All-head IsPlain b bytes plain).1 cc
    by_end lf same = (All-head IsPlain b bytes plain).0 cc

-- ---- fields

-- bytes that pass the test of a token's are one
pub token : (name : List ℕ) → 0 < length name → list_all is_token_byte name ≡ true → IsToken name
token name some passes = (some, AllPass-from_list_all is_token_byte name passes)

abbrev pub field_text : Field → List ℕ
field_text f = f.name ++ 58 ∷ f.raw

pub field_plain : (f : Field) → IsField f → All IsPlain (field_text f)
field_plain f i =
    All-append IsPlain f.name (58 ∷ f.raw) (All-weaker (λ (b : ℕ). IsTrue (is_token_byte b)) IsPlain plain_token f.name i.name.1)
    (All-cons IsPlain 58 f.raw (plain_above 58 (omega arith)) (All-weaker (λ (b : ℕ). IsTrue (is_value_byte b)) IsPlain plain_value f.raw i.raw))

abbrev pub field_print : Field → List ℕ
field_print f = field_text f ++ print_end f.end

field_full : (f : Field) → IsField f → IsFullLine (field_print f)
field_full f i =
    plain_line (field_text f) f.end (omega (arith, i.name.0, length-append f.name (58 ∷ f.raw))) (field_plain f i)

pub fields_full : (fields : List Field) → All IsField fields → All IsFullLine (map field_print fields)
fields_full fields all =
    All-map IsFullLine field_print fields (All-weaker IsField (λ f. IsFullLine (field_print f)) field_full fields all)

fields_joined : (fields : List Field) → joined (map field_print fields) ≡ flat_map print_field fields
fields_joined [] = refl
fields_joined (f ∷ fields) = ap (λ (l : List ℕ). print_field f ++ l) (fields_joined fields)

-- ---- start lines

version_plain : (minor : ℕ) → All IsPlain (print_version minor)
version_plain minor =
    All-append IsPlain (codes "HTTP/1.") ((48 + minor) ∷ []) name (All-cons IsPlain (48 + minor) [] (plain_above (48 + minor) (omega arith)) (All-nil IsPlain))
  where
    name : All IsPlain (codes "HTTP/1.")
    name =
        All-from_recursion IsPlain (codes "HTTP/1.")
        (plain_above 72 (omega arith), (plain_above 84 (omega arith), (plain_above 84 (omega arith), (plain_above 80 (omega arith), (plain_above 47 (omega arith), (plain_above 49 (omega arith), (plain_above 46 (omega arith), tt)))))))

abbrev pub start_text : RequestHead → List ℕ
start_text h = h.method ++ 32 ∷ (h.target ++ 32 ∷ print_version h.minor)

pub start_plain : (h : RequestHead) → IsRequestHead h → All IsPlain (start_text h)
start_plain h i =
    All-append IsPlain h.method (32 ∷ (h.target ++ 32 ∷ print_version h.minor))
    (All-weaker (λ (b : ℕ). IsTrue (is_token_byte b)) IsPlain plain_token h.method i.method.1)
    (All-cons IsPlain 32 (h.target ++ 32 ∷ print_version h.minor) (plain_above 32 (omega arith))
    (All-append IsPlain h.target (32 ∷ print_version h.minor)
    (All-weaker (λ (b : ℕ). IsTrue (is_uri_byte b)) IsPlain plain_uri h.target i.target.1)
    (All-cons IsPlain 32 (print_version h.minor) (plain_above 32 (omega arith)) (version_plain h.minor))))

abbrev pub start_print : RequestHead → List ℕ
start_print h = start_text h ++ print_end h.line_end

pub start_full : (h : RequestHead) → IsRequestHead h → IsFullLine (start_print h)
start_full h i =
    plain_line (start_text h) h.line_end (omega (arith, i.method.0, length-append h.method (32 ∷ (h.target ++ 32 ∷ print_version h.minor)))) (start_plain h i)

abbrev status_text : ResponseHead → List ℕ
status_text h = print_version h.minor ++ 32 ∷ (h.digits ++ print_reason h.reason)

status_plain : (h : ResponseHead) → IsResponseHead h → All IsPlain (status_text h)
status_plain h i =
    All-append IsPlain (print_version h.minor) (32 ∷ (h.digits ++ print_reason h.reason)) (version_plain h.minor)
    (All-cons IsPlain 32 (h.digits ++ print_reason h.reason) (plain_above 32 (omega arith))
    (All-append IsPlain h.digits (print_reason h.reason) (All-weaker (λ (b : ℕ). IsTrue (is_ascii_digit b)) IsPlain plain_digit h.digits i.digits.1)
    (by_reason h.reason i.reason)))
  where
    by_reason : (reason : Option (List ℕ)) → AllPass is_value_byte (reason_phrase reason)
        → All IsPlain (print_reason reason)
    by_reason None pass = All-nil IsPlain
    by_reason (Some phrase) pass =
        All-cons IsPlain 32 phrase (plain_above 32 (omega arith)) (All-weaker (λ (b : ℕ). IsTrue (is_value_byte b)) IsPlain plain_value phrase pass)

status_full : (h : ResponseHead) → IsResponseHead h → IsFullLine (status_text h ++ print_end h.line_end)
status_full h i =
    plain_line (status_text h) h.line_end
    (omega (arith, length-append (print_version h.minor) (32 ∷ (h.digits ++ print_reason h.reason)))) (status_plain h i)

-- ---- heads

-- a request is its lines
pub request_lines : (h : RequestHead) → print_request h ≡ print_blank h.blank ++ (start_print h ++ (joined (map field_print h.fields) ++ print_end h.last))
unfolding print_request
request_lines h =
    rw (fields_joined h.fields)
    (spread (print_blank h.blank) h.method h.target (print_version h.minor) (print_end h.line_end) (print_section h.fields h.last))
  where
    spread : (b m t v e s : List ℕ)
        → b ++ m ++ 32 ∷ t ++ 32 ∷ v ++ e ++ s ≡ b ++ (((m ++ 32 ∷ (t ++ 32 ∷ v)) ++ e) ++ s)
    spread b m t v e s = simp (append_assoc, cons-append)

pub request_text : (h : RequestHead) → IsRequestHead h → HeadText (print_request h) (length h.fields)
request_text h i = record {
  blank = h.blank;
  start = start_print h;
  fields = map field_print h.fields;
  last = h.last;
  start_is = start_full h i;
  fields_are = fields_full h.fields i.fields;
  count_is = sym (length-map h.fields field_print);
  whole = request_lines h;
}

pub reply_text : (h : ResponseHead) → IsResponseHead h → HeadText (print_response h) (length h.fields)
unfolding print_response
reply_text h i = record {
  blank = h.blank;
  start = status_text h ++ print_end h.line_end;
  fields = map field_print h.fields;
  last = h.last;
  start_is = status_full h i;
  fields_are = fields_full h.fields i.fields;
  count_is = sym (length-map h.fields field_print);
  whole =
      rw (fields_joined h.fields)
      (spread (print_blank h.blank) (print_version h.minor) h.digits (print_reason h.reason) (print_end h.line_end) (print_section h.fields h.last));
}
  where
    spread : (b v d r e s : List ℕ) → b ++ v ++ 32 ∷ d ++ r ++ e ++ s ≡ b ++ (((v ++ 32 ∷ (d ++ r)) ++ e) ++ s)
    spread b v d r e s = simp (append_assoc, cons-append)
