-- The lines of a request of the grammar, and that it is read from them.
use Rattle.std.proofs.Common.{◌≡◌, ℕ, ◌+◌, Bool, true, false, All, List, [], ◌∷◌, ◌++◌, length, map, refl, sym, ap, ap₂, subst, ◌∙◌, arith, append_assoc}
use Rattle.httparse.specs.Grammar.{Field, IsField, IsRequestHead, LineEnd, RequestHead as RequestTree, crlf, is_token_byte, is_uri_byte, is_value_byte, lf, print_end, print_request, print_version}
use Rattle.std.specs.List.{after_first, before_first, position_or_len}
use Rattle.std.specs.Prelude.{IsTrue, drop, ◌==◌, ◌||◌}
use Rattle.std.proofs.lemmas.Bool.{ne_eqb}
use Rattle.std.proofs.lemmas.List.{drop_at, length-append, take_at}
use Rattle.std.proofs.lemmas.List.Elements.{All-head, All-tail, All-weaker}
use Rattle.tg_http.specs.GrammarLines.{IsPlain, field_plain, field_print, field_text, fields_full, plain_value, request_lines, start_full, start_plain, start_print, start_text}
use Rattle.tg_http.specs.HeadText.{IsFullLine}
use Rattle.tg_reply.specs.FirstHead.{HeadLines, end_of_line, field_of_line, minor_of, request_of_lines, text_of_lines}

-- ---- up to the first byte that passes

module _ (test : ℕ → Bool) where
  abbrev Fails : ℕ → Type 0
  Fails b = test b ≡ false

  position_of : (front : List ℕ) (b : ℕ) (rest : List ℕ) → All Fails front → test b ≡ true → position_or_len test (front ++ b ∷ rest) ≡ length front
  position_of [] b rest none t = rw t refl
  position_of (x ∷ front) b rest none t =
      let below = position_of front b rest (All-tail Fails x front none) t in
      rw (All-head Fails x front none) (omega (arith, below))

  pub before : (front : List ℕ) (b : ℕ) (rest : List ℕ) → All Fails front → test b ≡ true → before_first test (front ++ b ∷ rest) ≡ front
  before front b rest none t = rw (position_of front b rest none t) (take_at front (b ∷ rest) (length front) refl)

  pub behind : (front : List ℕ) (b : ℕ) (rest : List ℕ) → All Fails front → test b ≡ true → after_first test (front ++ b ∷ rest) ≡ rest
  behind front b rest none t =
      let size : length (front ++ b ∷ []) ≡ length front + 1 = length-append front (b ∷ []) in
      rw (position_of front b rest none t)
      (ap (λ (l : List ℕ). drop (length front + 1) l) (sym (append_assoc front (b ∷ []) rest)) ∙ drop_at (front ++ b ∷ []) rest (length front + 1) size)

-- ---- a line end is read as it was printed

end_read : (bytes : List ℕ) (end : LineEnd) → All IsPlain bytes → end_of_line (bytes ++ print_end end) ≡ end
end_read [] crlf plain = refl
end_read [] lf plain = refl
end_read (b ∷ bytes) end plain = rw (ne_eqb b 13 (All-head IsPlain b bytes plain).1) (end_read bytes end (All-tail IsPlain b bytes plain))

-- ---- a field

-- behind the colon the value goes up to the line end
raw_read : (raw : List ℕ) (end : LineEnd) → All IsPlain raw → before_first (λ b. b == 13 || b == 10) (raw ++ print_end end) ≡ raw
raw_read raw end plain = by_end end
  where
    fails : (b : ℕ) → IsPlain b → (b == 13 || b == 10) ≡ false
    fails b h = rw (ne_eqb b 13 h.1, ne_eqb b 10 h.0) refl

    none : All (λ (b : ℕ). (b == 13 || b == 10) ≡ false) raw
    none = All-weaker IsPlain (λ (b : ℕ). (b == 13 || b == 10) ≡ false) fails raw plain

    by_end : (end : LineEnd) → before_first (λ b. b == 13 || b == 10) (raw ++ print_end end) ≡ raw
    by_end crlf = before (λ b. b == 13 || b == 10) raw 13 (10 ∷ []) none refl
    by_end lf = before (λ b. b == 13 || b == 10) raw 10 [] none refl

no_colon : (b : ℕ) → IsTrue (is_token_byte b) → (b == 58) ≡ false
unfolding is_token_byte
no_colon b t = ne_eqb b 58 (λ e. clash (subst (λ (n : ℕ). is_token_byte n ≡ true) e t))
  where
    clash : false ≡ true → ⊥
    clash e = cc

abbrev made : List ℕ → List ℕ → LineEnd → Field
made name raw end = record { name = name; raw = raw; end = end }

field_read : (f : Field) → IsField f → field_of_line (field_print f) ≡ f
field_read f i =
    let split : field_print f ≡ f.name ++ 58 ∷ (f.raw ++ print_end f.end) = append_assoc f.name (58 ∷ f.raw) (print_end f.end) in
    let none = All-weaker (λ (b : ℕ). IsTrue (is_token_byte b)) (λ (b : ℕ). (b == 58) ≡ false) no_colon f.name i.name.1 in
    let name = ap (before_first (λ b. b == 58)) split ∙ before (λ b. b == 58) f.name 58 (f.raw ++ print_end f.end) none refl in
    let rest = ap (after_first (λ b. b == 58)) split ∙ behind (λ b. b == 58) f.name 58 (f.raw ++ print_end f.end) none refl in
    let raw = ap (before_first (λ b. b == 13 || b == 10)) rest ∙ raw_read f.raw f.end (All-weaker (λ (b : ℕ). IsTrue (is_value_byte b)) IsPlain plain_value f.raw i.raw) in
    let end = end_read (field_text f) f.end (field_plain f i) in
    ap₂ (λ (n r : List ℕ). made n r (end_of_line (field_print f))) name raw ∙ ap (made f.name f.raw) end

fields_read : (fields : List Field) → All IsField fields → map field_of_line (map field_print fields) ≡ fields
fields_read [] all = refl
fields_read (f ∷ fields) all =
    ap₂ (λ (g : Field) (more : List Field). g ∷ more) (field_read f (All-head IsField f fields all)) (fields_read fields (All-tail IsField f fields all))

-- ---- the start line

abbrev version_print : RequestTree → List ℕ
version_print tree = print_version tree.minor ++ print_end tree.line_end

no_space_token : (b : ℕ) → IsTrue (is_token_byte b) → (b == 32) ≡ false
unfolding is_token_byte
no_space_token b t = ne_eqb b 32 (λ e. clash (subst (λ (n : ℕ). is_token_byte n ≡ true) e t))
  where
    clash : false ≡ true → ⊥
    clash e = cc

no_space_uri : (b : ℕ) → IsTrue (is_uri_byte b) → (b == 32) ≡ false
no_space_uri b t = ne_eqb b 32 (λ e. clash (subst (λ (n : ℕ). is_uri_byte n ≡ true) e t))
  where
    clash : false ≡ true → ⊥
    clash e = cc

abbrev is_space : ℕ → Bool
is_space b = b == 32

-- the start line behind its method
start_split : (tree : RequestTree) → start_print tree ≡ tree.method ++ 32 ∷ (tree.target ++ 32 ∷ version_print tree)
start_split tree =
    append_assoc tree.method (32 ∷ (tree.target ++ 32 ∷ print_version tree.minor)) (print_end tree.line_end)
    ∙ ap (λ (l : List ℕ). tree.method ++ 32 ∷ l) (append_assoc tree.target (32 ∷ print_version tree.minor) (print_end tree.line_end))

record StartRead (tree : RequestTree) : Type 0 where
  method : before_first is_space (start_print tree) ≡ tree.method
  target : before_first is_space (after_first is_space (start_print tree)) ≡ tree.target
  minor : minor_of (after_first is_space (after_first is_space (start_print tree))) ≡ tree.minor
  end : end_of_line (start_print tree) ≡ tree.line_end

minor_read : (minor : ℕ) (end : List ℕ) → minor_of (print_version minor ++ end) ≡ minor
minor_read minor end = omega arith

start_read : (tree : RequestTree) → IsRequestHead tree → StartRead tree
start_read tree i =
    let more = tree.target ++ 32 ∷ version_print tree in
    let none = All-weaker (λ (b : ℕ). IsTrue (is_token_byte b)) (λ (b : ℕ). is_space b ≡ false) no_space_token tree.method i.method.1 in
    let none_target = All-weaker (λ (b : ℕ). IsTrue (is_uri_byte b)) (λ (b : ℕ). is_space b ≡ false) no_space_uri tree.target i.target.1 in
    let rest : after_first is_space (start_print tree) ≡ more = ap (after_first is_space) (start_split tree) ∙ behind is_space tree.method 32 more none refl in
    let version : after_first is_space (after_first is_space (start_print tree)) ≡ version_print tree =
    ap (after_first is_space) rest ∙ behind is_space tree.target 32 (version_print tree) none_target refl in
    record {
      method = ap (before_first is_space) (start_split tree) ∙ before is_space tree.method 32 more none refl;
      target = ap (before_first is_space) rest ∙ before is_space tree.target 32 (version_print tree) none_target refl;
      minor = ap minor_of version ∙ minor_read tree.minor (print_end tree.line_end);
      end = end_read (start_text tree) tree.line_end (start_plain tree i);
    }

-- ---- a request

-- the lines of a request
pub tree_lines : RequestTree → HeadLines
tree_lines tree = record { blank = tree.blank; start = start_print tree; section = record { fields = map field_print tree.fields; last = tree.last } }

pub lines_start : (tree : RequestTree) → IsRequestHead tree → IsFullLine (tree_lines tree).start
unfolding tree_lines
lines_start tree i = start_full tree i

pub lines_fields : (tree : RequestTree) → IsRequestHead tree → All IsFullLine (tree_lines tree).section.fields
unfolding tree_lines
lines_fields tree i = fields_full tree.fields i.fields

pub lines_text : (tree : RequestTree) → text_of_lines (tree_lines tree) ≡ print_request tree
unfolding tree_lines
lines_text tree = sym (request_lines tree)

-- a request is read from its lines
pub request_read : (tree : RequestTree) → IsRequestHead tree → request_of_lines (tree_lines tree) ≡ tree
unfolding tree_lines
request_read tree i =
    let s = start_read tree i in
    let fields = fields_read tree.fields i.fields in
    let first : request_of_lines (tree_lines tree) ≡ record { blank = tree.blank; method = tree.method; target = tree.target; minor = minor_of (after_first is_space (after_first is_space (start_print tree))); line_end = end_of_line (start_print tree); fields = map field_of_line (map field_print tree.fields); last = tree.last } =
    rw (s.method, s.target) refl in
    first ∙ rw (s.minor, s.end, fields) refl
