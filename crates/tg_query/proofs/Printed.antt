-- A printed request is one head, and what the head asks is the query.
use Rattle.std.proofs.Common.{◌≡◌, ◌≢◌, ℕ, ◌≤◌, Bool, true, false, All, List, [], ◌∷◌, ◌++◌, Option, Some, None, Result, Ok, length, map, refl, sym, ap, subst, ◌∙◌, arith, inl, append_assoc}
use Rattle.httparse.specs.Ascii.{crlf_bytes}
use Rattle.httparse.specs.Grammar.{AllPass, Field, IsField, IsRequestHead, IsToken, RequestHead as RequestTree, crlf, is_token_byte, is_uri_byte, is_value_byte, print_request, print_section, trim_ows}
use Rattle.httparse.specs.Spans.{name_and_value}
use Rattle.std.specs.List.{list_all}
use Rattle.std.specs.Prelude.{IfSome, IsTrue, codes, if◌then◌else◌, nat_le, ◌↔◌}
use Rattle.std.proofs.lemmas.Bool.{and_from, le-leb}
use Rattle.std.proofs.lemmas.List.{append-nil}
use Rattle.std.proofs.lemmas.List.Elements.{All-append, All-cons, All-nil, All-weaker}
use Rattle.std.proofs.lemmas.Str.{IsUtf8-from_ascii}
use Rattle.std.proofs.lemmas.Str.Ascii.{IsAscii-from_all}
use Rattle.std.proofs.lemmas.List.Sums.{AllPass-from_list_all}
use Rattle.tg_cid.specs.Cid.{CidParts}
use Rattle.tg_cid.specs.Computed.{cid_text}
use Rattle.tg_cid.specs.Spelling.{CidBytes, CidText}
use Rattle.tg_http.specs.Fields.{closes, values}
use Rattle.tg_http.specs.Framing.{HasNoBody}
use Rattle.tg_http.specs.GrammarLines.{token}
use Rattle.tg_http.specs.HeadText.{HeadText}
use Rattle.tg_model.specs.Queries.{IsSpan, QueryParts, SpanParts, WellFormed}
use Rattle.tg_model.specs.declared.queries.Form.{Form}
use Rattle.tg_model.specs.declared.queries.Form.TheVariants as forms
use Rattle.tg_model.specs.declared.queries.Scope.{Scope}
use Rattle.tg_model.specs.declared.queries.Scope.TheVariants as scopes
use Rattle.tg_query.specs.Answers.{◌>>=◌}
use Rattle.tg_query.specs.Cuts.{IsCut, cut_first}
use Rattle.tg_query.specs.Spans.{SpanText, span_of}
use Rattle.tg_query.specs.WordTexts.{Rooted, RootedText, rooted_of}
use Rattle.tg_query.specs.declared.fault.QueryFault.{QueryFault}
use Rattle.tg_query.specs.Accepts.{accepted_of, form_of_range, param_of}
use Rattle.tg_query.specs.Joins.{join_of}
use Rattle.tg_query.specs.Laws.{IsOneHead, IsPrintable, asked_by}
use Rattle.tg_query.specs.Requests.{IsAddr, accept_text, params_text, path_text, request_text, target_text}
use Rattle.tg_query.specs.Targets.{asked_of, target_by, target_of, target_with}
use Rattle.tg_query.specs.declared.accepts.Accepted.{Accepted}
use Rattle.tg_query.specs.declared.targets.Asked.{Asked}
use Rattle.tg_query.specs.declared.targets.Target.{Target}
use Rattle.tg_query.proofs.PrintedTargets.{asked_again, own_asked, params_of, params_visible, path_no_query, path_visible, root_plain, rooted_again}
use Rattle.tg_query.proofs.Visible.{Visible, is_visible, plain_is_visible, plain_without, visible_ascii, visible_uri, visible_value}

-- the laws of the crates below
pub record Below : Type 0 where
  pub cuts : (byte : ℕ) (text front : List ℕ) (rest : Option (List ℕ)) → (◌≡◌ {A = List ℕ × Option (List ℕ)} (cut_first byte text) (front, rest)) ↔ IsCut byte text front rest
  pub rooted : (text : List ℕ) (root : CidParts) (path : List (List ℕ)) → (rooted_of text ≡ Ok (root, path)) ↔ RootedText text root path
  pub spans : (text : List ℕ) (span : SpanParts) → (span_of text ≡ Ok span) ↔ SpanText text span
  pub texts : (cid : CidParts) (bytes : List ℕ) → CidBytes cid bytes → CidText (record cid { version = 1 }) (cid_text cid)
  pub heads : (tree : RequestTree) → IsRequestHead tree → HeadText (print_request tree) (length tree.fields)

-- ---- the target

root_text : Below → (root : CidParts) (bytes : List ℕ) → CidBytes root bytes → root.version ≡ 1 → CidText root (cid_text root)
root_text below root bytes h e = subst (λ (v : ℕ). CidText (record root { version = v }) (cid_text root)) (sym e) (below.texts root bytes h)

params_same : (q : QueryParts) (form : Form) → params_text form q ≡ params_of form q.scope q.span
params_same q forms.Raw = refl
params_same q forms.Car = refl

-- the target of a query
abbrev own_target : QueryParts → Target
own_target q = target_with (q.root, q.path) (own_asked q.form q.scope q.span)

target_again : Below → (q : QueryParts) (addr : List ℕ) → IsPrintable q addr → target_of (target_text q) ≡ Ok (own_target q)
target_again below q addr p =
    let w = p.well_formed in
    let root = root_text below q.root p.root_bytes p.root p.version in
    let params = params_of q.form q.scope q.span in
    let front = cid_text q.root ++ path_text q.path in
    let none : All (λ (b : ℕ). b ≢ 63) front =
    All-append (λ (b : ℕ). b ≢ 63) (cid_text q.root) (path_text q.path) (plain_without 63 (cid_text q.root) refl (root_plain q.root (cid_text q.root) root)) (path_no_query q.path p.names) in
    let cut = (below.cuts 63 (cid_text q.root ++ (path_text q.path ++ 63 ∷ params)) front (Some params)).1
    (record { whole = sym (append_assoc (cid_text q.root) (path_text q.path) (63 ∷ params)); none = none }) in
    let rooted = (below.rooted front q.root q.path).1 (rooted_again q.root q.path root p.names w.good w.few) in
    let asked = asked_again q.form q.scope q.span w.span below.spans in
    ap (λ (l : List ℕ). target_of (codes "/ipfs/" ++ (cid_text q.root ++ (path_text q.path ++ 63 ∷ l)))) (params_same q q.form)
    ∙ ap target_by cut
    ∙ ap (λ (r : Result Rooted QueryFault). r >>= λ rooted. asked_of (Some params) >>= λ asked. Ok (target_with rooted asked)) rooted
    ∙ ap (λ (r : Result Asked QueryFault). r >>= λ asked. Ok (target_with (q.root, q.path) asked)) asked

-- ---- `Accept`

-- the value of a field of the text
abbrev shown : List ℕ → List ℕ
shown value = trim_ows (32 ∷ value)

abbrev accepts : Form → Bool → Accepted
accepts forms.Raw dups = record { first = Some forms.Raw; car = None }
accepts forms.Car true = record { first = Some forms.Car; car = Some (record { version = codes "1"; order = codes "dfs"; dups = codes "y" }) }
accepts forms.Car false = record { first = Some forms.Car; car = Some (record { version = codes "1"; order = codes "dfs"; dups = codes "n" }) }

abbrev value_of : Form → Bool → List ℕ
value_of forms.Raw dups = codes "application/vnd.ipld.raw"
value_of forms.Car true = codes "application/vnd.ipld.car; version=1; order=dfs; dups=y"
value_of forms.Car false = codes "application/vnd.ipld.car; version=1; order=dfs; dups=n"

value_same : (q : QueryParts) (form : Form) (dups : Bool) → q.dups ≡ dups → accept_text form q ≡ value_of form dups
value_same q forms.Raw dups e = refl
value_same q forms.Car true e = ap (λ (d : Bool). codes "application/vnd.ipld.car; version=1; order=dfs; dups=" ++ (if d then codes "y" else codes "n")) e
value_same q forms.Car false e = ap (λ (d : Bool). codes "application/vnd.ipld.car; version=1; order=dfs; dups=" ++ (if d then codes "y" else codes "n")) e

accepted_again : (form : Form) (dups : Bool) → accepted_of (shown (value_of form dups) ∷ []) ≡ accepts form dups
unfolding trim_ows form_of_range param_of
accepted_again forms.Raw dups = refl
accepted_again forms.Car true = refl
accepted_again forms.Car false = refl

value_passes : (form : Form) (dups : Bool) → AllPass is_value_byte (value_of form dups)
value_passes forms.Raw dups = AllPass-from_list_all is_value_byte (value_of forms.Raw true) refl
value_passes forms.Car true = AllPass-from_list_all is_value_byte (value_of forms.Car true) refl
value_passes forms.Car false = AllPass-from_list_all is_value_byte (value_of forms.Car false) refl

-- ---- both together

abbrev query_of : CidParts → List (List ℕ) → Form → Scope → Option SpanParts → Bool → QueryParts
query_of root path form scope span dups = record { root = root; path = path; form = form; scope = scope; span = span; dups = dups }

raw_again : (root : CidParts) (path : List (List ℕ)) (scope : Scope) (span : Option SpanParts) (dups : Bool) → path ≡ [] → scope ≡ scopes.Block → span ≡ None → dups ≡ true
    → join_of (target_with (root, path) (own_asked forms.Raw scope span)) (accepts forms.Raw dups) ≡ Ok (query_of root path forms.Raw scope span dups)
raw_again root path scope span dups a b c d = rw (a, b, c, d) refl

car_again : (root : CidParts) (path : List (List ℕ)) (scope : Scope) (span : Option SpanParts) (dups : Bool) → IfSome span (λ span. (scope ≡ scopes.Entity) × IsSpan span)
    → join_of (target_with (root, path) (own_asked forms.Car scope span)) (accepts forms.Car dups) ≡ Ok (query_of root path forms.Car scope span dups)
car_again root path scope None true h = refl
car_again root path scope None false h = refl
car_again root path scope (Some span) true h = ap (λ (s : Scope). Ok (query_of root path forms.Car s (Some span) true)) (sym h.0)
car_again root path scope (Some span) false h = ap (λ (s : Scope). Ok (query_of root path forms.Car s (Some span) false)) (sym h.0)

join_again : (root : CidParts) (path : List (List ℕ)) (form : Form) (scope : Scope) (span : Option SpanParts) (dups : Bool) → WellFormed (query_of root path form scope span dups)
    → join_of (target_with (root, path) (own_asked form scope span)) (accepts form dups) ≡ Ok (query_of root path form scope span dups)
join_again root path forms.Raw scope span dups w =
    let raw = w.raw refl in
    raw_again root path scope span dups raw.path raw.scope raw.span raw.dups
join_again root path forms.Car scope span dups w = car_again root path scope span dups w.span

asked_whole : Below → (q : QueryParts) (addr : List ℕ) → IsPrintable q addr → asked_by (target_text q) (shown (accept_text q.form q) ∷ []) ≡ Ok q
asked_whole below q addr p =
    ap (λ (r : Result Target QueryFault). r >>= λ parts. join_of parts (accepted_of (shown (accept_text q.form q) ∷ []))) (target_again below q addr p)
    ∙ ap (λ (l : List ℕ). join_of (own_target q) (accepted_of (shown l ∷ []))) (value_same q q.form q.dups refl)
    ∙ ap (λ (a : Accepted). join_of (own_target q) a) (accepted_again q.form q.dups)
    ∙ join_again q.root q.path q.form q.scope q.span q.dups p.well_formed

-- ---- the head

abbrev field : List ℕ → List ℕ → Field
field name value = record { name = name; raw = 32 ∷ value; end = crlf }

abbrev fields_of : List ℕ → List ℕ → List Field
fields_of addr accept = field (codes "Host") addr ∷ field (codes "Accept") accept ∷ field (codes "Connection") (codes "close") ∷ []

abbrev tree_of : List ℕ → List ℕ → List ℕ → RequestTree
tree_of target addr accept = record {
  blank = [];
  method = codes "GET";
  target = target;
  minor = 1;
  line_end = crlf;
  fields = fields_of addr accept;
  last = crlf;
}

peeled : (a b x y : List ℕ) → ((a ++ b) ++ x) ++ y ≡ a ++ (b ++ (x ++ y))
peeled a b x y = append_assoc (a ++ b) x y ∙ append_assoc a b (x ++ y)

section_is : (addr accept : List ℕ)
    → print_section (fields_of addr accept) crlf
    ≡ codes "Host: " ++ (addr ++ (crlf_bytes ++ (codes "Accept: " ++ (accept ++ (crlf_bytes ++ (codes "Connection: close" ++ (crlf_bytes ++ crlf_bytes)))))))
section_is addr accept =
    let close = codes "Connection: close" ++ crlf_bytes in
    let second = codes "Accept: " ++ ((accept ++ crlf_bytes) ++ close) in
    ap (λ (l : List ℕ). codes "Host: " ++ l) (peeled addr crlf_bytes second crlf_bytes)
    ∙ ap (λ (l : List ℕ). codes "Host: " ++ (addr ++ (crlf_bytes ++ (codes "Accept: " ++ l)))) (peeled accept crlf_bytes close crlf_bytes)

spread : (target addr accept : List ℕ)
    → codes "GET " ++ (target ++ (codes " HTTP/1.1" ++ (crlf_bytes
    ++ (codes "Host: " ++ (addr ++ (crlf_bytes
    ++ (codes "Accept: " ++ (accept ++ (crlf_bytes
    ++ (codes "Connection: close" ++ (crlf_bytes ++ crlf_bytes)))))))))))
    ≡ print_request (tree_of target addr accept)
unfolding print_request
spread target addr accept =
    sym
    (ap (λ (l : List ℕ). codes "GET " ++ l) (peeled target (codes " HTTP/1.1") crlf_bytes (print_section (fields_of addr accept) crlf))
    ∙ ap (λ (l : List ℕ). codes "GET " ++ (target ++ (codes " HTTP/1.1" ++ (crlf_bytes ++ l)))) (section_is addr accept))

is_printed : (q : QueryParts) (addr : List ℕ) → request_text q addr ≡ print_request (tree_of (target_text q) addr (accept_text q.form q))
unfolding request_text
is_printed q addr = spread (target_text q) addr (accept_text q.form q)

token_tests : list_all is_token_byte (codes "GET") ≡ true
unfolding is_token_byte
token_tests = refl

host_tests : list_all is_token_byte (codes "Host") ≡ true
unfolding is_token_byte
host_tests = refl

accept_tests : list_all is_token_byte (codes "Accept") ≡ true
unfolding is_token_byte
accept_tests = refl

connection_tests : list_all is_token_byte (codes "Connection") ≡ true
unfolding is_token_byte
connection_tests = refl

field_is : (name value : List ℕ) → IsToken name → AllPass is_value_byte value → IsField (field name value)
field_is name value t pass = record { name = t; raw = All-cons (λ (b : ℕ). IsTrue (is_value_byte b)) 32 value refl pass }

visible_byte : (b : ℕ) → (33 ≤ b) × (b ≤ 126) → is_visible b ≡ true
visible_byte b h = and_from (nat_le 33 b) (nat_le b 126) (le-leb 33 b h.0) (le-leb b 126 h.1)

addr_passes : (addr : List ℕ) → IsAddr addr → AllPass is_value_byte addr
addr_passes addr h =
    All-weaker (λ (b : ℕ). (33 ≤ b) × (b ≤ 126)) (λ (b : ℕ). IsTrue (is_value_byte b)) (λ b v. visible_value b (visible_byte b v)) addr h.visible

target_visible : Below → (q : QueryParts) (addr : List ℕ) → IsPrintable q addr → Visible (target_text q)
target_visible below q addr p =
    let root = root_text below q.root p.root_bytes p.root p.version in
    let V : ℕ → Type 0 = λ (b : ℕ). is_visible b ≡ true in
    let params = subst Visible (sym (params_same q q.form)) (params_visible q.form q.scope q.span p.well_formed.span) in
    All-append V (codes "/ipfs/") (cid_text q.root ++ (path_text q.path ++ 63 ∷ params_text q.form q)) (AllPass-from_list_all is_visible (codes "/ipfs/") refl)
    (All-append V (cid_text q.root) (path_text q.path ++ 63 ∷ params_text q.form q) (plain_is_visible (cid_text q.root) (root_plain q.root (cid_text q.root) root))
    (All-append V (path_text q.path) (63 ∷ params_text q.form q) (path_visible q.path p.names)
    (All-cons V 63 (params_text q.form q) refl params)))

head_is : Below → (q : QueryParts) (addr : List ℕ) → IsPrintable q addr → IsRequestHead (tree_of (target_text q) addr (accept_text q.form q))
head_is below q addr p =
    let visible = target_visible below q addr p in
    let F : Field → Type 0 = IsField in
    let close = field_is (codes "Connection") (codes "close") (token (codes "Connection") (omega arith) connection_tests) (AllPass-from_list_all is_value_byte (codes "close") refl) in
    let accept = field_is (codes "Accept") (accept_text q.form q) (token (codes "Accept") (omega arith) accept_tests)
    (subst (AllPass is_value_byte) (sym (value_same q q.form q.dups refl)) (value_passes q.form q.dups)) in
    let host = field_is (codes "Host") addr (token (codes "Host") (omega arith) host_tests) (addr_passes addr p.addr_is) in
    record {
      method = token (codes "GET") (omega arith) token_tests;
      target = (omega arith, All-weaker (λ (b : ℕ). is_visible b ≡ true) (λ (b : ℕ). IsTrue (is_uri_byte b)) visible_uri (target_text q) visible);
      target_text = IsUtf8-from_ascii (target_text q) (IsAscii-from_all (target_text q) (visible_ascii (target_text q) visible));
      minor = omega arith;
      fields =
          All-cons F (field (codes "Host") addr) (field (codes "Accept") (accept_text q.form q) ∷ field (codes "Connection") (codes "close") ∷ []) host
          (All-cons F (field (codes "Accept") (accept_text q.form q)) (field (codes "Connection") (codes "close") ∷ []) accept
          (All-cons F (field (codes "Connection") (codes "close")) [] close (All-nil F)));
    }

closes_again : (addr accept : List ℕ) → closes (map name_and_value (fields_of addr accept)) ≡ true
unfolding trim_ows
closes_again addr accept = refl

accepts_again : (addr accept : List ℕ) → values (codes "accept") (map name_and_value (fields_of addr accept)) ≡ shown accept ∷ []
accepts_again addr accept = refl

no_body : (addr accept : List ℕ) → HasNoBody (map name_and_value (fields_of addr accept))
no_body addr accept = record { no_coding = refl; no_length = inl refl }

pub printed : Below → (q : QueryParts) (addr : List ℕ) → IsPrintable q addr → IsOneHead q (request_text q addr)
printed below q addr p =
    let accept = accept_text q.form q in
    let tree = tree_of (target_text q) addr accept in
    let same = is_printed q addr in
    let head = head_is below q addr p in
    record {
      tree = tree;
      whole = record {
        count = 3;
        begins = record {
          text_is = subst (λ (l : List ℕ). HeadText l 3) (sym same) (below.heads tree head);
          rest = [];
          whole = sym (append-nil (request_text q addr));
          fits = p.fits;
        };
        few = omega arith;
        reads = (head, same ∙ sym (append-nil (print_request tree)));
      };
      told = λ told t. record {
        used = t.used_is;
        method = t.method_is;
        minor = t.minor_is;
        close = t.close_is ∙ closes_again addr accept;
        framed = t.framed_is.1 (no_body addr accept);
        asked =
            ap (λ (l : List ℕ). asked_by l told.accept) t.target_is
            ∙ ap (λ (l : List (List ℕ)). asked_by (target_text q) l) (t.accept_is ∙ accepts_again addr accept)
            ∙ asked_whole below q addr p;
      };
    }
