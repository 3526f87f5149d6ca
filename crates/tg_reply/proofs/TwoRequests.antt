-- Two requests on one link, and what is written for them.
use Rattle.std.proofs.Common.{◌≡◌, ℕ, ◌<◌, ◌≤◌, true, false, List, [], ◌∷◌, ◌++◌, codes, inl, length, refl, sym, ap, subst, ◌∙◌, arith}
use Rattle.httparse.specs.Grammar.{Field, IsField, IsRequestHead, IsToken, RequestHead as RequestTree, crlf, is_token_byte, is_uri_byte, is_value_byte, print_request, trim_ows}
use Rattle.percent_encoding.specs.Percent.{percent_decode}
use Rattle.std.specs.List.{list_all}
use Rattle.std.specs.Prelude.{IsTrue, nat_lt}
use Rattle.std.proofs.lemmas.Bool.{ltb-true}
use Rattle.std.proofs.lemmas.List.{append-nil, length-append}
use Rattle.std.proofs.lemmas.List.Elements.{All-cons, All-nil, All-weaker}
use Rattle.std.proofs.lemmas.List.Sums.{AllPass-from_list_all}
use Rattle.std.proofs.lemmas.Str.{IsUtf8-from_ascii}
use Rattle.std.proofs.lemmas.Str.Ascii.{IsAscii-from_all}
use Rattle.tg_base32.specs.Base32.{bits}
use Rattle.tg_base32.specs.Computed.{base32}
use Rattle.tg_cid.specs.Computed.{cid_of, cid_text}
use Rattle.tg_dagpb.specs.Computed.{link_in, node_of}
use Rattle.tg_http.specs.GrammarLines.{token}
use Rattle.tg_http.specs.HeadText.{HeadText}
use Rattle.tg_http.specs.declared.request.RequestHead.{RequestHead}
use Rattle.tg_query.specs.CidAnswers.{bytes_of_letters, cid_answer}
use Rattle.tg_query.specs.Paths.{names_of}
use Rattle.tg_query.specs.Spans.{number_of, span_of}
use Rattle.tg_pbtable.specs.Computed.{fields_of}
use Rattle.tg_query.specs.Accepts.{form_of_range, param_of}
use Rattle.tg_unixfs.specs.Computed.{unix_of}
use Rattle.tg_reply.specs.Examples.{empty_chunks, empty_head, first_bytes, first_target, get, absence_head, open_reply, request_lines, second_bytes, second_target, three_roots}
use Rattle.tg_reply.specs.Replies.{Reply, reply, reply_bytes}
use Rattle.tg_reply.specs.Streams.{BeginsRequest, Replies, goes_on, waits}
use Rattle.tg_reply.specs.declared.status.Status.TheVariants as statuses
use Rattle.tg_reply.proofs.FirstHeads.{some_text}

abbrev host : Field
host = record { name = codes "Host"; raw = codes " 127.0.0.1:8080"; end = crlf }

abbrev accept : Field
accept = record { name = codes "Accept"; raw = codes " application/vnd.ipld.car"; end = crlf }

abbrev tree : List ℕ → RequestTree
tree target = record {
  blank = [];
  method = codes "GET";
  target = target;
  minor = 1;
  line_end = crlf;
  fields = host ∷ accept ∷ [];
  last = crlf;
}

first_printed : request_lines first_target ≡ print_request (tree first_target)
unfolding print_request
first_printed = refl

second_printed : request_lines second_target ≡ print_request (tree second_target)
unfolding print_request
second_printed = refl

get_token : IsToken (codes "GET")
unfolding is_token_byte
get_token = token (codes "GET") (omega arith) refl

host_field : IsField host
unfolding is_token_byte
host_field = record { name = token (codes "Host") (omega arith) refl; raw = AllPass-from_list_all is_value_byte (codes " 127.0.0.1:8080") refl }

accept_field : IsField accept
unfolding is_token_byte
accept_field = record { name = token (codes "Accept") (omega arith) refl; raw = AllPass-from_list_all is_value_byte (codes " application/vnd.ipld.car") refl }

is_head : (target : List ℕ) → 0 < length target → list_all is_uri_byte target ≡ true → list_all (λ b. nat_lt b 128) target ≡ true → IsRequestHead (tree target)
is_head target some uri ascii = record {
  method = get_token;
  target = (some, AllPass-from_list_all is_uri_byte target uri);
  target_text =
      IsUtf8-from_ascii target (IsAscii-from_all target
      (All-weaker (λ (b : ℕ). IsTrue (nat_lt b 128)) (λ (b : ℕ). b < 128) (λ b t. ltb-true b 128 t) target (AllPass-from_list_all (λ b. nat_lt b 128) target ascii)));
  minor = omega arith;
  fields = All-cons IsField host (accept ∷ []) host_field (All-cons IsField accept [] accept_field (All-nil IsField));
}

-- what is told of such a request
abbrev told_of : List ℕ → ℕ → RequestHead
told_of target size = record (get target) { used = size }

begins : ((tree : RequestTree) → IsRequestHead tree → HeadText (print_request tree) (length tree.fields))
    → (target text rest : List ℕ) → text ≡ print_request (tree target) → IsRequestHead (tree target) → length text ≤ 16384
    → BeginsRequest (text ++ rest) (told_of target (length text)) rest
unfolding trim_ows
begins heads target text rest printed head fits = record {
  text = text;
  tree = tree target;
  is_request = record {
    count = 2;
    begins = record { text_is = subst (λ (l : List ℕ). HeadText l 2) (sym printed) (heads (tree target) head); rest = rest; whole = refl; fits = fits };
    few = omega arith;
    reads = (head, printed ∙ sym (append-nil (print_request (tree target))));
  };
  told = record {
    used_is = refl;
    method_is = refl;
    target_is = refl;
    minor_is = refl;
    accept_is = refl;
    close_is = refl;
    framed_is = (λ f. record { no_coding = refl; no_length = inl refl }, λ h. refl);
  };
  whole = refl;
}

first_reply : (size : ℕ) → reply three_roots (told_of first_target size) ≡ open_reply statuses.Ok empty_head empty_chunks
unfolding trim_ows percent_decode bits base32 bytes_of_letters cid_answer names_of form_of_range param_of cid_text cid_of link_in node_of unix_of fields_of number_of span_of
first_reply size = refl

second_reply : (size : ℕ) → reply three_roots (told_of second_target size) ≡ open_reply statuses.NotFound absence_head empty_chunks
unfolding trim_ows percent_decode bits base32 bytes_of_letters cid_answer names_of form_of_range param_of cid_text cid_of link_in node_of unix_of fields_of number_of span_of
second_reply size = refl

no_bytes : Replies three_roots [] []
no_bytes = waits [] (record { none = λ text count b. omega (arith, some_text text count b.text_is, ap length b.whole, length-append text b.rest); short = omega arith })

second_writes : ((tree : RequestTree) → IsRequestHead tree → HeadText (print_request tree) (length tree.fields))
    → Replies three_roots (request_lines second_target) second_bytes
second_writes heads =
    let text = request_lines second_target in
    let size = length text in
    let h = begins heads second_target text [] second_printed (is_head second_target (omega arith) refl refl) (omega arith) in
    let open_link : (reply three_roots (told_of second_target size)).closes ≡ false = ap (λ (r : Reply). r.closes) (second_reply size) in
    let all = goes_on (text ++ []) [] [] (told_of second_target size) h open_link no_bytes in
    let written : reply_bytes (reply three_roots (told_of second_target size)) ++ [] ≡ second_bytes =
    append-nil (reply_bytes (reply three_roots (told_of second_target size))) ∙ ap reply_bytes (second_reply size) in
    subst (λ (l : List ℕ). Replies three_roots l second_bytes) (append-nil text) (subst (Replies three_roots (text ++ [])) written all)

pub both_written : ((tree : RequestTree) → IsRequestHead tree → HeadText (print_request tree) (length tree.fields))
    → Replies three_roots (request_lines first_target ++ request_lines second_target) (first_bytes ++ second_bytes)
both_written heads =
    let text = request_lines first_target in
    let rest = request_lines second_target in
    let size = length text in
    let h = begins heads first_target text rest first_printed (is_head first_target (omega arith) refl refl) (omega arith) in
    let open_link : (reply three_roots (told_of first_target size)).closes ≡ false = ap (λ (r : Reply). r.closes) (first_reply size) in
    subst (λ (l : List ℕ). Replies three_roots (text ++ rest) (l ++ second_bytes)) (ap reply_bytes (first_reply size))
    (goes_on (text ++ rest) rest second_bytes (told_of first_target size) h open_link (second_writes heads))
