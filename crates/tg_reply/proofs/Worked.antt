-- What is sent for requests over a store of three roots.
use Rattle.std.proofs.Common.{◌≡◌, ℕ, [], ◌∷◌, Ok, None, codes, true, inl, inr, length, refl, subst, arith}
use Rattle.httparse.specs.Grammar.{is_token_byte, print_request, trim_ows}
use Rattle.percent_encoding.specs.Percent.{percent_decode}
use Rattle.std.specs.Char.{encode_utf8}
use Rattle.std.specs.Str.{chars, is_utf8}
use Rattle.tg_base32.specs.Base32.{bits}
use Rattle.tg_base32.specs.Computed.{base32}
use Rattle.tg_cid.specs.Computed.{cid_of, cid_text}
use Rattle.tg_cid.specs.declared.cid.Codec.TheVariants as codecs
use Rattle.tg_cid.specs.declared.cid.HashKind.TheVariants as hashes
use Rattle.tg_dagpb.specs.Computed.{link_in, node_of}
use Rattle.tg_faults.specs.Faults.{Rose}
use Rattle.tg_http.specs.Heads.{IsWaiting}
use Rattle.tg_http.specs.declared.request.RequestHead.{RequestHead}
use Rattle.tg_model.specs.Queries.{QueryParts}
use Rattle.tg_model.specs.declared.queries.Form.TheVariants as forms
use Rattle.tg_model.specs.declared.queries.Scope.TheVariants as scopes
use Rattle.tg_query.specs.CidAnswers.{bytes_of_letters, cid_answer}
use Rattle.tg_query.specs.Paths.{names_of}
use Rattle.tg_query.specs.Spans.{number_of, span_of}
use Rattle.tg_pbtable.specs.Computed.{fields_of}
use Rattle.tg_query.specs.Accepts.{form_of_range, param_of}
use Rattle.tg_unixfs.specs.Computed.{unix_of}
use Rattle.tg_reply.specs.Asked.{asked}
use Rattle.tg_reply.specs.Examples.{empty_car_header, empty_digest, empty_head, empty_head_plain, first_target, get, request, request_lines, second_target, server_error, three_roots}
use Rattle.tg_reply.specs.FirstHead.{FirstHeads, IsFirst, begins, first_head, waits}
use Rattle.tg_reply.specs.Replies.{Reply, refused_request, reply}
use Rattle.tg_reply.specs.Streams.{BeginsRequest}
use Rattle.tg_reply.specs.declared.refusal.Refusal.TheVariants as refusals
use Rattle.tg_reply.specs.SentExamples.{absent_reply, as_stored_sent, both_requests, cut_reply, cut_sent, directory_reply, header_chunk, plain_reply, plain_request, plain_requests, refused_sent}
use Rattle.tg_reply.specs.Sent.{BreaksBehind, Course, Sent, SentAll, SentFor, SentInFull, before_head, behind_sections, broken_before, broken_behind, broken_reply, exact, last, next, no_more, quiet}

-- ---- the heads

-- what is told of the request for the empty directory
abbrev first_told : RequestHead
first_told = record (get first_target) { used = length (request_lines first_target) }

-- of that for an entry of it
abbrev second_told : RequestHead
second_told = record (get second_target) { used = length (request_lines second_target) }

-- and of that by HTTP/1.0
abbrev plain_told : RequestHead
plain_told = record (request (codes "GET") 0 first_target (codes "application/vnd.ipld.car" ∷ [])) { used = length plain_request }

-- they are found at the front of the bytes
first_found : first_head both_requests ≡ begins first_told (request_lines second_target)
unfolding encode_utf8 is_token_byte print_request is_utf8 chars trim_ows
first_found = refl

-- the second at that of the rest
second_found : first_head (request_lines second_target) ≡ begins second_told []
unfolding encode_utf8 is_token_byte print_request is_utf8 chars trim_ows
second_found = refl

-- the one by HTTP/1.0 before the other
plain_found : first_head plain_requests ≡ begins plain_told (request_lines second_target)
unfolding encode_utf8 is_token_byte print_request is_utf8 chars trim_ows
plain_found = refl

-- and nothing in no bytes
none_found : first_head [] ≡ waits
none_found = refl

module _ (heads : FirstHeads) where
  -- so the bytes begin with the first request
  first_begins : BeginsRequest both_requests first_told (request_lines second_target)
  first_begins = (subst (IsFirst both_requests) first_found (heads both_requests)).0

  -- the rest with the second
  second_begins : BeginsRequest (request_lines second_target) second_told []
  second_begins = (subst (IsFirst (request_lines second_target)) second_found (heads (request_lines second_target))).0

  -- the others with the one by HTTP/1.0
  plain_begins : BeginsRequest plain_requests plain_told (request_lines second_target)
  plain_begins = (subst (IsFirst plain_requests) plain_found (heads plain_requests)).0

  -- and behind them no head is whole
  no_bytes : IsWaiting []
  no_bytes = subst (IsFirst []) none_found (heads [])

-- ---- the replies

-- the reply to the first
first_replied : reply three_roots first_told ≡ directory_reply
unfolding trim_ows percent_decode bits base32 bytes_of_letters cid_answer names_of form_of_range param_of cid_text cid_of link_in node_of unix_of fields_of number_of span_of
first_replied = refl

-- the reply to the second
second_replied : reply three_roots second_told ≡ absent_reply
unfolding trim_ows percent_decode bits base32 bytes_of_letters cid_answer names_of form_of_range param_of cid_text cid_of link_in node_of unix_of fields_of number_of span_of
second_replied = refl

-- and to the one by HTTP/1.0
plain_replied : reply three_roots plain_told ≡ plain_reply
unfolding trim_ows percent_decode bits base32 bytes_of_letters cid_answer names_of form_of_range param_of cid_text cid_of link_in node_of unix_of fields_of number_of span_of
plain_replied = refl

-- the query for the CAR of the empty directory
abbrev empty_query : QueryParts
empty_query = record {
  root = record { version = 1; codec = codecs.DagPb; hash = hashes.Sha256; digest = empty_digest };
  path = [];
  form = forms.Car;
  scope = scopes.All;
  span = None;
  dups = true;
}

-- the first asks for it
first_asked : asked first_told ≡ Ok empty_query
unfolding trim_ows percent_decode bits base32 bytes_of_letters cid_answer names_of form_of_range param_of cid_text cid_of link_in node_of unix_of fields_of number_of span_of
first_asked = refl

-- so does the one by HTTP/1.0
plain_asked : asked plain_told ≡ Ok empty_query
unfolding trim_ows percent_decode bits base32 bytes_of_letters cid_answer names_of form_of_range param_of cid_text cid_of link_in node_of unix_of fields_of number_of span_of
plain_asked = refl

-- the reply may break off before its first section
first_breaks : BreaksBehind three_roots first_told empty_query 0
unfolding trim_ows percent_decode bits base32 bytes_of_letters cid_answer names_of form_of_range param_of cid_text cid_of link_in node_of unix_of fields_of number_of span_of
first_breaks = record { asked_is = first_asked; car = refl; by_get = refl; sends = tt; within = omega arith }

-- also that to HTTP/1.0
plain_breaks : BreaksBehind three_roots plain_told empty_query 0
unfolding trim_ows percent_decode bits base32 bytes_of_letters cid_answer names_of form_of_range param_of cid_text cid_of link_in node_of unix_of fields_of number_of span_of
plain_breaks = record { asked_is = plain_asked; car = refl; by_get = refl; sends = tt; within = omega arith }

-- then it is the head and the chunk of the CAR's header
first_cut : broken_reply three_roots first_told empty_query 0 ≡ cut_reply empty_head header_chunk
unfolding trim_ows percent_decode bits base32 bytes_of_letters cid_answer names_of form_of_range param_of cid_text cid_of link_in node_of unix_of fields_of number_of span_of
first_cut = refl

-- or the header as it is
plain_cut : broken_reply three_roots plain_told empty_query 0 ≡ cut_reply empty_head_plain empty_car_header
unfolding trim_ows percent_decode bits base32 bytes_of_letters cid_answer names_of form_of_range param_of cid_text cid_of link_in node_of unix_of fields_of number_of span_of
plain_cut = refl

-- ---- what is sent

-- a reply at which the store broke off and counted it
abbrev broken_off : Reply → Course → Sent
broken_off reply course = record { reply = reply; course = course; faults_before = 0; faults_now = 1 }

-- the count rose
one_more : Rose 0 1
one_more = λ fits. omega arith

module _ (heads : FirstHeads) where
  -- the second request, and nothing behind it
  second_sent : (count : ℕ) → SentAll three_roots (request_lines second_target) (quiet absent_reply count ∷ []) []
  second_sent count =
      next (request_lines second_target) [] [] second_told (quiet absent_reply count) [] (second_begins heads)
      (subst (λ (r : Reply). SentFor three_roots second_told (quiet r count)) second_replied (exact count)) refl (no_more [])

  -- both answered
  pub as_stored : SentInFull (SentFor three_roots) both_requests as_stored_sent []
  as_stored = record {
    sent_is = next both_requests (request_lines second_target) [] first_told (quiet directory_reply 0) (quiet absent_reply 0 ∷ []) (first_begins heads)
        (subst (λ (r : Reply). SentFor three_roots first_told (quiet r 0)) first_replied (exact 0)) refl (second_sent 0);
    settled = inl (no_bytes heads);
  }

  -- the first refused, and the second answered
  pub refused : refused_request (get first_target) refusals.Store ≡ server_error (codes "6") (codes "Store") → SentInFull (SentFor three_roots) both_requests refused_sent []
  refused e = record {
    sent_is = next both_requests (request_lines second_target) [] first_told (broken_off (server_error (codes "6") (codes "Store")) broken_before) (quiet absent_reply 1 ∷ [])
        (first_begins heads)
        (subst (λ (r : Reply). SentFor three_roots first_told (broken_off r broken_before)) e (before_head empty_query 0 1 first_asked one_more)) refl (second_sent 1);
    settled = inl (no_bytes heads);
  }

  -- the first cut, and the second not looked at
  pub cut : SentInFull (SentFor three_roots) both_requests (cut_sent (cut_reply empty_head header_chunk)) []
  cut = record {
    sent_is = last both_requests (request_lines second_target) first_told (broken_off (cut_reply empty_head header_chunk) (broken_behind 0)) (first_begins heads)
        (subst (λ (r : Reply). SentFor three_roots first_told (broken_off r (broken_behind 0))) first_cut (behind_sections empty_query 0 0 1 first_breaks one_more)) refl;
    settled = inr refl;
  }

  -- the one by HTTP/1.0 answered, and the second not looked at
  pub plain : SentInFull (SentFor three_roots) plain_requests (quiet plain_reply 0 ∷ []) []
  plain = record {
    sent_is = last plain_requests (request_lines second_target) plain_told (quiet plain_reply 0) (plain_begins heads)
        (subst (λ (r : Reply). SentFor three_roots plain_told (quiet r 0)) plain_replied (exact 0)) refl;
    settled = inr refl;
  }

  -- and cut
  pub plain_cut_off : SentInFull (SentFor three_roots) plain_requests (cut_sent (cut_reply empty_head_plain empty_car_header)) []
  plain_cut_off = record {
    sent_is = last plain_requests (request_lines second_target) plain_told (broken_off (cut_reply empty_head_plain empty_car_header) (broken_behind 0)) (plain_begins heads)
        (subst (λ (r : Reply). SentFor three_roots plain_told (broken_off r (broken_behind 0))) plain_cut (behind_sections empty_query 0 0 1 plain_breaks one_more)) refl;
    settled = inr refl;
  }
