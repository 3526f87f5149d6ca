use Rattle.std.proofs.Common.{arith, codes, ap, ◌∷◌, ◌++◌, [], List, ℕ}
use Rattle.std.proofs.lemmas.Fmt.{decimal_digit}
use Rattle.httparse.specs.Grammar.{trim_ows}
use Rattle.percent_encoding.specs.Percent.{percent_decode}
use Rattle.tg_base32.specs.Base32.{bits}
use Rattle.tg_base32.specs.Computed.{base32}
use Rattle.tg_cid.specs.Computed.{cid_of, cid_text}
use Rattle.tg_dagpb.specs.Computed.{link_in, node_of}
use Rattle.tg_query.specs.CidAnswers.{bytes_of_letters, cid_answer}
use Rattle.tg_query.specs.Paths.{names_of}
use Rattle.tg_query.specs.Spans.{number_of, span_of}
use Rattle.tg_pbtable.specs.Computed.{fields_of}
use Rattle.tg_query.specs.Accepts.{form_of_range, param_of}
use Rattle.tg_unixfs.specs.Computed.{unix_of}
use Rattle.tg_reply.proofs.Numbers.{ten, eleven}
use Rattle.tg_reply.specs.Examples.{bad_request, closing_reply, lines, not_found, open_reply, server_error, text_reply}
use Rattle.tg_reply.specs.declared.status.Status.TheVariants as statuses
use Rattle.tg_reply.proofs.examples.text_replies.Goals as goal

pub returns-clause-bad_framing : goal.returns-clause-bad_framing
unfolding trim_ows percent_decode bits base32 bytes_of_letters cid_answer names_of form_of_range param_of cid_text cid_of link_in node_of unix_of fields_of number_of span_of
returns-clause-bad_framing c = ap (λ (d : List ℕ). closing_reply statuses.BadRequest (codes "HTTP/1.1 400 Bad Request") d (codes "BadFraming")) eleven

pub returns-clause-bad_method : goal.returns-clause-bad_method
unfolding trim_ows percent_decode bits base32 bytes_of_letters cid_answer names_of form_of_range param_of cid_text cid_of link_in node_of unix_of fields_of number_of span_of
returns-clause-bad_method c =
    ap (λ (d : List ℕ). open_reply statuses.MethodNotAllowed (lines (codes "HTTP/1.1 405 Method Not Allowed" ∷ codes "Content-Type: text/plain; charset=utf-8" ∷ codes "X-Content-Type-Options: nosniff" ∷ codes "Allow: GET, HEAD" ∷ (codes "Content-Length: " ++ d) ∷ [])) (codes "BadMethod" ++ 10 ∷ [])) ten

pub returns-clause-bad_path : goal.returns-clause-bad_path
unfolding trim_ows percent_decode bits base32 bytes_of_letters cid_answer names_of form_of_range param_of cid_text cid_of link_in node_of unix_of fields_of number_of span_of
returns-clause-bad_path c = ap (λ (d : List ℕ). bad_request d (codes "BadPath")) (decimal_digit 8 (omega arith))

pub returns-clause-bad_cid : goal.returns-clause-bad_cid
unfolding trim_ows percent_decode bits base32 bytes_of_letters cid_answer names_of form_of_range param_of cid_text cid_of link_in node_of unix_of fields_of number_of span_of
returns-clause-bad_cid c = ap (λ (d : List ℕ). bad_request d (codes "BadCid")) (decimal_digit 7 (omega arith))

pub returns-clause-bad_format : goal.returns-clause-bad_format
unfolding trim_ows percent_decode bits base32 bytes_of_letters cid_answer names_of form_of_range param_of cid_text cid_of link_in node_of unix_of fields_of number_of span_of
returns-clause-bad_format c = ap (λ (d : List ℕ). bad_request d (codes "BadFormat")) ten

pub returns-clause-bad_scope : goal.returns-clause-bad_scope
unfolding trim_ows percent_decode bits base32 bytes_of_letters cid_answer names_of form_of_range param_of cid_text cid_of link_in node_of unix_of fields_of number_of span_of
returns-clause-bad_scope c = ap (λ (d : List ℕ). bad_request d (codes "BadScope")) (decimal_digit 9 (omega arith))

pub returns-clause-bad_range : goal.returns-clause-bad_range
unfolding trim_ows percent_decode bits base32 bytes_of_letters cid_answer names_of form_of_range param_of cid_text cid_of link_in node_of unix_of fields_of number_of span_of
returns-clause-bad_range c = ap (λ (d : List ℕ). bad_request d (codes "BadRange")) (decimal_digit 9 (omega arith))

pub returns-clause-doubled : goal.returns-clause-doubled
unfolding trim_ows percent_decode bits base32 bytes_of_letters cid_answer names_of form_of_range param_of cid_text cid_of link_in node_of unix_of fields_of number_of span_of
returns-clause-doubled c = ap (λ (d : List ℕ). bad_request d (codes "Doubled")) (decimal_digit 8 (omega arith))

pub returns-clause-bad_param : goal.returns-clause-bad_param
unfolding trim_ows percent_decode bits base32 bytes_of_letters cid_answer names_of form_of_range param_of cid_text cid_of link_in node_of unix_of fields_of number_of span_of
returns-clause-bad_param c = ap (λ (d : List ℕ). text_reply statuses.NotAcceptable (codes "HTTP/1.1 406 Not Acceptable") d (codes "BadParam")) (decimal_digit 9 (omega arith))

pub returns-clause-no_format : goal.returns-clause-no_format
unfolding trim_ows percent_decode bits base32 bytes_of_letters cid_answer names_of form_of_range param_of cid_text cid_of link_in node_of unix_of fields_of number_of span_of
returns-clause-no_format c = ap (λ (d : List ℕ). bad_request d (codes "NoFormat")) (decimal_digit 9 (omega arith))

pub returns-clause-raw_path : goal.returns-clause-raw_path
unfolding trim_ows percent_decode bits base32 bytes_of_letters cid_answer names_of form_of_range param_of cid_text cid_of link_in node_of unix_of fields_of number_of span_of
returns-clause-raw_path c = ap (λ (d : List ℕ). bad_request d (codes "RawPath")) (decimal_digit 8 (omega arith))

pub returns-clause-no_root : goal.returns-clause-no_root
unfolding trim_ows percent_decode bits base32 bytes_of_letters cid_answer names_of form_of_range param_of cid_text cid_of link_in node_of unix_of fields_of number_of span_of
returns-clause-no_root c = ap (λ (d : List ℕ). not_found d (codes "NoRoot")) (decimal_digit 7 (omega arith))

pub returns-clause-gone : goal.returns-clause-gone
unfolding trim_ows percent_decode bits base32 bytes_of_letters cid_answer names_of form_of_range param_of cid_text cid_of link_in node_of unix_of fields_of number_of span_of
returns-clause-gone c = ap (λ (d : List ℕ). server_error d (codes "Gone")) (decimal_digit 5 (omega arith))

pub returns-clause-bad_block : goal.returns-clause-bad_block
unfolding trim_ows percent_decode bits base32 bytes_of_letters cid_answer names_of form_of_range param_of cid_text cid_of link_in node_of unix_of fields_of number_of span_of
returns-clause-bad_block c = ap (λ (d : List ℕ). server_error d (codes "BadBlock")) (decimal_digit 9 (omega arith))

pub returns-clause-store : goal.returns-clause-store
unfolding trim_ows percent_decode bits base32 bytes_of_letters cid_answer names_of form_of_range param_of cid_text cid_of link_in node_of unix_of fields_of number_of span_of
returns-clause-store c = ap (λ (d : List ℕ). server_error d (codes "Store")) (decimal_digit 6 (omega arith))

pub returns-clause-head_limit : goal.returns-clause-head_limit
unfolding trim_ows percent_decode bits base32 bytes_of_letters cid_answer names_of form_of_range param_of cid_text cid_of link_in node_of unix_of fields_of number_of span_of
returns-clause-head_limit c = ap (λ (d : List ℕ). closing_reply statuses.FieldsTooLarge (codes "HTTP/1.1 431 Request Header Fields Too Large") d (codes "HeadLimit")) ten

pub returns-clause-bad_head : goal.returns-clause-bad_head
unfolding trim_ows percent_decode bits base32 bytes_of_letters cid_answer names_of form_of_range param_of cid_text cid_of link_in node_of unix_of fields_of number_of span_of
returns-clause-bad_head c = ap (λ (d : List ℕ). closing_reply statuses.BadRequest (codes "HTTP/1.1 400 Bad Request") d (codes "BadHead")) (decimal_digit 8 (omega arith))

pub returns-clause-to_head : goal.returns-clause-to_head
unfolding trim_ows percent_decode bits base32 bytes_of_letters cid_answer names_of form_of_range param_of cid_text cid_of link_in node_of unix_of fields_of number_of span_of
returns-clause-to_head c = ap (λ (d : List ℕ). record (bad_request d (codes "NoFormat")) { body = [] }) (decimal_digit 9 (omega arith))
