use Rattle.std.proofs.Common.{◌≡◌, List, ℕ, [], ◌∷◌, ◌++◌, ◌∙◌, arith, ap, codes, refl}
use Rattle.std.specs.Prelude.{decimal, take}
use Rattle.httparse.specs.Grammar.{is_token_byte, print_request, trim_ows}
use Rattle.percent_encoding.specs.Percent.{percent_decode}
use Rattle.std.specs.Char.{encode_utf8}
use Rattle.std.specs.Str.{chars, is_utf8}
use Rattle.tg_base32.specs.Base32.{bits}
use Rattle.tg_base32.specs.Computed.{base32}
use Rattle.tg_cid.specs.Computed.{cid_of, cid_text}
use Rattle.tg_dagpb.specs.Computed.{link_in, node_of}
use Rattle.tg_query.specs.CidAnswers.{bytes_of_letters, cid_answer}
use Rattle.tg_query.specs.Paths.{names_of}
use Rattle.tg_query.specs.Spans.{number_of, span_of}
use Rattle.tg_pbtable.specs.Computed.{fields_of}
use Rattle.tg_query.specs.Accepts.{form_of_range, param_of}
use Rattle.tg_unixfs.specs.Computed.{unix_of}
use Rattle.tg_reply.specs.Examples.{first_bytes, first_target, lines, request_lines, second_bytes, second_target, three_roots}
use Rattle.tg_reply.specs.Replies.{Reply, refused_bytes, reply_bytes}
use Rattle.tg_reply.specs.declared.refusal.Refusal.TheVariants.{BadHead}
use Rattle.tg_reply.specs.Written.{replies_for}
use Rattle.tg_reply.proofs.examples.computed_replies.Goals as goal

-- what is computed
computed : replies_for three_roots (request_lines first_target ++ request_lines second_target) ≡ first_bytes ++ second_bytes
unfolding encode_utf8 is_token_byte print_request is_utf8 chars trim_ows percent_decode bits base32 bytes_of_letters cid_answer names_of form_of_range param_of cid_text cid_of link_in node_of unix_of fields_of number_of span_of
computed = refl

pub returns-clause-both : goal.returns-clause-both
returns-clause-both c = computed

-- the first reply, and nothing behind it
first_alone : replies_for three_roots (request_lines first_target ++ take 40 (request_lines second_target)) ≡ first_bytes
unfolding encode_utf8 is_token_byte print_request is_utf8 chars trim_ows percent_decode bits base32 bytes_of_letters cid_answer names_of form_of_range param_of cid_text cid_of link_in node_of unix_of fields_of number_of span_of
first_alone = refl

pub returns-clause-waiting : goal.returns-clause-waiting
returns-clause-waiting c = first_alone

-- the reply to bytes that are no head behind the first
behind_first : replies_for three_roots (request_lines first_target ++ lines (codes "GET" ∷ [])) ≡ first_bytes ++ reply_bytes (refused_bytes BadHead)
unfolding encode_utf8 is_token_byte print_request is_utf8 chars trim_ows percent_decode bits base32 bytes_of_letters cid_answer names_of form_of_range param_of cid_text cid_of link_in node_of unix_of fields_of number_of span_of
behind_first = refl

pub returns-clause-no_head : goal.returns-clause-no_head
returns-clause-no_head c = behind_first ∙ ap (λ (r : Reply). first_bytes ++ reply_bytes r) c.text_replies.ensures.bad_head
