use Rattle.std.proofs.Common.{arith, codes, refl, ap, ◌∷◌, ◌++◌, [], List, ℕ}
use Rattle.std.proofs.lemmas.Fmt.{decimal_digit}
use Rattle.httparse.specs.Grammar.{trim_ows}
use Rattle.percent_encoding.specs.Percent.{percent_decode}
use Rattle.tg_base32.specs.Base32.{bits}
use Rattle.tg_base32.specs.Computed.{base32}
use Rattle.tg_cid.specs.Computed.{cid_of, cid_text}
use Rattle.tg_dagpb.specs.Computed.{link_in, node_of}
use Rattle.tg_query.specs.CidAnswers.{bytes_of_letters, cid_answer}
use Rattle.tg_query.specs.Paths.{names_of}
use Rattle.tg_query.specs.Spans.{number_of, span_of}
use Rattle.tg_pbtable.specs.Computed.{fields_of}
use Rattle.tg_query.specs.Accepts.{form_of_range, param_of}
use Rattle.tg_unixfs.specs.Computed.{unix_of}
use Rattle.tg_reply.specs.Examples.{empty_root, lines, open_reply}
use Rattle.tg_reply.specs.declared.status.Status.TheVariants as statuses
use Rattle.tg_reply.proofs.examples.block_replies.Goals as goal

pub returns-clause-car : goal.returns-clause-car
unfolding trim_ows percent_decode bits base32 bytes_of_letters cid_answer names_of form_of_range param_of cid_text cid_of link_in node_of unix_of fields_of number_of span_of
returns-clause-car c = refl

pub returns-clause-head : goal.returns-clause-head
unfolding trim_ows percent_decode bits base32 bytes_of_letters cid_answer names_of form_of_range param_of cid_text cid_of link_in node_of unix_of fields_of number_of span_of
returns-clause-head c = refl

pub returns-clause-plain : goal.returns-clause-plain
unfolding trim_ows percent_decode bits base32 bytes_of_letters cid_answer names_of form_of_range param_of cid_text cid_of link_in node_of unix_of fields_of number_of span_of
returns-clause-plain c = refl

pub returns-clause-cut : goal.returns-clause-cut
unfolding trim_ows percent_decode bits base32 bytes_of_letters cid_answer names_of form_of_range param_of cid_text cid_of link_in node_of unix_of fields_of number_of span_of
returns-clause-cut c = refl

pub returns-clause-raw : goal.returns-clause-raw
unfolding trim_ows percent_decode bits base32 bytes_of_letters cid_answer names_of form_of_range param_of cid_text cid_of link_in node_of unix_of fields_of number_of span_of
returns-clause-raw c =
    ap (λ (d : List ℕ). open_reply statuses.Ok (lines (codes "HTTP/1.1 200 OK" ∷ codes "Content-Type: application/vnd.ipld.raw" ∷ codes "Content-Disposition: attachment" ∷ codes "X-Content-Type-Options: nosniff" ∷ codes "Cache-Control: public, max-age=29030400, immutable" ∷ (codes "X-Ipfs-Path: " ++ empty_root) ∷ (codes "Content-Length: " ++ d) ∷ [])) (0x0a ∷ 0x02 ∷ 0x08 ∷ 0x01 ∷ [])) (decimal_digit 4 (omega arith))
