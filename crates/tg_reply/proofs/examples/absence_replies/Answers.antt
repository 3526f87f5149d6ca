use Rattle.std.proofs.Common.{refl}
use Rattle.httparse.specs.Grammar.{trim_ows}
use Rattle.percent_encoding.specs.Percent.{percent_decode}
use Rattle.tg_base32.specs.Base32.{bits}
use Rattle.tg_base32.specs.Computed.{base32}
use Rattle.tg_cid.specs.Computed.{cid_of, cid_text}
use Rattle.tg_dagpb.specs.Computed.{link_in, node_of}
use Rattle.tg_query.specs.CidAnswers.{bytes_of_letters, cid_answer}
use Rattle.tg_query.specs.Paths.{names_of}
use Rattle.tg_query.specs.Spans.{number_of, span_of}
use Rattle.tg_pbtable.specs.Computed.{fields_of}
use Rattle.tg_query.specs.Accepts.{form_of_range, param_of}
use Rattle.tg_unixfs.specs.Computed.{unix_of}
use Rattle.tg_reply.proofs.examples.absence_replies.Goals as goal

pub returns-clause-not_there : goal.returns-clause-not_there
unfolding trim_ows percent_decode bits base32 bytes_of_letters cid_answer names_of form_of_range param_of cid_text cid_of link_in node_of unix_of fields_of number_of span_of
returns-clause-not_there c = refl

pub returns-clause-head : goal.returns-clause-head
unfolding trim_ows percent_decode bits base32 bytes_of_letters cid_answer names_of form_of_range param_of cid_text cid_of link_in node_of unix_of fields_of number_of span_of
returns-clause-head c = refl

pub returns-clause-plain : goal.returns-clause-plain
unfolding trim_ows percent_decode bits base32 bytes_of_letters cid_answer names_of form_of_range param_of cid_text cid_of link_in node_of unix_of fields_of number_of span_of
returns-clause-plain c = refl

pub returns-clause-not_folder : goal.returns-clause-not_folder
unfolding trim_ows percent_decode bits base32 bytes_of_letters cid_answer names_of form_of_range param_of cid_text cid_of link_in node_of unix_of fields_of number_of span_of
returns-clause-not_folder c = refl
