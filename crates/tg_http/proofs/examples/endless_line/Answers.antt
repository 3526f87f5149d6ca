use Rattle.tg_http.specs.declared.fault.HttpFault.TheVariants as faults
use Rattle.tg_http.proofs.Heads.{no_feed_no_head}
use Rattle.std.proofs.Common.{inl}
use Rattle.tg_http.proofs.examples.endless_line.Goals as goal

pub returns-clause-request : goal.returns-clause-request
returns-clause-request c bytes more long none = c.longer_bytes.ensures.request.1 bytes more faults.HeadLimit (inl (long, no_feed_no_head bytes none))

pub returns-clause-reply : goal.returns-clause-reply
returns-clause-reply c bytes more long none = c.longer_bytes.ensures.reply.1 bytes more faults.HeadLimit (inl (long, no_feed_no_head bytes none))
