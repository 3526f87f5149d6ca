use Rattle.std.proofs.Common.{map}
use Rattle.httparse.specs.Spans.{header_bytes}
use Rattle.tg_http.proofs.framing.framing_of.Goals as goal

pub returns : goal.returns
returns c = c.stated_framing.ensures (map (header_bytes c.args.text.now) c.args.fields.now) c.value_of.ensures c.value_of-2.ensures
