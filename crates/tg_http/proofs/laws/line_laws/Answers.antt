use Rattle.tg_http.specs.Lines.{one_line, end_line, feed_in_line}
use Rattle.tg_http.proofs.laws.line_laws.Goals as goal

pub returns : goal.returns
returns c = record { one_line = one_line; end_line = end_line; feed_in_line = feed_in_line }
