use Rattle.tg_query.proofs.Printed.{printed}
use Rattle.tg_query.proofs.laws.printed_requests.Goals as goal

pub returns : goal.returns
returns c =
    printed
    (record {
      cuts = c.cuts_read.ensures.cut;
      rooted = c.roots_read.ensures.rooted;
      spans = c.spans_read.ensures.span;
      texts = c.computes.ensures.text;
      heads = c.request_heads.ensures;
    })
