use Rattle.std.proofs.Common.{◌∙◌}
use Rattle.tg_cid.proofs.cid.Cid.to_text.Goals as goal

pub returns : goal.returns
returns c = record {
  bytes = _;
  in_base = record { letters = c.in_ok-text.text.items; begins = c.from.ensures ∙ c.in_ok-insert.ensures.items; rest = c.in_ok-text.ensures };
  in_bytes = c.version_one_spelling-size.ensures.spelled;
}
