use Rattle.std.proofs.Common.{length, ◌-◌}
use Rattle.std.proofs.lemmas.List.{take_rest}
use Rattle.tg_audit_texts.proofs.expected.last_of.Goals as goal
use Rattle.tg_audit_texts.specs.Expected.{last_of}

pub returns : goal.returns
unfolding last_of
returns c = take_rest c.args.bytes.now (length c.args.bytes.now - c.args.count)
