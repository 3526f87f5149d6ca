use Rattle.std.proofs.Common.{codes, sym, ◌∙◌}
use Rattle.std.proofs.lemmas.Slice.Eq.{bytes_eq-Decides}
use Rattle.tg_words.proofs.Told.{found_behind, found_of_help}
use Rattle.tg_words.proofs.topic_of.Goals as goal

pub returns-then-is_help_option-clause-some : goal.returns-then-is_help_option-clause-some
returns-then-is_help_option-clause-some c = found_behind _ _ c.of.result (c.is_help_option.ensures.0 c.if-is_help_option.true) c.of.ensures.some

pub returns-then-eq-clause-some : goal.returns-then-eq-clause-some
returns-then-eq-clause-some c =
    found_of_help _ _ c.of-then-eq.result ((bytes_eq-Decides c.args.first.now (codes "help")).0 (sym c.eq.ensures ∙ c.if-eq.true)) c.of-then-eq.ensures.some
