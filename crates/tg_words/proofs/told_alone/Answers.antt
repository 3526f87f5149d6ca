use Rattle.std.proofs.Common.{codes, sym, ◌∙◌}
use Rattle.std.proofs.lemmas.Slice.Eq.{bytes_eq-Decides}
use Rattle.tg_words.proofs.Told.{help_alone, option_alone}
use Rattle.tg_words.proofs.told_alone.Goals.{then-eq, else-eq}
use Rattle.tg_words.proofs.told_alone.Goals as goal

pub returns-then-is_help_option-clause-some : goal.returns-then-is_help_option-clause-some
returns-then-is_help_option-clause-some c = elim c.if-eq.branch [
  | then-eq w ↦ help_alone _ ((bytes_eq-Decides c.args.word.now (codes "help")).0 (sym c.eq.ensures ∙ w.if-eq.true))
  | else-eq w ↦ option_alone _ (w.is_help_option.ensures.0 (sym w.value-is ∙ c.if-is_help_option.true))
]
