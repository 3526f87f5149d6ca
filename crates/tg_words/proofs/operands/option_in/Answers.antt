use Rattle.std.proofs.Common.{rules}
use Rattle.clap.specs.Matches.{found_of}
use Rattle.tg_words.specs.Operands.{texts_of}
use Rattle.tg_words.proofs.Matches.{one_option_is, no_option_default, no_option_empty}
use Rattle.tg_words.proofs.operands.option_in.Goals as goal
use Rattle.tg_words.proofs.operands.option_in.Goals.{then-eq-via-then-eq, then-eq-via-else-eq+then-ne, then-contains, else-contains}

pub returns-then-eq : goal.returns-then-eq
returns-then-eq c = elim c.then-eq.branch [
  | then-eq-via-then-eq w ↦ no_option_empty (texts_of c.args.names.flags.now) (found_of c.args.matches.now) c.args.name.now (search rules)
  | then-eq-via-else-eq+then-ne w ↦ no_option_default (texts_of c.args.names.flags.now) (found_of c.args.matches.now) c.args.name.now (search rules)
]

pub returns : goal.returns
returns c = elim c.if-contains.branch [
  | then-contains w ↦ one_option_is c.args.names.flags.now (found_of c.args.matches.now) c.args.name c.if-contains.value c.contains.result (search rules) (search rules) (search rules) (search rules)
  | else-contains w ↦ one_option_is c.args.names.flags.now (found_of c.args.matches.now) c.args.name c.if-contains.value c.contains.result (search rules) (search rules) (search rules) (search rules)
]
