use Rattle.std.proofs.Common.{refl}
use Rattle.tg_test_dags.proofs.HelloHeld.{hello_held, hello_serves}
use Rattle.tg_test_dags.proofs.mirrored.hello_mirrored.Goals as goal

pub returns-clause-sections : goal.returns-clause-sections
returns-clause-sections c = refl

pub returns-clause-held : goal.returns-clause-held
returns-clause-held c = λ named. hello_held c.mirrored_dags.ensures.holds (c.example_whole.ensures.sound named)

pub returns-clause-serves : goal.returns-clause-serves
returns-clause-serves c = λ named old new is nothing adds.
    hello_serves c.mirrored_dags.ensures.holds (c.example_whole.ensures.sound named) old new is nothing adds c.mirrored_dags.ensures.serves
