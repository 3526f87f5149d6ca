use Rattle.std.proofs.Common.{rules, refl}
use Rattle.tg_fetch.proofs.sections.Sections.answer.Goals as goal

pub returns-in_ok-new-in-Raw-clause-taking : goal.returns-in_ok-new-in-Raw-clause-taking
returns-in_ok-new-in-Raw-clause-taking c head is = (c.in_ok-new-in-Raw.ensures head is (search rules), refl)
