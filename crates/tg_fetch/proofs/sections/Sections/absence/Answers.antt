use Rattle.std.proofs.Common.{[], refl}
use Rattle.tg_fetch.proofs.Taking.{some_wanted}
use Rattle.tg_fetch.proofs.sections.Sections.absence.Goals as goal

pub returns-clause-taking : goal.returns-clause-taking
returns-clause-taking c head is =
    let made = c.in_ok-absence in (
      record {
        is_head = is;
        query = made.ensures.query;
        limits_are = made.ensures.limits;
        sections = [];
        said = [];
        is_body = made.ensures.stands;
        wanted = some_wanted c.standing_bodies.ensures made.field-0 [] [] made.ensures.stands;
      },
      refl,
    )
