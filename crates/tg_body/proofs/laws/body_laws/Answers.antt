use Rattle.tg_body.proofs.Determined.{none_missed, end_given, one_division, one_refusal}
use Rattle.tg_body.proofs.Divisions.{cut_not_whole}
use Rattle.tg_body.proofs.Wholes.{one_whole}
use Rattle.tg_body.proofs.laws.body_laws.Goals as goal

pub returns : goal.returns
returns c =
    let laws = c.line_laws.ensures in
    record {
      none_missed = none_missed laws;
      end_given = end_given laws;
      one_division = one_division laws;
      one_refusal = one_refusal laws;
      one_whole = one_whole laws;
      cut_not_whole = cut_not_whole laws;
    }
