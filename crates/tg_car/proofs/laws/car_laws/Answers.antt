use Rattle.tg_car.proofs.OneText.{one_header, header_text}
use Rattle.tg_car.proofs.Sections.{one_section, section_text}
use Rattle.tg_car.proofs.Divisions.{none_missed, one_division}
use Rattle.tg_car.proofs.Refusals.{one_refusal}
use Rattle.tg_car.proofs.laws.car_laws.Goals as goal

pub returns : goal.returns
returns c =
    let laws = c.text_laws.ensures in
    record {
      one_header = one_header laws.varints.no_front;
      header_text = header_text laws;
      one_section = one_section laws;
      section_text = section_text laws;
      none_missed = none_missed laws;
      one_division = one_division laws;
      one_refusal = one_refusal laws;
    }
