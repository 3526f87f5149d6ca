use Rattle.tg_cut_laws.proofs.BodyAnswers.{answer_once, open_once}
use Rattle.tg_cut_laws.proofs.BodyFailing.{fails_is_no_answer, fails_once}
use Rattle.tg_cut_laws.proofs.BodyStopping.{stops_as_it_fails, stops_is_no_answer, stops_is_not_open, stops_once}
use Rattle.tg_cut_laws.proofs.bodies_answered_once.Goals as goal

pub returns : goal.returns
returns c =
    let cut = c.cars_answered_once.ensures in
    let sections = c.sections_answered_once.ensures in
    let received = c.received_sections.ensures in
    record {
      stops = stops_once cut;
      stops_open = stops_is_not_open cut received sections;
      stops_fails = stops_as_it_fails cut received sections;
      fails = fails_once cut received sections;
      stops_answer = stops_is_no_answer cut received sections;
      fails_answer = fails_is_no_answer cut received sections;
      is_open = open_once cut;
      answer = answer_once received sections;
    }
