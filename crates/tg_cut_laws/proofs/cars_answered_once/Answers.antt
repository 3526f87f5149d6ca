use Rattle.tg_cut_laws.proofs.CarsOnce.{car_held_once, car_refused_is_surplus, car_refused_not_held, car_refused_once, car_short_is_not_through, car_short_once}
use Rattle.tg_cut_laws.proofs.CarTexts.{header_of_car}
use Rattle.tg_cut_laws.proofs.cars_answered_once.Goals as goal

pub returns : goal.returns
returns c =
    let laws = c.sections_answered_once.ensures in
    let cars = c.car_laws.ensures in
    let received = c.received_sections.ensures in
    record {
      refused = car_refused_once laws cars received;
      refused_held = car_refused_not_held laws cars received;
      refused_through = λ q limits bytes heard more a b x y f due r e few got is_car through. car_refused_is_surplus laws cars received q limits bytes heard more a b x y f due r e few got
          (header_of_car received limits.block heard b b got is_car) through;
      held = car_held_once laws cars received;
      short = car_short_once laws cars received;
      short_through = λ q limits bytes a b x y want number got also is_car short through. car_short_is_not_through laws cars received q limits bytes a b x y want number got also
          (header_of_car received limits.block bytes b b also is_car) short through;
    }
