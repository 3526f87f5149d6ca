use Rattle.tg_client.proofs.Fronts.{front, behind}
use Rattle.tg_client.proofs.Whole.{whole, within}
use Rattle.tg_client.proofs.Refusals.{one, unbroken, unpassed}
use Rattle.tg_client.proofs.Told.{car_once, header_inside, no_header}
use Rattle.tg_client.proofs.laws.received_sections.Goals as goal

pub returns : goal.returns
returns c =
    let laws = c.car_laws.ensures in
    record {
      whole = whole c.spelling_laws.ensures c.length_laws.ensures;
      one = one laws;
      within = within;
      front = front laws;
      behind = behind laws;
      unbroken = unbroken laws;
      unpassed = unpassed laws;
      once = car_once laws;
      headed = no_header laws;
      stays_headed = header_inside laws;
    }
