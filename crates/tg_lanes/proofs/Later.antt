-- What lanes stand for while the store's count rises.
use Rattle.std.proofs.Common.{ℕ, ◌≤◌, Option, Some, None, List, [], ◌∷◌, arith}
use Rattle.tg_gateway.specs.Sessions.{SessionView}
use Rattle.tg_gateway.specs.declared.fault.GatewayFault.{GatewayFault}
use Rattle.tg_gateway.specs.declared.fault.GatewayFault.TheVariants as faults
use Rattle.tg_lanes.specs.History.{AreInTurn, Fed, HasWrittenFront, LaneStands, WritesBy}
use Rattle.tg_model.specs.Stores.{Store}
use Rattle.tg_reply.specs.Sent.{CountsBetween, Sent}
use Rattle.tg_reply.specs.Sessions.{SessionState}

-- the counts of replies lie before any later number
counts_later : (since now later : ℕ) (sent : List Sent) → now ≤ later → CountsBetween since sent now → CountsBetween since sent later
counts_later since now later [] le h = omega (arith, h, le)
counts_later since now later (s ∷ sent) le h = (h.0, h.1, counts_later s.faults_now now later sent le h.2)

-- so do those of events
turn_later : (since now later : ℕ) (own : List Fed) → now ≤ later → AreInTurn since own now → AreInTurn since own later
turn_later since now later [] le h = omega (arith, h, le)
turn_later since now later (f ∷ own) le h = (h.0, h.1, turn_later f.store_now now later own le h.2)

module _ (session : SessionState) (told : Option Store) (since now later : ℕ) (own : List Fed) (sent : List Sent) (le : now ≤ later) where
  pub front_later : HasWrittenFront session told since now own sent → HasWrittenFront session told since later own sent
  front_later h = record {
    next = h.next;
    front = record {
      rest = h.front.rest;
      sent_is = h.front.sent_is;
      at_most_one = h.front.at_most_one;
      left_open = h.front.left_open;
      numbers = h.front.numbers;
      counts = counts_later since now later sent le h.front.counts;
    };
    count = h.count;
    written_is = h.written_is;
  }

  pub later_by : (refused : Option GatewayFault) → WritesBy refused session told since now own sent → WritesBy refused session told since later own sent
  later_by None h = record {
    stands = record {
      unrefused = h.stands.unrefused;
      looked = h.stands.looked;
      dropped = h.stands.dropped;
      fed_is = h.stands.fed_is;
      all_looked = h.stands.all_looked;
      rest = h.stands.rest;
      sent_is = h.stands.sent_is;
      waiting = h.stands.waiting;
      closed_is = h.stands.closed_is;
      numbers = h.stands.numbers;
      received_is = h.stands.received_is;
      within = h.stands.within;
      counts = counts_later since now later sent le h.stands.counts;
    };
    written_is = h.written_is;
  }
  later_by (Some (faults.Limit number)) h = record {
    up_to = record {
      number_is = h.up_to.number_is;
      past = h.up_to.past;
      rest = h.up_to.rest;
      sent_is = h.up_to.sent_is;
      left_open = h.up_to.left_open;
      numbers = h.up_to.numbers;
      counts = counts_later since now later sent le h.up_to.counts;
    };
    written_is = h.written_is;
  }
  later_by (Some faults.LinkFault) h = (front_later h.0, h.1)
  later_by (Some faults.OutOfMemory) h = front_later h

pub stands_later : (session : SessionView) (told : Option Store) (since now later : ℕ) (own : List Fed) → now ≤ later → LaneStands session told since now own
    → LaneStands session told since later own
stands_later session told since now later own le h = record {
  in_turn = turn_later since now later own le h.in_turn;
  sent = h.sent;
  sent_in = h.sent_in;
  writes = later_by session.state told since now later own h.sent le session.refused h.writes;
}
