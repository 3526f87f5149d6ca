-- What a contract sees of a reader, by its fields.
use Rattle.tg_car.specs.declared.reader.CarReader.TheInside.{Inside}
use Rattle.tg_car.specs.Filling.{came_of}
use Rattle.tg_car.specs.State.{ReaderState}

abbrev pub state_of : Inside → ReaderState
state_of r = record {
  limit = r.limit;
  refused = r.refused;
  place = r.place;
  in_header = r.in_header;
  header = r.header;
  text = r.text.items;
  came = came_of r.part;
}
