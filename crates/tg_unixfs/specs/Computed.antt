-- The UnixFS data of a text, or why there is none, as a function: what `UnixText` and `HasUnixCause` say as relations.
use Rattle.std.specs.Prelude.{ℕ, List, [], ◌∷◌, Option, Some, None, slice_range, unwrap_or, Result, Ok, Err}
use Rattle.std.specs.Prelude.{Bool, ◌||◌, ◌==◌, if◌then◌else◌}
use Rattle.tg_pbtable.specs.declared.table.Field.{Field}
use Rattle.tg_pbtable.specs.declared.table.Value.{Value}
use Rattle.tg_pbtable.specs.declared.table.Value.TheVariants.{Number, Place}
use Rattle.tg_pbtable.specs.declared.table.Order.TheVariants.{Ascending}
use Rattle.tg_pbtable.specs.declared.fault.PbFault.{PbFault}
use Rattle.tg_pbtable.specs.Values.{numbers_at, bytes_at}
use Rattle.tg_pbtable.specs.Computed.{fields_of, first_of}
use Rattle.tg_pbtable.specs.Faults.{moved_by}
use Rattle.tg_unixfs.specs.declared.TheConstants.{DATA, TIME}
use Rattle.tg_unixfs.specs.declared.Unix.{Unix}
use Rattle.tg_unixfs.specs.declared.UnixFault.{UnixFault}
use Rattle.tg_unixfs.specs.declared.UnixFault.TheVariants as faults

-- the parts of the data that the fields of a message are
abbrev pub parts_of : List ℕ → List Field → Unix
parts_of text fields = record {
  kind = unwrap_or (first_of (numbers_at 1 fields)) 0;
  inline = first_of (bytes_at text 2 fields);
  filesize = first_of (numbers_at 3 fields);
  sizes = numbers_at 4 fields;
  hash = first_of (numbers_at 5 fields);
  fanout = first_of (numbers_at 6 fields);
}

abbrev pub is_kind : ℕ → Bool
is_kind kind = kind == 0 || (kind == 1 || (kind == 2 || (kind == 4 || kind == 5)))

-- a shard, of which an absent hash or fanout counts as 0
abbrev pub checked_shard : Unix → Result Unix UnixFault
checked_shard unix =
    if unwrap_or unix.hash 0 == 0x22
    then (if unwrap_or unix.fanout 0 == 256 then Ok unix else Err (faults.BadFanout (unwrap_or unix.fanout 0)))
    else Err (faults.BadHash (unwrap_or unix.hash 0))

-- the data, where it may stand
abbrev pub checked : Unix → Result Unix UnixFault
checked unix =
    if is_kind unix.kind then (if unix.kind == 5 then checked_shard unix else Ok unix) else Err (faults.BadKind unix.kind)

-- the fault of a text that begins at `start` of another one, with its place in that other one, where it has a fault
abbrev pub moved_fault : ℕ → Result (List Field) PbFault → Option PbFault
moved_fault start (Ok fields) = None
moved_fault start (Err fault) = Some (moved_by start fault)

abbrev pub bad_time_at : List ℕ → Value → Option PbFault
bad_time_at text (Number n) = None
bad_time_at text (Place start end) = moved_fault start (fields_of TIME.now Ascending (slice_range text start end))

-- the fault of the modification time, where it stands and has one
abbrev pub bad_time : List ℕ → List Field → Option PbFault
bad_time text [] = None
bad_time text (field ∷ fields) = if field.number == 8 then bad_time_at text field.value else bad_time text fields

abbrev pub behind_time : Option PbFault → Result Unix UnixFault → Result Unix UnixFault
behind_time None rest = rest
behind_time (Some fault) rest = Err (faults.BadTime fault)

abbrev pub with_fields : List ℕ → Result (List Field) PbFault → Result Unix UnixFault
with_fields text (Ok fields) = behind_time (bad_time text fields) (checked (parts_of text fields))
with_fields text (Err fault) = Err (faults.Pb fault)

-- the data of a text, or its first fault
unfoldable pub unix_of : List ℕ → Result Unix UnixFault
unix_of text = with_fields text (fields_of DATA.now Ascending text)
