-- UnixFS data where it stands in its payload, and cursors over its blocksizes.
use Rattle.std.specs.Prelude.{◌≡◌, ℕ, List, Option, Some, None, Contains, slice_range, ⊤}
use Rattle.tg_pbtable.specs.declared.table.Field.{Field}
use Rattle.tg_pbtable.specs.declared.table.Place.{Place}
use Rattle.tg_pbtable.specs.declared.table.Value.TheVariants as values
use Rattle.tg_pbtable.specs.declared.table.Wire.TheVariants.{Bytes}
use Rattle.tg_pbtable.specs.declared.table.Order.TheVariants.{Ascending}
use Rattle.tg_pbtable.specs.declared.fault.PbFault.{PbFault}
use Rattle.tg_pbtable.specs.declared.cursor.FieldCursor.{FieldCursor}
use Rattle.tg_pbtable.specs.Cursor.{HasRead, StandsBetween}
use Rattle.tg_pbtable.specs.Faults.{HasCause, moved_by}
use Rattle.tg_pbtable.specs.Place.{AreInside, placed_bytes}
use Rattle.tg_pbtable.specs.Values.{numbers_at, bytes_at, later}
use Rattle.tg_unixfs.specs.declared.TheConstants.{DATA, TIME}
use Rattle.tg_unixfs.specs.declared.Unix.{Unix}
use Rattle.tg_unixfs.specs.declared.UnixFault.{UnixFault}
use Rattle.tg_unixfs.specs.declared.UnixFault.TheVariants as faults
use Rattle.tg_unixfs.specs.declared.places.UnixPlaces.{UnixPlaces}
use Rattle.tg_unixfs.specs.Unix.{UnixText, IsUnix}
use Rattle.tg_unixfs.specs.Reading.{Gathers, IsUnfit, nothing}

-- the data with these blocksizes, of which the other parts lie at the places
abbrev pub placed_unix : List ℕ → UnixPlaces → List ℕ → Unix
placed_unix text places sizes = record {
  kind = places.kind;
  inline = placed_bytes text places.inline;
  filesize = places.filesize;
  sizes = sizes;
  hash = places.hash;
  fanout = places.fanout;
}

-- the text is data's, of which the parts lie at the places
pub record HasDataAt (text : List ℕ) (places : UnixPlaces) : Type 0 where
  pub sizes : List ℕ
  pub is_text : UnixText (placed_unix text places sizes) text

-- data with these parts may stand, or may not, whatever its inline bytes and its blocksizes
abbrev pub MayStand : UnixPlaces → Type 0
MayStand places = (text sizes : List ℕ) → IsUnix (placed_unix text places sizes)

abbrev pub MayNotStand : UnixPlaces → UnixFault → Type 0
MayNotStand places fault = (text sizes : List ℕ) → IsUnfit (placed_unix text places sizes) fault

-- at `at` these blocksizes of the data are behind, and those are to come
pub record IsBetween (text : List ℕ) (at : ℕ) (behind ahead : List ℕ) : Type 0 where
  pub front : List Field
  pub rest : List Field
  pub fields : StandsBetween DATA.now Ascending text at front rest
  pub sizes_behind : behind ≡ numbers_at 4 front
  pub sizes_ahead : ahead ≡ numbers_at 4 rest

-- a cursor of a text: 0, or one that stands behind a blocksize
abbrev pub IsCursor : List ℕ → ℕ → Type 0
IsCursor text at = (behind : List ℕ) × (ahead : List ℕ) × IsBetween text at behind ahead

-- a field of bytes that has to be a modification time
abbrev pub timed : ℕ → ℕ → Field
timed start end = record { number = 8; wire = Bytes; value = values.Place start end }

-- a modification time, where there is one, is among the fields
abbrev pub IsAmong : List Field → Option Place → Type 0
IsAmong fields None = ⊤
IsAmong fields (Some place) = Contains fields (timed place.start place.end)

-- the bytes from `start` up to and without `end` are no modification time, and the fault says why
pub record IsBadTimeFrom (text : List ℕ) (start end : ℕ) (fault : PbFault) : Type 0 where
  pub cause : PbFault
  pub cause_is : HasCause TIME.now Ascending (slice_range text start end) cause
  pub fault_is : fault ≡ moved_by start cause

-- there is a modification time, of which the bytes are none
pub record IsBadTimeAt (text : List ℕ) (time : Option Place) (fault : UnixFault) : Type 0 where
  pub place : Place
  pub place_is : time ≡ Some place
  pub told : PbFault
  pub bad : IsBadTimeFrom text place.start place.end told
  pub fault_is : fault ≡ faults.BadTime told

-- the data after the fields that a cursor has read
pub record DataSoFar (text : List ℕ) (cursor : FieldCursor 8) (places : UnixPlaces) (time : Option Place) : Type 0 where
  pub fields : List Field
  pub read : HasRead DATA.now Ascending text fields cursor
  pub gathers : Gathers text fields nothing (placed_unix text places (numbers_at 4 fields))
  pub inside : AreInside text places.inline
  pub time_is : placed_bytes text time ≡ later None (bytes_at text 8 fields)
  pub time_inside : AreInside text time
  pub time_among : IsAmong fields time
