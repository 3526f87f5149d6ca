-- The steps of reading a link and a node.
use Rattle.std.specs.Prelude.{◌≡◌, ℕ, List, [], ◌∷◌, ◌++◌, Option, Some, None, slice_range, All}
use Rattle.tg_pbtable.specs.declared.table.Field.{Field}
use Rattle.tg_pbtable.specs.declared.table.Order.TheVariants.{Ascending, Runs}
use Rattle.tg_pbtable.specs.declared.table.Value.TheVariants as values
use Rattle.tg_pbtable.specs.declared.table.Wire.TheVariants.{Bytes}
use Rattle.tg_pbtable.specs.declared.table.Place.{Place}
use Rattle.tg_pbtable.specs.declared.fault.PbFault.{PbFault}
use Rattle.tg_pbtable.specs.Values.{numbers_at, bytes_at, later}
use Rattle.tg_pbtable.specs.Faults.{HasCause, moved_by}
use Rattle.tg_pbtable.specs.declared.cursor.FieldCursor.{FieldCursor}
use Rattle.tg_pbtable.specs.Cursor.{HasRead}
use Rattle.tg_dagpb.specs.declared.TheConstants.{NODE, LINK}
use Rattle.tg_dagpb.specs.declared.Link.{Link}
use Rattle.tg_dagpb.specs.Node.{LinkText}
use Rattle.tg_dagpb.specs.Faults.{IsLinkText}
use Rattle.tg_pbtable.specs.Place.{AreInside, placed_bytes}
use Rattle.tg_dagpb.specs.declared.LinkPlaces.{LinkPlaces}
use Rattle.tg_dagpb.specs.Cursor.{placed_link, LieInside}

-- the link after the fields: of each number the last value
pub record GathersLink (text : List ℕ) (fields : List Field) (old new : Link) : Type 0 where
  pub hash : Some new.hash ≡ later (Some old.hash) (bytes_at text 1 fields)
  pub name : new.name ≡ later old.name (bytes_at text 2 fields)
  pub tsize : new.tsize ≡ later old.tsize (numbers_at 3 fields)

-- a field that is a link at a place
abbrev pub placed : ℕ → ℕ → Field
placed start end = record { number = 2; wire = Bytes; value = values.Place start end }

-- the link before any field
abbrev pub no_link : Link
no_link = record { hash = []; name = None; tsize = None }

-- the bytes at a place are no link's, for this fault
pub record IsBadPlace (text : List ℕ) (start end : ℕ) (fault : PbFault) : Type 0 where
  pub cause : PbFault
  pub cause_is : HasCause LINK.now Ascending (slice_range text start end) cause
  pub fault_is : fault ≡ moved_by start cause

-- the bytes from `start` up to and without `end` are a link's, of which the parts lie at the places
pub record IsLinkBetween (text : List ℕ) (start end : ℕ) (places : LinkPlaces) : Type 0 where
  pub is_text : LinkText (placed_link text places) (slice_range text start end)
  pub inside : LieInside text places

-- the field is a link that is none, for this fault
pub record IsBadField (text : List ℕ) (field : Field) (fault : PbFault) : Type 0 where
  pub start : ℕ
  pub end : ℕ
  pub field_is : field ≡ placed start end
  pub bad : IsBadPlace text start end fault

-- the link after the fields that a cursor over these bytes has read, of which the parts lie at the places
pub record LinkSoFar (text : List ℕ) (start end : ℕ) (cursor : FieldCursor 3) (places : LinkPlaces) : Type 0 where
  pub fields : List Field
  pub read : HasRead LINK.now Ascending (slice_range text start end) fields cursor
  pub gathers : GathersLink (slice_range text start end) fields no_link (placed_link text places)
  pub inside : LieInside text places

-- of the fields that are links one is none, and those before it are
pub record HasFirstBad (text : List ℕ) (fields : List Field) (fault : PbFault) : Type 0 where
  pub before : List Field
  pub start : ℕ
  pub end : ℕ
  pub after : List Field
  pub whole : fields ≡ before ++ placed start end ∷ after
  pub earlier : All IsLinkText (bytes_at text 2 before)
  pub bad : IsBadPlace text start end fault

-- whether the fields that are links all are, or why the first that is none isn't
abbrev pub IsVerdict : List ℕ → List Field → Option PbFault → Type 0
IsVerdict text fields None = All IsLinkText (bytes_at text 2 fields)
IsVerdict text fields (Some fault) = HasFirstBad text fields fault

-- the verdict on the fields that a cursor has read, and the place of the data
pub record CheckedSoFar (text : List ℕ) (cursor : FieldCursor 2) (bad : Option PbFault) (payload : Option Place) : Type 0 where
  pub fields : List Field
  pub read : HasRead NODE.now Runs text fields cursor
  pub verdict : IsVerdict text fields bad
  pub payload_is : placed_bytes text payload ≡ later None (bytes_at text 1 fields)
  pub inside : AreInside text payload
