-- Why a text is no UnixFS data: the message first, then the modification time, the type, the hash of a shard, its
-- fanout.
use Rattle.std.specs.Prelude.{◌≡◌, ◌≢◌, ℕ, List, Contains, slice_range, unwrap_or}
use Rattle.tg_pbtable.specs.declared.fault.PbFault.{PbFault}
use Rattle.tg_pbtable.specs.declared.table.Value.TheVariants.{Place}
use Rattle.tg_pbtable.specs.declared.table.Wire.TheVariants.{Bytes}
use Rattle.tg_pbtable.specs.declared.table.Field.{Field}
use Rattle.tg_pbtable.specs.declared.table.Order.TheVariants.{Ascending}
use Rattle.tg_pbtable.specs.Message.{Message}
use Rattle.tg_pbtable.specs.Faults.{HasCause, moved_by}
use Rattle.tg_unixfs.specs.declared.TheConstants.{DATA, TIME}
use Rattle.tg_unixfs.specs.declared.Unix.{Unix}
use Rattle.tg_unixfs.specs.declared.UnixFault.{UnixFault}
use Rattle.tg_unixfs.specs.declared.UnixFault.TheVariants as faults
use Rattle.tg_unixfs.specs.Unix.{HasParts, HasTime, IsKind}

-- the text is a message with these parts, whatever they may be, and its modification time is one
pub record HasData (text : List ℕ) (unix : Unix) : Type 0 where
  pub fields : List Field
  pub message : Message DATA.now Ascending text fields
  pub parts : HasParts text fields unix
  pub time : HasTime text fields

-- the text is a message, and the bytes of its modification time are none, for this fault
pub record HasBadTime (text : List ℕ) (fault : PbFault) : Type 0 where
  pub fields : List Field
  pub message : Message DATA.now Ascending text fields
  pub start : ℕ
  pub end : ℕ
  pub among : Contains fields (record { number = 8; wire = Bytes; value = Place start end })
  pub cause : PbFault
  pub cause_is : HasCause TIME.now Ascending (slice_range text start end) cause
  pub fault_is : fault ≡ moved_by start cause

-- an absent number counts as 0
pub record HasBadHash (text : List ℕ) (number : ℕ) : Type 0 where
  pub unix : Unix
  pub has : HasData text unix
  pub kind : unix.kind ≡ 5
  pub number_is : number ≡ unwrap_or unix.hash 0
  pub other : number ≢ 0x22

pub record HasBadFanout (text : List ℕ) (number : ℕ) : Type 0 where
  pub unix : Unix
  pub has : HasData text unix
  pub kind : unix.kind ≡ 5
  pub hash : unwrap_or unix.hash 0 ≡ 0x22
  pub number_is : number ≡ unwrap_or unix.fanout 0
  pub other : number ≢ 256

pub record HasBadKind (text : List ℕ) (number : ℕ) : Type 0 where
  pub unix : Unix
  pub has : HasData text unix
  pub kind : unix.kind ≡ number
  pub unknown : IsKind number → ⊥

-- the cause of each fault but want of memory
abbrev pub HasUnixCause : List ℕ → UnixFault → Type 0
HasUnixCause text (faults.Pb fault) = HasCause DATA.now Ascending text fault
HasUnixCause text (faults.BadTime fault) = HasBadTime text fault
HasUnixCause text (faults.BadKind number) = HasBadKind text number
HasUnixCause text (faults.BadHash number) = HasBadHash text number
HasUnixCause text (faults.BadFanout number) = HasBadFanout text number
HasUnixCause text faults.OutOfMemory = ⊥
