-- Why a text is no DAG-PB node: the node's own fields first, and then the first link that is none.
use Rattle.std.specs.Prelude.{◌≡◌, ℕ, ◌⊎◌, List, ◌∷◌, ◌++◌, slice_range, All}
use Rattle.tg_pbtable.specs.declared.table.Field.{Field}
use Rattle.tg_pbtable.specs.declared.table.Order.TheVariants.{Ascending, Runs}
use Rattle.tg_pbtable.specs.declared.table.Value.TheVariants.{Place}
use Rattle.tg_pbtable.specs.declared.table.Wire.TheVariants.{Bytes}
use Rattle.tg_pbtable.specs.declared.fault.PbFault.{PbFault}
use Rattle.tg_pbtable.specs.Message.{Message}
use Rattle.tg_pbtable.specs.Values.{bytes_at}
use Rattle.tg_pbtable.specs.Faults.{HasCause, moved_by}
use Rattle.tg_dagpb.specs.declared.TheConstants.{NODE, LINK}
use Rattle.tg_dagpb.specs.declared.Link.{Link}
use Rattle.tg_dagpb.specs.Node.{LinkText}

-- the text is some link's
abbrev pub IsLinkText : List ℕ → Type 0
IsLinkText text = (link : Link) × LinkText link text

-- the node's own fields are a message; the links before one are texts of links, and that one isn't, for this cause
pub record HasBadLink (text : List ℕ) (fault : PbFault) : Type 0 where
  pub before : List Field
  pub start : ℕ
  pub end : ℕ
  pub after : List Field
  pub message : Message NODE.now Runs text
      (before ++ record { number = 2; wire = Bytes; value = Place start end } ∷ after)
  pub earlier : All IsLinkText (bytes_at text 2 before)
  pub cause : PbFault
  pub cause_is : HasCause LINK.now Ascending (slice_range text start end) cause
  pub fault_is : fault ≡ moved_by start cause

-- the cause of each fault but want of memory
abbrev pub HasNodeCause : List ℕ → PbFault → Type 0
HasNodeCause text fault = HasCause NODE.now Runs text fault ⊎ HasBadLink text fault
