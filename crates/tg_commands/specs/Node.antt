-- `node`: the fields of the block on input go to out where the CID names it.
use Rattle.std.specs.Prelude.{◌≡◌, ℕ, ◌<◌, ◌≤◌, ◌⊎◌, List, length, Option, Some, None}
use Rattle.tg_cid.specs.Limits.{max_block_len}
use Rattle.tg_cid.specs.Cid.{CidParts}
use Rattle.tg_cid.specs.Names.{Names}
use Rattle.tg_node.specs.NodeTexts.{IsNodeTextOf, HasNodeTextCause}
use Rattle.tg_node.specs.declared.fault.NodeFault.{NodeFault}
use Rattle.tg_streams.specs.Streams.{Input, Output, PutFront}
use Rattle.tg_commands.specs.Lines.{PutAll}
use Rattle.tg_commands.specs.Blocks.{OutputUntouched, Untouched, ReadBlock, IsTextOf, NoBlockEnds}
use Rattle.tg_commands.specs.Check.{CheckedOther}
use Rattle.tg_commands.specs.declared.fault.CommandFault.{CommandFault}
use Rattle.tg_commands.specs.declared.fault.CommandFault.TheVariants.{BadBlock, SinkFault, OutOfMemory}

-- the whole input is a block that the CID names, and out grew by the text of its fields; no cause of a fault holds
pub record Noded (cid : CidParts) (input : Input) (out : Output) : Type 0 where
  pub block : List ℕ
  pub read : ReadBlock cid block input
  pub text : List ℕ
  pub text_is : IsNodeTextOf cid block text
  pub good : (fault : NodeFault) → HasNodeTextCause cid block fault → ⊥
  pub put : PutAll text out

-- out failed after a front of the text
pub record NodedFront (cid : CidParts) (input : Input) (out : Output) : Type 0 where
  pub block : List ℕ
  pub read : ReadBlock cid block input
  pub text : List ℕ
  pub text_is : IsNodeTextOf cid block text
  pub front : PutFront text out

-- the whole input is a block that the CID names and that has no text, for this cause; nothing was put
pub record NodedBad (cid : CidParts) (fault : NodeFault) (input : Input) (out : Output) : Type 0 where
  pub block : List ℕ
  pub read : ReadBlock cid block input
  pub cause : HasNodeTextCause cid block fault
  pub none : (text : List ℕ) → IsNodeTextOf cid block text → ⊥
  pub unput : OutputUntouched out

-- the whole input is a block that the CID names; nothing was put
pub record NodedNothing (cid : CidParts) (input : Input) (out : Output) : Type 0 where
  pub block : List ℕ
  pub read : ReadBlock cid block input
  pub unput : OutputUntouched out

-- how `node` ends: memory is wanted before anything was taken, or for the text of a block that was read
abbrev pub NodeEnds : CidParts → Input → Output → Option CommandFault → Type 0
NodeEnds cid input out None = Noded cid input out
NodeEnds cid input out (Some (BadBlock text fault)) = IsTextOf cid text × NodedBad cid fault input out
NodeEnds cid input out (Some SinkFault) = NodedFront cid input out
NodeEnds cid input out (Some OutOfMemory) = Untouched input out ⊎ NodedNothing cid input out
NodeEnds cid input out (Some refusal) = NoBlockEnds cid input refusal × OutputUntouched out

-- `node` at status 3: the CID doesn't name the block, or the block has no text; nothing was put
abbrev pub NodedOther : CidParts → Input → Output → Type 0
NodedOther cid input out = CheckedOther cid input out ⊎ ((fault : NodeFault) × NodedBad cid fault input out)

-- why a block that isn't the CID's, or that has no text, is refused
abbrev pub HasNoText : CidParts → List ℕ → Type 0
HasNoText cid bytes = (Names cid bytes → ⊥)
    ⊎ (Names cid bytes × ((text : List ℕ) → IsNodeTextOf cid bytes text → ⊥) × ((fault : NodeFault) × HasNodeTextCause cid bytes fault))

-- there is a text and no cause of a fault
abbrev pub HasText : CidParts → List ℕ → Type 0
HasText cid bytes =
    ((text : List ℕ) × IsNodeTextOf cid bytes text) × ((fault : NodeFault) → HasNodeTextCause cid bytes fault → ⊥)

-- the status of `node` over an input of these bytes, where no fault was counted and memory was found
abbrev pub NodeStatus : CidParts → List ℕ → ℕ → Type 0
NodeStatus cid bytes status =
    ((status ≡ 0) × (length bytes ≤ max_block_len) × Names cid bytes × HasText cid bytes)
    ⊎ (((status ≡ 3) × (length bytes ≤ max_block_len) × HasNoText cid bytes) ⊎ ((status ≡ 7) × (max_block_len < length bytes)))
