-- What commands over one block find on their input.
use Rattle.std.specs.Prelude.{◌≡◌, ℕ, ◌+◌, ◌≤◌, List, length}
use Rattle.tg_cid.specs.Cid.{CidParts}
use Rattle.tg_cid.specs.Limits.{max_block_len}
use Rattle.tg_cid.specs.Names.{Names}
use Rattle.tg_cid.specs.Spelling.{CidText}
use Rattle.tg_streams.specs.Streams.{Input, Output, InputQuiet, InputRose, OutputQuiet, Took, TookAll, Untaken, Unput}
use Rattle.tg_commands.specs.declared.blocks.InputRefusal.{InputRefusal}
use Rattle.tg_commands.specs.declared.blocks.InputRefusal.TheVariants as reading
use Rattle.tg_commands.specs.declared.fault.CommandFault.{CommandFault}
use Rattle.tg_commands.specs.declared.fault.CommandFault.TheVariants.{BadDigest, BlockLimit, InputFault}

-- nothing was taken, and no fault of the input counted
pub record InputUntouched (input : Input) : Type 0 where
  pub untaken : Untaken input
  pub quiet : InputQuiet input

-- nothing was put, and no fault of out counted
pub record OutputUntouched (out : Output) : Type 0 where
  pub unput : Unput out
  pub quiet : OutputQuiet out

-- input and out are as they were
pub record Untouched (input : Input) (out : Output) : Type 0 where
  pub untaken : InputUntouched input
  pub unput : OutputUntouched out

-- the whole input is a block within the limit, and no fault of it was counted
pub record TookBlock (block : List ℕ) (input : Input) : Type 0 where
  pub within : length block ≤ max_block_len
  pub all : TookAll block input
  pub quiet : InputQuiet input

-- it is a block that the CID names
pub record ReadBlock (cid : CidParts) (block : List ℕ) (input : Input) : Type 0 where
  pub taken : TookBlock block input
  pub named : Names cid block

-- it is a block that the CID doesn't name
pub record OtherBlock (cid : CidParts) (input : Input) : Type 0 where
  pub block : List ℕ
  pub taken : TookBlock block input
  pub other : Names cid block → ⊥

-- the input goes on past the limit; no fault of it was counted
pub record PassedLimit (input : Input) : Type 0 where
  pub bytes : List ℕ
  pub taken : Took bytes input
  pub more : length bytes ≡ max_block_len + 1
  pub quiet : InputQuiet input

-- a fault of the input was counted
pub record InputFailed (input : Input) : Type 0 where
  pub bytes : List ℕ
  pub taken : Took bytes input
  pub rose : InputRose input

-- why the input isn't a block that the CID names
abbrev pub IsNoBlock : CidParts → InputRefusal → Input → Type 0
IsNoBlock cid reading.Fault input = InputFailed input
IsNoBlock cid reading.Limit input = PassedLimit input
IsNoBlock cid reading.BadDigest input = OtherBlock cid input

-- the text of the CID as lines show it, in version 1
abbrev pub IsTextOf : CidParts → List ℕ → Type 0
IsTextOf cid text = CidText (record cid { version = 1 }) text

-- the refusal of such an input, with the text of the CID
abbrev pub refusal_for : InputRefusal → List ℕ → CommandFault
refusal_for reading.Fault text = InputFault
refusal_for reading.Limit text = BlockLimit
refusal_for reading.BadDigest text = BadDigest text

-- what stands after the refusal of such an input
abbrev pub NoBlockEnds : CidParts → Input → CommandFault → Type 0
NoBlockEnds cid input InputFault = InputFailed input
NoBlockEnds cid input BlockLimit = PassedLimit input
NoBlockEnds cid input (BadDigest text) = IsTextOf cid text × OtherBlock cid input
NoBlockEnds cid input other = ⊥
