-- `check`: the input goes to out where it is a block that the CID names.
use Rattle.std.specs.Prelude.{◌≡◌, ◌≢◌, ℕ, ◌<◌, ◌≤◌, ◌⊎◌, List, length, Option, Some, None}
use Rattle.tg_cid.specs.Limits.{max_block_len}
use Rattle.sha2.specs.Sha256.{sha256}
use Rattle.tg_cid.specs.Cid.{CidParts}
use Rattle.tg_cid.specs.Names.{Names}
use Rattle.tg_streams.specs.Streams.{Input, Output, PutFront}
use Rattle.tg_commands.specs.Lines.{PutAll}
use Rattle.tg_commands.specs.Blocks.{OutputUntouched, Untouched, TookBlock, ReadBlock, OtherBlock, NoBlockEnds}
use Rattle.tg_commands.specs.declared.fault.CommandFault.{CommandFault}
use Rattle.tg_commands.specs.declared.fault.CommandFault.TheVariants.{SinkFault, OutOfMemory}

-- the whole input is a block that the CID names, and out grew by it
pub record Checked (cid : CidParts) (input : Input) (out : Output) : Type 0 where
  pub block : List ℕ
  pub read : ReadBlock cid block input
  pub put : PutAll block out

-- the whole input is a block that the CID names, and out failed after a front of it
pub record CheckedFront (cid : CidParts) (input : Input) (out : Output) : Type 0 where
  pub block : List ℕ
  pub read : ReadBlock cid block input
  pub front : PutFront block out

-- the whole input is a block that the CID doesn't name; nothing was put
pub record CheckedOther (cid : CidParts) (input : Input) (out : Output) : Type 0 where
  pub read : OtherBlock cid input
  pub unput : OutputUntouched out

-- how `check` ends
abbrev pub CheckEnds : CidParts → Input → Output → Option CommandFault → Type 0
CheckEnds cid input out None = Checked cid input out
CheckEnds cid input out (Some SinkFault) = CheckedFront cid input out
CheckEnds cid input out (Some OutOfMemory) = Untouched input out
CheckEnds cid input out (Some refusal) = NoBlockEnds cid input refusal × OutputUntouched out

-- two different blocks with one SHA-256
pub record CollisionPair (received block : List ℕ) : Type 0 where
  pub differ : received ≢ block
  pub one_hash : sha256 received ≡ sha256 block

-- out grew by the whole input, which is the block or differs from it with the same SHA-256
pub record Agrees (block : List ℕ) (input : Input) (out : Output) : Type 0 where
  pub received : List ℕ
  pub taken : TookBlock received input
  pub put : PutAll received out
  pub same : (received ≡ block) ⊎ CollisionPair received block

-- the status of `check` over an input of these bytes, where no fault was counted and memory was found
abbrev pub CheckStatus : CidParts → List ℕ → ℕ → Type 0
CheckStatus cid bytes status =
    ((status ≡ 0) × (length bytes ≤ max_block_len) × Names cid bytes)
    ⊎ (((status ≡ 3) × (length bytes ≤ max_block_len) × (Names cid bytes → ⊥)) ⊎ ((status ≡ 7) × (max_block_len < length bytes)))
