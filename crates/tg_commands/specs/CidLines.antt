-- `cid`: a line that shows a CID's bytes or its text goes to out.
use Rattle.std.specs.Prelude.{◌≡◌, ℕ, List, [], ◌∷◌, ◌++◌, Option, Some, None}
use Rattle.tg_bytes.specs.Ascii.{line_feed}
use Rattle.hex.specs.Hex.{encode_lower}
use Rattle.tg_cid.specs.Cid.{CidParts}
use Rattle.tg_cid.specs.Spelling.{CidBytes, CidText}
use Rattle.tg_streams.specs.Streams.{Output, PutFront}
use Rattle.tg_commands.specs.Lines.{PutAll}
use Rattle.tg_commands.specs.Blocks.{OutputUntouched}
use Rattle.tg_commands.specs.declared.fault.CommandFault.{CommandFault}
use Rattle.tg_commands.specs.declared.fault.CommandFault.TheVariants.{SinkFault, OutOfMemory}

-- the CID's bytes in lower-case hexadecimal, and a line feed
pub record HexLine (cid : CidParts) (line : List ℕ) : Type 0 where
  pub bytes : List ℕ
  pub bytes_are : CidBytes cid bytes
  pub line_is : line ≡ encode_lower bytes ++ line_feed ∷ []

-- the text of the CID in version 1, and a line feed
pub record TextLine (cid : CidParts) (line : List ℕ) : Type 0 where
  pub text : List ℕ
  pub text_is : CidText (record cid { version = 1 }) text
  pub line_is : line ≡ text ++ line_feed ∷ []

-- such a line went to out, or a front of it did before out failed
pub record PutsLine (IsLine : List ℕ → Type 0) (out : Output) : Type 0 where
  pub line : List ℕ
  pub line_is : IsLine line
  pub put : PutAll line out

pub record PutsFront (IsLine : List ℕ → Type 0) (out : Output) : Type 0 where
  pub line : List ℕ
  pub line_is : IsLine line
  pub front : PutFront line out

-- how a command ends that prints such a line
abbrev pub PrintEnds : (List ℕ → Type 0) → Output → Option CommandFault → Type 0
PrintEnds IsLine out None = PutsLine IsLine out
PrintEnds IsLine out (Some SinkFault) = PutsFront IsLine out
PrintEnds IsLine out (Some OutOfMemory) = OutputUntouched out
PrintEnds IsLine out (Some other) = ⊥
