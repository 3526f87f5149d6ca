-- How a command ends: done, or refused; its exit status, and its line on err.
use Rattle.std.specs.Prelude.{ℕ, List, [], ◌∷◌, ◌++◌, codes, decimal, Option, Some, None, Result, Ok, Err}
use Rattle.tg_bytes.specs.Ascii.{line_feed, space}
use Rattle.tg_streams.specs.Streams.{Output, Put, PutFront, PutOrFront, OutputQuiet}
use Rattle.tg_commands.specs.Blocks.{OutputUntouched}
use Rattle.tg_words.specs.declared.WordsFault.{WordsFault}
use Rattle.tg_words.specs.declared.WordsFault.TheVariants as words
use Rattle.tg_node.specs.declared.fault.NodeFault.{NodeFault}
use Rattle.tg_node.specs.declared.fault.NodeFault.TheVariants.{BadNode, BadLink, BadUnix}
use Rattle.tg_commands.specs.declared.fault.CommandFault.{CommandFault}
use Rattle.tg_commands.specs.declared.fault.CommandFault.TheVariants.{Usage, BadDigest, BadBlock, BlockLimit, InputFault}
use Rattle.tg_commands.specs.declared.fault.CommandFault.TheVariants.{SinkFault, OutOfMemory, PackFault, FolderFault, NotCar}
use Rattle.tg_commands.specs.declared.fault.CommandFault.TheVariants.{BadPack, Unfinished, TornPack, PackLimit, WrongBlock}
use Rattle.tg_commands.specs.declared.fault.CommandFault.TheVariants.{BadReceived, BadSize, Truncated, Extra, BadCar, Limit}
use Rattle.tg_commands.specs.declared.fault.CommandFault.TheVariants.{NoRoot, NotThere, NotFolder, BadStored, Gone, Changed}
use Rattle.tg_commands.specs.declared.fault.CommandFault.TheVariants.{TooDeep, DeepFolder, BadName, LongName, SameHash}
use Rattle.tg_commands.specs.declared.fault.CommandFault.TheVariants.{BadFraming, BadReplyHead, BadType, DoorFault, NotPlain, PeerFault}
use Rattle.tg_commands.specs.declared.fault.CommandFault.TheVariants.{BadRoot, Differs, NoPeerLeft, NotFile, Status, StoreFault, TooBig}
use Rattle.tg_model.specs.declared.fault.BlockFault.{BlockFault}
use Rattle.tg_model.specs.declared.fault.BlockFault.TheVariants as blocks
use Rattle.tg_model.specs.declared.limits.LimitKind.{LimitKind}
use Rattle.tg_model.specs.declared.limits.LimitKind.TheVariants as kinds

abbrev pub refusal_of : WordsFault → CommandFault
refusal_of words.Usage = Usage
refusal_of words.OutOfMemory = OutOfMemory

-- the end of a command by its answer: none is a refusal where it is done
abbrev pub end_of : {T : Type 0} → Result T CommandFault → Option CommandFault
end_of (Ok done) = None
end_of (Err refusal) = Some refusal

abbrev pub status_of : CommandFault → ℕ
status_of Usage = 2
status_of (BadDigest cid) = 3
status_of (BadBlock cid fault) = 3
status_of (WrongBlock want got) = 3
status_of (BadReceived cid fault) = 3
status_of (BadSize declared actual) = 3
status_of (Truncated want sections) = 3
status_of (Extra sections) = 3
status_of BadCar = 3
status_of (Limit kind number) = 7
status_of BlockLimit = 7
status_of InputFault = 6
status_of SinkFault = 6
status_of OutOfMemory = 8
status_of PackFault = 6
status_of FolderFault = 6
status_of (NotCar at) = 6
status_of (BadPack at) = 6
status_of Unfinished = 6
status_of (TornPack at) = 6
status_of (PackLimit at) = 7
status_of NoRoot = 9
status_of (NotThere segment) = 9
status_of (NotFolder segment) = 9
status_of (BadStored cid fault) = 6
status_of (Gone cid) = 6
status_of Changed = 6
status_of TooDeep = 7
status_of (DeepFolder path) = 7
status_of (BadName path) = 6
status_of (LongName path) = 7
status_of (SameHash names) = 6
status_of (NotPlain path) = 6
status_of (TooBig path) = 7
status_of DoorFault = 5
status_of StoreFault = 6
status_of (Status status) = 4
status_of BadType = 3
status_of BadReplyHead = 3
status_of BadFraming = 3
status_of PeerFault = 5
status_of (NoPeerLeft words status) = status
status_of NotFile = 9
status_of (BadRoot fault) = 3
status_of (Differs query) = 3

-- what is at fault of a block, behind its CID
abbrev pub cause_of : NodeFault → List ℕ
cause_of BadNode = codes " BadNode"
cause_of BadLink = codes " BadLink"
cause_of BadUnix = codes " BadUnix"

-- the numbers that the line of a refusal shows, and 0 where it shows none
abbrev pub numbers_in : CommandFault → ℕ × ℕ
numbers_in (NotCar at) = (at, 0)
numbers_in (BadPack at) = (at, 0)
numbers_in (TornPack at) = (at, 0)
numbers_in (PackLimit at) = (at, 0)
numbers_in (NotThere segment) = (segment, 0)
numbers_in (NotFolder segment) = (segment, 0)
numbers_in (Truncated want sections) = (sections, 0)
numbers_in (Extra sections) = (sections, 0)
numbers_in (Limit kind number) = (number, 0)
numbers_in (BadSize declared actual) = (declared, actual)
numbers_in (Status status) = (status, 0)
numbers_in (Differs query) = (query, 0)
numbers_in other = (0, 0)

-- the name of a kind of limit
abbrev pub kind_word : LimitKind → List ℕ
kind_word kinds.Block = codes "Block"
kind_word kinds.Depth = codes "Depth"
kind_word kinds.Entries = codes "Entries"
kind_word kinds.Names = codes "Names"
kind_word kinds.Received = codes "Received"
kind_word kinds.Output = codes "Output"
kind_word kinds.SeenBlocks = codes "SeenBlocks"
kind_word kinds.SeenBytes = codes "SeenBytes"
kind_word kinds.Reused = codes "Reused"

-- why a stored block has no kind or can't stand where it stands, behind its CID
abbrev pub fault_word : BlockFault → List ℕ
fault_word (blocks.BadNode fault) = codes " BadNode"
fault_word (blocks.BadLink at) = codes " BadLink"
fault_word blocks.NoUnix = codes " NoUnix"
fault_word (blocks.BadUnix fault) = codes " BadUnix"
fault_word (blocks.BadSizes links sizes) = codes " BadSizes"
fault_word blocks.HugeSizes = codes " HugeSizes"
fault_word (blocks.BadName at) = codes " BadName"
fault_word (blocks.DoubledName at) = codes " DoubledName"
fault_word (blocks.BadBits bits links) = codes " BadBits"
fault_word (blocks.BadSlot at) = codes " BadSlot"
fault_word blocks.BadShape = codes " BadShape"
fault_word blocks.BelowEight = codes " BelowEight"
fault_word (blocks.Misplaced at) = codes " Misplaced"
fault_word blocks.NotShard = codes " NotShard"
fault_word blocks.NotPart = codes " NotPart"
fault_word blocks.OutOfMemory = codes " OutOfMemory"

-- the refusal's word, and the detail behind it
abbrev pub word_of : CommandFault → List ℕ
word_of Usage = codes "usage"
word_of (BadDigest cid) = codes "BadDigest " ++ cid
word_of (BadBlock cid fault) = codes "BadBlock " ++ (cid ++ cause_of fault)
word_of BlockLimit = codes "Limit Block 2097152"
word_of InputFault = codes "InputFault"
word_of SinkFault = codes "SinkFault"
word_of OutOfMemory = codes "OutOfMemory"
word_of PackFault = codes "PackFault"
word_of FolderFault = codes "FolderFault"
word_of (NotCar at) = codes "NotCar " ++ decimal at
word_of (BadPack at) = codes "BadDigest " ++ decimal at
word_of Unfinished = codes "Unfinished"
word_of (TornPack at) = codes "Truncated " ++ decimal at
word_of (PackLimit at) = codes "BlockLimit " ++ decimal at
word_of (WrongBlock want got) = codes "WrongBlock " ++ (want ++ space ∷ got)
word_of (BadReceived cid fault) = codes "BadBlock " ++ (cid ++ fault_word fault)
word_of (BadSize declared actual) = codes "BadSize " ++ (decimal declared ++ space ∷ decimal actual)
word_of (Truncated want sections) = codes "Truncated " ++ (want ++ space ∷ decimal sections)
word_of (Extra sections) = codes "Extra " ++ decimal sections
word_of BadCar = codes "BadCar"
word_of (Limit kind number) = codes "Limit " ++ (kind_word kind ++ space ∷ decimal number)
word_of NoRoot = codes "NoRoot"
word_of (NotThere segment) = codes "NotThere " ++ decimal segment
word_of (NotFolder segment) = codes "NotFolder " ++ decimal segment
word_of (BadStored cid fault) = codes "BadBlock " ++ (cid ++ fault_word fault)
word_of (Gone cid) = codes "Gone " ++ cid
word_of Changed = codes "Changed"
word_of TooDeep = codes "TooDeep"
word_of (DeepFolder path) = codes "TooDeep " ++ path
word_of (BadName path) = codes "BadName " ++ path
word_of (LongName path) = codes "LongName " ++ path
word_of (SameHash names) = codes "SameHash " ++ names
word_of (NotPlain path) = codes "NotPlain " ++ path
word_of (TooBig path) = codes "TooBig " ++ path
word_of DoorFault = codes "DoorFault"
word_of StoreFault = codes "Store"
word_of (Status status) = codes "Status " ++ decimal status
word_of BadType = codes "BadType"
word_of BadReplyHead = codes "BadReplyHead"
word_of BadFraming = codes "BadFraming"
word_of PeerFault = codes "PeerFault"
word_of (NoPeerLeft words status) = codes "NoPeerLeft" ++ words
word_of NotFile = codes "NotFile"
word_of (BadRoot fault) = codes "BadRoot" ++ fault_word fault
word_of (Differs query) = codes "Differs " ++ decimal query

-- the line: the program's name, the word with its detail, a line feed
abbrev pub line_of : CommandFault → List ℕ
line_of refusal = codes "tgate: " ++ (word_of refusal ++ line_feed ∷ [])

-- the exit status of an end, and what it says on err
abbrev pub exit_status : Option CommandFault → ℕ
exit_status None = 0
exit_status (Some refusal) = status_of refusal

abbrev pub Says : Option CommandFault → Output → Type 0
Says None err = OutputUntouched err
Says (Some refusal) err = PutOrFront (line_of refusal) err

-- these bytes were put, and no fault was counted
pub record PutAll (bytes : List ℕ) (out : Output) : Type 0 where
  pub put : Put bytes out
  pub quiet : OutputQuiet out

-- how it ends to put a text: all of it went to out, or out failed after a front of it
abbrev pub PutEnds : List ℕ → Output → Option CommandFault → Type 0
PutEnds text out None = PutAll text out
PutEnds text out (Some SinkFault) = PutFront text out
PutEnds text out (Some other) = ⊥
