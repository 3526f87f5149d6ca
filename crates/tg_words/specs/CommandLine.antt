-- The grammar of the command line: the commands with their positional words and options.
use Rattle.std.specs.Prelude.{◌≡◌, ◌⊎◌, ℕ, List, [], ◌∷◌, codes, Ok, Option, None, Some}
use Rattle.hex.specs.Hex.{decode_of}
use Rattle.tg_cid.specs.Cid.{CidParts}
use Rattle.tg_cid.specs.Spelling.{CidText, CidBytes}
use Rattle.tg_words.specs.declared.Command.{Command}
use Rattle.tg_words.specs.declared.Command.TheVariants.{Check, Node, CidToHex, CidToText, Export, Import, Verify, Serve, Fetch, Mirror, Swarm, Audit}
use Rattle.tg_words.specs.declared.Command.TheVariants.{FetchInto, Help, VerifyInto, Version}
use Rattle.tg_words.specs.declared.names.CommandName.{CommandName}
use Rattle.tg_words.specs.AuditLines.{AuditLine}
use Rattle.tg_words.specs.ExportLines.{ExportLine}
use Rattle.tg_words.specs.FetchLines.{FetchLine}
use Rattle.tg_words.specs.ImportLines.{ImportLine}
use Rattle.tg_words.specs.IntoLines.{FetchIntoLine, VerifyIntoLine}
use Rattle.tg_words.specs.MirrorLines.{MirrorLine}
use Rattle.tg_words.specs.ServeLines.{ServeLine}
use Rattle.tg_words.specs.SwarmLines.{SwarmLine}
use Rattle.tg_words.specs.VerifyLines.{VerifyLine}
use Rattle.tg_words.specs.Names.{name_text}
use Rattle.tg_words.specs.Words.{Names, Line}

-- the first word is a command's name
pub record BeginsCommand (words : List (List ℕ)) : Type 0 where
  pub name : CommandName
  pub rest : List (List ℕ)
  pub begins : words ≡ name_text name ∷ rest

-- ---- help, and the version

-- the options that ask for help
abbrev pub IsHelpOption : List ℕ → Type 0
IsHelpOption word = (word ≡ codes "--help") ⊎ (word ≡ codes "-h")

-- `help` and the options alone ask for the help of the program; `help COMMAND` and an option behind a command's name for that
-- of the command
pub data HelpLine (words : List (List ℕ)) (topic : Option CommandName) : Type 0 where
  help : words ≡ codes "help" ∷ [] → topic ≡ None → HelpLine words topic
  alone : (word : List ℕ) → words ≡ word ∷ [] → IsHelpOption word → topic ≡ None → HelpLine words topic
  help_of : (name : CommandName) → words ≡ codes "help" ∷ name_text name ∷ [] → topic ≡ Some name → HelpLine words topic
  behind : (name : CommandName) (word : List ℕ) → words ≡ name_text name ∷ word ∷ [] → IsHelpOption word → topic ≡ Some name
      → HelpLine words topic

-- `version` or `--version`
abbrev pub VersionLine : List (List ℕ) → Type 0
VersionLine words = (words ≡ codes "version" ∷ []) ⊎ (words ≡ codes "--version" ∷ [])

-- the words ask for help or for the version by this command
abbrev pub IsTold : List (List ℕ) → Command → Type 0
IsTold words (Help topic) = HelpLine words topic
IsTold words Version = VersionLine words
IsTold words other = ⊥

-- the words ask for neither
pub record AskNoText (words : List (List ℕ)) : Type 0 where
  pub no_help : (topic : Option CommandName) → HelpLine words topic → ⊥
  pub no_version : VersionLine words → ⊥

-- ---- the other commands

-- the options of each command
abbrev pub no_names : Names
no_names = record { valued = []; flags = [] }

abbrev pub cid_names : Names
cid_names = record { valued = codes "hex" ∷ []; flags = [] }

-- `check CID` and `node CID`: the command of this name
pub record OneCidLine (name : List ℕ) (words : List (List ℕ)) (cid : CidParts) : Type 0 where
  pub text : List ℕ
  pub line : Line name no_names words (text ∷ []) []
  pub text_is : CidText cid text

-- `cid CID`
pub record CidLine (words : List (List ℕ)) (cid : CidParts) : Type 0 where
  pub text : List ℕ
  pub line : Line (codes "cid") cid_names words (text ∷ []) []
  pub text_is : CidText cid text

-- `cid --hex HEX`: an even number of hexadecimal digits of either case
pub record CidHexLine (words : List (List ℕ)) (cid : CidParts) : Type 0 where
  pub digits : List ℕ
  pub line : Line (codes "cid") cid_names words [] ((codes "hex", Some digits) ∷ [])
  pub bytes : List ℕ
  pub digits_are : decode_of digits ≡ Ok bytes
  pub bytes_are : CidBytes cid bytes

-- the words spell the command by its operands
abbrev pub OperandLine : List (List ℕ) → Command → Type 0
OperandLine words (Check cid) = OneCidLine (codes "check") words cid
OperandLine words (Node cid) = OneCidLine (codes "node") words cid
OperandLine words (CidToHex cid) = CidLine words cid
OperandLine words (CidToText cid) = CidHexLine words cid
OperandLine words (Export parts) = ExportLine words parts
OperandLine words (Import parts) = ImportLine words parts
OperandLine words (Verify query) = VerifyLine words query
OperandLine words (VerifyInto parts) = VerifyIntoLine words parts
OperandLine words (Serve parts) = ServeLine words parts
OperandLine words (Fetch parts) = FetchLine words parts
OperandLine words (FetchInto parts) = FetchIntoLine words parts
OperandLine words (Mirror parts) = MirrorLine words parts
OperandLine words (Swarm parts) = SwarmLine words parts
OperandLine words (Audit parts) = AuditLine words parts
OperandLine words (Help topic) = ⊥
OperandLine words Version = ⊥

-- the words spell the command: what asks for help or for the version asks for nothing else
abbrev pub CommandLine : List (List ℕ) → Command → Type 0
CommandLine words (Help topic) = HelpLine words topic
CommandLine words Version = VersionLine words
CommandLine words command = AskNoText words × OperandLine words command
