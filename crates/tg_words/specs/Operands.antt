-- What the reader of a command's operands keeps and answers, and how faults of the crates below are faults of words.
use Rattle.std.specs.Prelude.{◌≡◌, ◌≢◌, ℕ, ◌≤◌, All, Bool, List, [], ◌∷◌, map, find, codes, Option, Some, None, option_map}
use Rattle.std.specs.Prelude.{option_and_then, Result, MatchResult, IfOk, false, length, true, ◌||◌}
use Rattle.std.specs.List.{list_all, list_any}
use Rattle.std.specs.Option.{unwrap_or}
use Rattle.std.specs.Str.{bytes_eq}
use Rattle.std.specs.Str.Parse.{IsNumeral, digits_value}
use Rattle.hex.specs.declared.error.FromHexError.{FromHexError}
use Rattle.hex.specs.declared.error.FromHexError.TheVariants as hex
use Rattle.tg_cid.specs.declared.fault.CidFault.{CidFault}
use Rattle.tg_cid.specs.declared.fault.CidFault.TheVariants as cids
use Rattle.tg_cid.specs.Limits.{max_block_len}
use Rattle.tg_words.specs.declared.Command.{Command}
use Rattle.tg_words.specs.declared.Command.TheVariants.{Fetch, FetchInto, Verify, VerifyInto}
use Rattle.tg_words.specs.declared.WordsFault.{WordsFault}
use Rattle.tg_words.specs.declared.WordsFault.TheVariants.{Usage, OutOfMemory}
use Rattle.tg_words.specs.declared.operands.GivenOption.{GivenOption}
use Rattle.tg_words.specs.declared.operands.OptionNames.{OptionNames}
use Rattle.tg_cid.specs.Cid.{CidParts}
use Rattle.tg_cid.specs.Spelling.{CidText}
use Rattle.tg_words.specs.CommandLine.{OperandLine, no_names}
use Rattle.tg_model.specs.Queries.{QueryParts}
use Rattle.tg_model.specs.declared.queries.Form.TheVariants.{Car, Raw}
use Rattle.tg_model.specs.declared.queries.Scope.{Scope}
use Rattle.tg_model.specs.declared.queries.Scope.TheVariants as scopes
use Rattle.tg_query.specs.Spans.{SpanText}
use Rattle.tg_query.specs.WordTexts.{WordText}
use Rattle.tg_query.specs.declared.fault.QueryFault.{QueryFault}
use Rattle.tg_query.specs.declared.fault.QueryFault.TheVariants as queries
use Rattle.tg_query.specs.Requests.{IsAddr}
use Rattle.tg_words.specs.AuditLines.{AuditParts}
use Rattle.tg_words.specs.ExportLines.{ExportParts}
use Rattle.tg_words.specs.FetchLines.{FetchParts}
use Rattle.tg_words.specs.ImportLines.{ImportParts, NumberText}
use Rattle.tg_words.specs.IntoLines.{FetchIntoParts, VerifyIntoParts}
use Rattle.tg_words.specs.MirrorLines.{MayRootPack, MirrorParts}
use Rattle.tg_words.specs.QueryWords.{DupsText, ScopeText, dups_for, scope_for}
use Rattle.tg_words.specs.ServeLines.{ServeParts}
use Rattle.tg_words.specs.SwarmLines.{SwarmParts}
use Rattle.tg_words.specs.Words.{Names, Given, WordsSpelling}
use denote.Ref.{Bor}

abbrev pub texts_of : List (Bor (List ℕ)) → List (List ℕ)
texts_of = map (λ text. text.now)

abbrev pub names_of : OptionNames → Names
names_of names = record { valued = texts_of names.valued.now; flags = texts_of names.flags.now }

abbrev pub given : GivenOption → Given
given option = (option.name.now, option_map (λ value. value.now) option.value)

abbrev pub givens : List GivenOption → List Given
givens = map given

-- the value of the first option of this name, where one stands and has a value
abbrev pub value_at : List Given → List ℕ → Option (List ℕ)
value_at options name = option_and_then (λ option. option.1) (find (λ option. bytes_eq option.0 name) options)

-- what is written by a value, where there is one, and nothing where there is none
abbrev pub ValueGives : {A : Type 0} → (List ℕ → A → Type 0) → Option (List ℕ) → Option A → Type 0
ValueGives IsWritten None asked = asked ≡ None
ValueGives IsWritten (Some value) None = ⊥
ValueGives IsWritten (Some value) (Some x) = IsWritten value x

-- an answer is exact: what it should be, and where there is that, it or want of memory
pub record Exact {A : Type 0} (Is : A → Type 0) (answer : Result A WordsFault) : Type 0 where
  pub found : IfOk answer Is
  pub only : (x : A) → Is x → MatchResult answer (λ found. found ≡ x) (λ e. e ≡ OutOfMemory)

-- the query that a word ROOT/PATH and the values of `--scope`, `--bytes` and `--dups` ask
pub record QueryGiven (target : List ℕ) (scope bytes dups_word : Option (List ℕ)) (query : QueryParts) : Type 0 where
  pub word : WordText target query.root query.path
  pub asked : Option Scope
  pub asked_is : ValueGives ScopeText scope asked
  pub span_is : ValueGives SpanText bytes query.span
  pub scope_is : query.scope ≡ scope_for asked query.span
  pub form : query.form ≡ Car
  pub repeats : Option Bool
  pub repeats_are : ValueGives DupsText dups_word repeats
  pub dups : query.dups ≡ dups_for repeats

-- the query that a word ROOT/PATH and these options ask
abbrev pub QueryBy : List ℕ → List Given → QueryParts → Type 0
QueryBy target options =
    QueryGiven target (value_at options (codes "scope")) (value_at options (codes "bytes")) (value_at options (codes "dups"))

-- an export from this pack of what a word ROOT/PATH and these options ask
pub record ExportGiven (pack target : List ℕ) (options : List Given) (parts : ExportParts) : Type 0 where
  pub pack_is : parts.pack ≡ pack
  pub named : pack ≢ []
  pub query : QueryBy target options parts.query

-- the number that a value writes, or the default where there is none; it is from `low` to `high`
pub record NumberGiven (value : Option (List ℕ)) (low high default number : ℕ) : Type 0 where
  pub asked : Option ℕ
  pub asked_is : ValueGives NumberText value asked
  pub number_is : number ≡ unwrap_or asked default
  pub least : low ≤ number
  pub most : number ≤ high

-- an import of this folder into this pack with these options
pub record ImportGiven (folder pack : List ℕ) (options : List Given) (parts : ImportParts) : Type 0 where
  pub folder_is : parts.folder ≡ folder
  pub folder_named : folder ≢ []
  pub pack_is : parts.pack ≡ pack
  pub pack_named : pack ≢ []
  pub chunk : NumberGiven (value_at options (codes "chunk")) 1 max_block_len 1048576 parts.chunk
  pub width : NumberGiven (value_at options (codes "width")) 2 4096 1024 parts.width
  pub shard : NumberGiven (value_at options (codes "shard")) 0 1048576 262144 parts.shard

-- a mirror from a gateway at this address of the DAG below the root with this text, into this pack
pub record MirrorGiven (addr text pack : List ℕ) (parts : MirrorParts) : Type 0 where
  pub addr_is : parts.addr ≡ addr
  pub is_addr : IsAddr addr
  pub root : CidText parts.root text
  pub may : MayRootPack parts.root
  pub pack_is : parts.pack ≡ pack
  pub named : pack ≢ []

-- the number that a value writes, which must stand; it is from `low` to `high`
pub record NumberNeeded (value : Option (List ℕ)) (low high number : ℕ) : Type 0 where
  pub asked : ValueGives NumberText value (Some number)
  pub least : low ≤ number
  pub most : number ≤ high

-- a gateway over this pack with these options
pub record ServeGiven (pack : List ℕ) (options : List Given) (parts : ServeParts) : Type 0 where
  pub pack_is : parts.pack ≡ pack
  pub named : pack ≢ []
  pub port : NumberNeeded (value_at options (codes "port")) 0 65535 parts.port
  pub count : NumberNeeded (value_at options (codes "count")) 1 1000000 parts.count
  pub lanes : NumberGiven (value_at options (codes "lanes")) 1 64 1 parts.lanes

-- a swarm for the file under the root with the first of these texts, of gateways at the others, with these options
pub record SwarmGiven (texts : List (List ℕ)) (options : List Given) (parts : SwarmParts) : Type 0 where
  pub text : List ℕ
  pub texts_are : texts ≡ text ∷ parts.addrs
  pub root : CidText parts.root text
  pub addrs : All IsAddr parts.addrs
  pub some : 1 ≤ length parts.addrs
  pub most : length parts.addrs ≤ 16
  pub part : NumberGiven (value_at options (codes "part")) 1 16777216 4194304 parts.part

-- the block of a root that a word names without a path, where no other option stands
pub record RawGiven (target : List ℕ) (options : List Given) (query : QueryParts) : Type 0 where
  pub few : length options ≤ 1
  pub word : WordText target query.root []
  pub query_is : query ≡ record { root = query.root; path = []; form = Raw; scope = scopes.Block; span = None; dups = true }

-- what a word and these options ask, by whether `--raw` stands
abbrev pub is_raw : Given → Bool
is_raw option = bytes_eq option.0 (codes "raw")

abbrev pub FetchAskedBy : Bool → List ℕ → List Given → QueryParts → Type 0
FetchAskedBy true target options query = RawGiven target options query
FetchAskedBy false target options query = QueryBy target options query

abbrev pub FetchBy : List ℕ → List Given → QueryParts → Type 0
FetchBy target options query = FetchAskedBy (list_any is_raw options) target options query

-- one to five digits that write a port from 1 to 65,535
pub record PortText (text : List ℕ) : Type 0 where
  pub digits : IsNumeral 10 text
  pub at_most_five : length text ≤ 5
  pub not_zero : 1 ≤ digits_value 10 text
  pub fits : digits_value 10 text ≤ 65535

-- what is fetched from a gateway at this address
pub record FetchGiven (addr target : List ℕ) (options : List Given) (parts : FetchParts) : Type 0 where
  pub addr_is : parts.addr ≡ addr
  pub is_addr : IsAddr addr
  pub query : FetchBy target options parts.query

-- the query for all below what a word names, where no option stands but `--into` and `--dups`
abbrev pub is_into : Given → Bool
is_into option = bytes_eq option.0 (codes "into") || bytes_eq option.0 (codes "dups")

pub record IntoBy (target : List ℕ) (options : List Given) (query : QueryParts) : Type 0 where
  pub others : list_all is_into options ≡ true
  pub word : WordText target query.root query.path
  pub form : query.form ≡ Car
  pub scope_is : query.scope ≡ scopes.All
  pub span_is : query.span ≡ None
  pub repeats : Option Bool
  pub repeats_are : ValueGives DupsText (value_at options (codes "dups")) repeats
  pub dups : query.dups ≡ dups_for repeats

-- what is made into this folder
pub record VerifyIntoGiven (target folder : List ℕ) (options : List Given) (parts : VerifyIntoParts) : Type 0 where
  pub folder_is : parts.folder ≡ folder
  pub named : folder ≢ []
  pub query : IntoBy target options parts.query

-- what is fetched into this folder from a gateway at this address
pub record FetchIntoGiven (addr target folder : List ℕ) (options : List Given) (parts : FetchIntoParts) : Type 0 where
  pub addr_is : parts.addr ≡ addr
  pub is_addr : IsAddr addr
  pub folder_is : parts.folder ≡ folder
  pub named : folder ≢ []
  pub query : IntoBy target options parts.query

-- the command is made of such parts
abbrev pub Made : {Parts : Type 0} → (Parts → Command) → (Parts → Type 0) → Command → Type 0
Made {Parts = Parts} make Is command = (parts : Parts) × (command ≡ make parts) × Is parts

-- what the words and options of `verify` ask, by the folder that `--into` names, and so of `fetch`
abbrev pub VerifyAsksBy : Option (List ℕ) → List ℕ → List Given → Command → Type 0
VerifyAsksBy None target options = Made Verify (QueryBy target options)
VerifyAsksBy (Some folder) target options = Made VerifyInto (VerifyIntoGiven target folder options)

abbrev pub VerifyAsks : List ℕ → List Given → Command → Type 0
VerifyAsks target options = VerifyAsksBy (value_at options (codes "into")) target options

abbrev pub FetchAsksBy : Option (List ℕ) → List ℕ → List ℕ → List Given → Command → Type 0
FetchAsksBy None addr target options = Made Fetch (FetchGiven addr target options)
FetchAsksBy (Some folder) addr target options = Made FetchInto (FetchIntoGiven addr target folder options)

abbrev pub FetchAsks : List ℕ → List ℕ → List Given → Command → Type 0
FetchAsks addr target options = FetchAsksBy (value_at options (codes "into")) addr target options

-- an audit with these options
pub record AuditGiven (options : List Given) (parts : AuditParts) : Type 0 where
  pub seed : NumberNeeded (value_at options (codes "seed")) 0 18446744073709551615 parts.seed
  pub files : NumberNeeded (value_at options (codes "files")) 1 20000 parts.files

-- the words are one CID and no options
pub record OneCid (words : List (List ℕ)) (cid : CidParts) : Type 0 where
  pub text : List ℕ
  pub operands : WordsSpelling no_names words (text ∷ []) []
  pub text_is : CidText cid text

-- the answer to words is exact: a command that they spell by its operands, and the one that they spell unless memory is wanted
pub record Answers (words : List (List ℕ)) (answer : Result Command WordsFault) : Type 0 where
  pub found : IfOk answer (λ command. OperandLine words command)
  pub only : (command : Command) → OperandLine words command
      → MatchResult answer (λ found. found ≡ command) (λ e. e ≡ OutOfMemory)

-- want of memory stays so, and every other fault is one of usage
abbrev pub fault_of_cid : CidFault → WordsFault
fault_of_cid cids.OutOfMemory = OutOfMemory
fault_of_cid cids.BadText = Usage
fault_of_cid (cids.BadVersion number) = Usage
fault_of_cid (cids.BadCodec number) = Usage
fault_of_cid (cids.BadHash number) = Usage
fault_of_cid (cids.BadLength number) = Usage
fault_of_cid (cids.Trailing at) = Usage
fault_of_cid (cids.Short at) = Usage
fault_of_cid (cids.BadVarint at) = Usage

abbrev pub fault_of_hex : FromHexError → WordsFault
fault_of_hex hex.OutOfMemory = OutOfMemory
fault_of_hex (hex.InvalidHexCharacter c index) = Usage
fault_of_hex hex.OddLength = Usage
fault_of_hex hex.InvalidStringLength = Usage

abbrev pub fault_of_query : QueryFault → WordsFault
fault_of_query queries.OutOfMemory = OutOfMemory
fault_of_query queries.BadPath = Usage
fault_of_query (queries.BadCid inner) = Usage
fault_of_query queries.NoFormat = Usage
fault_of_query queries.BadFormat = Usage
fault_of_query queries.BadScope = Usage
fault_of_query queries.BadRange = Usage
fault_of_query queries.Doubled = Usage
fault_of_query queries.BadParam = Usage
fault_of_query queries.RawPath = Usage
