-- What `node` writes of a block, and why there is nothing to write.
use Rattle.std.specs.Prelude.{◌≡◌, ℕ, List, [], ◌∷◌, ◌++◌, length, codes, decimal, Option, Some, None, Result, Err}
use Rattle.std.specs.Prelude.{IfOk, IfErr, MatchResult, ◌⊎◌, Contains, All, ⊤}
use Rattle.std.specs.List.{flat_map}
use Rattle.tg_cid.specs.Cid.{CidParts}
use Rattle.tg_cid.specs.Spelling.{CidBytes, CidText}
use Rattle.tg_cid.specs.declared.cid.Codec.{Codec}
use Rattle.tg_cid.specs.declared.cid.Codec.TheVariants.{Raw, DagPb}
use Rattle.tg_pbtable.specs.declared.fault.PbFault.{PbFault}
use Rattle.tg_pbtable.specs.declared.fault.PbFault.TheVariants as pb
use Rattle.tg_dagpb.specs.declared.Link.{Link}
use Rattle.tg_dagpb.specs.declared.Node.{Node}
use Rattle.tg_dagpb.specs.Node.{NodeText}
use Rattle.tg_dagpb.specs.Faults.{HasNodeCause}
use Rattle.tg_unixfs.specs.declared.Unix.{Unix}
use Rattle.tg_unixfs.specs.declared.UnixFault.{UnixFault}
use Rattle.tg_unixfs.specs.declared.UnixFault.TheVariants as unixfs
use Rattle.tg_unixfs.specs.Unix.{UnixText}
use Rattle.tg_unixfs.specs.Faults.{HasUnixCause}
use Rattle.tg_model.specs.Texts.{escaped}
use Rattle.tg_node.specs.declared.fault.NodeFault.{NodeFault}
use Rattle.tg_node.specs.declared.fault.NodeFault.TheVariants.{BadNode, BadLink, BadUnix}
use Rattle.tg_node.specs.declared.fault.TextFault.{TextFault}
use Rattle.tg_node.specs.declared.fault.TextFault.TheVariants.{Block, OutOfMemory}

-- an absent number is `-`; so is an absent name, and another is `=` and the name escaped
abbrev pub number_text : Option ℕ → List ℕ
number_text None = codes "-"
number_text (Some number) = decimal number

abbrev pub name_text : Option (List ℕ) → List ℕ
name_text None = codes "-"
name_text (Some name) = codes "=" ++ escaped name

-- words and the number behind them; and a line of them
abbrev pub labelled : List ℕ → Option ℕ → List ℕ
labelled words number = words ++ number_text number

abbrev pub count_line : List ℕ → ℕ → List ℕ
count_line words number = words ++ (decimal number ++ 10 ∷ [])

-- `link CID TSIZE NAME`
abbrev pub link_line : List ℕ → Link → List ℕ
link_line shown link =
    codes "link " ++ (shown ++ (labelled (codes " ") link.tsize ++ (codes " " ++ (name_text link.name ++ 10 ∷ []))))

-- the line of a link, with the text of the CID that its hash is
pub record LinkLine (link : Link) (line : List ℕ) : Type 0 where
  pub cid : CidParts
  pub shown : List ℕ
  pub hash_is : CidBytes cid link.hash
  pub shown_is : CidText (record cid { version = 1 }) shown
  pub line_is : line ≡ link_line shown link

-- the lines of links in order
abbrev pub LinkLines : List Link → List ℕ → Type 0
LinkLines [] lines = lines ≡ []
LinkLines (link ∷ links) lines =
    (line : List ℕ) × (rest : List ℕ) × LinkLine link line × (lines ≡ line ++ rest) × LinkLines links rest

-- `unix KIND filesize N inline N sizes N hash N fanout N`, where the number behind `inline` is the length of the inline
-- bytes; and a line `size N` for each blocksize
abbrev pub inline_length : Option (List ℕ) → Option ℕ
inline_length None = None
inline_length (Some bytes) = Some (length bytes)

abbrev pub unix_line : Unix → List ℕ
unix_line unix =
    labelled (codes "unix ") (Some unix.kind) ++ (labelled (codes " filesize ") unix.filesize
    ++ (labelled (codes " inline ") (inline_length unix.inline) ++ (labelled (codes " sizes ") (Some (length unix.sizes))
    ++ (labelled (codes " hash ") unix.hash ++ (labelled (codes " fanout ") unix.fanout ++ 10 ∷ [])))))

abbrev pub size_line : ℕ → List ℕ
size_line size = count_line (codes "size ") size

abbrev pub unix_lines : Unix → List ℕ
unix_lines unix = unix_line unix ++ flat_map size_line unix.sizes

-- the lines of the payload
pub record UnixLines (payload lines : List ℕ) : Type 0 where
  pub unix : Unix
  pub unix_is : UnixText unix payload
  pub lines_are : lines ≡ count_line (codes "payload ") (length payload) ++ unix_lines unix

abbrev pub PayloadLines : Option (List ℕ) → List ℕ → Type 0
PayloadLines None lines = lines ≡ codes "payload -" ++ 10 ∷ []
PayloadLines (Some payload) lines = UnixLines payload lines

-- the lines of a node
pub record LinesOfNode (node : Node) (lines : List ℕ) : Type 0 where
  pub links_text : List ℕ
  pub payload_text : List ℕ
  pub links : LinkLines node.links links_text
  pub payload : PayloadLines node.payload payload_text
  pub whole : lines ≡ count_line (codes "links ") (length node.links) ++ (links_text ++ payload_text)

-- the block is a node's, and these are its lines
pub record NodeLines (block lines : List ℕ) : Type 0 where
  pub node : Node
  pub node_is : NodeText node block
  pub lines_are : LinesOfNode node lines

-- what `node` writes of a block under a codec
abbrev pub IsTextUnder : Codec → List ℕ → List ℕ → Type 0
IsTextUnder Raw block lines = lines ≡ count_line (codes "raw ") (length block)
IsTextUnder DagPb block lines = NodeLines block lines

abbrev pub IsNodeTextOf : CidParts → List ℕ → List ℕ → Type 0
IsNodeTextOf cid block lines = IsTextUnder cid.codec block lines

-- the bytes are a CID's; some link's hash isn't
abbrev pub IsCid : List ℕ → Type 0
IsCid bytes = (cid : CidParts) × CidBytes cid bytes

pub record HasBadHash (links : List Link) : Type 0 where
  pub link : Link
  pub among : Contains links link
  pub none : IsCid link.hash → ⊥

-- there is a payload, and it is no UnixFS data
pub record HasBadPayload (payload : Option (List ℕ)) : Type 0 where
  pub bytes : List ℕ
  pub payload_is : payload ≡ Some bytes
  pub fault : UnixFault
  pub cause : HasUnixCause bytes fault

-- why a node has no lines: the links come before the payload
abbrev pub HasNoLines : Node → NodeFault → Type 0
HasNoLines node BadNode = ⊥
HasNoLines node BadLink = HasBadHash node.links
HasNoLines node BadUnix = All (λ link. IsCid link.hash) node.links × HasBadPayload node.payload

-- why a block under a DAG-PB CID has no lines
pub record OfNode (block : List ℕ) (fault : NodeFault) : Type 0 where
  pub node : Node
  pub node_is : NodeText node block
  pub cause : HasNoLines node fault

abbrev pub HasDagPbCause : List ℕ → NodeFault → Type 0
HasDagPbCause block BadNode = (fault : PbFault) × HasNodeCause block fault
HasDagPbCause block BadLink = OfNode block BadLink
HasDagPbCause block BadUnix = OfNode block BadUnix

abbrev pub HasNodeTextCause : CidParts → List ℕ → NodeFault → Type 0
HasNodeTextCause cid block fault = (cid.codec ≡ DagPb) × HasDagPbCause block fault

-- why links have no lines; why a payload has none, so that there are none; and why a node has none
abbrev pub HasLinkCause : List Link → NodeFault → Type 0
HasLinkCause links BadNode = ⊥
HasLinkCause links BadLink = HasBadHash links
HasLinkCause links BadUnix = ⊥

abbrev pub HasPayloadCause : Option (List ℕ) → NodeFault → Type 0
HasPayloadCause payload BadNode = ⊥
HasPayloadCause payload BadLink = ⊥
HasPayloadCause payload BadUnix = HasBadPayload payload × ((lines : List ℕ) → PayloadLines payload lines → ⊥)

abbrev pub HasLinesCause : Node → NodeFault → Type 0
HasLinesCause node BadNode = ⊥
HasLinesCause node BadLink = HasBadHash node.links
HasLinesCause node BadUnix = All (λ link. IsCid link.hash) node.links × HasPayloadCause node.payload BadUnix

-- the cause of a fault holds; none is asked for want of memory
abbrev pub IsCaused : (NodeFault → Type 0) → TextFault → Type 0
IsCaused HasCause (Block fault) = HasCause fault
IsCaused HasCause OutOfMemory = ⊤

-- the answer is exact: a text, and the only one; or a fault whose cause holds; and where a text or a cause is, no other
-- answer comes but want of memory
pub record Exact (IsText : List ℕ → Type 0) (HasCause : NodeFault → Type 0) (answer : Result (List ℕ) TextFault) : Type 0 where
  pub found : IfOk answer IsText
  pub only : (text : List ℕ) → IsText text → MatchResult answer (λ found. found ≡ text) (λ e. e ≡ OutOfMemory)
  pub cause : IfErr answer (IsCaused HasCause)
  pub given : (fault : NodeFault) → HasCause fault → (answer ≡ Err (Block fault)) ⊎ (answer ≡ Err OutOfMemory)

-- how the faults of the crates below are faults of the text
abbrev pub fault_of_pb : PbFault → TextFault
fault_of_pb (pb.Short at) = Block BadNode
fault_of_pb (pb.BadVarint at) = Block BadNode
fault_of_pb (pb.Unknown at number) = Block BadNode
fault_of_pb (pb.WrongWire at) = Block BadNode
fault_of_pb (pb.OutOfOrder at) = Block BadNode
fault_of_pb (pb.Doubled at) = Block BadNode
fault_of_pb (pb.Missing number) = Block BadNode
fault_of_pb pb.OutOfMemory = OutOfMemory

abbrev pub fault_of_unix : UnixFault → TextFault
fault_of_unix (unixfs.Pb fault) = Block BadUnix
fault_of_unix (unixfs.BadTime fault) = Block BadUnix
fault_of_unix (unixfs.BadKind number) = Block BadUnix
fault_of_unix (unixfs.BadHash number) = Block BadUnix
fault_of_unix (unixfs.BadFanout number) = Block BadUnix
fault_of_unix unixfs.OutOfMemory = OutOfMemory
