-- No fault of a crate below that a fault of a block carries is want of memory.
use Rattle.std.proofs.Common.{◌≡◌, ◌≢◌, ℕ, ◌+◌, ◌↔◌, inl, inr, Bool, true, false, Option, Some, None, Result, Ok, Err, List, [], ◌∷◌, refl, subst}
use Rattle.std.specs.Prelude.{⊤, All, slice_range, if◌then◌else◌, ◌<◌}
use Rattle.tg_cid.specs.Cid.{CidParts}
use Rattle.tg_cid.specs.declared.cid.Codec.{Codec}
use Rattle.tg_cid.specs.declared.cid.Codec.TheVariants as codecs
use Rattle.tg_dagpb.specs.Computed.{node_of}
use Rattle.tg_dagpb.specs.Faults.{HasNodeCause}
use Rattle.tg_dagpb.specs.Node.{NodeText}
use Rattle.tg_dagpb.specs.declared.TheConstants.{LINK}
use Rattle.tg_dagpb.specs.declared.Link.{Link}
use Rattle.tg_dagpb.specs.declared.Node.{Node}
use Rattle.tg_model.proofs.BlockKinds.{node_found}
use Rattle.tg_model.proofs.LinkCids.{AreBytes, node_payload}
use Rattle.tg_model.specs.Computed.{cid_or_fault, cids_from, kind_by, node_or_fault, read, read_node, read_under, slots_from, unix_or_fault, unix_with_fault, unless, unless_at, ◌>>=◌}
use Rattle.tg_model.specs.InnerFaults.{IsNoWantOfMemory}
use Rattle.tg_model.specs.declared.fault.BlockFault.{BlockFault}
use Rattle.tg_model.specs.declared.kinds.Kind.{Kind}
use Rattle.tg_pbtable.specs.Faults.{HasCause, moved_by}
use Rattle.tg_pbtable.specs.declared.table.Rule.{Rule}
use Rattle.tg_pbtable.specs.declared.fault.PbFault.{PbFault}
use Rattle.tg_pbtable.specs.declared.fault.PbFault.TheVariants as pb
use Rattle.tg_pbtable.specs.declared.table.Order.TheVariants.{Ascending}
use Rattle.tg_unixfs.specs.Computed.{unix_of}
use Rattle.tg_unixfs.specs.Faults.{HasUnixCause}
use Rattle.tg_unixfs.specs.declared.TheConstants.{TIME}
use Rattle.tg_unixfs.specs.declared.Unix.{Unix}
use Rattle.tg_unixfs.specs.declared.UnixFault.{UnixFault}
use Rattle.tg_unixfs.specs.declared.UnixFault.TheVariants as unixfs

-- a result that isn't a fault that stands for want of memory
abbrev NoWant : {A : Type 0} → Result A BlockFault → Type 0
NoWant (Ok x) = ⊤
NoWant (Err fault) = IsNoWantOfMemory fault

-- one step after another
no_want_after : {A B : Type 0} (result : Result A BlockFault) (next : A → Result B BlockFault) → NoWant result → ((x : A) → result ≡ Ok x → NoWant (next x)) → NoWant (result >>= next)
no_want_after (Ok x) next h then_none = then_none x refl
no_want_after (Err fault) next h then_none = h

no_want_unless : {A : Type 0} (test : Bool) (fault : BlockFault) (result : Result A BlockFault) → IsNoWantOfMemory fault → NoWant result → NoWant (unless test fault result)
no_want_unless true fault result h rest = h
no_want_unless false fault result h rest = rest

no_want_unless_at : {A : Type 0} (at : Option ℕ) (fault : ℕ → BlockFault) (result : Result A BlockFault) → ((i : ℕ) → IsNoWantOfMemory (fault i)) → NoWant result → NoWant (unless_at at fault result)
no_want_unless_at None fault result h rest = rest
no_want_unless_at (Some at) fault result h rest = h at

no_want_either : {A : Type 0} (test : Bool) (a b : Result A BlockFault) → NoWant a → NoWant b → NoWant (if test then a else b)
no_want_either true a b h g = h
no_want_either false a b h g = g

-- ---- the crates below

-- no cause of a text inside another one, wherever it stands, is want of memory
moved_cause : (rules : List Rule) (text : List ℕ) (start : ℕ) (cause : PbFault) → HasCause rules Ascending text cause → pb.OutOfMemory ≡ moved_by start cause → ⊥
moved_cause rules text start pb.OutOfMemory h e = h
moved_cause rules text start _ h e = cc

-- nor is one of a node's text
node_cause : (text : List ℕ) → HasNodeCause text pb.OutOfMemory → ⊥
node_cause text (inl h) = h
node_cause text (inr h) = moved_cause LINK.now (slice_range text h.start h.end) h.start h.cause h.cause_is h.fault_is

-- the first faults of nodes and of UnixFS data have their causes
pub record CausedFaults : Type 0 where
  pub node : (text : List ℕ) (fault : PbFault) → AreBytes text → (node_of text ≡ Err fault) ↔ HasNodeCause text fault
  pub found : (text : List ℕ) (node : Node) → AreBytes text → (node_of text ≡ Ok node) ↔ NodeText node text
  pub unix : (text : List ℕ) (fault : UnixFault) → AreBytes text → (unix_of text ≡ Err fault) ↔ HasUnixCause text fault

-- a node or its fault
node_no_want : (text : List ℕ) (result : Result Node PbFault) → ((fault : PbFault) → result ≡ Err fault → HasNodeCause text fault) → NoWant (node_or_fault result)
node_no_want text (Ok node) caused = tt
node_no_want text (Err pb.OutOfMemory) caused = node_cause text (caused pb.OutOfMemory refl)
node_no_want text (Err _) caused = λ e. cc

-- UnixFS data or its fault
inner_no_want : (text : List ℕ) (fault : PbFault) → HasUnixCause text (unixfs.Pb fault) → unixfs.Pb fault ≢ unixfs.Pb pb.OutOfMemory
inner_no_want text pb.OutOfMemory h e = h
inner_no_want text _ h e = cc

time_no_want : (text : List ℕ) (fault : PbFault) → HasUnixCause text (unixfs.BadTime fault) → unixfs.BadTime fault ≢ unixfs.BadTime pb.OutOfMemory
time_no_want text pb.OutOfMemory h e = moved_cause TIME.now (slice_range text h.start h.end) h.start h.cause h.cause_is h.fault_is
time_no_want text _ h e = cc

unix_no_want : (text : List ℕ) (result : Result Unix UnixFault) → ((fault : UnixFault) → result ≡ Err fault → HasUnixCause text fault) → NoWant (unix_with_fault result)
unix_no_want text (Ok unix) caused = tt
unix_no_want text (Err (unixfs.Pb fault)) caused = ((λ e. cc), inner_no_want text fault (caused (unixfs.Pb fault) refl), λ e. cc)
unix_no_want text (Err (unixfs.BadTime fault)) caused = ((λ e. cc), (λ e. cc), time_no_want text fault (caused (unixfs.BadTime fault) refl))
unix_no_want text (Err unixfs.OutOfMemory) caused = caused unixfs.OutOfMemory refl
unix_no_want text (Err _) caused = ((λ e. cc), (λ e. cc), λ e. cc)

-- the data of a node's payload
payload_no_want : CausedFaults → (links : List Link) (payload : Option (List ℕ)) (block : List ℕ) → AreBytes block → NodeText (record { links = links; payload = payload }) block
    → NoWant (unix_or_fault payload)
payload_no_want laws links None block are text = tt
payload_no_want laws links (Some payload) block are text =
    unix_no_want payload (unix_of payload) (λ fault. (laws.unix payload fault (node_payload links payload block are text)).0)

-- ---- the steps of this crate

cid_no_want : (at : ℕ) (cid : Option CidParts) → NoWant (cid_or_fault at cid)
cid_no_want at None = tt
cid_no_want at (Some cid) = tt

cids_no_want : (at : ℕ) (links : List Link) → NoWant (cids_from at links)
cids_no_want at [] = tt
cids_no_want at (link ∷ links) = search (no_want_after, cid_no_want, cids_no_want (at + 1) links)

slots_no_want : (at : ℕ) (numbers : List ℕ) (links : List Link) (cids : List CidParts) → NoWant (slots_from at numbers links cids)
slots_no_want at (number ∷ numbers) (link ∷ links) (cid ∷ cids) = search (no_want_unless, no_want_after, slots_no_want (at + 1) numbers links cids)
slots_no_want at _ _ _ = tt

-- the kinds by the type of the data
kind_no_want : (type : ℕ) (links : List Link) (cids : List CidParts) (unix : Unix) → NoWant (kind_by type links cids unix)
kind_no_want type links cids unix = search (no_want_either, no_want_unless, no_want_unless_at, no_want_after, slots_no_want) depth 9

-- a node
read_no_want : CausedFaults → (block : List ℕ) (node : Node) → AreBytes block → NodeText node block → NoWant (read_node node)
read_no_want laws block node are text = search (no_want_after, cids_no_want, payload_no_want laws node.links node.payload block are text, kind_no_want)

traverse_no_want : CausedFaults → (codec : Codec) (block : List ℕ) → AreBytes block → NoWant (read_under codec block)
traverse_no_want laws codecs.Raw block are = tt
traverse_no_want laws codecs.DagPb block are =
    no_want_after (node_or_fault (node_of block)) read_node
    (node_no_want block (node_of block) (λ fault. (laws.node block fault are).0))
    (λ node e. read_no_want laws block node are ((laws.found block node are).0 (node_found (node_of block) node e)))

fault_no_want : (result : Result Kind BlockFault) (fault : BlockFault) → NoWant result → result ≡ Err fault → IsNoWantOfMemory fault
fault_no_want (Ok kind) fault h e = absurd (cc)
fault_no_want (Err other) fault h e = let same : other ≡ fault = cc in subst IsNoWantOfMemory same h

-- no first fault of a block of bytes is want of memory
pub no_want_of_memory : CausedFaults → (cid : CidParts) (block : List ℕ) (fault : BlockFault) → All (λ (b : ℕ). b < 256) block → read cid block ≡ Err fault → IsNoWantOfMemory fault
no_want_of_memory laws cid block fault are e = fault_no_want (read cid block) fault (traverse_no_want laws cid.codec block are) e
