-- A block has at most one kind under a CID, and of a block of bytes it is computed.
use Rattle.std.proofs.Common.{◌≡◌, ℕ, ◌<◌, Option, Some, None, Result, Ok, Err, List, refl, sym, ap, ◌∙◌, subst}
use Rattle.std.specs.Prelude.{All, ◌↔◌}
use Rattle.tg_cid.specs.Cid.{CidParts}
use Rattle.tg_cid.specs.declared.cid.Codec.{Codec}
use Rattle.tg_cid.specs.declared.cid.Codec.TheVariants as codecs
use Rattle.tg_dagpb.specs.Computed.{node_of}
use Rattle.tg_dagpb.specs.Node.{NodeText}
use Rattle.tg_dagpb.specs.declared.Link.{Link}
use Rattle.tg_dagpb.specs.declared.Node.{Node}
use Rattle.tg_model.proofs.ComputedSteps.{after_ok, after_told, ok_same, one_value}
use Rattle.tg_model.proofs.KindTests.{kind_ok, kind_told}
use Rattle.tg_model.proofs.LinkCids.{AreBytes, CidLaw, FrontLaw, cids_count, cids_ok, cids_told, node_hashes, node_payload, one_cids}
use Rattle.tg_model.specs.Computed.{kind_by, node_or_fault, read, read_node, read_under, unix_or_fault, unix_with_fault}
use Rattle.tg_model.specs.Reading.{AreCids, Reads, ReadsNode, ReadsUnder}
use Rattle.tg_model.specs.declared.kinds.Kind.{Kind}
use Rattle.tg_model.specs.declared.kinds.Kind.TheVariants.{Raw}
use Rattle.tg_pbtable.specs.declared.fault.PbFault.{PbFault}
use Rattle.tg_unixfs.specs.Computed.{unix_of}
use Rattle.tg_unixfs.specs.Unix.{UnixText}
use Rattle.tg_unixfs.specs.declared.Unix.{Unix}
use Rattle.tg_unixfs.specs.declared.UnixFault.{UnixFault}
use Rattle.std.proofs.lemmas.Option.{same_Some}

-- ---- one kind

-- the crates below: a text is of one node, of one UnixFS data, and of one CID
pub record OneReading : Type 0 where
  pub one_node : (a b : Node) (text : List ℕ) → NodeText a text → NodeText b text → a ≡ b
  pub one_unix : (a b : Unix) (text : List ℕ) → UnixText a text → UnixText b text → a ≡ b
  pub one_cid : FrontLaw

-- a node block has one kind: its node, CIDs and UnixFS data are determined, and they determine the kind
one_node_kind : OneReading → (block : List ℕ) (a b : Kind) → ReadsNode block a → ReadsNode block b → a ≡ b
one_node_kind laws block a b p q =
    let node : Node = record { links = p.links; payload = Some p.node.payload } in
    let other : Node = record { links = q.links; payload = Some q.node.payload } in
    let nodes = laws.one_node node other block p.node.node q.node.node in
    let links : p.links ≡ q.links = ap (λ (n : Node). n.links) nodes in
    let payload = same_Some p.node.payload q.node.payload (ap (λ (n : Node). n.payload) nodes) in
    let cids = one_cids laws.one_cid q.links p.cids q.cids (subst (λ (ls : List Link). AreCids ls p.cids) links p.node.cids_are) q.node.cids_are in
    let unix = laws.one_unix p.unix q.unix q.node.payload (subst (λ (text : List ℕ). UnixText p.unix text) payload p.node.unix_is) q.node.unix_is in
    let first = kind_ok p.links p.cids p.unix a (cids_count p.links p.cids p.node.cids_are) p.reads in
    let second = kind_ok q.links q.cids q.unix b (cids_count q.links q.cids q.node.cids_are) q.reads in
    let same : kind_by p.unix.kind p.links p.cids p.unix ≡ kind_by q.unix.kind q.links q.cids q.unix =
    ap (λ (ls : List Link). kind_by p.unix.kind ls p.cids p.unix) links
    ∙ ap (λ (cs : List CidParts). kind_by p.unix.kind q.links cs p.unix) cids
    ∙ ap (λ (u : Unix). kind_by u.kind q.links q.cids u) unix in
    one_value a b (sym first ∙ same ∙ second)

-- the same under each codec
one_under : OneReading → (codec : Codec) (block : List ℕ) (a b : Kind) → ReadsUnder codec block a → ReadsUnder codec block b → a ≡ b
one_under laws codecs.Raw block a b p q = p ∙ sym q
one_under laws codecs.DagPb block a b p q = one_node_kind laws block a b p q

-- a block has at most one kind under a CID
pub one_kind : OneReading → (cid : CidParts) (block : List ℕ) (a b : Kind) → Reads cid block a → Reads cid block b → a ≡ b
one_kind laws cid block a b p q = one_under laws cid.codec block a b p q

-- ---- the kind that is computed

-- the crates below: of a text of bytes its node, its UnixFS data or its CID is computed
pub record ComputedReading : Type 0 where
  pub node : (text : List ℕ) (node : Node) → AreBytes text → (node_of text ≡ Ok node) ↔ NodeText node text
  pub unix : (text : List ℕ) (unix : Unix) → AreBytes text → (unix_of text ≡ Ok unix) ↔ UnixText unix text
  pub cid : CidLaw

-- a node that is found without a fault is the computed one
pub node_found : (result : Result Node PbFault) (node : Node) → node_or_fault result ≡ Ok node → result ≡ Ok node
node_found (Ok other) node e = cc
node_found (Err fault) node e = absurd (cc)

-- so is UnixFS data
unix_found : (result : Result Unix UnixFault) (unix : Unix) → unix_with_fault result ≡ Ok unix → result ≡ Ok unix
unix_found (Ok other) unix e = cc
unix_found (Err fault) unix e = absurd (cc)

-- where UnixFS data is found, there is a payload, and it is its
payload_found : (payload : Option (List ℕ)) (unix : Unix) → unix_or_fault payload ≡ Ok unix → (text : List ℕ) × (payload ≡ Some text) × (unix_of text ≡ Ok unix)
payload_found None unix e = absurd (cc)
payload_found (Some text) unix e = (text, refl, unix_found (unix_of text) unix e)

-- a kind that is computed of a node is the one that the relation says
read_node_told : ComputedReading → (block : List ℕ) (node : Node) (kind : Kind) → AreBytes block → NodeText node block → read_node node ≡ Ok kind → ReadsNode block kind
read_node_told laws block node kind are text e =
    let (cids, found_cids, rest) = after_told _ _ kind e in
    let (unix, found_unix, is) = after_told _ _ kind rest in
    let (payload, has_payload, unix_of_payload) = payload_found node.payload unix found_unix in
    let whole : NodeText (record { links = node.links; payload = Some payload }) block =
    subst (λ (p : Option (List ℕ)). let n : Node = record { links = node.links; payload = p } in NodeText n block) has_payload text in
    let are_cids = cids_told laws.cid 0 node.links cids (node_hashes node block are text) found_cids in
    let unix_is = (laws.unix payload unix (node_payload node.links payload block are whole)).0 unix_of_payload in
    record {
      links = node.links;
      cids = cids;
      unix = unix;
      node = record { payload = payload; node = whole; cids_are = are_cids; unix_is = unix_is };
      reads = kind_told node.links cids unix kind unix_is.is_unix.known (cids_count node.links cids are_cids) is;
    }

-- a kind that is computed of a node block is the one that the relation says
node_told : ComputedReading → (block : List ℕ) (kind : Kind) → AreBytes block → read_under codecs.DagPb block ≡ Ok kind → ReadsNode block kind
node_told laws block kind are e =
    let (node, found, rest) = after_told _ _ kind e in
    read_node_told laws block node kind are ((laws.node block node are).0 (node_found (node_of block) node found)) rest

-- and the converse
node_ok : ComputedReading → (block : List ℕ) (kind : Kind) → AreBytes block → ReadsNode block kind → read_under codecs.DagPb block ≡ Ok kind
node_ok laws block kind are h =
    let node : Node = record { links = h.links; payload = Some h.node.payload } in
    let bytes = node_payload h.links h.node.payload block are h.node.node in
    after_ok _ _ node kind (ap node_or_fault ((laws.node block node are).1 h.node.node))
    (after_ok _ _ h.cids kind (cids_ok laws.cid 0 h.links h.cids (node_hashes node block are h.node.node) h.node.cids_are)
    (after_ok _ _ h.unix kind (ap unix_with_fault ((laws.unix h.node.payload h.unix bytes).1 h.node.unix_is))
    (kind_ok h.links h.cids h.unix kind (cids_count h.links h.cids h.node.cids_are) h.reads)))

-- the same under each codec
traverse_computed : ComputedReading → (codec : Codec) (block : List ℕ) (kind : Kind) → AreBytes block → (read_under codec block ≡ Ok kind) ↔ ReadsUnder codec block kind
traverse_computed laws codecs.Raw block kind are = (λ e. sym (one_value Raw kind e), λ is. ok_same Raw kind (sym is))
traverse_computed laws codecs.DagPb block kind are = (λ e. node_told laws block kind are e, λ h. node_ok laws block kind are h)

-- of a block of bytes the kind is computed
pub computed : ComputedReading → (cid : CidParts) (block : List ℕ) (kind : Kind) → All (λ (b : ℕ). b < 256) block → (read cid block ≡ Ok kind) ↔ Reads cid block kind
computed laws cid block kind are = traverse_computed laws cid.codec block kind are
