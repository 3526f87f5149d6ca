-- The lines of a node's links and payload: what they tell of the node, and that there is one text.
use Rattle.std.proofs.Common.{◌≡◌, ℕ, ◌<◌, ◌⊎◌, inl, inr, List, [], ◌∷◌, ◌++◌, length, get_or, Option, Some, None, Ok, Err, refl, sym, ap, ◌∙◌, subst, append_assoc, append-nil, All}
use Rattle.std.specs.Prelude.{Result, Contains, MatchResult, IfOk, IfErr, codes}
use Rattle.std.proofs.lemmas.List.Elements.{All-nil, All-cons, All-contains, Contains-get_or, Contains-push}
use Rattle.tg_cid.specs.Cid.{CidParts}
use Rattle.tg_cid.specs.Spelling.{CidBytes, CidText}
use Rattle.tg_cid.specs.declared.cid.Codec.{Codec}
use Rattle.tg_cid.specs.declared.cid.Codec.TheVariants.{Raw, DagPb}
use Rattle.tg_pbtable.specs.declared.fault.PbFault.{PbFault}
use Rattle.tg_pbtable.specs.declared.fault.PbFault.TheVariants as pb
use Rattle.tg_dagpb.specs.declared.Link.{Link}
use Rattle.tg_dagpb.specs.declared.Node.{Node}
use Rattle.tg_dagpb.specs.Node.{NodeText}
use Rattle.tg_dagpb.specs.Faults.{HasNodeCause}
use Rattle.tg_unixfs.specs.declared.Unix.{Unix}
use Rattle.tg_unixfs.specs.declared.UnixFault.{UnixFault}
use Rattle.tg_unixfs.specs.declared.UnixFault.TheVariants as unixfs
use Rattle.tg_unixfs.specs.Unix.{UnixText}
use Rattle.tg_unixfs.specs.Faults.{HasUnixCause}
use Rattle.tg_node.specs.declared.fault.NodeFault.{NodeFault}
use Rattle.tg_node.specs.declared.fault.NodeFault.TheVariants.{BadNode, BadLink, BadUnix}
use Rattle.tg_node.specs.declared.fault.TextFault.{TextFault}
use Rattle.tg_node.specs.declared.fault.TextFault.TheVariants.{Block, OutOfMemory}
use Rattle.tg_node.specs.NodeTexts.{link_line, count_line, unix_lines, LinkLine, LinkLines, PayloadLines, LinesOfNode, NodeLines, IsTextUnder, IsNodeTextOf, IsCid, HasBadHash, HasBadPayload, HasDagPbCause, HasNodeTextCause, HasLinkCause, HasPayloadCause, HasLinesCause, IsCaused, Exact, fault_of_pb, fault_of_unix}

-- ---- links

pub lines_more : (links : List Link) (link : Link) (u v : List ℕ) → LinkLines links u → LinkLine link v → LinkLines (links ++ link ∷ []) (u ++ v)
lines_more [] link u v none line = (v, [], line, ap (λ w. w ++ v) none ∙ sym (append-nil v), refl)
lines_more (first ∷ links) link u v (here, rest, first_is, whole, more) line =
    (here, rest ++ v, first_is, ap (λ w. w ++ v) whole ∙ append_assoc here rest v, lines_more links link rest v more line)

pub all_cids : (links : List Link) (lines : List ℕ) → LinkLines links lines → All (λ link. IsCid link.hash) links
all_cids [] lines none = All-nil (λ (link : Link). IsCid link.hash)
all_cids (link ∷ links) lines (line, rest, line_is, whole, more) =
    All-cons (λ (k : Link). IsCid k.hash) link links (line_is.cid, line_is.hash_is) (all_cids links rest more)

pub no_bad_hash : (links : List Link) → All (λ link. IsCid link.hash) links → HasBadHash links → ⊥
no_bad_hash links all bad = bad.none (All-contains (λ (k : Link). IsCid k.hash) links bad.link all bad.among)

pub bad_alone : (link : Link) → (IsCid link.hash → ⊥) → HasBadHash (link ∷ [])
bad_alone link none = record { link = link; among = Contains-push [] link; none = none }

only_one : (link other : Link) → Contains (link ∷ []) other → other ≡ link
only_one link other among = All-contains (λ (k : Link). k ≡ link) (link ∷ []) other (All-cons (λ (k : Link). k ≡ link) link [] refl (All-nil (λ (k : Link). k ≡ link))) among

pub bad_there : (links : List Link) (i : ℕ) (d : Link) (e : TextFault) → i < length links → IsCaused (HasLinkCause (get_or links i d ∷ [])) e → IsCaused (HasLinkCause links) e
bad_there links i d (Block BadNode) within bad = absurd bad
bad_there links i d (Block BadLink) within bad =
    let same = only_one (get_or links i d) bad.link bad.among in
    record {
      link = get_or links i d;
      among = Contains-get_or links i d within;
      none = λ is_cid. bad.none (subst (λ (k : Link). IsCid k.hash) (sym same) is_cid);
    }
bad_there links i d (Block BadUnix) within bad = absurd bad
bad_there links i d OutOfMemory within bad = tt

-- ---- the payload

pub no_bad_payload : HasBadPayload None → ⊥
no_bad_payload bad = let e = bad.payload_is in absurd (cc)

pub good_payload : (bytes : List ℕ) → ((fault : UnixFault) → HasUnixCause bytes fault → ⊥) → HasBadPayload (Some bytes) → ⊥
good_payload bytes good bad =
    let same : bytes ≡ bad.bytes = (let e = bad.payload_is in cc) in
    good bad.fault (subst (λ (b : List ℕ). HasUnixCause b bad.fault) (sym same) bad.cause)

bad_unix : (bytes : List ℕ) (e : UnixFault) → ((unix : Unix) → UnixText unix bytes → ⊥) → HasUnixCause bytes e → HasPayloadCause (Some bytes) BadUnix
bad_unix bytes e none cause = (record { bytes = bytes; payload_is = refl; fault = e; cause = cause }, λ lines l. none l.unix l.unix_is)

caused : (bytes : List ℕ) (e : UnixFault) → (e ≡ unixfs.OutOfMemory → ⊥) → ((e ≡ unixfs.OutOfMemory) ⊎ HasUnixCause bytes e) → HasUnixCause bytes e
caused bytes e other cause = elim cause [ inl f ↦ absurd (other f) | inr h ↦ h ]

unix_err : (bytes : List ℕ) (e : UnixFault) → ((unix : Unix) → UnixText unix bytes → e ≡ unixfs.OutOfMemory)
    → ((e ≡ unixfs.OutOfMemory) ⊎ HasUnixCause bytes e) → IsCaused (HasPayloadCause (Some bytes)) (fault_of_unix e)
unix_err bytes (unixfs.Pb fault) only cause = bad_unix bytes (unixfs.Pb fault) (λ unix text. let e = only unix text in absurd (cc)) (caused bytes (unixfs.Pb fault) (λ e. absurd (cc)) cause)
unix_err bytes (unixfs.BadTime fault) only cause = bad_unix bytes (unixfs.BadTime fault) (λ unix text. let e = only unix text in absurd (cc)) (caused bytes (unixfs.BadTime fault) (λ e. absurd (cc)) cause)
unix_err bytes (unixfs.BadKind number) only cause = bad_unix bytes (unixfs.BadKind number) (λ unix text. let e = only unix text in absurd (cc)) (caused bytes (unixfs.BadKind number) (λ e. absurd (cc)) cause)
unix_err bytes (unixfs.BadHash number) only cause = bad_unix bytes (unixfs.BadHash number) (λ unix text. let e = only unix text in absurd (cc)) (caused bytes (unixfs.BadHash number) (λ e. absurd (cc)) cause)
unix_err bytes (unixfs.BadFanout number) only cause = bad_unix bytes (unixfs.BadFanout number) (λ unix text. let e = only unix text in absurd (cc)) (caused bytes (unixfs.BadFanout number) (λ e. absurd (cc)) cause)
unix_err bytes unixfs.OutOfMemory only cause = tt

pub payload_err : (payload : Option (List ℕ)) (bytes held : List ℕ) (e : UnixFault) → payload ≡ Some held → bytes ≡ held
    → ((unix : Unix) → UnixText unix bytes → e ≡ unixfs.OutOfMemory)
    → ((e ≡ unixfs.OutOfMemory) ⊎ HasUnixCause bytes e) → IsCaused (HasPayloadCause payload) (fault_of_unix e)
payload_err payload bytes held e is same only cause =
    subst (λ (p : Option (List ℕ)). IsCaused (HasPayloadCause p) (fault_of_unix e)) (sym (is ∙ ap (λ (b : List ℕ). let p : Option (List ℕ) = Some b in p) (sym same)))
    (unix_err bytes e only cause)

-- ---- a node's lines

pub links_caused : (node : Node) (e : TextFault) → IsCaused (HasLinkCause node.links) e → IsCaused (HasLinesCause node) e
links_caused node (Block BadNode) bad = absurd bad
links_caused node (Block BadLink) bad = bad
links_caused node (Block BadUnix) bad = absurd bad
links_caused node OutOfMemory bad = tt

pub payload_caused : (node : Node) (lines : List ℕ) (e : TextFault) → LinkLines node.links lines → IsCaused (HasPayloadCause node.payload) e → IsCaused (HasLinesCause node) e
payload_caused node lines (Block BadNode) links bad = absurd bad
payload_caused node lines (Block BadLink) links bad = absurd bad
payload_caused node lines (Block BadUnix) links bad = (all_cids node.links lines links, bad)
payload_caused node lines OutOfMemory links bad = tt

-- ---- want of memory

-- it is that of the reader of nodes
pub wants_pb : (e : PbFault) → ◌≡◌ {A = Result (List ℕ) TextFault} (Err (fault_of_pb e)) (Err OutOfMemory) → e ≡ pb.OutOfMemory
wants_pb (pb.Short at) w = absurd (cc)
wants_pb (pb.BadVarint at) w = absurd (cc)
wants_pb (pb.Unknown at number) w = absurd (cc)
wants_pb (pb.WrongWire at) w = absurd (cc)
wants_pb (pb.OutOfOrder at) w = absurd (cc)
wants_pb (pb.Doubled at) w = absurd (cc)
wants_pb (pb.Missing number) w = absurd (cc)
wants_pb pb.OutOfMemory w = refl

-- ---- exact answers

pub exact_memory : (IsText : List ℕ → Type 0) (HasCause : NodeFault → Type 0) → Exact IsText HasCause (Err OutOfMemory)
exact_memory IsText HasCause = record { found = tt; only = λ text is. refl; cause = tt; given = λ fault cause. inr refl }

exact_text : (IsText : List ℕ → Type 0) (HasCause : NodeFault → Type 0) (text : List ℕ) → IsText text → ((other : List ℕ) → IsText other → text ≡ other)
    → ((fault : NodeFault) → HasCause fault → ⊥) → Exact IsText HasCause (Ok text)
exact_text IsText HasCause text is one none = record { found = is; only = one; cause = tt; given = λ fault cause. absurd (none fault cause) }

exact_fault : (IsText : List ℕ → Type 0) (HasCause : NodeFault → Type 0) (fault : NodeFault) → HasCause fault → ((other : List ℕ) → IsText other → ⊥)
    → ((other : NodeFault) → HasCause other → fault ≡ other) → Exact IsText HasCause (Err (Block fault))
exact_fault IsText HasCause fault is none one = record {
  found = tt;
  only = λ text text_is. absurd (none text text_is);
  cause = is;
  given = λ other cause. inl (ap (λ (f : NodeFault). let r : Result (List ℕ) TextFault = Err (Block f) in r) (one other cause));
}

abbrev ExactBlock : List ℕ → Result (List ℕ) TextFault → Type 0
ExactBlock block answer = Exact (NodeLines block) (HasDagPbCause block) answer

-- a block that is no node
first_cause : (block : List ℕ) (other : NodeFault) → ((node : Node) → NodeText node block → ⊥) → HasDagPbCause block other → BadNode ≡ other
first_cause block BadNode none cause = refl
first_cause block BadLink none cause = absurd (none cause.node cause.node_is)
first_cause block BadUnix none cause = absurd (none cause.node cause.node_is)

no_node : (block : List ℕ) (e : PbFault) → (e ≡ pb.OutOfMemory → ⊥) → ((node : Node) → NodeText node block → e ≡ pb.OutOfMemory)
    → ((e ≡ pb.OutOfMemory) ⊎ HasNodeCause block e) → ExactBlock block (Err (Block BadNode))
no_node block e other only cause =
    exact_fault (NodeLines block) (HasDagPbCause block) BadNode (elim cause [ inl f ↦ absurd (other f) | inr h ↦ (e, h) ])
    (λ text lines. other (only lines.node lines.node_is))
    (λ fault c. first_cause block fault (λ node is. other (only node is)) c)

pub node_err : (block : List ℕ) (e : PbFault) → ((node : Node) → NodeText node block → e ≡ pb.OutOfMemory)
    → ((e ≡ pb.OutOfMemory) ⊎ HasNodeCause block e) → ExactBlock block (Err (fault_of_pb e))
node_err block (pb.Short at) only cause = no_node block (pb.Short at) (λ f. absurd (cc)) only cause
node_err block (pb.BadVarint at) only cause = no_node block (pb.BadVarint at) (λ f. absurd (cc)) only cause
node_err block (pb.Unknown at number) only cause = no_node block (pb.Unknown at number) (λ f. absurd (cc)) only cause
node_err block (pb.WrongWire at) only cause = no_node block (pb.WrongWire at) (λ f. absurd (cc)) only cause
node_err block (pb.OutOfOrder at) only cause = no_node block (pb.OutOfOrder at) (λ f. absurd (cc)) only cause
node_err block (pb.Doubled at) only cause = no_node block (pb.Doubled at) (λ f. absurd (cc)) only cause
node_err block (pb.Missing number) only cause = no_node block (pb.Missing number) (λ f. absurd (cc)) only cause
node_err block pb.OutOfMemory only cause = exact_memory (NodeLines block) (HasDagPbCause block)

-- a block that is the text of just this node
pub record IsOf (block : List ℕ) (node : Node) : Type 0 where
  pub text_is : NodeText node block
  pub only : (other : Node) → NodeText other block → node ≡ other
  pub good : (fault : PbFault) → HasNodeCause block fault → ⊥

no_cause : (block : List ℕ) (node : Node) (fault : NodeFault) → IsOf block node → All (λ link. IsCid link.hash) node.links → (HasBadPayload node.payload → ⊥)
    → HasDagPbCause block fault → ⊥
no_cause block node BadNode is all good cause = is.good cause.0 cause.1
no_cause block node BadLink is all good cause =
    no_bad_hash node.links all (subst (λ (n : Node). HasBadHash n.links) (sym (is.only cause.node cause.node_is)) cause.cause)
no_cause block node BadUnix is all good cause =
    good (subst (λ (n : Node). HasBadPayload n.payload) (sym (is.only cause.node cause.node_is)) cause.cause.1)

link_cause : (block : List ℕ) (node : Node) (fault : NodeFault) → IsOf block node → HasBadHash node.links → HasDagPbCause block fault → BadLink ≡ fault
link_cause block node BadNode is bad cause = absurd (is.good cause.0 cause.1)
link_cause block node BadLink is bad cause = refl
link_cause block node BadUnix is bad cause =
    let all : All (λ link. IsCid link.hash) node.links =
    subst (λ (n : Node). All (λ (k : Link). IsCid k.hash) n.links) (sym (is.only cause.node cause.node_is)) cause.cause.0 in
    absurd (no_bad_hash node.links all bad)

unix_cause : (block : List ℕ) (node : Node) (fault : NodeFault) → IsOf block node → All (λ link. IsCid link.hash) node.links → HasDagPbCause block fault → BadUnix ≡ fault
unix_cause block node BadNode is all cause = absurd (is.good cause.0 cause.1)
unix_cause block node BadLink is all cause =
    absurd (no_bad_hash node.links all (subst (λ (n : Node). HasBadHash n.links) (sym (is.only cause.node cause.node_is)) cause.cause))
unix_cause block node BadUnix is all cause = refl

pub exact_lines : (block : List ℕ) (node : Node) (answer : Result (List ℕ) TextFault) → IsOf block node
    → ((a b : List ℕ) → NodeLines block a → NodeLines block b → a ≡ b)
    → MatchResult answer (λ text. LinesOfNode node text × (HasBadPayload node.payload → ⊥)) (λ e. IsCaused (HasLinesCause node) e)
    → ExactBlock block answer
exact_lines block node (Ok text) is one (lines, good) =
    let here : NodeLines block text = record { node = node; node_is = is.text_is; lines_are = lines } in
    exact_text (NodeLines block) (HasDagPbCause block) text here (λ other o. one text other here o)
    (λ fault cause. no_cause block node fault is (all_cids node.links lines.links_text lines.links) good cause)
exact_lines block node (Err (Block BadNode)) is one bad = absurd bad
exact_lines block node (Err (Block BadLink)) is one bad =
    exact_fault (NodeLines block) (HasDagPbCause block) BadLink (record { node = node; node_is = is.text_is; cause = bad })
    (λ text lines.
    let same = sym (is.only lines.node lines.node_is) in
    no_bad_hash node.links (subst (λ (n : Node). All (λ (k : Link). IsCid k.hash) n.links) same (all_cids lines.node.links lines.lines_are.links_text lines.lines_are.links)) bad)
    (λ fault cause. link_cause block node fault is bad cause)
exact_lines block node (Err (Block BadUnix)) is one (all, refused) =
    exact_fault (NodeLines block) (HasDagPbCause block) BadUnix (record { node = node; node_is = is.text_is; cause = (all, refused.0) })
    (λ text lines.
    refused.1 lines.lines_are.payload_text (subst (λ (n : Node). PayloadLines n.payload lines.lines_are.payload_text) (sym (is.only lines.node lines.node_is)) lines.lines_are.payload))
    (λ fault cause. unix_cause block node fault is all cause)
exact_lines block node (Err OutOfMemory) is one bad = exact_memory (NodeLines block) (HasDagPbCause block)

-- a block under a codec
pub exact_raw : (cid : CidParts) (block : List ℕ) (answer : Result (List ℕ) TextFault) → cid.codec ≡ Raw
    → MatchResult answer (λ text. text ≡ count_line (codes "raw ") (length block)) (λ e. e ≡ OutOfMemory)
    → Exact (IsNodeTextOf cid block) (HasNodeTextCause cid block) answer
exact_raw cid block (Err e) raw is =
    subst (λ (f : TextFault). Exact (IsNodeTextOf cid block) (HasNodeTextCause cid block) (Err f)) (sym is) (exact_memory (IsNodeTextOf cid block) (HasNodeTextCause cid block))
exact_raw cid block (Ok text) raw is = exact_text (IsNodeTextOf cid block) (HasNodeTextCause cid block) text
    (subst (λ (c : Codec). IsTextUnder c block text) (sym raw) is)
    (λ other o. is ∙ sym (subst (λ (c : Codec). IsTextUnder c block other) raw o))
    (λ fault cause. let bad : Raw ≡ DagPb = sym raw ∙ cause.0 in absurd (cc))

found_under : (cid : CidParts) (block : List ℕ) (answer : Result (List ℕ) TextFault) → cid.codec ≡ DagPb → IfOk answer (NodeLines block) → IfOk answer (IsNodeTextOf cid block)
found_under cid block (Ok text) dag_pb is = subst (λ (c : Codec). IsTextUnder c block text) (sym dag_pb) is
found_under cid block (Err e) dag_pb is = tt

cause_under : (cid : CidParts) (block : List ℕ) (answer : Result (List ℕ) TextFault) → cid.codec ≡ DagPb → IfErr answer (IsCaused (HasDagPbCause block)) → IfErr answer (IsCaused (HasNodeTextCause cid block))
cause_under cid block (Ok text) dag_pb cause = tt
cause_under cid block (Err (Block fault)) dag_pb cause = (dag_pb, cause)
cause_under cid block (Err OutOfMemory) dag_pb cause = tt

pub exact_dag_pb : (cid : CidParts) (block : List ℕ) (answer : Result (List ℕ) TextFault) → cid.codec ≡ DagPb → ExactBlock block answer
    → Exact (IsNodeTextOf cid block) (HasNodeTextCause cid block) answer
exact_dag_pb cid block answer dag_pb exact =
    let text = λ (other : List ℕ) (o : IsNodeTextOf cid block other). subst (λ (c : Codec). IsTextUnder c block other) dag_pb o in
    record {
      found = found_under cid block answer dag_pb exact.found;
      only = λ other o. exact.only other (text other o);
      cause = cause_under cid block answer dag_pb exact.cause;
      given = λ fault cause. exact.given fault cause.1;
    }

-- ---- one text

one_link_line : ((a b : CidParts) (u v x y : List ℕ) → CidBytes a u → CidBytes b v → u ++ x ≡ v ++ y → (u ≡ v) × (a ≡ b))
    → ((a : CidParts) (s t : List ℕ) → CidText a s → CidText a t → s ≡ t)
    → (link : Link) (u v : List ℕ) → LinkLine link u → LinkLine link v → u ≡ v
one_link_line no_front one_text link u v p q =
    let same = (no_front p.cid q.cid link.hash link.hash [] [] p.hash_is q.hash_is refl).1 in
    let shown = one_text (record p.cid { version = 1 }) p.shown q.shown p.shown_is (subst (λ (k : CidParts). CidText (record k { version = 1 }) q.shown) (sym same) q.shown_is) in
    p.line_is ∙ ap (λ s. link_line s link) shown ∙ sym q.line_is

one_link_lines : ((a b : CidParts) (u v x y : List ℕ) → CidBytes a u → CidBytes b v → u ++ x ≡ v ++ y → (u ≡ v) × (a ≡ b))
    → ((a : CidParts) (s t : List ℕ) → CidText a s → CidText a t → s ≡ t)
    → (links : List Link) (u v : List ℕ) → LinkLines links u → LinkLines links v → u ≡ v
one_link_lines no_front one_text [] u v p q = p ∙ sym q
one_link_lines no_front one_text (link ∷ links) u v (a, b, line, whole, more) (c, d, other, all, rest) =
    whole ∙ ap (λ w. w ++ b) (one_link_line no_front one_text link a c line other)
    ∙ ap (λ w. c ++ w) (one_link_lines no_front one_text links b d more rest) ∙ sym all

one_payload : ((a b : Unix) (text : List ℕ) → UnixText a text → UnixText b text → a ≡ b)
    → (payload : Option (List ℕ)) (u v : List ℕ) → PayloadLines payload u → PayloadLines payload v → u ≡ v
one_payload one_unix None u v p q = p ∙ sym q
one_payload one_unix (Some bytes) u v p q =
    let same = one_unix p.unix q.unix bytes p.unix_is q.unix_is in
    p.lines_are ∙ ap (λ (unix : Unix). count_line (codes "payload ") (length bytes) ++ unix_lines unix) same ∙ sym q.lines_are

one_of_node : ((a b : CidParts) (u v x y : List ℕ) → CidBytes a u → CidBytes b v → u ++ x ≡ v ++ y → (u ≡ v) × (a ≡ b))
    → ((a : CidParts) (s t : List ℕ) → CidText a s → CidText a t → s ≡ t)
    → ((a b : Unix) (text : List ℕ) → UnixText a text → UnixText b text → a ≡ b)
    → (node : Node) (u v : List ℕ) → LinesOfNode node u → LinesOfNode node v → u ≡ v
one_of_node no_front one_text one_unix node u v p q =
    let links = one_link_lines no_front one_text node.links p.links_text q.links_text p.links q.links in
    let payload = one_payload one_unix node.payload p.payload_text q.payload_text p.payload q.payload in
    p.whole ∙ ap (λ w. count_line (codes "links ") (length node.links) ++ (w ++ p.payload_text)) links
    ∙ ap (λ w. count_line (codes "links ") (length node.links) ++ (q.links_text ++ w)) payload ∙ sym q.whole

one_under : ((a b : CidParts) (u v x y : List ℕ) → CidBytes a u → CidBytes b v → u ++ x ≡ v ++ y → (u ≡ v) × (a ≡ b))
    → ((a : CidParts) (s t : List ℕ) → CidText a s → CidText a t → s ≡ t)
    → ((a b : Unix) (text : List ℕ) → UnixText a text → UnixText b text → a ≡ b)
    → ((a b : Node) (text : List ℕ) → NodeText a text → NodeText b text → a ≡ b)
    → (codec : Codec) (block u v : List ℕ) → IsTextUnder codec block u → IsTextUnder codec block v → u ≡ v
one_under no_front one_text one_unix one_node Raw block u v p q = p ∙ sym q
one_under no_front one_text one_unix one_node DagPb block u v p q =
    let same = one_node p.node q.node block p.node_is q.node_is in
    one_of_node no_front one_text one_unix p.node u v p.lines_are (subst (λ (n : Node). LinesOfNode n v) (sym same) q.lines_are)

pub one_text_of : ((a b : CidParts) (u v x y : List ℕ) → CidBytes a u → CidBytes b v → u ++ x ≡ v ++ y → (u ≡ v) × (a ≡ b))
    → ((a : CidParts) (s t : List ℕ) → CidText a s → CidText a t → s ≡ t)
    → ((a b : Unix) (text : List ℕ) → UnixText a text → UnixText b text → a ≡ b)
    → ((a b : Node) (text : List ℕ) → NodeText a text → NodeText b text → a ≡ b)
    → (cid : CidParts) (block u v : List ℕ) → IsNodeTextOf cid block u → IsNodeTextOf cid block v → u ≡ v
one_text_of no_front one_text one_unix one_node cid block u v p q = one_under no_front one_text one_unix one_node cid.codec block u v p q
