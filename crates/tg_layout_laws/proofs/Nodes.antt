-- What determines the block of a node: the names of its links, its children and its data.
use Rattle.std.proofs.Common.{◌≡◌, ◌≢◌, ℕ, List, Some, [], ◌∷◌, inl, inr, length, refl, sym, ap, ap₂, ◌∙◌, subst}
use Rattle.sha2.specs.Sha256.{sha256}
use Rattle.tg_cid.specs.Cid.{CidParts}
use Rattle.tg_cid.specs.Names.{IsDigestOf, Names}
use Rattle.tg_cid.specs.Spelling.{CidBytes, IsDigestSize}
use Rattle.tg_cid.specs.declared.cid.Codec.{Codec}
use Rattle.tg_cid.specs.declared.cid.Codec.TheVariants as codecs
use Rattle.tg_cid.specs.declared.cid.HashKind.{HashKind}
use Rattle.tg_cid.specs.declared.cid.HashKind.TheVariants.{Sha256}
use Rattle.tg_dagpb.specs.Node.{CanonicalText, NodeText}
use Rattle.tg_dagpb.specs.declared.Link.{Link}
use Rattle.tg_dagpb.specs.declared.Node.{Node}
use Rattle.tg_model.specs.Dag.{Children, Section, no_child, node, with_child}
use Rattle.tg_model.specs.ImportLayout.{AreLinks, HasPlainCid, IsWritten}
use Rattle.tg_model.specs.Reading.{Reads, ReadsNode, ReadsUnder}
use Rattle.tg_model.specs.Sound.{IsNodeAt, Position}
use Rattle.tg_model.specs.declared.kinds.Kind.{Kind}
use Rattle.tg_model.specs.declared.kinds.Kind.TheVariants.{Raw}
use Rattle.tg_unixfs.specs.Unix.{CanonicalText as CanonicalData, UnixText}
use Rattle.tg_unixfs.specs.declared.Unix.{Unix}

-- the laws of texts that the crates below state
pub record TextLaws : Type 0 where
  pub one_kind : (cid : CidParts) (block : List ℕ) (a b : Kind) → Reads cid block a → Reads cid block b → a ≡ b
  pub one_node : (a b : Node) (text : List ℕ) → NodeText a text → NodeText b text → a ≡ b
  pub one_block : (node : Node) (s t : List ℕ) → CanonicalText node s → CanonicalText node t → s ≡ t
  pub one_unix : (a b : Unix) (text : List ℕ) → UnixText a text → UnixText b text → a ≡ b
  pub one_payload : (unix : Unix) (s t : List ℕ) → CanonicalData unix s → CanonicalData unix t → s ≡ t
  pub one_spelling : (cid : CidParts) (u v : List ℕ) → CidBytes cid u → CidBytes cid v → u ≡ v
  pub digest_size : (cid : CidParts) (bytes : List ℕ) → CidBytes cid bytes → IsDigestSize cid.hash (length cid.digest)

-- names and children determine the links
same_links : TextLaws → (names : List (List ℕ)) (children : Children) (a b : List Link) → AreLinks names children a
    → AreLinks names children b → a ≡ b
same_links laws [] no_child [] [] h k = refl
same_links laws [] no_child [] (y ∷ b) h k = absurd k
same_links laws (name ∷ names) (with_child d children) (x ∷ a) [] h k = absurd k
same_links laws (name ∷ names) (with_child d children) (x ∷ a) (y ∷ b) h k =
    let hash = laws.one_spelling _ x.hash y.hash h.0 k.0 in
    let named : x.name ≡ y.name = h.1 ∙ sym k.1 in
    let size : x.tsize ≡ y.tsize = h.2 ∙ sym k.2 in
    let rest = same_links laws names children a b h.3 k.3 in
    λ i. (record { hash = hash i; name = named i; tsize = size i }) ∷ rest i
same_links laws _ _ _ _ h k = absurd h

-- and with the data they determine the block
pub same_written : TextLaws → (block other : List ℕ) (names : List (List ℕ)) (children : Children) (unix : Unix)
    → IsWritten block names children unix → IsWritten other names children unix → block ≡ other
same_written laws block other names children unix h k =
    let links = same_links laws names children h.links k.links h.links_are k.links_are in
    let payload = laws.one_payload unix h.payload k.payload h.unix_is k.unix_is in
    let node : ◌≡◌ {A = Node} (record { links = h.links; payload = Some h.payload })
    (record { links = k.links; payload = Some k.payload }) =
    λ i. record { links = links i; payload = Some (payload i) } in
    laws.one_block (record { links = k.links; payload = Some k.payload }) block other
    (subst (λ n. CanonicalText n block) node h.text) k.text

-- what is written is read: a block that is read has the data that it was written with
pub read_unix : TextLaws → (block : List ℕ) (kind : Kind) (names : List (List ℕ)) (children : Children) (unix : Unix)
    → (r : ReadsNode block kind) → IsWritten block names children unix → r.unix ≡ unix
read_unix laws block kind names children unix r w =
    let nodes : ◌≡◌ {A = Node} (record { links = r.links; payload = Some r.node.payload })
    (record { links = w.links; payload = Some w.payload }) =
    laws.one_node (record { links = r.links; payload = Some r.node.payload })
    (record { links = w.links; payload = Some w.payload }) block r.node.node w.text.is_text in
    let both : Some r.node.payload ≡ Some w.payload = ap (λ (n : Node). n.payload) nodes in
    let payload : r.node.payload ≡ w.payload = cc in
    laws.one_unix r.unix unix w.payload (subst (λ (p : List ℕ). UnixText r.unix p) payload r.node.unix_is) w.unix_is.is_text

-- ---- sections

-- a node that isn't raw is a DAG-PB node, and a raw block is under a raw CID
pub record IsNodeUnder (cid : CidParts) (block : List ℕ) (kind : Kind) : Type 0 where
  pub codec : cid.codec ≡ codecs.DagPb
  pub reads : ReadsNode block kind

pub node_under : (cid : CidParts) (block : List ℕ) (kind : Kind) → kind ≢ Raw → Reads cid block kind
    → IsNodeUnder cid block kind
node_under cid block kind other reads = by_codec cid.codec refl reads
  where
    by_codec : (codec : Codec) → cid.codec ≡ codec → ReadsUnder codec block kind → IsNodeUnder cid block kind
    by_codec codecs.Raw e r = absurd (other r)
    by_codec codecs.DagPb e r = record { codec = e; reads = r }

no_raw_node : (block : List ℕ) → ReadsNode block Raw → ⊥
no_raw_node block r = elim r.reads [
  | inl file ↦ let e = file.kind_is in absurd (cc)
  | inr (inl basic) ↦ let e = basic.kind_is in absurd (cc)
  | inr (inr (inl shard)) ↦ let e = shard.kind_is in absurd (cc)
  | inr (inr (inr link)) ↦ let e = link.kind_is in absurd (cc)
]

pub raw_under : (cid : CidParts) (block : List ℕ) → Reads cid block Raw → cid.codec ≡ codecs.Raw
raw_under cid block reads = by_codec cid.codec refl reads
  where
    by_codec : (codec : Codec) → cid.codec ≡ codec → ReadsUnder codec block Raw → cid.codec ≡ codecs.Raw
    by_codec codecs.Raw e r = e
    by_codec codecs.DagPb e r = absurd (no_raw_node block r)

digest_is : (cid : CidParts) (block : List ℕ) → cid.hash ≡ Sha256 → Names cid block → cid.digest ≡ sha256 block
digest_is cid block e h = subst (λ (k : HashKind). IsDigestOf k cid.digest block) e h

-- the block and the codec determine a section under a plain CID
pub same_section : (s t : Section) → HasPlainCid s → HasPlainCid t → Names s.cid s.block → Names t.cid t.block
    → s.cid.codec ≡ t.cid.codec → s.block ≡ t.block → s ≡ t
same_section s t h k n m codec block =
    let version : s.cid.version ≡ t.cid.version = h.0 ∙ sym k.0 in
    let hash : s.cid.hash ≡ t.cid.hash = h.1 ∙ sym k.1 in
    let digest : s.cid.digest ≡ t.cid.digest = digest_is s.cid s.block h.1 n ∙ ap sha256 block ∙ sym
    (digest_is t.cid t.block k.1 m) in
    λ i. record {
      cid = record { version = version i; codec = codec i; hash = hash i; digest = digest i };
      block = block
          i;
    }

-- ---- nodes

-- the block and the children determine a node that isn't raw
pub same_node : TextLaws → (p q : Position) (s t : Section) (k l : Kind) (children : Children) → k ≢ Raw → l ≢ Raw
    → IsNodeAt p s k children → IsNodeAt q t l children
    → HasPlainCid s → HasPlainCid t → s.block ≡ t.block → node s k children ≡ node t l children
same_node laws p q s t k l children no_raw no_other h m plain other block =
    let a = node_under s.cid s.block k no_raw h.reads in
    let b = node_under t.cid t.block l no_other m.reads in
    let sections : s ≡ t = same_section s t plain other h.named m.named (a.codec ∙ sym b.codec) block in
    let kinds : k ≡ l = laws.one_kind t.cid t.block k l
    (subst (λ (x : Section). Reads x.cid x.block k) sections h.reads) m.reads in
    ap₂ (λ (x : Section) (y : Kind). node x y children) sections kinds
