-- The sections that a store of bytes gives for a query are spelled.
use Rattle.std.proofs.Common.{◌≡◌, ◌⊎◌, ◌↔◌, ℕ, zero, suc, ◌<◌, ◌≤◌, All, List, [], ◌∷◌, None, Ok, Err, Option, Result, Some, inl, inr, ap, length, map, refl, sym, subst, arith}
use Rattle.std.proofs.lemmas.List.Elements.{All-cons, All-head, All-nil, All-tail}
use Rattle.tg_cid.specs.Cid.{CidParts}
use Rattle.tg_cid.specs.Limits.{max_block_len}
use Rattle.tg_cid.specs.Spelling.{CidBytes, IsDigestSize}
use Rattle.tg_cid.specs.declared.cid.HashKind.{HashKind}
use Rattle.tg_cid.specs.declared.cid.HashKind.TheVariants.{Sha256, Identity}
use Rattle.tg_cid.specs.declared.cid.Codec.{Codec}
use Rattle.tg_cid.specs.declared.cid.Codec.TheVariants as codecs
use Rattle.tg_dagpb.specs.declared.Link.{Link}
use Rattle.tg_model_laws.specs.OpenedSections.{EndOpened, Opened, OpenedChildren, cut_opened, list_opened, walk_opened}
use Rattle.tg_model.specs.Answer.{block_of}
use Rattle.tg_model.specs.Computed.{read}
use Rattle.tg_model.specs.Dag.{Dag, bare, links_of, node, unopened}
use Rattle.tg_model.specs.PathWalk.{path_walk, terminal}
use Rattle.tg_model.specs.Queries.{QueryParts}
use Rattle.tg_model.specs.Reading.{AreCids, AreSlots, Reads, ReadsBasic, ReadsFile, ReadsNode, ReadsShard, ReadsSymlink, ReadsUnder, entries_of, parts_of}
use Rattle.tg_model.specs.Sound.{top}
use Rattle.tg_model.specs.StoreView.{block_at, block_by, children_by, opened_to, read_as, store_view, with_block}
use Rattle.tg_model.specs.Stores.{Store}
use Rattle.tg_model.specs.Traversal.{block_list}
use Rattle.tg_model.specs.declared.fault.BlockFault.{BlockFault}
use Rattle.tg_model.specs.declared.kinds.Kind.{Kind}
use Rattle.tg_model.specs.declared.kinds.Slot.{Slot}
use Rattle.tg_reply.specs.AskedReadings.{IsByteStore}
use Rattle.tg_reply.specs.Bodies.{IsSpelled}
use Rattle.tg_reply.specs.Replies.{sent_dag}

-- ---- the CIDs that a block links to

abbrev Spelled : CidParts → Type 0
Spelled cid = (name : List ℕ) × CidBytes cid name

cids_spelled : (links : List Link) (cids : List CidParts) → AreCids links cids → All Spelled cids
cids_spelled [] [] h = All-nil Spelled
cids_spelled (link ∷ links) (cid ∷ cids) h = All-cons Spelled cid cids (link.hash, h.0) (cids_spelled links cids h.1)
cids_spelled [] (cid ∷ cids) h = absurd h
cids_spelled (link ∷ links) [] h = absurd h

parts_spelled : (cids : List CidParts) (sizes : List ℕ) → All Spelled cids → All Spelled (map (λ part. part.cid) (parts_of cids sizes))
parts_spelled [] sizes all = All-nil Spelled
parts_spelled (cid ∷ cids) [] all = All-nil Spelled
parts_spelled (cid ∷ cids) (size ∷ sizes) all =
    All-cons Spelled cid (map (λ part. part.cid) (parts_of cids sizes)) (All-head Spelled cid cids all) (parts_spelled cids sizes (All-tail Spelled cid cids all))

entries_spelled : (links : List Link) (cids : List CidParts) → All Spelled cids → All Spelled (map (λ entry. entry.cid) (entries_of links cids))
entries_spelled [] cids all = All-nil Spelled
entries_spelled (link ∷ links) [] all = All-nil Spelled
entries_spelled (link ∷ links) (cid ∷ cids) all =
    All-cons Spelled cid (map (λ entry. entry.cid) (entries_of links cids)) (All-head Spelled cid cids all) (entries_spelled links cids (All-tail Spelled cid cids all))

slots_spelled : (numbers : List ℕ) (links : List Link) (cids : List CidParts) (slots : List Slot) → AreSlots numbers links cids slots → All Spelled cids
    → All Spelled (map (λ slot. slot.cid) slots)
slots_spelled [] [] [] [] h all = All-nil Spelled
slots_spelled (number ∷ numbers) (link ∷ links) (cid ∷ cids) (slot ∷ slots) h all =
    All-cons Spelled slot.cid (map (λ slot. slot.cid) slots) (subst Spelled (sym h.0.cid_is) (All-head Spelled cid cids all))
    (slots_spelled numbers links cids slots h.1 (All-tail Spelled cid cids all))
slots_spelled _ _ _ _ h all = absurd h

node_spelled : (block : List ℕ) (kind : Kind) → ReadsNode block kind → All Spelled (links_of kind)
node_spelled block kind r = by_kind r.reads
  where
    all : All Spelled r.cids
    all = cids_spelled r.links r.cids r.node.cids_are

    by_kind : ReadsFile r.links r.cids r.unix kind ⊎ (ReadsBasic r.links r.cids r.unix kind ⊎ (ReadsShard r.links r.cids r.unix kind ⊎ ReadsSymlink r.links r.unix kind))
        → All Spelled (links_of kind)
    by_kind (inl f) = subst (λ (k : Kind). All Spelled (links_of k)) (sym f.kind_is) (parts_spelled r.cids r.unix.sizes all)
    by_kind (inr (inl b)) = subst (λ (k : Kind). All Spelled (links_of k)) (sym b.kind_is) (entries_spelled r.links r.cids all)
    by_kind (inr (inr (inl s))) = subst (λ (k : Kind). All Spelled (links_of k)) (sym s.kind_is) (slots_spelled _ r.links r.cids s.slots s.slots_are all)
    by_kind (inr (inr (inr l))) = subst (λ (k : Kind). All Spelled (links_of k)) (sym l.kind_is) (All-nil Spelled)

under_spelled : (codec : Codec) (block : List ℕ) (kind : Kind) → ReadsUnder codec block kind → All Spelled (links_of kind)
under_spelled codecs.Raw block kind r = subst (λ (k : Kind). All Spelled (links_of k)) (sym r) (All-nil Spelled)
under_spelled codecs.DagPb block kind r = node_spelled block kind r

-- ---- what a store shows

module _ (computed : (cid : CidParts) (block : List ℕ) (kind : Kind) → All (λ (b : ℕ). b < 256) block → (read cid block ≡ Ok kind) ↔ Reads cid block kind)
    (store : Store) (s : IsByteStore store) where
  abbrev Shown : Dag → Type 0
  Shown = Opened IsSpelled

  -- a stored block is bytes, and no larger than a block may be; the digest of an identity CID, too
  digest_block : (cid : CidParts) (name block : List ℕ) → cid.hash ≡ Identity → CidBytes cid name → cid.digest ≡ block → All (λ (b : ℕ). b < 256) block × (length block ≤ max_block_len)
  digest_block cid name block e (inl v0) same = absurd (cc (e, v0.hash))
  digest_block cid name block e (inr v1) same =
      let short : length cid.digest ≤ 128 = subst (λ (k : HashKind). IsDigestSize k (length cid.digest)) e v1.size in
      (subst (λ (l : List ℕ). All (λ (b : ℕ). b < 256) l) same v1.are_bytes, omega (arith, ap length same, short))

  good_block : (cid : CidParts) (block : List ℕ) → Spelled cid → block_at store cid ≡ Some block → All (λ (b : ℕ). b < 256) block × (length block ≤ max_block_len)
  good_block cid block spelled e = by cid.hash refl e
    where
      by : (hash : HashKind) → cid.hash ≡ hash → block_by hash cid.digest (store cid) ≡ Some block → All (λ (b : ℕ). b < 256) block × (length block ≤ max_block_len)
      by Sha256 h found = (s.bytes cid block found, s.store_is.small cid block found)
      by Identity h found = digest_block cid spelled.0 block h spelled.1 (cc)

  stored_section : (cid : CidParts) (block : List ℕ) → Spelled cid → block_at store cid ≡ Some block → IsSpelled (record { cid = cid; block = block })
  stored_section cid block spelled e =
      let good = good_block cid block spelled e in record { name = spelled.0; name_is = spelled.1; are_bytes = good.0; small = good.1 }

  children_shown : (opened : CidParts → Dag) → ((cid : CidParts) → Spelled cid → Shown (opened cid)) → (cids : List CidParts) → All Spelled cids
      → OpenedChildren IsSpelled (children_by opened cids)
  children_shown opened each [] all = tt
  children_shown opened each (cid ∷ cids) all = (each cid (All-head Spelled cid cids all), children_shown opened each cids (All-tail Spelled cid cids all))

  block_shown : (opened : CidParts → Dag) → ((cid : CidParts) → Spelled cid → Shown (opened cid)) → (cid : CidParts) (found : Option (List ℕ)) → Spelled cid → block_at store cid ≡ found
      → Shown (with_block opened cid found)
  block_shown opened each cid None spelled e = tt
  block_shown opened each cid (Some block) spelled e = by_kind (read cid block) refl
    where
      by_kind : (r : Result Kind BlockFault) → read cid block ≡ r → Shown (read_as opened (record { cid = cid; block = block }) r)
      by_kind (Ok kind) r =
          let links = under_spelled cid.codec block kind ((computed cid block kind (good_block cid block spelled e).0).0 r) in
          (stored_section cid block spelled e, children_shown opened each (links_of kind) links)
      by_kind (Err fault) r = stored_section cid block spelled e

  opened_shown : (n : ℕ) (cid : CidParts) → Spelled cid → Shown (opened_to n store cid)
  opened_shown zero cid spelled = tt
  opened_shown (suc n) cid spelled = block_shown (opened_to n store) (opened_shown n) cid (block_at store cid) spelled refl

  pub sent_spelled : (q : QueryParts) (name : List ℕ) → CidBytes q.root name → All IsSpelled (block_list q (sent_dag store q.root))
  sent_spelled q name root = list_opened IsSpelled q (sent_dag store q.root) (cut_opened IsSpelled 512 1 (store_view store q.root) (opened_shown 1100 q.root (name, root)))

  -- the block of a terminal isn't too long
  small_block : (d : Dag) → Shown d → length (block_of d) ≤ max_block_len
  small_block (unopened cid) o = omega arith
  small_block (bare section fault) o = o.small
  small_block (node section kind children) o = o.0.small

  pub terminal_small : (q : QueryParts) (name : List ℕ) (d : Dag) → CidBytes q.root name → (path_walk q.path (store_view store q.root)).end ≡ terminal d
      → length (block_of d) ≤ max_block_len
  terminal_small q name d root e =
      small_block d (subst (EndOpened IsSpelled) e (walk_opened IsSpelled 0 top 1 q.path (store_view store q.root) (opened_shown 1100 q.root (name, root))).1)
