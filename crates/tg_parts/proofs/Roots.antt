-- What a block that was accepted for the root's says.
use Rattle.std.proofs.Common.{All, List, Ok, Some, ap, inl, inr, length, refl, subst, sym, ℕ, ◌<◌, ◌↔◌, ◌∙◌, ◌≡◌, ◌⊎◌}
use Rattle.tg_cid.specs.Cid.{CidParts}
use Rattle.tg_model.specs.Answer.{answer}
use Rattle.tg_model.specs.Computed.{read}
use Rattle.tg_model.specs.Dag.{Children, Dag, Section, bare, node, root_cid, total_of, unopened}
use Rattle.tg_model.specs.Fits.{CollisionPair}
use Rattle.tg_model.specs.Reading.{Reads}
use Rattle.tg_model.specs.Sound.{IsFileKind, IsSound}
use Rattle.tg_model.specs.declared.kinds.Kind.{Kind}
use Rattle.tg_model.specs.declared.kinds.Kind.TheVariants.{Basic, File, Raw, Shard, Symlink}
use Rattle.tg_model_laws.specs.FileSizes.{TotalIsLength}
use Rattle.tg_parts.proofs.Accepted.{accepted_is, accepted_stay}
use Rattle.tg_parts.specs.Connections.{Connection, IsRootOfFile, all_sections}
use Rattle.tg_parts.specs.PartLaws.{RootIs, RootIsRead, RootsStay, SaysRoot, SaysTotal, TotalIsTold, TotalsStay}
use Rattle.tg_parts.specs.Parts.{root_query}
use Rattle.tg_verify.specs.Sound.{IsItsAnswer}

-- of a block of bytes the kind is computed
abbrev Computes : Type 0
Computes = (cid : CidParts) (block : List ℕ) (kind : Kind) → All (λ b. b < 256) block → (read cid block ≡ Ok kind) ↔ Reads cid block kind

-- a sound node's block is read as its kind
node_read : Computes → (root : CidParts) (block : List ℕ) (section : Section) (kind : Kind) (children : Children) → All (λ b. b < 256) block
    → IsSound (node section kind children) → section.cid ≡ root → section.block ≡ block → read root block ≡ Ok kind
node_read computes root block section kind children bytes sound named same =
    (computes root block kind bytes).1
    (subst (λ (b : List ℕ). Reads root b kind) same (subst (λ (c : CidParts). Reads c section.block kind) named sound.checked.0.reads))

-- a DAG whose root's block it is
block_says : Computes → (root : CidParts) (block : List ℕ) (d : Dag) → All (λ b. b < 256) block → IsSound d → root_cid d ≡ root
    → answer (root_query root) d ≡ Some block → SaysRoot root block d
block_says computes root block (unopened cid) bytes sound named is = absurd sound.whole
block_says computes root block (bare section fault) bytes sound named is = absurd sound.whole
block_says computes root block (node section kind children) bytes sound named is =
    let same : section.block ≡ block = cc in
    let reads : read root block ≡ Ok kind = node_read computes root block section kind children bytes sound named same in
    record { read_as = λ other e. (cc, same); unread = λ fault e. cc }

answer_says : Computes → (root : CidParts) (connections : List Connection) (block : List ℕ) (d : Dag) → All (λ b. b < 256) block → IsSound d
    → root_cid d ≡ root → IsItsAnswer (root_query root) d (all_sections connections) block
    → SaysRoot root block d ⊎ CollisionPair (all_sections connections) d
answer_says computes root connections block d bytes sound named (inl is) = inl (block_says computes root block d bytes sound named is)
answer_says computes root connections block d bytes sound named (inr pair) = inr pair

pub root_is_read : Computes → RootIsRead
root_is_read computes root connections block d is sound named =
    answer_says computes root connections block d is.bytes sound named (accepted_is connections (root_query root) block d is.accepted sound named)

-- the total depends on the block alone
total_alike : (section other : Section) (kind : Kind) → section.block ≡ other.block → total_of section kind ≡ total_of other kind
total_alike section other Raw same = ap (λ (b : List ℕ). length b) same
total_alike section other (File inline filesize parts) same = refl
total_alike section other (Basic entries) same = refl
total_alike section other (Shard slots) same = refl
total_alike section other (Symlink target) same = refl

-- of a DAG whose root is that block, of a file's kind
root_says : TotalIsLength → (root : CidParts) (block : List ℕ) (kind : Kind) (d : Dag) → IsFileKind kind → IsSound d → RootIs kind block d
    → SaysTotal (total_of (record { cid = root; block = block }) kind) d
root_says sizes root block kind (unopened cid) file sound is = absurd is
root_says sizes root block kind (bare section fault) file sound is = absurd is
root_says sizes root block kind (node section other children) file sound is =
    let there : IsFileKind other = subst (λ (k : Kind). IsFileKind k) is.0 file in
    let total : total_of section other ≡ total_of (record { cid = root; block = block }) kind =
    total_alike section (record { cid = root; block = block }) other is.1
    ∙ ap (λ (k : Kind). total_of (record { cid = root; block = block }) k) (sym is.0)
    in
    record { file = there; total_is = total; length_is = sizes (node section other children) sound there ∙ total }

told : TotalIsLength → (root : CidParts) (connections : List Connection) (total : ℕ) (d : Dag) (r : IsRootOfFile root connections total)
    → IsSound d → SaysRoot root r.block d ⊎ CollisionPair (all_sections connections) d
    → SaysTotal total d ⊎ CollisionPair (all_sections connections) d
told sizes root connections total d r sound (inl says) =
    let declared : SaysTotal (total_of (record { cid = root; block = r.block }) r.kind) d =
    root_says sizes root r.block r.kind d r.file sound (says.read_as r.kind r.reads)
    in
    inl (subst (λ (n : ℕ). SaysTotal n d) (sym r.total_is) declared)
told sizes root connections total d r sound (inr pair) = inr pair

pub total_is_told : Computes → TotalIsLength → TotalIsTold
total_is_told computes sizes root connections total d r sound named =
    told sizes root connections total d r sound (root_is_read computes root connections r.block d r.block_is sound named)

pub roots_stay : RootsStay
roots_stay connections more root block h = record { accepted = accepted_stay connections more (root_query root) block h.accepted; bytes = h.bytes }

pub totals_stay : TotalsStay
totals_stay connections more root total h =
    record { block = h.block; block_is = roots_stay connections more root h.block h.block_is; kind = h.kind; reads = h.reads; file = h.file; total_is = h.total_is }
