-- The weight of a directory, and the most bytes of its block.
use Rattle.std.proofs.Common.{◌≡◌, ◌*◌, ◌+◌, ◌<◌, ◌≤◌, ℕ, List, [], ◌∷◌, length, get_or, take, inr, refl, ap, sym, ◌∙◌, subst, arith}
use Rattle.std.specs.List.{sum_by}
use Rattle.std.specs.Prelude.{All}
use Rattle.std.proofs.lemmas.List.{length-take-le}
use Rattle.std.proofs.lemmas.List.Elements.{All-head, All-tail, All-weaker}
use Rattle.std.proofs.lemmas.List.Sums.{sum_by-cons, sum_by_more}
use Rattle.tg_cid.specs.Cid.{CidParts}
use Rattle.tg_cid.specs.CodeLaws.{v1_length}
use Rattle.tg_cid.specs.Computed.{v1_bytes}
use Rattle.tg_cid.specs.Spelling.{CidBytes, CidV1Bytes, IsDigestSize}
use Rattle.tg_cid.specs.declared.cid.HashKind.{HashKind}
use Rattle.tg_cid.specs.declared.cid.HashKind.TheVariants.{Sha256}
use Rattle.tg_dagpb.specs.declared.Link.{Link}
use Rattle.tg_cid.specs.Limits.{max_block_len}
use Rattle.tg_dir.specs.Weights.{weight_for, weight_in}
use Rattle.tg_hamt.specs.Order.{IsGoodEntry}
use Rattle.tg_model.specs.ImportLayout.{basic_unix}
use Rattle.tg_model.specs.declared.kinds.NewEntry.{NewEntry}
use Rattle.tg_unixfs.specs.declared.Unix.{Unix}
use Rattle.tg_node_writing.specs.Nodes.{AreLinksFor, IsNodeOf, IsOfSha256, link_room, node_room}

pub all_plain : (es : List NewEntry) → All IsGoodEntry es → All IsOfSha256 es
all_plain es good = All-weaker IsGoodEntry IsOfSha256 (λ e h. h.plain) es good

-- a digest has the size that its hash gives, where the CID is spelled
abbrev pub HasDigestSize : Type 0
HasDigestSize = (cid : CidParts) (bytes : List ℕ) → CidBytes cid bytes → IsDigestSize cid.hash (length cid.digest)

entry_weight : HasDigestSize → (e : NewEntry) (bytes : List ℕ) → CidBytes e.cid bytes → e.cid.hash ≡ Sha256 → weight_in e ≡ length e.name + 36
entry_weight sizes e bytes spelled plain =
    let size : length e.cid.digest ≡ 32 = subst (λ (h : HashKind). IsDigestSize h (length e.cid.digest)) plain (sizes e.cid bytes spelled) in
    ap (λ (n : ℕ). length e.name + n) (v1_length e.cid size)

-- the names of the entries of a node, and what their links take besides
links_weight : HasDigestSize → (es : List NewEntry) (links : List Link) → AreLinksFor es links → All IsOfSha256 es → weight_for es + 35 * length es ≡ sum_by link_room es
links_weight sizes [] links are plain = refl
links_weight sizes (e ∷ es) [] are plain = absurd are
links_weight sizes (e ∷ es) (link ∷ links) are plain =
    let here = entry_weight sizes e link.hash are.0.0 (All-head IsOfSha256 e es plain) in
    let rest = links_weight sizes es links are.1 (All-tail IsOfSha256 e es plain) in
    let weights = sum_by-cons weight_in e es in
    let rooms = sum_by-cons link_room e es in
    omega (arith, here, rest, weights, rooms)

links_least : HasDigestSize → (es : List NewEntry) (links : List Link) → AreLinksFor es links → All IsOfSha256 es → 36 * length es ≤ weight_for es
links_least sizes [] links are plain = omega arith
links_least sizes (e ∷ es) [] are plain = absurd are
links_least sizes (e ∷ es) (link ∷ links) are plain =
    let here = entry_weight sizes e link.hash are.0.0 (All-head IsOfSha256 e es plain) in
    let rest = links_least sizes es links are.1 (All-tail IsOfSha256 e es plain) in
    let weights = sum_by-cons weight_in e es in
    omega (arith, here, rest, weights)

-- what the length of a written node is at most
abbrev pub HasRoom : Type 0
HasRoom = (entries : List NewEntry) (unix : Unix) (block : List ℕ) → IsNodeOf entries unix block → All IsOfSha256 entries → length block ≤ node_room entries unix

pub block_small : HasRoom → HasDigestSize → (es : List NewEntry) (block : List ℕ) → All IsOfSha256 es → weight_for es ≤ 1048576 → IsNodeOf es basic_unix block → length block ≤ max_block_len
block_small room sizes es block plain light written =
    let most = room es basic_unix block written plain in
    let links = links_weight sizes es written.links written.links_are plain in
    let least = links_least sizes es written.links written.links_are plain in
    omega (arith, most, links, least, light)

-- ---- one more entry

abbrev pub HasV1Bytes : Type 0
HasV1Bytes = (cid : CidParts) (bytes : List ℕ) → CidBytes cid bytes → CidV1Bytes (record cid { version = 1 }) (v1_bytes cid)

abbrev pub HasOneSpelling : Type 0
HasOneSpelling = (cid : CidParts) (u v : List ℕ) → CidBytes cid u → CidBytes cid v → u ≡ v

pub next_weight : HasV1Bytes → HasOneSpelling → (es : List NewEntry) (i : ℕ) (e : NewEntry) (text : List ℕ) (name : List ℕ) (size weight : ℕ)
    → i < length es → e ≡ get_or es i e → name ≡ e.name → length e.name ≤ 255 → size ≤ 133 → length text ≡ 133 → CidBytes (record e.cid { version = 1 }) (take size text)
    → weight ≡ weight_for (take i es) → weight ≤ 388 * i → (weight + (length name + size) ≡ weight_for (take (i + 1) es)) × (weight + (length name + size) ≤ 388 * (i + 1))
next_weight v1 one es i e text name size weight inside is named short few long spelled sum most =
    let cid = record e.cid { version = 1 } in
    let same : take size text ≡ v1_bytes cid = one cid (take size text) (v1_bytes cid) spelled (inr (v1 cid (take size text) spelled)) in
    let count : size ≡ length (v1_bytes e.cid) = sym (length-take-le size text (omega (arith, few, long))) ∙ ap length same in
    let more = sum_by_more weight_in es i e inside in
    let here : weight_in (get_or es i e) ≡ weight_in e = ap weight_in (sym is) in
    let names = ap length named in
    (omega (arith, sum, more, here, names, count), omega (arith, most, names, short, few))
