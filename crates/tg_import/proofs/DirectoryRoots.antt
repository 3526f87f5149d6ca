-- The root of a directory has a CID of dag-pb, and that of a whole DAG of plain CIDs is plain.
use Rattle.std.proofs.Common.{◌≡◌, ◌≢◌, ⊎_elim, ℕ, List, Option, ap, subst, refl, ◌∙◌}
use Rattle.std.specs.Prelude.{All}
use Rattle.std.proofs.lemmas.List.Elements.{All-contains}
use Rattle.tg_cid.specs.Cid.{CidParts}
use Rattle.tg_cid.specs.declared.cid.Codec.TheVariants as codecs
use Rattle.tg_cid.specs.declared.cid.Codec.{Codec}
use Rattle.tg_cid.specs.declared.cid.HashKind.TheVariants.{Sha256}
use Rattle.tg_dir.specs.Made.{IsBasic, IsSharded, MakesDirectory}
use Rattle.tg_dir.specs.Weights.{weight_for}
use Rattle.tg_import.proofs.FoldersMade.{made_which, sound_all}
use Rattle.tg_import.proofs.Listings.{first_is}
use Rattle.tg_import.specs.Imported.{AreImported}
use Rattle.tg_import.specs.declared.summary.Options.{Options}
use Rattle.tg_model.specs.Dag.{Children, Dag, IsWhole, bare, blocks, blocks_of_children, node, root_cid, unopened}
use Rattle.tg_model.specs.ImportLayout.{HasPlainCid}
use Rattle.tg_model.specs.Reading.{ReadsUnder}
use Rattle.tg_model.specs.Sound.{IsSound}
use Rattle.tg_model.specs.Stores.{Keeping}
use Rattle.tg_model.specs.declared.kinds.Kind.TheVariants.{Basic, Raw, Shard}
use Rattle.tg_model.specs.declared.kinds.Kind.{Kind}
use Rattle.tg_model.specs.declared.kinds.Made.{Made}
use Rattle.tg_model.specs.declared.kinds.NewEntry.{NewEntry}
use Rattle.tg_tree.specs.declared.items.Item.{Item}
use Rattle.tg_tree.specs.declared.tree.Tree.{Tree}
use Rattle.tg_node_writing.specs.Nodes.{LeadTo}

-- under a raw CID a block reads as raw alone
read_under_dag_pb : (codec : Codec) (block : List ℕ) (kind : Kind) → kind ≢ Raw → ReadsUnder codec block kind → codec ≡ codecs.DagPb
read_under_dag_pb codecs.Raw block kind other reads = absurd (other reads)
read_under_dag_pb codecs.DagPb block kind other reads = refl

sharded_codec : (d : Dag) → IsSound d → IsSharded d → (root_cid d).codec ≡ codecs.DagPb
sharded_codec d sound h =
    let at = (subst IsSound h.3 sound).checked.0 in
    ap (λ (x : Dag). (root_cid x).codec) h.3 ∙ read_under_dag_pb h.0.cid.codec h.0.block (Shard h.1) (λ e. (cc)) at.reads

basic_codec : (d : Dag) → IsSound d → IsBasic d → (root_cid d).codec ≡ codecs.DagPb
basic_codec d sound h =
    let at = (subst IsSound h.3 sound).checked.0 in
    ap (λ (x : Dag). (root_cid x).codec) h.3 ∙ read_under_dag_pb h.0.cid.codec h.0.block (Basic h.1) (λ e. (cc)) at.reads

-- the directory of entries that were all imported
pub directory_codec : (options : Options) (told : Option Tree) (path : List (List ℕ)) (items : List Item) (new : List NewEntry) (children : Children) (threshold : ℕ) (made : Made) (keeping : Keeping)
    → AreImported options told path items children → LeadTo new children → MakesDirectory threshold new made keeping → made.cid.codec ≡ codecs.DagPb
directory_codec options told path items new children threshold made keeping imported lead makes =
    let found = makes.directory children lead (sound_all options told path items children imported) in
    let d = found.0 in
    let sound = found.1.directory.sound in
    ap (λ (c : CidParts). c.codec) found.1.directory.cid
    ∙ ⊎_elim (λ (h : IsSharded d). sharded_codec d sound h) (λ (h : IsBasic d). basic_codec d sound h) (made_which threshold (weight_for new) d found.1.sharded found.1.basic)

-- the root's block is among the blocks
pub root_plain : (d : Dag) → IsWhole d → All HasPlainCid (blocks d) → ((root_cid d).version ≡ 1) × ((root_cid d).hash ≡ Sha256)
root_plain (unopened cid) whole plain = absurd whole
root_plain (bare section fault) whole plain = absurd whole
root_plain (node section kind children) whole plain = All-contains HasPlainCid (blocks (node section kind children)) section plain (first_is section (blocks_of_children children))
