-- The block of a node as a writer writes it (IPLD specification, DAG-PB, Serial Format; UnixFS specification, Data
-- Format).
use Rattle.std.specs.List.{sum_by}
use Rattle.std.specs.Prelude.{List, Some, [], length, map, ℕ, ⊤, ◌*◌, ◌+◌, ◌∷◌, ◌≡◌}
use Rattle.tg_cid.specs.Spelling.{CidBytes}
use Rattle.tg_cid.specs.declared.cid.HashKind.TheVariants.{Sha256}
use Rattle.tg_dagpb.specs.Node.{CanonicalText}
use Rattle.tg_dagpb.specs.declared.Link.{Link}
use Rattle.tg_model.specs.Dag.{Children, no_child, root_cid, with_child}
use Rattle.tg_model.specs.ImportLayout.{IsWritten, tsize_of}
use Rattle.tg_model.specs.Reading.{IsUnixNode, inline_of, name_of}
use Rattle.tg_model.specs.declared.kinds.NewEntry.{NewEntry}
use Rattle.tg_unixfs.specs.Unix.{CanonicalText as CanonicalData}
use Rattle.tg_unixfs.specs.declared.Unix.{Unix}

-- the links for these entries, one by one: the CID's bytes, the name, which stands also where it is empty, and the
-- Tsize
abbrev pub IsLinkFor : NewEntry → Link → Type 0
IsLinkFor entry link = CidBytes entry.cid link.hash × (link.name ≡ Some entry.name) × (link.tsize ≡ Some entry.tsize)

abbrev pub AreLinksFor : List NewEntry → List Link → Type 0
AreLinksFor [] [] = ⊤
AreLinksFor (entry ∷ entries) (link ∷ links) = IsLinkFor entry link × AreLinksFor entries links
AreLinksFor [] (link ∷ links) = ⊥
AreLinksFor (entry ∷ entries) [] = ⊥

-- the block is the canonical text of the node with the links for these entries and with this data
pub record IsNodeOf (entries : List NewEntry) (unix : Unix) (block : List ℕ) : Type 0 where
  pub links : List Link
  pub payload : List ℕ
  pub text : CanonicalText (record { links = links; payload = Some payload }) block
  pub unix_is : CanonicalData unix payload
  pub links_are : AreLinksFor entries links

-- the entries tell the CIDs and the Tsizes of these DAGs, one by one
abbrev pub LeadTo : List NewEntry → Children → Type 0
LeadTo [] no_child = ⊤
LeadTo (entry ∷ entries) (with_child d children) =
    (entry.cid ≡ root_cid d) × (entry.tsize ≡ tsize_of d) × LeadTo entries children
LeadTo [] (with_child d children) = ⊥
LeadTo (entry ∷ entries) no_child = ⊥

-- a node's block is written over the DAGs to which its entries lead, and it is a UnixFS node with their CIDs and names
pub record NodeLaws : Type 0 where
  pub written : (entries : List NewEntry) (unix : Unix) (block : List ℕ) (children : Children)
      → IsNodeOf entries unix block → LeadTo entries children
      → IsWritten block (map (λ e. e.name) entries) children unix
  pub unix_node : (entries : List NewEntry) (unix : Unix) (block : List ℕ) → IsNodeOf entries unix block
      → (links : List Link) × IsUnixNode block links (map (λ e. e.cid) entries) unix × (map name_of links ≡ map (λ e. e.name) entries)

-- how many bytes a link takes at most where its CID is of sha2-256, and a node
abbrev pub link_room : NewEntry → ℕ
link_room entry = length entry.name + 71

abbrev pub IsOfSha256 : NewEntry → Type 0
IsOfSha256 entry = entry.cid.hash ≡ Sha256

abbrev pub node_room : List NewEntry → Unix → ℕ
node_room entries unix = sum_by link_room entries + 11 * length unix.sizes + length (inline_of unix) + 66
