-- The links of a node that is written for entries.
use Rattle.std.proofs.Common.{◌≡◌, ◌<◌, ◌^◌, ℕ, List, Some, [], ◌∷◌, ◌++◌, length, refl, sym, ap, ap₂, ◌∙◌, subst, inl, inr, zero-add}
use Rattle.std.specs.Prelude.{map, sum, unwrap_or}
use Rattle.tg_cid.specs.Cid.{CidParts}
use Rattle.tg_cid.specs.Spelling.{CidBytes}
use Rattle.tg_cid.specs.declared.cid.Codec.{Codec}
use Rattle.tg_cid.specs.declared.cid.Codec.TheVariants.{DagPb}
use Rattle.tg_dagpb.specs.declared.Link.{Link}
use Rattle.tg_model.specs.Dag.{Children, no_child, with_child}
use Rattle.tg_model.specs.ImportLayout.{AreLinks, IsWritten, file_unix}
use Rattle.tg_model.specs.Reading.{AreCids, IsUnixNode, Reads, ReadsUnder, name_of, parts_of}
use Rattle.tg_model.specs.declared.kinds.Kind.{Kind}
use Rattle.tg_model.specs.declared.kinds.Kind.TheVariants.{File}
use Rattle.tg_model.specs.declared.kinds.NewEntry.{NewEntry}
use Rattle.tg_unixfs.specs.declared.Unix.{Unix}
use Rattle.tg_node_writing.specs.Nodes.{AreLinksFor, IsLinkFor, IsNodeOf, LeadTo}

are_links : (entries : List NewEntry) (children : Children) (links : List Link) → LeadTo entries children → AreLinksFor entries links
    → AreLinks (map (λ e. e.name) entries) children links
are_links [] no_child [] lead are = tt
are_links [] no_child (l ∷ links) lead are = absurd are
are_links [] (with_child d children) links lead are = absurd lead
are_links (e ∷ entries) no_child links lead are = absurd lead
are_links (e ∷ entries) (with_child d children) [] lead are = absurd are
are_links (e ∷ entries) (with_child d children) (l ∷ links) lead are =
    (subst (λ (c : CidParts). CidBytes c l.hash) lead.0 are.0.0, are.0.1, are.0.2 ∙ ap (λ (n : ℕ). Some n) lead.1, are_links entries children links lead.2 are.1)

are_cids : (entries : List NewEntry) (links : List Link) → AreLinksFor entries links → AreCids links (map (λ e. e.cid) entries)
are_cids [] [] are = tt
are_cids [] (l ∷ links) are = absurd are
are_cids (e ∷ entries) [] are = absurd are
are_cids (e ∷ entries) (l ∷ links) are = (are.0.0, are_cids entries links are.1)

same_names : (entries : List NewEntry) (links : List Link) → AreLinksFor entries links → map name_of links ≡ map (λ e. e.name) entries
same_names [] [] are = refl
same_names [] (l ∷ links) are = absurd are
same_names (e ∷ entries) [] are = absurd are
same_names (e ∷ entries) (l ∷ links) are =
    ap₂ (λ (x : List ℕ) (xs : List (List ℕ)). x ∷ xs) (ap (λ o. unwrap_or o []) are.0.1) (same_names entries links are.1)

pub are_links_push : (entries : List NewEntry) (links : List Link) (entry : NewEntry) (link : Link) → AreLinksFor entries links → IsLinkFor entry link
    → AreLinksFor (entries ++ entry ∷ []) (links ++ link ∷ [])
are_links_push [] [] entry link are is = (is, tt)
are_links_push [] (l ∷ links) entry link are is = absurd are
are_links_push (e ∷ entries) [] entry link are is = absurd are
are_links_push (e ∷ entries) (l ∷ links) entry link are is = (are.0, are_links_push entries links entry link are.1 is)

as_many : (entries : List NewEntry) (links : List Link) → AreLinksFor entries links → length links ≡ length entries
as_many [] [] are = refl
as_many [] (l ∷ links) are = absurd are
as_many (e ∷ entries) [] are = absurd are
as_many (e ∷ entries) (l ∷ links) are = let h = as_many entries links are.1 in cc

pub node_written : (entries : List NewEntry) (unix : Unix) (block : List ℕ) (children : Children) → IsNodeOf entries unix block → LeadTo entries children
    → IsWritten block (map (λ e. e.name) entries) children unix
node_written entries unix block children h lead = record {
  links = h.links;
  payload = h.payload;
  text = h.text;
  unix_is = h.unix_is;
  links_are = are_links entries children h.links lead h.links_are;
}

pub node_is : (entries : List NewEntry) (unix : Unix) (block : List ℕ) → (h : IsNodeOf entries unix block)
    → IsUnixNode block h.links (map (λ e. e.cid) entries) unix × (map name_of h.links ≡ map (λ e. e.name) entries)
node_is entries unix block h =
    (record { payload = h.payload; node = h.text.is_text; cids_are = are_cids entries h.links h.links_are; unix_is = h.unix_is.is_text }, same_names entries h.links h.links_are)

pub file_reads : (entries : List NewEntry) (total : ℕ) (sizes : List ℕ) (block : List ℕ) (cid : CidParts) → IsNodeOf entries (file_unix total sizes) block
    → length sizes ≡ length entries → sum sizes < 2 ^ 63 → cid.codec ≡ DagPb
    → Reads cid block (File [] (Some total) (parts_of (map (λ e. e.cid) entries) sizes))
file_reads entries total sizes block cid h many fits dag =
    let kind : Kind = File [] (Some total) (parts_of (map (λ e. e.cid) entries) sizes) in
    subst (λ (c : Codec). ReadsUnder c block kind) (sym dag) (record {
      links = h.links;
      cids = map (λ e. e.cid) entries;
      unix = file_unix total sizes;
      node = (node_is entries (file_unix total sizes) block h).0;
      reads = inl (record {
        type_is = inr refl;
        raw = λ e. absurd (cc);
        as_many = many ∙ sym (as_many entries h.links h.links_are);
        fits = subst (λ (n : ℕ). n < 2 ^ 63) (sym (zero-add (sum sizes))) fits;
        kind_is = refl;
      });
    })
