-- The answer of a DAG to a query, by its content, its entries and its paths (Trustless Gateway specification,
-- dag-scope; the texts of listings and bundles are this project's own).
use Rattle.tg_model.specs.declared.queries.Scope.TheVariants as scopes
use Rattle.tg_bytes.specs.Ascii.{line_feed, slash}
use Rattle.std.specs.Prelude.{Bool, false, List, None, Option, Some, [], length, map, ℕ, ◌++◌, ◌∷◌}
use Rattle.tg_model.specs.ByteRanges.{slice_of}
use Rattle.tg_model.specs.Content.{DirEntry, content, content_of_children, entries, part_positions}
use Rattle.tg_model.specs.Dag.{Dag, Children, bare, with_child, no_child, node, root_cid, total_of, unopened}
use Rattle.tg_model.specs.Lookup.{LookupEnd, is_directory, found, lookup_path, not_folder, not_there}
use Rattle.tg_model.specs.Queries.{QueryParts, SpanParts}
use Rattle.tg_model.specs.Sound.{top}
use Rattle.tg_model.specs.Texts.{Named, dir_line, file_line, joined, link_line, listing}
use Rattle.tg_model.specs.declared.kinds.Entry.{Entry}
use Rattle.tg_model.specs.declared.kinds.Kind.TheVariants.{Basic, File, Raw, Shard, Symlink}
use Rattle.tg_model.specs.declared.kinds.Slot.{Slot}
use Rattle.tg_model.specs.declared.queries.Scope.{Scope}

-- the listing of a directory
abbrev pub named_of : DirEntry → Named
named_of entry = record { name = entry.name; cid = root_cid entry.dag }

abbrev pub listing_of : Dag → List ℕ
listing_of d = listing (map named_of (entries d))

-- the bundle of what stands at a path: a record for it, and for a directory those of its entries in link order, each
-- child shard's in the child's place
abbrev pub slot_bundle : (List ℕ → List ℕ) → List ℕ → Option (List ℕ) → List ℕ
slot_bundle entry inside (Some name) = entry name
slot_bundle entry inside None = inside

abbrev mutual
  pub bundle : List ℕ → Dag → List ℕ
  bundle path (unopened cid) = []
  bundle path (bare section fault) = []
  bundle path (node section Raw children) = file_line (total_of section Raw) path ++ (section.block ++ line_feed ∷ [])
  bundle path (node section (File inline filesize parts) children) =
      file_line (total_of section (File inline filesize parts)) path ++ (inline ++ (content_of_children (part_positions top (File inline filesize parts)) children ++ line_feed ∷ []))
  bundle path (node section (Basic es) children) = dir_line path ++ bundle_of_entries path es children
  bundle path (node section (Shard slots) children) = dir_line path ++ bundle_of_slots path slots children
  bundle path (node section (Symlink target) children) = link_line (length target) path ++ (target ++ line_feed ∷ [])

  pub bundle_of_entries : List ℕ → List Entry → Children → List ℕ
  bundle_of_entries path entries no_child = []
  bundle_of_entries path [] (with_child d children) = []
  bundle_of_entries path (entry ∷ entries) (with_child d children) =
      bundle (joined path entry.name) d ++ bundle_of_entries path entries children

  pub bundle_of_slots : List ℕ → List Slot → Children → List ℕ
  bundle_of_slots path slots no_child = []
  bundle_of_slots path [] (with_child d children) = []
  bundle_of_slots path (slot ∷ slots) (with_child d children) =
      slot_bundle (λ name. bundle (joined path name) d) (bundle_inside path d) slot.name ++ bundle_of_slots path slots children

  pub bundle_inside : List ℕ → Dag → List ℕ
  bundle_inside path (unopened cid) = []
  bundle_inside path (bare section fault) = []
  bundle_inside path (node section Raw children) = []
  bundle_inside path (node section (File inline filesize parts) children) = []
  bundle_inside path (node section (Basic es) children) = []
  bundle_inside path (node section (Shard slots) children) = bundle_of_slots path slots children
  bundle_inside path (node section (Symlink target) children) = []

-- what a node says by scope: its block; a file's content or the range of it, a target, a listing; a content, a target,
-- or a bundle
abbrev pub content_text : Option SpanParts → List ℕ → List ℕ
content_text None bytes = bytes
content_text (Some span) bytes = slice_of bytes span

abbrev pub entity_text : Option SpanParts → Dag → List ℕ
entity_text span (unopened cid) = []
entity_text span (bare section fault) = []
entity_text span (node section Raw children) = content_text span (content (node section Raw children))
entity_text span (node section (File inline filesize parts) children) =
    content_text span (content (node section (File inline filesize parts) children))
entity_text span (node section (Basic es) children) = listing_of (node section (Basic es) children)
entity_text span (node section (Shard slots) children) = listing_of (node section (Shard slots) children)
entity_text span (node section (Symlink target) children) = target

abbrev pub all_text : Dag → List ℕ
all_text (unopened cid) = []
all_text (bare section fault) = []
all_text (node section Raw children) = content (node section Raw children)
all_text (node section (File inline filesize parts) children) =
    content (node section (File inline filesize parts) children)
all_text (node section (Basic es) children) = bundle (slash ∷ []) (node section (Basic es) children)
all_text (node section (Shard slots) children) = bundle (slash ∷ []) (node section (Shard slots) children)
all_text (node section (Symlink target) children) = target

abbrev pub block_of : Dag → List ℕ
block_of (unopened cid) = []
block_of (bare section fault) = section.block
block_of (node section kind children) = section.block

abbrev pub node_text : Scope → Option SpanParts → Dag → List ℕ
node_text scopes.Block span d = block_of d
node_text scopes.Entity span d = entity_text span d
node_text scopes.All span d = all_text d

-- a terminal of which the listing is asked for
abbrev pub is_listed : Scope → Dag → Bool
is_listed scopes.Block d = false
is_listed scopes.Entity d = is_directory d
is_listed scopes.All d = false

-- the answer: what the node at the path says, and none where the path leads to none
abbrev pub answer_at : QueryParts → LookupEnd → Option (List ℕ)
answer_at q (found d) = Some (node_text q.scope q.span d)
answer_at q (not_there i) = None
answer_at q (not_folder i) = None

abbrev pub answer : QueryParts → Dag → Option (List ℕ)
answer q d = answer_at q (lookup_path q.path d)
