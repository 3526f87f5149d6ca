-- A directory in one block (UnixFS specification, Directory).
use Rattle.std.specs.List.Sorted.{IsPermutation, IsSortedByKey}
use Rattle.std.specs.List.{sum_by}
use Rattle.std.specs.Prelude.{List, [], length, ℕ, ◌+◌, ◌∷◌, ◌≡◌}
use Rattle.tg_bytes.specs.Order.{bytes_cmp}
use Rattle.tg_cid.specs.declared.cid.Codec.TheVariants.{DagPb}
use Rattle.tg_model.specs.ImportLayout.{basic_unix}
use Rattle.tg_model.specs.Stores.{Keeping}
use Rattle.tg_model.specs.declared.kinds.Made.{Made}
use Rattle.tg_model.specs.declared.kinds.NewEntry.{NewEntry}
use Rattle.tg_node_writing.specs.Keeping.{Keeps, section_of}
use Rattle.tg_node_writing.specs.Nodes.{IsNodeOf}

-- the block of the directory with these entries, its links in their order, was kept, and of it this is told
pub record IsKeptBlock (sorted : List NewEntry) (made : Made) (keeping : Keeping) : Type 0 where
  pub block : List ℕ
  pub written : IsNodeOf sorted basic_unix block
  pub cid_is : made.cid ≡ (section_of DagPb block).cid
  pub content_is : made.content ≡ 0
  pub tsize_is : made.tsize ≡ length block + sum_by (λ entry. entry.tsize) sorted
  pub keeps : Keeps (section_of DagPb block ∷ []) keeping

-- the block of the directory with these entries was kept, its links in the order of the names' bytes
pub record MakesBasic (new : List NewEntry) (made : Made) (keeping : Keeping) : Type 0 where
  pub sorted : List NewEntry
  pub permutation : IsPermutation new sorted
  pub rises : IsSortedByKey (λ entry. entry.name) bytes_cmp sorted
  pub kept : IsKeptBlock sorted made keeping
