-- The records of a bundle, what each of them says, and which a DAG has, by link order, each child shard's in the child's place (UnixFS
-- specification, Directory and HAMTDirectory; bundles are this project's own).
use Rattle.std.specs.List.{flat_map}
use Rattle.std.specs.Prelude.{List, None, Option, Some, [], length, ℕ, ◌++◌, ◌∷◌}
use Rattle.tg_bytes.specs.Ascii.{line_feed, slash}
use Rattle.tg_model.specs.Content.{content}
use Rattle.tg_model.specs.Dag.{Children, Dag, bare, no_child, node, unopened, with_child}
use Rattle.tg_model.specs.Texts.{dir_line, file_line, joined, link_line}
use Rattle.tg_model.specs.declared.kinds.Entry.{Entry}
use Rattle.tg_model.specs.declared.kinds.Kind.TheVariants.{Basic, File, Raw, Shard, Symlink}
use Rattle.tg_model.specs.declared.kinds.Slot.{Slot}

-- a folder, a file with its bytes, or a symbolic link with its target, each at a path of names below what the bundle is of
pub data Record : Type 0 where
  folder : List (List ℕ) → Record
  file : List (List ℕ) → List ℕ → Record
  link : List (List ℕ) → List ℕ → Record

-- a path as a bundle writes it: a slash, and behind it the escaped names, a slash between each two
abbrev pub joined_all : List ℕ → List (List ℕ) → List ℕ
joined_all path [] = path
joined_all path (name ∷ names) = joined_all (joined path name) names

abbrev pub path_text : List (List ℕ) → List ℕ
path_text names = joined_all (slash ∷ []) names

abbrev pub record_text : Record → List ℕ
record_text (folder path) = dir_line (path_text path)
record_text (file path bytes) = file_line (length bytes) (path_text path) ++ (bytes ++ line_feed ∷ [])
record_text (link path target) = link_line (length target) (path_text path) ++ (target ++ line_feed ∷ [])

abbrev pub bundle_text : List Record → List ℕ
bundle_text records = flat_map record_text records

-- an entry's records, or those in a child shard
abbrev pub slot_records : (List ℕ → List Record) → List Record → Option (List ℕ) → List Record
slot_records entry inside (Some name) = entry name
slot_records entry inside None = inside

abbrev mutual
  pub records_of : List (List ℕ) → Dag → List Record
  records_of path (unopened cid) = []
  records_of path (bare section fault) = []
  records_of path (node section Raw children) = file path section.block ∷ []
  records_of path (node section (File inline filesize parts) children) =
      file path (content (node section (File inline filesize parts) children)) ∷ []
  records_of path (node section (Basic es) children) = folder path ∷ records_of_entries path es children
  records_of path (node section (Shard slots) children) = folder path ∷ records_of_slots path slots children
  records_of path (node section (Symlink target) children) = link path target ∷ []

  pub records_of_entries : List (List ℕ) → List Entry → Children → List Record
  records_of_entries path entries no_child = []
  records_of_entries path [] (with_child d children) = []
  records_of_entries path (entry ∷ entries) (with_child d children) =
      records_of (path ++ entry.name ∷ []) d ++ records_of_entries path entries children

  pub records_of_slots : List (List ℕ) → List Slot → Children → List Record
  records_of_slots path slots no_child = []
  records_of_slots path [] (with_child d children) = []
  records_of_slots path (slot ∷ slots) (with_child d children) =
      slot_records (λ name. records_of (path ++ name ∷ []) d) (records_inside path d) slot.name ++ records_of_slots path slots children

  pub records_inside : List (List ℕ) → Dag → List Record
  records_inside path (unopened cid) = []
  records_inside path (bare section fault) = []
  records_inside path (node section Raw children) = []
  records_inside path (node section (File inline filesize parts) children) = []
  records_inside path (node section (Basic es) children) = []
  records_inside path (node section (Shard slots) children) = records_of_slots path slots children
  records_inside path (node section (Symlink target) children) = []
