-- What a frame of an opened block stands for: the tasks that its children leave, and a line's end behind them.
use Rattle.tg_traversal.specs.declared.frame.ChildrenLeft.TheVariants as left
use Rattle.std.specs.Prelude.{Bool, Err, List, None, Ok, Option, Result, Some, [], drop, false, length, map, reverse}
use Rattle.std.specs.Prelude.{sum, true, ⊤, ℕ, ◌+◌, ◌++◌, ◌-◌, ◌<◌, ◌^◌, ◌∷◌, ◌≡◌, ◌≤◌}
use Rattle.tg_bytes.specs.Ascii.{line_feed}
use Rattle.tg_cid.specs.Cid.{CidParts}
use Rattle.tg_cid.specs.declared.cid.Codec.TheVariants as codecs
use Rattle.tg_traversal.specs.Places.{directory_reach, want_of}
use Rattle.tg_traversal.specs.declared.frame.ChildrenLeft.{ChildrenLeft}
use Rattle.tg_traversal.specs.declared.frame.EntriesLeft.{EntriesLeft}
use Rattle.tg_traversal.specs.declared.frame.Frame.{Frame}
use Rattle.tg_traversal.specs.declared.frame.PartsLeft.{PartsLeft}
use Rattle.tg_traversal.specs.declared.frame.SlotsLeft.{SlotsLeft}
use Rattle.tg_traversal.specs.declared.frame.Visited.{Visited}
use Rattle.tg_traversal.specs.declared.position.Place.{Place}
use Rattle.tg_model.specs.Computed.{read_under}
use Rattle.tg_model.specs.Placed.{ArePartsAhead}
use Rattle.tg_model.specs.Sound.{child, part}
use Rattle.tg_model.specs.Traversal.{ListedEntry, Visit, entire, entry_visit, part_visits, slot_visit}
use Rattle.tg_model.specs.declared.fault.BlockFault.{BlockFault}
use Rattle.tg_model.specs.declared.kinds.Entry.{Entry}
use Rattle.tg_model.specs.declared.kinds.Kind.TheVariants.{Basic, File, Raw, Shard, Symlink}
use Rattle.tg_model.specs.declared.kinds.Kind.{Kind}
use Rattle.tg_model.specs.declared.kinds.Part.{Part}
use Rattle.tg_model.specs.declared.kinds.Slot.{Slot}
use Rattle.tg_model_laws.specs.Tasks.{Task, children_tasks, give_entries, open_block, text_last}

-- ---- the parts of a file

-- the parts of the file that a block is
abbrev pub parts_of_kind : Kind → List Part
parts_of_kind Raw = []
parts_of_kind (File inline filesize parts) = parts
parts_of_kind (Basic entries) = []
parts_of_kind (Shard slots) = []
parts_of_kind (Symlink target) = []

abbrev pub parts_found : Result Kind BlockFault → List Part
parts_found (Ok kind) = parts_of_kind kind
parts_found (Err fault) = []

abbrev pub block_parts : List ℕ → List Part
block_parts block = parts_found (read_under codecs.DagPb block)

-- the last of them, so many
abbrev pub last_parts : List ℕ → ℕ → List Part
last_parts block count = drop (length (block_parts block) - count) (block_parts block)

-- what is done at parts of which the first begins at `from`: each is gone into, or those that a range meets
abbrev pub visits_from : Option (ℕ × ℕ) → ℕ → List Part → List Visit
visits_from None from parts = map (λ p. record { met = []; into = Some (entire, part p.size) }) parts
visits_from (Some range) from parts = part_visits range.0 range.1 from parts

-- the tasks of the parts that are left
abbrev pub part_tasks : ℕ → PartsLeft → List (Task CidParts)
part_tasks depth p =
    let parts = last_parts p.block p.count in
    children_tasks (visits_from p.range p.from parts) depth (map (λ part. part.cid) parts)

-- they are ahead of the cursor, and a number tells where each begins and ends
pub record ArePartsLeft (p : PartsLeft) : Type 0 where
  pub few : p.count ≤ length (block_parts p.block)
  pub ahead : ArePartsAhead p.block p.cursor (last_parts p.block p.count)
  pub sized : p.from + sum (map (λ part. part.size) (last_parts p.block p.count)) < 2 ^ 64

-- ---- the entries of a directory and the slots of a shard, of which the last is the next

abbrev pub entry_tasks : ℕ → EntriesLeft → List (Task CidParts)
entry_tasks depth e =
    children_tasks (map (λ entry. entry_visit (directory_reach e.path) entry.name entry.cid) (reverse e.entries.items)) depth (map (λ entry. entry.cid) (reverse e.entries.items))

abbrev pub slot_tasks : ℕ → SlotsLeft → List (Task CidParts)
slot_tasks depth s =
    children_tasks (map (slot_visit (directory_reach s.path) (child s.above)) (reverse s.slots.items)) depth (map (λ slot. slot.cid) (reverse s.slots.items))

-- the entry in a slot
abbrev pub named_entry : CidParts → Option (List ℕ) → Option Entry
named_entry cid None = None
named_entry cid (Some name) = Some (record { name = name; cid = cid })

abbrev pub entry_in : Slot → Option Entry
entry_in slot = named_entry slot.cid slot.name

-- ---- frames

abbrev pub children_left : ℕ → ChildrenLeft → List (Task CidParts)
children_left depth left.Nothing = []
children_left depth (left.Parts parts) = part_tasks depth parts
children_left depth (left.Entries entries) = entry_tasks depth entries
children_left depth (left.Slots slots) = slot_tasks depth slots

abbrev pub line_of : Bool → List ℕ
line_of true = line_feed ∷ []
line_of false = []

-- what of an opened block is to come
abbrev pub frame_tasks : Frame → List (Task CidParts)
frame_tasks frame = children_left frame.depth frame.children ++ text_last (line_of frame.line)

abbrev pub AreLeft : ChildrenLeft → Type 0
AreLeft left.Nothing = ⊤
AreLeft (left.Parts parts) = ArePartsLeft parts
AreLeft (left.Entries entries) = ⊤
AreLeft (left.Slots slots) = length slots.above < 8

abbrev pub IsFrame : Frame → Type 0
IsFrame frame = AreLeft frame.children

-- ---- what is done at a link

-- the path of the directory of which entries are met; a listed directory has the empty one
abbrev pub directory_at : Option (List ℕ) → List ℕ
directory_at None = []
directory_at (Some path) = path

abbrev pub directory_of : ChildrenLeft → List ℕ
directory_of left.Nothing = []
directory_of (left.Parts parts) = []
directory_of (left.Entries entries) = directory_at entries.path
directory_of (left.Slots slots) = directory_at slots.path

abbrev pub listed_at : List ℕ → Entry → ListedEntry
listed_at directory entry = record { directory = directory; name = entry.name; cid = entry.cid }

abbrev pub met_tasks : List ℕ → Option Entry → List (Task CidParts)
met_tasks directory None = []
met_tasks directory (Some entry) = give_entries (listed_at directory entry ∷ []) ∷ []

-- a place of a child is the same whatever the path of the query is
abbrev pub into_tasks : Option Place → List (Task CidParts)
into_tasks None = []
into_tasks (Some place) = open_block (want_of [] place.ask place.depth) place.cid ∷ []

-- the place of a child, and not of a segment or a terminal
abbrev pub IsOfChild : Option Place → Type 0
IsOfChild None = ⊤
IsOfChild (Some place) = (path : List (List ℕ)) → want_of path place.ask place.depth ≡ want_of [] place.ask place.depth

-- what is done there comes first of the tasks `old`, and then come those of `new`; where nothing is done, nothing is
-- left
abbrev pub IsDone : Option Entry → Option Place → List (Task CidParts) → Type 0
IsDone None None old = old ≡ []
IsDone None (Some place) old = ⊤
IsDone (Some entry) into old = ⊤

-- an entry is met, or a child is gone into
abbrev pub IsSomething : Option Entry → Option Place → Type 0
IsSomething None None = ⊥
IsSomething None (Some place) = ⊤
IsSomething (Some entry) into = ⊤

pub record AreVisited (directory : List ℕ) (visited : Visited) (old new : List (Task CidParts)) : Type 0 where
  pub first : old ≡ met_tasks directory visited.met ++ into_tasks visited.into ++ new
  pub sized : visited.directory ≡ length directory
  pub done : IsDone visited.met visited.into old
  pub of_child : IsOfChild visited.into

abbrev pub ArePartsVisited : ℕ → PartsLeft → Option Place → PartsLeft → Type 0
ArePartsVisited depth old into new =
    AreVisited [] (record { met = None; into = into; directory = 0 }) (part_tasks depth old) (part_tasks depth new)

abbrev pub AreEntriesVisited : ℕ → EntriesLeft → Visited → EntriesLeft → Type 0
AreEntriesVisited depth old visited new =
    (new.path ≡ old.path) × AreVisited (directory_at old.path) visited (entry_tasks depth old) (entry_tasks depth new)

abbrev pub AreSlotsVisited : ℕ → SlotsLeft → Visited → SlotsLeft → Type 0
AreSlotsVisited depth old visited new =
    (new.path ≡ old.path) × AreVisited (directory_at old.path) visited (slot_tasks depth old) (slot_tasks depth new)

pub record IsVisited (old : Frame) (visited : Visited) (new : Frame) : Type 0 where
  pub depth : new.depth ≡ old.depth
  pub children : AreVisited (directory_of old.children) visited (children_left old.depth old.children) (children_left new.depth new.children)
