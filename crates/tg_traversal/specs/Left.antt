-- What is left of a traversal: the place whose block is wanted now, and the tasks behind it.
use Rattle.tg_traversal.specs.declared.frames.Next.TheVariants as nexts
use Rattle.tg_traversal.specs.declared.stack.Came.TheVariants as comes
use Rattle.tg_traversal.specs.declared.position.Ask.TheVariants as asks
use Rattle.tg_traversal.specs.declared.position.Position.TheVariants as positions
use Rattle.std.specs.Prelude.{All, Err, IfSome, List, None, Ok, Option, Result, Some, [], length, ⊤, ℕ, ◌++◌, ◌<◌, ◌∷◌, ◌≡◌, ◌⊎◌}
use Rattle.tg_bytes.specs.Ascii.{line_feed}
use Rattle.tg_cid.specs.Cid.{CidParts}
use Rattle.tg_traversal.specs.Frames.{AreVisited, IsFrame, IsSomething, directory_of, frame_tasks, listed_at}
use Rattle.tg_traversal.specs.Places.{missing_of, want_of}
use Rattle.tg_traversal.specs.declared.frame.Frame.{Frame}
use Rattle.tg_traversal.specs.declared.frame.Visited.{Visited}
use Rattle.tg_traversal.specs.declared.frames.Next.{Next}
use Rattle.tg_traversal.specs.declared.stack.Came.{Came}
use Rattle.tg_traversal.specs.declared.position.Ask.{Ask}
use Rattle.tg_traversal.specs.declared.position.Miss.{Miss}
use Rattle.tg_traversal.specs.declared.position.Place.{Place}
use Rattle.tg_traversal.specs.declared.position.Wanted.{Wanted}
use Rattle.tg_model.specs.Computed.{read}
use Rattle.tg_model.specs.Dag.{Section}
use Rattle.tg_model.specs.Placed.{StandsForKind}
use Rattle.tg_model.specs.Queries.{QueryParts}
use Rattle.tg_model.specs.Sound.{Position, position_fault}
use Rattle.tg_model.specs.declared.fault.BlockFault.{BlockFault}
use Rattle.tg_model.specs.declared.fault.BlockFault.TheVariants as faults
use Rattle.tg_model.specs.declared.kinds.Kind.{Kind}
use Rattle.tg_model.specs.declared.placed.PlacedKind.{PlacedKind}
use Rattle.tg_model_laws.specs.Tasks.{Task, Want, depth_of, fault_at, give_entries, give_text, open_block, stop_at}

-- a place that is wanted: what is asked there, and the CID of its block
pub record WantedAt : Type 0 where
  pub want : Want
  pub cid : CidParts

-- what contracts see: the query, the place that is wanted now, and the tasks behind it
pub record LeftState : Type 0 where
  pub query : QueryParts
  pub wanted : Option WantedAt
  pub later : List (Task CidParts)

abbrev pub wanted_tasks : Option WantedAt → List (Task CidParts)
wanted_tasks None = []
wanted_tasks (Some at) = open_block at.want at.cid ∷ []

-- all that is left
abbrev pub tasks_left : LeftState → List (Task CidParts)
tasks_left state = wanted_tasks state.wanted ++ state.later

-- ---- a stack of frames, the last of them the innermost but for the top

abbrev pub wanted_at : List (List ℕ) → Option Place → Option WantedAt
wanted_at path None = None
wanted_at path (Some place) = Some (record { want = want_of path place.ask place.depth; cid = place.cid })

abbrev pub missed_tasks : Option Miss → List (Task CidParts)
missed_tasks None = []
missed_tasks (Some miss) = stop_at (missing_of miss) ∷ []

abbrev pub top_tasks : Option Frame → List (Task CidParts)
top_tasks None = []
top_tasks (Some frame) = frame_tasks frame

abbrev pub stack_tasks : List Frame → List (Task CidParts)
stack_tasks [] = []
stack_tasks (frame ∷ frames) = stack_tasks frames ++ frame_tasks frame

-- nothing lies below no frame
abbrev pub IsStack : Option Frame → List Frame → Type 0
IsStack None below = below ≡ []
IsStack (Some frame) below = IsFrame frame × All IsFrame below

-- a block is wanted, or a segment led nowhere, or neither
abbrev pub HasOneAtMost : Option Place → Option Miss → Type 0
HasOneAtMost None missed = ⊤
HasOneAtMost (Some place) missed = missed ≡ None

-- a segment that is asked for is one of the path, and stands at the top or in a shard
abbrev pub IsOnPath : Ask → ℕ → Type 0
IsOnPath (asks.Segment i positions.Top) segments = i < segments
IsOnPath (asks.Segment i (positions.Part size)) segments = ⊥
IsOnPath (asks.Segment i (positions.Child above)) segments = i < segments
IsOnPath asks.Terminal segments = ⊤
IsOnPath (asks.Node reach position) segments = ⊤

abbrev pub IsPlaceOnPath : Option Place → ℕ → Type 0
IsPlaceOnPath None segments = ⊤
IsPlaceOnPath (Some place) segments = IsOnPath place.ask segments

-- ---- steps

-- the place that is wanted now, as it is told
abbrev pub told_wanted : Option WantedAt → Option Wanted
told_wanted None = None
told_wanted (Some at) = Some (record { cid = at.cid; depth = depth_of at.want })

-- what comes next of a stack is taken: what is done at a link, or a line's end
abbrev pub IsCome : List (Task CidParts) → Came → List (Task CidParts) → Type 0
IsCome old comes.Nothing new = (old ≡ []) × (new ≡ [])
IsCome old comes.Line new = old ≡ give_text (line_feed ∷ []) ∷ new
IsCome old (comes.Link visited) new =
    (directory : List ℕ) × AreVisited directory visited old new × IsSomething visited.met visited.into

-- what is done at a link comes first of one frame's tasks, before those of other frames too
pub record IsLinkTurned (old : Frame) (visited : Visited) (left : Option Frame) : Type 0 where
  pub done : (rest : List (Task CidParts)) → AreVisited (directory_of old.children) visited (frame_tasks old ++ rest) (top_tasks left ++ rest)
  pub something : IsSomething visited.met visited.into
  pub frame : IfSome left IsFrame

-- what comes next of one frame is taken, and the frame is left where something of it may be to come
abbrev pub IsTurned : Frame → Came → Option Frame → Type 0
IsTurned old comes.Nothing left = (frame_tasks old ≡ []) × (left ≡ None)
IsTurned old comes.Line left = (frame_tasks old ≡ give_text (line_feed ∷ []) ∷ []) × (left ≡ None)
IsTurned old (comes.Link visited) left = IsLinkTurned old visited left

-- what comes next of the tasks: it is taken, but a wanted block and a segment that leads nowhere stay
abbrev pub IsNext : LeftState → Next → LeftState → Type 0
IsNext old nexts.Nothing new = (tasks_left old ≡ []) × (tasks_left new ≡ [])
IsNext old nexts.Block new = (at : WantedAt) × (new.wanted ≡ Some at) × (tasks_left new ≡ tasks_left old)
IsNext old nexts.Line new = tasks_left old ≡ give_text (line_feed ∷ []) ∷ tasks_left new
IsNext old (nexts.Entry entry size) new =
    (directory : List ℕ) × (size ≡ length directory) × (tasks_left old ≡ give_entries (listed_at directory entry ∷ []) ∷ tasks_left new)
IsNext old (nexts.Missing miss) new =
    (more : List (Task CidParts)) × (tasks_left old ≡ stop_at (missing_of miss) ∷ more) × (new ≡ old)

-- the block at the wanted place is read there: as this kind, which may stand there; or it has no kind, or one that
-- can't
abbrev pub IsReadAs : QueryParts → WantedAt → List ℕ → Result PlacedKind BlockFault → Type 0
IsReadAs q at block (Ok found) =
    (kind : Kind) × (read at.cid block ≡ Ok kind) × (fault_at q at.want kind ≡ None) × StandsForKind block found kind
IsReadAs q at block (Err fault) =
    (fault ≡ faults.OutOfMemory) ⊎ ((read at.cid block ≡ Err fault) ⊎ ((kind : Kind) × (read at.cid block ≡ Ok kind) × (fault_at q at.want kind ≡ Some fault)))

-- a kind that may stand there, the same; or why it can't
abbrev pub IsFitting : Position → Kind → PlacedKind → Result PlacedKind BlockFault → Type 0
IsFitting position kind found (Ok same) = (same ≡ found) × (position_fault position kind ≡ None)
IsFitting position kind found (Err fault) = position_fault position kind ≡ Some fault

-- a block that was read at the wanted place, with its kind
pub record IsReadHere (state : LeftState) (at : WantedAt) (section : Section) (kind : Kind) (found : PlacedKind) : Type 0 where
  pub wanted : state.wanted ≡ Some at
  pub cid : section.cid ≡ at.cid
  pub reads : read section.cid section.block ≡ Ok kind
  pub fits : fault_at state.query at.want kind ≡ None
  pub stands : StandsForKind section.block found kind
