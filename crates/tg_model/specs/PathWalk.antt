-- The walk along a path by the slots of shards (Path Gateway specification, Path Resolution; UnixFS specification,
-- HAMTDirectory).
use Rattle.std.specs.Prelude.{List, None, Option, Some, [], bytes_eq, if◌then◌else◌, length, suc, zero, ℕ, ◌++◌, ◌+◌}
use Rattle.std.specs.Prelude.{◌==◌, ◌∷◌}
use Rattle.tg_cid.specs.Cid.{CidParts}
use Rattle.tg_model.specs.Dag.{Dag, Children, Section, bare, with_child, no_child, node, unopened}
use Rattle.tg_model.specs.Sound.{Position, child, passed, position_fault, top}
use Rattle.tg_model.specs.declared.fault.BlockFault.{BlockFault}
use Rattle.tg_model.specs.declared.kinds.Entry.{Entry}
use Rattle.tg_model.specs.declared.kinds.Kind.{Kind}
use Rattle.tg_model.specs.declared.kinds.Kind.TheVariants.{Basic, File, Raw, Shard, Symlink}
use Rattle.tg_model.specs.declared.kinds.Slot.{Slot}
use Rattle.tg_murmur.specs.NameHash.{slot_of}

-- one step with a name at a level: to the entry or to the child shard behind the link with this index, or nowhere
pub data StepTo : Type 0 where
  to_entry : ℕ → StepTo
  to_child : ℕ → StepTo
  absent : StepTo
  not_folder_here : StepTo

-- the first entry of that name, its index counted from `at`
abbrev pub entry_step : ℕ → List ℕ → List Entry → StepTo
entry_step at name [] = absent
entry_step at name (entry ∷ entries) =
    if bytes_eq name entry.name then to_entry at else entry_step (at + 1) name entries

-- a slot is an entry of another name, one of this name, or a child shard
abbrev pub slot_step : ℕ → List ℕ → Option (List ℕ) → StepTo
slot_step at name None = to_child at
slot_step at name (Some other) = if bytes_eq name other then to_entry at else absent

-- the slot with this number, its index counted from `at`
abbrev pub slots_step : ℕ → ℕ → List ℕ → List Slot → StepTo
slots_step at number name [] = absent
slots_step at number name (slot ∷ slots) =
    if slot.slot == number then slot_step at name slot.name else slots_step (at + 1) number name slots

-- the step with a name at a level of shards
abbrev pub step_of : Kind → ℕ → List ℕ → StepTo
step_of Raw level name = not_folder_here
step_of (File inline filesize parts) level name = not_folder_here
step_of (Basic entries) level name = entry_step 0 name entries
step_of (Shard slots) level name = slots_step 0 (slot_of name level) name slots
step_of (Symlink target) level name = not_folder_here

-- where a walk or a traversal stands: the CID that leads there, how many blocks there are from the root to it, both
-- counted, and the position
pub record Spot : Type 0 where
  pub cid : CidParts
  pub depth : ℕ
  pub position : Position

abbrev pub spot_at : CidParts → ℕ → Position → Spot
spot_at cid depth position = record { cid = cid; depth = depth; position = position }

-- why a walk or a traversal stops: at a segment of the path there is no such entry, or no directory; a block isn't
-- opened; or a block has no kind or can't stand there
pub data Stop : Type 0 where
  not_there : ℕ → Stop
  not_folder : ℕ → Stop
  gone : Spot → Stop
  bad_block : Spot → BlockFault → Stop

-- how a traversal ends: it came through, or it stopped
pub data TraversalEnd : Type 0 where
  whole : TraversalEnd
  stopped : Stop → TraversalEnd

-- where a path walk leads: to a terminal, or to none
pub data PathEnd : Type 0 where
  terminal : Dag → PathEnd
  not_reached : Stop → PathEnd

-- the sections from the root on, without the terminal's, and the end
pub record PathWalk : Type 0 where
  pub sections : List Section
  pub end : PathEnd

-- a walk that stops at once
abbrev pub stopped_at : Stop → PathWalk
stopped_at stop = record { sections = []; end = not_reached stop }

-- a walk with a section before it
abbrev pub behind : Section → PathWalk → PathWalk
behind section walk = record { sections = section ∷ walk.sections; end = walk.end }

-- the slots that were passed, and the one that is passed to a child
abbrev pub child_below : Position → ℕ → Position
child_below position slot = child (passed position ++ slot ∷ [])

-- a node that isn't the terminal has to stand where it stands
abbrev pub unless_misfit : Section → Spot → Option BlockFault → PathWalk → PathWalk
unless_misfit section spot None walk = behind section walk
unless_misfit section spot (Some fault) walk = stopped_at (bad_block spot fault)

-- one step: to an entry, with the next segment; to a child shard, with the same; or nowhere
abbrev pub walk_step : ℕ → (ℕ → PathWalk) → (ℕ → PathWalk) → StepTo → PathWalk
walk_step i entry_walk child_walk (to_entry k) = entry_walk k
walk_step i entry_walk child_walk (to_child k) = child_walk k
walk_step i entry_walk child_walk absent = stopped_at (not_there i)
walk_step i entry_walk child_walk not_folder_here = stopped_at (not_folder i)

-- the walk from a node on with the segments from number `i` on; `depth` counts the blocks from the root to the node
abbrev mutual
  pub walk_from : ℕ → Position → ℕ → List (List ℕ) → Dag → PathWalk
  walk_from i position depth path (unopened cid) = stopped_at (gone (spot_at cid depth position))
  walk_from i position depth [] (bare section fault) = record { sections = []; end = terminal (bare section fault) }
  walk_from i position depth (name ∷ path) (bare section None) = stopped_at (gone (spot_at section.cid depth position))
  walk_from i position depth (name ∷ path) (bare section (Some fault)) =
      stopped_at (bad_block (spot_at section.cid depth position) fault)
  walk_from i position depth [] (node section kind children) =
      record { sections = []; end = terminal (node section kind children) }
  walk_from i position depth (name ∷ path) (node section kind children) =
      unless_misfit section (spot_at section.cid depth position) (position_fault position kind) (walk_step i
      (λ k. walk_child k (i + 1) top (depth + 1) path children)
      (λ k. walk_child k i (child_below position (slot_of name (length (passed position)))) (depth + 1) (name ∷ path) children)
      (step_of kind (length (passed position)) name))

  -- the walk from the child with this index on
  pub walk_child : ℕ → ℕ → Position → ℕ → List (List ℕ) → Children → PathWalk
  walk_child k i position depth path no_child = stopped_at (not_there i)
  walk_child zero i position depth path (with_child d children) = walk_from i position depth path d
  walk_child (suc k) i position depth path (with_child d children) = walk_child k i position depth path children

-- the walk along a path from the root
abbrev pub path_walk : List (List ℕ) → Dag → PathWalk
path_walk path d = walk_from 0 top 1 path d
