-- One traversal behind another, and one step of the traversal of a query: at a node of its path, at the terminal, and
-- below it.
use Rattle.std.specs.Prelude.{List, None, Some, [], length, ℕ, ◌++◌, ◌+◌, ◌∷◌, ◌≡◌}
use Rattle.tg_model.specs.Dag.{Children, Dag, Section, node}
use Rattle.tg_model.specs.PathWalk.{PathWalk, StepTo, absent, bad_block, child_below, not_folder_here, not_folder}
use Rattle.tg_model.specs.PathWalk.{not_there, spot_at, step_of, to_child, to_entry, walk_child, walk_from}
use Rattle.tg_model.specs.Queries.{QueryParts}
use Rattle.tg_model.specs.Sound.{Position, passed, position_fault, top}
use Rattle.tg_model.specs.Traversal.{Reach, Traversal, and_then, at_terminal, ended, from_end, giving_place}
use Rattle.tg_model.specs.Traversal.{giving_text, text_before, text_behind, traversal, traverse, traverse_children}
use Rattle.tg_model.specs.Traversal.{visits, walk_places}
use Rattle.tg_model.specs.declared.fault.BlockFault.{BlockFault}
use Rattle.tg_model.specs.declared.kinds.Kind.{Kind}
use Rattle.tg_murmur.specs.NameHash.{slot_of}

-- what is left of a query's traversal from a walk on, of which the first block has this depth
abbrev pub from_walk : QueryParts → ℕ → PathWalk → Traversal
from_walk q depth walk =
    let below = from_end walk.end q.scope q.span (length walk.sections + depth) in
    record { places = walk_places depth walk.sections ++ below.places; text = below.text; met = below.met; end = below.end }

-- from a node of the path on, with the segments from number `i` on; and from one of a node's children on
abbrev pub from_node : QueryParts → ℕ → Position → ℕ → List (List ℕ) → Dag → Traversal
from_node q i position depth path d = from_walk q depth (walk_from i position depth path d)

abbrev pub from_child : QueryParts → ℕ → ℕ → Position → ℕ → List (List ℕ) → Children → Traversal
from_child q k i position depth path children = from_walk q depth (walk_child k i position depth path children)

-- what a step with the segment `i` leads to
abbrev pub after_step : ℕ → (ℕ → Traversal) → (ℕ → Traversal) → StepTo → Traversal
after_step i entry inner (to_entry k) = entry k
after_step i entry inner (to_child k) = inner k
after_step i entry inner absent = ended (not_there i)
after_step i entry inner not_folder_here = ended (not_folder i)

-- nothing before or behind a traversal leaves it as it is
abbrev pub NothingBefore : Type 0
NothingBefore = (t : Traversal) → and_then (giving_text []) t ≡ t

abbrev pub NothingBehind : Type 0
NothingBehind = (t : Traversal) → and_then t (giving_text []) ≡ t

-- of three traversals one behind another it doesn't matter which two are taken together
abbrev pub IsAssociative : Type 0
IsAssociative = (a b c : Traversal) → and_then (and_then a b) c ≡ and_then a (and_then b c)

-- the traversal of a query is what is left of it from the root on
abbrev pub BeginsAtRoot : Type 0
BeginsAtRoot = (q : QueryParts) (d : Dag) → traversal q d ≡ from_node q 0 top 1 q.path d

-- at a node with a segment left: its place, and what the step leads to
abbrev pub StepsOn : Type 0
StepsOn = (q : QueryParts) (i : ℕ) (position : Position) (depth : ℕ) (name : List ℕ) (path : List (List ℕ)) (section : Section) (kind : Kind) (children : Children)
    → position_fault position kind ≡ None
    → from_node q i position depth (name ∷ path) (node section kind children) ≡ and_then (giving_place (record { section = section; depth = depth }) [])
    (after_step i
    (λ k. from_child q k (i + 1) top (depth + 1) path children)
    (λ k. from_child q k i (child_below position (slot_of name (length (passed position)))) (depth + 1) (name ∷ path) children)
    (step_of kind (length (passed position)) name))

-- or a stop, where it can't stand there
abbrev pub StopsOnPath : Type 0
StopsOnPath = (q : QueryParts) (i : ℕ) (position : Position) (depth : ℕ) (name : List ℕ) (path : List (List ℕ)) (section : Section) (kind : Kind) (children : Children) (fault : BlockFault)
    → position_fault position kind ≡ Some fault
    → from_node q i position depth (name ∷ path) (node section kind children) ≡ ended (bad_block (spot_at section.cid depth position) fault)

-- with no segment left: what is asked of the terminal
abbrev pub EndsAtTerminal : Type 0
EndsAtTerminal =
    (q : QueryParts) (i : ℕ) (position : Position) (depth : ℕ) (section : Section) (kind : Kind) (children : Children)
    → from_node q i position depth [] (node section kind children) ≡ at_terminal q.scope q.span depth (node section kind children)

-- below the terminal: a node's place with its text, what is below it, and the text behind it
abbrev pub GoesBelow : Type 0
GoesBelow = (reach : Reach) (position : Position) (depth : ℕ) (section : Section) (kind : Kind) (children : Children) → position_fault position kind ≡ None
    → traverse reach position depth (node section kind children)
    ≡ and_then (giving_place (record { section = section; depth = depth }) (text_before reach position section kind))
    (and_then (traverse_children (visits reach position kind) (depth + 1) children) (giving_text (text_behind reach kind)))

abbrev pub StopsBelow : Type 0
StopsBelow = (reach : Reach) (position : Position) (depth : ℕ) (section : Section) (kind : Kind) (children : Children) (fault : BlockFault) → position_fault position kind ≡ Some fault
    → traverse reach position depth (node section kind children) ≡ ended (bad_block (spot_at section.cid depth position) fault)
