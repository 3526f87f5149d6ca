-- What a walk knows that gives each block once: which blocks it gave, and below which it went everywhere (Trustless
-- Gateway specification: dups).
use Rattle.std.specs.Prelude.{All, Bool, List, None, Ok, Option, Some, [], false, not, suc, true, zero, ⊤, ℕ, ◌+◌, ◌++◌, ◌-◌, ◌<◌, ◌∷◌}
use Rattle.std.specs.Prelude.{◌≡◌, ◌≤◌, ◌⊎◌}
use Rattle.std.specs.List.{Contains, list_any}
use Rattle.std.specs.Map.{keys_of}
use Rattle.tg_cid.specs.Cid.{CidParts}
use Rattle.tg_cid.specs.CodeLaws.{same_cid}
use Rattle.tg_model.specs.Computed.{read}
use Rattle.tg_model.specs.Dag.{Section, links_of}
use Rattle.tg_model.specs.Fits.{is_block}
use Rattle.tg_model.specs.Queries.{QueryParts}
use Rattle.tg_model.specs.Sound.{Position, child, part, top}
use Rattle.tg_model.specs.StoreView.{block_at}
use Rattle.tg_model.specs.Stores.{Store}
use Rattle.tg_model.specs.Traversal.{ListedEntry, Reach, bundled, entire, is_sent_behind, listed, ranged}
use Rattle.tg_model.specs.declared.kinds.Kind.{Kind}
use Rattle.tg_model.specs.declared.kinds.Kind.TheVariants.{Shard}
use Rattle.tg_model.specs.declared.kinds.Slot.{Slot}
use Rattle.tg_model_laws.specs.StoreWalks.{section_of}
use Rattle.tg_model_laws.specs.Tasks.{Task, Want, depth_of, entries_now, fault_at, give_entries, give_text, node_want, open_block}
use Rattle.tg_model_laws.specs.Tasks.{segment_want, stop_at, tasks_of, tasks_then, terminal_want}
use Rattle.tg_traversal.specs.Places.{role_at}
use Rattle.tg_traversal.specs.declared.position.Role.{Role}
use Rattle.tg_traversal.specs.declared.position.Role.TheVariants as roles
use Rattle.tg_walk.specs.declared.known.Opened.{Opened}
use Rattle.tg_walk.specs.declared.known.Walked.{Walked}

-- the blocks that were given, in order, each with what is known below it; and the blocks on the way to the next place,
-- the innermost first
pub record KnownState : Type 0 where
  pub entries : List (CidParts × Option Walked)
  pub nodes : List Opened

-- ---- what lies below a block

-- what is asked at a place, but for what decides of no block below it: its depth, the path of its record, and the size
-- that is declared for it
abbrev pub reach_alone : Reach → Reach
reach_alone (bundled path) = bundled []
reach_alone entire = entire
reach_alone (ranged low high) = ranged low high
reach_alone listed = listed

abbrev pub position_alone : Position → Position
position_alone top = top
position_alone (part size) = part 0
position_alone (child above) = child above

abbrev pub want_alone : Want → Want
want_alone (segment_want i position name path depth) = segment_want i position name path depth
want_alone (terminal_want depth) = terminal_want depth
want_alone (node_want reach position depth) = node_want (reach_alone reach) (position_alone position) 0

-- what is asked of an entry that is bundled, and of a part of a file
abbrev pub entry_want : Want
entry_want = node_want (bundled []) top 0

abbrev pub part_want : Want
part_want = node_want entire (part 0) 0

-- at each place of the tasks something holds, and no segment leads nowhere
abbrev pub EachAt : (Want → CidParts → Type 0) → List (Task CidParts) → Type 0
EachAt P [] = ⊤
EachAt P (open_block w cid ∷ tasks) = P w cid × EachAt P tasks
EachAt P (give_text text ∷ tasks) = EachAt P tasks
EachAt P (give_entries met ∷ tasks) = EachAt P tasks
EachAt P (stop_at miss ∷ tasks) = ⊥

-- a block that is stored may stand there, and isn't given behind these sections; and so on below it
pub record IsWholeHere (q : QueryParts) (store : Store) (sections : List Section) (below_it : Want → CidParts → Type 0) (w : Want) (cid : CidParts) : Type 0 where
  pub block : List ℕ
  pub kind : Kind
  pub stored : block_at store cid ≡ Some block
  pub reads : read cid block ≡ Ok kind
  pub fits : fault_at q w kind ≡ None
  pub given : is_sent_behind q sections cid ≡ false
  pub below : EachAt below_it (tasks_of q w (section_of cid block) kind (links_of kind))

-- with so many levels of blocks, its own among them
abbrev pub IsWhole : QueryParts → Store → List Section → ℕ → Want → CidParts → Type 0
IsWhole q store sections zero w cid = ⊥
IsWhole q store sections (suc levels) w cid =
    IsWholeHere q store sections (λ w cid. IsWhole q store sections levels (want_alone w) cid) w cid

-- ---- shards without an entry, which say the same wherever a shard may stand

-- each slot leads to a child shard of which something holds, and none to an entry
abbrev pub EachSlot : (CidParts → Type 0) → List Slot → Type 0
EachSlot P [] = ⊤
EachSlot P (slot ∷ slots) = (slot.name ≡ None) × P slot.cid × EachSlot P slots

-- a shard that is stored has no entry, and isn't given behind these sections; and so on below it
pub record IsEntrylessHere (q : QueryParts) (store : Store) (sections : List Section) (below_it : CidParts → Type 0) (cid : CidParts) : Type 0 where
  pub block : List ℕ
  pub slots : List Slot
  pub stored : block_at store cid ≡ Some block
  pub reads : read cid block ≡ Ok (Shard slots)
  pub given : is_sent_behind q sections cid ≡ false
  pub below : EachSlot below_it slots

-- with so many levels of blocks, its own among them
abbrev pub IsEntryless : QueryParts → Store → List Section → ℕ → CidParts → Type 0
IsEntryless q store sections zero cid = ⊥
IsEntryless q store sections (suc levels) cid = IsEntrylessHere q store sections (IsEntryless q store sections levels) cid

-- no entry is met by the tasks, and of each block that they lead to something holds
abbrev pub EachChild : (CidParts → Type 0) → List (Task CidParts) → Type 0
EachChild P [] = ⊤
EachChild P (open_block w cid ∷ tasks) = P cid × EachChild P tasks
EachChild P (give_text text ∷ tasks) = EachChild P tasks
EachChild P (give_entries met ∷ tasks) = (met ≡ []) × EachChild P tasks
EachChild P (stop_at miss ∷ tasks) = ⊥

-- a child of a shard
abbrev pub IsChild : Option Role → Type 0
IsChild None = ⊥
IsChild (Some roles.Entry) = ⊥
IsChild (Some roles.Part) = ⊥
IsChild (Some (roles.Child slots)) = ⊤

-- the role of a block below which an entry was met: none, if it is a child of a shard
abbrev pub role_with_entry : Option Role → Option Role
role_with_entry None = None
role_with_entry (Some roles.Entry) = Some roles.Entry
role_with_entry (Some roles.Part) = Some roles.Part
role_with_entry (Some (roles.Child slots)) = None

-- the role of a block below which one of the role `below` lies, or an entry was met
abbrev pub role_above : Option Role → Option Role → Option Role
role_above None role = role_with_entry role
role_above (Some roles.Entry) role = role_with_entry role
role_above (Some roles.Part) role = role_with_entry role
role_above (Some (roles.Child slots)) role = role

-- ---- the blocks that were given

-- all is known of a block in this role, with so many levels of blocks, its own among them; of a child of a shard also
-- that no entry lies below it
abbrev pub IsKnownIn : QueryParts → Store → List Section → Role → ℕ → CidParts → Type 0
IsKnownIn q store sections roles.Entry levels cid = IsWhole q store sections levels entry_want cid
IsKnownIn q store sections roles.Part levels cid = IsWhole q store sections levels part_want cid
IsKnownIn q store sections (roles.Child slots) levels cid = IsEntryless q store sections levels cid

abbrev pub IsKnownAs : QueryParts → Store → List Section → CidParts → Option Walked → Type 0
IsKnownAs q store sections cid None = ⊤
IsKnownAs q store sections cid (Some walked) = IsKnownIn q store sections walked.role (suc walked.levels) cid

-- what is known of a block in the one role holds in the other: a shard without an entry may stand wherever each shard
-- below it stands behind at most 7 slots
abbrev pub HoldsIn : Role → ℕ → Role → Type 0
HoldsIn roles.Entry levels roles.Entry = ⊤
HoldsIn roles.Entry levels roles.Part = ⊥
HoldsIn roles.Entry levels (roles.Child slots) = ⊥
HoldsIn roles.Part levels roles.Entry = ⊥
HoldsIn roles.Part levels roles.Part = ⊤
HoldsIn roles.Part levels (roles.Child slots) = ⊥
HoldsIn (roles.Child above) levels roles.Entry = levels ≤ 7
HoldsIn (roles.Child above) levels roles.Part = ⊥
HoldsIn (roles.Child above) levels (roles.Child slots) = slots + levels ≤ 7

-- all is known of a block in this role, below which so many levels of blocks lie
pub record HasLevels (entries : List (CidParts × Option Walked)) (cid : CidParts) (role : Role) (levels : ℕ) : Type 0 where
  pub known_in : Role
  pub there : Contains entries (cid, Some (record { role = known_in; levels = levels }))
  pub holds : HoldsIn known_in levels role

abbrev pub is_known : CidParts → List CidParts → Bool
is_known cid known = list_any (same_cid cid) known

abbrev pub with_block : Bool → CidParts → KnownState → KnownState
with_block true cid known = record known { entries = known.entries ++ (cid, None) ∷ [] }
with_block false cid known = known

-- a block is added where it isn't known yet
abbrev pub IsAdded : KnownState → CidParts → Bool → KnownState → Type 0
IsAdded old cid is_new new = (is_new ≡ not (is_known cid (keys_of old.entries))) × (new ≡ with_block is_new cid old)

-- the CID of a block that is asked for is noted, and no other
abbrev pub IsNoted : Bool → KnownState → CidParts → Bool → KnownState → Type 0
IsNoted true old cid given new = IsAdded old cid given new
IsNoted false old cid given new = (given ≡ false) × (new ≡ old)

-- a block was gone through wholly, which is kept if it was given
abbrev pub IsKeptOf : List (CidParts × Option Walked) → Opened → CidParts × Option Walked → Type 0
IsKeptOf old node e =
    Contains old e
    ⊎ ((role : Role) × (node.role ≡ Some role) × (e ≡ (node.cid, Some (record { role = role; levels = node.deepest - node.depth }))))

-- ---- the blocks on the way

-- all places of the tasks have this depth
abbrev pub AreAllAt : ℕ → List (Task CidParts) → Type 0
AreAllAt depth [] = ⊤
AreAllAt depth (open_block w cid ∷ tasks) = (depth_of w ≡ depth) × AreAllAt depth tasks
AreAllAt depth (give_text text ∷ tasks) = AreAllAt depth tasks
AreAllAt depth (give_entries met ∷ tasks) = AreAllAt depth tasks
AreAllAt depth (stop_at miss ∷ tasks) = AreAllAt depth tasks

-- the next place isn't deeper
abbrev pub IsNextWithin : ℕ → List (Task CidParts) → Type 0
IsNextWithin depth [] = ⊤
IsNextWithin depth (open_block w cid ∷ tasks) = depth_of w ≤ depth
IsNextWithin depth (give_text text ∷ tasks) = IsNextWithin depth tasks
IsNextWithin depth (give_entries met ∷ tasks) = IsNextWithin depth tasks
IsNextWithin depth (stop_at miss ∷ tasks) = ⊤

-- what isn't given behind the one isn't behind the other
abbrev pub IsMoreGiven : QueryParts → List Section → List Section → Type 0
IsMoreGiven q sections more = (cid : CidParts) → is_sent_behind q sections cid ≡ false → is_sent_behind q more cid ≡ false

-- no entry before the next place was met, where a place is next: those that are left to be met before it are all
abbrev pub HasMetNone : List (Task CidParts) → List ListedEntry → List ListedEntry → Type 0
HasMetNone [] left all = ⊤
HasMetNone (task ∷ tasks) left all = left ≡ all

-- a block is open: of the tasks its own come first, which lead below it, and where all of them come through it is gone
-- through wholly; of a child of a shard, where no entry was met and none lies below its own, it is one without an entry
pub record IsOpenAt (q : QueryParts) (store : Store) (sections : List Section) (node : Opened) (tasks : List (Task CidParts)) : Type 0 where
  pub want : Want
  pub own : List (Task CidParts)
  pub rest : List (Task CidParts)
  pub left : tasks_then tasks ≡ tasks_then (own ++ rest)
  pub depth : depth_of want ≡ node.depth
  pub role : (role : Role) → node.role ≡ Some role → role_at want ≡ Some role
  pub deepest : node.depth ≤ node.deepest
  pub below : AreAllAt (node.depth + 1) own
  pub behind : IsNextWithin node.depth rest
  pub whole : (more : List Section) → IsMoreGiven q sections more → (levels : ℕ) → node.deepest ≤ node.depth + levels
      → EachAt (λ w cid. IsWhole q store more levels (want_alone w) cid) own → IsWhole q store more (suc levels) (want_alone want) node.cid
  pub unmet : IsChild node.role → HasMetNone (tasks_then tasks) (entries_now tasks) (entries_now (own ++ rest))
  pub entryless : IsChild node.role → (more : List Section) → IsMoreGiven q sections more → (levels : ℕ) → node.deepest ≤ node.depth + levels
      → EachChild (IsEntryless q store more levels) own → IsEntryless q store more (suc levels) node.cid

-- the innermost of these blocks lies above this depth
abbrev pub LieAbove : List Opened → ℕ → Type 0
LieAbove [] depth = ⊤
LieAbove (node ∷ nodes) depth = node.depth < depth

-- each of them is open, as a place below the next one; at the first place none is
abbrev pub AreOpen : QueryParts → Store → List Section → List Opened → List (Task CidParts) → Type 0
AreOpen q store sections [] tasks = AreAllAt 1 (tasks_then tasks)
AreOpen q store sections (node ∷ nodes) tasks =
    (here : IsOpenAt q store sections node tasks)
    × LieAbove nodes node.depth
    × AreOpen q store sections nodes (open_block here.want node.cid ∷ here.rest)

-- the innermost of the blocks is taken, unless it lies above this depth
abbrev pub HasTaken : KnownState → ℕ → Option Opened → KnownState → Type 0
HasTaken old depth None new = (new ≡ old) × LieAbove old.nodes depth
HasTaken old depth (Some node) new =
    (new.entries ≡ old.entries) × (old.nodes ≡ node ∷ new.nodes) × (depth ≤ node.depth)

-- there is an innermost one where there are outer ones
abbrev pub HasInnermost : Option Opened → List Opened → Type 0
HasInnermost None outer = outer ≡ []
HasInnermost (Some node) outer = ⊤

-- a block of this depth and role lies below the innermost one
abbrev pub IsDeepened : ℕ → Option Role → List Opened → List Opened → Type 0
IsDeepened depth role [] new = new ≡ []
IsDeepened depth role (node ∷ nodes) new =
    (deepest : ℕ) × (node.deepest ≤ deepest) × (depth ≤ deepest) × (new ≡ record node { deepest = deepest; role = role_above role node.role } ∷ nodes)

-- an entry was met, or none was
abbrev pub IsMet : Bool → List Opened → List Opened → Type 0
IsMet true old new = IsDeepened 0 None old new
IsMet false old new = new ≡ old

-- ---- all that is known, where more than a block alone is asked for

pub record KnowsBelow (q : QueryParts) (store : Store) (sections : List Section) (known : KnownState) (tasks : List (Task CidParts)) : Type 0 where
  pub blocks : All (λ e. IsKnownAs q store sections e.0 e.1) known.entries
  pub way : AreOpen q store sections known.nodes tasks

abbrev pub Knows : QueryParts → Store → List Section → KnownState → List (Task CidParts) → Type 0
Knows q store sections known tasks = is_block q.scope ≡ false → KnowsBelow q store sections known tasks
