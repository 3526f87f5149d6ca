-- The tasks that are left, over a DAG's own nodes: beside a sound DAG, and beside one that sections have opened.
use Rattle.std.specs.Prelude.{Bool, Contains, List, [], false, true, ◌++◌, ◌∷◌, ◌≡◌, ◌⊎◌}
use Rattle.tg_cid.specs.Cid.{CidParts}
use Rattle.tg_cid.specs.Names.{Names}
use Rattle.tg_model.specs.Counts.{counts, counts_of}
use Rattle.tg_model.specs.Dag.{Dag, IsWhole, Section, blocks, links_of, root_cid}
use Rattle.tg_model.specs.Fits.{CollisionPair}
use Rattle.tg_model.specs.LimitNumbers.{AreWithin}
use Rattle.tg_model.specs.PathWalk.{gone, stopped, whole}
use Rattle.tg_model.specs.Queries.{QueryParts}
use Rattle.tg_model.specs.Reading.{Reads}
use Rattle.tg_model.specs.Sound.{IsChecked, IsCheckedAt, IsSound, Position}
use Rattle.tg_model.specs.Traversal.{Place, opened_list, traversal}
use Rattle.tg_model.specs.declared.kinds.Kind.{Kind}
use Rattle.tg_model_laws.specs.TakenBlocks.{EachPlace, IsReadAt, opened_by, root_cids_at}
use Rattle.tg_model_laws.specs.Stages.{Given, IsStage, ending, nothing_given, place_of, up_to_next, with_place}
use Rattle.tg_model_laws.specs.Tasks.{Miss, Task, Want, is_read_at, open_block, position_of, spot_of, start}
use Rattle.tg_model_laws.specs.Tasks.{stop_at, stop_of, tasks_of, tasks_then, text_at}

-- a checked part of a DAG, where it stands, whole where the DAG is
pub record IsPartAt (d : Dag) (position : Position) (below : Dag) : Type 0 where
  pub whole_too : IsWhole d → IsWhole below
  pub checked : IsCheckedAt position below
  pub held : (section : Section) → Contains (blocks below) section → Contains (blocks d) section

-- what was given is what the DAG's traversal gives, and these tasks are left of it
pub record IsBeside (q : QueryParts) (d : Dag) (given : Given) (tasks : List (Task CidParts)) : Type 0 where
  pub nodes : List (Task Dag)
  pub same : root_cids_at nodes ≡ tasks
  pub stage : IsStage q d given nodes
  pub parts : EachPlace (λ w below. IsPartAt d (position_of w) below) nodes

-- a block passes where it is wanted: it is read there; or it is a terminal's of which the block alone is asked for, and
-- its CID names it
abbrev pub PassesIf : Bool → Want → Section → Type 0
PassesIf true w section = (kind : Kind) × IsReadAt (position_of w) section kind
PassesIf false w section = Names section.cid section.block

abbrev pub Passes : QueryParts → Want → Section → Type 0
Passes q w section = PassesIf (is_read_at q w) w section

abbrev pub BesideStarts : Type 0
BesideStarts =
    (q : QueryParts) (d : Dag) → IsChecked d → root_cid d ≡ q.root → IsBeside q d nothing_given (start q q.root)

abbrev pub BesideGives : Type 0
BesideGives = (q : QueryParts) (d : Dag) (given : Given) (tasks : List (Task CidParts)) → IsBeside q d given tasks → IsBeside q d (up_to_next tasks given) (tasks_then tasks)

-- the traversal ends where the tasks do
abbrev pub BesideMisses : Type 0
BesideMisses = (q : QueryParts) (d : Dag) (given : Given) (miss : Miss) (tasks : List (Task CidParts)) → IsBeside q d given (stop_at miss ∷ tasks)
    → traversal q d ≡ ending given (stopped (stop_of miss))

abbrev pub BesideEnds : Type 0
BesideEnds = (q : QueryParts) (d : Dag) (given : Given) → IsBeside q d given [] → traversal q d ≡ ending given whole

-- what was given counts no more than the DAG does
abbrev pub BesideCounts : Type 0
BesideCounts = (q : QueryParts) (d : Dag) (given : Given) (tasks : List (Task CidParts)) → IsBeside q d given tasks → AreWithin (counts q d) (counts_of q (ending given whole))

-- ---- beside a sound DAG

-- the next place of its traversal is the wanted one, at its depth, with a block of the wanted CID that passes there;
-- with it taken, the traversal goes on
pub record IsNext (q : QueryParts) (d : Dag) (given : Given) (w : Want) (cid : CidParts) (tasks : List (Task CidParts)) : Type 0 where
  pub section : Section
  pub kind : Kind
  pub cid_is : section.cid ≡ cid
  pub held : Contains (blocks d) section
  pub here : IsReadAt (position_of w) section kind
  pub rest : List Place
  pub next : (traversal q d).places ≡ given.places ++ place_of w section ∷ rest
  pub on : IsBeside q d (with_place w section (text_at q w section kind) given) (tasks_of q w section kind (links_of kind) ++ tasks)

abbrev pub BesideWants : Type 0
BesideWants = (q : QueryParts) (d : Dag) (given : Given) (w : Want) (cid : CidParts) (tasks : List (Task CidParts)) → IsSound d → IsBeside q d given (open_block w cid ∷ tasks)
    → IsNext q d given w cid tasks

-- a received block of the wanted CID is the DAG's, or they are a collision pair
abbrev pub BesideOpens : Type 0
BesideOpens = (q : QueryParts) (d : Dag) (given : Given) (w : Want) (section : Section) (kind : Kind) (tasks : List (Task CidParts)) → IsSound d
    → Names section.cid section.block → Reads section.cid section.block kind → IsBeside q d given (open_block w section.cid ∷ tasks)
    → IsBeside q d (with_place w section (text_at q w section kind) given) (tasks_of q w section kind (links_of kind) ++ tasks) ⊎ CollisionPair (section ∷ []) d

abbrev pub BesideOpensAlone : Type 0
BesideOpensAlone =
    (q : QueryParts) (d : Dag) (given : Given) (w : Want) (section : Section) (tasks : List (Task CidParts)) → IsSound d
    → is_read_at q w ≡ false → Names section.cid section.block → IsBeside q d given (open_block w section.cid ∷ tasks)
    → IsBeside q d (with_place w section section.block given) tasks ⊎ CollisionPair (section ∷ []) d

-- one that isn't read, can't stand there or has wrong sizes is one of a collision pair
abbrev pub BesideRefuses : Type 0
BesideRefuses =
    (q : QueryParts) (d : Dag) (given : Given) (w : Want) (section : Section) (tasks : List (Task CidParts)) → IsSound d
    → Names section.cid section.block → ((kind : Kind) → IsReadAt (position_of w) section kind → ⊥) → IsBeside q d given (open_block w section.cid ∷ tasks)
    → CollisionPair (section ∷ []) d

-- ---- beside a DAG that opens with what was given, and then with this section

-- the section's CID is wanted, and it passes there
abbrev pub OpenedPasses : Type 0
OpenedPasses = (q : QueryParts) (d : Dag) (given : Given) (w : Want) (cid : CidParts) (tasks : List (Task CidParts)) (section : Section) (rest : List Section)
    → opened_list q d ≡ opened_by given ++ section ∷ rest → IsBeside q d given (open_block w cid ∷ tasks) → (section.cid ≡ cid) × Passes q w section

-- with it taken, the traversal goes on
abbrev pub OpenedGoesOn : Type 0
OpenedGoesOn = (q : QueryParts) (d : Dag) (given : Given) (w : Want) (section : Section) (kind : Kind) (tasks : List (Task CidParts)) (rest : List Section)
    → opened_list q d ≡ opened_by given ++ section ∷ rest → is_read_at q w ≡ true → Reads section.cid section.block kind → IsBeside q d given (open_block w section.cid ∷ tasks)
    → IsBeside q d (with_place w section (text_at q w section kind) given) (tasks_of q w section kind (links_of kind) ++ tasks)

abbrev pub OpenedGoesOnAlone : Type 0
OpenedGoesOnAlone = (q : QueryParts) (d : Dag) (given : Given) (w : Want) (section : Section) (tasks : List (Task CidParts)) (rest : List Section)
    → opened_list q d ≡ opened_by given ++ section ∷ rest → is_read_at q w ≡ false → IsBeside q d given (open_block w section.cid ∷ tasks)
    → IsBeside q d (with_place w section section.block given) tasks

-- where no section follows, the traversal ends at the wanted place
abbrev pub OpenedStops : Type 0
OpenedStops = (q : QueryParts) (d : Dag) (given : Given) (w : Want) (cid : CidParts) (tasks : List (Task CidParts))
    → opened_list q d ≡ opened_by given → IsBeside q d given (open_block w cid ∷ tasks) → traversal q d ≡ ending given (stopped (gone (spot_of w cid)))

-- all of these
pub record BesideLaws : Type 0 where
  pub start : BesideStarts
  pub up_to_next : BesideGives
  pub miss : BesideMisses
  pub done : BesideEnds
  pub counted : BesideCounts
  pub next : BesideWants
  pub opened : BesideOpens
  pub alone : BesideOpensAlone
  pub refused : BesideRefuses
  pub passes : OpenedPasses
  pub goes_on : OpenedGoesOn
  pub goes_on_alone : OpenedGoesOnAlone
  pub stops : OpenedStops
