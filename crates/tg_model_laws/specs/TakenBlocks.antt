-- Blocks that were taken at their places open a partial DAG, of which other places are to come.
use Rattle.std.specs.Prelude.{List, None, [], false, map, true, ⊤, ◌++◌, ◌∷◌, ◌≡◌, ◌⊎◌}
use Rattle.tg_cid.specs.Cid.{CidParts}
use Rattle.tg_cid.specs.Names.{Names}
use Rattle.tg_model.specs.Dag.{Dag, Section, blocks, links_of, root_cid, total_of}
use Rattle.tg_model.specs.Fits.{HasOneBlockEach, IfOnce, IsAloneAt, IsOpenedFor}
use Rattle.tg_model.specs.PathWalk.{PathEnd, TraversalEnd, gone, path_walk, stopped, whole}
use Rattle.tg_model.specs.Queries.{QueryParts}
use Rattle.tg_model.specs.Reading.{Reads}
use Rattle.tg_model.specs.Sound.{IsChecked, IsCheckedAt, IsOfSize, Position, TellsSize, position_fault}
use Rattle.tg_model.specs.Traversal.{traversal}
use Rattle.tg_model.specs.declared.kinds.Kind.{Kind}
use Rattle.tg_model_laws.specs.PathStages.{IsPathEnd}
use Rattle.tg_model_laws.specs.Stages.{Given, IsStage, ending, nothing_given, up_to_next, with_place}
use Rattle.tg_model_laws.specs.Tasks.{Task, Want, give_entries, give_text, is_read_at, mapped, node_want}
use Rattle.tg_model_laws.specs.Tasks.{open_block, position_of, segment_want, spot_of, start, stop_at, stop_of}
use Rattle.tg_model_laws.specs.Tasks.{tasks_of, tasks_then, terminal_want, text_at}

-- a block is read as this kind, may stand there, and has the sizes that are told for it
pub record IsReadAt (position : Position) (section : Section) (kind : Kind) : Type 0 where
  pub named : Names section.cid section.block
  pub reads : Reads section.cid section.block kind
  pub stands : position_fault position kind ≡ None
  pub of_size : IsOfSize position (total_of section kind)
  pub tells_size : TellsSize kind (total_of section kind)

-- ---- tasks over DAGs

-- the CIDs of the DAGs that stand at the places
abbrev pub root_cids_at : List (Task Dag) → List (Task CidParts)
root_cids_at nodes = mapped (λ w d. root_cid d) nodes

-- what is opened at the places
abbrev pub blocks_at : List (Task Dag) → List Section
blocks_at [] = []
blocks_at (open_block w d ∷ nodes) = blocks d ++ blocks_at nodes
blocks_at (give_text text ∷ nodes) = blocks_at nodes
blocks_at (give_entries met ∷ nodes) = blocks_at nodes
blocks_at (stop_at miss ∷ nodes) = blocks_at nodes

-- at each place something holds
abbrev pub EachPlace : (Want → Dag → Type 0) → List (Task Dag) → Type 0
EachPlace P [] = ⊤
EachPlace P (open_block w d ∷ nodes) = P w d × EachPlace P nodes
EachPlace P (give_text text ∷ nodes) = EachPlace P nodes
EachPlace P (give_entries met ∷ nodes) = EachPlace P nodes
EachPlace P (stop_at miss ∷ nodes) = EachPlace P nodes

-- what stands there is right, as far as it is opened
abbrev pub IsRightAt : Want → Dag → Type 0
IsRightAt w d = IsCheckedAt (position_of w) d

-- all places lie below the terminal
abbrev pub AreBelow : {X : Type 0} → List (Task X) → Type 0
AreBelow [] = ⊤
AreBelow (open_block (segment_want i position name path depth) x ∷ tasks) = ⊥
AreBelow (open_block (terminal_want depth) x ∷ tasks) = ⊥
AreBelow (open_block (node_want reach position depth) x ∷ tasks) = AreBelow tasks
AreBelow (give_text text ∷ tasks) = AreBelow tasks
AreBelow (give_entries met ∷ tasks) = AreBelow tasks
AreBelow (stop_at miss ∷ tasks) = ⊥

-- the path walk ends at the end of what is left of it; or its terminal is opened, and told as it is asked for
abbrev pub IsWay : QueryParts → List (Task Dag) → PathEnd → Type 0
IsWay q nodes end = IsPathEnd nodes end ⊎ (IsAloneAt q.scope end × AreBelow nodes)

-- ---- openings

-- the sections of the places that were opened
abbrev pub opened_by : Given → List Section
opened_by given = map (λ p. p.section) given.places

-- a DAG that opens with what was given, of which these nodes are left
pub record OpensWith (q : QueryParts) (given : Given) (nodes : List (Task Dag)) : Type 0 where
  pub s : Dag
  pub stage : IsStage q s given nodes
  pub opened : blocks s ≡ opened_by given ++ blocks_at nodes
  pub root : root_cid s ≡ q.root
  pub right : EachPlace IsRightAt nodes → IsChecked s
  pub way : IsWay q nodes (path_walk q.path s).end

-- what was given opens a DAG, whichever DAGs of the wanted CIDs stand at the places that are to come
abbrev pub Opening : QueryParts → Given → List (Task CidParts) → Type 0
Opening q given tasks = (nodes : List (Task Dag)) → root_cids_at nodes ≡ tasks → OpensWith q given nodes

-- how the traversal ends as long as no more is opened
abbrev pub end_now : List (Task CidParts) → TraversalEnd
end_now [] = whole
end_now (open_block w cid ∷ tasks) = stopped (gone (spot_of w cid))
end_now (give_text text ∷ tasks) = end_now tasks
end_now (give_entries met ∷ tasks) = end_now tasks
end_now (stop_at miss ∷ tasks) = stopped (stop_of miss)

-- the partial DAG that is opened so far, where no more is given before the next place
pub record Shows (q : QueryParts) (given : Given) (tasks : List (Task CidParts)) : Type 0 where
  pub s : Dag
  pub opened : IsOpenedFor s q
  pub gives : traversal q s ≡ ending given (end_now tasks)

-- ---- laws

abbrev pub OpeningStarts : Type 0
OpeningStarts = (q : QueryParts) → Opening q nothing_given (start q q.root)

abbrev pub OpeningGives : Type 0
OpeningGives = (q : QueryParts) (given : Given) (tasks : List (Task CidParts)) → Opening q given tasks → Opening q (up_to_next tasks given) (tasks_then tasks)

-- a block that passes there is opened
abbrev pub OpeningOpens : Type 0
OpeningOpens =
    (q : QueryParts) (given : Given) (w : Want) (section : Section) (kind : Kind) (tasks : List (Task CidParts))
    → is_read_at q w ≡ true → IsReadAt (position_of w) section kind → Opening q given (open_block w section.cid ∷ tasks)
    → Opening q (with_place w section (text_at q w section kind) given) (tasks_of q w section kind (links_of kind) ++ tasks)

-- or a terminal of which the block alone is asked for
abbrev pub OpeningOpensAlone : Type 0
OpeningOpensAlone = (q : QueryParts) (given : Given) (w : Want) (section : Section) (tasks : List (Task CidParts))
    → is_read_at q w ≡ false → Names section.cid section.block → Opening q given (open_block w section.cid ∷ tasks)
    → Opening q (with_place w section section.block given) tasks

-- where each block is sent once, one block stands under each CID
abbrev pub OpeningShows : Type 0
OpeningShows = (q : QueryParts) (given : Given) (tasks : List (Task CidParts)) → IfOnce q.dups (HasOneBlockEach (opened_by given)) → Opening q given tasks
    → Shows q (up_to_next tasks given) (tasks_then tasks)

-- all of these
pub record OpeningLaws : Type 0 where
  pub start : OpeningStarts
  pub up_to_next : OpeningGives
  pub opened : OpeningOpens
  pub alone : OpeningOpensAlone
  pub shows : OpeningShows
